-- What `show` writes of a problem: the page of what the definition says of it.
use Rattle.std.specs.Prelude.{ℕ, ◌≡◌, List, replicate}
use Rattle.model.specs.Numbers.{+0}
use Rattle.model.specs.Answers.{Buffers, buffers, answered, assembly}
use Rattle.model.specs.Verdicts.{Answer}
use Rattle.shown_problems.specs.Problems.{problem_at, stations_at, objectives_at, count_at}
use Rattle.text.specs.Text.{Says}
use Rattle.listing.specs.Page.{page_of}

-- the buffers that are lent to the assembly
unfoldable pub lent_here : Buffers
lent_here =
    buffers (replicate 160 0) (replicate 160 0) (replicate 160 +0) (replicate 96 +0) (replicate 32 0) (replicate 32 0) (replicate 32 +0)
    (replicate 64 0)

-- the page of an answer and buffers that are the assembly's of problem i
pub record Shown (i : ℕ) (old : List ℕ) (new : List ℕ) (next : ℕ) : Type 0 where
  pub answer : Answer
  pub after : Buffers
  pub assembled : answered answer after ≡ assembly (problem_at i) lent_here
  pub says : Says (page_of (stations_at i) (objectives_at i) (count_at i) answer after) old 0 new next
