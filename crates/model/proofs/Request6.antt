-- Request 6, about the definitions and about what the assembly writes. The comments quote it.
use Prim.Native.Nat.{ℕ, suc, ◌+◌, ◌≤◌, ◌<◌}
use native.Mathlib.Omega.{arith}
use mathlib.Core.Path.{◌≡◌}
use mathlib.Core.Bool.{false}
use lib.Ieee.{Float, nan}
use lib.ListN.{length, get_or, drop}
use Rattle.model.specs.Problem.{Problem, objectives, is_linear}
use Rattle.model.specs.Program.{nothing}
use Rattle.model.specs.Assembled.{blocks}
use Rattle.model.specs.Counts.{counts}
use Rattle.model.specs.Owners.{owners, index}
use Rattle.model.specs.Answers.{Buffers, written, assembly}
use Rattle.model.specs.Reweighed.{reweighed}
use Rattle.model.specs.declared.Objective.TheVariants.{Time}
use Rattle.model.proofs.All.{All}
use Rattle.model.proofs.Usable.{usable, usable_sizes}
use Rattle.model.proofs.Room.{Enough, HasIndex}
use Rattle.model.proofs.Demand3.{Acceptable, accepted_lem, demand3}
use Rattle.model.proofs.Owned.{none, Owned, owned, blocks_number}
use Rattle.model.proofs.Slices.{Sliced, sliced}
use Rattle.model.proofs.OwnersTold.{OwnersTold, owners_told}
use Rattle.model.proofs.Reweighed.{Unmoved, weight_alone}
use Rattle.model.proofs.Fits.{most_counts}
use Rattle.model.proofs.IndexFits.{index_small}

-- For every accepted problem; owner 0 has the standard rows, owner 1 the root stage, owner 2 + i objective i
pub record Request6 (p : Problem) : Type 0 where
  -- "The ranges of the owners cover all rows, entries and cones, and all columns from 2n+2, without overlap."
  pub covers : Owned p
  -- and what stands in them is that owner's block
  pub holds : (k : ℕ) → k < length (objectives p) + 2 → Sliced p (get_or (owners p) k none) (get_or (blocks p) k nothing)
  -- "answer for any row or any column from xi upward": by the index that an assembly has written
  pub answers : (b : Buffers) → HasIndex p b → Enough (counts p) b → OwnersTold p (assembly p b).buffers.index
  -- "two accepted problems that differ only in the weight of one objective other than Linear have equal entries, right side and cones, and equal cost outside that
  -- owner's columns"; whether the second is accepted does not matter
  pub weight : (i : ℕ) (w : Float) → i < length (objectives p) → is_linear (get_or (objectives p) i (Time nan)) ≡ false → Unmoved p (reweighed p i w) (2 + i)
  -- "all numbers of the index grow from 32 to 64 bits": at most the most entries, 470482434
  pub fits : All (λ x. x ≤ most_counts.entries) (index p)

pub request6 : (p : Problem) → Acceptable p → Request6 p
unfolding written
request6 p ok =
    let passed = accepted_lem p ok in
    record {
      covers = owned p;
      holds = λ k h. sliced p (usable_sizes p (usable p passed)) k (omega (arith, blocks_number p));
      answers = λ b x h. rw ((demand3 p ok).success b x h) (owners_told p (drop (length (index p)) b.index));
      weight = λ i w known other. let e : 2 + i ≡ suc (suc i) = omega arith in rw e (weight_alone p i w known other);
      fits = index_small p passed;
    }
