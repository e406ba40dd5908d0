-- The assembled program as one block, and the tally before it and after it.
use Rattle.std.specs.Prelude.{◌≡◌, List, [], ℕ, ◌+◌, length}
use Rattle.std.proofs.lemmas.List.Edits.{sets}
use Rattle.model.specs.Problem.{Problem, objectives}
use Rattle.model.specs.Program.{Block}
use Rattle.model.specs.Assembled.{cones, entries, right_side, cost}
use Rattle.model.specs.Lent.{SameBuffers}
use Rattle.model.specs.declared.Buffers.{Buffers}
use Rattle.model.specs.Owners.{index}
use Rattle.model.specs.declared.Tally.{Tally}
use Rattle.buffers.specs.Buffers.{State, state_of, tally_of, Built}
use Rattle.buffers.specs.Owned.{reowned}
use Rattle.objectives.specs.Owned.{tallied}

-- all cones and the cost of all columns; what objectives charge is in the cost
abbrev pub whole : Problem → Block
whole p = record { cones = cones p; cost = cost p; charges = [] }

-- nothing is written but the cost of k columns
abbrev pub start_at : ℕ → Tally
start_at k = tally_of 0 0 0 k 0

-- the tally after it: the four counts and the number of owners
abbrev pub finished : Problem → Tally
finished p =
    tally_of (length (entries p)) (length (right_side p)) (length (cones p)) (length (cost p)) (length (objectives p) + 2)

-- all is built, the owner of the tally has moved on, and the index stands in x' from its front on
pub record Complete (s s' : State) (x x' : List ℕ) (p : Problem) (b : ℕ) : Type 0 where
  pub built : Built s (tallied (reowned s.tally.owner s'.tally) s') (whole p) b
  pub index : x' ≡ sets x 0 (index p)
  pub owner : s'.tally.owner ≡ length (objectives p) + 2

-- the same of the buffers that were lent
pub record Completes (t : Tally) (b : Buffers) (t' : Tally) (b' : Buffers) (p : Problem) (most : ℕ) : Type 0 where
  pub same : SameBuffers b b'
  pub complete : Complete (state_of t b) (state_of t' b') b.index.now b'.index.now p most
