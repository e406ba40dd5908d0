-- Request 6: "The tally record gains the owner being written." What is stored of an owner in the index.
use Rattle.std.specs.Prelude.{List, ◌≡◌, ℕ, ◌+◌, ◌-◌, ◌*◌}
use Rattle.std.proofs.lemmas.List.Edits.{sets}
use Rattle.model.specs.Counts.{four_counts}
use Rattle.model.specs.Owners.{Owner, eight}
use Rattle.model.specs.declared.FourCounts.{FourCounts}
use Rattle.model.specs.declared.Tally.{Tally}
use Rattle.model.specs.Lent.{SameBuffers}
use Rattle.model.specs.declared.Buffers.{Buffers}
use Rattle.buffers.specs.Buffers.{state_of}

abbrev pub counts_of : Tally → FourCounts
counts_of t = four_counts t.entries t.rows.at t.cones t.columns.at

-- the owner whose block began at tally t and ended at u
abbrev pub owner_between : Tally → Tally → Owner
owner_between t u =
    record {
      first = counts_of t;
      size = four_counts (u.entries - t.entries) (u.rows.at - t.rows.at) (u.cones - t.cones) (u.columns.at - t.columns.at);
    }

-- the tally while another owner is written
abbrev pub reowned : ℕ → Tally → Tally
reowned k t = record { entries = t.entries; rows = t.rows; cones = t.cones; columns = t.columns; owner = k }

-- its eight numbers at its places of the index, and then the next owner
pub record StoresOwner (t u : Tally) (x : List ℕ) (t' : Tally) (x' : List ℕ) : Type 0 where
  pub says : x' ≡ sets x (8 * t.owner) (eight (owner_between t u))
  pub next : t' ≡ reowned (t.owner + 1) u

-- the same of the buffers that were lent, of which the others stay as they are
pub record PutsOwner (t u : Tally) (b : Buffers) (t' : Tally) (b' : Buffers) : Type 0 where
  pub same : SameBuffers b b'
  pub stored : StoresOwner t u b.index.now t' b'.index.now
  pub others : state_of t' b' ≡ state_of t' b
