-- The eight arrays whose fronts are lent to the assembly.
use Rattle.std.specs.Prelude.{ℕ, take}
use Rattle.model.specs.Answers.{Buffers, buffers}
use Rattle.replay_list.specs.declared.arrays.Arrays.{Arrays}

abbrev pub held_in : Arrays → Buffers
held_in a = buffers a.rows.now a.columns.now a.values.now a.right.now a.kinds.now a.dimensions.now a.cost.now a.index.now

-- the first n k places of array k
unfoldable pub fronts : (ℕ → ℕ) → Buffers → Buffers
fronts n b =
    buffers (take (n 0) b.rows) (take (n 1) b.columns) (take (n 2) b.values) (take (n 3) b.right) (take (n 4) b.kinds) (take (n 5) b.dimensions) (take (n 6) b.cost) (take (n 7) b.index)
