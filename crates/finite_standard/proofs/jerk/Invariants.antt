use Rattle.std.proofs.Common.{◌≡◌, ◌+◌, ◌-◌, ◌≤◌, take}
use Rattle.model.specs.Lists.{total}
use Rattle.model.specs.Problem.{stop}
use Rattle.model.specs.Standard.{jerk_rows_at}
use Rattle.buffers.specs.Paths.{path_of}
use Rattle.acc_jerk.specs.Tables.{jerk_of}
use Rattle.finiteness.specs.Finite.{Each, finite_bands}
use Rattle.finite_standard.proofs.jerk.Given as goal

abbrev pub invariant-loop-k : goal.invariant-loop-k
invariant-loop-k l =
    let q = path_of l.rows.path in
    (l.first ≤ l.k) × (l.k ≤ stop q + 1) × (l.from ≡ total (take l.k l.rows.tables.rows.now)) × Each l.ok (λ k. finite_bands (jerk_rows_at q (jerk_of l.rows.tables) k)) l.first (l.k - l.first)
