use Rattle.std.proofs.Common.{◌≡◌, ◌-◌, ◌≤◌, take}
use Rattle.model.specs.Lists.{total}
use Rattle.model.specs.Problem.{stop}
use Rattle.model.specs.Standard.{acceleration_rows}
use Rattle.buffers.specs.Buffers.{Lists}
use Rattle.buffers.specs.Paths.{path_of}
use Rattle.acc_jerk.specs.Tables.{acc_of}
use Rattle.acc_jerk.proofs.clarabel_2order_constraint_topp3.Given as goal

abbrev pub invariant-loop-k : goal.invariant-loop-k
invariant-loop-k l =
    let q = path_of l.rows.path in
    (l.first ≤ l.k) × (l.k ≤ stop q) × (l.from ≡ total (take l.k l.rows.tables.rows.now)) × Lists l.initial.u l.initial.out l.u l.out (acceleration_rows q (acc_of l.rows.tables)) l.first (l.k - l.first) 256
