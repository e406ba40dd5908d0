use Prim.Native.Nat.{◌-◌, ◌≤◌}
use Rattle.model.specs.Problem.{stop}
use Rattle.model.specs.Standard.{interval_rows}
use Rattle.buffers.specs.Paths.{path_of}
use Rattle.buffers.specs.Buffers.{Overs}
use Rattle.first_order.proofs.clarabel_interval_a_constraint_topp3.Given as goal

abbrev pub invariant-loop-k : goal.invariant-loop-k
invariant-loop-k l =
    let q = path_of l.path in
    (q.N0 ≤ l.k) × (l.k ≤ stop q) × Overs l.initial.u l.initial.out l.u l.out (interval_rows q) q.N0 (l.k - q.N0) 2
