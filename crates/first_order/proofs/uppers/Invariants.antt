use Prim.Native.Nat.{◌+◌, ◌-◌, ◌≤◌}
use Rattle.model.specs.Numbers.{at}
use Rattle.model.specs.Problem.{stop}
use Rattle.model.specs.Standard.{upper_row}
use Rattle.buffers.specs.Paths.{path_of}
use Rattle.buffers.specs.Buffers.{Overs}
use Rattle.first_order.proofs.uppers.Given as goal

abbrev pub invariant-loop-k : goal.invariant-loop-k
invariant-loop-k l =
    let q = path_of l.limits.path in
    (q.N0 + 1 ≤ l.k) × (l.k ≤ stop q) × Overs l.initial.u l.initial.out l.u l.out (λ k. upper_row q k (at l.limits.amax.now k)) (q.N0 + 1) (l.k - (q.N0 + 1)) 1
