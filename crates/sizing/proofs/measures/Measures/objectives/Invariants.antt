use Prim.Native.Nat.{◌*◌}
use mathlib.Core.Path.{◌≡◌}
use lib.ListN.{drop}
use Rattle.model.specs.Problem.{Problem}
use Rattle.model.specs.Counts.{objectives_counts, ◌plus◌}
use Rattle.sizing.specs.Bounds.{Few, objective_most}
use Rattle.sizing.specs.Measured.{MeasuredOf}
use Rattle.sizing.proofs.measures.Measures.objectives.Given as goal

abbrev pub invariant-loop-o : goal.invariant-loop-o
invariant-loop-o l =
    ((p : Problem) → MeasuredOf p l.self → objectives_counts p l.objectives ≡ (l.t plus objectives_counts p (drop l.o-index l.objectives)))
    × Few (l.o-index * objective_most) l.t
