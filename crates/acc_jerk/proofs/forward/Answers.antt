use borrow.Author.Tests.{lt-ltb, le-ltb}
use native.Mathlib.Omega.{arith}
use Rattle.model.specs.Problem.{stop}
use Rattle.model.specs.Standard.{forward_rows}
use Rattle.buffers.proofs.Laws.{wrote_skip}
use Rattle.buffers.specs.Paths.{path_of}
use Rattle.acc_jerk.proofs.forward.Goals as goal

pub returns-then-stop-k : goal.returns-then-stop-k
returns-then-stop-k c = rw (le-ltb c.args.station.k (stop (path_of c.args.station.rows.path)) (omega (arith, c.stop.ensures, c.if-stop-k.true))) wrote_skip

pub invariant_of-group : goal.invariant_of-group
unfolding stop
invariant_of-group c = record { inside = omega (arith, c.stop.ensures, c.if-stop-k.false, c.args.station.rows.path.sized) }

pub returns : goal.returns
unfolding forward_rows
returns c = rw (lt-ltb c.args.station.k (stop (path_of c.args.station.rows.path)) (omega (arith, c.stop.ensures, c.if-stop-k.false))) c.group.ensures
