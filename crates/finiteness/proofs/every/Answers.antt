use Rattle.std.proofs.Common.{arith, rules}
use Rattle.finiteness.proofs.Laws.{each_start, each_next, each_all}
use Rattle.finiteness.proofs.every.Goals as goal

pub loop-k-init : goal.loop-k-init
loop-k-init g c = (omega arith, omega arith, λ f h. each_start)

pub loop-k-preserved : goal.loop-k-preserved
loop-k-preserved g c =
    let k = c.loop-k.k in (
      omega (arith, c.loop-k.invariant.0),
      omega (arith, c.loop-k-test),
      λ f h. each_next c.loop-k.invariant.0 (c.loop-k.invariant.2 f h) (h k _ c.loop-k.invariant.0 (search rules) c.test.ensures) c.both-ok.ensures,
    )

pub returns : goal.returns
returns g c = λ f h. each_all (c.loop-k.invariant.2 f h) (omega (arith, c.loop-k.invariant.1)) (omega (arith, c.loop-k-test))
