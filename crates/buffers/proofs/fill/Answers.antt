use Rattle.std.proofs.Common.{arith, rules}
use Rattle.buffers.proofs.Laws.{fills_none, fills_more, fills_all}
use Rattle.buffers.proofs.fill.Goals as goal

pub loop-i-init : goal.loop-i-init
loop-i-init g c = (omega arith, omega arith, λ f h. fills_none)

pub loop-i-preserved : goal.loop-i-preserved
loop-i-preserved g c = (omega arith, search rules, λ f h. fills_more (c.loop-i.invariant.2 f h) c.put-u.ensures (h c.loop-i.i _ (search rules) c.term_at.ensures))

pub returns : goal.returns
returns g c = λ f h. fills_all (c.loop-i.invariant.2 f h) (search rules) (search rules)
