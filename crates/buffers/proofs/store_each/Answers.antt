use Rattle.std.proofs.Common.{arith, rules, refl}
use Rattle.buffers.proofs.Laws.{stored_more, stored_all}
use Rattle.buffers.proofs.store_each.Goals as goal

pub loop-i-init : goal.loop-i-init
loop-i-init g c = (omega arith, λ f h. refl)

pub loop-i-preserved : goal.loop-i-preserved
loop-i-preserved g c = (omega arith, λ f h. stored_more c.args.xs.now c.args.at f c.loop-i.i (c.loop-i.invariant.1 f h) c.store.ensures (h c.loop-i.i _ (search rules) c.value_at.ensures))

pub returns : goal.returns
returns g c = λ f h. stored_all c.args.xs.now c.args.at f c.loop-i.i {m = c.args.count} (c.loop-i.invariant.1 f h) (search rules) (search rules)
