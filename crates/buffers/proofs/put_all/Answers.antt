use Rattle.std.proofs.Common.{rules, arith}
use Rattle.std.proofs.lemmas.List.{take_more}
use Rattle.buffers.proofs.Laws.{columns_none, columns_snoc}
use Rattle.buffers.proofs.put_all.Goals as goal

pub loop-p-init : goal.loop-p-init
loop-p-init g c = (omega arith, omega arith, columns_none)

pub loop-p-preserved : goal.loop-p-preserved
loop-p-preserved g c = (search rules, search rules, columns_snoc c.args.terms c.loop-p.p-index c.loop-p.invariant.2 c.put-u.ensures (take_more c.args.terms c.loop-p.p-index _ (search rules)))
