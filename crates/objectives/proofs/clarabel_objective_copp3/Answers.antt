use Rattle.std.proofs.Common.{arith}
use Rattle.objectives.proofs.Owned.{owns_none, owns_more, owned_owner, built_grows}
use Rattle.objectives.proofs.clarabel_objective_copp3.Goals as goal

pub loop-o-init : goal.loop-o-init
loop-o-init c = (omega arith, owns_none)

pub put_owner-u-requires : goal.put_owner-u-requires
put_owner-u-requires c =
    let p = c.requires in
    let g = built_grows c.one_objective-w.ensures.built in
    (g.0, g.1, g.2, g.3, omega (arith, p.1, p.2, c.loop-o-test, owned_owner c.loop-o.invariant.1.owned))

pub loop-o-preserved : goal.loop-o-preserved
loop-o-preserved c =
    let more = c.loop-o-test in (omega (arith, more), owns_more c.loop-o.invariant.1 c.one_objective-w.ensures c.put_owner-u.ensures (omega (arith, more)))
