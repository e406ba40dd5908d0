use Rattle.std.proofs.Common.{arith, ap}
use Rattle.model.specs.declared.FourCounts.{FourCounts}
use Rattle.sizing.proofs.Additions.{one_more, all_counted}
use Rattle.sizing.proofs.measures.Measures.objectives.Goals as goal

pub loop-o-preserved : goal.loop-o-preserved
loop-o-preserved c = (
  (λ p e. one_more p _ _ _ (c.loop-o.invariant.0 p e) _ c.loop-o-test.true (c.objective.ensures.0 p e) c.sum-t.ensures),
  omega (arith, c.loop-o.invariant.1, c.objective.ensures.1, ap (λ (x : FourCounts). x.entries) c.sum-t.ensures, ap (λ (x : FourCounts). x.rows) c.sum-t.ensures, ap (λ (x : FourCounts). x.cones) c.sum-t.ensures, ap (λ (x : FourCounts). x.columns) c.sum-t.ensures),
)

pub returns : goal.returns
returns c = ((λ p e. all_counted p _ _ _ (c.loop-o.invariant.0 p e) c.loop-o-test.false), omega (arith, c.requires, c.loop-o.invariant.1))
