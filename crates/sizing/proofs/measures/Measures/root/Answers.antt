use Rattle.std.proofs.Common.{arith, sym, ◌∙◌}
use Rattle.model.specs.Counts.{root_counts}
use Rattle.sizing.proofs.Additions.{no_counts}
use Rattle.sizing.proofs.measures.Measures.root.Goals as goal

pub returns-then-present : goal.returns-then-present
unfolding root_counts
returns-then-present c = (λ p e f. rw (sym f ∙ c.if-present.true, e.l), omega (arith, c.args.self.bounded))

pub returns-else-present : goal.returns-else-present
unfolding root_counts
returns-else-present c = (λ p e f. rw (sym f ∙ c.if-present.false) (no_counts c.default.ensures), omega (arith, c.default.ensures))
