use Rattle.std.proofs.Common.{arith}
use Rattle.model.specs.Counts.{standard_counts}
use Rattle.sizing.proofs.measures.Measures.standard.Goals as goal

pub returns : goal.returns
unfolding standard_counts
returns c = (λ p e. rw (e.n, e.m, e.ends, e.uppers, e.acc, e.jerk), omega (arith, c.args.self.bounded))
