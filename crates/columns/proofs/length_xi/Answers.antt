use Rattle.std.proofs.Common.{arith}
use Rattle.model.specs.Problem.{L}
use Rattle.columns.proofs.Xi.{stations}
use Rattle.columns.proofs.length_xi.Goals as goal

pub returns : goal.returns
unfolding L
returns c = stations (omega (arith, c.args.path.sized)) c.max.ensures c.max-2.ensures
