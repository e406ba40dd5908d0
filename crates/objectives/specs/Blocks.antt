-- Blocks, one after another, as one.
use Rattle.std.specs.Prelude.{List, ◌++◌}
use Rattle.model.specs.Lists.{joined}
use Rattle.model.specs.Program.{Block}

abbrev pub pair : Block → Block → Block
pair x y = record { cones = x.cones ++ y.cones; cost = x.cost ++ y.cost; charges = x.charges ++ y.charges }

abbrev pub together : List Block → Block
together bs = record { cones = joined (λ b. b.cones) bs; cost = joined (λ b. b.cost) bs; charges = joined (λ b. b.charges) bs }
