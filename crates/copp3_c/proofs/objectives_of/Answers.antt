use Rattle.std.proofs.Common.{rules}
use Rattle.copp3_c.specs.Exported.{objective_of, blank}
use Rattle.copp3_c.proofs.Records.{mapped}
use Rattle.copp3_c.proofs.objectives_of.Goals as goal

pub returns : goal.returns
returns c = mapped _ _ objective_of c.args.items.now blank (λ i y t k. search rules) _ _ c.told-items c.from_fn.ensures.items
