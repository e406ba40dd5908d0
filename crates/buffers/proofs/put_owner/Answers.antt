use Rattle.std.proofs.Common.{rules, refl, get_or}
use Rattle.model.specs.Owners.{eight}
use Rattle.buffers.specs.Owned.{owner_between}
use Rattle.buffers.proofs.put_owner.Goals as goal

pub returns : goal.returns
returns c =
    let stored = c.store_each.ensures (λ i. get_or (eight (owner_between c.args.t c.args.u)) i 0) (λ i x lt e. search rules) in
    record { same = search rules; stored = record { says = stored; next = refl }; others = refl }
