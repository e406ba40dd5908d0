-- What storing an owner's eight numbers leaves of the index. Assumes nothing.
use mathlib.Core.Path.{◌≡◌, ap, ◌∙◌}
use mathlib.Core.List.{List}
use Prim.Native.Nat.{ℕ, ◌*◌}
use lib.ListN.{length}
use lib.Seq.{length-sets}
use Rattle.model.specs.Owners.{eight}
use Rattle.model.specs.declared.Tally.{Tally}
use Rattle.buffers.specs.Owned.{owner_between, StoresOwner}

pub owner_long : {t u t' : Tally} {x x' : List ℕ} → StoresOwner t u x t' x' → length x' ≡ length x
owner_long {t} {u} {x} p = ap length p.says ∙ length-sets x (8 * t.owner) (eight (owner_between t u))
