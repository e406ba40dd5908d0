-- The record of a refusal to tell an owner has the refusal's number.
use Prim.Native.Nat.{ℕ}
use mathlib.Core.Path.{◌≡◌, refl}
use Rattle.std.specs.Prelude.{Err}
use Rattle.model.specs.OwnerAnswers.{told_owner}
use Rattle.model.specs.declared.OwnerRefusal.{OwnerRefusal}
use Rattle.model.specs.declared.OwnerRefusal.TheVariants.{IndexTooShort, NotCovered}
use Rattle.copp3_c.specs.Exported.{owner_record}

pub refused_owner : (r : OwnerRefusal) {k : ℕ} → k ≡ (told_owner (Err r)).number → record { number = k; place = 0; owner = 0 } ≡ owner_record (told_owner (Err r))
unfolding owner_record
refused_owner IndexTooShort e = rw e refl
refused_owner NotCovered e = rw e refl
