-- Answer 40: it comes exactly if a record that counts has an unknown kind, with the lowest such index as its place.
use Prim.Native.Nat.{ℕ, min, ◌≤◌, ◌<◌}
use native.Mathlib.Omega.{arith}
use mathlib.Core.Path.{◌≡◌}
use mathlib.Core.Logic.{◌↔◌}
use mathlib.Core.Bool.{Bool}
use mathlib.Core.List.{List}
use lib.ListN.{get_or}
use lib.Dec.{ltb}
use borrow.Author.Tests.{ltb-false, lt-ltb, le-ltb}
use Rattle.model.specs.Verdicts.{accepted, refused, itself}
use Rattle.model.specs.declared.rule.Rule.TheVariants.{UnknownKind}
use Rattle.model.proofs.Passes.{lowest_passes}
use Rattle.model.proofs.Room.{lowest_none, lowest_first}
use Rattle.copp3_c.specs.declared.ObjectiveRecord.{ObjectiveRecord}
use Rattle.copp3_c.specs.Exported.{blank, kind_refusal}

module _ (count : ℕ) (items : List ObjectiveRecord) where
  abbrev kind : ℕ → ℕ
  kind i = (get_or items i blank).kind

  abbrev test : ℕ → Bool
  test i = ltb 3 (kind i)

  -- every record that counts has one of the four kinds
  abbrev pub AllKnown : Type 0
  AllKnown = (i : ℕ) → i < min count 16 → kind i ≤ 3

  -- record i is the first that has not
  pub record Unknown (i : ℕ) : Type 0 where
    pub counts : i < min count 16
    pub unknown : 3 < kind i
    pub earlier : (j : ℕ) → j < i → kind j ≤ 3

  pub kind_unknown : (i : ℕ) → Unknown i → kind_refusal count items ≡ refused UnknownKind i
  unfolding kind_refusal
  kind_unknown i u =
      lowest_first test UnknownKind itself 0 (min count 16) i (omega (arith, u.counts))
      (record { above = omega arith; passes = lt-ltb 3 (kind i) u.unknown; earlier = λ j _ lt. le-ltb 3 (kind j) (u.earlier j lt) })

  pub kinds_known : (kind_refusal count items ≡ accepted) ↔ AllKnown
  unfolding kind_refusal
  kinds_known = (
    λ e i lt. ltb-false 3 (kind i) (lowest_passes UnknownKind itself test 0 (min count 16) e i (omega arith) (omega arith)),
    λ h. lowest_none test UnknownKind itself 0 (min count 16) (λ i _ lt. le-ltb 3 (kind i) (h i (omega arith))),
  )
