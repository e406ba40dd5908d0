-- What the loop of `kind_check` has found before record i, and what it answers at a record of an unknown kind.
use Prim.Native.Nat.{ℕ, ◌+◌, ◌≤◌, ◌<◌, min}
use native.Mathlib.Omega.{arith}
use mathlib.Core.Path.{◌≡◌, refl, ap, ◌∙◌}
use mathlib.Core.Bool.{Bool}
use mathlib.Core.List.{List}
use lib.ListN.{get_or, length, take, length-take}
use lib.Dec.{ltb}
use lib.Seq.{get_or-take}
use Rattle.std.proofs.lemmas.List.{get_or_default}
use Rattle.std.specs.Prelude.{Err}
use Rattle.model.specs.Verdicts.{Verdict, accepted, itself, refuse}
use Rattle.model.specs.declared.Refusal.{Refusal}
use Rattle.model.specs.declared.rule.Rule.TheVariants.{UnknownKind}
use Rattle.checks.proofs.Search.{rest, from_zero, one_refuses, one_passes, ended}
use Rattle.copp3_c.specs.declared.ObjectiveRecord.{ObjectiveRecord}
use Rattle.copp3_c.specs.Exported.{blank, kind_refusal}

-- whether record j has an unknown kind, as `kind_refusal` tests it
abbrev pub unknown : List ObjectiveRecord → ℕ → Bool
unknown items j = ltb 3 (get_or items j blank).kind

-- no record before i, of those that count, has an unknown kind
pub record NoneBefore (count : ℕ) (items : List ObjectiveRecord) (i : ℕ) : Type 0 where
  pub so_far : kind_refusal count items ≡ rest UnknownKind itself (unknown items) i (min count 16)

pub none_yet : (count : ℕ) (items : List ObjectiveRecord) → NoneBefore count items 0
unfolding kind_refusal
none_yet count items = record { so_far = from_zero UnknownKind itself (unknown items) (min count 16) }

-- the first m records count
module _ (count : ℕ) (items : List ObjectiveRecord) (i : ℕ) (n : NoneBefore count items i) {m : ℕ} (e : m ≡ min count 16) where
  -- the next is record i
  module _ (d : ObjectiveRecord) {v : Verdict} (lt : i < length (take m items)) (f : v ≡ refuse UnknownKind i (ltb 3 (get_or (take m items) i d).kind)) where
    counts : i < min count 16
    counts = omega (arith, length-take m items)

    same : ltb 3 (get_or (take m items) i d).kind ≡ unknown items i
    same =
        ap (λ (r : ObjectiveRecord). ltb 3 r.kind)
        (get_or-take m items i d (omega (arith, length-take m items)) ∙ get_or_default items i d blank (omega (arith, length-take m items)))

    pub unknown_refused : {u : Verdict} (x : Refusal) → v ≡ Err x → u ≡ Err x → u ≡ kind_refusal count items
    unknown_refused = one_refuses UnknownKind itself (unknown items) i (min count 16) (kind_refusal count items) n.so_far counts f refl same

    pub known_next : v ≡ accepted → NoneBefore count items (i + 1)
    known_next g = record { so_far = one_passes UnknownKind itself (unknown items) i (min count 16) (kind_refusal count items) n.so_far counts f refl same g }

  pub all_known : length items ≡ 16 → length (take m items) ≤ i → accepted ≡ kind_refusal count items
  all_known l h = ended UnknownKind itself (unknown items) i (min count 16) (kind_refusal count items) n.so_far (omega (arith, length-take m items))
