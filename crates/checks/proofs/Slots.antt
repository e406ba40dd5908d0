-- A loop over the objectives: the first that is refused decides.
use Prim.Native.Nat.{ℕ, ◌+◌, ◌≤◌, ◌<◌}
use native.Mathlib.Numerals.{add-one}
use native.Mathlib.Omega.{arith}
use mathlib.Core.Path.{◌≡◌, refl, sym, ◌∙◌}
use mathlib.Core.Bool.{Bool, true, false, ◌||◌}
use mathlib.Core.List.{List, [], ◌∷◌}
use lib.ListN.{length, take, drop, get_or, drop_of_length-le}
use lib.Seq.{drop-cons, get_or-take, length-take-le}
use lib.Ieee.{Float, nan}
use Rattle.model.specs.Numbers.{unfit}
use Rattle.model.specs.Problem.{some, weight}
use Rattle.model.specs.Verdicts.{Verdict, accepted, ◌then◌, refuse}
use Rattle.model.specs.Refusals.{lists_refusal, objectives_refusal}
use Rattle.std.specs.Prelude.{Err}
use Rattle.model.specs.declared.Refusal.{Refusal}
use Rattle.model.specs.declared.Objective.{Objective}
use Rattle.model.specs.declared.Objective.TheVariants.{Time}
use Rattle.model.specs.declared.rule.Rule.TheVariants.{WeightUnfit}
use Rattle.checks.proofs.Chain.{then_assoc, then_ok, then_err}

module _ (pool : List Float) (d stations : ℕ) (os : List Objective) (i : ℕ) (so_far : objectives_refusal pool d stations 0 os ≡ objectives_refusal pool d stations i (drop i os)) where
  abbrev item : Objective → Verdict
  item o = refuse WeightUnfit i (unfit (weight o)) then lists_refusal pool d stations i o

  step : (o : Objective) → i < length os → objectives_refusal pool d stations 0 os ≡ (item (get_or os i o) then objectives_refusal pool d stations (i + 1) (drop (i + 1) os))
  unfolding objectives_refusal
  step o h = so_far ∙ rw (drop-cons os i o h, add-one i, then_assoc)

  pub one_refuses : (o : Objective) {v r : Verdict} → i < length os → v ≡ item (get_or os i o) → (e : Refusal) → v ≡ Err e → r ≡ Err e → r ≡ objectives_refusal pool d stations 0 os
  one_refuses o h f e g k = then_err _ f e g k ∙ sym (step o h)

  pub one_passes : (o : Objective) {v : Verdict} → i < length os → v ≡ item (get_or os i o) → v ≡ accepted → objectives_refusal pool d stations 0 os ≡ objectives_refusal pool d stations (i + 1) (drop (i + 1) os)
  one_passes o h f g = step o h ∙ sym (then_ok f g)

  pub all_pass : length os ≤ i → accepted ≡ objectives_refusal pool d stations 0 os
  unfolding objectives_refusal
  all_pass h = sym (so_far ∙ rw (drop_of_length-le os h))

-- `some`, by a flag that is raised on the way over the first count of the slots
abbrev pub slot : List Objective → ℕ → Objective
slot slots i = get_or slots i (Time nan)

module _ (slots : List Objective) (count : ℕ) (full : count ≤ length slots) where
  pub next : (i : ℕ) → i < count → drop i (take count slots) ≡ slot slots i ∷ drop (i + 1) (take count slots)
  next i h =
      let e : i < length (take count slots) = omega (arith, length-take-le count slots full) in
      rw (add-one i, drop-cons (take count slots) i (Time nan) e, get_or-take count slots i (Time nan) h)

  pub last : (i : ℕ) → count ≤ i → drop i (take count slots) ≡ []
  last i h =
      let g : length (take count slots) ≤ i = omega (arith, length-take-le count slots full) in
      drop_of_length-le (take count slots) g

joined : (a b c : Bool) → ((a || b) || c) ≡ (a || (b || c))
joined true b c = refl
joined false b c = refl

nothing : (a : Bool) → (a || false) ≡ a
nothing true = refl
nothing false = refl

module _ (f : Objective → Bool) (slots : List Objective) (count : ℕ) (full : count ≤ length slots) (i : ℕ) (flag : Bool) (so_far : some f (take count slots) ≡ (flag || some f (drop i (take count slots)))) where
  pub some_more : {b : Bool} → i < count → b ≡ f (slot slots i) → some f (take count slots) ≡ ((flag || b) || some f (drop (i + 1) (take count slots)))
  some_more h e = so_far ∙ rw (next slots count full i h, e, joined)

  pub some_all : count ≤ i → flag ≡ some f (take count slots)
  some_all h = sym (so_far ∙ rw (last slots count full i h, nothing))
