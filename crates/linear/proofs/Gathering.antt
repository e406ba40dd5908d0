-- The Linears among the objectives, gathered at the front of an array.
use mathlib.Core.Path.{◌≡◌, refl, sym, ap, ap₂, subst, ◌∙◌}
use mathlib.Core.Bool.{true, false}
use mathlib.Core.List.{List, [], ◌∷◌, ◌++◌, append-nil}
use Prim.Native.Nat.{ℕ, ◌+◌, ◌≤◌, ◌<◌}
use native.Mathlib.Omega.{arith}
use lib.Ieee.{Float}
use lib.ListN.{take, set, length, get_or}
use Rattle.std.specs.Prelude.{All, map}
use Rattle.std.specs.List.{filter}
use Rattle.std.proofs.lemmas.List.{take_more, take_more_set, length-set, length-map, map-append, get_or-map}
use Rattle.std.proofs.lemmas.List.Elements.{filter-append, All-get_or, All-cons}
use Rattle.model.specs.Lists.{joined}
use Rattle.model.specs.Problem.{is_linear}
use Rattle.model.specs.Program.{Cell}
use Rattle.model.specs.declared.Objective.{Objective}
use Rattle.model.specs.declared.Objective.TheVariants.{Time, ThermalEnergy, TotalVariationTorque, Linear}
use Rattle.linear.specs.Charges.{Long, Charged}
use Rattle.linear.specs.Parts.{FitsIn, charges_in, listed_as}
use Rattle.linear.specs.declared.parts.LinearInput.{LinearInput}
use Rattle.linear.specs.declared.linears.LinearLists.{LinearLists}

-- the first k places of the array are the Linears among the first i objectives, where these are few enough and their lists have length l
pub record Gathered (kept : List LinearLists) (os : List Objective) (i k : ℕ) : Type 0 where
  pub within : k ≤ 16
  pub fewer : k ≤ i
  pub room : length kept ≡ 16
  pub says : (l : ℕ) → i ≤ 16 → All (Long l) os → map (listed_as l) (take k kept) ≡ filter is_linear (take i os)

pub gathered_none : {kept : List LinearLists} {os : List Objective} → length kept ≡ 16 → Gathered kept os 0 0
gathered_none l = record { within = omega arith; fewer = omega arith; room = l; says = λ n m f. refl }

listed : (l : ℕ) (w : Float) (a al b bl : ℕ) → Long l (Linear w a al b bl) → Linear w a l b l ≡ Linear w a al b bl
listed l w a al b bl h = ap₂ (λ (m n : ℕ). Linear w a m b n) (sym h.0) (sym h.1)

pub gathered_more : {kept : List LinearLists} {os : List Objective} {i k : ℕ} (o : Objective) (p : LinearLists) (al bl : ℕ) → Gathered kept os i k
    → take (i + 1) os ≡ take i os ++ (o ∷ []) → ((l : ℕ) → All (Long l) os → Long l o) → o ≡ Linear p.weight p.alpha al p.beta bl → k < 16 → Gathered (set kept k p) os (i + 1) (k + 1)
gathered_more {kept} {os} {i} {k} o p al bl g t h e m =
    record {
      within = omega arith;
      fewer = omega (arith, g.fewer);
      room = length-set kept k p ∙ g.room;
      says = λ l n f.
          let linear : is_linear o ≡ true = ap is_linear e in
          let same : listed_as l p ≡ o = listed l p.weight p.alpha al p.beta bl (subst (Long l) e (h l f)) ∙ sym e in
          ap (map (listed_as l)) (take_more_set kept k p (omega (arith, m, g.room)))
          ∙ map-append (listed_as l) (take k kept) (p ∷ [])
          ∙ rw (t, filter-append is_linear (take i os) (o ∷ []), linear) (ap₂ (λ (xs : List Objective) (y : Objective). xs ++ (y ∷ [])) (g.says l (omega (arith, n)) f) same);
    }

pub gathered_past : {kept : List LinearLists} {os : List Objective} {i k : ℕ} (o : Objective) → Gathered kept os i k → take (i + 1) os ≡ take i os ++ (o ∷ []) → is_linear o ≡ false
    → Gathered kept os (i + 1) k
gathered_past {kept} {os} {i} {k} o g t h =
    record {
      within = g.within;
      fewer = omega (arith, g.fewer);
      room = g.room;
      says = λ l n f. rw (t, filter-append is_linear (take i os) (o ∷ []), h, append-nil (filter is_linear (take i os))) (g.says l (omega (arith, n)) f);
    }

pub gathered_full : {kept : List LinearLists} {os : List Objective} {i k : ℕ} → Gathered kept os i k → 16 ≤ k → Gathered kept os (i + 1) k
gathered_full g m = record { within = g.within; fewer = omega (arith, g.fewer); room = g.room; says = λ l n f. absurd (omega (arith, n, m, g.fewer)) }

-- what refusals 12 and 15 leave of an objective says how long its lists are
pub fits_long : (x : LinearInput) (o : Objective) → FitsIn x o → Long (length x.path.grid.now) o
fits_long x (Time w) h = tt
fits_long x (ThermalEnergy w start len) h = tt
fits_long x (TotalVariationTorque w start len) h = tt
fits_long x (Linear w a al b bl) h = (h.2, h.3)

pub all_long : (x : LinearInput) (os : List Objective) → All (FitsIn x) os → All (Long (length x.path.grid.now)) os
all_long x os f = λ i d l. fits_long x _ (f i d l)

pub not_linear : (o : Objective) → ((w : Float) (a al b bl : ℕ) → o ≡ Linear w a al b bl → ⊥) → is_linear o ≡ false
not_linear (Time w) h = refl
not_linear (ThermalEnergy w start len) h = refl
not_linear (TotalVariationTorque w start len) h = refl
not_linear (Linear w a al b bl) h = absurd (h w a al b bl refl)

-- an element of a list that is made from another
pub mapped_one : {A B : Type 0} (f : A → B) (P : B → Type 0) (xs : List A) (i : ℕ) (d : A) → i < length xs → All P (map f xs) → P (f (get_or xs i d))
mapped_one f P xs i d l h = subst P (get_or-map f xs i d (f d) l) (All-get_or P (map f xs) i (f d) (omega (arith, l, length-map xs f)) h)

pub mapped_more : {A B : Type 0} (f : A → B) (xs : List A) (i : ℕ) (d : A) → i < length xs → take (i + 1) (map f xs) ≡ take i (map f xs) ++ (f (get_or xs i d) ∷ [])
mapped_more {A} {B} f xs i d l =
    take_more (map f xs) i (f d) (omega (arith, l, length-map xs f)) ∙ ap (λ (x : B). take i (map f xs) ++ (x ∷ [])) (get_or-map f xs i d (f d) l)

-- one Linear alone, by the places of its lists
pub one_fits : (x : LinearInput) (p : LinearLists) (al bl : ℕ) → FitsIn x (Linear p.weight p.alpha al p.beta bl) → All (FitsIn x) (map (listed_as (length x.path.grid.now)) (p ∷ []))
one_fits x p al bl h =
    let l = length x.path.grid.now in
    All-cons (FitsIn x) (listed_as l p) [] (subst (FitsIn x) (sym (listed l p.weight p.alpha al p.beta bl (h.2, h.3))) h) (λ i d m. absurd (omega (arith, m)))

pub one_charged : (x : LinearInput) (p : LinearLists) (al bl : ℕ) {r y : Float} {c : ℕ} → FitsIn x (Linear p.weight p.alpha al p.beta bl)
    → Charged r y c (joined (charges_in x) (map (listed_as (length x.path.grid.now)) (p ∷ []))) → Charged r y c (charges_in x (Linear p.weight p.alpha al p.beta bl))
one_charged x p al bl {r} {y} {c} h g =
    let l = length x.path.grid.now in
    let e : joined (charges_in x) (listed_as l p ∷ []) ≡ charges_in x (Linear p.weight p.alpha al p.beta bl) =
    append-nil (charges_in x (listed_as l p)) ∙ ap (λ (o : Objective). charges_in x o) (listed l p.weight p.alpha al p.beta bl (h.2, h.3)) in
    subst (λ (ks : List Cell). Charged r y c ks) e g
