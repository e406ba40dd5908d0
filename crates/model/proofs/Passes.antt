-- What a check that passes tells. The laws are equivalences, so that `simp (then_passes, refuse_passes) at ok` turns acceptance into all its facts.
use Prim.Native.Nat.{ℕ, zero, suc, ◌+◌, ◌≤◌, ◌<◌}
use native.Mathlib.Omega.{arith}
use native.Mathlib.Decide.{ℕ_discrete}
use mathlib.Core.Path.{◌≡◌, refl}
use mathlib.Core.Logic.{◌↔◌, ◌≢◌}
use mathlib.Core.Bool.{Bool, true, false, not, ◌&&◌, ◌||◌, false≢true}
use lib.Dec.{ltb, leb, eqb}
use borrow.Author.Tests.{ltb-false, leb-false, eqb-true, eqb-false, not-false, le-ltb, lt-leb, eq-eqb, ne_eqb}
use Rattle.std.specs.Prelude.{Ok, Err}
use Rattle.model.specs.Verdicts.{Verdict, accepted, ◌then◌, refuse, lowest}
use Rattle.model.specs.Refusals.{table, table_if}
use Rattle.model.specs.declared.rule.Rule.{Rule}
use Rattle.model.specs.declared.rule.Rule.TheVariants.{TableLength}

-- two tests
pub both : (a b : Bool) → (a && b) ≡ true → (a ≡ true) × (b ≡ true)
both true b e = (refl, e)
both false b e = absurd (false≢true e)

-- checks pass one after another if each passes
pub then_passes : (a b : Verdict) → ((a then b) ≡ accepted) ↔ ((a ≡ accepted) × (b ≡ accepted))
unfolding ◌then◌
then_passes (Ok tt) b = (λ e. (refl, e), λ e. e.1)
then_passes (Err x) b = (λ e. (e, cc), λ e. e.0)

pub refuse_passes : (r : Rule) (k : ℕ) (t : Bool) → (refuse r k t ≡ accepted) ↔ (t ≡ false)
unfolding refuse
refuse_passes r k true = (λ e. cc, λ e. cc)
refuse_passes r k false = (λ e. refl, λ e. refl)

pub lowest_passes : (r : Rule) (place : ℕ → ℕ) (test : ℕ → Bool) (k c : ℕ) → lowest r place test k c ≡ accepted → (i : ℕ) → k ≤ i → i < k + c → test i ≡ false
unfolding lowest
lowest_passes r place test k zero e i a b = absurd (omega arith)
lowest_passes r place test k (suc c) e i a b = go (λ f x y. lowest_passes r place test (suc k) c f i x y) (simp (then_passes, refuse_passes) at e) (ℕ_discrete k i)
  where
    go : (lowest r place test (suc k) c ≡ accepted → suc k ≤ i → i < suc k + c → test i ≡ false)
        → (test k ≡ false) × (lowest r place test (suc k) c ≡ accepted) → Dec (k ≡ i) → test i ≡ false
    go f h (yes q) = rw q at h.0
    go f h (no q) = f h.1 (omega arith) (omega arith)

-- neither of two tests
pub or_false : (a b : Bool) → ((a || b) ≡ false) ↔ ((a ≡ false) × (b ≡ false))
or_false true b = (λ e. (e, cc), λ e. e.0)
or_false false b = (λ e. (refl, e), λ e. e.1)

-- tests on numbers
pub ltb_fails : (a b : ℕ) → (ltb a b ≡ false) ↔ (b ≤ a)
ltb_fails a b = (ltb-false a b, le-ltb a b)

pub leb_fails : (a b : ℕ) → (leb a b ≡ false) ↔ (b < a)
leb_fails a b = (leb-false a b, lt-leb a b)

pub eqb_fails : (a b : ℕ) → (eqb a b ≡ false) ↔ (a ≢ b)
eqb_fails a b = (eqb-false a b, ne_eqb a b)

-- a table that counts has its length
pub table_if_exact : (counts : Bool) (t have need : ℕ) → (table_if counts t have need ≡ accepted) ↔ (counts ≡ true → have ≡ need)
unfolding table_if refuse
table_if_exact true t have need = (λ e _. eqb-true have need (not-false (eqb have need) ((refuse_passes TableLength t (not (eqb have need))).0 e)), λ h. simp (eq-eqb have need (h refl)))
table_if_exact false t have need = (λ _ c. cc, λ _. refl)

pub table_exact : (t have need : ℕ) → (table t have need ≡ accepted) ↔ (have ≡ need)
unfolding table table_if
table_exact t have need = let e = table_if_exact true t have need in (λ h. e.0 h refl, λ h. e.1 (λ _. h))

pub table_passes : (t have need : ℕ) → table t have need ≡ accepted → have ≡ need
table_passes t have need = (table_exact t have need).0

-- what is left of an accepted problem's checks is arithmetic, and what depends on a kind of objective
pub ruleset passing = (then_passes, refuse_passes, or_false, ltb_fails, leb_fails, eqb_fails, table_exact, table_if_exact)
