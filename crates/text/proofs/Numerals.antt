-- How the digits of a number follow from those of the number without its last one.
use Rattle.std.proofs.Common.{◌≡◌, ℕ, zero, suc, ◌+◌, ◌-◌, ◌*◌, ◌/◌, ◌%◌, ◌^◌, ◌<◌, ◌≤◌, List, [], ◌∷◌, ◌++◌, sym, refl, ap, ◌∙◌, max, arith, sub-one, le-ltb, lt-ltb}
use Rattle.std.proofs.Math.Nat.{pow-succ', one-le-pow}
use Rattle.text.specs.Digits.{digit, digits, places}
use Rattle.text.specs.Text.{written}
use Rattle.text.specs.declared.writer.Writer.{Writer}
use Rattle.text.proofs.Laws.{written_append}

-- the number of digits from the power of 10 that is not above n, or 1 for 0
pub places_power : (k n r : ℕ) → r ≤ k → 10 ^ r ≤ max n 1 → max n 1 < 10 * 10 ^ r → r + 1 ≡ places k n
unfolding places
places_power zero n zero within low high = refl
places_power zero n (suc r) within low high = omega arith
places_power (suc k) n zero within low high = let h : n < 10 = omega arith in simp (lt-ltb _ _ h)
places_power (suc k) n (suc r) within low high =
    let p : 1 ≤ 10 ^ r = one-le-pow r 10 (omega arith) in
    let e : 10 ^ suc r ≡ 10 * 10 ^ r = pow-succ' 10 r in
    let h : 10 ≤ n = omega (arith, low, e, p) in
    let a : 10 ^ r ≤ max (n / 10) 1 = omega (arith, low, e, p) in
    let b : max (n / 10) 1 < 10 * 10 ^ r = omega (arith, high, e, p) in
    let g : suc r + 1 ≡ r + 1 + 1 = omega arith in
    g ∙ ap (λ (j : ℕ). j + 1) (places_power k (n / 10) r (omega arith) a b) ∙ sym (simp (le-ltb _ _ h))

pub digits_none : (b k n : ℕ) → k ≡ 0 → [] ≡ digits b k n
unfolding digits
digits_none b k n e = ap (λ (j : ℕ). digits b j n) (sym e)

pub digits_more : (b k n : ℕ) → (k ≡ 0 → ⊥) → digits b (k - 1) (n / b) ++ (digit (n % b) ∷ []) ≡ digits b k n
unfolding digits
digits_more b zero n some = absurd (some refl)
digits_more b (suc k) n some = ap (λ (j : ℕ). digits b j (n / b) ++ (digit (n % b) ∷ [])) (sub-one (suc k))

pub written_digits : (b k n : ℕ) (w : Writer) → (k ≡ 0 → ⊥) → written (digits b k n) w ≡ written (digit (n % b) ∷ []) (written (digits b (k - 1) (n / b)) w)
written_digits b k n w some = ap (λ (t : List ℕ). written t w) (sym (digits_more b k n some)) ∙ written_append _ _ w
