-- Laws that several proofs cite.
use Prim.Native.Nat.{ℕ, zero, suc, ◌+◌, ◌-◌, ◌*◌, ◌≤◌, ◌<◌}
use native.Mathlib.Nat.{add-zero}
use Rattle.std.proofs.Common.{add_assoc}
use mathlib.Core.Path.{◌≡◌, refl, ap, sym, subst, ◌∙◌}
use mathlib.Core.Bool.{Bool, true, false, cond}
use mathlib.Core.List.{List, [], ◌∷◌}
use lib.Dec.{T}
use lib.Ieee.{binary64, of_bits, to_bits}
use lib.ListN.{length, get_or, take, drop, set, replicate, length-take, length-drop}
use lib.Seq.{ext_get_or, get_or-take, get_or-drop, get_or-set_same, get_or-set_other}
use native.Mathlib.Omega.{arith}
use borrow.Author.Count.{below_more}
use borrow.Author.Tests.{le-leb, lt-leb, le-ltb}
use Rattle.std.proofs.Common.{inl, inr}
use Rattle.std.proofs.lemmas.Bool.{cases_eq}
use Rattle.std.specs.Prelude.{Option, MatchOption, Some, None}
use Rattle.std.specs.Int.{w32, w64, from_le_bytes}
use Rattle.std.specs.Fn.{Called, Mut}
use Rattle.std.specs.Array.{IsFromFnResult, IsFromFnResultFrom}
use Rattle.replay_list.specs.File.{four_bytes, short_at, long_at}
use Rattle.replay_list.specs.Format.{each, part}

-- a test that came out false is not true
pub never : {A : Type 0} → false ≡ true → A
never e = absurd (subst T (sym e) tt)

module _ (s : List ℕ) (at : ℕ) where
  pub short_within : at + 4 ≤ length s → short_at s at ≡ four_bytes s at
  unfolding short_at
  short_within h = simp (le-leb (at + 4) (length s) h)

  pub short_past : length s < at + 4 → short_at s at ≡ 0
  unfolding short_at
  short_past h = simp (lt-leb (at + 4) (length s) h)

  pub long_within : at + 8 ≤ length s → long_at s at ≡ four_bytes s at + 4294967296 * four_bytes s (at + 4)
  unfolding long_at
  long_within h = simp (le-leb (at + 8) (length s) h)

  pub long_past : length s < at + 8 → long_at s at ≡ 0
  unfolding long_at
  long_past h = simp (lt-leb (at + 8) (length s) h)

module _ (s : List ℕ) (at n : ℕ) (y : List ℕ) (e : y ≡ take n (drop at s)) where
  byte_of : (k : ℕ) → k < n → get_or y k 0 ≡ get_or s (at + k) 0
  byte_of k h = ap (λ (l : List ℕ). get_or l k 0) e ∙ get_or-take n (drop at s) k 0 h ∙ get_or-drop at s k 0

  four_spread : from_le_bytes w32 y ≡ get_or y 0 0 + get_or y 1 0 * 256 + get_or y 2 0 * 65536 + get_or y 3 0 * 16777216
  four_spread = refl

  eight_spread : from_le_bytes w64 y ≡ get_or y 0 0 + get_or y 1 0 * 256 + get_or y 2 0 * 65536 + get_or y 3 0 * 16777216 + get_or y 4 0 * 4294967296 + get_or y 5 0 * 1099511627776 + get_or y 6 0 * 281474976710656 + get_or y 7 0 * 72057594037927936
  eight_spread = refl

  four_of : n ≡ 4 → from_le_bytes w32 y ≡ four_bytes s at
  four_of h = omega (arith, four_spread, byte_of 0 (omega arith), byte_of 1 (omega arith), byte_of 2 (omega arith), byte_of 3 (omega arith), ap (λ (k : ℕ). get_or s k 0) (add-zero at))

  eight_of : n ≡ 8 → from_le_bytes w64 y ≡ four_bytes s at + 4294967296 * four_bytes s (at + 4)
  eight_of h =
      omega (
        arith,
        eight_spread,
        byte_of 0 (omega arith),
        byte_of 1 (omega arith),
        byte_of 2 (omega arith),
        byte_of 3 (omega arith),
        byte_of 4 (omega arith),
        byte_of 5 (omega arith),
        byte_of 6 (omega arith),
        byte_of 7 (omega arith),
        ap (λ (k : ℕ). get_or s k 0) (add-zero at),
        ap (λ (k : ℕ). get_or s k 0) (add_assoc at 4 1),
        ap (λ (k : ℕ). get_or s k 0) (add_assoc at 4 2),
        ap (λ (k : ℕ). get_or s k 0) (add_assoc at 4 3),
      )

-- the numbers of four and of eight bytes, as `from_le_bytes` makes them of what is there
module _ (s : List ℕ) (at : ℕ) (o : Option (List ℕ)) (r : ℕ) (Made : List ℕ → Type 0) where
  pub short_of : ((y : List ℕ) → Made y → r ≡ from_le_bytes w32 y) → MatchOption o (length s < at + 4) (λ y. (at + 4 ≤ length s) × (y ≡ take 4 (drop at s))) → MatchOption o (r ≡ 0) Made → r ≡ short_at s at
  short_of made there found =
      (elim o as (λ (x : Option (List ℕ)). MatchOption x (length s < at + 4) (λ y. (at + 4 ≤ length s) × (y ≡ take 4 (drop at s))) → MatchOption x (r ≡ 0) Made → r ≡ short_at s at) [
        | None ↦ λ h e. e ∙ sym (short_past s at h)
        | Some y ↦ λ h e. made y e ∙ four_of s at 4 y h.1 refl ∙ sym (short_within s at h.0)
      ]) there found

  pub long_of : ((y : List ℕ) → Made y → r ≡ from_le_bytes w64 y) → MatchOption o (length s < at + 8) (λ y. (at + 8 ≤ length s) × (y ≡ take 8 (drop at s))) → MatchOption o (r ≡ 0) Made → r ≡ long_at s at
  long_of made there found =
      (elim o as (λ (x : Option (List ℕ)). MatchOption x (length s < at + 8) (λ y. (at + 8 ≤ length s) × (y ≡ take 8 (drop at s))) → MatchOption x (r ≡ 0) Made → r ≡ long_at s at) [
        | None ↦ λ h e. e ∙ sym (long_past s at h)
        | Some y ↦ λ h e. made y e ∙ eight_of s at 8 y h.1 refl ∙ sym (long_within s at h.0)
      ]) there found

-- items by their numbers
module _ {A : Type 0} where
  pub length_each : (f : ℕ → A) (n : ℕ) → length (each f n) ≡ n
  unfolding each
  length_each f zero = refl
  length_each f (suc n) = ap suc (length_each (λ i. f (suc i)) n)

  pub get_d_each : (f : ℕ → A) (n i : ℕ) (d : A) → i < n → get_or (each f n) i d ≡ f i
  unfolding each
  get_d_each f zero i d h = absurd (omega arith)
  get_d_each f (suc n) zero d h = refl
  get_d_each f (suc n) (suc i) d h = get_d_each (λ k. f (suc k)) n i d (omega arith)

  pub filled : (d : A) (f : ℕ → A) (l : List A) (n : ℕ) → length l ≡ n → ((k : ℕ) → k < n → get_or l k d ≡ f k) → l ≡ each f n
  filled d f l n e h = ext_get_or d l (each f n) (e ∙ sym (length_each f n)) (λ i b. let w : i < n = omega arith in h i w ∙ sym (get_d_each f n i d w))

  -- what `from_fn` made of a closure that keeps its state and answers f
  module _ {F : Type 0} (g : Mut F (ℕ × Unit {0}) A) (s : F) (f : ℕ → A) (calls : (i : ℕ) (y : A) (t : F) → Called g s (i, tt) y t → (y ≡ f i) × (t ≡ s)) where
    made_from : (l : List A) (d : A) (n i : ℕ) (t : F) → t ≡ s → IsFromFnResultFrom g t l i n → (k : ℕ) → i ≤ k → k < i + n → get_or l k d ≡ f k
    made_from l d zero i t e r k h w = absurd (omega arith)
    made_from l d (suc n) i t e (u, y, at, call, rest) k h w =
        let here : (y ≡ f i) × (u ≡ s) = calls i y u (subst (λ (p : F). Called g p (i, tt) y u) e call) in
        elim (cases_eq k i) [
          | inl same ↦ subst (λ (j : ℕ). get_or l j d ≡ f j) (sym same) (at.1 d ∙ here.0)
          | inr other ↦ made_from l d n (i + 1) u here.1 rest k (omega (arith, other)) (omega arith)
        ]

    pub made : (l : List A) (n : ℕ) → IsFromFnResult g s l n → l ≡ each f n
    made l n r = filled (f 0) f l n r.long (λ k h. made_from l (f 0) n 0 s refl r.each k (omega arith) (omega arith))

  -- one element more is stored
  pub stored : (d : A) (f : ℕ → A) (l : List A) (i : ℕ) (v : A) → i < length l → v ≡ f i → ((k : ℕ) → k < i → get_or l k d ≡ f k) → (k : ℕ) → k < i + 1 → get_or (set l i v) k d ≡ f k
  stored d f l i v room e below = below_more _ _ (λ k h. get_or-set_other l i k v d (λ w. omega arith) ∙ below k h) (get_or-set_same l i v d room ∙ e)

  -- a part of the items
  pub part_each : (f : ℕ → A) (m a b n : ℕ) → b ≡ a + n → b ≤ m → part (each f m) a b ≡ each (λ i. f (a + i)) n
  unfolding part
  part_each f m a b n e h =
      ap (λ (t : Bool). cond t [] (take (b - a) (drop a (each f m)))) (le-ltb (length (each f m)) b (omega (arith, length_each f m)))
      ∙ filled (f 0) (λ i. f (a + i)) (take (b - a) (drop a (each f m))) n (simp (length-take, length-drop, length_each) (omega arith))
      (λ k w. get_or-take (b - a) (drop a (each f m)) k (f 0) (omega arith) ∙ get_or-drop a (each f m) k (f 0) ∙ get_d_each f m (a + k) (f 0) (omega arith))

  -- what is lent of an array whose places are all alike
  pub take_replicate : (n m : ℕ) (a : A) → n ≤ m → take n (replicate m a) ≡ replicate n a
  take_replicate zero m a h = refl
  take_replicate (suc n) zero a h = absurd (omega arith)
  take_replicate (suc n) (suc m) a h = ap (λ (l : List A). a ∷ l) (take_replicate n m a (omega arith))

-- the bits of the float that the buffers hold before a call
pub float_before : to_bits binary64 (of_bits binary64 13876516240719085568) ≡ 13876516240719085568
unfolding to_bits of_bits
float_before = refl
