-- One text after another, said of the bytes of a buffer and of the places.
use Rattle.std.proofs.Common.{◌≡◌, ℕ, suc, ◌+◌, ◌<◌, ◌≤◌, Bool, true, false, cond, ltb, List, [], ◌∷◌, ◌++◌, length, take, drop, set, sym, refl, ap, ◌∙◌, subst, arith, length-set, le-ltb, lt-ltb}
use native.Mathlib.Decide.{dec_lt}
use lib.Seq.{sets, sets-eq}
use Rattle.text.specs.Text.{Page, page, byte_more, more, Says}

pub more_append : (t u : List ℕ) (p : Page) → more (t ++ u) p ≡ more u (more t p)
unfolding more
more_append [] u p = refl
more_append (b ∷ t) u p = more_append t u (byte_more b p)

-- a text after another is the two as one text
pub after : {t u l l' l'' : List ℕ} {a a' a'' : ℕ} → Says t l a l' a' → Says u l' a' l'' a'' → Says (t ++ u) l a l'' a''
after {t} {u} x y = record { says = y.says ∙ ap (more u) x.says ∙ sym (more_append t u _) }

-- the same text under another name
pub renamed : {t u l l' : List ℕ} {a a' : ℕ} → t ≡ u → Says t l a l' a' → Says u l a l' a'
renamed {t} {u} {l} {l'} {a} e x = record { says = x.says ∙ ap (λ (v : List ℕ). more v (page l a)) e }

-- What a writer leaves: a buffer as long as before, the next place within it, and where there is room the text, with all else as it was.
more_length : (t : List ℕ) (p : Page) → length (more t p).bytes ≡ length p.bytes
unfolding more byte_more
more_length [] p = refl
more_length (b ∷ t) p = more_length t (byte_more b p) ∙ kept (ltb p.at (length p.bytes))
  where
    kept : (c : Bool) → length (cond c (page (set p.bytes p.at b) (suc p.at)) p).bytes ≡ length p.bytes
    kept true = length-set p.bytes p.at b
    kept false = refl

byte_within : (b : ℕ) (p : Page) → p.at ≤ length p.bytes → (byte_more b p).at ≤ length (byte_more b p).bytes
unfolding byte_more
byte_within b p h = go (dec_lt p.at (length p.bytes))
  where
    go : Dec (p.at < length p.bytes) → (byte_more b p).at ≤ length (byte_more b p).bytes
    go (yes l) = rw (lt-ltb _ _ l) (rw length-set l)
    go (no g) = let e : length p.bytes ≤ p.at = omega arith in rw (le-ltb _ _ e) h

more_within : (t : List ℕ) (p : Page) → p.at ≤ length p.bytes → (more t p).at ≤ length (more t p).bytes
unfolding more
more_within [] p h = h
more_within (b ∷ t) p h = more_within t (byte_more b p) (byte_within b p h)

more_room : (t : List ℕ) (l : List ℕ) (a : ℕ) → a + length t ≤ length l → more t (page l a) ≡ page (sets l a t) (a + length t)
unfolding more byte_more
more_room [] l a h = let e : a ≡ a + 0 = omega arith in ap (page l) e
more_room (b ∷ t) l a h =
    let i : a < length l = omega arith in
    let e : suc a + length t ≡ a + suc (length t) = omega arith in
    rw (lt-ltb _ _ i) (more_room t (set l a b) (suc a) (rw length-set (omega arith)) ∙ ap (page (sets (set l a b) (suc a) t)) e)

module _ {t l l' : List ℕ} {a a' : ℕ} (x : Says t l a l' a') where
  pub as_long : length l' ≡ length l
  as_long = ap (λ (p : Page). length p.bytes) x.says ∙ more_length t (page l a)

  pub next_within : a ≤ length l → a' ≤ length l'
  next_within h = subst (λ (p : Page). p.at ≤ length p.bytes) (sym x.says) (more_within t (page l a) h)

  pub text_stands : a + length t ≤ length l → (l' ≡ take a l ++ t ++ drop (a + length t) l) × (a' ≡ a + length t)
  text_stands h =
      let e = x.says ∙ more_room t l a h in
      (ap (λ (p : Page). p.bytes) e ∙ sets-eq t l a h, ap (λ (p : Page). p.at) e)
