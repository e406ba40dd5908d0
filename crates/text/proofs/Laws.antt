-- One text after another, by methods of one writer.
use Rattle.std.proofs.Common.{◌≡◌, ℕ, ◌+◌, ◌<◌, List, [], ◌∷◌, ◌++◌, length, get_or, take, sym, refl, ap, ◌∙◌, subst, add-one, take-suc}
use Rattle.text.specs.Text.{Page, page, more, Says, written}
use Rattle.text.specs.declared.writer.Writer.{Writer}
use Rattle.text.proofs.Bytes.{more_append}

-- a text after another is the two as one text
pub written_append : (t u : List ℕ) (w : Writer) → written (t ++ u) w ≡ written u (written t w)
unfolding written
written_append t u w = ap (λ (p : Page). record { buffer = record { ref_ptr = w.buffer.ref_ptr; ghost_name = w.buffer.ghost_name; now = p.bytes }; at = p.at }) (more_append t u (page w.buffer.now w.at))

pub written_nothing : (w : Writer) → written [] w ≡ w
unfolding written more
written_nothing w = refl

-- a byte, and the text behind it
pub written_first : (b : ℕ) (t : List ℕ) (w : Writer) → written (b ∷ t) w ≡ written t (written (b ∷ []) w)
written_first b t w = written_append (b ∷ []) t w

-- one byte more of a text
pub written_byte : (s : List ℕ) (i d : ℕ) (w : Writer) → i < length s → written (take (i + 1) s) w ≡ written (get_or s i d ∷ []) (written (take i s) w)
written_byte s i d w h = ap (λ (t : List ℕ). written t w) (ap (λ (k : ℕ). take k s) (add-one i) ∙ take-suc s i d h) ∙ written_append _ _ w

-- a method after another writes its text after the other's
pub after : (t u : List ℕ) (w : Writer) {x y : Writer} → x ≡ written t w → y ≡ written u x → y ≡ written (t ++ u) w
after t u w a b = b ∙ ap (written u) a ∙ sym (written_append t u w)

pub nothing : (w : Writer) → w ≡ written [] w
nothing w = sym (written_nothing w)

-- the same text under another name
pub renamed : (w : Writer) {t u : List ℕ} {x : Writer} → t ≡ u → x ≡ written t w → x ≡ written u w
renamed w e a = a ∙ ap (λ (v : List ℕ). written v w) e

-- what a method says of the buffer's bytes and of the places: the theorems of Bytes.antt follow
pub says_of_bytes : (t : List ℕ) (w : Writer) {x : Writer} → x ≡ written t w → Says t w.buffer.now w.at x.buffer.now x.at
unfolding written
says_of_bytes t w a = record { says = ap (λ (x : Writer). page x.buffer.now x.at) a }

-- the same of a buffer l that was lent to a writer while it was used, as a caller knows it: it holds what the writer's does if that is still the same buffer
pub lent_back : (t : List ℕ) (w : Writer) {x : Writer} {l : List ℕ} → x ≡ written t w → (w.buffer.ghost_name ≡ x.buffer.ghost_name → l ≡ x.buffer.now) → Says t w.buffer.now w.at l x.at
unfolding written
lent_back t w {x} a same =
    let e = same (sym (ap (λ (x : Writer). x.buffer.ghost_name) a)) in
    subst (λ (l : List ℕ). Says t w.buffer.now w.at l x.at) (sym e) (says_of_bytes t w a)
