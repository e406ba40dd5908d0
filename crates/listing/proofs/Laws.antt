-- The text that a loop writes, a turn more.
use Rattle.std.proofs.Common.{◌≡◌, ℕ, suc, ◌+◌, ◌-◌, ◌≤◌, List, ◌++◌, sym, ap, ◌∙◌, arith, add-one}
use Rattle.model.specs.Lists.{over}
use Rattle.buffers.proofs.Laws.{over_snoc}
use Rattle.text.specs.Text.{Says, written}
use Rattle.text.specs.declared.writer.Writer.{Writer}
use Rattle.text.proofs.Bytes.{after, renamed}
use Rattle.text.proofs.Laws.{written_append}

-- of a loop from 0 on
pub written_next : (f : ℕ → List ℕ) (i : ℕ) (w : Writer) → written (over f 0 (i + 1)) w ≡ written (f i) (written (over f 0 i) w)
written_next f i w =
    let g : 0 + i ≡ i = omega arith in
    ap (λ (t : List ℕ). written t w) (ap (over f 0) (add-one i) ∙ over_snoc f 0 i ∙ ap (λ (j : ℕ). over f 0 i ++ f j) g) ∙ written_append _ _ w

-- of a loop from k on
pub written_turn : (f : ℕ → List ℕ) (k i : ℕ) (w : Writer) → k ≤ i → written (over f k (i + 1 - k)) w ≡ written (f i) (written (over f k (i - k)) w)
written_turn f k i w h =
    let e : i + 1 - k ≡ suc (i - k) = omega arith in
    let g : k + (i - k) ≡ i = omega arith in
    ap (λ (t : List ℕ). written t w) (ap (over f k) e ∙ over_snoc f k (i - k) ∙ ap (λ (j : ℕ). over f k (i - k) ++ f j) g) ∙ written_append _ _ w

-- the same of the bytes and the places
pub turn : (f : ℕ → List ℕ) (k i : ℕ) {l l' l'' : List ℕ} {a a' a'' : ℕ} → k ≤ i → Says (over f k (i - k)) l a l' a' → Says (f i) l' a' l'' a'' → Says (over f k (i + 1 - k)) l a l'' a''
turn f k i h x y =
    let e : i + 1 - k ≡ suc (i - k) = omega arith in
    let g : i ≡ k + (i - k) = omega arith in
    renamed (ap (λ (t : List ℕ). over f k (i - k) ++ t) (ap f g) ∙ sym (ap (over f k) e ∙ over_snoc f k (i - k))) (after x y)
