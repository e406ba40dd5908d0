-- Costs that stand only where a count is positive, and cones as others tell them.
use Rattle.std.proofs.Common.{◌≡◌, ℕ, zero, suc, List, [], ◌∷◌, ◌++◌, min, ltb, Float, refl, subst, arith}
use borrow.Author.Tests.{lt-ltb}
use Rattle.model.specs.Lists.{list, given}
use Rattle.model.specs.Program.{Cone}
use Rattle.model.specs.declared.Tally.{Tally}
use Rattle.model.specs.declared.Buffers.{Buffers}
use Rattle.buffers.specs.Buffers.{Closed}

flag_list : (k : ℕ) (x : Float) → list (λ i. x) 0 (min k 1) ≡ given (ltb 0 k) (x ∷ [])
flag_list zero x = refl
flag_list (suc k) x =
    let e : min (suc k) 1 ≡ 1 = omega arith in
    rw (lt-ltb 0 (suc k) (omega arith), e) refl

pub flag_lists : (a b : ℕ) (x y : Float) (l : List Float) → list (λ i. x) 0 (min a 1) ++ list (λ i. y) 0 (min b 1) ++ l ≡ given (ltb 0 a) (x ∷ []) ++ given (ltb 0 b) (y ∷ []) ++ l
flag_lists a b x y l = λ i. flag_list a x i ++ flag_list b y i ++ l

pub closed_as : {t t' : Tally} {b b' : Buffers} {xs ys : List Cone} {n : ℕ} → Closed t b t' b' xs n → xs ≡ ys → Closed t b t' b' ys n
closed_as {t} {t'} {b} {b'} {n} p e = subst (λ (l : List Cone). Closed t b t' b' l n) e p
