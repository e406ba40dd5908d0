-- The numbers that `measure` answers are those of the definitions.
use Prim.Native.Nat.{ℕ, ◌+◌, ◌-◌, ◌*◌, ◌<◌}
use native.Mathlib.Omega.{arith}
use mathlib.Core.Path.{◌≡◌, sym, ◌∙◌}
use mathlib.Core.List.{List}
use lib.ListN.{get_or}
use Rattle.model.specs.Numbers.{at}
use Rattle.model.specs.Lists.{sum_over}
use Rattle.model.specs.Problem.{Path, Limits, n, m, stop, flag}
use Rattle.model.specs.Counts.{upper, uppers, acc_inside, jerk_inside}
use Rattle.sizing.proofs.Sums.{sum_twice}

module _ (q : Path) (span : q.N0 + q.N1 < n q) where
  inner : stop q - (q.N0 + 1) ≡ m q - 1
  unfolding m stop
  inner = omega arith

  moves : 0 < m q
  unfolding m
  moves = omega arith

  at_stop : q.N0 + m q ≡ stop q
  unfolding m stop
  at_stop = omega arith

  abbrev between : (ℕ → ℕ) → ℕ
  between f = sum_over f (q.N0 + 1) (stop q - (q.N0 + 1))

  pub acc_is : (acc : List ℕ) {x : ℕ} → x ≡ between (λ k. get_or acc k 0) → x ≡ acc_inside q acc
  unfolding acc_inside
  acc_is acc e = e ∙ rw inner

  pub uppers_is : (l : Limits) {a b x : ℕ} → a ≡ flag q.N0 * upper l.start.maximum → b ≡ flag q.N1 * upper l.end.maximum
      → x ≡ between (λ k. upper (at l.amax k)) → a + b + x ≡ uppers q l
  unfolding uppers
  uppers_is l e f g = rw (e, f, g, inner)

  pub jerk_is : (jerk : List ℕ) {x y : ℕ} → x ≡ between (λ k. get_or jerk k 0) → y ≡ get_or jerk q.N0 0 + x + x + get_or jerk (stop q) 0 → y ≡ jerk_inside q jerk
  unfolding jerk_inside
  jerk_is jerk e f = f ∙ rw (e, inner, ← at_stop) (sym (sum_twice (λ k. get_or jerk k 0) q.N0 (m q) moves))
