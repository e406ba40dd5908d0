use Rattle.text.proofs.Doubles.{nearest_tells}
use Rattle.std.proofs.Common.{true, false, T, sym, refl, ap, ◌∙◌, subst, lt-ltb}
use lib.Ieee.{of_bits, neg, Float, eq, div, binary64}
use Rattle.text.proofs.double.nearest.Goals as goal
use Rattle.text.proofs.double.nearest.Goals.{else-scaled-via-then-scaled+else-scaled-2, else-scaled-via-else-scaled}

pub truncating_f64_to_u64-k-requires-clause-lower_bound : goal.truncating_f64_to_u64-k-requires-clause-lower_bound
unfolding of_bits neg
truncating_f64_to_u64-k-requires-clause-lower_bound c = subst T (sym c.if-scaled.true) tt

pub truncating_f64_to_u64-k-requires-clause-upper_bound : goal.truncating_f64_to_u64-k-requires-clause-upper_bound
unfolding of_bits neg
truncating_f64_to_u64-k-requires-clause-upper_bound c = subst T (sym c.if-scaled-2.true) tt

pub returns-then-nearest_u64_to_f64-x : goal.returns-then-nearest_u64_to_f64-x
unfolding of_bits neg
returns-then-nearest_u64_to_f64-x c = nearest_tells _ _ true true true true c.truncating_f64_to_u64-k.ensures c.if-scaled.true c.if-scaled-2.true (lt-ltb _ _ c.if-k-lt2251799813685248.true) (ap (λ (q : Float). eq (div binary64 q (of_bits binary64 0x40c3880000000000)) c.args.x) (sym c.nearest_u64_to_f64.ensures) ∙ c.if-nearest_u64_to_f64-x.true)

pub returns-else-scaled : goal.returns-else-scaled
unfolding of_bits neg
returns-else-scaled c = elim c.else-scaled.branch [
  | else-scaled-via-then-scaled+else-scaled-2 w ↦ nearest_tells _ _ true false _ _ refl w.if-scaled.true w.if-scaled-2.false refl refl
  | else-scaled-via-else-scaled w ↦ nearest_tells _ _ false _ _ _ refl w.if-scaled.false refl refl refl
]
