-- Request 3: a Time weight is worked out from the grid when it is needed. The comments quote it.
use Prim.Native.Nat.{ℕ, ◌+◌, ◌^◌, ◌≤◌}
use native.Mathlib.Omega.{arith}
use mathlib.Core.Path.{◌≡◌, refl, sym, ap}
use mathlib.Core.Logic.{◌≢◌}
use lib.Ieee.{Float, binary64, neg, of_bits, to_bits}
use lib.ListN.{length}
use Rattle.model.specs.Verdicts.{accepted}
use Rattle.model.specs.Numbers.{at, ◌⊗◌, +0}
use Rattle.model.specs.Lists.{list}
use Rattle.model.specs.Problem.{Problem, Path, n, L, skip}
use Rattle.model.specs.Refusals.{refusal}
use Rattle.model.specs.Objectives.{time_weights, time_block}
use Rattle.model.proofs.Sums.{list_cong}
use Rattle.model.proofs.Usable.{usable, usable_sizes}
use Rattle.model.proofs.Weights.{time_weight, weights_long, weight_at}

-- For every problem that passes refusals 1 to 18; `time_weight` is what `time::get_weight_a_topp3` computes
pub record Request3 (q : Path) : Type 0 where
  -- module 1's list has a number for every station
  pub whole : length (time_weights q) ≡ n q + 1
  -- "at every station it has the bits that a list filled by document 01's module 1 would hold there"
  pub bits : (k : ℕ) → k ≤ n q → to_bits binary64 (time_weight q k) ≡ to_bits binary64 (at (time_weights q) k)
  -- so that Time's own columns cost what they would cost by that list
  pub cost : (w : Float) (c : ℕ) → list (λ j. w ⊗ time_weight q (skip q + j)) 0 (L q) ≡ (time_block q w c).cost

pub request3 : (p : Problem) → refusal p ≡ accepted → Request3 p.path
unfolding time_block
request3 p ok =
    let q = p.path in
    let l = usable_sizes p (usable p ok) in
    record {
      whole = weights_long q l;
      bits = λ k h. ap (to_bits binary64) (sym (weight_at q l k h));
      cost = λ w c. list_cong _ _ 0 (L q) (λ j a b. ap (λ (x : Float). w ⊗ x) (sym (weight_at q l (skip q + j) (omega (arith, l.reach)))));
    }

-- bits tell the two zeros apart
pub zeros_differ : to_bits binary64 (neg +0) ≢ to_bits binary64 +0
unfolding of_bits neg to_bits
zeros_differ e = let minus : to_bits binary64 (neg +0) ≡ 2 ^ 63 = refl in let plus : to_bits binary64 +0 ≡ 0 = refl in omega (arith, e, minus, plus)
