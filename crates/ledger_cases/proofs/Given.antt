-- The code's arrays, cut to the case's lengths, are the tables that `given` makes; and sizing reads the objectives only up to their count.
use Prim.Native.Nat.{ℕ, zero, suc, ◌+◌, ◌-◌, ◌*◌, ◌≤◌}
use native.Mathlib.Nat.{not-suc-le-zero, le_of_suc-le-suc, mul-le-mul}
use native.Mathlib.Omega.{arith}
use mathlib.Core.Path.{◌≡◌, refl, sym, ap, ◌∙◌}
use mathlib.Core.List.{List, ◌∷◌, ◌++◌}
use lib.ListN.{length, take, drop, replicate, length-take, length-replicate}
use lib.Seq.{take-length}
use lib.Ieee.{Float}
use Rattle.model.specs.Numbers.{+0, +1}
use Rattle.model.specs.Problem.{Problem, problem, objectives}
use Rattle.model.specs.Answers.{Told, sizing}
use Rattle.model.specs.declared.Job.{Job}
use Rattle.model.specs.declared.Objective.{Objective}
use Rattle.model.proofs.Unread.{unread_slots}
use Rattle.ledger_cases.specs.Cases.{job_of, problem_of, Small}
use Rattle.ledger_cases.specs.declared.Case.{Case}

-- a problem with another count and other slots
abbrev with_objectives : Problem → ℕ → List Objective → Problem
with_objectives p count slots =
    record {
      boundary = p.boundary;
      path = p.path;
      count = count;
      slots = slots;
      pool = p.pool;
      limits = p.limits;
      acc = p.acc;
      jerk = p.jerk;
      thermal = p.thermal;
      torque = p.torque;
      roots = p.roots;
    }

-- slots past the count are never read
sizing_slots : (p : Problem) (count : ℕ) (slots : List Objective) → count ≡ p.count → take count slots ≡ objectives p → sizing (with_objectives p count slots) ≡ sizing p
sizing_slots p count slots e f =
    ap (λ (k : ℕ). sizing (with_objectives p k slots)) e
    ∙ sym (unread_slots p slots (sym f ∙ ap (λ (k : ℕ). take k slots) e)).sizing

take_replicate : {A : Type 0} (k n : ℕ) (x : A) → k ≤ n → take k (replicate n x) ≡ replicate k x
take_replicate zero zero x h = refl
take_replicate zero (suc n) x h = refl
take_replicate (suc k) zero x h = absurd (not-suc-le-zero h)
take_replicate (suc k) (suc n) x h = ap (λ (l : List _). x ∷ l) (take_replicate k n x (le_of_suc-le-suc h))

-- the code's pool, from its last d scales of 1 on
abbrev ones : ℕ → List Float
ones d = take (10 - (2 - d)) (drop (2 - d) (+1 ∷ +1 ∷ replicate 8 +0))

pool_part : (d n : ℕ) → d ≤ 2 → n ≤ 4 → take (d + 2 * n) (ones d) ≡ replicate d +1 ++ replicate (2 * n) +0
pool_part zero n h k = let e : 0 + 2 * n ≡ 2 * n = omega arith in rw e (take_replicate (2 * n) 8 +0 (omega arith))
pool_part (suc zero) n h k = let e : 1 + 2 * n ≡ suc (2 * n) = omega arith in rw e (ap (λ (l : List Float). +1 ∷ l) (take_replicate (2 * n) 8 +0 (omega arith)))
pool_part (suc (suc zero)) n h k = let e : 2 + 2 * n ≡ suc (suc (2 * n)) = omega arith in rw e (ap (λ (l : List Float). +1 ∷ +1 ∷ l) (take_replicate (2 * n) 8 +0 (omega arith)))
pool_part (suc (suc (suc d))) n h k = absurd (omega arith)

module _ (c : Case) (small : Small c) where
  abbrev stations : ℕ
  stations = length (take c.stations c.grid)

  stations_are : stations ≡ c.stations
  stations_are = length-take c.stations c.grid ∙ (let h = small.grid in let l = small.stations in omega arith)

  -- of an array of b equal elements, as many as f says of the stations
  cut : {A : Type 0} (f : ℕ → ℕ) (b : ℕ) (x : A) → f c.stations ≤ b → take (f c.stations) (replicate b x) ≡ replicate (f stations) x
  cut f b x h = rw stations_are (take_replicate (f c.stations) b x h)

  count_is : c.count ≡ length (replicate c.count c.objective)
  count_is = sym (length-replicate c.count c.objective)

  objectives_are : take c.count (replicate 16 c.objective) ≡ objectives (problem_of c)
  objectives_are = take_replicate c.count 16 c.objective small.count ∙ sym (take-length (replicate c.count c.objective))

  pool_is : take (c.d + 2 * c.stations) (ones c.d) ≡ replicate c.d +1 ++ replicate (2 * stations) +0
  pool_is = pool_part c.d c.stations small.d small.stations ∙ rw stations_are

  pub answered : {t : Told} {job : Job} {grid amax none jerk thermal torque pool : List Float} {acc_rows jerk_rows : List ℕ}
      → job ≡ job_of c
      → grid ≡ take c.stations c.grid
      → acc_rows ≡ take c.stations (replicate 4 0)
      → jerk_rows ≡ take c.stations (replicate 4 c.jerk)
      → amax ≡ take c.stations c.amax
      → none ≡ take 0 (replicate 8 +0)
      → jerk ≡ take (c.jerk * c.stations) (replicate 8 +0)
      → thermal ≡ take c.stations (replicate 8 +0)
      → torque ≡ take (c.d * c.stations) (replicate 8 +0)
      → pool ≡ take (c.d + 2 * c.stations) (ones c.d)
      → t ≡ sizing (problem job (replicate 16 c.objective) grid acc_rows jerk_rows amax none none none jerk jerk jerk jerk thermal torque torque torque none none pool)
      → t ≡ sizing (problem_of c)
  answered job grid acc_rows jerk_rows amax none jerk thermal torque pool t =
      let a = cut {A = ℕ} (λ k. k) 4 0 small.stations in
      let b = cut {A = ℕ} (λ k. k) 4 c.jerk small.stations in
      let d = cut (λ k. k) 8 +0 (let l = small.stations in omega arith) in
      let e = cut (λ k. c.jerk * k) 8 +0 (let m = mul-le-mul small.jerk small.stations in omega arith) in
      let f = cut (λ k. c.d * k) 8 +0 (mul-le-mul small.d small.stations) in
      t ∙ rw (job, grid, acc_rows ∙ a, jerk_rows ∙ b, amax, none, jerk ∙ e, thermal ∙ d, torque ∙ f, pool ∙ pool_is)
      (sizing_slots (problem_of c) c.count (replicate 16 c.objective) count_is objectives_are)
