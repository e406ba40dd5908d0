-- Problems 0 and 2 are the ledger's cases A and L. The arrays of 16 objectives hold each problem's objectives, and the assembly reads no more of them.
use Prim.Native.Nat.{ℕ, zero, suc}
use mathlib.Core.Path.{◌≡◌, refl, sym, ap, ◌∙◌}
use mathlib.Core.List.{List, [], ◌∷◌}
use lib.ListN.{get_or, take, replicate}
use lib.Ieee.{Float}
use Rattle.model.specs.Numbers.{+0, +1, +∞}
use Rattle.model.specs.Problem.{Problem, problem, objectives}
use Rattle.model.specs.Answers.{Buffers, Result, assembly}
use Rattle.model.specs.Ledger.{A, L, cases, case, case_a}
use Rattle.model.specs.declared.Job.{Job}
use Rattle.model.specs.declared.Objective.{Objective}
use Rattle.model.proofs.Unread.{unread_slots}
use Rattle.shown_problems.specs.Problems.{small, three_stations, problem_at, count_at, objectives_at, job_with}

pub first_is_A : problem_at 0 ≡ case_a
unfolding problem_at
first_is_A = refl

pub last_is_L : case L (problem_at 2) ≡ get_or cases 11 (case A case_a)
unfolding problem_at
last_is_L = refl

-- what holds of 0 and of every number from 2 on
pub unless_one : (P : ℕ → Type 0) → P 0 → ((k : ℕ) → P (suc (suc k))) → (i : ℕ) → (i ≡ 1 → ⊥) → P i
unless_one P z s zero h = z
unless_one P z s (suc zero) h = absurd (h refl)
unless_one P z s (suc (suc k)) h = s k

pub past_one : (i : ℕ) → (i ≡ 0 → ⊥) → (i ≡ 1 → ⊥) → problem_at i ≡ three_stations +1
unfolding problem_at
past_one zero h k = absurd (h refl)
past_one (suc zero) h k = absurd (k refl)
past_one (suc (suc i)) h k = refl

-- the first `count_at i` of the 16 are the problem's objectives
pub objectives_shown : (i : ℕ) → take (count_at i) (objectives_at i) ≡ objectives (problem_at i)
unfolding count_at objectives_at problem_at
objectives_shown zero = refl
objectives_shown (suc zero) = refl
objectives_shown (suc (suc i)) = refl

pub of_same : {r : Result} (b : Buffers) (p q : Problem) → r ≡ assembly p b → p ≡ q → r ≡ assembly q b
of_same b p q e f = e ∙ ap (λ (x : Problem). assembly x b) f

-- what the code lends is the problem, but for the rest of the 16 objectives
module _ {r : Result} {job : Job} {slots : List Objective} {count : ℕ} (b : Buffers) where
  pub three_assembled : (x : Float)
      → count ≡ count_at 0
      → job ≡ job_with +∞ 0 count
      → slots ≡ objectives_at 0
      → r ≡ assembly (problem job slots (+0 ∷ +1 ∷ x ∷ []) (replicate 3 0) (replicate 3 0) (replicate 3 +∞) [] [] [] [] [] [] [] (replicate 3 +0) (replicate 3 +0) (replicate 3 +0) (replicate 3 +0) [] [] (+1 ∷ replicate 6 +0)) b
      → r ≡ assembly (three_stations x) b
  unfolding count_at objectives_at problem_at
  three_assembled x count job slots e = e ∙ rw (job, count, slots) (sym ((unread_slots (three_stations x) (objectives_at 0) refl).assembly b))

  pub small_assembled : count ≡ count_at 1
      → job ≡ job_with small.limits.start.maximum 1 count
      → slots ≡ objectives_at 1
      → r ≡ assembly (problem job slots small.path.grid small.acc.counts small.jerk.counts small.limits.amax small.acc.a small.acc.b small.acc.max small.jerk.a small.jerk.b small.jerk.c small.jerk.max small.thermal small.torque.a small.torque.b small.torque.g [] [] small.pool) b
      → r ≡ assembly small b
  unfolding count_at objectives_at problem_at
  small_assembled count job slots e = e ∙ rw (job, count, slots) (sym ((unread_slots small (objectives_at 1) refl).assembly b))
