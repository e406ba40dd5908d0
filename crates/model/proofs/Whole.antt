-- The whole program is sound: every entry lies in the matrix, and no position is named twice.
use Prim.Native.Nat.{ℕ, ◌+◌, ◌*◌, ◌≤◌, ◌<◌}
use native.Mathlib.Nat.{add-zero}
use native.Mathlib.Omega.{arith}
use mathlib.Core.Path.{◌≡◌, refl, ap}
use mathlib.Core.Bool.{Bool, true, false, cond, or-true}
use mathlib.Core.List.{List, [], ◌∷◌}
use lib.ListN.{length, get_or, replicate, length-replicate}
use lib.Ieee.{Float}
use Rattle.model.specs.Numbers.{+0}
use Rattle.model.specs.Lists.{joined, sum}
use Rattle.model.specs.Problem.{Problem, objectives, n, L, has_root, some, uses_root}
use Rattle.model.specs.Program.{Band, Cone, Block, Entry, nothing}
use Rattle.model.specs.Standard.{standard, root, root_stage}
use Rattle.model.specs.Objectives.{linear_block, objective_block}
use Rattle.model.specs.Assembled.{width, objective_blocks, blocks, cones, bands, entries, right_side, cost}
use Rattle.model.specs.Counts.{objective_counts}
use Rattle.model.specs.declared.Objective.{Objective}
use Rattle.model.specs.declared.Objective.TheVariants.{Time, ThermalEnergy, TotalVariationTorque, Linear}
use Rattle.model.specs.declared.FourCounts.{FourCounts}
use Rattle.model.proofs.All.{All, all_append, all_joined, all_imp, all_at}
use Rattle.model.proofs.Sizes.{Sizes}
use Rattle.model.proofs.Shape.{Sound, columns_at, heights, right_heights, Inside, entries_inside, entries_apart, apart_at}
use Rattle.model.proofs.SoundStandard.{equalities_sound, inequalities_sound}
use Rattle.model.proofs.SoundObjectives.{SoundCone, root_sound, time_sound, thermal_sound, torque_sound}
use Rattle.model.proofs.Counted.{objective_counted, cost_length}

-- ---- composition, for any blocks

sound_more : (C D : ℕ) → C ≤ D → (b : Band) → Sound C b → Sound D b
sound_more C D h b s = λ i lt. (all_imp (λ x. x < C) (λ x. x < D) (columns_at i b.columns) (λ x a. omega arith) (s i lt).0, (s i lt).1)

cones_more : (C D : ℕ) → C ≤ D → (ks : List Cone) → All (SoundCone C) ks → All (SoundCone D) ks
cones_more C D h ks = all_imp (SoundCone C) (SoundCone D) ks (λ k. all_imp (Sound C) (Sound D) k.bands (sound_more C D h))

-- each block is sound where its columns start
abbrev Linked : ℕ → List Block → Type 0
Linked c [] = Unit {0}
Linked c (b ∷ bs) = All (SoundCone (c + width b)) b.cones × Linked (c + width b) bs

linked_sound : (c : ℕ) (bs : List Block) → Linked c bs → All (SoundCone (c + sum width bs)) (joined (λ b. b.cones) bs)
linked_sound c [] h = tt
linked_sound c (b ∷ bs) h =
    (all_append (SoundCone (c + (width b + sum width bs))) b.cones (joined (λ b. b.cones) bs)).1 (
      cones_more (c + width b) (c + (width b + sum width bs)) (omega arith) b.cones h.0,
      cones_more (c + width b + sum width bs) (c + (width b + sum width bs)) (omega arith) (joined (λ b. b.cones) bs) (linked_sound (c + width b) bs h.1),
    )

-- ---- this program

module _ (p : Problem) where
  root_stage_width : width (root_stage p.path) ≡ L p.path
  unfolding root_stage
  root_stage_width = length-replicate (L p.path) +0

  standard_width : width (standard p) ≡ 0
  unfolding standard
  standard_width = refl

module _ (p : Problem) (l : Sizes p.path) where
  linear_sound : (C : ℕ) (w : Float) (a b : List Float) → All (SoundCone C) (linear_block p.path p.roots w a b).cones
  unfolding linear_block
  linear_sound C w a b = tt

  -- an objective's block, after the a and b columns and, where it uses them, the xi columns
  objective_sound : (c : ℕ) (o : Objective) → 2 * (n p.path + 1) ≤ c → (uses_root o ≡ true → 2 * (n p.path + 1) + L p.path ≤ c)
      → All (SoundCone (c + (objective_counts p o).columns)) (objective_block p c o).cones
  unfolding objective_block objective_counts
  objective_sound c (Time w) a b = time_sound p.path l c (b refl) w
  objective_sound c (ThermalEnergy w o len) a b = thermal_sound p.path l c (b refl) p.torque p.thermal w _
  objective_sound c (TotalVariationTorque w o len) a b = torque_sound p.path l p.torque c a _ w
  objective_sound c (Linear w al all be bel) a b = linear_sound (c + 0) w _ _

  objectives_linked : (c : ℕ) (os : List Objective) → 2 * (n p.path + 1) ≤ c → (some uses_root os ≡ true → 2 * (n p.path + 1) + L p.path ≤ c)
      → Linked c (objective_blocks p c os)
  unfolding objective_blocks
  objectives_linked c [] a b = tt
  objectives_linked c (o ∷ os) a b = (
    cones_more (c + (objective_counts p o).columns) (c + width (objective_block p c o))
        (omega (arith, ap (λ (t : FourCounts). t.columns) (objective_counted p c o))) (objective_block p c o).cones
        (objective_sound c o a (λ e. b (simp e))),
    objectives_linked (c + width (objective_block p c o)) os (omega arith) (λ e. let h = b (simp (e, or-true)) in omega arith),
  )

  standard_sound : All (SoundCone (2 * (n p.path + 1))) (standard p).cones
  unfolding standard
  standard_sound = (equalities_sound p.path l p.boundary, (inequalities_sound p.path l p.limits p.acc p.jerk, tt))

  root_width : (has_root p ≡ true) → width (root p) ≡ L p.path
  unfolding root root_stage
  root_width e = simp e (length-replicate (L p.path) +0)

  root_linked : All (SoundCone (2 * (n p.path + 1) + width (root p))) (root p).cones
  unfolding root
  root_linked = go (has_root p)
    where
      go : (b : Bool) → All (SoundCone (2 * (n p.path + 1) + width (cond b (root_stage p.path) nothing))) (cond b (root_stage p.path) nothing).cones
      go true = cones_more (2 * (n p.path + 1) + L p.path) (2 * (n p.path + 1) + width (root_stage p.path)) (omega (arith, root_stage_width p)) (root_stage p.path).cones (root_sound p.path l)
      go false = tt

  blocks_linked : Linked (2 * (n p.path + 1)) (blocks p)
  unfolding blocks
  blocks_linked =
      simp (standard_width p, add-zero) (
        standard_sound,
        (
          root_linked,
          objectives_linked (2 * (n p.path + 1) + width (root p)) (objectives p) (omega arith) (λ e. let h = root_width e in omega arith),
        ),
      )

  -- all bands, below the number of columns
  pub bands_sound : All (Sound (length (cost p))) (bands p)
  unfolding bands cones cost
  bands_sound =
      (all_joined (Sound (length (cost p))) (λ c. c.bands) (cones p)).1
      (cones_more (2 * (n p.path + 1) + sum width (blocks p)) (length (cost p))
      (omega (arith, cost_length (replicate (2 * (n p.path + 1)) +0) (blocks p), length-replicate (2 * (n p.path + 1)) +0))
      (cones p) (linked_sound (2 * (n p.path + 1)) (blocks p) blocks_linked))

  -- every entry names a row below the number of rows and a column below the number of columns
  pub entry_inside : (i : ℕ) (e : Entry) → i < length (entries p)
      → ((get_or (entries p) i e).row < length (right_side p)) × ((get_or (entries p) i e).column < length (cost p))
  unfolding entries right_side
  entry_inside i e lt =
      let h = all_at (Inside 0 (0 + heights (bands p)) (length (cost p))) (entries p) i e (entries_inside 0 (length (cost p)) (bands p) bands_sound) lt in
      let r = right_heights (bands p) in
      (omega arith, h.column)

  -- no position is named twice
  pub entry_once : (i j : ℕ) (e : Entry) → i < length (entries p) → j < length (entries p)
      → (get_or (entries p) i e).row ≡ (get_or (entries p) j e).row → (get_or (entries p) i e).column ≡ (get_or (entries p) j e).column → i ≡ j
  unfolding entries
  entry_once i j e = apart_at (entries p) e i j (entries_apart 0 (length (cost p)) (bands p) bands_sound)
