-- Refusal 19, over the buffers' numbers: it finds nothing if every buffer is long enough, and else the first that is not. Then refusal 28.
use Prim.Native.Nat.{ℕ, zero, suc, ◌+◌, ◌≤◌, ◌<◌}
use native.Mathlib.Omega.{arith}
use native.Mathlib.Decide.{ℕ_discrete}
use mathlib.Core.Path.{◌≡◌, refl}
use mathlib.Core.Logic.{◌↔◌}
use mathlib.Core.Bool.{Bool, true, false}
use mathlib.Core.List.{List, [], ◌∷◌}
use lib.ListN.{length, get_or}
use lib.Dec.{ltb}
use borrow.Author.Tests.{ltb-true, ltb-false, lt-ltb, le-ltb}
use Rattle.std.specs.Prelude.{Ok, Err}
use Rattle.model.specs.Verdicts.{Verdict, accepted, refused, ◌then◌, refuse, lowest, itself}
use Rattle.model.specs.Problem.{Problem, objectives}
use Rattle.model.specs.Owners.{index_places}
use Rattle.model.specs.Answers.{Buffers, lengths, room_refusal, index_refusal}
use Rattle.model.specs.declared.FourCounts.{FourCounts}
use Rattle.model.specs.declared.rule.Rule.{Rule}
use Rattle.model.specs.declared.rule.Rule.TheVariants.{BufferTooShort, IndexTooShort}
use Rattle.model.proofs.Passes.{refuse_passes}

pub then_accepted : (v : Verdict) → (v then accepted) ≡ v
unfolding ◌then◌
then_accepted (Ok tt) = refl
then_accepted (Err e) = refl

-- ---- what `lowest` finds, for any test

-- i is the lowest number from k on at which the test passes
pub record First (test : ℕ → Bool) (k i : ℕ) : Type 0 where
  pub above : k ≤ i
  pub passes : test i ≡ true
  pub earlier : (j : ℕ) → k ≤ j → j < i → test j ≡ false

-- among c numbers from k on there is none, or a first one
pub data Looked (test : ℕ → Bool) (k c : ℕ) : Type 0 where
  none : ((i : ℕ) → k ≤ i → i < k + c → test i ≡ false) → Looked test k c
  found : (i : ℕ) → i < k + c → First test k i → Looked test k c

module _ (test : ℕ → Bool) where
  -- the test fails at k and from the next number on
  all_false : (k b : ℕ) → test k ≡ false → ((i : ℕ) → suc k ≤ i → i < b → test i ≡ false) → (i : ℕ) → k ≤ i → i < b → test i ≡ false
  all_false k b e h i x y = go (ℕ_discrete k i)
    where
      go : Dec (k ≡ i) → test i ≡ false
      go (yes q) = rw q at e
      go (no q) = h i (omega arith) y

  look_step : (k c : ℕ) (b : Bool) → test k ≡ b → Looked test (suc k) c → Looked test k (suc c)
  look_step k c true e l = found k (omega arith) (record { above = omega arith; passes = e; earlier = λ j x y. absurd (omega arith) })
  look_step k c false e (none h) = none (all_false k (k + suc c) e (λ i x y. h i x (omega arith)))
  look_step k c false e (found i lt f) = found i (omega arith) (record { above = omega arith; passes = f.passes; earlier = all_false k i e f.earlier })

  pub look : (k c : ℕ) → Looked test k c
  look k zero = none (λ i a b. absurd (omega arith))
  look k (suc c) = look_step k c (test k) refl (look (suc k) c)

  module _ (r : Rule) (place : ℕ → ℕ) where
    pub lowest_none : (k c : ℕ) → ((i : ℕ) → k ≤ i → i < k + c → test i ≡ false) → lowest r place test k c ≡ accepted
    unfolding lowest refuse ◌then◌
    lowest_none k zero h = refl
    lowest_none k (suc c) h = simp (h k (omega arith) (omega arith)) (lowest_none (suc k) c (λ i a b. h i (omega arith) (omega arith)))

    pub lowest_first : (k c i : ℕ) → i < k + c → First test k i → lowest r place test k c ≡ refused r (place i)
    unfolding lowest refuse ◌then◌
    lowest_first k zero i lt f = absurd (omega arith)
    lowest_first k (suc c) i lt f = go (λ x y. lowest_first (suc k) c i x y) (ℕ_discrete k i)
      where
        go : (i < suc k + c → First test (suc k) i → lowest r place test (suc k) c ≡ refused r (place i)) → Dec (k ≡ i) → lowest r place test k (suc c) ≡ refused r (place i)
        go next (yes q) = simp (q, f.passes)
        go next (no q) =
            simp (f.earlier k (omega arith) (omega arith))
            (next (omega arith) (record { above = omega arith; passes = f.passes; earlier = λ j a b. f.earlier j (omega arith) b }))

-- ---- the seven buffers

-- how many places buffers 0 to 6 need
abbrev pub needs : FourCounts → List ℕ
needs t = t.entries ∷ t.entries ∷ t.entries ∷ t.rows ∷ t.cones ∷ t.cones ∷ t.columns ∷ []

-- every buffer has its places
abbrev pub Enough : FourCounts → Buffers → Type 0
Enough t b = (i : ℕ) → i < 7 → get_or (needs t) i 0 ≤ get_or (lengths b) i 0

-- buffer i is the first that has not
pub record Short (t : FourCounts) (b : Buffers) (i : ℕ) : Type 0 where
  pub index : i < 7
  pub short : get_or (lengths b) i 0 < get_or (needs t) i 0
  pub before : (j : ℕ) → j < i → get_or (needs t) j 0 ≤ get_or (lengths b) j 0

pub data Room (t : FourCounts) (b : Buffers) : Type 0 where
  enough : Enough t b → Room t b
  short : (i : ℕ) → Short t b i → Room t b

module _ (t : FourCounts) (b : Buffers) where
  abbrev missing : ℕ → Bool
  missing i = ltb (get_or (lengths b) i 0) (get_or (needs t) i 0)

  room_lowest : room_refusal t (lengths b) ≡ lowest BufferTooShort itself missing 0 7
  unfolding room_refusal lowest
  room_lowest = simp then_accepted

  pub room_enough : Enough t b → room_refusal t (lengths b) ≡ accepted
  room_enough h = rw room_lowest (lowest_none missing BufferTooShort itself 0 7 (λ i _ lt. le-ltb (get_or (lengths b) i 0) (get_or (needs t) i 0) (h i lt)))

  pub room_short : (i : ℕ) → Short t b i → room_refusal t (lengths b) ≡ refused BufferTooShort i
  room_short i s =
      rw room_lowest
      (lowest_first missing BufferTooShort itself 0 7 i s.index
      (record {
        above = omega arith;
        passes = lt-ltb (get_or (lengths b) i 0) (get_or (needs t) i 0) s.short;
        earlier = λ j _ lt. le-ltb (get_or (lengths b) j 0) (get_or (needs t) j 0) (s.before j lt);
      }))

  pub room : Room t b
  room = go (look missing 0 7)
    where
      go : Looked missing 0 7 → Room t b
      go (none h) = enough (λ i lt. ltb-false (get_or (lengths b) i 0) (get_or (needs t) i 0) (h i (omega arith) lt))
      go (found i lt f) =
          short i
          (record {
            index = lt;
            short = ltb-true (get_or (lengths b) i 0) (get_or (needs t) i 0) f.passes;
            before = λ j x. ltb-false (get_or (lengths b) j 0) (get_or (needs t) j 0) (f.earlier j (omega arith) x);
          })

  pub room_passes : (room_refusal t (lengths b) ≡ accepted) ↔ Enough t b
  room_passes = (λ e. go e room, room_enough)
    where
      go : room_refusal t (lengths b) ≡ accepted → Room t b → Enough t b
      go e (enough h) = h
      go e (short i s) = let z : ◌≡◌ {A = ℕ} 0 1 = cc (room_short i s) in absurd (omega arith)

-- ---- the index

-- "an index buffer that has its places"
abbrev pub HasIndex : Problem → Buffers → Type 0
HasIndex p b = index_places (length (objectives p)) ≤ length b.index

module _ (p : Problem) (b : Buffers) where
  pub index_short : length b.index < index_places (length (objectives p)) → index_refusal p (length b.index) ≡ refused IndexTooShort 0
  unfolding index_refusal refuse
  index_short h = rw (lt-ltb (length b.index) (index_places (length (objectives p))) h)

  pub index_passes : (index_refusal p (length b.index) ≡ accepted) ↔ HasIndex p b
  unfolding index_refusal
  index_passes =
      let t = refuse_passes IndexTooShort 0 (ltb (length b.index) (index_places (length (objectives p)))) in
      (λ e. ltb-false (length b.index) (index_places (length (objectives p))) (t.0 e), λ h. t.1 (le-ltb (length b.index) (index_places (length (objectives p))) h))
