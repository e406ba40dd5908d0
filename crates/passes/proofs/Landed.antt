-- What the program's block leaves from the start: the model's lists in the buffers, its lengths in the tally. Assumes nothing.
use mathlib.Core.Path.{◌≡◌, refl, sym, ap, ◌∙◌}
use mathlib.Core.Bool.{Bool, not}
use mathlib.Core.List.{List, ◌++◌}
use Prim.Native.Nat.{ℕ, ◌+◌, ◌≤◌}
use native.Mathlib.Nat.{zero-add}
use native.Mathlib.Omega.{arith}
use lib.Ieee.{Float}
use lib.ListN.{length, drop, length-map}
use lib.Seq.{sets, sets-eq}
use lib.Dec.{ltb}
use Rattle.model.specs.Problem.{Problem, objectives}
use Rattle.model.specs.Assembled.{cones, bands, entries, right_side, cost, row_numbers, column_numbers, values, cone_kinds, cone_dimensions, list_lengths}
use Rattle.model.specs.Counts.{counts}
use Rattle.model.specs.Verdicts.{◌then◌, refuse}
use Rattle.model.specs.Refusals.{refusal}
use Rattle.model.specs.Answers.{Buffers, buffers, told, answered, outcome, lengths, room_refusal, index_refusal, every_finite, finite_refusal, verdict_of, written, assembly}
use Rattle.model.specs.Answers as answers
use Rattle.model.specs.Owners.{index, index_places}
use Rattle.std.specs.Prelude.{Ok, Err}
use Rattle.model.specs.declared.rule.Rule.TheVariants.{NumberNotFinite, IndexTooShort}
use Rattle.model.specs.Verdicts.{Verdict, Answer}
use Rattle.model.specs.declared.Refusal.{Refusal}
use Rattle.model.specs.Verdicts as verdicts
use Rattle.model.specs.Counts.{four_counts}
use Rattle.model.specs.declared.FourCounts.{FourCounts}
use Rattle.model.specs.declared.Tally.{Tally}
use Rattle.model.proofs.Passes.{then_passes}
use Rattle.model.proofs.Owned.{index_length}
use Rattle.model.proofs.Room.{Enough, room_passes, HasIndex, index_passes}
use Rattle.buffers.specs.Buffers.{State, state, tally_of, emit}
use Rattle.buffers.specs.Owned.{reowned}
use Rattle.objectives.proofs.Blocks.{built_most}
use Rattle.model.specs.declared.Buffers.{Buffers as LentBuffers}
use Rattle.passes.specs.Program.{start_at, finished, Complete, Completes}

sets-front {ℓ} : {A : Type ℓ} (l vs : List A) → length vs ≤ length l → sets l 0 vs ≡ vs ++ drop (length vs) l
sets-front l vs h = sets-eq vs l 0 (rw zero-add h) ∙ ap (λ k. vs ++ drop k l) (zero-add (length vs))

module _ {s s' : State} {x x' : List ℕ} {p : Problem} {b : ℕ} (g : Complete s s' x x' p b) where
  pub complete_most : {c : ℕ} → b ≤ c → Complete s s' x x' p c
  complete_most h = record { built = built_most g.built h; index = g.index; owner = g.owner }

pub completes_most : {t t' : Tally} {b b' : LentBuffers} {p : Problem} {n c : ℕ} → Completes t b t' b' p n → n ≤ c → Completes t b t' b' p c
completes_most g h = record { same = g.same; complete = complete_most g.complete h }

module _ (p : Problem) {R C : List ℕ} {W H : List Float} {K D : List ℕ} {Q : List Float} {R' C' : List ℕ} {W' H' : List Float} {K' D' : List ℕ} {Q' : List Float} {t : Tally} {x x' : List ℕ} {b : ℕ}
    (g : Complete (state R C W H K D Q (start_at 0)) (state R' C' W' H' K' D' Q' t) x x' p b) where
  pub landed_tally : t ≡ finished p
  unfolding emit values entries right_side bands
  landed_tally =
      (λ i. reowned (g.owner i) (g.built.says i).tally)
      ∙ (λ i. tally_of (zero-add (length (entries p)) i) (zero-add (length (right_side p)) i) (zero-add (length (cones p)) i) (zero-add (length (cost p)) i) (length (objectives p) + 2))

  module _ (same : list_lengths p ≡ counts p) (f : Enough (counts p) (buffers R C W H K D Q x)) (has : HasIndex p (buffers R C W H K D Q x)) where
    landed : buffers R' C' W' H' K' D' Q' x' ≡ written p (buffers R C W H K D Q x)
    unfolding emit written list_lengths row_numbers column_numbers values cone_kinds cone_dimensions entries right_side bands
    landed =
        let e = ap (λ (x : FourCounts). x.entries) same in
        let r = ap (λ (x : FourCounts). x.rows) same in
        let c = ap (λ (x : FourCounts). x.cones) same in
        let k = ap (λ (x : FourCounts). x.columns) same in
        let s = g.built.says in
        λ i. record {
          rows = (ap (λ x. x.rows) s ∙ sets-front R (row_numbers p) (rw (length-map, e) (f 0 (omega arith)))) i;
          columns = (ap (λ x. x.columns) s ∙ sets-front C (column_numbers p) (rw (length-map, e) (f 1 (omega arith)))) i;
          values = (ap (λ x. x.values) s ∙ sets-front W (values p) (rw (length-map, e) (f 2 (omega arith)))) i;
          right = (ap (λ x. x.right) s ∙ sets-front H (right_side p) (rw r (f 3 (omega arith)))) i;
          kinds = (ap (λ x. x.kinds) s ∙ sets-front K (cone_kinds p) (rw (length-map, c) (f 4 (omega arith)))) i;
          dimensions = (ap (λ x. x.dimensions) s ∙ sets-front D (cone_dimensions p) (rw (length-map, c) (f 5 (omega arith)))) i;
          cost = (ap (λ x. x.cost) s ∙ sets-front Q (cost p) (rw k (f 6 (omega arith)))) i;
          index = (g.index ∙ sets-front x (index p) (rw (index_length p) has)) i;
        }

-- ---- the answers

module _ (p : Problem) (have : List ℕ) (long : ℕ) {v : Verdict} (e : v ≡ refusal p) where
  pub passed : {t : FourCounts} {count : ℕ} {ok : Bool} {u : Verdict} → v ≡ verdicts.accepted → t ≡ counts p → count ≡ length (objectives p) → ok ≡ every_finite p
      → u ≡ (room_refusal t have then refuse IndexTooShort 0 (ltb long (index_places count)) then refuse NumberNotFinite 0 (not ok)) → u ≡ verdict_of p have long
  unfolding ◌then◌ index_refusal finite_refusal
  passed f same few g h =
      rw (sym e ∙ f) (h ∙ (λ i. room_refusal (same i) have then refuse IndexTooShort 0 (ltb long (index_places (few i))) then refuse NumberNotFinite 0 (not (g i))))

module _ (p : Problem) (b : Buffers) {v : Verdict} (e : v ≡ verdict_of p (lengths b) (length b.index)) where
  pub refused : {x : Refusal} {r : Answer} → v ≡ Err x → r ≡ Err x → answered r b ≡ assembly p b
  unfolding assembly answers.result outcome
  refused f g = rw (g, sym e ∙ f) refl

  -- what an acceptance passed: 1 to 18; 19; 28; 20
  passes : v ≡ verdicts.accepted → (refusal p ≡ verdicts.accepted) × (Enough (counts p) b × (HasIndex p b × (finite_refusal p ≡ verdicts.accepted)))
  passes f = simp (then_passes, room_passes, index_passes) at (sym e ∙ f)

  pub accepted : v ≡ verdicts.accepted → refusal p ≡ verdicts.accepted
  accepted f = (passes f).0

  pub done : {R C : List ℕ} {W H : List Float} {K D : List ℕ} {Q : List Float} {t : Tally} {x : List ℕ} {k : ℕ} → v ≡ verdicts.accepted → list_lengths p ≡ counts p
      → Complete (state b.rows b.columns b.values b.right b.kinds b.dimensions b.cost (start_at 0)) (state R C W H K D Q t) b.index x p k
      → answered (Ok (four_counts t.entries t.rows.at t.cones t.columns.at)) (buffers R C W H K D Q x) ≡ assembly p b
  unfolding assembly answers.result outcome list_lengths
  done {t} f same g =
      let h = landed p g same (passes f).1.0 (passes f).1.1.0 in
      let tally = landed_tally p g in
      rw (sym e ∙ f)
      (λ i. record {
        told = (ap (λ (z : Tally). told (Ok (four_counts z.entries z.rows.at z.cones z.columns.at))) tally
            ∙ ap (λ (z : FourCounts). told (Ok (four_counts z.entries z.rows z.cones z.columns))) same) i;
        buffers = h i;
      })
