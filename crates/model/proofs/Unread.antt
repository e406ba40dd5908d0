-- "A number of tables 2 to 15, alpha or beta that no row or cost uses is never read; an end with count 0 has bounds that aren't read." "A table that doesn't count may have any
-- length": problems that agree on what is used get the same answers and the same buffers, refused ones too.
use Prim.Native.Nat.{ℕ, suc, zero, ◌+◌, ◌*◌}
use native.Mathlib.Omega.{arith}
use mathlib.Core.Path.{◌≡◌, refl, sym, ap, subst, ◌∙◌}
use mathlib.Core.Bool.{Bool, true, false, not, ◌&&◌, or-true, false≢true}
use mathlib.Core.List.{List, [], ◌∷◌, map}
use lib.ListN.{length, get_or, take, set, replicate, length-map, length-set}
use lib.Seq.{get_or-set_other}
use lib.Dec.{ltb}
use lib.Ieee.{Float, nan}
use Rattle.std.specs.Prelude.{Ok, Err}
use Rattle.model.specs.Numbers.{at, +0}
use Rattle.model.specs.Lists.{joined}
use Rattle.model.specs.Problem.{Problem, Limits, objectives, n, some, is_thermal}
use Rattle.model.specs.Program.{dimension, entries_from, right_sides}
use Rattle.model.specs.Verdicts.{Verdict, accepted, ◌then◌, refuse}
use Rattle.model.specs.Refusals.{refusal}
use Rattle.model.specs.Assembled.{cost_after, cones, bands, entries, right_side, cost, row_numbers, column_numbers, values, cone_kinds, cone_dimensions, list_lengths, all_finite}
use Rattle.model.specs.Counts.{counts}
use Rattle.model.specs.Owners.{owners_from, eight, tally_start, owners, index, index_places}
use Rattle.model.specs.Answers.{Buffers, lengths, onto, outcome, sizing, room_refusal, index_refusal, finite_refusal, written, result, verdict_of, assembly}
use Rattle.model.specs.Used.{Same, Inner, SameLimits, SameTorque, SameFor, Agree}
use Rattle.model.specs.declared.Bounds.{Bounds}
use Rattle.model.specs.declared.Objective.{Objective}
use Rattle.model.specs.declared.Objective.TheVariants.{Time, ThermalEnergy, TotalVariationTorque, Linear}
use Rattle.model.specs.declared.rule.Rule.TheVariants.{NumberNotFinite, IndexTooShort}
use Rattle.model.proofs.Counted.{same_counts, counted}
use Rattle.model.proofs.Sizes.{Sizes}
use Rattle.model.proofs.Usable.{usable, usable_sizes}
use Rattle.model.proofs.Cut.{Alike, through, cut_band, cut_cone, cut_block, cones_alike, bands_alike, entries_cut, right_cut, kinds_cut, dimensions_cut, cost_cut, owners_cut}
use Rattle.model.proofs.UnreadRefusals.{merged, merged_is, refusal_same}
use Rattle.model.proofs.UnreadBlocks.{blocks_alike}

-- what a caller sees of a problem: what sizing answers, and the assembly with any buffers
pub record SameAnswers (p p' : Problem) : Type 0 where
  pub sizing : sizing p ≡ sizing p'
  pub assembly : (b : Buffers) → assembly p b ≡ assembly p' b

module _ (p p' : Problem) (u : Agree p (merged p p')) where
  abbrev r : Problem
  r = merged p p'

  -- ---- an accepted problem: all lists are equal, and with their lengths the counts

  module _ (l : Sizes p.path) where
    cones_same : Alike cut_cone (cones p) (cones r)
    unfolding cones
    cones_same = cones_alike (blocks_alike p p' l u)

    entries_same : entries p ≡ entries r
    unfolding entries bands
    entries_same = through cut_band (entries_from 0) (entries_cut 0) (bands_alike cones_same)

    right_same : right_side p ≡ right_side r
    unfolding right_side bands
    right_same = through cut_band right_sides right_cut (bands_alike cones_same)

    kinds_same : cone_kinds p ≡ cone_kinds r
    unfolding cone_kinds
    kinds_same = through cut_cone (map (λ c. c.kind)) kinds_cut cones_same

    dimensions_same : cone_dimensions p ≡ cone_dimensions r
    unfolding cone_dimensions
    dimensions_same = through cut_cone (map dimension) dimensions_cut cones_same

    cost_same : cost p ≡ cost r
    unfolding cost
    cost_same = let q = replicate (2 * (n p.path + 1)) +0 in through cut_block (cost_after q) (cost_cut q) (blocks_alike p p' l u)

    index_same : index p ≡ index r
    unfolding index owners
    index_same = ap (joined eight) (through cut_block (owners_from (tally_start p)) (owners_cut (tally_start p)) (blocks_alike p p' l u))

    counts_same : counts p ≡ counts r
    unfolding list_lengths cone_kinds
    counts_same =
        sym (counted p l)
        ∙ same_counts (ap length entries_same) (ap length right_same) (sym (length-map (cones p) _) ∙ ap length kinds_same ∙ length-map (cones r) _) (ap length cost_same)
        ∙ counted r l

    written_same : (b : Buffers) → written p b ≡ written r b
    unfolding written row_numbers column_numbers values
    written_same b =
        λ i. record {
          rows = onto (map (λ e. e.row) (entries_same i)) b.rows;
          columns = onto (map (λ e. e.column) (entries_same i)) b.columns;
          values = onto (map (λ e. e.value) (entries_same i)) b.values;
          right = onto (right_same i) b.right;
          kinds = onto (kinds_same i) b.kinds;
          dimensions = onto (dimensions_same i) b.dimensions;
          cost = onto (cost_same i) b.cost;
          index = onto (index_same i) b.index;
        }

    verdict_same : (have : List ℕ) (long : ℕ) → verdict_of p have long ≡ verdict_of r have long
    unfolding index_refusal finite_refusal values
    verdict_same have long =
        λ i. refusal_same p p' u i
        then room_refusal (counts_same i) have
        then refuse IndexTooShort 0 (ltb long (index_places (length (u.chosen i))))
        then refuse NumberNotFinite 0 (not (all_finite (map (λ e. e.value) (entries_same i)) && all_finite (right_same i) && all_finite (cost_same i)))

    result_same : (v : Verdict) (b : Buffers) → result v p b ≡ result v r b
    unfolding result outcome
    result_same (Ok tt) b = λ i. record { told = outcome accepted (counts_same i); buffers = written_same b i }
    result_same (Err e) b = refl

  answers : (v : Verdict) → refusal p ≡ v → SameAnswers p r
  unfolding sizing assembly result outcome ◌then◌
  answers (Ok tt) e =
      let l = usable_sizes p (usable p e) in
      record {
        sizing = λ i. outcome (refusal_same p p' u i) (counts_same l i);
        assembly = λ b. result_same l (verdict_of p (lengths b) (length b.index)) b ∙ ap (λ v. result v r b) (verdict_same l (lengths b) (length b.index));
      }
  answers (Err x) e = let e' : refusal r ≡ Err x = sym (refusal_same p p' u) ∙ e in record { sizing = rw (e, e'); assembly = λ b. rw (e, e') }

pub unread : (p p' : Problem) → Agree p p' → SameAnswers p p'
unread p p' u =
    let e = merged_is p p' u in
    subst (SameAnswers p) e (answers p p' (subst (Agree p) (sym e) u) (refusal p) refl)

-- an objective of a kind is some objective of it
some_at : (f : Objective → Bool) (os : List Objective) (i : ℕ) → f (Time nan) ≡ false → f (get_or os i (Time nan)) ≡ true → some f os ≡ true
some_at f [] i z e = absurd (false≢true (sym z ∙ e))
some_at f (o ∷ os) zero z e = simp e
some_at f (o ∷ os) (suc i) z e = simp (some_at f os i z e, or-true)

-- ---- the sentences, for some numbers that are not used

module _ (p : Problem) where
  -- the problem with other slots, bounds and thermal weights
  abbrev other : List Objective → Limits → List Float → Problem
  other os l t =
      record {
        boundary = p.boundary;
        path = p.path;
        count = p.count;
        slots = os;
        pool = p.pool;
        limits = l;
        acc = p.acc;
        jerk = p.jerk;
        thermal = t;
        torque = p.torque;
        roots = p.roots;
      }

  same : {used : ℕ → Type 0} (t : List Float) → Same used t t
  same t = record { long = refl; equal = λ i h. refl }

  torque_same : {used : ℕ → Type 0} → SameTorque p.path used p.torque p.torque
  torque_same = record { a = same _; b = same _; g = same _ }

  module _ (os : List Objective) (l : Limits) (t : List Float) where
    for_same : (o : Objective) → (is_thermal o ≡ true → p.thermal ≡ t) → SameFor p (other os l t) o
    for_same (Time w) e = tt
    for_same (ThermalEnergy w start len) e = (refl, torque_same, record { long = ap length (e refl); equal = λ i h. ap (λ x. at x i) (e refl) })
    for_same (TotalVariationTorque w start len) e = (refl, torque_same)
    for_same (Linear w a al b bl) e = (same _, same _, same _, same _)

    other_unread : objectives p ≡ take p.count os → SameLimits p.path p.limits l → (some is_thermal (objectives p) ≡ true → p.thermal ≡ t) → SameAnswers p (other os l t)
    other_unread f h e =
        unread p (other os l t) record {
          boundary = refl;
          path = refl;
          count = refl;
          chosen = f;
          d = refl;
          limits = h;
          acc = record { counts = refl; a = same _; b = same _; max = same _ };
          jerk = record { counts = refl; a = same _; b = same _; c = same _; max = same _ };
          lists = λ i. for_same (get_or (objectives p) i (Time nan)) (λ s. e (some_at is_thermal (objectives p) i refl s));
        }

  -- "an end with count 0 has bounds that aren't read"
  pub unread_start : (b : Bounds) → p.path.N0 ≡ 0 → SameAnswers p (other p.slots record { start = b; end = p.limits.end; amax = p.limits.amax } p.thermal)
  unread_start b e = other_unread _ _ _ refl record { start = λ h. absurd (omega arith); end = λ h. refl; amax = same _ } (λ h. refl)

  pub unread_end : (b : Bounds) → p.path.N1 ≡ 0 → SameAnswers p (other p.slots record { start = p.limits.start; end = b; amax = p.limits.amax } p.thermal)
  unread_end b e = other_unread _ _ _ refl record { start = λ h. refl; end = λ h. absurd (omega arith); amax = same _ } (λ h. refl)

  -- "u is the number of finite upper bounds among .. amax of stations N0+1 to n−N1−1": of no other station is it used
  pub unread_amax : (k : ℕ) (x : Float) → ¬ Inner p.path k
      → SameAnswers p (other p.slots record { start = p.limits.start; end = p.limits.end; amax = set p.limits.amax k x } p.thermal)
  unread_amax k x out =
      other_unread _ _ _ refl record {
        start = λ h. refl;
        end = λ h. refl;
        amax =
            record {
              long = sym (length-set p.limits.amax k x);
              equal = λ i h. sym (get_or-set_other p.limits.amax k i x nan (λ e. out (rw e at h)));
            };
      } (λ h. refl)

  -- "Table 10 counts only with a ThermalEnergy objective": without one it "may have any length"
  pub unread_weights : (t : List Float) → some is_thermal (objectives p) ≡ false → SameAnswers p (other p.slots p.limits t)
  unread_weights t e = other_unread _ _ _ refl record { start = λ h. refl; end = λ h. refl; amax = same _ } (λ h. absurd (false≢true (sym e ∙ h)))

  -- slots past the count
  abbrev pub with_slots : List Objective → Problem
  with_slots os = other os p.limits p.thermal

  pub unread_slots : (os : List Objective) → objectives p ≡ take p.count os → SameAnswers p (with_slots os)
  unread_slots os e = other_unread _ _ _ e record { start = λ h. refl; end = λ h. refl; amax = same _ } (λ h. refl)
