-- Demands 1 and 3 of what C and Rust call: `copp3_size` answers `sized_as`, `copp3_assemble` answers and leaves `assembled_as`. `count` objectives are in the records
-- `items`; p is the problem with the objectives that these stand for. A problem is accepted if besides every kind that counts is known.
use Prim.Native.Nat.{ℕ, ◌+◌, ◌≤◌, ◌<◌}
use native.Mathlib.Decide.{ℕ_discrete}
use native.Mathlib.Omega.{arith}
use mathlib.Core.Path.{◌≡◌, refl, sym, ap, subst, ◌∙◌}
use mathlib.Core.Logic.{◌↔◌, ◌≢◌}
use mathlib.Core.List.{List}
use lib.ListN.{length, get_or}
use borrow.Author.Tests.{eq-eqb, ne_eqb}
use Rattle.std.specs.Prelude.{Ok, Err}
use Rattle.model.specs.Problem.{Problem, objectives}
use Rattle.model.specs.Rules.{rule_number}
use Rattle.model.specs.Verdicts.{Verdict, accepted}
use Rattle.model.specs.Refusals.{refusal}
use Rattle.model.specs.Counts.{counts, entry_bound}
use Rattle.model.specs.Owners.{index_places}
use Rattle.model.specs.Answers.{Told, outcome, sizing, Buffers, lengths, assembly}
use Rattle.model.specs.declared.Refusal.{Refusal}
use Rattle.model.proofs.Rules.{rule_positive}
use Rattle.model.proofs.Room.{needs, Enough, Short, HasIndex}
use Rattle.model.proofs.Written.{Writes, Formed}
use Rattle.model.proofs.Demand1.{FiniteBelow, refused_unchanged, refused_alike, accepted_exactly, finite_written}
use Rattle.model.proofs.Demand3.{Acceptable, demand3}
use Rattle.copp3_c.specs.declared.AnswerRecord.{AnswerRecord}
use Rattle.copp3_c.specs.declared.ObjectiveRecord.{ObjectiveRecord}
use Rattle.copp3_c.specs.Exported.{kind_refusal, refused_record, counts_record, answer_record, sizing_after, assembly_after, Exported, exported, exported_as, sized_as, assembled_as}
use Rattle.copp3_c.proofs.KnownKinds.{AllKnown, Unknown, kind_unknown, kinds_known}

-- the record has the answer's number
answer_number : (t : Told) → (answer_record t).number ≡ t.number
unfolding answer_record
answer_number t = go (ℕ_discrete t.number 0)
  where
    go : Dec (t.number ≡ 0) → (answer_record t).number ≡ t.number
    go (yes h) = rw (eq-eqb t.number 0 h) (sym h)
    go (no h) = rw (ne_eqb t.number 0 h) refl

-- Demand 1
pub record ExportedDemand1 (count : ℕ) (items : List ObjectiveRecord) (p : Problem) : Type 0 where
  -- "Refused first, by number and with every output buffer still holding its old contents"
  pub refused_unchanged : (b : Buffers) → (assembled_as count items p b).answer.number ≢ 0 → (assembled_as count items p b).buffers ≡ b
  -- 40, before all refusals: the first record that counts and has an unknown kind
  pub unknown_kind : (i : ℕ) → Unknown count items i → (sized_as count items p ≡ refused_record 40 i) × ((b : Buffers) → assembled_as count items p b ≡ exported (refused_record 40 i) b)
  -- what sizing refuses the assembly refuses alike, whatever the buffers
  pub refused_alike : (b : Buffers) → (sized_as count items p).number ≢ 0 → assembled_as count items p b ≡ exported (sized_as count items p) b
  -- "Accepted: every other problem, with nothing tested beforehand by the caller"
  pub accepted_exactly : (b : Buffers) → ((assembled_as count items p b).answer.number ≡ 0) ↔ (AllKnown count items × Acceptable p × Enough (counts p) b × HasIndex p b)
  -- "any problem with a number to be written that isn't finite" is refused
  pub finite_written : (b : Buffers) → (assembled_as count items p b).answer.number ≡ 0 → FiniteBelow (counts p) (assembled_as count items p b).buffers

-- Demand 3. "For every accepted problem, whatever lengths the lent output buffers have:"
pub record ExportedDemand3 (count : ℕ) (items : List ObjectiveRecord) (p : Problem) : Type 0 where
  -- "sizing answers the numbers of entries, rows, cones and columns that document 01's formulas give."
  pub sizing_counts : sized_as count items p ≡ counts_record (counts p)
  -- "The assembly succeeds exactly when every buffer has its places for these four,"
  pub succeeds_exactly : (b : Buffers) → HasIndex p b → ((assembled_as count items p b).answer.number ≡ 0) ↔ Enough (counts p) b
  -- "so buffers of just those lengths suffice, and it then reports the same four;"
  pub reports : (b : Buffers) → HasIndex p b → Enough (counts p) b → (assembled_as count items p b).answer ≡ sized_as count items p
  pub just_enough : (b : Buffers) → HasIndex p b → lengths b ≡ needs (counts p) → (assembled_as count items p b).answer ≡ sized_as count items p
  -- "otherwise, .. , it is refused as no room"
  pub otherwise : (b : Buffers) → (Enough (counts p) b → ⊥) → ((assembled_as count items p b).answer.number ≡ 19) × ((assembled_as count items p b).buffers ≡ b)
  pub no_room : (b : Buffers) (i : ℕ) → Short (counts p) b i → assembled_as count items p b ≡ exported (refused_record 19 i) b
  -- "as with one place fewer in any"
  pub one_fewer : (b : Buffers) (i : ℕ) → i < 7 → get_or (lengths b) i 0 + 1 ≡ get_or (needs (counts p)) i 0
      → ((j : ℕ) → j < 7 → j ≢ i → get_or (needs (counts p)) j 0 ≤ get_or (lengths b) j 0) → assembled_as count items p b ≡ exported (refused_record 19 i) b
  -- request 6: "An index buffer too short, by one place or more, is 28, directly after 19"
  pub no_index : (b : Buffers) → Enough (counts p) b → length b.index < index_places (length (objectives p)) → assembled_as count items p b ≡ exported (refused_record 28 0) b
  -- "Entries stay within document 01's bound."
  pub bounded : (sized_as count items p).entries ≤ entry_bound p
  -- "A successful assembly writes the entries, right side and cones of demand 2's definition."
  pub holds : (b : Buffers) → HasIndex p b → Enough (counts p) b → Writes p b (assembled_as count items p b).buffers
  -- "In these the cone dimensions add up to the rows and each row lies in exactly one cone; each entry names an existing row and column of
  -- demand 2's matrix, and no position is named twice."
  pub well_formed : (b : Buffers) → HasIndex p b → Enough (counts p) b → Formed (counts p) (assembled_as count items p b).buffers

module _ (count : ℕ) (items : List ObjectiveRecord) (p : Problem) where
  -- with known kinds the functions answer as sizing and the assembly do
  known_sized : kind_refusal count items ≡ accepted → sized_as count items p ≡ answer_record (sizing p)
  unfolding sizing_after
  known_sized e = rw e refl

  known_assembled : kind_refusal count items ≡ accepted → (b : Buffers) → assembled_as count items p b ≡ exported_as (assembly p b)
  unfolding assembly_after
  known_assembled e b = rw e refl

  known_buffers : kind_refusal count items ≡ accepted → (b : Buffers) → (assembled_as count items p b).buffers ≡ (assembly p b).buffers
  known_buffers e b = ap (λ (x : Exported). x.buffers) (known_assembled e b)

  -- else by the kind's refusal, with no buffer changed
  refused_kind : {x : Refusal} → kind_refusal count items ≡ Err x → (sized_as count items p ≡ refused_record (rule_number x.rule) x.place) × ((b : Buffers) → assembled_as count items p b ≡ exported (refused_record (rule_number x.rule) x.place) b)
  unfolding sizing_after assembly_after answer_record
  refused_kind {x} e = let h = ne_eqb (rule_number x.rule) 0 (omega (arith, rule_positive x.rule)) in (rw e (rw h refl), λ b. rw e (rw h refl))

  -- the record of a success has the number 0, and then every kind is known
  known_number : kind_refusal count items ≡ accepted → (b : Buffers) → (assembled_as count items p b).answer.number ≡ (assembly p b).told.number
  known_number e b = ap (λ (x : Exported). x.answer.number) (known_assembled e b) ∙ answer_number (assembly p b).told

  success_known : (b : Buffers) → (assembled_as count items p b).answer.number ≡ 0 → kind_refusal count items ≡ accepted
  success_known b z = go (kind_refusal count items) refl
    where
      go : (v : Verdict) → kind_refusal count items ≡ v → kind_refusal count items ≡ accepted
      go (Ok tt) e = e
      go (Err x) e = absurd (omega (arith, rule_positive x.rule, sym (ap (λ (x : Exported). x.answer.number) ((refused_kind e).1 b)) ∙ z))

  unchanged : (b : Buffers) → (assembled_as count items p b).answer.number ≢ 0 → (assembled_as count items p b).buffers ≡ b
  unchanged b h = go (kind_refusal count items) refl
    where
      go : (v : Verdict) → kind_refusal count items ≡ v → (assembled_as count items p b).buffers ≡ b
      go (Ok tt) e = known_buffers e b ∙ refused_unchanged p b (λ z. h (known_number e b ∙ z))
      go (Err x) e = ap (λ (x : Exported). x.buffers) ((refused_kind e).1 b)

  sizing_refuses : (sizing p).number ≢ 0 → refusal p ≢ accepted
  unfolding sizing outcome
  sizing_refuses h e = h (ap (λ (v : Verdict). (outcome v (counts p)).number) e)

  alike : (b : Buffers) → (sized_as count items p).number ≢ 0 → assembled_as count items p b ≡ exported (sized_as count items p) b
  alike b h = go (kind_refusal count items) refl
    where
      go : (v : Verdict) → kind_refusal count items ≡ v → assembled_as count items p b ≡ exported (sized_as count items p) b
      go (Err x) e = (refused_kind e).1 b ∙ ap (λ (x : AnswerRecord). exported x b) (sym (refused_kind e).0)
      go (Ok tt) e =
          let s = known_sized e in
          let n : (sizing p).number ≢ 0 = λ z. h (ap (λ (x : AnswerRecord). x.number) s ∙ answer_number (sizing p) ∙ z) in
          let t = refused_alike p b (sizing_refuses n) in
          known_assembled e b
          ∙ ap (λ (x : Told). exported (answer_record x) (assembly p b).buffers) t
          ∙ ap (exported (answer_record (sizing p))) (refused_unchanged p b (λ z. n (sym (ap (λ (x : Told). x.number) t) ∙ z)))
          ∙ ap (λ (x : AnswerRecord). exported x b) (sym s)

  exactly : (b : Buffers) → ((assembled_as count items p b).answer.number ≡ 0) ↔ (AllKnown count items × Acceptable p × Enough (counts p) b × HasIndex p b)
  exactly b = (
    λ z. let e = success_known b z in
        let h = (accepted_exactly p b).0 (sym (known_number e b) ∙ z) in
        ((kinds_known count items).0 e, h.0, h.1, h.2),
    λ h. known_number ((kinds_known count items).1 h.0) b ∙ (accepted_exactly p b).1 (h.1, h.2, h.3),
  )

  pub exported_demand1 : ExportedDemand1 count items p
  exported_demand1 =
      record {
        refused_unchanged = unchanged;
        unknown_kind = λ i u. refused_kind (kind_unknown count items i u);
        refused_alike = alike;
        accepted_exactly = exactly;
        finite_written = λ b z. let e = success_known b z in subst (FiniteBelow (counts p)) (sym (known_buffers e b)) (finite_written p b (sym (known_number e b) ∙ z));
      }

  pub exported_demand3 : AllKnown count items → Acceptable p → ExportedDemand3 count items p
  unfolding outcome answer_record
  exported_demand3 known ok =
      let e = (kinds_known count items).1 known in
      let f = demand3 p ok in
      let sized : sized_as count items p ≡ counts_record (counts p) = known_sized e ∙ ap answer_record f.sizing_counts in
      let reports : (b : Buffers) → HasIndex p b → Enough (counts p) b → (assembled_as count items p b).answer ≡ sized_as count items p =
      λ b x h. ap (λ (y : Exported). y.answer) (known_assembled e b ∙ ap exported_as (f.success b x h)) ∙ sym sized in
      record {
        sizing_counts = sized;
        succeeds_exactly = λ b x. (λ z. ((exactly b).0 z).2, λ h. (exactly b).1 (known, ok, h, x));
        reports = reports;
        just_enough = λ b x l. reports b x (λ i lt. omega (arith, ap (λ (l : List ℕ). get_or l i 0) l));
        otherwise = λ b not. (known_number e b ∙ (f.otherwise b not).0, known_buffers e b ∙ (f.otherwise b not).1);
        no_room = λ b i s. known_assembled e b ∙ ap exported_as (f.no_room b i s);
        one_fewer = λ b i lt q h. known_assembled e b ∙ ap exported_as (f.one_fewer b i lt q h);
        no_index = λ b h l. known_assembled e b ∙ ap exported_as (f.no_index b h l);
        bounded = rw sized f.bounded;
        holds = λ b x h. subst (Writes p b) (sym (known_buffers e b)) (f.holds b x h);
        well_formed = λ b x h. subst (Formed (counts p)) (sym (known_buffers e b)) (f.well_formed b x h);
      }
