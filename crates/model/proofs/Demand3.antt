-- Demand 3, about the answers of sizing and the assembly and about what the buffers hold then. The comments quote it sentence by sentence.
use Prim.Native.Nat.{ℕ, ◌+◌, ◌≤◌, ◌<◌}
use native.Mathlib.Omega.{arith}
use mathlib.Core.Path.{◌≡◌, sym, ap, ◌∙◌}
use mathlib.Core.Logic.{◌↔◌, ◌≢◌}
use mathlib.Core.List.{List}
use lib.ListN.{length, get_or}
use Rattle.model.specs.Problem.{Problem, objectives}
use Rattle.model.specs.Verdicts.{Verdict, accepted, refused, ◌then◌}
use Rattle.model.specs.Refusals.{refusal}
use Rattle.model.specs.Counts.{counts, entry_bound}
use Rattle.model.specs.Owners.{index_places}
use Rattle.model.specs.Answers.{Told, outcome, sizing, Buffers, lengths, room_refusal, index_refusal, finite_refusal, written, Result, result, assembly}
use Rattle.model.specs.declared.rule.Rule.{Rule}
use Rattle.model.specs.declared.rule.Rule.TheVariants.{BufferTooShort, IndexTooShort}
use Rattle.model.proofs.Passes.{then_passes}
use Rattle.model.proofs.Room.{then_accepted, needs, Enough, Short, Room, enough, short, room, room_enough, room_short, HasIndex, index_short, index_passes}
use Rattle.model.proofs.Fits.{AtMost, most_counts}
use Rattle.model.proofs.Program.{program}
use Rattle.model.proofs.Written.{Writes, Formed, Stored, writes, formed, stored}

-- a problem "is accepted if no refusal of the assembly applies save for a short buffer"
abbrev pub Acceptable : Problem → Type 0
Acceptable p = (refusal p then finite_refusal p) ≡ accepted

-- refused by this rule and place, and no buffer is changed
abbrev pub refused_as : Problem → Buffers → Rule → ℕ → Result
refused_as p b r i = record { told = outcome (refused r i) (counts p); buffers = b }

-- "For every accepted problem, whatever lengths the lent output buffers have:" Request 6: "demand 3's lengths are those of buffers 0 to 6, with an index buffer
-- that has its places" (`HasIndex`)
pub record Demand3 (p : Problem) : Type 0 where
  -- "sizing answers the numbers of entries, rows, cones and columns that document 01's formulas give."
  pub sizing_counts : sizing p ≡ outcome accepted (counts p)
  -- "The assembly succeeds exactly when every buffer has its places for these four,"
  pub succeeds_exactly : (b : Buffers) → HasIndex p b → ((assembly p b).told ≡ outcome accepted (counts p)) ↔ Enough (counts p) b
  pub success : (b : Buffers) → HasIndex p b → Enough (counts p) b → assembly p b ≡ record { told = outcome accepted (counts p); buffers = written p b }
  -- "so buffers of just those lengths suffice, and it then reports the same four;"
  pub just_enough : (b : Buffers) → HasIndex p b → lengths b ≡ needs (counts p) → (assembly p b).told ≡ sizing p
  -- "otherwise, .. , it is refused as no room", at the first buffer that is too short, and changes nothing
  pub otherwise : (b : Buffers) → (Enough (counts p) b → ⊥) → ((assembly p b).told.number ≡ 19) × ((assembly p b).buffers ≡ b)
  pub no_room : (b : Buffers) (i : ℕ) → Short (counts p) b i → assembly p b ≡ refused_as p b BufferTooShort i
  -- "as with one place fewer in any"
  pub one_fewer : (b : Buffers) (i : ℕ) → i < 7 → get_or (lengths b) i 0 + 1 ≡ get_or (needs (counts p)) i 0
      → ((j : ℕ) → j < 7 → j ≢ i → get_or (needs (counts p)) j 0 ≤ get_or (lengths b) j 0) → assembly p b ≡ refused_as p b BufferTooShort i
  -- request 6: "An index buffer too short, by one place or more, is 28, directly after 19"
  pub no_index : (b : Buffers) → Enough (counts p) b → length b.index < index_places (length (objectives p)) → assembly p b ≡ refused_as p b IndexTooShort 0
  -- "Entries stay within document 01's bound."
  pub bounded : (counts p).entries ≤ entry_bound p
  -- request 10: "The bound and the room rule speak of the longer grids too." The four counts are at most 470482434, 117767938, 1114130 and 33685506
  pub fits : AtMost most_counts (counts p)
  -- "Row numbers, column numbers, cone dimensions .. grow from 32 to 64 bits wherever they are stored": 64 bits hold each that is written
  pub stored : (b : Buffers) → HasIndex p b → Enough (counts p) b → Stored (counts p) (assembly p b).buffers
  -- "A successful assembly writes the entries, right side and cones of demand 2's definition."
  pub holds : (b : Buffers) → HasIndex p b → Enough (counts p) b → Writes p b (assembly p b).buffers
  -- "In these the cone dimensions add up to the rows and each row lies in exactly one cone; each entry names an existing row and column of
  -- demand 2's matrix, and no position is named twice."
  pub well_formed : (b : Buffers) → HasIndex p b → Enough (counts p) b → Formed (counts p) (assembly p b).buffers

module _ (p : Problem) (ok : Acceptable p) where
  pub accepted_lem : refusal p ≡ accepted
  accepted_lem = ((then_passes (refusal p) (finite_refusal p)).0 ok).0

  pub all_finite_lem : finite_refusal p ≡ accepted
  all_finite_lem = ((then_passes (refusal p) (finite_refusal p)).0 ok).1

  sized : sizing p ≡ outcome accepted (counts p)
  unfolding sizing
  sized = ap (λ (v : Verdict). outcome v (counts p)) accepted_lem

  module _ (b : Buffers) where
    -- nothing but the room decides
    by_room : assembly p b ≡ result (room_refusal (counts p) (lengths b) then index_refusal p (length b.index)) p b
    unfolding assembly ◌then◌
    by_room = simp (accepted_lem, all_finite_lem, then_accepted)

    -- and then the index's length
    by_index : Enough (counts p) b → assembly p b ≡ result (index_refusal p (length b.index)) p b
    unfolding ◌then◌
    by_index h = by_room ∙ ap (λ (v : Verdict). result (v then index_refusal p (length b.index)) p b) (room_enough (counts p) b h)

    success : HasIndex p b → Enough (counts p) b → assembly p b ≡ record { told = outcome accepted (counts p); buffers = written p b }
    unfolding result
    success x h = by_index h ∙ ap (λ (v : Verdict). result v p b) ((index_passes p b).1 x)

    failure : (i : ℕ) → Short (counts p) b i → assembly p b ≡ refused_as p b BufferTooShort i
    unfolding result ◌then◌
    failure i s = by_room ∙ ap (λ (v : Verdict). result (v then index_refusal p (length b.index)) p b) (room_short (counts p) b i s)

    no_index : Enough (counts p) b → length b.index < index_places (length (objectives p)) → assembly p b ≡ refused_as p b IndexTooShort 0
    unfolding result
    no_index h l = by_index h ∙ ap (λ (v : Verdict). result v p b) (index_short p b l)

    only_then : (assembly p b).told ≡ outcome accepted (counts p) → Room (counts p) b → Enough (counts p) b
    unfolding outcome
    only_then e (enough h) = h
    only_then e (short i s) = let z : ◌≡◌ {A = ℕ} 19 0 = sym (ap (λ (r : Result). r.told.number) (failure i s)) ∙ ap (λ (x : Told). x.number) e in absurd (omega arith)

    exactly : HasIndex p b → ((assembly p b).told ≡ outcome accepted (counts p)) ↔ Enough (counts p) b
    exactly x = (λ e. only_then e (room (counts p) b), λ h. ap (λ (r : Result). r.told) (success x h))

    exact_lengths : lengths b ≡ needs (counts p) → Enough (counts p) b
    exact_lengths e = λ i lt. omega (arith, ap (λ (l : List ℕ). get_or l i 0) e)

    refused_unchanged : (Enough (counts p) b → ⊥) → Room (counts p) b → ((assembly p b).told.number ≡ 19) × ((assembly p b).buffers ≡ b)
    unfolding outcome
    refused_unchanged not (enough h) = absurd (not h)
    refused_unchanged not (short i s) = (ap (λ (r : Result). r.told.number) (failure i s), ap (λ (r : Result). r.buffers) (failure i s))

  pub demand3 : Demand3 p
  demand3 =
      let f = program p accepted_lem in
      record {
        sizing_counts = sized;
        succeeds_exactly = exactly;
        success = success;
        just_enough = λ b x e. (exactly b x).1 (exact_lengths b e) ∙ sym sized;
        otherwise = λ b not. refused_unchanged b not (room (counts p) b);
        no_room = failure;
        one_fewer = λ b i lt e h. failure b i (record { index = lt; short = omega arith; before = λ j x. h j (omega arith) (omega arith) });
        no_index = no_index;
        bounded = omega arith;
        fits = f.most;
        stored = λ b x h. rw (success b x h) (stored (counts p) (written p b) f.most (formed p f b (written p b) (writes p f b x h)));
        holds = λ b x h. rw (success b x h) (writes p f b x h);
        well_formed = λ b x h. rw (success b x h) (formed p f b (written p b) (writes p f b x h));
      }
