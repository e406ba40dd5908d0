-- What the exported functions add: plain records for objectives and for the answers, and the judgement of a kind.
use Rattle.std.specs.Prelude.{ℕ, min, cond, List, map, eqb, ltb, get_or, Ok, Err}
use Rattle.std.specs.Float.{nan}
use Rattle.model.specs.Verdicts.{Verdict, lowest, itself}
use Rattle.model.specs.Problem.{Problem}
use Rattle.model.specs.Counts.{four_counts}
use Rattle.model.specs.Answers.{Told, told, sizing, Buffers, Result, answered, assembly}
use Rattle.model.specs.declared.FourCounts.{FourCounts}
use Rattle.model.specs.declared.Objective.{Objective}
use Rattle.model.specs.declared.Objective.TheVariants.{Time, ThermalEnergy, TotalVariationTorque, Linear}
use Rattle.model.specs.declared.rule.Rule.TheVariants.{UnknownKind}
use Rattle.copp3_c.specs.declared.ObjectiveRecord.{ObjectiveRecord}
use Rattle.copp3_c.specs.declared.ObjectiveRecords.{ObjectiveRecords}
use Rattle.copp3_c.specs.declared.AnswerRecord.{AnswerRecord}
use Rattle.copp3_c.specs.declared.OwnerRecord.{OwnerRecord}

-- kind 0 Time, 1 ThermalEnergy, 2 TotalVariationTorque, 3 Linear; an unknown kind is refused before it is looked at
unfoldable pub objective_of : ObjectiveRecord → Objective
objective_of r =
    cond (eqb r.kind 0) (Time r.weight)
    (cond (eqb r.kind 1) (ThermalEnergy r.weight r.start r.len)
    (cond (eqb r.kind 2) (TotalVariationTorque r.weight r.start r.len)
    (Linear r.weight r.start r.len r.start2 r.len2)))

abbrev pub objectives_of : ObjectiveRecords → List Objective
objectives_of records = map objective_of records.items

abbrev pub blank : ObjectiveRecord
blank = record { kind = 0; weight = nan; start = 0; len = 0; start2 = 0; len2 = 0 }

-- 40: a record that counts has an unknown kind; place its index
unfoldable pub kind_refusal : ℕ → List ObjectiveRecord → Verdict
kind_refusal count items = lowest UnknownKind itself (λ i. ltb 3 (get_or items i blank).kind) 0 (min count 16)

-- a refusal's number and place, and no counts
abbrev pub refused_record : ℕ → ℕ → AnswerRecord
refused_record r k = record { number = r; place = k; entries = 0; rows = 0; cones = 0; columns = 0 }

-- a success: number 0, no place, the four counts
abbrev pub counts_record : FourCounts → AnswerRecord
counts_record t = record { number = 0; place = 0; entries = t.entries; rows = t.rows; cones = t.cones; columns = t.columns }

-- the number tells: 0 is a success, whose values are the four counts, and any other a refusal, whose value is its place
unfoldable pub answer_record : Told → AnswerRecord
answer_record t =
    cond (eqb t.number 0)
    (counts_record (four_counts (get_or t.values 0 0) (get_or t.values 1 0) (get_or t.values 2 0) (get_or t.values 3 0)))
    (refused_record t.number (get_or t.values 0 0))

-- an owner, and place 0; or a refusal's number and place, and no owner
unfoldable pub owner_record : Told → OwnerRecord
owner_record t =
    cond (eqb t.number 0)
    (record { number = 0; place = 0; owner = get_or t.values 0 0 })
    (record { number = t.number; place = get_or t.values 0 0; owner = 0 })

-- the kinds are judged before refusal 1; what is refused changes no buffer
unfoldable pub sizing_after : Verdict → Problem → Told
sizing_after (Ok tt) p = sizing p
sizing_after (Err e) p = told (Err e)

unfoldable pub assembly_after : Verdict → Problem → Buffers → Result
assembly_after (Ok tt) p b = assembly p b
assembly_after (Err e) p b = answered (Err e) b

-- the answer, and the buffers after it
pub record Exported : Type 0 where
  pub answer : AnswerRecord
  pub buffers : Buffers

abbrev pub exported : AnswerRecord → Buffers → Exported
exported r b = record { answer = r; buffers = b }

abbrev pub exported_as : Result → Exported
exported_as x = exported (answer_record x.told) x.buffers

-- what `copp3_size` answers, of so many objectives in records, and what `copp3_assemble` answers and leaves
abbrev pub sized_as : ℕ → List ObjectiveRecord → Problem → AnswerRecord
sized_as count items p = answer_record (sizing_after (kind_refusal count items) p)

abbrev pub assembled_as : ℕ → List ObjectiveRecord → Problem → Buffers → Exported
assembled_as count items p b = exported_as (assembly_after (kind_refusal count items) p b)
