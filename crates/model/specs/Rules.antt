-- "Each has a number and a place (0 where none is named)": the number of each of src/rule.rt's refusals.
use Rattle.model.specs.Base.{ℕ}
use Rattle.model.specs.declared.rule.Rule.{Rule}
use Rattle.model.specs.declared.rule.Rule.TheVariants.{BoundaryNotFinite, BoundaryNegative, BackwardAtRest, TooFewStations, TooManyStations, GridNotFinite, GridNotRising, DimensionOutOfRange, NoObjective, TooManyObjectives, WeightUnfit, ListUnfit, ScaleUnfit, NoMovingInterval, TableLength, TooManyRows, BoundUnusable, BoundsCrossed, BufferTooShort, NumberNotFinite, IndexTooShort, UnknownKind}

abbrev pub rule_number : Rule → ℕ
rule_number BoundaryNotFinite = 1
rule_number BoundaryNegative = 2
rule_number BackwardAtRest = 3
rule_number TooFewStations = 4
rule_number TooManyStations = 5
rule_number GridNotFinite = 6
rule_number GridNotRising = 7
rule_number DimensionOutOfRange = 8
rule_number NoObjective = 9
rule_number TooManyObjectives = 10
rule_number WeightUnfit = 11
rule_number ListUnfit = 12
rule_number ScaleUnfit = 13
rule_number NoMovingInterval = 14
rule_number TableLength = 15
rule_number TooManyRows = 16
rule_number BoundUnusable = 17
rule_number BoundsCrossed = 18
rule_number BufferTooShort = 19
rule_number NumberNotFinite = 20
rule_number IndexTooShort = 28
rule_number UnknownKind = 40
