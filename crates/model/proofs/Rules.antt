-- No refusal has the number 0, which tells of a success.
use Prim.Native.Nat.{◌<◌}
use native.Mathlib.Omega.{arith}
use Rattle.model.specs.Rules.{rule_number}
use Rattle.model.specs.declared.rule.Rule.{Rule}
use Rattle.model.specs.declared.rule.Rule.TheVariants.{BoundaryNotFinite, BoundaryNegative, BackwardAtRest, TooFewStations, TooManyStations, GridNotFinite, GridNotRising, DimensionOutOfRange, NoObjective, TooManyObjectives, WeightUnfit, ListUnfit, ScaleUnfit, NoMovingInterval, TableLength, TooManyRows, BoundUnusable, BoundsCrossed, BufferTooShort, NumberNotFinite, IndexTooShort, UnknownKind}

pub rule_positive : (r : Rule) → 0 < rule_number r
rule_positive BoundaryNotFinite = omega arith
rule_positive BoundaryNegative = omega arith
rule_positive BackwardAtRest = omega arith
rule_positive TooFewStations = omega arith
rule_positive TooManyStations = omega arith
rule_positive GridNotFinite = omega arith
rule_positive GridNotRising = omega arith
rule_positive DimensionOutOfRange = omega arith
rule_positive NoObjective = omega arith
rule_positive TooManyObjectives = omega arith
rule_positive WeightUnfit = omega arith
rule_positive ListUnfit = omega arith
rule_positive ScaleUnfit = omega arith
rule_positive NoMovingInterval = omega arith
rule_positive TableLength = omega arith
rule_positive TooManyRows = omega arith
rule_positive BoundUnusable = omega arith
rule_positive BoundsCrossed = omega arith
rule_positive BufferTooShort = omega arith
rule_positive NumberNotFinite = omega arith
rule_positive IndexTooShort = omega arith
rule_positive UnknownKind = omega arith
