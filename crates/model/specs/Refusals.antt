-- Refusals 1 to 18, in document 01's order.
use Rattle.std.specs.Prelude.{◌+◌, ◌-◌, ◌*◌, ◌&&◌, ◌||◌, ◌∷◌}
use Rattle.model.specs.Base.{ℕ, suc, max, Bool, not, List, [], length, take, get_or, ltb, leb, eqb, Float, lt, Boundary, Bounds, Objective, Time, ThermalEnergy, TotalVariationTorque, Linear}
use Rattle.model.specs.Numbers.{at, finite, unusable, negative, is_zero, unfit, +0}
use Rattle.model.specs.Lists.{total, part}
use Rattle.model.specs.Problem.{Problem, Path, Limits, objectives, n, m, weight, some, is_thermal, is_torque, is_linear}
use Rattle.model.specs.Verdicts.{Verdict, accepted, ◌then◌, refuse, lowest, itself}
use Rattle.model.specs.declared.rule.Rule.TheVariants.{BoundaryNotFinite, BoundaryNegative, BackwardAtRest, TooFewStations, TooManyStations, GridNotFinite, GridNotRising, DimensionOutOfRange, NoObjective, TooManyObjectives, WeightUnfit, ListUnfit, ScaleUnfit, NoMovingInterval, TableLength, TooManyRows, BoundUnusable, BoundsCrossed}

-- the most stations, joints, objectives, and rows of a station in a table: "Refusal 5 now begins at 65,538 stations" (request 10; 4,097 were the most before),
-- "8 d is outside 1 to 32", "10 more than 16", "16 a row count is above 256"
abbrev pub most_stations : ℕ
most_stations = 65537

abbrev pub most_joints : ℕ
most_joints = 32

abbrev pub most_objectives : ℕ
most_objectives = 16

abbrev pub most_rows : ℕ
most_rows = 256

-- "1 a boundary number is not finite; place 0 to 3 for initial a, terminal a, initial b, terminal b."
abbrev pub first_refusal : Boundary → Verdict
first_refusal b =
    (refuse BoundaryNotFinite 0 (not (finite b.a0)) then refuse BoundaryNotFinite 1 (not (finite b.a1)))
    then refuse BoundaryNotFinite 2 (not (finite b.b0)) then refuse BoundaryNotFinite 3 (not (finite b.b1))

-- "2 a boundary a is below 0; place 0 or 1." "3 initial a is zero with b below 0 (place 0), or terminal a is zero with b above 0 (place 1)."
abbrev pub signs_refusal : Boundary → Verdict
signs_refusal b =
    (refuse BoundaryNegative 0 (negative b.a0) then refuse BoundaryNegative 1 (negative b.a1))
    then refuse BackwardAtRest 0 (is_zero b.a0 && negative b.b0) then refuse BackwardAtRest 1 (is_zero b.a1 && lt +0 b.b1)

abbrev pub boundary_refusal : Boundary → Verdict
boundary_refusal b = first_refusal b then signs_refusal b

-- "4 fewer than 3 stations. 5 more than" the limit. "6 a grid number is not finite", "7 a grid number is not above the one before; place is the first such station"
unfoldable pub grid_refusal : ℕ → List Float → Verdict
grid_refusal limit g =
    refuse TooFewStations 0 (ltb (length g) 3)
    then refuse TooManyStations 0 (ltb limit (length g))
    then lowest GridNotFinite itself (λ k. not (finite (at g k))) 0 (length g)
    then lowest GridNotRising itself (λ k. not (lt (at g (k - 1)) (at g k))) 1 (length g - 1)

-- "12 a list is not d long (scales) or n+1 long (alpha, beta), or runs past the pool", place the objective's index i
unfoldable pub list_refusal : List Float → ℕ → ℕ → ℕ → ℕ → Verdict
list_refusal pool i long start len = refuse ListUnfit i (not (eqb len long) || ltb (length pool) (start + len))

-- "13 a scale is NaN, infinite or negative"
unfoldable pub scales_refusal : List Float → ℕ → ℕ → ℕ → ℕ → Verdict
scales_refusal pool d i start len =
    list_refusal pool i d start len
    then lowest ScaleUnfit (λ j. i) (λ j. unfit (at (part pool start len) j)) 0 len

unfoldable pub lists_refusal : List Float → ℕ → ℕ → ℕ → Objective → Verdict
lists_refusal pool d stations i (Time w) = accepted
lists_refusal pool d stations i (ThermalEnergy w start len) = scales_refusal pool d i start len
lists_refusal pool d stations i (TotalVariationTorque w start len) = scales_refusal pool d i start len
lists_refusal pool d stations i (Linear w alpha alpha_len beta beta_len) = list_refusal pool i stations alpha alpha_len then list_refusal pool i stations beta beta_len

-- "Then per objective, in order, place its index: 11 weight NaN, infinite or negative; 12 ..; 13 .."
unfoldable pub objectives_refusal : List Float → ℕ → ℕ → ℕ → List Objective → Verdict
objectives_refusal pool d stations i [] = accepted
objectives_refusal pool d stations i (o ∷ os) =
    refuse WeightUnfit i (unfit (weight o)) then lists_refusal pool d stations i o then objectives_refusal pool d stations (suc i) os

-- "8 d is outside 1 to 32. 9 no objective. 10 more than 16."
unfoldable pub setup_refusal : ℕ → ℕ → List Objective → ℕ → List Float → Verdict
setup_refusal d count slots stations pool =
    refuse DimensionOutOfRange 0 (eqb d 0 || ltb most_joints d)
    then refuse NoObjective 0 (eqb count 0)
    then refuse TooManyObjectives 0 (ltb most_objectives count)
    then objectives_refusal pool d stations 0 (take count slots)

-- "15 a table that counts has a wrong length; place is its number": table t is of length `have` and has to be of length `need`
unfoldable pub table : ℕ → ℕ → ℕ → Verdict
table t have need = refuse TableLength t (not (eqb have need))

-- "A table that doesn't count may have any length."
unfoldable pub table_if : Bool → ℕ → ℕ → ℕ → Verdict
table_if counts t have need = refuse TableLength t (counts && not (eqb have need))

-- "14 N0 + N1 is n or more." "Tables 0 and 1 are tested first, then refusal 16, then tables 2 to 15." "16 a row count is above 256; place is the station, table 0 before
-- table 1." "Table 10 counts only with a ThermalEnergy objective, 11 to 13 only with that or TotalVariationTorque, 14 and 15 only with Linear."
unfoldable pub tables_refusal : Problem → Verdict
tables_refusal p =
    let acc = total p.acc.counts in
    let jerk = total p.jerk.counts in
    let thermals = some is_thermal (objectives p) in
    let torques = thermals || some is_torque (objectives p) in
    let linears = some is_linear (objectives p) in
    refuse NoMovingInterval 0 (leb (n p.path) (p.path.N0 + p.path.N1))
    then table 0 (length p.acc.counts) (n p.path + 1)
    then table 1 (length p.jerk.counts) (n p.path + 1)
    then lowest TooManyRows itself (λ k. ltb most_rows (get_or p.acc.counts k 0)) 0 (n p.path + 1)
    then lowest TooManyRows itself (λ k. ltb most_rows (get_or p.jerk.counts k 0)) 0 (n p.path + 1)
    then table 2 (length p.limits.amax) (n p.path + 1)
    then table 3 (length p.acc.a) acc
    then table 4 (length p.acc.b) acc
    then table 5 (length p.acc.max) acc
    then table 6 (length p.jerk.a) jerk
    then table 7 (length p.jerk.b) jerk
    then table 8 (length p.jerk.c) jerk
    then table 9 (length p.jerk.max) jerk
    then table_if thermals 10 (length p.thermal) (n p.path + 1)
    then table_if torques 11 (length p.torque.a) (p.torque.d * (n p.path + 1))
    then table_if torques 12 (length p.torque.b) (p.torque.d * (n p.path + 1))
    then table_if torques 13 (length p.torque.g) (p.torque.d * (n p.path + 1))
    then table_if linears 14 (length p.roots.start) (max p.path.N0 1 - 1)
    then table_if linears 15 (length p.roots.end) (max p.path.N1 1 - 1)

-- "17 a bound that is read is NaN or minus infinity, or a stationary minimum is plus infinity"; "an end with count 0 has bounds that aren't read"
unfoldable pub unusable_end : ℕ → Bounds → Bool
unusable_end count b = ltb 0 count && (unusable b.maximum || not (finite b.minimum))

-- "18 a stationary maximum is below its minimum"
unfoldable pub crossed : ℕ → Bounds → Bool
crossed count b = ltb 0 count && lt b.maximum b.minimum

-- "place 0 start, 1 end, 2+k amax of station k"
unfoldable pub bounds_refusal : Path → Limits → Verdict
bounds_refusal q l =
    refuse BoundUnusable 0 (unusable_end q.N0 l.start)
    then refuse BoundUnusable 1 (unusable_end q.N1 l.end)
    then lowest BoundUnusable (λ k. 2 + k) (λ k. unusable (at l.amax k)) (q.N0 + 1) (m q - 1)
    then refuse BoundsCrossed 0 (crossed q.N0 l.start)
    then refuse BoundsCrossed 1 (crossed q.N1 l.end)

-- 1 to 18, for grids of at most so many stations: what a longer limit changes is a theorem between two of them (proofs/Longer.antt)
unfoldable pub refusal_up_to : ℕ → Problem → Verdict
refusal_up_to limit p =
    boundary_refusal p.boundary
    then grid_refusal limit p.path.grid
    then setup_refusal p.torque.d p.count p.slots (n p.path + 1) p.pool
    then tables_refusal p
    then bounds_refusal p.path p.limits

abbrev pub refusal : Problem → Verdict
refusal = refusal_up_to most_stations
