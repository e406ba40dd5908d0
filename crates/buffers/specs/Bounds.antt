-- How far each writer may move the tally, of a grid with so many stations: by at most so many rows, cones and columns, and by five times as many entries.
-- These bounds keep the tally within its bits (Room, RoomAll); what is written does not depend on them.
use Rattle.std.specs.Prelude.{ℕ, ◌+◌, ◌*◌}
use Rattle.model.specs.Refusals.{most_stations, most_joints, most_objectives, most_rows}

-- the equalities: four rows at the boundary, one for each positive end, one for each moving interval
abbrev pub equalities_room : ℕ → ℕ
equalities_room stations = stations + 6

-- the first-order rows: two for each positive end, an upper bound for each station, two for each interval
abbrev pub first_order_room : ℕ → ℕ
first_order_room stations = 4 * stations + 4

-- the acceleration rows of all stations
abbrev pub acceleration_room : ℕ → ℕ
acceleration_room stations = most_rows * stations

-- the jerk rows of a station, its backward and its forward group; and of all stations
abbrev pub jerk_room_at : ℕ
jerk_room_at = 2 * most_rows

abbrev pub jerk_room : ℕ → ℕ
jerk_room stations = jerk_room_at * stations

-- the inequalities
abbrev pub inequalities_room : ℕ → ℕ
inequalities_room stations = first_order_room stations + acceleration_room stations + jerk_room stations

-- the standard rows
abbrev pub standard_room : ℕ → ℕ
standard_room stations = equalities_room stations + inequalities_room stations

-- the standard rows, and the cost of the a and b columns
abbrev pub standard_block_room : ℕ → ℕ
standard_block_room stations = 2 * stations + standard_room stations

-- the root stage: for each xi a row of the first cone and a cone of three rows; Time adds as much
abbrev pub root_room : ℕ → ℕ
root_room stations = 4 * stations + 1

abbrev pub time_room : ℕ → ℕ
time_room stations = 4 * stations + 1

-- a cone of ThermalEnergy: two rows, and one for each joint; and all of them, with one for each end
abbrev pub thermal_cone_room : ℕ
thermal_cone_room = 2 + most_joints

abbrev pub thermal_room : ℕ → ℕ
thermal_room stations = thermal_cone_room * (stations + 2)

-- the rows of TotalVariationTorque at an end or on an interval: two for each joint; and all of them
abbrev pub torque_step_room : ℕ
torque_step_room = 2 * most_joints

abbrev pub torque_room : ℕ → ℕ
torque_room stations = torque_step_room * (stations + 2)

-- any objective on any grid: TotalVariationTorque moves the tally furthest
abbrev pub objective_room : ℕ
objective_room = torque_room most_stations

-- all objectives
abbrev pub objectives_room : ℕ
objectives_room = most_objectives * objective_room

-- the root stage and all objectives
abbrev pub own_blocks_room : ℕ
own_blocks_room = root_room most_stations + objectives_room

-- the whole program
abbrev pub program_room : ℕ
program_room = standard_block_room most_stations + own_blocks_room
