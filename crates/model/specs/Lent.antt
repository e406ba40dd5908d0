-- What a function was lent, as the definitions speak of it. An `ensures` has a reference as the pair of its two moments, when the function is entered and
-- when it is left. A table is lent by `&`, a buffer by `&mut`: a clause of a function calls what a buffer holds then
-- `x.old` and `x.new`.
use Rattle.model.specs.Base.{ℕ, List, Float, Job, Objective}
use Rattle.model.specs.Problem.{Problem, problem}
use Rattle.model.specs.Answers.{Buffers, buffers}
use Rattle.model.specs.declared.Problem.{Problem as LentProblem}
use Rattle.model.specs.declared.Buffers.{Buffers as LentBuffers}
use Rattle.std.specs.Prelude.{◌≡◌}
use Rattle.std.specs.Borrow.{Bor, MutBor}
use denote.Triple.Both.{Both}

-- a lent slice at one moment, and in an `ensures`
abbrev pub Slice : Type 0 → Type 0
Slice A = Bor (List A)

abbrev pub Lent : Type 0 → Type 0
Lent A = Both (Slice A) (Slice A)

abbrev pub LentMut : Type 0 → Type 0
LentMut A = Both (MutBor (List A)) (MutBor (List A))

-- what a reference holds on entry
abbrev pub at_entry : {A : Type 0} → Both (Bor A) (Bor A) → A
at_entry x = x.entry.now

-- what a `&mut` holds on entry, and what it holds on exit
abbrev pub mut_at_entry : {A : Type 0} → Both (MutBor A) (MutBor A) → A
mut_at_entry x = x.entry.now

abbrev pub at_exit : {A : Type 0} → Both (MutBor A) (MutBor A) → A
at_exit x = x.exit.now

-- the problem that was lent: the job, the 16 objectives, and what the grid, tables 0 to 15 and the pool hold on entry
abbrev pub lent : Job → List Objective → Lent Float → Lent ℕ → Lent ℕ → Lent Float → Lent Float → Lent Float → Lent Float → Lent Float → Lent Float → Lent Float → Lent Float → Lent Float → Lent Float → Lent Float → Lent Float → Lent Float → Lent Float → Lent Float → Problem
lent job slots grid t0 t1 t2 t3 t4 t5 t6 t7 t8 t9 t10 t11 t12 t13 t14 t15 pool =
    problem job slots (at_entry grid) (at_entry t0) (at_entry t1) (at_entry t2) (at_entry t3) (at_entry t4) (at_entry t5) (at_entry t6)
    (at_entry t7) (at_entry t8) (at_entry t9) (at_entry t10) (at_entry t11) (at_entry t12) (at_entry t13) (at_entry t14) (at_entry t15) (at_entry pool)

-- what buffers 0 to 6 and the index hold on entry, and what they hold on exit
abbrev pub buffers_before : LentMut ℕ → LentMut ℕ → LentMut Float → LentMut Float → LentMut ℕ → LentMut ℕ → LentMut Float → LentMut ℕ → Buffers
buffers_before rows columns values right kinds dimensions cost index =
    buffers (mut_at_entry rows) (mut_at_entry columns) (mut_at_entry values) (mut_at_entry right) (mut_at_entry kinds) (mut_at_entry dimensions) (mut_at_entry cost) (mut_at_entry index)

abbrev pub buffers_after : LentMut ℕ → LentMut ℕ → LentMut Float → LentMut Float → LentMut ℕ → LentMut ℕ → LentMut Float → LentMut ℕ → Buffers
buffers_after rows columns values right kinds dimensions cost index =
    buffers (at_exit rows) (at_exit columns) (at_exit values) (at_exit right) (at_exit kinds) (at_exit dimensions) (at_exit cost) (at_exit index)

-- the problem that a struct lends
abbrev pub problem_of : LentProblem → Problem
problem_of p =
    problem p.job p.objectives p.grid.now p.acceleration.rows.now p.jerk.rows.now p.amax.now p.acceleration.a.now p.acceleration.b.now p.acceleration.max.now
    p.jerk.a.now p.jerk.b.now p.jerk.c.now p.jerk.max.now p.thermal.now p.torque.a.now p.torque.b.now p.torque.g.now p.roots.start.now p.roots.end.now p.pool.now

-- what the buffers of a struct hold
abbrev pub buffers_of : LentBuffers → Buffers
buffers_of b = buffers b.rows.now b.columns.now b.values.now b.right.now b.kinds.now b.dimensions.now b.cost.now b.index.now

-- The struct still holds the buffers that it held: a writer stores into them and puts no others in their place.
pub record SameBuffers (b c : LentBuffers) : Type 0 where
  pub rows : c.rows.ghost_name ≡ b.rows.ghost_name
  pub columns : c.columns.ghost_name ≡ b.columns.ghost_name
  pub values : c.values.ghost_name ≡ b.values.ghost_name
  pub right : c.right.ghost_name ≡ b.right.ghost_name
  pub kinds : c.kinds.ghost_name ≡ b.kinds.ghost_name
  pub dimensions : c.dimensions.ghost_name ≡ b.dimensions.ghost_name
  pub cost : c.cost.ghost_name ≡ b.cost.ghost_name
  pub index : c.index.ghost_name ≡ b.index.ghost_name
