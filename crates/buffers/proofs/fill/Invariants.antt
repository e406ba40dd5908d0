use Rattle.std.proofs.Common.{◌≡◌, ◌+◌, ◌<◌, ◌≤◌, ℕ}
use Rattle.buffers.specs.Buffers.{Fills}
use Rattle.model.specs.Program.{Cell}
use Rattle.buffers.specs.Lent.{term}
use Rattle.buffers.proofs.fill.Given as goal

abbrev pub invariant-loop-i : goal.invariant-loop-i
invariant-loop-i g l = (l.i ≤ l.count) × (l.u.entries ≡ l.initial.u.entries + l.i) × ((f : ℕ → Cell) → ((i : ℕ) (p : _) → i < l.count → goal.F-post g l.term_at i p → term p ≡ f i) → Fills l.initial.u l.initial.out l.u l.out l.row.at f l.i)
