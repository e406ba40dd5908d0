use Rattle.replay_list.specs.Format.{start_of}
use mathlib.Core.Path.{◌≡◌}
use Prim.Native.Nat.{ℕ, ◌+◌, ◌<◌}
use lib.ListN.{length, get_or}
use Rattle.replay_list.proofs.input.starts_at.Given as goal

-- `replay_list::input::starts_at` meets its contract: each start is found from the one before it.
abbrev pub invariant-loop-k : goal.invariant-loop-k
invariant-loop-k l = (length l.starts ≡ 19) × ((j : ℕ) → j < l.k + 1 → get_or l.starts j 0 ≡ start_of l.start.list.now l.start.at j)
