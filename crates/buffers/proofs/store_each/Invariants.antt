use Rattle.std.proofs.Common.{◌≡◌, ◌<◌, ◌≤◌, ℕ}
use Rattle.std.proofs.lemmas.List.Edits.{sets}
use Rattle.model.specs.Lists.{list}
use Rattle.buffers.proofs.store_each.Given as goal

abbrev pub invariant-loop-i : goal.invariant-loop-i
invariant-loop-i g l = (l.i ≤ l.count) × ((f : ℕ → _) → ((i : ℕ) (x : _) → i < l.count → goal.F-post g l.value_at i x → x ≡ f i) → l.xs ≡ sets l.initial.xs l.at (list f 0 l.i))
