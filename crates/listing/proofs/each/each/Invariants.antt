use Rattle.std.proofs.Common.{◌≡◌, ◌+◌, ◌-◌, ◌<◌, ◌≤◌, ℕ, List}
use Rattle.model.specs.Lists.{over}
use Rattle.text.specs.Text.{written}
use Rattle.listing.proofs.each.each.Given as goal

-- What `write` writes of the numbers before i is written.
abbrev pub invariant-loop-i : goal.invariant-loop-i
invariant-loop-i g l =
    (l.from ≤ l.i) × ((f : ℕ → List ℕ) → ((i : ℕ) (old new : _) → l.from ≤ i → i < l.from + l.count → goal.F-post g l.write old i tt new → new.now ≡ written (f i) old.now) → l.out ≡ written (over f l.from (l.i - l.from)) l.initial.out)
