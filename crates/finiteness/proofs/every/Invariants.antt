use Rattle.std.proofs.Common.{◌≡◌, ◌+◌, ◌-◌, ◌<◌, ◌≤◌, ℕ, Bool}
use Rattle.finiteness.specs.Finite.{Each}
use Rattle.finiteness.proofs.every.Given as goal

abbrev pub invariant-loop-k : goal.invariant-loop-k
invariant-loop-k g l =
    (l.from ≤ l.k) × (l.k ≤ l.from + l.count) × ((f : ℕ → Bool) → ((k : ℕ) (b : Bool) → l.from ≤ k → k < l.from + l.count → goal.F-post g l.test k b → b ≡ f k) → Each l.ok f l.from (l.k - l.from))
