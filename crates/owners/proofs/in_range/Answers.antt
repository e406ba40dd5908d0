use Rattle.owners.proofs.Search.{range_below, range_by_difference}
use Rattle.owners.proofs.in_range.Goals as goal

pub returns-then-r-first : goal.returns-then-r-first
returns-then-r-first c = let a = c.args in range_below a.first a.size a.r c.if-r-first.true

pub returns : goal.returns
returns c = let a = c.args in range_by_difference a.first a.size a.r c.if-r-first.false
