use Rattle.std.proofs.Common.{◌≡◌, ◌≤◌}
use Rattle.model.specs.Lists.{over}
use Rattle.text.specs.Text.{written}
use Rattle.listing.specs.Listed.{layout_in, matrix_in}
use Rattle.listing.specs.Rows.{cone, first_row}
use Rattle.listing.proofs.Assembled.cones.Given as goal

-- j cones are written, and `first` is the first row of the next.
abbrev pub invariant-loop-j : goal.invariant-loop-j
invariant-loop-j l =
    (l.first.at ≡ first_row l.self.counts.rows l.self.contents.dimensions.now l.j) × (l.first.at ≤ l.self.counts.rows)
    × (l.out ≡ written (over (cone (layout_in l.self) (matrix_in l.self) l.self.counts.entries l.self.contents.right.now l.self.counts.rows l.self.contents.kinds.now l.self.contents.dimensions.now) 0 l.j) l.initial.out)
