use Rattle.std.proofs.Common.{rules, ◌≡◌, ℕ, ◌+◌, min, refl, ap, ◌∙◌, arith}
use Rattle.text.proofs.Laws.{nothing}
use Rattle.listing.specs.Listed.{layout_in, matrix_in}
use Rattle.listing.specs.Rows.{first_row}
use Rattle.listing.proofs.NextCone.{next_first, written_cone}
use Rattle.listing.proofs.Assembled.cones.Goals as goal

pub loop-j-init : goal.loop-j-init
unfolding first_row
loop-j-init c = (refl, omega arith, nothing _)

pub loop-j-preserved : goal.loop-j-preserved
loop-j-preserved c =
    let x = c.args.self.now in
    let e : c.min.result ≡ min (c.loop-j.first.at + c.item_or-dimension.result) x.counts.rows = search rules in
    let next = next_first x.counts.rows x.contents.dimensions.now c.loop-j.j c.loop-j.invariant.0 (e ∙ ap (λ (d : ℕ). min (c.loop-j.first.at + d) x.counts.rows) c.item_or-dimension.ensures) in
    (next, omega (arith, e), written_cone x.counts.rows x.contents.dimensions.now c.loop-j.j c.loop-j.invariant.0 (layout_in x) (matrix_in x) x.counts.entries x.contents.right.now x.contents.kinds.now _ next c.loop-j.invariant.2 c.cone_head.ensures c.cone_rows.ensures)
