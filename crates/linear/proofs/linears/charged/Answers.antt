use Rattle.std.proofs.Common.{rules, length, map}
use Rattle.linear.specs.Parts.{FitsIn, charges_in, listed_as}
use Rattle.linear.proofs.Objectives.{charged_next}
use Rattle.linear.proofs.Gathering.{mapped_one, mapped_more}
use Rattle.linear.proofs.linears.charged.Goals as goal

pub charge-y-requires : goal.charge-y-requires
charge-y-requires c =
    let a = c.args.input.now in
    mapped_one (listed_as (length a.path.grid.now)) (FitsIn a) c.args.linears.now c.loop-linear.linear-index _ c.loop-linear-test.true c.requires

pub loop-linear-preserved : goal.loop-linear-preserved
loop-linear-preserved c =
    let a = c.args.input.now in
    let f = listed_as (length a.path.grid.now) in
    let i = c.loop-linear.linear-index in
    (search rules, charged_next (charges_in a) (map f c.args.linears.now) i (mapped_more f c.args.linears.now i _ c.loop-linear-test.true) c.loop-linear.invariant.1 c.charge-y.ensures)
