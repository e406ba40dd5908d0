use Rattle.std.proofs.Common.{rules, arith, ◌<◌}
use Rattle.std.specs.Prelude.{sum}
use Rattle.numbers.proofs.Sums.{sum_total}
use Rattle.numbers.proofs.total.Goals as goal

pub sum-requires-clause-fits : goal.sum-requires-clause-fits
sum-requires-clause-fits c =
    let e : sum c.args.counts.now < 18446744073709551616 = omega (arith, c.requires, sum_total c.args.counts.now) in
    search (rules, e)

pub returns : goal.returns
returns c = search (rules, sum_total)
