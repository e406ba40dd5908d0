use Rattle.std.proofs.Common.{rules, tests}
use Rattle.checks.proofs.Search.{from_start, one_refuses, one_passes, ended}
use Rattle.checks.proofs.check_each.Goals as goal

pub loop-k-init : goal.loop-k-init
loop-k-init g c at test p f = from_start _ _ _ _ _

pub returns-in_err-refuse_if : goal.returns-in_err-refuse_if
returns-in_err-refuse_if g c at test count is p f =
    let t = c.loop-k-test.true in
    rw is
    (one_refuses _ _ _ _ _ _ (c.loop-k.invariant at test p f) t c.refuse_if.ensures (p _ _ c.loop-k.auto.k t c.place.ensures) (f _ _ c.loop-k.auto.k t c.fails.ensures) _ c.in_err-refuse_if.was (search (rules, tests)))

pub loop-k-preserved : goal.loop-k-preserved
loop-k-preserved g c at test p f =
    let t = c.loop-k-test.true in
    one_passes _ _ _ _ _ _ (c.loop-k.invariant at test p f) t c.refuse_if.ensures (p _ _ c.loop-k.auto.k t c.place.ensures) (f _ _ c.loop-k.auto.k t c.fails.ensures) c.in_ok-refuse_if.was

pub returns : goal.returns
returns g c at test count is p f = rw is (ended _ _ _ _ _ _ (c.loop-k.invariant at test p f) c.loop-k-test.false)
