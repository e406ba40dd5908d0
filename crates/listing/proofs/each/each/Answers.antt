use Rattle.std.proofs.Common.{◌≡◌, ℕ, ◌-◌, sym, ap, ◌∙◌, arith}
use Rattle.model.specs.Lists.{over}
use Rattle.text.specs.Text.{written}
use Rattle.listing.proofs.Laws.{written_turn}
use Rattle.listing.proofs.each.each.Goals as goal

pub loop-i-preserved : goal.loop-i-preserved
loop-i-preserved g c =
    let from = c.loop-i.invariant.0 in
    (omega arith, λ f h. h c.loop-i.i _ _ from c.loop-i-test.true c.write.ensures ∙ ap (written (f c.loop-i.i)) (c.loop-i.invariant.1 f h) ∙ sym (written_turn f _ _ _ from))

pub returns : goal.returns
returns g c = λ f h.
    let e : c.loop-i.i - c.args.from ≡ c.args.count = omega arith in
    c.loop-i.invariant.1 f h ∙ ap (λ (n : ℕ). written (over f c.args.from n) c.args.out.now) e
