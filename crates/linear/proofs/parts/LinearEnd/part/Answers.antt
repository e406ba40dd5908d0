use Rattle.std.proofs.Common.{sym, ℕ, length}
use Rattle.model.specs.Program.{cell}
use Rattle.linear.specs.Parts.{charge_at}
use Rattle.linear.proofs.Charges.{past_by}
use Rattle.linear.proofs.parts.LinearEnd.part.Goals as goal

pub returns-then-c-self : goal.returns-then-c-self
returns-then-c-self c = past_by (λ (k : ℕ). cell c.args.self.moving (charge_at c.args.self k)) 1 (length c.args.self.roots.now) (λ j h l q. c.if-c-self.true (sym q))
