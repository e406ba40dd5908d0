use Rattle.sizing.proofs.Answers.{fits}
use Rattle.sizing.proofs.size.Goals as goal

pub count-requires : goal.count-requires
count-requires c = fits _ c.check.ensures c.in_ok-check.was
