use Rattle.std.proofs.Common.{sym, ◌∙◌}
use Rattle.text.proofs.Doubles.{number_decimals, number_hex}
use Rattle.text.proofs.Laws.{after, renamed}
use Rattle.text.proofs.writer.Writer.number.Goals as goal

pub returns-in-Some : goal.returns-in-Some
returns-in-Some c =
    renamed _ (number_decimals _ _ (sym c.is_nan.ensures.value ∙ c.if-is_nan.false) c.magnitude.ensures c.nearest.ensures c.in-Some.is)
    (after _ _ _ (after _ _ _ c.sign.ensures c.decimal.ensures) c.fraction.ensures)

pub returns-in-None : goal.returns-in-None
returns-in-None c =
    renamed _ (number_hex _ (sym c.is_nan.ensures.value ∙ c.if-is_nan.false) c.magnitude.ensures c.nearest.ensures c.in-None.is)
    (after _ _ _ c.words-in-None.ensures c.digits.ensures)
