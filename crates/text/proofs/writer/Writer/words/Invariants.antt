use Rattle.std.proofs.Common.{◌≡◌, take}
use Rattle.text.specs.Text.{written}
use Rattle.text.proofs.writer.Writer.words.Given as goal

-- The first bytes are written.
abbrev pub invariant-loop-byte : goal.invariant-loop-byte
invariant-loop-byte l = l.self ≡ written (take l.byte-index l.text) l.initial.self
