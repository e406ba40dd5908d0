use Rattle.std.proofs.Common.{rules, ◌≡◌, length}
use Rattle.model.specs.Lent.{problem_of, buffers_of}
use Rattle.model.specs.Answers.{lengths, verdict_of}
use Rattle.model.proofs.Usable.{usable, usable_sizes}
use Rattle.model.proofs.Counted.{counted}
use Rattle.passes.proofs.Landed.{refused, accepted, done}
use Rattle.assembly.proofs.assemble.Goals as goal

pub returns-in_err-verdict-clause-answer : goal.returns-in_err-verdict-clause-answer
returns-in_err-verdict-clause-answer c =
    refused (problem_of c.args.problem.now) (buffers_of c.args.out.now) (rw (← c.lengths_of-lengths.ensures) c.verdict.ensures) c.in_err-verdict.was (search rules)

pub write-t-requires : goal.write-t-requires
write-t-requires c = accepted (problem_of c.args.problem.now) (buffers_of c.args.out.now) (rw (← c.lengths_of-lengths.ensures) c.verdict.ensures) c.in_ok-verdict.was

pub returns-clause-answer : goal.returns-clause-answer
returns-clause-answer c =
    let p = problem_of c.args.problem.now in
    let b = buffers_of c.args.out.now in
    let e : c.verdict.result ≡ verdict_of p (lengths b) (length b.index) = rw (← c.lengths_of-lengths.ensures) c.verdict.ensures in
    let f = c.in_ok-verdict.was in
    rw c.from.ensures (done p b e f (counted p (usable_sizes p (usable p (accepted p b e f)))) c.write-t.ensures.complete)
