use Rattle.replay_list.proofs.Decoding.{agreed}
use Rattle.std.proofs.Common.{rules, tests}
use mathlib.Core.Path.{◌≡◌, sym, ◌∙◌}
use Rattle.replay_list.proofs.case.case_agrees.Goals as goal

pub returns-then-eq : goal.returns-then-eq
returns-then-eq c =
    λ e.
    let case = c.args.case.now in
    let same : c.size.result ≡ c.sizing_at-sized.result = search (rules, tests) in
    let read = c.decode-decoded.ensures in
    agreed case.start.list.now case.start.at _ _ _ case.places read.job_read read.records_read read.problem_read case.parts
    (sym c.size.ensures ∙ same ∙ (rw (c.to.ensures.0, c.to.ensures.1) at c.sizing_at-sized.ensures)) (c.assembly_agrees.ensures e)
