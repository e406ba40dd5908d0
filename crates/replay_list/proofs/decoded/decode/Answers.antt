use Rattle.replay_list.proofs.Decoding.{records_read, problem_read}
use Rattle.replay_list.proofs.decoded.decode.Goals as goal

-- `replay_list::decoded::decode` meets its contract: what is read at the case's places is the case's.
pub returns-clause-records_read : goal.returns-clause-records_read
returns-clause-records_read c =
    let case = c.args.case.now in
    records_read case.start.list.now case.start.at c.records_at.result case.places case.parts (rw (c.to.ensures.0, c.to.ensures.1, c.length_at.ensures) at c.records_at.ensures)

pub returns-clause-problem_read : goal.returns-clause-problem_read
returns-clause-problem_read c =
    let case = c.args.case.now in
    problem_read case.start.list.now case.start.at c.job_at.result c.records_at.result c.read_floats.result c.read_numbers.result case.starts case.places c.job_at.ensures case.parts case.lists
    (rw (c.to.ensures.0, c.to.ensures.1, c.length_at.ensures) at c.records_at.ensures) (rw (c.to-2.ensures.0, c.to-2.ensures.1) at c.read_floats.ensures) (rw (c.to-3.ensures.0, c.to-3.ensures.1) at c.read_numbers.ensures)
    c.requires.floats_fit c.requires.numbers_fit
