-- The problem of a case as it was read.
use Rattle.model.specs.Problem.{Problem}
use Rattle.replay_list.specs.declared.decoded.Decoded.{Decoded}
use Rattle.replay_list.specs.Format.{part, list_in, problem_with}

abbrev pub problem_of : Decoded → Problem
problem_of c = problem_with c.job c.records (list_in c.floats c.starts) (part c.numbers 0 c.split) (part c.numbers c.split c.end)
