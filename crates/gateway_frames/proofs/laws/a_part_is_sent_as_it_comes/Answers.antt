use Rattle.gateway_frames.proofs.Running.{so_far, whole, broken}
use Rattle.gateway_frames.proofs.laws.a_part_is_sent_as_it_comes.Goals as goal

pub returns-clause-so_far : goal.returns-clause-so_far
returns-clause-so_far c = so_far

pub returns-clause-whole : goal.returns-clause-whole
returns-clause-whole c = whole

pub returns-clause-broken : goal.returns-clause-broken
returns-clause-broken c = broken
