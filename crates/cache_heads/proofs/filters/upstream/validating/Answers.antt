use Rattle.std.proofs.Common.{rules}
use Rattle.cache_heads.proofs.filters.upstream.validating.Goals as goal

pub returns-in_err-sent-clause-ok : goal.returns-in_err-sent-clause-ok
returns-in_err-sent-clause-ok c = search rules

pub returns-in_err-sent-clause-full : goal.returns-in_err-sent-clause-full
returns-in_err-sent-clause-full c = search rules

pub returns-in_err-add_validators-clause-ok : goal.returns-in_err-add_validators-clause-ok
returns-in_err-add_validators-clause-ok c = search rules

pub returns-in_err-add_validators-clause-full : goal.returns-in_err-add_validators-clause-full
returns-in_err-add_validators-clause-full c = search rules

pub same-sent : goal.same-sent
same-sent c = search rules

pub returns-clause-ok : goal.returns-clause-ok
returns-clause-ok c = search rules

pub returns-clause-full : goal.returns-clause-full
returns-clause-full c = search rules
