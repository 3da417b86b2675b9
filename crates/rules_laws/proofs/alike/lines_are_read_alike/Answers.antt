use Rattle.rules_laws.proofs.Same.{first_same, tokens_same, directives_same, says_same}
use Rattle.rules_laws.proofs.alike.lines_are_read_alike.Goals as goal

pub returns-clause-first : goal.returns-clause-first
returns-clause-first c = λ lines other a name. first_same lines other a name

pub returns-clause-tokens : goal.returns-clause-tokens
returns-clause-tokens c = λ lines other a name. tokens_same lines other a name

pub returns-clause-directives : goal.returns-clause-directives
returns-clause-directives c = λ lines other a name. directives_same lines other a name

pub returns-clause-says : goal.returns-clause-says
returns-clause-says c = λ lines other a o. says_same lines other a o
