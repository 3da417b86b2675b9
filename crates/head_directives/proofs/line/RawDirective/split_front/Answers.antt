use Rattle.head_directives.proofs.Scanning.{written_is, rest_is}
use Rattle.head_directives.proofs.line.RawDirective.split_front.Goals as goal

pub returns-clause-is : goal.returns-clause-is
returns-clause-is c =
    written_is c.args.bytes.now _ c.split_at.result.1.now c.token_len.result _ c.token_len.ensures.is c.split_at.ensures.front c.split_at.ensures.back c.value.ensures.is

pub returns-clause-rest : goal.returns-clause-rest
returns-clause-rest c =
    rest_is c.args.bytes.now c.split_at.result.1.now _ c.token_len.result c.token_len.ensures.is c.split_at.ensures.back c.value.ensures.rest
