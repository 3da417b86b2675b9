use Rattle.std.proofs.Common.{◌≡◌, rules, arith}
use Rattle.std.proofs.lemmas.Grind.{common_steps}
use Rattle.http1_message.proofs.Starting.{starts}
use Rattle.http1_message.proofs.response.by_lines.Goals as goal

pub returns : goal.returns
returns c =
    rw (starts _ _ _ _ _ _ _ c.first_line.ensures.first c.text_behind.ensures) at c.by_start.ensures
