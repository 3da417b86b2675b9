use Rattle.std.proofs.Common.{rules}
use Rattle.curve_lines.specs.Texts.{rest_text}
use Rattle.curve_lines.proofs.text.others_and_repeats.Goals as goal

pub returns : goal.returns
unfolding rest_text
returns c = search rules
