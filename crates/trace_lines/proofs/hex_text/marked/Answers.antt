use Rattle.std.proofs.Common.{ap, sym, ◌∙◌, subst}
use Rattle.std.specs.Prelude.{max}
use Rattle.hex.specs.Hex.{hex_digit_value}
use Rattle.trace_lines.specs.Digits.{IsMarked}
use Rattle.trace_lines.proofs.DigitLemmas.{letter, marked_is}
use Rattle.trace_lines.proofs.hex_text.marked.Goals as goal

pub returns : goal.returns
returns c =
    let larger = c.max.ensures ∙ ap (λ d. max d (letter c.args.c)) c.saturating_sub-digit.ensures in
    subst (IsMarked (hex_digit_value c.args.c)) (sym larger) (marked_is c.args.c c.ranges.c.fits)
