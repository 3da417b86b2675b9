use Rattle.std.proofs.Common.{false, drop, sym, ap, ◌∙◌}
use Rattle.std.specs.Prelude.{option_and_then}
use Rattle.fast_float.specs.Text.{scan}
use Rattle.serde_json.specs.Find.{as_u64}
use Rattle.serde_json.specs.Read.{number_of, number_from}
use Rattle.trace_lines.proofs.NumberLemmas.{signed_is, unsigned_is, no_whole_number, whole_number_is}
use Rattle.trace_lines.proofs.number.whole_number.Goals as goal

pub returns-then-has_minus : goal.returns-then-has_minus
returns-then-has_minus c =
    let s = c.as_bytes-bytes.result.now in
    sym (ap (λ t. option_and_then as_u64 (number_of t)) (sym c.as_bytes-bytes.ensures.value)
    ∙ ap (option_and_then as_u64) (signed_is s (sym c.if-has_minus.ensures.value))
    ∙ no_whole_number (scan (drop 1 s)))

pub returns : goal.returns
returns c =
    let s = c.as_bytes-bytes.result.now in
    whole_number_is c.scan.result c.to_u64.result c.to_u64.ensures
    ∙ ap (option_and_then as_u64) (ap (number_from false) c.scan.ensures.parts ∙ sym (unsigned_is s (sym c.if-has_minus.ensures.value)) ∙ ap number_of c.as_bytes-bytes.ensures.value)
