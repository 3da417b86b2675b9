use Rattle.std.proofs.Common.{false, true, sym, ap, ◌∙◌, arith}
use Rattle.std.specs.Option.{option_map_or}
use Rattle.http1_message_parts.specs.Lines.{has_bare_cr}
use Rattle.http1_message_parts.proofs.Bare.{not_true, cr_at, none_cr}
use Rattle.http1_message_parts.proofs.rows.has_bare_cr.Goals as goal

pub loop-i-preserved : goal.loop-i-preserved
loop-i-preserved c =
    let low = c.in-Some.ensures.0 in
    ap (λ o. option_map_or (λ rest. has_bare_cr false rest) o true) c.in-Some-behind_end.ensures.is
    ∙ sym (cr_at c.loop-i.left.now c.in-Some.i low.high (λ j lt. not_true _ (low.before j (omega arith) lt)) c.in-Some.ensures.1) ∙ c.loop-i.invariant

pub returns-in-None : goal.returns-in-None
returns-in-None c =
    let low = c.in-Some.ensures.0 in
    ap (λ o. option_map_or (λ rest. has_bare_cr false rest) o true) c.in-None.ensures.is
    ∙ sym (cr_at c.loop-i.left.now c.in-Some.i low.high (λ j lt. not_true _ (low.before j (omega arith) lt)) c.in-Some.ensures.1) ∙ c.loop-i.invariant

pub returns : goal.returns
returns c = sym (none_cr c.loop-i.left.now (λ j lt. not_true _ (c.in_default.ensures j (omega arith) lt))) ∙ c.loop-i.invariant
