use Rattle.std.proofs.Common.{ℕ, not, map, sym, ap, refl, ◌∙◌}
use Rattle.std.specs.Prelude.{Option, option_map}
use Rattle.rules_ffi_results.specs.Heads.{sent_framing}
use Rattle.rules_fields.specs.Types.{asked_of, kept_of, chosen}
use Rattle.rules_serving.specs.Whole.{plain_lines}
use Rattle.rules_serving.proofs.Sending.{each_sent}
use Rattle.rules_serving.proofs.whole.whole_sent.Goals as goal

pub returns : goal.returns
returns c =
    each_sent (plain_lines c.args.block.now) (asked_of c.args.request.now) (kept_of c.args.kept.now) c.args.shape.now c.args.way.now c.args.length c.args.now (map (λ h. h.now) c.args.how.now) (chosen c.args.options.now)
    c.is_bare-bare.result c.ends-closes.result c.has_mark.result c.sent_framing-form.result.0 c.sent_framing-form.result.1
    c.in-Some.text.items c.len-to.result c.len.result c.mark.result c.mark-2.result c.blank.result _ c.in_ok-parts.parts.items
    c.ranges.length.fits c.is_bare-bare.ensures (c.sent_framing-form.ensures ∙ ap (λ (l : Option ℕ). sent_framing (not c.is_bare-bare.result) l c.args.shape.now.minor) c.length_sent.ensures) c.ends-closes.ensures c.has_mark.ensures
    (sym (ap (option_map (λ t. t.items)) c.in-Some.is) ∙ c.in_ok-made.ensures) (c.len-to.ensures ∙ c.in-Some.text.ok.0) c.in_ok-parts.ensures (c.len.ensures ∙ c.in_ok-parts.parts.ok.0)
    c.mark.ensures.is c.mark-2.ensures.is c.blank.ensures refl
