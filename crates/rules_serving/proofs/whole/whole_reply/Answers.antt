use Rattle.std.proofs.Common.{◌≡◌, List, [], map, sym, ap, subst, ◌∙◌}
use Rattle.std.specs.Prelude.{Some, IfOk, option_map}
use Rattle.rules_fields.specs.Fields.{Field}
use Rattle.rules_fields.specs.Types.{asked_of, kept_of, chosen}
use Rattle.rules_response.specs.Answering.{whole}
use Rattle.rules_ffi_arguments.specs.Given.{Fails}
use Rattle.rules_ffi_arguments.specs.Moments.{nanoseconds_of}
use Rattle.rules_ffi_arguments.specs.Stored.{kept_by}
use Rattle.rules_ffi_results.specs.Hows.{said, time_to_live}
use Rattle.rules_ffi_results.specs.Numbers.{none}
use Rattle.rules_ffi_results.specs.Sending.{sent_view}
use Rattle.rules_serving.specs.Answers.{shaped}
use Rattle.rules_serving.specs.Whole.{plain_lines, over}
use Rattle.rules_serving.proofs.AtOnce.{isnt, reply_whole, reply_none}
use Rattle.rules_serving.proofs.whole.whole_reply.Goals as goal

pub returns-in_default : goal.returns-in_default
returns-in_default c =
    reply_none c.args.shape.now (asked_of c.args.request.now) c.args.head.now c.args.block.now c.args.length c.args.now c.args.how.now (chosen c.args.options.now)
    (subst (λ e. Fails e (kept_by c.args.head.now [])) c.in_default.ensures.memory c.in_default.ensures.gives)

pub returns : goal.returns
returns c =
    let kept = kept_of c.in-Ok.kept in
    let how : map (λ h. h.now) c.as_slice.result.now ≡ said c.args.how.now (Some (time_to_live (nanoseconds_of c.args.head.now.updated) kept.lifetime c.args.now)) =
    ap (map (λ h. h.now)) c.as_slice.ensures.value ∙ c.in_ok-texts.ensures ∙ c.in_ok-said.ensures
    ∙ ap (λ t. said c.args.how.now (Some t)) (c.time_to_live-left.ensures ∙ ap (λ n. time_to_live n kept.lifetime c.args.now) c.nanoseconds_of.ensures) in
    subst (λ a. IfOk c.whole_sent.result (λ r. option_map sent_view r ≡ a))
    (ap (λ hs. option_map (λ (fs : List Field). shaped (whole (asked_of c.args.request.now) (over kept fs) (Some c.args.length) c.args.now hs (chosen c.args.options.now)) c.args.shape.now c.args.how.now) (plain_lines c.args.block.now)) how
    ∙ reply_whole c.args.shape.now (asked_of c.args.request.now) c.args.head.now c.args.block.now c.args.length c.args.now c.args.how.now (chosen c.args.options.now) kept
    c.in-Ok.ensures.gives (isnt c.args.length none c.if-length-eq-NONE.false) (sym c.asks_for_a_part.ensures ∙ c.if-asks_for_a_part.false))
    c.whole_sent.ensures
