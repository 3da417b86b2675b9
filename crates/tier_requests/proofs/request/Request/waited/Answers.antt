use Rattle.std.proofs.Common.{Some, None, ap, sym, ◌∙◌}
use Rattle.request_phases.specs.Locks.{held}
use Rattle.tier_model.specs.Answers.{polled}
use Rattle.tier_model.specs.Checks.{is_waiting}
use Rattle.tier_model.specs.State.{Request}
use Rattle.tier_requests.specs.Plain.{share_of}
use Rattle.tier_requests.proofs.PlainLaws.{waits-in}
use Rattle.tier_requests.proofs.PollLaws.{wait-told}
use Rattle.tier_requests.proofs.request.Request.waited.Goals as goal

pub returns-in-Some-clause-outcome : goal.returns-in-Some-clause-outcome
returns-in-Some-clause-outcome g c =
    let d = c.self.inside.cache in
    let reads = sym (waits-in (held d.lock) d.lock.polled) ∙ ap (λ (q : Request). is_waiting q.held) c.self.view_is ∙ c.requires in
    let none = ap (λ v. v.items) c.new-unusable.ensures ∙ c.new.ensures.items in
    ap Some c.lock_status.ensures
    ∙ wait-told d c.self.inside.asks c.self.inside.wait c.self.inside.gave_read c.self.inside.seen (share_of c.self.inside.held) c.self.inside.unread c.self.invariant reads _ (Some c.in-Some.outcome) c.args.moment c.args.parts.now.lock none c.in-Some.ensures.outcome
    ∙ ap (λ (q : Request). polled c.args.parts.now.lock c.args.moment q q.held) c.self.view_is

pub returns-clause-outcome : goal.returns-clause-outcome
returns-clause-outcome g c =
    let d = c.self.inside.cache in
    let reads = sym (waits-in (held d.lock) d.lock.polled) ∙ ap (λ (q : Request). is_waiting q.held) c.self.view_is ∙ c.requires in
    let none = ap (λ v. v.items) c.new-unusable.ensures ∙ c.new.ensures.items in
    wait-told d c.self.inside.asks c.self.inside.wait c.self.inside.gave_read c.self.inside.seen (share_of c.self.inside.held) c.self.inside.unread c.self.invariant reads _ None c.args.moment c.args.parts.now.lock none c.in-None.ensures.outcome
    ∙ ap (λ (q : Request). polled c.args.parts.now.lock c.args.moment q q.held) c.self.view_is
