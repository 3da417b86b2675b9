use Rattle.std.proofs.Common.{Some, ap, sym, ◌∙◌}
use Rattle.store_memory.specs.declared.handlers.MemHitHandler.TheVariants.{Partial}
use Rattle.tier_requests.specs.Plain.{Driven, share_of}
use Rattle.tier_requests.proofs.RequestLaws.{reads-stream, read-put}
use Rattle.tier_requests.proofs.request.Request.read.Goals as goal

pub returns-in-Partial : goal.returns-in-Partial
returns-in-Partial g c =
    let i = c.self.inside in
    let s = c.in-Partial.stream in
    let next = c.read-step.new.self in
    read-put i.cache c.put_reader.new.self i.asks i.wait i.gave_read i.seen (share_of i.held) i.unread i.unread c.args.self.now (Some (Partial s)) (Some (Partial next)) c.args.parts.now.store c.answer_for.result c.self.view_is
    (sym c.take_reader.ensures.reader ∙ c.in-Some.is ∙ ap Some c.in-Partial.is)
    (c.put_reader.ensures ∙ ap (λ (d : Driven). record d { reader = Some (Partial next) }) c.take_reader.ensures.request)
    (reads-stream c.args.self.now i.unread s next c.args.parts.now.store c.read-step.result c.answer_for.result c.read-step.ensures.answer c.read-step.ensures.after c.answer_for.ensures)
