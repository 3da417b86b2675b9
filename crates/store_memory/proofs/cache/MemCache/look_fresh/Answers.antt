use Rattle.std.proofs.Common.{ap, sym, ◌∙◌}
use Rattle.cache_words.specs.Time.{MomentValue, at_most}
use Rattle.cache_heads.specs.declared.meta.CacheMeta.{CacheMeta}
use Rattle.cache_store.specs.Answers.{look_up}
use Rattle.store_memory.specs.Kept.{stored_flight}
use Rattle.store_memory.proofs.FreshLaws.{fresh-found, fresh-flight, fresh-none, fresh-unread}
use Rattle.store_memory.proofs.cache.MemCache.look_fresh.Goals as goal

pub returns-in-None : goal.returns-in-None
returns-in-None g c = fresh-none c.args.moment (look_up c.args.key.now c.args.self.now.store) c.args.self.now c.in-None.ensures

pub returns-then-is_at_most : goal.returns-then-is_at_most
returns-then-is_at_most g c =
    fresh-found c.args.key.now c.in-Some-Body.kept.now c.args.moment (look_up c.args.key.now c.args.self.now.store) c.args.self.now c.fresh_body.result
    (rw c.in-Some-Body.field-0-is at c.in-Some-Body.ensures)
    (ap (λ (m : MomentValue). at_most c.args.moment m) (sym c.fresh_until.ensures) ∙ sym c.is_at_most.ensures ∙ c.if-is_at_most.true) c.fresh_body.ensures

pub returns-in-Err : goal.returns-in-Err
returns-in-Err g c =
    fresh-unread (stored_flight (c.in-Some-Flying.number, c.in-Some-Flying.flight.now)) c.args.moment (look_up c.args.key.now c.args.self.now.store) c.args.self.now c.attach.new.self c.in-Err.fault
    (rw c.in-Some-Flying.field-0-is at c.in-Some-Flying.ensures) c.in-Err.ensures.fault c.in-Err.ensures.err

pub returns : goal.returns
returns g c =
    fresh-flight (stored_flight (c.in-Some-Flying.number, c.in-Some-Flying.flight.now)) c.args.moment (look_up c.args.key.now c.args.self.now.store) c.args.self.now c.attach.new.self c.fresh_until-in-Some-Flying.result c.new.result
    (rw c.in-Some-Flying.field-0-is at c.in-Some-Flying.ensures) (c.fresh_until-in-Some-Flying.ensures ∙ ap (λ (m : CacheMeta). m.internal.fresh_until) c.packed.ensures) c.new.ensures (sym c.is_at_most-2.ensures ∙ c.if-not-is_at_most.false) c.in_default.ensures.ok
