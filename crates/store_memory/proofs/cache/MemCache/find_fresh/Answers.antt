use Rattle.std.proofs.Common.{sym, ap, ◌∙◌}
use Rattle.cache_heads.specs.declared.meta.CacheMeta.{CacheMeta}
use Rattle.cache_store.specs.Answers.{look_up}
use Rattle.store_memory.specs.Kept.{stored_flight}
use Rattle.store_memory.proofs.FreshLaws.{unless-stale, head-unless-stale, flight-found}
use Rattle.store_memory.proofs.cache.MemCache.find_fresh.Goals as goal

pub returns-in-Some-Body-clause-look : goal.returns-in-Some-Body-clause-look
returns-in-Some-Body-clause-look g c =
    unless-stale c.args.key.now c.in-Some-Body.kept.now c.args.moment (look_up c.args.key.now c.args.self.now.store) c.args.self.now c.unless_stale.result
    (rw c.in-Some-Body.field-0-is at c.in-Some-Body.ensures) c.unless_stale.ensures

pub returns-in-Some-Body-clause-head : goal.returns-in-Some-Body-clause-head
returns-in-Some-Body-clause-head g c =
    head-unless-stale c.args.key.now c.in-Some-Body.kept.now c.args.moment (look_up c.args.key.now c.args.self.now.store) c.args.self.now c.unless_stale.result
    (rw c.in-Some-Body.field-0-is at c.in-Some-Body.ensures) c.unless_stale.ensures

pub returns-clause-look : goal.returns-clause-look
returns-clause-look g c =
    flight-found (stored_flight (c.in-Some-Flying.number, c.in-Some-Flying.flight.now)) c.args.moment (look_up c.args.key.now c.args.self.now.store) c.args.self.now c.attach.new.self c.fresh_until.result c.new.result
    (rw c.in-Some-Flying.field-0-is at c.in-Some-Flying.ensures) (c.fresh_until.ensures ∙ ap (λ (m : CacheMeta). m.internal.fresh_until) c.packed.ensures) c.new.ensures (sym c.is_at_most.ensures ∙ c.if-not-is_at_most.false) c.in_default.ensures.ok
