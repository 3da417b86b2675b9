use Rattle.std.proofs.Common.{sym, ap, subst, ◌∙◌}
use Rattle.std.specs.Prelude.{Ok, Err}
use Rattle.request_store.specs.declared.faults.LookUpFault.TheVariants as fault
use Rattle.tier_requests.specs.Plain.{Driven, share_of, IsDriven}
use Rattle.tier_requests.proofs.LookLaws.{finds-none}
use Rattle.tier_requests.proofs.MissedLaws.{driven-missed}
use Rattle.tier_requests.proofs.ToldLaws.{told-found, told-none, told-fault}
use Rattle.tier_requests.proofs.LookUpLaws.{look-missed, look-unlocked, look-unshown, look-found}
use Rattle.tier_requests.proofs.request.Request.look_up.Goals as goal

pub returns-in-Ok-Some-clause-answer : goal.returns-in-Ok-Some-clause-answer
returns-in-Ok-Some-clause-answer g c =
    let r = c.self.inside in
    let may = rw (← c.self.view_is) at (sym c.look_refusal.ensures ∙ c.in_default.is) in
    let look = rw c.in-Ok-Some.field-0-is at c.in-Ok-Some.ensures.look in
    rw (← c.self.view_is)
    (look-found g.E.EvictionManager.shard_count g.E.EvictionManager.weighed c.args.moment r.cache r.asks r.wait r.gave_read r.seen (share_of r.held) r.unread c.args.parts.now.store c.cache_lookup_at.new.parts.store c.found.new.parts.store
    (g.E.EvictionManager.managed c.args.parts.now.manager) (g.E.EvictionManager.managed c.cache_lookup_at.new.parts.manager) (g.E.EvictionManager.managed c.found.new.parts.manager)
    c.args.parts.now.lock c.cache_lookup_at.new.parts.lock c.found.new.parts.lock c.cache_lookup_at.new.self c.in-Ok-Some.found c.found.result c.found.new.self c.self.invariant.shown may
    (told-found _ _ c.args.moment _ r.cache c.cache_lookup_at.new.self c.args.parts.now.store c.cache_lookup_at.new.parts.store c.args.parts.now.lock c.cache_lookup_at.new.parts.lock
    c.in-Ok-Some.found look)
    (ap (λ p. g.E.EvictionManager.managed p.manager) c.cache_lookup_at.ensures.parts) c.found.ensures.answer c.found.ensures.shelf)

pub returns-in-Ok-None-clause-answer : goal.returns-in-Ok-None-clause-answer
returns-in-Ok-None-clause-answer g c =
    let r = c.self.inside in
    let may = rw (← c.self.view_is) at (sym c.look_refusal.ensures ∙ c.in_default.is) in
    let look = rw c.in-Ok-None.field-0-is at c.in-Ok-None.ensures.look in
    let none = finds-none _ _ c.args.moment _ r.cache c.args.parts.now.store c.args.parts.now.lock (Ok tt) c.cache_lookup_at.new.self c.cache_lookup_at.new.parts.store c.cache_lookup_at.new.parts.lock
    c.self.invariant.admits c.self.invariant.shown
    (told-none _ _ c.args.moment _ r.cache c.cache_lookup_at.new.self c.args.parts.now.store c.cache_lookup_at.new.parts.store c.args.parts.now.lock c.cache_lookup_at.new.parts.lock look) in
    rw (← c.self.view_is)
    (look-missed g.E.EvictionManager.shard_count g.E.EvictionManager.weighed c.args.moment r.cache r.asks r.wait r.gave_read r.seen (share_of r.held) r.unread c.args.parts.now.store c.cache_lookup_at.new.parts.store c.missed.new.parts.store
    (g.E.EvictionManager.managed c.args.parts.now.manager) (g.E.EvictionManager.managed c.missed.new.parts.manager) c.args.parts.now.lock c.cache_lookup_at.new.parts.lock c.missed.new.parts.lock
    c.cache_lookup_at.new.self c.go_without-self-inside.new.cache c.go_without-self-inside.result c.missed.result c.missed.new.self c.self.invariant may none c.go_without-self-inside.ensures.request c.missed.ensures.answer c.missed.ensures.request
    c.go_without-self-inside.ensures.waits
    c.missed.ensures.shelf (ap (λ p. g.E.EvictionManager.managed p.manager) (c.missed.ensures.parts) ∙ ap (λ p. g.E.EvictionManager.managed p.manager) c.cache_lookup_at.ensures.parts)
    (ap (λ p. p.lock) c.missed.ensures.parts))

pub invariant_of-self-in-Ok-None : goal.invariant_of-self-in-Ok-None
invariant_of-self-in-Ok-None g c =
    let r = c.self.inside in
    let may = rw (← c.self.view_is) at (sym c.look_refusal.ensures ∙ c.in_default.is) in
    let look = rw c.in-Ok-None.field-0-is at c.in-Ok-None.ensures.look in
    let none = finds-none _ _ c.args.moment _ r.cache c.args.parts.now.store c.args.parts.now.lock (Ok tt) c.cache_lookup_at.new.self c.cache_lookup_at.new.parts.store c.cache_lookup_at.new.parts.lock
    c.self.invariant.admits c.self.invariant.shown
    (told-none _ _ c.args.moment _ r.cache c.cache_lookup_at.new.self c.args.parts.now.store c.cache_lookup_at.new.parts.store c.args.parts.now.lock c.cache_lookup_at.new.parts.lock look) in
    driven-missed r.cache c.cache_lookup_at.new.self c.go_without-self-inside.new.cache r.asks r.wait r.gave_read c.go_without-self-inside.result r.seen (share_of r.held) r.unread _ c.self.invariant may none.lock.0
    c.go_without-self-inside.ensures.request c.go_without-self-inside.ensures.waits

pub returns-in-Err-Store-clause-answer : goal.returns-in-Err-Store-clause-answer
returns-in-Err-Store-clause-answer g c =
    let r = c.self.inside in
    let may = rw (← c.self.view_is) at (sym c.look_refusal.ensures ∙ c.in_default.is) in
    let told = rw c.in-Err-Store.field-0-is at c.in-Err-Store.ensures.look in
    let look = told-fault _ _ c.args.moment _ r.cache c.cache_lookup_at.new.self c.args.parts.now.store c.cache_lookup_at.new.parts.store c.args.parts.now.lock c.cache_lookup_at.new.parts.lock _ told in
    rw (c.out_of_memory.ensures, ← c.self.view_is)
    (look-unshown g.E.EvictionManager.shard_count g.E.EvictionManager.weighed c.args.moment r.cache r.asks r.wait r.gave_read r.seen (share_of r.held) r.unread c.args.parts.now.store c.cache_lookup_at.new.parts.store
    (g.E.EvictionManager.managed c.args.parts.now.manager) (g.E.EvictionManager.managed c.cache_lookup_at.new.parts.manager) c.args.parts.now.lock c.cache_lookup_at.new.parts.lock c.cache_lookup_at.new.self may look.1 look.2
    (ap (λ p. g.E.EvictionManager.managed p.manager) c.cache_lookup_at.ensures.parts))

pub returns-in-Err-Lock-clause-answer : goal.returns-in-Err-Lock-clause-answer
returns-in-Err-Lock-clause-answer g c =
    let r = c.self.inside in
    let may = rw (← c.self.view_is) at (sym c.look_refusal.ensures ∙ c.in_default.is) in
    let told = rw c.in-Err-Lock.field-0-is at c.in-Err-Lock.ensures.look in
    let look = told-fault _ _ c.args.moment _ r.cache c.cache_lookup_at.new.self c.args.parts.now.store c.cache_lookup_at.new.parts.store c.args.parts.now.lock c.cache_lookup_at.new.parts.lock (fault.Lock c.in-Err-Lock.fault) told in
    let none = finds-none _ _ c.args.moment _ r.cache c.args.parts.now.store c.args.parts.now.lock (Err c.in-Err-Lock.fault) c.cache_lookup_at.new.self c.cache_lookup_at.new.parts.store c.cache_lookup_at.new.parts.lock
    c.self.invariant.admits c.self.invariant.shown look in
    rw (c.lock_fault_for.ensures, c.in-Err-Lock.field-0-is, ← c.self.view_is)
    (look-unlocked g.E.EvictionManager.shard_count g.E.EvictionManager.weighed c.args.moment r.cache r.asks r.wait r.gave_read r.seen (share_of r.held) r.unread c.args.parts.now.store c.cache_lookup_at.new.parts.store
    (g.E.EvictionManager.managed c.args.parts.now.manager) (g.E.EvictionManager.managed c.cache_lookup_at.new.parts.manager) c.args.parts.now.lock c.cache_lookup_at.new.parts.lock c.cache_lookup_at.new.self c.in-Err-Lock.fault
    c.self.invariant may none (ap (λ p. g.E.EvictionManager.managed p.manager) c.cache_lookup_at.ensures.parts))

pub invariant_of-self-in-Err-Lock : goal.invariant_of-self-in-Err-Lock
invariant_of-self-in-Err-Lock g c =
    let r = c.self.inside in
    let told = rw c.in-Err-Lock.field-0-is at c.in-Err-Lock.ensures.look in
    let look = told-fault _ _ c.args.moment _ r.cache c.cache_lookup_at.new.self c.args.parts.now.store c.cache_lookup_at.new.parts.store c.args.parts.now.lock c.cache_lookup_at.new.parts.lock (fault.Lock c.in-Err-Lock.fault) told in
    let none = finds-none _ _ c.args.moment _ r.cache c.args.parts.now.store c.args.parts.now.lock (Err c.in-Err-Lock.fault) c.cache_lookup_at.new.self c.cache_lookup_at.new.parts.store c.cache_lookup_at.new.parts.lock
    c.self.invariant.admits c.self.invariant.shown look in
    subst (λ (x : Driven). IsDriven x r.asks r.wait r.gave_read (share_of r.held) r.unread) (sym none.lock.2) c.self.invariant
