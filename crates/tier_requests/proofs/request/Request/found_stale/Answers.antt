use Rattle.std.proofs.Common.{refl, ap, sym, ◌∙◌, false, inl, Some}
use Rattle.tier_requests.specs.Plain.{without_head, share_of, as_seen}
use Rattle.tier_requests.proofs.SeenLaws.{seen-stale}
use Rattle.tier_requests.proofs.EndLaws.{shelf-spent}
use Rattle.tier_requests.proofs.FindLaws.{taken-parts, found-there}
use Rattle.tier_requests.proofs.GivenLaws.{lock-left}
use Rattle.tier_requests.proofs.TakeLaws.{taken-stale, driven-found, found-taken, found-unlocked, found-unused}
use Rattle.tier_requests.proofs.request.Request.found_stale.Goals as goal

pub returns-in-Err-clause-answer : goal.returns-in-Err-clause-answer
returns-in-Err-clause-answer g c = λ l by.
    rw c.out_of_memory-in-Err.ensures
    (inl (refl, inl (found-there l c.args.hit by.2)), refl, refl, lock-left c.args.moment c.args.self.now l c.args.parts.now.lock c.args.parts.now.lock refl)

pub returns-in-Err-Lock-clause-answer : goal.returns-in-Err-Lock-clause-answer
returns-in-Err-Lock-clause-answer g c = λ l by.
    let r = c.self.inside in
    let up = rw c.in-Err-Lock.field-0-is at c.in-Err-Lock.ensures.found in
    let uses = rw c.in-Err-Lock.field-0-is at c.in-Err-Lock.ensures.used in
    rw (c.lock_fault_for.ensures, ← c.self.view_is) (found-unlocked g.E.EvictionManager.shard_count g.E.EvictionManager.weighed c.args.moment r.cache r.asks r.wait r.gave_read r.seen (share_of r.held) r.unread l c.args.hit false
    (record { driven = c.self.invariant; may = rw (← c.self.view_is) at c.requires; freshness = by.0; reads = by.2 })
    (g.E.EvictionManager.managed c.args.parts.now.manager) (g.E.EvictionManager.managed c.cache_found.new.parts.manager)
    c.args.parts.now.lock c.cache_found.new.parts.lock c.cache_found.new.self _ refl up.lock.1 up.lock.2 up.request up.lock.3 uses)

pub returns-in-Err-Evict-clause-answer : goal.returns-in-Err-Evict-clause-answer
returns-in-Err-Evict-clause-answer g c = λ l by.
    let r = c.self.inside in
    let up = rw c.in-Err-Evict.field-0-is at c.in-Err-Evict.ensures.found in
    let uses = rw c.in-Err-Evict.field-0-is at c.in-Err-Evict.ensures.used in
    let untracked = rw c.in-Err-Evict.field-0-is at c.in-Err-Evict.ensures.untracked in
    rw (c.fault_for.ensures, c.nothing_done.ensures, ← c.self.view_is) (found-unused g.E.EvictionManager.shard_count g.E.EvictionManager.weighed c.args.moment r.cache r.asks r.wait r.gave_read r.seen (share_of r.held) r.unread l c.args.hit false
    (record { driven = c.self.invariant; may = rw (← c.self.view_is) at c.requires; freshness = by.0; reads = by.2 })
    c.take_body.new.hit c.in-Ok-take_body.unread (g.E.EvictionManager.managed c.args.parts.now.manager) (g.E.EvictionManager.managed c.cache_found.new.parts.manager)
    c.args.parts.now.lock c.cache_found.new.parts.lock c.cache_found.new.self _ c.in-Ok-take_body.ensures up.request up.lock.0 uses untracked)

pub returns-in-Err-Evict-clause-shelf : goal.returns-in-Err-Evict-clause-shelf
returns-in-Err-Evict-clause-shelf g c = taken-parts c.args.hit c.take_body.new.hit c.in-Ok-take_body.unread c.args.parts.now.store c.cache_found.new.parts.store c.in-Ok-take_body.ensures c.in-Err-Evict.ensures.found.store

pub invariant_of-self-2 : goal.invariant_of-self-2
invariant_of-self-2 g c =
    let r = c.self.inside in
    driven-found c.args.moment r.cache c.cache_found.new.self r.asks r.wait r.gave_read c.is_cache_locked-self-inside.result r.seen (share_of r.held) (share_of (Some c.in-Ok.held)) r.unread c.in-Ok-take_body.unread (Some c.without_head-bare.result)
    c.args.hit c.take_body.new.hit false
    c.args.parts.now.store c.cache_found.new.parts.store c.args.parts.now.lock c.cache_found.new.parts.lock c.self.invariant (rw (← c.self.view_is) at c.requires) (λ stale. refl)
    (ap Some (c.without_head-bare.ensures ∙ ap without_head (sym c.in-Ok.ensures.ok))) c.is_cache_locked-self-inside.ensures c.in-Ok-take_body.ensures
    (taken-stale c.args.moment c.without_head-bare.result c.take_body.new.hit r.cache c.cache_found.new.self c.args.parts.now.store c.cache_found.new.parts.store
    c.args.parts.now.lock c.cache_found.new.parts.lock c.in-Ok-cache_found.ensures.found)

pub returns-clause-answer : goal.returns-clause-answer
returns-clause-answer g c = λ l by.
    let r = c.self.inside in
    rw (c.can_seek-complete.ensures, c.given.ensures, ← c.self.view_is) (found-taken g.E.EvictionManager.shard_count g.E.EvictionManager.weighed c.args.moment r.cache r.asks r.wait r.gave_read r.seen (share_of r.held) r.unread l c.args.hit false
    (record { driven = c.self.invariant; may = rw (← c.self.view_is) at c.requires; freshness = by.0; reads = by.2 })
    (Some c.without_head-bare.result) (share_of (Some c.in-Ok.held)) c.take_body.new.hit c.in-Ok-take_body.unread c.args.parts.now.store c.cache_found.new.parts.store (g.E.EvictionManager.managed c.args.parts.now.manager) (g.E.EvictionManager.managed c.cache_found.new.parts.manager)
    c.args.parts.now.lock c.cache_found.new.parts.lock c.cache_found.new.self c.is_cache_locked-self-inside.result c.write_number-seen.result
    ((λ i. Some (as_seen (c.write_number-seen.ensures i) (c.in-Ok.ensures.ok i))) ∙ seen-stale c.args.moment l c.args.meta c.args.hit by.0 by.1 by.2) c.is_cache_locked-self-inside.ensures c.in-Ok-take_body.ensures
    (taken-stale c.args.moment c.without_head-bare.result c.take_body.new.hit r.cache c.cache_found.new.self c.args.parts.now.store c.cache_found.new.parts.store
    c.args.parts.now.lock c.cache_found.new.parts.lock c.in-Ok-cache_found.ensures.found)
    c.in-Ok-cache_found.ensures.used)

pub returns-clause-shelf : goal.returns-clause-shelf
returns-clause-shelf g c =
    let r = c.self.inside in
    let taken = taken-stale c.args.moment c.without_head-bare.result c.take_body.new.hit r.cache c.cache_found.new.self c.args.parts.now.store c.cache_found.new.parts.store
    c.args.parts.now.lock c.cache_found.new.parts.lock c.in-Ok-cache_found.ensures.found in
    rw (← c.self.view_is) (shelf-spent r.unread r.cache.reader c.args.parts.now.store c.cache_found.new.parts.store taken.store)
