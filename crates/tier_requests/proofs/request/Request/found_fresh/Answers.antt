use Rattle.std.proofs.Common.{true}
use Rattle.tier_requests.specs.Plain.{share_of}
use Rattle.tier_requests.proofs.EndLaws.{shelf-spent}
use Rattle.tier_requests.proofs.TakeLaws.{taken-fresh, found-fresh, found-unused}
use Rattle.tier_requests.proofs.request.Request.found_fresh.Goals as goal

pub returns-in-Err-Evict-clause-answer : goal.returns-in-Err-Evict-clause-answer
returns-in-Err-Evict-clause-answer g c = λ t l by.
    let r = c.self.inside in
    let up = rw c.in-Err-Evict.field-0-is at c.in-Err-Evict.ensures.found in
    let uses = rw c.in-Err-Evict.field-0-is at c.in-Err-Evict.ensures.used in
    let untracked = rw c.in-Err-Evict.field-0-is at c.in-Err-Evict.ensures.untracked in
    rw (c.fault_for.ensures, c.nothing_done.ensures, ← c.self.view_is) (found-unused g.E.EvictionManager.shard_count g.E.EvictionManager.weighed t r.cache r.asks r.wait r.gave_read r.seen (share_of r.held) r.unread l c.args.hit true
    (record { driven = c.self.invariant; may = rw (← c.self.view_is) at c.requires; freshness = by.0; reads = by.1 })
    c.take_body.new.hit c.in-Ok.unread (g.E.EvictionManager.managed c.args.parts.now.manager) (g.E.EvictionManager.managed c.cache_found_fresh.new.parts.manager)
    c.args.parts.now.lock c.cache_found_fresh.new.parts.lock c.cache_found_fresh.new.self _ c.in-Ok.ensures up.0 up.2 uses untracked)

pub returns-clause-answer : goal.returns-clause-answer
returns-clause-answer g c = λ t l by.
    let r = c.self.inside in
    rw (c.can_seek-complete.ensures, ← c.self.view_is) (found-fresh g.E.EvictionManager.shard_count g.E.EvictionManager.weighed t r.cache r.asks r.wait r.gave_read r.seen (share_of r.held) r.unread l c.args.hit
    (record { driven = c.self.invariant; may = rw (← c.self.view_is) at c.requires; freshness = by.0; reads = by.1 })
    c.take_body.new.hit c.in-Ok.unread c.args.parts.now.store c.cache_found_fresh.new.parts.store (g.E.EvictionManager.managed c.args.parts.now.manager) (g.E.EvictionManager.managed c.cache_found_fresh.new.parts.manager)
    c.args.parts.now.lock c.cache_found_fresh.new.parts.lock c.cache_found_fresh.new.self c.in-Ok.ensures
    (taken-fresh t c.take_body.new.hit r.cache c.cache_found_fresh.new.self c.args.parts.now.store c.cache_found_fresh.new.parts.store
    c.args.parts.now.lock c.cache_found_fresh.new.parts.lock c.in-Ok-cache_found_fresh.ensures.found)
    c.in-Ok-cache_found_fresh.ensures.used)

pub returns-clause-shelf : goal.returns-clause-shelf
returns-clause-shelf g c =
    let r = c.self.inside in
    let taken = c.in-Ok-cache_found_fresh.ensures.found in
    rw (← c.self.view_is) (shelf-spent r.unread r.cache.reader c.args.parts.now.store c.cache_found_fresh.new.parts.store taken.1)
