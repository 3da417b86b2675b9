use Rattle.std.proofs.Common.{◌≡◌, ap, sym, ◌∙◌, List, ℕ}
use Rattle.std.specs.Prelude.{is_some, is_none}
use Rattle.cache_words.specs.Key.{combined, key_of}
use Rattle.cache_store.specs.Looks.{shows}
use Rattle.request_cache.specs.Points.{point}
use Rattle.request_cache.specs.Request.{Request, stored_at}
use Rattle.request_cache.proofs.FreshLaws.{as-found, found-told, absent-told, lock-told, store-told}
use Rattle.request_cache.proofs.request.HttpCache.cache_lookup_at.Goals as goal

pub returns-in-Ok-Some-default-clause-look : goal.returns-in-Ok-Some-default-clause-look
returns-in-Ok-Some-default-clause-look g c =
    let shown = λ (k : List ℕ). shows g.S.Storage.streams k (g.S.Contents.held c.args.parts.now.store).store in
    let same_key : combined (key_of c.in-Some.key) ≡ stored_at c.args.self.now.key = ap stored_at (sym c.in-Some.is ∙ ap (λ (r : Request g.row.S-Hit.Denot g.row.S-Miss.Denot). r.key) c.self.view_is) in
    found-told g.S.Hit.HandleHit.reader g.S.Miss.HandleMiss.number g.S.Hit.HandleHit.weight g.S.Hit.HandleHit.id g.S.Contents.weigh (g.S.Contents.ids c.args.parts.now.store)
    (g.L.CacheKeyLock.custom c.args.parts.now.lock) (g.A.AdmissionPolicy.decides c.args.parts.now.policy) c.args.moment shown (g.S.Contents.held c.args.parts.now.store) (g.L.CacheKeyLock.state c.args.parts.now.lock)
    (stored_at c.args.self.now.key) c.args.self.now c.in-Ok-Some-default.found (g.S.Contents.held c.look_valid_at.new.store)
    (as-found g.S.Hit.HandleHit.reader g.S.Miss.HandleMiss.number g.S.Hit.HandleHit.weight g.S.Hit.HandleHit.id g.S.Contents.weigh (g.S.Contents.ids c.args.parts.now.store)
    (g.L.CacheKeyLock.custom c.args.parts.now.lock) (g.A.AdmissionPolicy.decides c.args.parts.now.policy) c.args.moment shown (g.S.Contents.held c.args.parts.now.store) (g.L.CacheKeyLock.state c.args.parts.now.lock)
    _ _ _ _ _ _ _ same_key (ap (λ (r : Request g.row.S-Hit.Denot g.row.S-Miss.Denot). r.valid_after) c.self.view_is) c.in-Ok-Some-default.field-0-0-is c.in-Ok-Some-default.ensures.look)

pub returns-in-Ok-clause-look : goal.returns-in-Ok-clause-look
returns-in-Ok-clause-look g c =
    let shown = λ (k : List ℕ). shows g.S.Storage.streams k (g.S.Contents.held c.args.parts.now.store).store in
    let same_key : combined (key_of c.in-Some.key) ≡ stored_at c.args.self.now.key = ap stored_at (sym c.in-Some.is ∙ ap (λ (r : Request g.row.S-Hit.Denot g.row.S-Miss.Denot). r.key) c.self.view_is) in
    absent-told g.S.Hit.HandleHit.reader g.S.Miss.HandleMiss.number g.S.Hit.HandleHit.weight g.S.Hit.HandleHit.id g.S.Contents.weigh (g.S.Contents.ids c.args.parts.now.store)
    (g.L.CacheKeyLock.custom c.args.parts.now.lock) (g.A.AdmissionPolicy.decides c.args.parts.now.policy) c.args.moment shown (g.S.Contents.held c.args.parts.now.store) (g.L.CacheKeyLock.state c.args.parts.now.lock)
    (stored_at c.args.self.now.key) c.args.self.now c.in-Ok-None-default.nothing (g.S.Contents.held c.look_valid_at.new.store)
    (point c.miss.new.self (g.S.Contents.held c.miss.new.parts.store) (g.L.CacheKeyLock.state c.miss.new.parts.lock))
    (c.in-Ok-None-default.ensures.none ∙ ap (λ (k : List ℕ). is_none (shown k)) same_key)
    (as-found g.S.Hit.HandleHit.reader g.S.Miss.HandleMiss.number g.S.Hit.HandleHit.weight g.S.Hit.HandleHit.id g.S.Contents.weigh (g.S.Contents.ids c.args.parts.now.store)
    (g.L.CacheKeyLock.custom c.args.parts.now.lock) (g.A.AdmissionPolicy.decides c.args.parts.now.policy) c.args.moment shown (g.S.Contents.held c.args.parts.now.store) (g.L.CacheKeyLock.state c.args.parts.now.lock)
    _ _ _ _ _ _ _ same_key (ap (λ (r : Request g.row.S-Hit.Denot g.row.S-Miss.Denot). r.valid_after) c.self.view_is) c.in-Ok-None-default.field-0-0-is c.in-Ok-None-default.ensures.look)
    c.in-Ok.ensures.missed

pub returns-in-Err-miss-clause-look : goal.returns-in-Err-miss-clause-look
returns-in-Err-miss-clause-look g c =
    let shown = λ (k : List ℕ). shows g.S.Storage.streams k (g.S.Contents.held c.args.parts.now.store).store in
    let same_key : combined (key_of c.in-Some.key) ≡ stored_at c.args.self.now.key = ap stored_at (sym c.in-Some.is ∙ ap (λ (r : Request g.row.S-Hit.Denot g.row.S-Miss.Denot). r.key) c.self.view_is) in
    lock-told g.S.Hit.HandleHit.reader g.S.Miss.HandleMiss.number g.S.Hit.HandleHit.weight g.S.Hit.HandleHit.id g.S.Contents.weigh (g.S.Contents.ids c.args.parts.now.store)
    (g.L.CacheKeyLock.custom c.args.parts.now.lock) (g.A.AdmissionPolicy.decides c.args.parts.now.policy) c.args.moment shown (g.S.Contents.held c.args.parts.now.store) (g.L.CacheKeyLock.state c.args.parts.now.lock)
    (stored_at c.args.self.now.key) c.args.self.now c.in-Ok-None-default.nothing (g.S.Contents.held c.look_valid_at.new.store)
    (point c.miss.new.self (g.S.Contents.held c.miss.new.parts.store) (g.L.CacheKeyLock.state c.miss.new.parts.lock))
    (c.in-Ok-None-default.ensures.none ∙ ap (λ (k : List ℕ). is_none (shown k)) same_key) c.in-Err-miss.fault
    (as-found g.S.Hit.HandleHit.reader g.S.Miss.HandleMiss.number g.S.Hit.HandleHit.weight g.S.Hit.HandleHit.id g.S.Contents.weigh (g.S.Contents.ids c.args.parts.now.store)
    (g.L.CacheKeyLock.custom c.args.parts.now.lock) (g.A.AdmissionPolicy.decides c.args.parts.now.policy) c.args.moment shown (g.S.Contents.held c.args.parts.now.store) (g.L.CacheKeyLock.state c.args.parts.now.lock)
    _ _ _ _ _ _ _ same_key (ap (λ (r : Request g.row.S-Hit.Denot g.row.S-Miss.Denot). r.valid_after) c.self.view_is) c.in-Ok-None-default.field-0-0-is c.in-Ok-None-default.ensures.look)
    c.in-Err-miss.ensures.missed

pub returns-in-Err-clause-look : goal.returns-in-Err-clause-look
returns-in-Err-clause-look g c =
    let shown = λ (k : List ℕ). shows g.S.Storage.streams k (g.S.Contents.held c.args.parts.now.store).store in
    let same_key : combined (key_of c.in-Some.key) ≡ stored_at c.args.self.now.key = ap stored_at (sym c.in-Some.is ∙ ap (λ (r : Request g.row.S-Hit.Denot g.row.S-Miss.Denot). r.key) c.self.view_is) in
    store-told g.S.Hit.HandleHit.reader g.S.Miss.HandleMiss.number g.S.Hit.HandleHit.weight g.S.Hit.HandleHit.id g.S.Contents.weigh (g.S.Contents.ids c.args.parts.now.store)
    (g.L.CacheKeyLock.custom c.args.parts.now.lock) (g.A.AdmissionPolicy.decides c.args.parts.now.policy) c.args.moment shown (g.S.Contents.held c.args.parts.now.store) (g.L.CacheKeyLock.state c.args.parts.now.lock)
    (stored_at c.args.self.now.key) c.args.self.now c.in-Err.fault (g.S.Contents.held c.look_valid_at.new.store)
    c.in-Err.ensures.err.0 c.in-Err.ensures.err.1 (sym (ap (λ (k : List ℕ). is_some (shown k)) same_key) ∙ c.in-Err.ensures.looked)
