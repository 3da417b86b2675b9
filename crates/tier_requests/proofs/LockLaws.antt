-- What a request lets go of the lock, as the plain record has it.
use Rattle.std.proofs.Common.{◌≡◌, ℕ, refl, ap, sym, ◌∙◌, Bool, true, false, Some, None, Option, List}
use Rattle.std.specs.Prelude.{is_some, option_map}
use Rattle.cache_words.specs.Time.{MomentValue, DurationValue}
use Rattle.cache_words.specs.Key.{CacheKeyValue}
use Rattle.cache_entries.specs.Entry as entries
use Rattle.cache_changes.specs.Changes.{stored_key}
use Rattle.cache_lock.specs.declared.status.LockStatus.{LockStatus}
use Rattle.cache_lock.specs.declared.tokens.Locked.{Locked}
use Rattle.cache_lock.specs.declared.tokens.Locked.TheVariants.{Write, Read}
use Rattle.cache_lock.specs.Answers.{release_changes}
use Rattle.cache_lock.specs.State.{LockState, after_all}
use Rattle.request_phases.specs.declared.lock_ctx.LockCtx.{LockCtx}
use Rattle.request_phases.specs.declared.request_lock.RequestLock.{RequestLock}
use Rattle.request_phases.specs.Locks as locks
use Rattle.request_phases.specs.Locks.{is_read, let_go}
use Rattle.request_phases.specs.Releases.{released_in, lock_released_for, key_in}
use Rattle.request_cache.specs.Founds.{entry_at}
use Rattle.request_cache.specs.Request.{stored_at}
use Rattle.tier_model.specs.State.{Request}
use Rattle.tier_model.specs.After.{release_of}
use Rattle.tier_requests.specs.Plain.{held_in, IsSet}

-- nothing is held then
pub let-go-none : (l : RequestLock) → locks.held (let_go l) ≡ None
let-go-none l = by_ctx l.ctx
  where
    by_ctx : (ctx : Option LockCtx) → locks.held_in (option_map (λ (c : LockCtx). record c { lock = None }) ctx) ≡ None
    by_ctx None = refl
    by_ctx (Some c) = refl

pub set-let-go : (asks : Bool) (wait : Option DurationValue) (l : RequestLock) → IsSet asks wait l → IsSet asks wait (let_go l)
set-let-go asks wait l set = by_ctx l.ctx set
  where
    by_ctx : (ctx : Option LockCtx) → IsSet asks wait (record { ctx = ctx; polled = l.polled }) → IsSet asks wait (let_go (record { ctx = ctx; polled = l.polled }))
    by_ctx None s = record { on = s.on; timeout = s.timeout }
    by_ctx (Some c) s = record { on = s.on; timeout = s.timeout }

-- what is stored for a request's key is stored under the key of its entry
pub key-same : (key : Option CacheKeyValue) → is_some key ≡ true → stored_at key ≡ stored_key (entries.key_of (entry_at key None))
key-same None there = absurd cc
key-same (Some key) there = refl

-- a permit is released, if one is held; nobody waits
pub released-as : (key : Option CacheKeyValue) (l : Option Locked) (polled : Option MomentValue) (reason : LockStatus) (q : Request) (s : LockState) → is_some key ≡ true → q.entry ≡ entry_at key None
    → is_read l ≡ false → released_in l (stored_at key) reason s ≡ after_all (release_of reason q (held_in l polled) s) s
released-as key None polled reason q s there entry reads = refl
released-as key (Some (Write p)) polled reason q s there entry reads =
    ap (λ (k : List ℕ). after_all (release_changes k p.number reason s) s) (key-same key there ∙ ap (λ e. stored_key (entries.key_of e)) (sym entry))
released-as key (Some (Read r)) polled reason q s there entry reads = absurd cc

pub released-for : (key : Option CacheKeyValue) (reason : LockStatus) (l : RequestLock) (s : LockState) → is_some key ≡ true → lock_released_for (key_in key) (Some reason) l s ≡ released_in (locks.held l) (stored_at key) reason s
released-for None reason l s there = absurd cc
released-for (Some key) reason l s there = refl
