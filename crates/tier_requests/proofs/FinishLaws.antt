-- How the finish of a request's write is reported, and what it leaves of the request.
use Rattle.std.proofs.Common.{◌≡◌, ℕ, refl, ap, sym, ◌∙◌, subst, Bool, true, false, cond, Some, None, Option, List}
use Rattle.std.specs.Prelude.{is_some, Result}
use Rattle.rand_core.specs.Stream.{Stream}
use Rattle.cache_words.specs.Time.{DurationValue}
use Rattle.cache_heads.specs.declared.meta.CacheMeta.{CacheMeta}
use Rattle.cache_entries.specs.declared.rows.Tracked.{Tracked}
use Rattle.cache_lock.specs.declared.status.LockStatus.{LockStatus}
use Rattle.cache_lock.specs.declared.tokens.Locked.{Locked}
use Rattle.request_store.specs.Admissions.{Cache}
use Rattle.request_phases.specs.declared.phase.CachePhase.{CachePhase}
use Rattle.request_phases.specs.declared.phase.CachePhase.TheVariants as phases
use Rattle.request_phases.specs.Phases.{is_disabled, is_write_phase}
use Rattle.request_phases.specs.Locks as locks
use Rattle.request_phases.specs.Locks.{is_read, let_go}
use Rattle.cache_store.specs.StoreState.{StoreState}
use Rattle.request_store.specs.declared.faults.Finished.{Finished}
use Rattle.request_store.specs.declared.faults.FinishFault.{FinishFault}
use Rattle.request_store.specs.Finishes as store
use Rattle.request_store.specs.Finishes.{Finishes, SameWriter}
use Rattle.request_cache.specs.Finishes.{finish_status, IsLeftBy}
use Rattle.tier_model.specs.State.{LockHold, Request}
use Rattle.tier_requests.specs.Plain.{Driven, held_in, plain_of, IsDriven}
use Rattle.tier_requests.specs.Finishes.{rules, told_of, FinishAnswer}
use Rattle.tier_requests.proofs.PlainLaws.{writes-in}
use Rattle.tier_requests.proofs.LockLaws.{let-go-none, set-let-go}

-- a writer that is handed back is the same number
same-writer : (tag : ℕ → Option (List ℕ)) (old new : Option ℕ) → SameWriter (λ m. m) (λ m. None) tag old new → new ≡ old
same-writer tag None None same = refl
same-writer tag (Some old) (Some new) same = ap Some same.0
same-writer tag None (Some new) same = absurd same
same-writer tag (Some old) None same = absurd same

on-writing : (p : CachePhase) → is_write_phase p ≡ true → is_disabled p ≡ false
on-writing (phases.Disabled reason) writing = absurd cc
on-writing _ writing = refl

module _ (d : Driven) (asks : Bool) (wait : Option DurationValue) (gave : Bool) (k : ℕ) (share : Option CacheMeta) (bytes : Option (List ℕ)) (i : IsDriven d asks wait gave share bytes) where
  -- one that isn't in a phase of writing has no write
  pub no-write : is_write_phase d.phase ≡ false → d.writer ≡ None
  no-write off = by_writer d.writer refl
    where
      by_writer : (w : Option ℕ) → d.writer ≡ w → w ≡ None
      by_writer None e = refl
      by_writer (Some n) e = let never : false ≡ true = sym off ∙ writes-in d.phase (is_some d.meta) (i.writes (ap is_some e)) in absurd cc

  abbrev q : Request
  q = plain_of d asks wait gave k share bytes

  -- the request as a finish leaves it, by whether the permit is released
  abbrev Left : Option LockStatus → Driven → Type 0
  Left status new = (tag : ℕ → Option (List ℕ)) × IsLeftBy (λ m. m) (λ m. None) tag status d new

  -- with its writer as before nothing has changed
  left-same : (new : Driven) → Left None new → new ≡ d
  left-same new l = l.1.0 ∙ ap (λ (w : Option ℕ). record d { writer = w }) (same-writer l.0 d.writer new.writer l.1.1)

  abbrev unwritten : Driven
  unwritten = record d { writer = None; lock = let_go d.lock }

  held-same : is_some d.writer ≡ true → held_in (locks.held (let_go d.lock)) None ≡ held_in (locks.held d.lock) d.lock.polled
  held-same there = ap (λ (l : Option Locked). held_in l None) (let-go-none d.lock) ∙ sym (ap (λ (l : Option Locked). held_in l d.lock.polled) (i.released there))

  left-plain : (status : Option LockStatus) (new : Driven) → is_some d.writer ≡ true → Left status new → plain_of new asks wait gave k share bytes ≡ (cond (is_some status) (record q { write = None }) q)
  left-plain None new there l = ap (λ (r : Driven). plain_of r asks wait gave k share bytes) (left-same new l)
  left-plain (Some status) new there l = ap (λ (r : Driven). plain_of r asks wait gave k share bytes) l.1 ∙ ap (λ (h : LockHold). record q { write = None; held = h }) (held-same there)

  driven-unwritten : IsDriven unwritten asks wait gave share bytes
  driven-unwritten = record {
    used = i.used;
    key = i.key;
    admits = i.admits;
    shown = i.shown;
    evicts = i.evicts;
    lock = λ on. set-let-go asks wait d.lock (i.lock on);
    idle = λ off. record { reader = (i.idle off).reader; writer = refl; lock = ap let_go (i.idle off).lock };
    writes = λ there. absurd cc;
    released = λ there. let-go-none d.lock;
    waits = λ reads. let never : false ≡ true = sym (ap is_read (let-go-none d.lock)) ∙ reads in absurd cc;
    sees = i.sees;
    bare = i.bare;
    unheld = i.unheld;
    gone = i.gone;
  }

  pub driven-finished : (status : Option LockStatus) (tag : ℕ → Option (List ℕ)) (new : Driven) → IsLeftBy (λ m. m) (λ m. None) tag status d new → IsDriven new asks wait gave share bytes
  driven-finished None tag new l = subst (λ (r : Driven). IsDriven r asks wait gave share bytes) (sym (left-same new (tag, l))) i
  driven-finished (Some status) tag new l = subst (λ (r : Driven). IsDriven r asks wait gave share bytes) (sym l) driven-unwritten

  module _ (n : ℕ) (weighed : ℕ → ℕ) (pick : List (List Tracked) → Stream → ℕ × Stream) (came : Result (Option Finished) FinishFault) (old left : Cache StoreState) where
    abbrev Came : Option ℕ → Type 0
    Came w = store.FinishAnswer (rules n weighed pick) (λ m. m) (λ m. None) w d.key d.evicts came old left

    pub finished-as : (tag : ℕ → Option (List ℕ)) (new : Driven) → is_write_phase d.phase ≡ true → Came d.writer → IsLeftBy (λ m. m) (λ m. None) tag (finish_status came) d new
        → FinishAnswer n weighed pick d.writer q old (told_of came) (plain_of new asks wait gave k share bytes) left
    finished-as tag new writing a l = by_writer d.writer refl a
      where
        is_on : is_disabled d.phase ≡ false
        is_on = on-writing d.phase writing

        by_writer : (w : Option ℕ) → d.writer ≡ w → Came w → FinishAnswer n weighed pick w q old (told_of came) (plain_of new asks wait gave k share bytes) left
        by_writer None e a =
            let same : new ≡ d = left-same new (tag, subst (λ (s : Option LockStatus). IsLeftBy (λ m. m) (λ m. None) tag s d new) (ap finish_status a.0) l) in
            (ap told_of a.0, ap (λ (r : Driven). plain_of r asks wait gave k share bytes) same, a.1)
        by_writer (Some m) e a = record {
          came = came;
          key = d.key;
          entry = refl;
          ends = subst (λ (t : Bool). Finishes (rules n weighed pick) (λ m. m) (λ m. None) m d.key t came old left) (i.evicts is_on) a;
          told = refl;
          request = left-plain (finish_status came) new (ap is_some e) (tag, l);
        }
