-- What the phase of a request says of its wait and its write.
use Rattle.std.proofs.Common.{◌≡◌, ℕ, refl, ap, sym, ◌∙◌, true, false}
use Rattle.std.specs.Prelude.{Bool, Option, Some, None}
use Rattle.cache_words.specs.Time.{MomentValue}
use Rattle.cache_lock.specs.Answers.{to_wait_for}
use Rattle.cache_lock.specs.declared.status.LockStatus.{LockStatus}
use Rattle.tier_model.specs.declared.event.LockGiven.{LockGiven}
use Rattle.tier_model.specs.declared.event.LockGiven.TheVariants as lock
use Rattle.tier_model.specs.Response.{Judged, kept}
use Rattle.tier_model.specs.Locks.{is_wait}
use Rattle.tier_model.specs.Standings.{phase_found}
use Rattle.tier_model.specs.Shelf.{Look, absent, in_flight, finished}
use Rattle.tier_model.specs.State.{Phase, cache_key, hit, stale, miss, begun, disabled, revalidated, LockHold, nothing, permit, waits, Request, State}
use Rattle.tier_model.specs.Checks.{can_look_up, can_begin, can_revalidate, look_refusal}
use Rattle.tier_model.specs.Answers.{key_for, asks_now, given_if, lock_given, finds_fresh}
use Rattle.tier_model.specs.After.{held_of, phase_of, looked, after_wait}
use Rattle.tier_model.proofs.CallLaws.{begin_turn, land_turn}
use Rattle.tier_model.proofs.TurnLaws.{Turns}
use Rattle.tier_model.proofs.HoldSteps.{WaitsWell, look-passed}

-- one that asks again keeps its phase, or is stale
may_not : (p : Phase) → can_look_up p ≡ true → can_begin p true ≡ false
may_not cache_key e = refl
may_not stale e = refl
may_not hit e = absurd cc
may_not miss e = absurd cc
may_not begun e = absurd cc
may_not disabled e = absurd cc
may_not revalidated e = absurd cc

found_may_not : (v : Bool) → can_begin (phase_found v) true ≡ false
found_may_not true = refl
found_may_not false = refl

read_may_not : (t : MomentValue) (l : Look) (p : Phase) → can_look_up p ≡ true → can_begin (phase_of t lock.Read l p) true ≡ false
read_may_not t absent p e = may_not p e
read_may_not t (in_flight f) p e = found_may_not (finds_fresh t (in_flight f))
read_may_not t (finished b) p e = found_may_not (finds_fresh t (finished b))

-- a request that has a write began it, and may do nothing else with the lock
abbrev pub WritesWell : Request → Type 0
WritesWell q = (n : ℕ) → q.write ≡ Some n → q.phase ≡ begun

module _ (s : State) (t : MomentValue) where
  look_waits : (q : Request) (l : Look) → look_refusal q ≡ None → WaitsWell (looked t q l s.lock)
  look_waits q l passes n first e = by_given (asks_now t q l) (to_wait_for (key_for q) s.lock) refl e (look-passed q passes)
    where
      by_given : (v : Bool) (core : Option ℕ) → lock_given t q l s.lock ≡ given_if v core → held_of (given_if v core) core s.lock q.held ≡ waits n first
          → (can_look_up q.phase ≡ true) × (q.held ≡ nothing)
          → can_begin (looked t q l s.lock).phase (looked t q l s.lock).gave_read ≡ false
      by_given false core is held p = let clash : nothing ≡ waits n first = sym p.1 ∙ held in absurd cc
      by_given true None is held p = absurd cc
      by_given true (Some m) is held p = ap (λ (x : LockGiven). can_begin (phase_of t x l q.phase) (is_wait x)) is ∙ read_may_not t l q.phase p.0

  wait_waits : (q : Request) (outcome : Option LockStatus) → WaitsWell q → WaitsWell (after_wait t outcome q.held q)
  wait_waits q outcome fits n first e = by_held outcome q.held refl e
    where
      by_held : (outcome : Option LockStatus) (held : LockHold) → q.held ≡ held → (after_wait t outcome held q).held ≡ waits n first
          → can_begin (after_wait t outcome held q).phase (after_wait t outcome held q).gave_read ≡ false
      by_held None (waits m f) is e = fits m f is
      by_held (Some x) (waits m f) is e = absurd cc
      by_held None (permit m) is e = fits n first e
      by_held (Some x) (permit m) is e = fits n first e
      by_held None nothing is e = fits n first e
      by_held (Some x) nothing is e = fits n first e

  begin_waits : (q : Request) (j : Option Judged) → WaitsWell (begin_turn s j q)
  begin_waits q (Some (kept meta)) n first e = absurd cc
  begin_waits q (Some _) n first e = absurd cc
  begin_waits q None n first e = absurd cc

  land_waits : (q : Request) (v : Bool) → WaitsWell q → WaitsWell (land_turn v q)
  land_waits q true fits = fits
  land_waits q false fits = fits

  pub waits-turn : Turns s t WaitsWell
  waits-turn = record {
    opens = λ entry asks n first e. absurd cc;
    looks = λ q l passes fits. look_waits q l passes;
    waited = wait_waits;
    begins = λ q j can fits. begin_waits q j;
    confirms = λ q can fits n first e. absurd cc;
    lands = land_waits;
    reads = λ q a fits. fits;
  }

  wait_writes : (q : Request) (outcome : Option LockStatus) → WritesWell q → WritesWell (after_wait t outcome q.held q)
  wait_writes q outcome fits n e = by_held outcome q.held e
    where
      by_held : (outcome : Option LockStatus) (held : LockHold) → (after_wait t outcome held q).write ≡ Some n → (after_wait t outcome held q).phase ≡ begun
      by_held None (waits m f) e = fits n e
      by_held (Some x) (waits m f) e = fits n e
      by_held None (permit m) e = fits n e
      by_held (Some x) (permit m) e = fits n e
      by_held None nothing e = fits n e
      by_held (Some x) nothing e = fits n e

  no_write : (q : Request) → can_begin q.phase q.gave_read ≡ true → WritesWell q → (n : ℕ) → q.write ≡ Some n → ⊥
  no_write q can fits n e = let clash : true ≡ false = sym can ∙ ap (λ (p : Phase). can_begin p q.gave_read) (fits n e) in absurd cc

  begin_writes : (q : Request) (j : Option Judged) → can_begin q.phase q.gave_read ≡ true → WritesWell q → WritesWell (begin_turn s j q)
  begin_writes q (Some (kept meta)) can fits n e = refl
  begin_writes q (Some _) can fits n e = absurd (no_write q can fits n e)
  begin_writes q None can fits n e = absurd (no_write q can fits n e)

  land_writes : (q : Request) (v : Bool) → WritesWell q → WritesWell (land_turn v q)
  land_writes q true fits n e = absurd cc
  land_writes q false fits n e = fits n e

  pub writes-turn : Turns s t WritesWell
  writes-turn = record {
    opens = λ entry asks n e. absurd cc;
    looks = λ q l passes fits n e. let clash : true ≡ false = sym (look-passed q passes).0 ∙ ap can_look_up (fits n e) in absurd cc;
    waited = wait_writes;
    begins = begin_writes;
    confirms = λ q can fits n e. let clash : true ≡ false = sym can ∙ ap (λ (p : Phase). can_revalidate p q.gave_read) (fits n e) in absurd cc;
    lands = land_writes;
    reads = λ q a fits. fits;
  }
