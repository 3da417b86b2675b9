-- Each call that a state allows does one thing at most to who holds the cores of the lock.
use Rattle.std.proofs.Common.{◌≡◌, ℕ, refl, ap, sym, ◌∙◌, true, false, cond, inl, inr, [], ◌∷◌, ◌==◌}
use Rattle.std.specs.Prelude.{◌⊎◌, ◌&&◌, Bool, not, Option, Some, None, Ok, Err}
use Rattle.std.specs.FinMap.{get}
use Rattle.std.proofs.lemmas.Bool.{eqb-true}
use Rattle.cache_words.specs.Time.{MomentValue}
use Rattle.cache_lock.specs.Changes.{Changes}
use Rattle.cache_lock.specs.Answers.{to_wait_for, lock_change}
use Rattle.tier_model.specs.declared.event.Action.{Action}
use Rattle.tier_model.specs.declared.event.Action.TheVariants.{LookUp}
use Rattle.tier_model.specs.declared.event.LockGiven.{LockGiven}
use Rattle.tier_model.specs.declared.event.LockGiven.TheVariants as lock
use Rattle.tier_model.specs.declared.event.TierFault.{TierFault}
use Rattle.tier_model.specs.declared.event.TierFault.TheVariants.{WrongPhase, Waiting}
use Rattle.tier_model.specs.Calls.{Outcome}
use Rattle.tier_model.specs.Locks.{given_after, is_permit}
use Rattle.tier_model.specs.Shelf.{Look, absent, in_flight, finished, is_there}
use Rattle.tier_model.specs.State.{LockHold, nothing, permit, waits, Request, State}
use Rattle.tier_model.specs.Checks.{can_look_up, can_begin, has_permit, is_waiting, unless, look_refusal}
use Rattle.tier_model.specs.Answers.{key_for, look_for, asks_now, given_if, lock_given, look_answer}
use Rattle.tier_model.specs.After.{by_request, held_of, given_changes, back_changes, lock_changes_in, after}
use Rattle.tier_model.proofs.CallLaws.{Inside, call_at, named_by, is_named, judged_for, turn, requests-after}
use Rattle.tier_model.proofs.TurnLaws.{AllOf}
use Rattle.tier_model.proofs.GripLaws.{Grip, free, grips, Moves}
use Rattle.tier_model.proofs.EffectLaws as effect
use Rattle.tier_model.proofs.EffectLaws.{grip_in, grip_of, grip_at, hold_at, moves-of, same-of, SaysLittle, SaysGiven, Effect}

-- one that waits may not begin
abbrev pub WaitsWell : Request → Type 0
WaitsWell q = (n : ℕ) (first : Option MomentValue) → q.held ≡ waits n first → can_begin q.phase q.gave_read ≡ false

abbrev pub WaitsFit : Option Request → Type 0
WaitsFit o = AllOf WaitsWell o

-- a request that may look up holds nothing
pub look-passed : (q : Request) → look_refusal q ≡ None → (can_look_up q.phase ≡ true) × (q.held ≡ nothing)
look-passed q e = by_held (can_look_up q.phase) refl q.held refl e
  where
    by_held : (v : Bool) → can_look_up q.phase ≡ v → (held : LockHold) → q.held ≡ held → cond (v && not (has_permit held)) (unless (not (is_waiting held)) Waiting) (Some WrongPhase) ≡ None
        → (can_look_up q.phase ≡ true) × (q.held ≡ nothing)
    by_held true is nothing held e = (is, held)
    by_held true is (permit n) held e = absurd cc
    by_held true is (waits n first) held e = absurd cc
    by_held false is held same e = absurd cc

module _ (s : State) (t : MomentValue) (i : Inside) (fits : (id : ℕ) → WaitsFit (get s.requests id)) where
  abbrev pub next : Action → Outcome → State
  next action o = after s (call_at t action i o)

  abbrev pub Does : Action → Outcome → Type 0
  Does action o = Effect s (next action o) t action o (lock_changes_in s t action o i.asked)

  abbrev pub turning : Action → Outcome → Option Request → Option Request
  turning action o q = turn s t action (judged_for s (call_at t action i o)) o q

  pub turned : (action : Action) (r : ℕ) (o : Outcome) → named_by action ≡ Some r → (id : ℕ)
      → get (next action o).requests id ≡ cond (r == id) (turning action o (get s.requests id)) (get s.requests id)
  turned action r o e id = requests-after s (call_at t action i o) id ∙ ap (λ (n : Option ℕ). cond (is_named id n) (turning action o (get s.requests id)) (get s.requests id)) e

  pub quiet_named : (action : Action) (r : ℕ) (o : Outcome) → named_by action ≡ Some r → grip_of (turning action o (get s.requests r)) ≡ grip_of (get s.requests r)
      → lock_changes_in s t action o i.asked ≡ []
      → SaysLittle s (next action o) action o → Does action o
  quiet_named action r o e same none says = effect.quiet (same-of s (next action o) r (turning action o) (turned action r o e) same) none says

  pub moves_named : (action : Action) (r : ℕ) (o : Outcome) (a b : Grip) → named_by action ≡ Some r → grip_of (get s.requests r) ≡ a → grip_of (turning action o (get s.requests r)) ≡ b
      → Moves (grip_at s) (grip_at (next action o)) (hold_at s) (hold_at (next action o)) r a b
  moves_named action r o a b e was now = moves-of s (next action o) r (turning action o) (turned action r o e) a b was now

  -- ---- look-ups

  given_look : (r : ℕ) (given : LockGiven) (l : Look) (id : ℕ) (old : LockGiven) → given_after id (LookUp r) (Ok (look_answer t given l)) old ≡ cond (r == id) given old
  given_look r given absent id old = refl
  given_look r given (in_flight f) id old = refl
  given_look r given (finished b) id old = refl

  module _ (r : ℕ) (q : Request) (there : get s.requests r ≡ Some q) (held : q.held ≡ nothing) where
    abbrev l : Look
    l = look_for q s.shelf

    abbrev o : Outcome
    o = Ok (look_answer t (lock_given t q l s.lock) l)

    was_free : grip_of (get s.requests r) ≡ free
    was_free = ap grip_of there ∙ ap (grip_in (key_for q)) held

    says_given : (given : LockGiven) → lock_given t q l s.lock ≡ given → SaysGiven r given (LookUp r) o
    says_given given is = record {
      ends = λ id. refl;
      gives = λ id old. given_look r (lock_given t q l s.lock) l id old ∙ ap (λ (x : LockGiven). cond (r == id) x old) is;
      aged = λ k since before. refl;
    }

    look_grip : (v : Bool) (core : Option ℕ) → asks_now t q l ≡ v → to_wait_for (key_for q) s.lock ≡ core
        → grip_of (turning (LookUp r) o (get s.requests r)) ≡ grip_in (key_for q) (held_of (given_if v core) core s.lock nothing)
    look_grip v core asks waits_for =
        ap (λ (x : Option Request). grip_of (turning (LookUp r) o x)) there
        ∙ ap (λ (x : Bool). grip_in (key_for q) (held_of (given_if x (to_wait_for (key_for q) s.lock)) (to_wait_for (key_for q) s.lock) s.lock q.held)) asks
        ∙ ap (λ (x : Option ℕ). grip_in (key_for q) (held_of (given_if v x) x s.lock q.held)) waits_for
        ∙ ap (λ (x : LockHold). grip_in (key_for q) (held_of (given_if v core) core s.lock x)) held

    look_changes : (v : Bool) (core : Option ℕ) → asks_now t q l ≡ v → to_wait_for (key_for q) s.lock ≡ core
        → lock_changes_in s t (LookUp r) o i.asked ≡ cond v (lock_change (key_for q) (is_there l) t s.lock core ∷ []) []
    look_changes v core asks waits_for =
        ap (λ (x : Option Request). by_request [] x (λ q. given_changes t q (look_for q s.shelf) s.lock)) there
        ∙ ap (λ (x : Bool). cond x (lock_change (key_for q) (is_there l) t s.lock (to_wait_for (key_for q) s.lock) ∷ []) []) asks
        ∙ ap (λ (x : Option ℕ). cond v (lock_change (key_for q) (is_there l) t s.lock x ∷ []) []) waits_for

    given_is : (v : Bool) (core : Option ℕ) → asks_now t q l ≡ v → to_wait_for (key_for q) s.lock ≡ core → lock_given t q l s.lock ≡ given_if v core
    given_is v core asks waits_for = ap (λ (x : Bool). given_if x (to_wait_for (key_for q) s.lock)) asks ∙ ap (given_if v) waits_for

    pub look_does : (v : Bool) (core : Option ℕ) → asks_now t q l ≡ v → to_wait_for (key_for q) s.lock ≡ core → Does (LookUp r) o
    look_does true None asks core =
        effect.given r q (is_there l) there (moves_named (LookUp r) r o free (grips true s.lock.next (key_for q)) refl was_free (look_grip true None asks core)) core (look_changes true None asks core)
        (says_given lock.Write (given_is true None asks core))
    look_does true (Some n) asks core =
        effect.lent r n (key_for q) (moves_named (LookUp r) r o free (grips false n (key_for q)) refl was_free (look_grip true (Some n) asks core)) core (look_changes true (Some n) asks core)
        (says_given lock.Read (given_is true (Some n) asks core))
    look_does false core asks waits_for =
        let now : grip_of (turning (LookUp r) o (get s.requests r)) ≡ free = look_grip false core asks waits_for in
        let moves : Moves (grip_at s) (grip_at (next (LookUp r) o)) (hold_at s) (hold_at (next (LookUp r) o)) r free free = moves_named (LookUp r) r o free free refl was_free now in
        let says : SaysGiven r lock.None (LookUp r) o = says_given lock.None (given_is false core asks waits_for) in
        quiet_named (LookUp r) r o refl (now ∙ sym was_free) (look_changes false core asks waits_for) (record {
          ends = λ id e. absurd cc;
          gives = λ id. ap (λ (x : LockGiven). is_permit x) (says.gives id lock.None) ∙ none_given (r == id);
          given = λ id old. by_one id old (r == id) refl moves says;
          aged = λ k since before. refl;
        })
      where
        none_given : (v : Bool) → is_permit (cond v lock.None lock.None) ≡ false
        none_given true = refl
        none_given false = refl

        by_one : (id : ℕ) (old : LockGiven) (v : Bool) → (r == id) ≡ v → Moves (grip_at s) (grip_at (next (LookUp r) o)) (hold_at s) (hold_at (next (LookUp r) o)) r free free
            → SaysGiven r lock.None (LookUp r) o
            → (grip_at (next (LookUp r) o) id ≡ free) ⊎ (given_after id (LookUp r) o old ≡ old)
        by_one id old true is moves says = inl (ap (grip_at (next (LookUp r) o)) (sym (eqb-true r id is)) ∙ moves.now)
        by_one id old false is moves says = inr (says.gives id old ∙ ap (λ (x : Bool). cond x lock.None old) is)

  -- an event that says nothing of locks
  abbrev pub Little : Action → Outcome → Type 0
  Little action o = SaysLittle s (next action o) action o

  pub look_refused : (r : ℕ) (f : TierFault) → Does (LookUp r) (Err f)
  look_refused r f = by_asked i.asked refl (get s.requests r) refl
    where
      little : Little (LookUp r) (Err f)
      little = record { ends = λ id e. absurd cc; gives = λ id. refl; given = λ id old. inr refl; aged = λ k since before. refl }

      changes : Bool → Option Request → Changes
      changes v x = cond v (by_request [] x (λ q. back_changes t q (look_for q s.shelf) s.lock)) []

      by_asked : (v : Bool) → i.asked ≡ v → (x : Option Request) → get s.requests r ≡ x → Does (LookUp r) (Err f)
      by_asked false asked x there = quiet_named (LookUp r) r (Err f) refl refl (ap (λ (v : Bool). changes v (get s.requests r)) asked) little
      by_asked true asked None there = quiet_named (LookUp r) r (Err f) refl refl (ap (λ (v : Bool). changes v (get s.requests r)) asked ∙ ap (changes true) there) little
      by_asked true asked (Some q) there =
          effect.back (key_for q) (is_there (look_for q s.shelf)) (same-of s (next (LookUp r) (Err f)) r (turning (LookUp r) (Err f)) (turned (LookUp r) r (Err f) refl) refl)
          (ap (λ (v : Bool). changes v (get s.requests r)) asked ∙ ap (changes true) there) little
