-- The checks of an event that come before anything else.
use Rattle.std.specs.Prelude.{ℕ, Bool, true, false, ◌&&◌, not, if◌then◌else◌, Option, Some, None, is_some}
use Rattle.std.specs.FinMap.{get}
use Rattle.tier_model.specs.declared.event.Action.{Action}
use Rattle.tier_model.specs.declared.event.Action.TheVariants.{Open, LookUp, Poll, Begin, Revalidate, Piece, Finish, Read, Drop, Purge, Put}
use Rattle.tier_model.specs.declared.event.TierFault.{TierFault}
use Rattle.tier_model.specs.declared.event.TierFault.TheVariants.{NoRequest, IdInUse, WrongPhase, Waiting, AfterEnd}
use Rattle.tier_model.specs.Shelf.{InFlight, Shelf, flying_at}
use Rattle.tier_model.specs.State.{Phase, cache_key, stale, miss, LockHold, permit, waits, Reader, closed, Request, State}

-- the phases in which a request may look up
abbrev pub can_look_up : Phase → Bool
can_look_up cache_key = true
can_look_up stale = true
can_look_up _ = false

-- in which it may begin a write, by whether its last look-up gave it a wait
abbrev pub can_begin : Phase → Bool → Bool
can_begin miss gave_read = true
can_begin stale gave_read = not gave_read
can_begin _ gave_read = false

-- in which what it found may be confirmed
abbrev pub can_revalidate : Phase → Bool → Bool
can_revalidate stale gave_read = not gave_read
can_revalidate _ gave_read = false

abbrev pub has_permit : LockHold → Bool
has_permit (permit n) = true
has_permit _ = false

abbrev pub is_waiting : LockHold → Bool
is_waiting (waits n first) = true
is_waiting _ = false

abbrev pub has_reader : Reader → Bool
has_reader closed = false
has_reader _ = true

-- refused where the test fails
abbrev pub unless : Bool → TierFault → Option TierFault
unless test f = if test then None else Some f

abbrev pub unless_open : Option Request → (Request → Option TierFault) → Option TierFault
unless_open None check = Some NoRequest
unless_open (Some q) check = check q

-- a request with a permit may not look up, and one that waits gets that answer
abbrev pub look_refusal : Request → Option TierFault
look_refusal q =
    if can_look_up q.phase && not (has_permit q.held)
    then unless (not (is_waiting q.held)) Waiting
    else Some WrongPhase

abbrev pub has_ended : Option InFlight → Bool
has_ended None = false
has_ended (Some f) = f.ended

abbrev pub piece_refusal : Option ℕ → Shelf → Option TierFault
piece_refusal None shelf = Some WrongPhase
piece_refusal (Some n) shelf = unless (not (has_ended (flying_at n shelf.flying))) AfterEnd

-- the checks that come before anything else, in their order: the first that fails
abbrev pub refusal : State → Action → Option TierFault
refusal s (Open id key asks) = unless (not (is_some (get s.requests id))) IdInUse
refusal s (LookUp id) = unless_open (get s.requests id) look_refusal
refusal s (Poll id) = unless_open (get s.requests id) (λ q. unless (is_waiting q.held) WrongPhase)
refusal s (Begin id head given) = unless_open (get s.requests id) (λ q. unless (can_begin q.phase q.gave_read) WrongPhase)
refusal s (Revalidate id head given) = unless_open (get s.requests id) (λ q. unless (can_revalidate q.phase q.gave_read) WrongPhase)
refusal s (Piece id bytes last) = unless_open (get s.requests id) (λ q. piece_refusal q.write s.shelf)
refusal s (Finish id) = unless_open (get s.requests id) (λ q. unless (is_some q.write) WrongPhase)
refusal s (Read id) = unless_open (get s.requests id) (λ q. unless (has_reader q.reader) WrongPhase)
refusal s (Drop id) = unless_open (get s.requests id) (λ q. None)
refusal s (Purge key) = None
refusal s (Put key pieces given) = None
