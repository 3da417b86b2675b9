-- What the events of a request answer, and what they leave of it and of what it is lent.
use Rattle.std.specs.Prelude.{◌≡◌, ◌≢◌, ◌⊎◌, ℕ, ◌+◌, ◌-◌, ◌^◌, Bool, true, false, List, Option, Some, None, Ok, Err, MatchResult, MatchOption}
use Rattle.std.specs.FinMap.{FinMap, get, insert}
use Rattle.std.specs.Ordering.{nat_cmp}
use Rattle.cache_words.specs.Time.{MomentValue}
use Rattle.cache_heads.specs.declared.meta.CacheMeta.{CacheMeta}
use Rattle.cache_lock.specs.State.{LockState, after_all}
use Rattle.cache_lock.specs.declared.status.LockStatus.TheVariants as status
use Rattle.tier_model.specs.declared.event.Answer.TheVariants.{Waited, Written}
use Rattle.tier_model.specs.declared.event.TierFault.{TierFault}
use Rattle.tier_model.specs.declared.event.TierFault.TheVariants.{WrongPhase, AfterEnd, NumbersSpent}
use Rattle.tier_model.specs.Calls.{Outcome, nothing_done}
use Rattle.tier_model.specs.Shelf.{Shelf, flying_at, begun}
use Rattle.tier_model.specs.State.{closed, streaming, disabled, nothing, Request}
use Rattle.tier_model.specs.Checks.{has_ended}
use Rattle.tier_model.specs.Answers.{key_for, polled, read_answer}
use Rattle.tier_model.specs.After.{poll_of, after_wait, read_on, pieced, turned, writing, meta_for, release_of}
use Rattle.tier_model.specs.Step.{HasNews}
use Rattle.tier_requests.specs.Faults.{out_of_memory}

-- a poll, by whether the request waits
abbrev pub PollAnswer : Bool → MomentValue → Request → LockState → Outcome → Request → LockState → Type 0
PollAnswer false t q s r new s' = (r ≡ Err WrongPhase) × (new ≡ q) × (s' ≡ s)
PollAnswer true t q s r new s' =
    (r ≡ Ok (Waited (polled s t q q.held))) × (new ≡ after_wait t (polled s t q q.held) q.held q) × (s' ≡ after_all (poll_of t q.held (polled s t q q.held) s) s)

-- a read, by whether there is a reader
abbrev pub ReadAnswer : Bool → Request → Shelf → Outcome → Request → Type 0
ReadAnswer false q shelf r new = (r ≡ Err WrongPhase) × (new ≡ q)
ReadAnswer true q shelf r new =
    MatchResult r (λ a. (a ≡ read_answer q.reader shelf) × (new ≡ record q { reader = read_on a q.reader })) (λ f. (f ≡ out_of_memory) × HasNews q.reader shelf × (new ≡ q))

-- bytes of a write that has ended, or hasn't
abbrev pub AddAnswer : Bool → List ℕ → Bool → ℕ → Shelf → Outcome → Shelf → Type 0
AddAnswer true bytes last n shelf r new = (r ≡ Err AfterEnd) × (new ≡ shelf)
AddAnswer false bytes last n shelf r new = MatchResult r (λ a. (a ≡ Written) × (new ≡ pieced bytes last n shelf)) (λ f. (f ≡ out_of_memory) × (new ≡ shelf))

-- bytes of a request's write
abbrev pub PieceAnswer : Option ℕ → List ℕ → Bool → Shelf → Outcome → Shelf → Type 0
PieceAnswer None bytes last shelf r new = (r ≡ Err WrongPhase) × (new ≡ shelf)
PieceAnswer (Some n) bytes last shelf r new = AddAnswer (has_ended (flying_at n shelf.flying)) bytes last n shelf r new

-- a write began, with a number of its own, and keeps the provenance of what its request has seen: this reads it, and has let go of its permit and of its
-- earlier reader
pub record Begins (meta : CacheMeta) (q : Request) (old : Shelf) (s : LockState) (new : Request) (left : Shelf) (s' : LockState) : Type 0 where
  pub number : old.writes ≢ 2 ^ 64 - 1
  pub request : new ≡ writing old.writes q
  pub shelf : left ≡ record (turned q.reader (streaming old.writes 0) (begun (key_for q) (meta_for q meta) old)) { writes = old.writes + 1 }
  pub lock : s' ≡ after_all (release_of status.Done q q.held s) s

-- a request stops using the cache: it lets go of its permit, and its reader ends
pub record GivesUp (q : Request) (old : Shelf) (s : LockState) (new : Request) (left : Shelf) (s' : LockState) : Type 0 where
  pub request : new ≡ record q { phase = disabled; held = nothing; seen = None; reader = closed }
  pub shelf : left ≡ turned q.reader closed old
  pub lock : s' ≡ after_all (release_of status.GiveUp q q.held s) s

-- no number is left, or, where one is, no memory: then the write may have begun, and been given up
abbrev pub BeginsNot : Shelf → TierFault → Shelf → Type 0
BeginsNot shelf f shelf' =
    ((f ≡ NumbersSpent nothing_done) × (shelf.writes ≡ 2 ^ 64 - 1) × (shelf' ≡ shelf))
    ⊎ ((f ≡ out_of_memory) × (shelf.writes ≢ 2 ^ 64 - 1) × ((shelf' ≡ shelf) ⊎ (shelf' ≡ record shelf { writes = shelf.writes + 1 })))

-- an event of one of the open requests: reported as not open where it isn't, and else the request is put back as the event left it
abbrev pub OnOpen : ℕ → FinMap nat_cmp Request → Type 0 → (Request → Request → Type 0) → FinMap nat_cmp Request → Type 0
OnOpen id old none row new = MatchOption (get old id) (none × (new ≡ old)) (λ q. (left : Request) × row q left × (new ≡ insert old id left))
