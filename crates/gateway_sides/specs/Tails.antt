-- What becomes of a body's tail, and of those who read it.
use Rattle.std.specs.Prelude.{◌≡◌, ℕ, ◌-◌, ◌==◌, Bool, ◌&&◌, max, if◌then◌else◌, List, length, Option, Some, None, unwrap_or, vec_len, MatchBool, MatchOption}
use Rattle.std.specs.Option.{option_map_or}
use Rattle.std.specs.FinMap.{insert}
use Rattle.gateway_steps.specs.declared.state.State.{State}
use Rattle.gateway_steps.specs.Questions.{is_blocked}
use Rattle.gateway_steps.specs.Sides.{capped_sum}
use Rattle.gateway_steps.specs.Steps.{passes_stored, ends_tailed_write, release_by_last}
use Rattle.gateway_exchanges.specs.declared.exchange.Exchange.{Exchange}
use Rattle.gateway_exchanges.specs.declared.tails.Tail.{Tail}
use Rattle.gateway_exchanges.specs.Tails.{TailMap, end_of, is_last_reader, joined, new_tail, passed, tail_at, with_change, without_user}
use Rattle.gateway_state.specs.declared.state.Gateway.{Gateway}
use Rattle.gateway_tier.specs.Notices.{AreTold}
use Rattle.gateway_tier.specs.Releases.{flying_with, uncounted}
use Rattle.gateway_tier.specs.Roles.{in_role}
use Rattle.gateway_tier.specs.declared.notices.Notice.{Notice}
use Rattle.gateway_tier.specs.declared.waking.Role.{Role}

-- ==== its own client

-- the tail of its own body
abbrev pub own_tail : Gateway → Exchange → Option Tail
own_tail g e = if e.steps.state.origin.tailed then tail_at e.x g.tails else None

-- so many bytes of it lacks a client at that place: what is stored in front is kept there
abbrev pub untaken_of : Tail → ℕ → ℕ
untaken_of t place = end_of t - max place t.after

abbrev pub blocked_by : Gateway → Exchange → Option Tail → Bool
blocked_by g e None = is_blocked (vec_len e.answer.buffer) g.limits.max_relay_bytes e.steps.state
blocked_by g e (Some t) = is_blocked (untaken_of t (unwrap_or e.answer.place 0)) g.limits.max_tail e.steps.state

-- its client lacks so much, of what is relayed or of its tail, that nothing more is taken
abbrev pub is_blocked_by : Gateway → Exchange → Bool
is_blocked_by g e = blocked_by g e (own_tail g e)

-- ==== how it begins

-- nobody finds what is written at a key
pub record HidesWrites (key : List ℕ) (old new : Gateway) : Type 0 where
  pub told : AreTold Notice.WriteHidden key old.table new.table
  pub rest : new ≡ record old { tier = new.tier; table = new.table }

-- who reads what an exchange writes at a key goes on in its tail, which counts them; and nobody else finds that
pub record JoinsReaders (e : Exchange) (key : List ℕ) (old new : Gateway) : Type 0 where
  pub hidden : Gateway
  pub hides : MatchBool e.steps.state.tier.joinable (HidesWrites key old hidden) (hidden ≡ old)
  pub told : AreTold (Notice.TailBegun e.x) key hidden.table new.table
  pub tails : new.tails ≡ with_change e.x (joined (length (in_role (Role.Lacks e.x) key None hidden.table))) hidden.tails
  pub rest : new ≡ record hidden { table = new.table; tails = new.tails }

-- behind what is stored, which counts as in flight as far as it came
pub record BeginsTail (e : Exchange) (old new : Gateway) : Type 0 where
  pub begun : Gateway
  pub begins : begun ≡ record old { predicted = begun.predicted; tails = insert old.tails e.x (new_tail e.steps.state.origin.size) }
  pub counted : Gateway
  pub joins : MatchOption e.key (counted ≡ begun) (λ key. JoinsReaders e key begun counted)
  pub flying : new ≡ record counted { flying = flying_with e.steps.state.origin.size e counted }

-- ==== how it grows

-- how many bytes the tail of an exchange keeps
abbrev pub kept_of : ℕ → TailMap → ℕ
kept_of x tails = option_map_or (λ (t : Tail). length t.bytes) (tail_at x tails) 0

-- what is in flight, where the tails change
abbrev pub flying_after : ℕ → TailMap → Gateway → ℕ
flying_after x tails g = capped_sum (g.flying - kept_of x g.tails) (kept_of x tails)

-- ==== who passes what is stored

-- whose write it reads on from, where that goes on in a tail and it has not passed it
abbrev pub passes : Exchange → Option ℕ
passes e = if e.steps.state.tier.passing then e.steps.state.tier.writer else None

abbrev pub tails_passed : Exchange → TailMap → TailMap
tails_passed e tails = option_map_or (λ writer. with_change writer passed tails) (passes e) tails

-- its request at the tier ends; where it stores, that is once the last has passed what it stored
abbrev pub state_at : Bool → State → State
state_at ends s = if ends then ends_tailed_write (passes_stored s) else passes_stored s

abbrev pub state_by : Option ℕ → Exchange → TailMap → State
state_by None e tails = e.steps.state
state_by (Some writer) e tails = state_at (is_last_reader (tail_at writer tails) && (writer == e.x)) e.steps.state

abbrev pub state_passed : Exchange → TailMap → State
state_passed e tails = state_by (passes e) e tails

-- the request at the tier ends of one that stored, if others only read on there
pub record IsWriteEnded (old new : Exchange) : Type 0 where
  pub state : new.steps.state ≡ ends_tailed_write old.steps.state
  pub rest : new ≡ uncounted (release_by_last old.steps.state) (record old { steps = new.steps })

-- ==== who leaves

abbrev pub leaves_tail : Exchange → Option ℕ
leaves_tail e = if e.steps.state.tier.tailed then e.steps.state.tier.writer else None

abbrev pub tails_left : Exchange → TailMap → TailMap
tails_left e tails = option_map_or (λ writer. without_user writer tails) (leaves_tail e) tails
