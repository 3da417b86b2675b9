-- What is known of a final head, before its row says what is done.
use Rattle.std.specs.Prelude.{◌≡◌, ◌⊎◌, ℕ, List, MatchBool, Result, Ok, Err, Bool, true, false, not, ◌&&◌, ◌||◌, ◌==◌, ◌/◌, nat_lt, unwrap_or, [], ◌∷◌, Option, Some, None}
use Rattle.std.specs.Option.{option_map_or}
use Rattle.rules_ffi_arguments.specs.declared.shapes.Moment.{Moment}
use Rattle.rules_ffi_arguments.specs.Moments.{moment_at, moment_in}
use Rattle.rules_ffi_arguments.specs.Options.{has_mark}
use Rattle.gateway_types.specs.declared.responses.Heard.{Heard}
use Rattle.gateway_types.specs.declared.states.Fetch.{Fetch}
use Rattle.gateway_rows.specs.Responses.{is_passed, is_unstored, may_store, response_row}
use Rattle.gateway_rows.specs.Tables.{first_of}
use Rattle.gateway_rules.specs.Options.{Options, options_of}
use Rattle.gateway_rules.specs.Dated.{IsDated}
use Rattle.gateway_rules.specs.Responses.{read_in, stored_in}
use Rattle.gateway_rules.specs.Stored.{found_of}
use Rattle.gateway_rules.specs.declared.responses.Times.{Times}
use Rattle.gateway_rules.specs.declared.values.ResponseHead.{ResponseHead}
use Rattle.gateway_rules.specs.declared.values.StoreDecision.{StoreDecision}
use Rattle.gateway_rules.specs.Values.{Came, code_of, decision_of, is_get_or_head, length_of, method_of, request_of, response_of}
use Rattle.gateway_steps.specs.Questions.{keeping_of}
use Rattle.gateway_steps.specs.Steps.{takes_head, takes_interim}
use Rattle.gateway_steps.specs.declared.state.HeadFraming.{HeadFraming}
use Rattle.gateway_steps.specs.Sides.{capped_sum}
use Rattle.gateway_steps.specs.declared.state.State.{State}
use Rattle.gateway_exchanges.specs.declared.exchange.Exchange.{Exchange}
use Rattle.gateway_state.specs.declared.state.Gateway.{Gateway}
use Rattle.gateway_responses.specs.Responses.{IsOver, IsResponded}
use Rattle.gateway_responses.specs.declared.heard.Lesson.{Lesson}

-- when a head began to come: now, where nothing of it came before
abbrev pub came_at : State → Moment → Moment
came_at s now = option_map_or moment_at s.origin.came now

-- when it was asked for, and began to come
abbrev pub times_of : State → Moment → Times
times_of s now = record { asked = moment_at s.origin.asked; came = came_at s now }

-- what the bytes give of it; whether the method that was sent is HEAD
abbrev pub IsRead : Options → Exchange → Moment → List ℕ → Result Came ℕ → Type 0
IsRead o e now bytes read =
    let came = came_at e.steps.state now in
    IsDated (moment_in came.seconds came.nanoseconds) (read_in o e.asks.is_head bytes) (Some read)

-- ==== what it is

-- it says that nothing changed, and nobody had asked whether anything did
abbrev pub is_unasked : Exchange → ℕ → Bool
is_unasked e status = status == 304 && not e.asks.is_conditional && is_get_or_head (method_of (request_of e.request))

abbrev pub is_conditional : Fetch → Bool
is_conditional Fetch.Conditional = true
is_conditional _ = false

-- it speaks of what is stored, after the origin was asked about that
abbrev pub speaks_of_stored : Exchange → ℕ → Bool
speaks_of_stored e status = is_conditional e.steps.state.origin.fetch && (status == 304 || (e.asks.is_head && status == 200))

-- the rules say whether it is stored
abbrev pub is_judged : Exchange → ℕ → Bool
is_judged e status = not (is_passed e.steps.state.origin.fetch || speaks_of_stored e status)

-- ==== what the rules say of it

-- of what is to be judged: by what was found, and by the list of variants that stood under its first key
abbrev pub IsJudged : Options → Exchange → ResponseHead → Times → Option StoreDecision → Type 0
IsJudged o e response times None = is_judged e response.shape.code ≡ false
IsJudged o e response times (Some kept) =
    (is_judged e response.shape.code ≡ true)
    × (stored_in o (request_of e.request) e.asks.is_head (response_of response) times (found_of e.asks.found) e.index ≡ Some (decision_of kept))

abbrev pub is_kept : Option StoreDecision → Bool
is_kept kept = option_map_or (λ k. k.told.status == 68) kept false

-- what was found is good
abbrev pub is_good : Option StoreDecision → Bool
is_good kept = option_map_or (λ k. k.told.reason == 42) kept false

-- ==== whether there is room for it

abbrev pub stated_length : ResponseHead → ℕ
stated_length response = unwrap_or (length_of response.shape) 0

abbrev pub is_too_long : Gateway → ResponseHead → Bool
is_too_long g response = nat_lt g.limits.max_body_bytes (stated_length response)

-- half of what the tier may hold is for what is in flight
abbrev pub is_too_much : Gateway → ResponseHead → Bool
is_too_much g response = nat_lt (g.limits.max_bytes / 2) (capped_sum (stated_length response) g.flying)

-- ==== what its row is chosen by

abbrev pub heard_of : Gateway → Exchange → ResponseHead → Option StoreDecision → Bool → Heard
heard_of g e response kept stale = record {
  fetch = e.steps.state.origin.fetch;
  status = code_of response.shape;
  unasked = is_unasked e response.shape.code;
  stale_answers = stale;
  good = is_good kept;
  revalidates = speaks_of_stored e response.shape.code;
  stores = may_store (keeping_of (is_kept kept) (is_too_long g response) (is_too_much g response) e.steps.state);
}

-- ==== what it teaches

-- of the next response of its key: a part, or a 304, says nothing of it; what may be stored after all is tried again
abbrev pub lesson_of : Fetch → StoreDecision → Bool → ℕ → Lesson
lesson_of fetch kept too_long status =
    let may = kept.told.status == 68 in
    let predicts = not (kept.told.predicts_uncacheable == 0) in
    first_of
    ((status == 206 || status == 304, Lesson.Nothing)
    ∷ (is_unstored fetch && may && not too_long, Lesson.Stored)
    ∷ (is_unstored fetch && (predicts || too_long), Lesson.Unstored)
    ∷ (not (is_unstored fetch) && (predicts || (may && too_long)), Lesson.Unstored)
    ∷ []) Lesson.Nothing

-- ==== what is done

-- by the row of what is known: what the rules say of it, and whether what is stale answers in its place, they were asked
abbrev pub IsFinal : Gateway → Exchange → ResponseHead → Times → Exchange → Type 0
IsFinal g e response times e' =
    (kept : Option StoreDecision) × (stale : Bool) × IsJudged (options_of g.rules) e response times kept
    × IsResponded (response_row (heard_of g e response kept stale)) e.steps.state e'.steps.state

-- what it says of its body and its connection (RFC 9112, 6.3, 9.3)
abbrev pub head_of : ResponseHead → HeadFraming
head_of response = record {
  close_delimited = response.shape.framing == 3;
  reusable = not (has_mark response.shape.marks 1);
  length = length_of response.shape;
}

-- a final head was read: its body is to come
pub record IsHeaded (response : ResponseHead) (e headed : Exchange) : Type 0 where
  pub state : headed.steps.state ≡ takes_head (head_of response) e.steps.state
  pub rest : headed ≡ record e { steps = headed.steps; asks = record e.asks { body = headed.asks.body } }

-- behind an interim head another comes, unless there were too many (RFC 9110, 15.2)
abbrev pub IsInterim : State → State → Type 0
IsInterim s s' = (s' ≡ takes_interim s) ⊎ IsOver s'

abbrev pub IsHeadTaken : Gateway → ResponseHead → Times → Exchange → Exchange → Type 0
IsHeadTaken g response times e e' =
    MatchBool (nat_lt response.shape.code 200) (IsInterim e.steps.state e'.steps.state)
    ((headed : Exchange) × IsHeaded response e headed × IsFinal g headed response times e')

-- a head that doesn't read is no answer
abbrev pub IsHeard : Gateway → Times → Result Came ℕ → Exchange → Exchange → Type 0
IsHeard g times (Err reason) e e' = IsOver e'.steps.state
IsHeard g times (Ok came) e e' = (response : ResponseHead) × (response_of response ≡ came) × IsHeadTaken g response times e e'
