-- What an exchange at a key does there, and who is woken.
use Rattle.std.specs.Prelude.{ℕ, Bool, false, true, ◌&&◌, is_some, nat_eq, List, [], ◌∷◌, filter, Option, Some, None}
use Rattle.std.specs.Option.{option_map_or}
use Rattle.std.specs.Cmp.Lexicographic.{pointwise}
use Rattle.gateway_exchanges.specs.declared.exchange.Exchange.{Exchange}
use Rattle.gateway_exchanges.specs.Exchanges.{lacks_bytes_of}
use Rattle.gateway_exchanges.specs.Replies.{Reply, with_wake}
use Rattle.gateway_exchanges.specs.Tables.{Exchanges, exchange_at, numbers_at, with_place}
use Rattle.gateway_steps.specs.Phases.{is_waiting}
use Rattle.gateway_steps.specs.Questions.{is_waiting_for, is_reading_from}
use Rattle.gateway_tier.specs.declared.waking.Role.{Role}

-- it looks, or stores, under that key: one that has it as its first key alone isn't meant
abbrev pub is_at : List ℕ → Exchange → Bool
is_at key e = option_map_or (λ own. pointwise nat_eq own key) e.key false

-- of those at a key, or of any
abbrev pub is_meant : Option (List ℕ) → Exchange → Bool
is_meant key e = option_map_or (λ key. is_at key e) key true

abbrev pub has_role : Role → Exchange → Bool
has_role Role.Waits e = is_waiting e.steps.state.client.phase
has_role (Role.WaitsFor number) e = is_waiting_for number e.steps.state
has_role (Role.ReadsFrom number) e = is_reading_from number e.steps.state
has_role (Role.Lacks number) e = lacks_bytes_of number e
has_role Role.IsJoinable e = e.steps.state.tier.joinable
has_role Role.HasPermit e = is_some e.steps.state.tier.permit

-- it has that role at that key
abbrev pub plays_at : Role → List ℕ → Exchange → Bool
plays_at role key e = is_at key e && has_role role e

-- the exchange of that number, unless it is taken out
abbrev pub plays : Role → List ℕ → Exchanges → ℕ → Bool
plays role key t y = option_map_or (plays_at role key) (exchange_at y t) false

-- as if the one that is taken out were in its place
abbrev pub with_own : Option Exchange → Exchanges → Exchanges
with_own None t = t
with_own (Some e) t = with_place e.x (Some e) t

-- those at a key, in their order, and perhaps the one that is taken out
abbrev pub in_role : Role → List ℕ → Option Exchange → Exchanges → List ℕ
in_role role key own t = filter (plays role key (with_own own t)) (numbers_at key t)

-- who reads what it stores, of whom it may be one
abbrev pub readers_of : Exchange → Exchanges → List ℕ
readers_of e t = option_map_or (λ key. in_role (Role.ReadsFrom e.x) key (Some e) t) e.key []

-- there is something new for each of them
abbrev pub with_wakes : List ℕ → Reply → Reply
with_wakes [] r = r
with_wakes (y ∷ ys) r = with_wakes ys (with_wake y r)
