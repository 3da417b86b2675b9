-- Under which keys an exchange is noted: its first one, and a second one where it looks, or stores, under that.
use Rattle.std.specs.Prelude.{ℕ, Bool, false, not, nat_eq, if◌then◌else◌, List}
use Rattle.std.specs.Option.{option_map_or}
use Rattle.std.specs.Cmp.Lexicographic.{pointwise}
use Rattle.gateway_exchanges.specs.declared.exchange.Exchange.{Exchange}
use Rattle.gateway_exchanges.specs.Tables.{Exchanges, with_number, without_number}
use Rattle.gateway_tier.specs.Roles.{is_at}

abbrev pub is_first : List ℕ → Exchange → Bool
is_first key e = option_map_or (λ first. pointwise nat_eq first key) e.first false

-- it is noted no more at the second key where it was
abbrev pub leaves_second : Exchange → Exchanges → Exchanges
leaves_second e t = option_map_or (λ key. if is_first key e then t else without_number e.x key t) e.key t

abbrev pub moves_to : List ℕ → Exchange → Exchanges → Exchanges
moves_to key e t = if is_at key e then t else leaves_second e (with_number e.x key t)

-- it looks, or stores, under another key than before
abbrev pub is_moved : Exchange → Exchange → Bool
is_moved old new = option_map_or (λ key. not (is_at key old)) new.key false
