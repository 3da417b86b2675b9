-- The open exchanges by their numbers, and their numbers by the digests of their keys.
use Rattle.std.specs.Prelude.{◌≡◌, ◌<◌, ℕ, Bool, not, is_some, nat_eq, List, [], ◌∷◌, if◌then◌else◌, nat_lt, filter, Option, Some, None, unwrap_or, refl}
use Rattle.std.specs.Coded.{Coded, code_by, coded×, coded_list, coded_option, coded_ℕ}
use Rattle.std.specs.FinMap.{FinMap, empty, get, insert, remove}
use Rattle.std.specs.FinMap as finite
use Rattle.std.specs.Ordering.{nat_cmp}
use Rattle.std.specs.Cmp.Lexicographic.{slice_cmp}
use Rattle.gateway_exchanges.specs.declared.exchange.Exchange.{Exchange}
use Rattle.gateway_exchanges.specs.contracts.exchange.Exchange.{the_row as exchange_row}

-- Each open exchange has a place. The one that a call is about is out of it while the call runs.
-- At a key are the numbers of its exchanges, in their order, which is that in which they came
pub record Exchanges : Type 0 where
  pub places : FinMap nat_cmp (Option Exchange)
  pub keys : FinMap (slice_cmp nat_cmp) (List ℕ)

abbrev pub exchanges_code : Coded Exchanges
exchanges_code =
    code_by (FinMap nat_cmp (Option Exchange) × FinMap (slice_cmp nat_cmp) (List ℕ))
    (coded× (finite.code coded_ℕ (coded_option exchange_row.coded)) (finite.code (coded_list coded_ℕ) (coded_list coded_ℕ))) (λ t. (t.places, t.keys))
    (λ p. record { places = p.0; keys = p.1 }) (λ _. refl)

-- ==== what is there

abbrev pub in_place : Option (Option Exchange) → Option Exchange
in_place None = None
in_place (Some e) = e

abbrev pub has_place : ℕ → Exchanges → Bool
has_place x t = is_some (get t.places x)

-- an exchange that isn't taken out
abbrev pub exchange_at : ℕ → Exchanges → Option Exchange
exchange_at x t = in_place (get t.places x)

abbrev pub numbers_of : List ℕ → FinMap (slice_cmp nat_cmp) (List ℕ) → List ℕ
numbers_of key keys = unwrap_or (get keys key) []

abbrev pub numbers_at : List ℕ → Exchanges → List ℕ
numbers_at key t = numbers_of key t.keys

-- ==== what is changed

abbrev pub no_exchanges : Exchanges
no_exchanges = record { places = empty; keys = empty }

abbrev pub with_place : ℕ → Option Exchange → Exchanges → Exchanges
with_place x place t = record t { places = insert t.places x place }

abbrev pub without_place : ℕ → Exchanges → Exchanges
without_place x t = record t { places = remove t.places x }

-- taken out of its place
abbrev pub without_exchange : ℕ → Exchanges → Exchanges
without_exchange x t = if is_some (exchange_at x t) then with_place x None t else t

-- in its place, if it has one
abbrev pub with_exchange : Exchange → Exchanges → Exchanges
with_exchange e t = if has_place e.x t then with_place e.x (Some e) t else t

-- a number among rising ones, once
abbrev pub added : ℕ → List ℕ → List ℕ
added x [] = x ∷ []
added x (y ∷ ys) = if nat_lt x y then x ∷ y ∷ ys else (if nat_eq x y then y ∷ ys else y ∷ added x ys)

-- all but that
abbrev pub others : ℕ → List ℕ → List ℕ
others x numbers = filter (λ y. not (nat_eq y x)) numbers

-- a key for which there are none isn't kept
abbrev pub with_numbers : List ℕ → List ℕ → FinMap (slice_cmp nat_cmp) (List ℕ) → FinMap (slice_cmp nat_cmp) (List ℕ)
with_numbers key [] keys = remove keys key
with_numbers key (x ∷ xs) keys = insert keys key (x ∷ xs)

-- that exchange is at that key
abbrev pub with_number : ℕ → List ℕ → Exchanges → Exchanges
with_number x key t = record t { keys = with_numbers key (added x (numbers_at key t)) t.keys }

-- and isn't any more
abbrev pub without_number : ℕ → List ℕ → Exchanges → Exchanges
without_number x key t = record t { keys = with_numbers key (others x (numbers_at key t)) t.keys }

-- nor at a key that it may have had
abbrev pub keys_left : ℕ → Option (List ℕ) → FinMap (slice_cmp nat_cmp) (List ℕ) → FinMap (slice_cmp nat_cmp) (List ℕ)
keys_left x None keys = keys
keys_left x (Some key) keys = with_numbers key (others x (numbers_of key keys)) keys

-- forgotten, with its first key and the one that it has
abbrev pub forgotten : ℕ → Option (List ℕ) → Option (List ℕ) → Exchanges → Exchanges
forgotten x first key t = record { places = remove t.places x; keys = keys_left x key (keys_left x first t.keys) }

-- ==== what holds of each table

abbrev pub IsAbove : ℕ → List ℕ → Type 0
IsAbove x [] = Unit {0}
IsAbove x (y ∷ ys) = (x < y) × IsAbove x ys

abbrev pub IsRising : List ℕ → Type 0
IsRising [] = Unit {0}
IsRising (x ∷ xs) = IsAbove x xs × IsRising xs

-- a key stands there for its numbers: some, and each once
abbrev pub AreNumbers : List ℕ → Type 0
AreNumbers [] = ⊥
AreNumbers (x ∷ xs) = IsRising (x ∷ xs)

abbrev pub IsIndex : FinMap (slice_cmp nat_cmp) (List ℕ) → Type 0
IsIndex keys = (key numbers : List ℕ) → get keys key ≡ Some numbers → AreNumbers numbers

-- an exchange stands in its own place
abbrev pub AreNumbered : FinMap nat_cmp (Option Exchange) → Type 0
AreNumbered places = (x : ℕ) (e : Exchange) → get places x ≡ Some (Some e) → e.x ≡ x

pub record IsTable (t : Exchanges) : Type 0 where
  pub index : IsIndex t.keys
  pub numbered : AreNumbered t.places
