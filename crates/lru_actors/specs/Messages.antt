-- What each message leaves of its shard's rows, and why a shard refuses it. Rows are keyed by hash.
use Rattle.std.specs.Prelude.{◌≡◌, ℕ, max, List, [], ◌∷◌, Option, Some, None, is_some, MatchOption, if◌then◌else◌}
use Rattle.lru_core.specs.declared.rows.Row.{Row}
use Rattle.lru_core.specs.Rows.{only, others, promoted, reweighed, admitted, row_of, a_row, incremented, IsHeavy, IsLong, Fits}
use Rattle.lru_core.specs.Orders.{with_last}
use Rattle.lru_core.specs.declared.lru_unit.fault.LruFault.{LruFault}
use Rattle.lru_core.specs.declared.lru_unit.fault.LruFault.TheVariants.{Memory, Weight, Length}
use Rattle.lru_actors.specs.declared.message.Message.{Message}
use Rattle.lru_actors.specs.declared.message.Message.TheVariants.{Admit, InsertTail, Promote, Remove, IncrementWeight}

-- the hash that a message names
abbrev pub hash_of : {K : Type 0} → Message K → ℕ
hash_of (Admit h k w) = h
hash_of (InsertTail h k w) = h
hash_of (Promote h) = h
hash_of (Remove h) = h
hash_of (IncrementWeight h k delta cap) = h

-- what a refusal hands back
abbrev pub lost : {D : Type 0} → LruFault D → D
lost (Memory back) = back
lost (Weight back) = back
lost (Length back) = back

-- the rows with weight w for key k, at the front, with its own data, or with d if it is new
abbrev pub weighing : {T : Type 0} → ℕ → T → ℕ → List (Row T) → List (Row T)
weighing k d w rows = if is_some (row_of k rows) then promoted k (reweighed k w rows) else a_row k d w ∷ rows

-- the rows after a message
abbrev pub after : {K : Type 0} → Message K → List (Row K) → List (Row K)
after (Admit h k w) rows = admitted h k w rows
after (InsertTail h k w) rows = with_last rows (a_row h k w)
after (Promote h) rows = promoted h rows
after (Remove h) rows = others h rows
after (IncrementWeight h k delta cap) rows = weighing h k (incremented h delta cap rows) rows

-- the weight that a message asks for under its hash
abbrev pub asked : {K : Type 0} → Message K → List (Row K) → Option ℕ
asked (Admit h k w) rows = Some (max 1 w)
asked (InsertTail h k w) rows = Some w
asked (Promote h) rows = None
asked (Remove h) rows = None
asked (IncrementWeight h k delta cap) rows = Some (incremented h delta cap rows)

-- Weight: what the message asks for would pass the bound. Length: its hash is new, and there is no room for one row more. Memory:
-- its hash is new, there is, and what it asks for would not pass the bound.
abbrev pub IsReason : {K : Type 0} → Message K → ℕ → List (Row K) → LruFault (Message K) → Type 0
IsReason m bound rows (Memory back) = MatchOption (asked m rows) ⊥ (λ w. (only (hash_of m) rows ≡ []) × Fits bound w rows)
IsReason m bound rows (Weight back) = MatchOption (asked m rows) ⊥ (λ w. IsHeavy bound (hash_of m) w rows)
IsReason m bound rows (Length back) = MatchOption (asked m rows) ⊥ (λ w. (only (hash_of m) rows ≡ []) × IsLong bound rows)
