-- Why a shard refuses a call.
use Rattle.std.specs.Prelude.{◌≡◌, ℕ, ⊤, max, List, [], Option, Some, None, is_some, if◌then◌else◌, MatchOption}
use Rattle.lru_core.specs.declared.rows.Row.{Row}
use Rattle.lru_core.specs.Rows.{only, row_of, incremented, IsHeavy, IsLong}
use Rattle.lru_core.specs.declared.lru_unit.fault.LruFault.{LruFault}
use Rattle.lru_core.specs.declared.lru_unit.fault.LruFault.TheVariants.{Memory, Weight, Length}
use Rattle.pingora_lru.specs.declared.call.LruCall.{LruCall}
use Rattle.pingora_lru.specs.declared.call.LruCall.TheVariants.{Admit, InsertTail, IncrementWeight, UpdateOrAdmit, SetWeight, Promote, PromoteTopN, Evict, Remove}

-- the key of which a call sets the weight, and that weight, if the call sets one
abbrev pub asked : {T : Type 0} → LruCall T → List (Row T) → Option (ℕ × ℕ)
asked (Admit k d w) rows = Some (k, max 1 w)
asked (InsertTail k d w) rows = if is_some (row_of k rows) then None else Some (k, w)
asked (IncrementWeight k d delta cap) rows = Some (k, incremented k delta cap rows)
asked (UpdateOrAdmit k d w) rows = Some (k, max 1 w)
asked (SetWeight k w) rows = if is_some (row_of k rows) then Some (k, w) else None
asked (Promote k) rows = None
asked (PromoteTopN k n) rows = None
asked Evict rows = None
asked (Remove k) rows = None

-- Weight: what the call asks for would pass the bound. Length: its key is new, and there is no room for one row more. Memory else.
abbrev pub IsReason : {T D : Type 0} → LruCall T → ℕ → List (Row T) → LruFault D → Type 0
IsReason call bound rows (Memory back) = ⊤
IsReason call bound rows (Weight back) = MatchOption (asked call rows) ⊥ (λ p. IsHeavy bound p.0 p.1 rows)
IsReason call bound rows (Length back) = MatchOption (asked call rows) ⊥ (λ p. (only p.0 rows ≡ []) × IsLong bound rows)
