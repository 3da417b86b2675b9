-- Records of calls and replies, as keys and weights.
use Rattle.std.specs.Prelude.{◌≡◌, ℕ, ⊤, List, [], ◌∷◌, map, Some}
use Rattle.std.specs.List.{All}
use Rattle.lru_core.specs.declared.rows.Row.{Row}
use Rattle.lru_core.specs.Rows.{a_row}
use Rattle.lru_core.specs.declared.lru_unit.fault.LruFault.{LruFault}
use Rattle.pingora_lru.specs.declared.call.LruCall.{LruCall}
use Rattle.pingora_lru.specs.declared.call.LruCall.TheVariants.{Evict}
use Rattle.pingora_lru.specs.declared.call.Reply.{Reply}
use Rattle.pingora_lru.specs.declared.call.Reply.TheVariants.{Taken}
use Rattle.pingora_lru.specs.declared.call.Kept.{Kept}
use Rattle.pingora_lru.specs.Calls.{after, reply_of}
use Rattle.pingora_lru.specs.Refusals.{IsReason}

-- rows without their data
abbrev pub bare : {T : Type 0} → List (Row T) → List (Row ⊤)
bare rows = map (λ r. a_row r.key tt r.weight) rows

-- the calls kept lead from the rows `old` to the rows `new`, and each reply is that of the rows at its call
abbrev pub IsRecord : List (Row ⊤) → List Kept → List (Row ⊤) → Type 0
IsRecord old [] new = new ≡ old
IsRecord old (e ∷ es) new = (e.reply ≡ reply_of e.call old) × IsRecord (after e.call old) es new

-- some record leads from no rows to these
abbrev pub IsLed : {T : Type 0} → List (Row T) → Type 0
IsLed rows = (kept : List Kept) × IsRecord [] kept (bare rows)

-- the call returns this of rows that a record leads to
abbrev pub IsReply : {T : Type 0} → LruCall T → Reply T → Type 0
IsReply {T} call reply = (rows : List (Row T)) × IsLed rows × (reply ≡ reply_of call rows)

-- each pair is what an eviction takes of such rows
abbrev pub AreEvicted : {T : Type 0} → List (T × ℕ) → Type 0
AreEvicted pairs = All (λ pair. IsReply Evict (Taken (Some pair))) pairs

-- a shard with rows that a record leads to refuses the call so
abbrev pub IsRefused : {T D : Type 0} → LruCall T → LruFault D → Type 0
IsRefused {T} call fault = (bound : ℕ) × (rows : List (Row T)) × IsLed rows × IsReason call bound rows fault

-- a shard and its record
pub record Recorded (T : Type 0) : Type 0 where
  pub rows : List (Row T)
  pub bound : ℕ
  pub kept : List Kept
