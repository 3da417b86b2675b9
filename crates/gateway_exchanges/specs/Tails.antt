-- What comes of a body past what is stored of it.
use Rattle.std.specs.Prelude.{ℕ, ◌-◌, Bool, ◌&&◌, ◌==◌, nat_lt, max, min, if◌then◌else◌, List, [], ◌++◌, length, drop, Option, Some, None, unwrap_or}
use Rattle.std.specs.Coded.{Coded, coded_ℕ}
use Rattle.std.specs.FinMap.{FinMap, empty, get, insert, remove}
use Rattle.std.specs.FinMap as finite
use Rattle.std.specs.Ordering.{nat_cmp}
use Rattle.gateway_steps.specs.declared.state.Ending.{Ending}
use Rattle.gateway_steps.specs.Sides.{capped_sum}
use Rattle.gateway_exchanges.specs.declared.tails.Tail.{Tail}
use Rattle.gateway_exchanges.specs.contracts.tails.Tail.{the_row as tail_row}

-- each by the number of the exchange that stores
abbrev pub TailMap : Type 0
TailMap = FinMap nat_cmp Tail

abbrev pub tails_code : Coded TailMap
tails_code = finite.code coded_ℕ tail_row.coded

-- ==== a tail

-- behind so many bytes that are stored: whoever stores reads in it
abbrev pub new_tail : ℕ → Tail
new_tail after = record { after = after; start = after; bytes = []; ending = Ending.GoesOn; readers = 1; users = 1 }

-- the place behind its last byte
abbrev pub end_of : Tail → ℕ
end_of t = capped_sum t.start (length t.bytes)

-- the bytes that are kept of it from a place on
abbrev pub bytes_from : ℕ → Tail → List ℕ
bytes_from place t = drop (place - t.start) t.bytes

-- who is at that place has missed bytes of it
abbrev pub is_lost : ℕ → Tail → Bool
is_lost place t = nat_lt place t.start && nat_lt t.after t.start

-- where what is kept begins: its own client, at that place, lacks that, or it is among the last bytes
abbrev pub kept_from : ℕ → ℕ → Tail → ℕ
kept_from place most t = max t.start (max t.after (min place (end_of t - most)))

abbrev pub started_at : ℕ → Tail → Tail
started_at start t = record t { start = start; bytes = drop (start - t.start) t.bytes }

-- bytes that came; of what its own client has taken no more than so many stay
abbrev pub taken : List ℕ → ℕ → ℕ → Tail → Tail
taken piece place most t = started_at (kept_from place most (record t { bytes = t.bytes ++ piece })) (record t { bytes = t.bytes ++ piece })

abbrev pub joined : ℕ → Tail → Tail
joined count t = record t { readers = capped_sum t.readers count; users = capped_sum t.users count }

abbrev pub ended : Ending → Tail → Tail
ended ending t = record t { ending = ending }

abbrev pub passed : Tail → Tail
passed t = record t { readers = t.readers - 1 }

abbrev pub left : Tail → Tail
left t = record t { users = t.users - 1 }

-- ==== all of them

abbrev pub no_tails : TailMap
no_tails = empty

abbrev pub tail_at : ℕ → TailMap → Option Tail
tail_at x tails = get tails x

-- the tail of that exchange, if it has one, is changed
abbrev pub changed_at : ℕ → (Tail → Tail) → Option Tail → TailMap → TailMap
changed_at x change None tails = tails
changed_at x change (Some t) tails = insert tails x (change t)

abbrev pub with_change : ℕ → (Tail → Tail) → TailMap → TailMap
with_change x change tails = changed_at x change (get tails x) tails

-- the last of its readers has passed what is stored
abbrev pub is_last_reader : Option Tail → Bool
is_last_reader None = Bool.false
is_last_reader (Some t) = t.readers == 1

-- so many bytes go with the last of its users
abbrev pub gone_at : Option Tail → Option ℕ
gone_at None = None
gone_at (Some t) = if nat_lt 1 t.users then None else Some (length t.bytes)

abbrev pub bytes_gone : Option Tail → ℕ
bytes_gone o = unwrap_or (gone_at o) 0

abbrev pub left_by : ℕ → Option ℕ → TailMap → TailMap
left_by x None tails = with_change x left tails
left_by x (Some bytes) tails = remove tails x

-- one reads no more in it
abbrev pub without_user : ℕ → TailMap → TailMap
without_user x tails = left_by x (gone_at (get tails x)) tails
