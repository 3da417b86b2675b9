-- What each call of a shard leaves of its rows, and what it returns.
use Rattle.std.specs.Prelude.{ℕ, ⊤, ◌-◌, max, not, List, ◌∷◌, length, take, slice_get, Option, Some, None, is_some, if◌then◌else◌}
use Rattle.std.specs.Option.{option_map}
use Rattle.lru_core.specs.declared.rows.Row.{Row}
use Rattle.lru_core.specs.Rows.{only, others, promoted, reweighed, admitted, row_of, a_row, pair_of, incremented, total_weight}
use Rattle.lru_core.specs.Orders.{with_last}
use Rattle.lru_actors.specs.Messages.{weighing}
use Rattle.pingora_lru.specs.declared.call.LruCall.{LruCall}
use Rattle.pingora_lru.specs.declared.call.LruCall.TheVariants.{Admit, InsertTail, IncrementWeight, UpdateOrAdmit, SetWeight, Promote, PromoteTopN, Evict, Remove}
use Rattle.pingora_lru.specs.declared.call.Reply.{Reply}
use Rattle.pingora_lru.specs.declared.call.Reply.TheVariants.{Admitted, Inserted, Incremented, Updated, WeightSet, Promoted, Taken}

-- the weight of key k, if it is there
abbrev pub weight_of : {T : Type 0} → ℕ → List (Row T) → Option ℕ
weight_of k rows = option_map (λ r. r.weight) (row_of k rows)

-- the rows after a call
abbrev pub after : {T : Type 0} → LruCall T → List (Row T) → List (Row T)
after (Admit k d w) rows = admitted k d w rows
after (InsertTail k d w) rows = with_last rows (a_row k d w)
after (IncrementWeight k d delta cap) rows = weighing k d (incremented k delta cap rows) rows
after (UpdateOrAdmit k d w) rows = admitted k d w rows
after (SetWeight k w) rows = reweighed k w rows
after (Promote k) rows = promoted k rows
after (PromoteTopN k n) rows = if is_some (row_of k (take n rows)) then rows else promoted k rows
after Evict rows = take (length rows - 1) rows
after (Remove k) rows = others k rows

-- what a call returns
abbrev pub reply_of : {T : Type 0} → LruCall T → List (Row T) → Reply T
reply_of (Admit k d w) rows = Admitted (total_weight (only k rows))
reply_of (InsertTail k d w) rows = Inserted (not (is_some (row_of k rows)))
reply_of (IncrementWeight k d delta cap) rows = Incremented (total_weight (only k rows)) (incremented k delta cap rows) (not (is_some (row_of k rows)))
reply_of (UpdateOrAdmit k d w) rows = Updated (weight_of k rows) (max 1 w)
reply_of (SetWeight k w) rows = WeightSet (weight_of k rows)
reply_of (Promote k) rows = Promoted (is_some (row_of k rows))
reply_of (PromoteTopN k n) rows = Promoted (is_some (row_of k rows))
reply_of Evict rows = Taken (option_map pair_of (slice_get rows (length rows - 1)))
reply_of (Remove k) rows = Taken (option_map pair_of (row_of k rows))

-- a call without its data
abbrev pub bare_call : {T : Type 0} → LruCall T → LruCall ⊤
bare_call (Admit k d w) = Admit k tt w
bare_call (InsertTail k d w) = InsertTail k tt w
bare_call (IncrementWeight k d delta cap) = IncrementWeight k tt delta cap
bare_call (UpdateOrAdmit k d w) = UpdateOrAdmit k tt w
bare_call (SetWeight k w) = SetWeight k w
bare_call (Promote k) = Promote k
bare_call (PromoteTopN k n) = PromoteTopN k n
bare_call Evict = Evict
bare_call (Remove k) = Remove k

-- a reply without its data
abbrev pub bare_reply : {T : Type 0} → Reply T → Reply ⊤
bare_reply (Admitted w) = Admitted w
bare_reply (Inserted b) = Inserted b
bare_reply (Incremented v w b) = Incremented v w b
bare_reply (Updated v w) = Updated v w
bare_reply (WeightSet v) = WeightSet v
bare_reply (Promoted b) = Promoted b
bare_reply (Taken o) = Taken (option_map (λ p. (tt, p.1)) o)

-- the data of a call, if it has any
abbrev pub item_of : {T : Type 0} → LruCall T → Option T
item_of (Admit k d w) = Some d
item_of (InsertTail k d w) = Some d
item_of (IncrementWeight k d delta cap) = Some d
item_of (UpdateOrAdmit k d w) = Some d
item_of (SetWeight k w) = None
item_of (Promote k) = None
item_of (PromoteTopN k n) = None
item_of Evict = None
item_of (Remove k) = None
