-- Rows that are read, and what they make of a manager.
use Rattle.std.specs.Prelude.{◌≡◌, ℕ, ◌^◌, ◌≤◌, ◌⊎◌, List, [], ◌∷◌, ◌++◌, length, Some, None, option_map, unwrap_or, Result, Ok, Err}
use Rattle.cache_entries.specs.declared.entry.CacheEntryKey.{CacheEntryKey}
use Rattle.cache_entries.specs.declared.rows.Tracked.{Tracked}
use Rattle.cache_entries.specs.Entry.{key_of}
use Rattle.cache_entries.specs.RowText.{RowsRead, SpellsRecency, recency_at}
use Rattle.cache_entries.specs.Rows.{row_of, weight_of, admitted}
use Rattle.cache_words.specs.declared.pack.fault.PackFault.{PackFault}
use Rattle.cache_evict.specs.declared.load_fault.LoadFault.{LoadFault}
use Rattle.cache_evict.specs.declared.load_fault.LoadFault.TheVariants.{Text}
use Rattle.cache_evict.specs.LoadTexts.{fault_of}
use Rattle.cache_evict.specs.declared.tracker.loading.Again.{Again}
use Rattle.cache_evict.specs.declared.tracker.loading.Again.TheVariants.{PassedOver, MovedFirst}
use Rattle.cache_evict.specs.declared.tracker.refusal.Refusal.{Refusal}
use Rattle.cache_evict.specs.Managed.{Managed, rows_of, with_rows, put_last}
use Rattle.cache_evict.specs.Refusals.{IsRefusal}

-- a row's entry goes last in its shard, unless it is there
abbrev pub appended : ℕ → Tracked → Managed → Managed
appended n r m = put_last n r.entry r.weight m

-- e with weight w: first where it is among the rows, and else last
abbrev pub first_or_last : CacheEntryKey → ℕ → List Tracked → List Tracked
first_or_last e w rows = unwrap_or (option_map (λ _. admitted e w rows) (row_of e rows)) (rows ++ record { entry = e; weight = w } ∷ [])

-- a row's entry goes first in its shard where it is there, and else last, with the row's weight
abbrev pub restored : ℕ → Tracked → Managed → Managed
restored n r m = with_rows n r.entry (first_or_last r.entry r.weight (rows_of n r.entry m)) m

abbrev pub loaded : Again → ℕ → Tracked → Managed → Managed
loaded PassedOver = appended
loaded MovedFirst = restored

-- rows that are put in turn
abbrev pub all_put : (Tracked → Managed → Managed) → List Tracked → Managed → Managed
all_put put [] m = m
all_put put (r ∷ rows) m = all_put put rows (put r m)

-- a row of a tracked entry that is passed over is never refused
abbrev pub IsTried : Again → ℕ → Tracked → Managed → Type 0
IsTried PassedOver n r m = weight_of r.entry (rows_of n r.entry m) ≡ None
IsTried MovedFirst n r m = Unit {0}

-- why a row isn't put
abbrev pub IsLoadRefusal : Again → ℕ → Tracked → Managed → Refusal → Type 0
IsLoadRefusal again n r m why = IsTried again n r m × IsRefusal n r.entry r.weight m why

-- the rows before one that isn't put are put
abbrev pub StopsBefore : Again → ℕ → RowsRead → Managed → Managed → Refusal → Type 0
StopsBefore again n read old new why =
    (done : List Tracked) × (r : Tracked) × (rest : List Tracked) × (read.0 ≡ done ++ r ∷ rest) × (new ≡ all_put (loaded again n) done old) × IsLoadRefusal again n r new why

-- Of n shards, the rows that were read are put in turn, up to one that can't be put. A fault of the text is reported after its rows.
abbrev pub Loads : Again → ℕ → RowsRead → Managed → Managed → Result (Unit {0}) LoadFault → Type 0
Loads again n read old new (Ok x) = (read.1 ≡ None) × (new ≡ all_put (loaded again n) read.0 old)
Loads again n read old new (Err fault) =
    ((f : PackFault) × (fault ≡ Text f) × (read.1 ≡ Some f) × (new ≡ all_put (loaded again n) read.0 old))
    ⊎ ((why : Refusal) × (fault ≡ fault_of why) × StopsBefore again n read old new why)

-- the bytes begin with a text of rows, which are put in turn
abbrev pub LoadsText : Again → ℕ → List ℕ → Managed → Managed → Type 0
LoadsText again n bytes old new =
    (rows : List Tracked) × (text : List ℕ) × (rest : List ℕ) × SpellsRecency rows text × (bytes ≡ text ++ rest) × (new ≡ all_put (loaded again n) rows old)

-- the entry of some row has a tag that no form counts
abbrev pub HasLongTag : List Tracked → Type 0
HasLongTag [] = ⊥
HasLongTag (r ∷ rows) = (2 ^ 32 ≤ length (key_of r.entry).user_tag) ⊎ HasLongTag rows

-- no form counts the rows, or the bytes of some tag
abbrev pub CantBeWritten : List Tracked → Type 0
CantBeWritten rows = (2 ^ 32 ≤ length rows) ⊎ HasLongTag rows

-- each text is a spelling of the rows of its shard, and none is left over
abbrev pub SpellEach : List (List Tracked) → List (List ℕ) → Type 0
SpellEach [] [] = Unit {0}
SpellEach [] (text ∷ texts) = ⊥
SpellEach (rows ∷ shards) [] = ⊥
SpellEach (rows ∷ shards) (text ∷ texts) = SpellsRecency rows text × SpellEach shards texts

-- of n shards, the texts are loaded in turn, and none is refused
abbrev pub LoadsInTurn : ℕ → List (List ℕ) → Managed → Managed → Type 0
LoadsInTurn n [] old new = new ≡ old
LoadsInTurn n (text ∷ texts) old new = (mid : Managed) × Loads PassedOver n (recency_at text) old mid (Ok (tt {0})) × LoadsInTurn n texts mid new
