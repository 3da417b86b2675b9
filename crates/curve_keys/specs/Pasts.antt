-- What lines say of their keys, and what was read of a trace so far.
use Rattle.std.specs.Prelude.{◌≡◌, ℕ, zero, suc, ◌+◌, ◌==◌, Bool, true, false, not, ◌&&◌, if◌then◌else◌, List, [], ◌∷◌, Option, Some, None, unwrap_or}
use Rattle.std.specs.HashMap.{get_by}
use Rattle.cache_entries.specs.declared.entry.CacheEntryKey.{CacheEntryKey}
use Rattle.cache_entries.specs.Entry.{same_entry}
use Rattle.cache_entries.specs.Keys.{same_bytes}
use Rattle.curve_sizes.specs.declared.when.When.{When}
use Rattle.curve_sizes.specs.Requests.{Request, asks, removes, is_among}
use Rattle.curve_keys.specs.Keys.{keyed, IsFedKeys}
use Rattle.curve_keys.specs.declared.said.Said.{Said}
use Rattle.curve_keys.specs.declared.said.Said.TheVariants.{Removal, Weight, Known, Told, Other, Wrong}
use Rattle.curve_keys.specs.declared.told.Lifetimes.{Lifetimes}
use Rattle.curve_keys.specs.declared.reading.Reading.{Reading}

-- what a line says of a key, at a moment and with a lifetime, so often
pub record Line : Type 0 where
  pub key : List ℕ
  pub said : Said
  pub when : When
  pub times : ℕ

-- what was read so far: the requests, and the lifetimes that keys were told, the latest first; how many lines asked for a key without a weight
-- by no length
pub record Past : Type 0 where
  pub requests : List Request
  pub told : List (List ℕ × ℕ)
  pub unweighed : ℕ

abbrev pub nothing_read : Past
nothing_read = record { requests = []; told = []; unweighed = 0 }

-- so many of the same request
abbrev pub repeated : ℕ → Request → List Request → List Request
repeated zero r before = before
repeated (suc n) r before = r ∷ repeated n r before

-- the weight that the first request for e says; 0 without one
abbrev pub first_weight : CacheEntryKey → List Request → ℕ
first_weight e [] = 0
first_weight e (asks x w t ∷ before) = if same_entry x e && not (is_among e before) then w else first_weight e before
first_weight e (removes x ∷ before) = first_weight e before

-- the key is asked for so often by the weight that it has, if it has one
abbrev pub asked_known : List ℕ → When → ℕ → List Request → List Request
asked_known key when times before = if is_among (keyed key) before then repeated times (asks (keyed key) (first_weight (keyed key) before) when) before else before

-- the lifetime that a key was told last; 0 without one
abbrev pub lifetime_told : List ℕ → List (List ℕ × ℕ) → ℕ
lifetime_told key [] = 0
lifetime_told key (t ∷ told) = if same_bytes t.0 key then t.1 else lifetime_told key told

-- a lifetime of 0 gives way to another one
abbrev pub with_lifetime : ℕ → When → When
with_lifetime lifetime when = if when.lifetime == 0 then record { moment = when.moment; lifetime = lifetime } else when

abbrev pub when_of : Past → Line → When
when_of past l = with_lifetime (lifetime_told l.key past.told) l.when

abbrev pub onto_by : Said → Line → Past → Past
onto_by Removal l past = record past { requests = removes (keyed l.key) ∷ past.requests }
onto_by (Weight weight) l past = record past { requests = repeated l.times (asks (keyed l.key) weight (when_of past l)) past.requests }
onto_by Known l past =
    record past { requests = asked_known l.key (when_of past l) l.times past.requests; unweighed = past.unweighed + (if is_among (keyed l.key) past.requests then 0 else 1) }
onto_by Told l past = record past { told = (l.key, l.when.lifetime) ∷ past.told }
onto_by Other l past = past
onto_by Wrong l past = past

-- what was read with one line more
abbrev pub onto : Option Line → Past → Past
onto None past = past
onto (Some l) past = onto_by l.said l past

-- the line, if it says something
abbrev pub line_for : List ℕ → Said → When → ℕ → Option Line
line_for key Wrong when times = None
line_for key said when times = Some (record { key = key; said = said; when = when; times = times })

abbrev pub is_said : Said → Bool
is_said Wrong = false
is_said said = true

-- the lifetime that a table of keys has; 0 without one
abbrev pub told_in : Lifetimes → List ℕ → ℕ
told_in t key = unwrap_or (get_by (λ kept. same_bytes key kept.items) t.table) 0

-- a table got one lifetime more
abbrev pub IsTold : Lifetimes → Lifetimes → List ℕ → ℕ → Type 0
IsTold old new key lifetime = (other : List ℕ) → told_in new other ≡ (if same_bytes key other then lifetime else told_in old other)

-- the reading is of this past
pub record IsRead (r : Reading) (past : Past) : Type 0 where
  pub fed : IsFedKeys r.curve past.requests
  pub told : (key : List ℕ) → told_in r.told key ≡ lifetime_told key past.told
  pub unweighed : r.unweighed ≡ past.unweighed
