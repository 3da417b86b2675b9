-- The callers of a recorded tier, and the passes that were gathered.
use Rattle.std.specs.Prelude.{◌≡◌, ℕ, ◌+◌, ◌<◌, ⊤, true, false, List, [], ◌∷◌, ◌++◌, length, get_or, if◌then◌else◌, ◌⊎◌}
use Rattle.std.specs.List.{sum_by}
use Rattle.tier_recorded.specs.declared.history.Record.{Record}
use Rattle.tier_recorded.specs.declared.history.CallerRecord.{CallerRecord}
use Rattle.tier_recorded.specs.declared.history.Seat.{Seat}
use Rattle.tier_recorded.specs.Histories.{records_of, AreSame, FirstDiffer}

-- a pass: whose it is, and the records of its calls
pub record PassState : Type 0 where
  pub caller : ℕ
  pub records : List CallerRecord
  -- for how many records more there is room
  pub room : ℕ

-- one without a seat
abbrev pub stranger : Seat
stranger = record { records = 0; is_gathered = false }

abbrev pub seat_of : ℕ → List Seat → Seat
seat_of c seats = get_or seats c stranger

-- it is the caller's turn of this number: it has a seat, made so many calls, and its pass isn't gathered
abbrev pub IsTurn : List Seat → ℕ → ℕ → Type 0
IsTurn seats c turn = (c < length seats) × (seat_of c seats ≡ record { records = turn; is_gathered = false })

-- each gathered pass has just what the history has of its caller, and the caller is marked
abbrev pub Shows : List Seat → List Record → List PassState → Type 0
Shows seats history [] = ⊤
Shows seats history (p ∷ ps) = AreSame p.records (records_of p.caller history) × ((seat_of p.caller seats).is_gathered ≡ true) × Shows seats history ps

-- one of the passes is the caller's
abbrev pub IsOne : ℕ → List PassState → Type 0
IsOne c [] = ⊥
IsOne c (p ∷ ps) = (p.caller ≡ c) ⊎ IsOne c ps

-- a pass of the caller can be gathered: it has a seat that isn't marked
abbrev pub IsOpen : List Seat → ℕ → Type 0
IsOpen seats c = (c < length seats) × ((seat_of c seats).is_gathered ≡ false)

-- why a pass can't be gathered after these others, and from which turn on: its caller has no open seat, or one of them is the caller's,
-- and it is the first turn; or it is where the pass first differs from what the history has of the caller
abbrev pub DiffersAt : List Seat → List Record → List PassState → PassState → ℕ → Type 0
DiffersAt seats history others p turn =
    ((IsOpen seats p.caller → IsOne p.caller others) × (turn ≡ 0)) ⊎ FirstDiffer p.records (records_of p.caller history) turn

-- one of the passes is this caller's, and can't be gathered after those before it
abbrev pub OneDiffers : List Seat → List Record → List PassState → ℕ → ℕ → Type 0
OneDiffers seats history passes c turn = (before : List PassState) × (p : PassState) × (after : List PassState)
    × (passes ≡ before ++ p ∷ after) × (p.caller ≡ c) × DiffersAt seats history before p turn

abbrev pub mark : Seat → ℕ
mark s = if s.is_gathered then 1 else 0

-- the seats fit the history and the passes that were gathered
pub record AreSeated (seats : List Seat) (gathered : List PassState) (history : List Record) : Type 0 where
  pub fits : (c : ℕ) → (seat_of c seats).records ≡ length (records_of c history)
  pub shows : Shows seats history gathered
  pub held : (c : ℕ) → (seat_of c seats).is_gathered ≡ true → IsOne c gathered
  pub counted : sum_by mark seats ≡ length gathered

-- the same seats with these passes marked too, whatever was gathered before
abbrev pub Marks : List Seat → List PassState → List Record → List Seat → Type 0
Marks seats passes history marked =
    (length marked ≡ length seats) × ((ps : List PassState) → AreSeated seats ps history → AreSeated marked (ps ++ passes) history)

-- a seat that is marked was marked before, or one of the passes is its caller's
abbrev pub MarksOnly : List Seat → List PassState → List Seat → Type 0
MarksOnly seats passes marked = (c : ℕ) → (seat_of c marked).is_gathered ≡ true → ((seat_of c seats).is_gathered ≡ true) ⊎ IsOne c passes

-- the records of all passes
abbrev pub total : List PassState → ℕ
total passes = sum_by (λ p. length p.records) passes

-- a pass of the caller has just what the history has of it
abbrev pub ShowsOne : ℕ → List Record → List PassState → Type 0
ShowsOne c history [] = ⊥
ShowsOne c history (p ∷ ps) = ((p.caller ≡ c) × AreSame p.records (records_of c history)) ⊎ ShowsOne c history ps
