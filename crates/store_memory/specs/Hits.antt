-- How the readers of a store in memory read: a whole body at once, and a write as it comes.
use Rattle.std.specs.Prelude.{◌≡◌, ℕ, ◌+◌, ◌^◌, ◌<◌, ⊤, ◌||◌, not, min, IsOk, Bool, true, false, nat_lt, List, [], drop, length, slice_range, Option, Some, None, Result, Ok, Err, MatchResult, if◌then◌else◌}
use Rattle.head_lines.specs.declared.header.ResponseHeader.{ResponseHeader}
use Rattle.cache_store.specs.declared.storage.ReadStep.{ReadStep}
use Rattle.cache_store.specs.declared.storage.ReadStep.TheVariants.{Bytes, Pending, End}
use Rattle.cache_store.specs.declared.storage.StoreFault.{StoreFault}
use Rattle.cache_store.specs.declared.storage.StoreFault.TheVariants.{Memory, SeekRange}
use Rattle.cache_store.specs.Readers.{StreamHit}

-- a reader of the whole body of a write: what that weighs, the head of its response, and what of it comes next, unless that was read
pub record WholeHit : Type 0 where
  pub number : ℕ
  pub body : List ℕ
  pub weight : ℕ
  pub head : ResponseHeader
  pub start : ℕ
  pub stop : ℕ
  pub done : Bool

-- a step of reading from a place: all that is there past it; where nothing is, the end once no more comes
abbrev pub StepAnswer : Bool → List ℕ → Bool → ℕ → Result ReadStep StoreFault → Type 0
StepAnswer true bytes over place r = MatchResult r (λ step. step ≡ Bytes (drop place bytes)) (λ f. f ≡ Memory)
StepAnswer false bytes over place r = r ≡ Ok (if over then End else Pending)

-- the answer to a reader at a place; a write that isn't there has ended
abbrev pub ReadAnswer : Option (List ℕ × Bool) → ℕ → Result ReadStep StoreFault → Type 0
ReadAnswer None place r = r ≡ Ok End
ReadAnswer (Some p) place r = StepAnswer (nat_lt place (length p.0)) p.0 p.1 place r

-- the reader of the body of a write, which weighs so much and has that head, that has read nothing
abbrev pub unread : ℕ → List ℕ → ℕ → ResponseHeader → WholeHit
unread n body weight head = record { number = n; body = body; weight = weight; head = head; start = 0; stop = length body; done = false }

-- what such a reader reads next
abbrev pub next_bytes : WholeHit → List ℕ
next_bytes h = if h.done then [] else slice_range h.body h.start h.stop

-- what a reader of a body is answered, by whether it has read
abbrev pub WholeAnswer : Bool → WholeHit → Result ReadStep StoreFault → Type 0
WholeAnswer true h r = r ≡ Ok End
WholeAnswer false h r = MatchResult r (λ step. step ≡ Bytes (slice_range h.body h.start h.stop)) (λ f. f ≡ Memory)

abbrev pub after_read : WholeHit → Result ReadStep StoreFault → WholeHit
after_read h (Ok step) = record h { done = true }
after_read h (Err f) = h

-- where a range ends: at the body's end where none is given
abbrev pub end_of : Option ℕ → WholeHit → ℕ
end_of None h = length h.body
end_of (Some n) h = n

-- the range isn't within the body
abbrev pub is_outside : ℕ → ℕ → WholeHit → Bool
is_outside start stop h = not (nat_lt start (length h.body)) || nat_lt stop start

abbrev pub SeekResult : Bool → ℕ → ℕ → WholeHit → Result (Unit {0}) StoreFault → WholeHit → Type 0
SeekResult true start stop old r new = (r ≡ Err SeekRange) × (new ≡ old)
SeekResult false start stop old r new = IsOk r × (new ≡ record old { start = start; stop = min stop (length old.body); done = false })

-- a reader of a body is set to a range
abbrev pub SeekAnswer : ℕ → Option ℕ → WholeHit → Result (Unit {0}) StoreFault → WholeHit → Type 0
SeekAnswer start stop old r new = SeekResult (is_outside start (end_of stop old) old) start (end_of stop old) old r new

-- the place of a reader of a write once a step was answered
abbrev pub moved : StreamHit → Result ReadStep StoreFault → StreamHit
moved h (Ok (Bytes bytes)) = record h { place = h.place + length bytes }
moved h _ = h

-- the place past what was read is a number of memory
abbrev pub FitsPast : ℕ → Result ReadStep StoreFault → Type 0
FitsPast place (Ok (Bytes bytes)) = place + length bytes < 2 ^ 64
FitsPast place _ = ⊤
