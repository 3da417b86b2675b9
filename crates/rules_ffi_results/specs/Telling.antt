-- What a call tells: a struct, and a text in the room that it was given.
use Rattle.std.specs.Prelude.{◌≡◌, ℕ, ◌<◌, ◌≤◌, ◌⊎◌, ◌+◌, List, ◌++◌, length, drop, Option, Some, None}

-- a struct, where there is no text; or none, since an argument is out of its range
abbrev pub Told : {S : Type 0} → (ℕ → ℕ → S) → Option S → S → Type 0
Told blank None out = out ≡ blank 20 0
Told blank (Some told) out = out ≡ told

-- the same, unless memory ran out
abbrev pub Tells : {S : Type 0} → (ℕ → ℕ → S) → Option S → S → Type 0
Tells blank given out = (out ≡ blank 13 0) ⊎ Told blank given out

-- a text stands at the front of a room, of which the rest is as it was
abbrev pub Holds : List ℕ → List ℕ → List ℕ → Type 0
Holds old text new = (length text ≤ length old) × (new ≡ text ++ drop (length text) old)

-- a text and its struct, where the text has room
abbrev pub Placed : {S : Type 0} → (ℕ → ℕ → S) → List ℕ × S → List ℕ → List ℕ → S → Type 0
Placed blank told old new out =
    (Holds old told.0 new × (out ≡ told.1)) ⊎ ((length old < length told.0) × (new ≡ old) × (out ≡ blank 23 (length told.0)))

-- a text and its struct; or none, since an argument is out of its range
abbrev pub Written : {S : Type 0} → (ℕ → ℕ → S) → Option (List ℕ × S) → List ℕ → List ℕ → S → Type 0
Written blank None old new out = (new ≡ old) × (out ≡ blank 20 0)
Written blank (Some told) old new out = Placed blank told old new out

-- the same, unless memory ran out
abbrev pub Writes : {S : Type 0} → (ℕ → ℕ → S) → Option (List ℕ × S) → List ℕ → List ℕ → S → Type 0
Writes blank given old new out = ((new ≡ old) × (out ≡ blank 13 0)) ⊎ Written blank given old new out
