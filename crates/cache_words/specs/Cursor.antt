-- What a cursor takes from the front of the bytes that are still to be read.
use Rattle.std.specs.Prelude.{◌≡◌, ℕ, List, ◌++◌, Result, Ok, Err, IfOk, IsOkAnd, OnOk, OnErr, IsOk}
use Rattle.cache_words.specs.declared.pack.fault.PackFault.{PackFault}
use Rattle.cache_words.specs.Spelling.{Spelling}
use Rattle.cache_words.specs.Reading.{Reader}

-- what was returned, seen by view, and what is left is what reading gives
abbrev pub StepsAs : {X V : Type 0} → (X → V) → Reader V → List ℕ → List ℕ → Result X PackFault → Type 0
StepsAs view read old new (Ok x) = read old ≡ Ok (view x, new)
StepsAs view read old new (Err e) = read old ≡ Err e

-- a cursor took a value: `read` says which, and which fault else, and P which texts spell it
pub record IsTaken {X V : Type 0} (view : X → V) (read : Reader V) (P : Spelling V) (old new : List ℕ) (result : Result X PackFault) : Type 0 where
  pub exact : StepsAs view read old new result
  -- the bytes that were taken spell what was returned
  pub found : IfOk result (λ x. (text : List ℕ) × P (view x) text × (old ≡ text ++ new))
  -- what the bytes begin to spell is taken, whatever follows
  pub only : (v : V) (text rest : List ℕ) → P v text → old ≡ text ++ rest → IsOkAnd result (λ x. (view x ≡ v) × (new ≡ rest))
  pub kept : OnErr result (new ≡ old)

-- what reading leaves is left
abbrev pub StepsOver : (List ℕ → Result (List ℕ) PackFault) → List ℕ → List ℕ → Result (Unit {0}) PackFault → Type 0
StepsOver read old new (Ok x) = read old ≡ Ok new
StepsOver read old new (Err e) = read old ≡ Err e

-- the same of what has no value
pub record IsPassed (read : List ℕ → Result (List ℕ) PackFault) (IsText : List ℕ → Type 0) (old new : List ℕ) (result : Result (Unit {0}) PackFault) : Type 0 where
  pub exact : StepsOver read old new result
  pub found : OnOk result ((text : List ℕ) × IsText text × (old ≡ text ++ new))
  pub only : (text rest : List ℕ) → IsText text → old ≡ text ++ rest → IsOk result × (new ≡ rest)
  pub kept : OnErr result (new ≡ old)

-- the value of a reader was returned and what it left is left; or its fault was, and nothing was taken
abbrev pub Advances : {X Y : Type 0} → (Y → List ℕ) → List ℕ → List ℕ → Result (X × Y) PackFault → Result X PackFault → Type 0
Advances left old new (Ok x) result = (result ≡ Ok x.0) × (new ≡ left x.1)
Advances left old new (Err e) result = (result ≡ Err e) × (new ≡ old)

abbrev pub Passes : {Y : Type 0} → (Y → List ℕ) → List ℕ → List ℕ → Result Y PackFault → Result (Unit {0}) PackFault → Type 0
Passes left old new (Ok y) result = IsOk result × (new ≡ left y)
Passes left old new (Err e) result = (result ≡ Err e) × (new ≡ old)
