-- What a call tells that has the date of a moment in it.
use Rattle.std.specs.Prelude.{◌≡◌, ℕ, ◌⊎◌, ◌/◌, List, Option, Some, None}
use Rattle.http1_message.specs.Response.{ShowsSecond}
use Rattle.rules_ffi_results.specs.Telling.{Written}

-- by the text of the moment's second; of no moment nothing is told
abbrev pub WrittenDated : {S : Type 0} → (ℕ → ℕ → S) → Option ℕ → (List ℕ → Option (List ℕ × S)) → List ℕ → List ℕ → S → Type 0
WrittenDated blank None given old new out = Written blank None old new out
WrittenDated blank (Some moment) given old new out = (date : List ℕ) × ShowsSecond (moment / 1000000000) date × Written blank (given date) old new out

-- the same, unless memory ran out
abbrev pub WritesDated : {S : Type 0} → (ℕ → ℕ → S) → Option ℕ → (List ℕ → Option (List ℕ × S)) → List ℕ → List ℕ → S → Type 0
WritesDated blank moment given old new out = ((new ≡ old) × (out ≡ blank 13 0)) ⊎ WrittenDated blank moment given old new out
