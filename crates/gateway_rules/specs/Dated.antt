-- What has the date of a moment in it.
use Rattle.std.specs.Prelude.{◌≡◌, ℕ, ◌/◌, List, Option, Some, None, Result, Ok, Err}
use Rattle.http1_message.specs.Response.{ShowsSecond}
use Rattle.rules_ffi_arguments.specs.declared.bad.Bad.{Bad}
use Rattle.rules_ffi_arguments.specs.declared.bad.Bad.TheVariants.{Memory, Call}

-- by the text of the moment's second; of no moment nothing is given
abbrev pub IsDated : {Y : Type 0} → Option ℕ → (List ℕ → Option Y) → Option Y → Type 0
IsDated None given told = told ≡ None
IsDated (Some moment) given told = (date : List ℕ) × ShowsSecond (moment / 1000000000) date × (given date ≡ told)

-- what a function returned, seen by view, is this, unless memory ran out
abbrev pub GivesDated : {X Y : Type 0} → (X → Y) → Result X Bad → Option ℕ → (List ℕ → Option Y) → Type 0
GivesDated view (Ok x) moment given = IsDated moment given (Some (view x))
GivesDated view (Err Call) moment given = IsDated moment given None
GivesDated view (Err Memory) moment given = Unit {0}
