-- What has the date of a moment in it.
use Rattle.std.proofs.Common.{◌≡◌, ◌≢◌, ℕ, ◌/◌, ◌≤◌, inl, inr, List, ◌++◌, length, take, drop, refl, ap, ◌∙◌, Option, Some, None, Result, Ok, Err}
use Rattle.std.specs.Prelude.{option_map}
use Rattle.rules_ffi_arguments.specs.declared.bad.Bad.{Bad}
use Rattle.rules_ffi_arguments.specs.declared.bad.Bad.TheVariants.{Memory, Call}
use Rattle.http1_message.specs.Response.{ShowsSecond}
use Rattle.rules_ffi.specs.Dated.{WritesDated}
use Rattle.gateway_rules.specs.Dated.{IsDated, GivesDated}
use Rattle.gateway_rules.specs.Rooms.{told_by, GivesDatedWithin}
use Rattle.gateway_rules.proofs.Within.{Kind, AllTold, GivesText, gives, told_without_memory, told_of_a_bad_call}

-- what was taken out of a room, or why there is nothing
abbrev pub GivesDatedText : {S : Type 0} → Result (List ℕ) Bad → S → Option ℕ → (List ℕ → Option (List ℕ × S)) → Type 0
GivesDatedText (Ok text) s moment given = IsDated moment given (Some (text, s))
GivesDatedText (Err Call) s moment given = IsDated moment given None
GivesDatedText (Err Memory) s moment given = Unit {0}

by_date : {S : Type 0} (r : Result (List ℕ) Bad) (s : S) (moment : ℕ) (given : List ℕ → Option (List ℕ × S)) (date : List ℕ)
    → ShowsSecond (moment / 1000000000) date → GivesText r s (given date) → GivesDatedText r s (Some moment) given
by_date (Ok text) s moment given date shows h = (date, shows, h)
by_date (Err Call) s moment given date shows h = (date, shows, h)
by_date (Err Memory) s moment given date shows h = tt

pub gives_dated : {S : Type 0} (k : Kind S) (moment : Option ℕ) (given : List ℕ → Option (List ℕ × S)) (old new : List ℕ) (out : S) (size : ℕ) (r : Result (List ℕ) Bad)
    → ((date : List ℕ) → AllTold k (given date)) → WritesDated k.blank moment given old new out → length old ≤ size → k.status out ≢ 23
    → r ≡ told_by (k.status out) (take (k.len out) (take size (new ++ drop (length new) old))) → GivesDatedText r out moment given
gives_dated k moment given old new out size r all (inl h) within un e =
    rw (e ∙ told_without_memory (k.status out) (take (k.len out) (take size (new ++ drop (length new) old))) (ap k.status h.1 ∙ k.blank_status 13 0)) tt
gives_dated k None given old new out size r all (inr h) within un e =
    rw (e ∙ told_of_a_bad_call (k.status out) (take (k.len out) (take size (new ++ drop (length new) old))) (ap k.status h.1 ∙ k.blank_status 20 0)) refl
gives_dated k (Some moment) given old new out size r all (inr h) within un e =
    by_date r out moment given h.0 h.1 (gives k (given h.0) old new out size r (all h.0) (inr h.2) within un e)

-- what is made of what has a date in it
pub map_dated : {X Y : Type 0} (f : X → Y) (moment : Option ℕ) (given : List ℕ → Option X) (told : Option X)
    → IsDated moment given told → IsDated moment (λ date. option_map f (given date)) (option_map f told)
map_dated f None given told h = ap (option_map f) h
map_dated f (Some moment) given told h = (h.0, h.1, ap (option_map f) h.2)

-- a call that goes wrong goes wrong in the same way for what would be made of what it gives
pub fail_dated : {R X Y T : Type 0} (view : R → X) (f : X → Y) (other : T → Y) (moment : Option ℕ) (given : List ℕ → Option X) (e : Bad)
    → GivesDated view (Err e) moment given → GivesDated other (Err e) moment (λ date. option_map f (given date))
fail_dated view f other moment given Call h = map_dated f moment given None h
fail_dated view f other moment given Memory h = tt

-- why there is nothing
pub dated_error : {R S : Type 0} (view : R → List ℕ × S) (e : Bad) (s : S) (moment : Option ℕ) (given : List ℕ → Option (List ℕ × S))
    → GivesDatedText (Err e) s moment given → GivesDatedWithin view (Err e) moment given
dated_error view Call s moment given h = h
dated_error view Memory s moment given h = tt
