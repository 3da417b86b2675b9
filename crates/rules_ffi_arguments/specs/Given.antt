-- What a call gives of what it is given: nothing where that is out of its range.
use Rattle.std.specs.Prelude.{◌≡◌, Bool, if◌then◌else◌, Option, Some, None, Result, Ok, Err}
use Rattle.rules_ffi_arguments.specs.declared.bad.Bad.{Bad}
use Rattle.rules_ffi_arguments.specs.declared.bad.Bad.TheVariants.{Memory, Call}

infixl 10 ◌>>=◌
abbrev pub ◌>>=◌ : {A B : Type 0} → Option A → (A → Option B) → Option B
(Some x) >>= f = f x
None >>= f = None

-- a value where a test holds
abbrev pub only_if : {A : Type 0} → Bool → A → Option A
only_if holds x = if holds then Some x else None

abbrev pub Fails : {Y : Type 0} → Bad → Option Y → Type 0
Fails Memory given = Unit {0}
Fails Call given = given ≡ None

-- what a function returned, seen by view, is this, unless memory ran out
abbrev pub Gives : {X Y : Type 0} → (X → Y) → Result X Bad → Option Y → Type 0
Gives view (Ok x) given = given ≡ Some (view x)
Gives view (Err e) given = Fails e given

-- it takes no memory, so that only what it was given can be refused
abbrev pub NeedsNoMemory : {X : Type 0} → Result X Bad → Type 0
NeedsNoMemory (Ok x) = Unit {0}
NeedsNoMemory (Err e) = e ≡ Call
