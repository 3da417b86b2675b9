-- A response that was read, as its struct tells it.
use Rattle.std.specs.Prelude.{ℕ, ◌-◌, ◌^◌, Bool, ◌&&◌, ◌==◌, nat_lt, if◌then◌else◌, List, Option, Some, None}
use Rattle.rules_fields.specs.Fields.{Field}
use Rattle.rules_fields.specs.Types.{Answered}
use Rattle.rules_fields.specs.declared.types.Framing.{Framing}
use Rattle.rules_fields.specs.declared.types.Framing.TheVariants as forms
use Rattle.rules_ffi_arguments.specs.Given.{◌>>=◌, only_if}
use Rattle.rules_ffi_arguments.specs.Requests.{minor_in}
use Rattle.rules_ffi_arguments.specs.Options.{are_zero}
use Rattle.rules_ffi_arguments.specs.declared.shapes.ResponseShape.{ResponseShape}

-- no body; where HEAD was sent it may state a length
abbrev pub bodiless : ℕ → Framing
bodiless length = if length == 2 ^ 64 - 1 then forms.None else forms.HeadLength length

abbrev pub response_framing : ℕ → ℕ → Option Framing
response_framing form length =
    if form == 0 then Some (bodiless length)
    else (if form == 1 then Some (forms.Length length)
    else (if form == 2 then Some forms.Chunked
    else (if form == 3 then Some forms.Close else None)))

abbrev pub code_in : ℕ → Option ℕ
code_in code = only_if (nat_lt code 1000) code

abbrev pub read_by : ResponseShape → List Field → Option Answered
read_by r lines = do
  framing ← response_framing r.framing r.length
  minor ← minor_in r.minor
  status ← code_in r.code
  Some (record { status = status; minor = minor; lines = lines; framing = framing })

-- a call filled it, and read a response
abbrev pub was_read : ResponseShape → Bool
was_read r = r.status == 65 && are_zero r.reserved

unfoldable pub answered_by : ResponseShape → List Field → Option Answered
answered_by r lines = if was_read r then read_by r lines else None
