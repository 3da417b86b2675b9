-- A request that was read, as its struct tells it.
use Rattle.std.specs.Prelude.{ℕ, Bool, ◌&&◌, ◌==◌, if◌then◌else◌, List, [], ◌∷◌, Option, Some, None}
use Rattle.rules_fields.specs.Fields.{Field}
use Rattle.rules_fields.specs.Types.{Asked}
use Rattle.rules_fields.specs.declared.types.Framing.{Framing}
use Rattle.rules_fields.specs.declared.types.Framing.TheVariants as forms
use Rattle.rules_ffi_arguments.specs.Given.{◌>>=◌, only_if}
use Rattle.rules_ffi_arguments.specs.Spans.{text_in}
use Rattle.rules_ffi_arguments.specs.Options.{has_mark}
use Rattle.rules_ffi_arguments.specs.declared.shapes.RequestShape.{RequestShape}

abbrev pub request_framing : ℕ → ℕ → Option Framing
request_framing form length =
    if form == 0 then Some forms.None else (if form == 1 then Some (forms.Length length) else (if form == 2 then Some forms.Chunked else None))

abbrev pub minor_in : ℕ → Option ℕ
minor_in minor = if minor == 0 then Some 0 else (if minor == 1 then Some 1 else None)

abbrev pub read_by : RequestShape → List ℕ → List Field → List ℕ → Option Asked
read_by q text lines scheme = do
  framing ← request_framing q.framing q.length
  minor ← minor_in q.minor
  method ← text_in text q.method
  host ← text_in text q.host
  target ← text_in text q.target
  Some (record {
    method = method;
    scheme = scheme;
    host = host;
    target = target;
    minor = minor;
    lines = lines;
    framing = framing;
    takes_trailers = has_mark q.marks 2;
  })

-- a call filled it, and read a request: `asked` stands behind `lines`, and is the last
abbrev pub was_read : RequestShape → Bool
was_read q = q.status == 65 && q.asked.from == q.lines.to && q.asked.to == q.whole.to

abbrev pub filled : RequestShape → Option RequestShape
filled q = only_if (was_read q) q

unfoldable pub asked_by : RequestShape → List ℕ → List Field → List ℕ → Option Asked
asked_by q text lines scheme = if was_read q then read_by q text lines scheme else None
