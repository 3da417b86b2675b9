-- The numbers of framings and marks, and structs that tell nothing but their status and what room would do.
use Rattle.std.specs.Prelude.{ℕ, ◌-◌, ◌^◌, Bool, if◌then◌else◌, List, [], ◌∷◌}
use Rattle.rules_fields.specs.declared.types.Framing.{Framing}
use Rattle.rules_fields.specs.declared.types.Framing.TheVariants.{Length, Chunked, Close, HeadLength}
use Rattle.rules_ffi_arguments.specs.declared.shapes.Span.{Span}
use Rattle.rules_ffi_arguments.specs.declared.shapes.Out.{Out}

-- no length
abbrev pub none : ℕ
none = 2 ^ 64 - 1

abbrev pub mark : Bool → ℕ → ℕ
mark holds m = if holds then m else 0

-- a form, and the length that it states
abbrev pub framing_numbers : Framing → ℕ × ℕ
framing_numbers Framing.None = (0, none)
framing_numbers (Length n) = (1, n)
framing_numbers Chunked = (2, none)
framing_numbers Close = (3, none)
framing_numbers (HeadLength n) = (0, n)

abbrev pub nowhere : Span
nowhere = record { from = 0; to = 0 }

abbrev pub blank : ℕ → ℕ → Out
blank status needed = record {
  status = status;
  needed = needed;
  reason = 0;
  code = 0;
  framing = 0;
  length = 0;
  marks = 0;
  choice = 0;
  parts = 0;
  count = 0;
  head = nowhere;
  more = nowhere;
  reserved = 0 ∷ 0 ∷ [];
}
