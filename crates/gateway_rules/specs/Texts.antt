-- A text, and what is told of it.
use Rattle.std.specs.Prelude.{ℕ, List}
use Rattle.rules_ffi_arguments.specs.declared.shapes.Out.{Out}
use Rattle.gateway_rules.specs.declared.sending.Told.{Told}

abbrev pub text_told : Told → List ℕ × Out
text_told t = (t.text.items, t.out)
