-- What a directive says.
use Rattle.std.specs.Prelude.{ℕ, List, map, Option, option_map}
use Rattle.rules_fields.specs.Texts.{small}
use Rattle.rules_fields.specs.declared.directive.Text.{Text}
use Rattle.rules_fields.specs.declared.directive.Text.TheVariants.{Lent, Owned}
use Rattle.rules_fields.specs.declared.directive.Directive.{Directive}

-- the bytes of a text, wherever it lies
abbrev pub text_bytes : Text → List ℕ
text_bytes (Lent text) = text.now
text_bytes (Owned text) = text.items

-- a name in small letters, and a value without quotes and escapes
abbrev pub Meaning : Type 0
Meaning = List ℕ × Option (List ℕ)

abbrev pub meaning : Directive → Meaning
meaning d = (small (text_bytes d.name), option_map text_bytes d.value)

abbrev pub meanings : List Directive → List Meaning
meanings ds = map meaning ds
