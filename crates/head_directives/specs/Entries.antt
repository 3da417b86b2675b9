-- What a clause sees of the code's maps: each name with its value.
use Rattle.std.specs.Prelude.{ℕ, List, map, Option, option_map}
use Rattle.head_directives.specs.Written.{Written}
use Rattle.std.specs.List.{AllByRecursion}
use Rattle.head_directives.specs.Names.{name_of, IsOwnKey}
use Rattle.head_directives.specs.declared.key.DirectiveKey.{DirectiveKey}
use Rattle.head_directives.specs.declared.value.DirectiveValue.{DirectiveValue}

abbrev pub value_bytes : Option DirectiveValue → Option (List ℕ)
value_bytes value = option_map (λ v. v.0.items) value

abbrev pub entry_of : DirectiveKey × Option DirectiveValue → Written
entry_of e = (name_of e.0, value_bytes e.1)

abbrev pub entries_of : List (DirectiveKey × Option DirectiveValue) → List Written
entries_of entries = map entry_of entries

-- each named directive is its own variant
abbrev pub HasOwnKeys : List (DirectiveKey × Option DirectiveValue) → Type 0
HasOwnKeys entries = AllByRecursion (λ e. IsOwnKey e.0) entries
