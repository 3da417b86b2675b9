-- The directives of a Cache-Control (RFC 9111, 5.2). Bytes are numbers: 34 a quote, 44 a comma, 61 `=`, 92 a backslash.
use Rattle.std.specs.Prelude.{ℕ, zero, suc, Bool, true, false, ◌||◌, ◌==◌, if◌then◌else◌, List, [], ◌∷◌, length, take, drop, Option, Some, None, option_map, option_and_then, unwrap_or}
use Rattle.std.specs.Option.{option_map_or}
use Rattle.std.specs.List.{position_or_len, cons_option, flat_map}
use Rattle.rules_fields.specs.Texts.{skip_blanks, trimmed, small, is_filled}
use Rattle.rules_fields.specs.Fields.{Field, all, cut}
use Rattle.rules_fields.specs.Meaning.{Meaning}

-- one more byte of a quoted text
abbrev pub onto : ℕ → Option (List ℕ × List ℕ) → Option (List ℕ × List ℕ)
onto b None = None
onto b (Some q) = Some (b ∷ q.0, q.1)

-- what stands before the quote that ends a quoted text, without its escapes, and what follows that quote
abbrev pub quoted : Bool → List ℕ → Option (List ℕ × List ℕ)
quoted escaped [] = None
quoted true (b ∷ text) = onto b (quoted false text)
quoted false (b ∷ text) = if b == 34 then Some ([], text) else (if b == 92 then quoted true text else onto b (quoted false text))

-- what follows a comma, and nothing at the end; another byte is neither
abbrev pub at_comma : List ℕ → Option (Option (List ℕ))
at_comma [] = Some None
at_comma (b ∷ text) = if b == 44 then Some (Some text) else None

-- a quoted text that ends before blanks and a comma or the end, and what follows the comma
abbrev pub quoted_value : List ℕ → Option (List ℕ × Option (List ℕ))
quoted_value [] = None
quoted_value (b ∷ text) =
    if b == 34 then option_and_then (λ q. option_map (λ rest. (q.0, rest)) (at_comma (skip_blanks q.1))) (quoted false text) else None

-- the value after `=`, and what follows its comma
unfoldable pub value_at : List ℕ → List ℕ × Option (List ℕ)
value_at text = unwrap_or (quoted_value (skip_blanks text)) (trimmed (cut text).0, (cut text).1)

-- without a name there is no directive
abbrev pub named : List ℕ → Option (List ℕ) → Option Meaning
named name value = if is_filled name then Some (small name, value) else None

-- a name goes up to a comma or `=`
abbrev pub name_len : List ℕ → ℕ
name_len text = position_or_len (λ b. b == 44 || b == 61) text

-- the directive of a name, and what follows its comma
abbrev pub directive_of : List ℕ → List ℕ → Option Meaning × Option (List ℕ)
directive_of name [] = (named name None, None)
directive_of name (b ∷ rest) = if b == 44 then (named name None, Some rest) else (let v = value_at rest in (named name (Some v.0), v.1))

-- the first directive of a text, and what follows its comma
unfoldable pub first_of : List ℕ → Option Meaning × Option (List ℕ)
first_of text = directive_of (trimmed (take (name_len text) text)) (drop (name_len text) text)

-- one after another, at most n
abbrev pub directives_within : ℕ → List ℕ → List Meaning
directives_within zero text = []
directives_within (suc n) text = cons_option (first_of text).0 (option_map_or (λ rest. directives_within n rest) (first_of text).1 [])

-- all of a text: each takes a byte, or is the last
unfoldable pub directives_of : List ℕ → List Meaning
directives_of text = directives_within (suc (length text)) text

-- of all lines of a name, in order
abbrev pub directives : List ℕ → List Field → List Meaning
directives name lines = flat_map directives_of (all name lines)
