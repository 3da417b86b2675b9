-- Entity tags and lists of them (RFC 9110, 8.8.3, 13.1.2): 34 a quote, 44 a comma, 47 a slash, 87 `W`.
use Rattle.std.specs.Prelude.{ℕ, ◌+◌, zero, suc, Bool, true, false, ◌&&◌, ◌||◌, ◌==◌, nat_le, if◌then◌else◌, List, [], ◌∷◌, ◌++◌, length, take, drop, Option, Some, None, option_map, option_and_then}
use Rattle.rules_fields.specs.Texts.{is_blank, skip_blanks}
use Rattle.rules_fields.specs.Fields.{Field, all}

-- visible or past ASCII, and no quote
abbrev pub is_tag_byte : ℕ → Bool
is_tag_byte b = b == 33 || (nat_le 35 b && nat_le b 126) || nat_le 128 b

-- bytes of a tag, and a quote at the end
abbrev pub ends_quoted : List ℕ → Bool
ends_quoted [] = false
ends_quoted (b ∷ text) = if b == 34 then length text == 0 else is_tag_byte b && ends_quoted text

abbrev pub is_quoted : List ℕ → Bool
is_quoted [] = false
is_quoted (b ∷ text) = b == 34 && ends_quoted text

-- whether it is weak, and its text with its quotes
abbrev pub quoted_tag : Bool → List ℕ → Option (Bool × List ℕ)
quoted_tag weak text = if is_quoted text then Some (weak, text) else None

abbrev pub tag_of : List ℕ → Option (Bool × List ℕ)
tag_of [] = None
tag_of (b ∷ []) = None
tag_of (b ∷ c ∷ text) = if b == 87 && c == 47 then quoted_tag true text else quoted_tag false (b ∷ c ∷ text)

-- a tag: whether it is weak, and its text with its quotes
abbrev pub TagValue : Type 0
TagValue = Bool × List ℕ

-- how long a quoted text is behind its first quote, with its last
abbrev pub quoted_len : List ℕ → Option ℕ
quoted_len [] = None
quoted_len (b ∷ text) = if b == 34 then Some 1 else (if is_tag_byte b then option_map (λ n. n + 1) (quoted_len text) else None)

-- the tag at the front, and what follows it
abbrev pub quoted_at : Bool → List ℕ → Option (TagValue × List ℕ)
quoted_at weak [] = None
quoted_at weak (b ∷ text) =
    if b == 34 then option_map (λ n. ((weak, take (n + 1) (b ∷ text)), drop (n + 1) (b ∷ text))) (quoted_len text) else None

abbrev pub tag_at : List ℕ → Option (TagValue × List ℕ)
tag_at [] = None
tag_at (b ∷ []) = None
tag_at (b ∷ c ∷ text) = if b == 87 && c == 47 then quoted_at true text else quoted_at false (b ∷ c ∷ text)

-- without blanks and commas in front
abbrev pub skip_commas : List ℕ → List ℕ
skip_commas [] = []
skip_commas (b ∷ text) = if is_blank b || b == 44 then skip_commas text else b ∷ text

-- what follows a tag: the end, or blanks and a comma, and what is behind further ones
abbrev pub behind_comma : List ℕ → Option (List ℕ)
behind_comma [] = Some []
behind_comma (b ∷ text) = if b == 44 then Some (skip_commas text) else None

-- one tag after another, at most n
abbrev pub tags_within : ℕ → List TagValue → List ℕ → Option (List TagValue)
tags_within zero found text = None
tags_within (suc n) found [] = Some found
tags_within (suc n) found (b ∷ text) =
    option_and_then (λ t. option_and_then (λ rest. tags_within n (found ++ t.0 ∷ []) rest) (behind_comma (skip_blanks t.1))) (tag_at (b ∷ text))

-- those of a list, behind others: each takes a byte, so that all are read
unfoldable pub more_tags : List TagValue → List ℕ → Option (List TagValue)
more_tags found value = tags_within (length value + 1) found (skip_commas value)

abbrev pub tags_over : List TagValue → List (List ℕ) → Option (List TagValue)
tags_over found [] = Some found
tags_over found (value ∷ values) = option_and_then (λ more. tags_over more values) (more_tags found value)

-- the tags of a list over all lines of a name. No tag has a blank, so that each line is a list of its own
abbrev pub tags_of : List ℕ → List Field → Option (List TagValue)
tags_of name lines = tags_over [] (all name lines)
