-- The cookies that an operator keeps (RFC 6265, 4.2.1 and 5.4). Bytes are numbers: 59 `;`, 61 `=`.
use Rattle.std.specs.Prelude.{ℕ, Bool, ◌==◌, if◌then◌else◌, List, [], ◌∷◌, ◌++◌, map, filter, take, codes, bytes_eq, Option, Some, None}
use Rattle.std.specs.List.{list_any, position_or_len, slice_split, flat_map, fold}
use Rattle.rules_fields.specs.Texts.{trimmed, is_filled}
use Rattle.rules_fields.specs.Fields.{Field, all}

-- what stands between `;` in a line of Cookie
abbrev pub crumbs_of : List ℕ → List (List ℕ)
crumbs_of value = map trimmed (slice_split (λ b. b == 59) value)

-- its name, which stands before the first `=`, is one of these, byte by byte
abbrev pub is_kept : List (List ℕ) → List ℕ → Bool
is_kept names crumb = list_any (λ name. bytes_eq name (take (position_or_len (λ b. b == 61) crumb) crumb)) names

-- behind a text, and what stands between both
abbrev pub joined_to : List ℕ → List ℕ → List ℕ → List ℕ
joined_to between text more = (if is_filled text then text ++ between else []) ++ more

-- the cookies of these names, in order, of all lines
abbrev pub cookies_of : List (List ℕ) → List Field → List ℕ
cookies_of names lines = fold (joined_to (codes "; ")) [] (filter (is_kept names) (flat_map crumbs_of (all (codes "cookie") lines)))

-- a line that is written anew, where anything is left of it
abbrev pub made_line : List ℕ → List ℕ → List Field
made_line name text = if is_filled text then (name, text) ∷ [] else []

abbrev pub kept_cookies : Option (List (List ℕ)) → List Field → List ℕ
kept_cookies None lines = []
kept_cookies (Some names) lines = cookies_of names lines
