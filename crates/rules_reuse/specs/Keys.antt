-- The first key of what is stored (RFC 9111, 2). Bytes are numbers: 37 is `%`.
use Rattle.std.specs.Prelude.{ℕ, ◌+◌, ◌*◌, Bool, false, ◌&&◌, ◌||◌, ◌==◌, if◌then◌else◌, List, [], ◌∷◌, ◌++◌, codes}
use Rattle.std.specs.Char.{is_ascii_hexdigit, is_ascii_alphanumeric, to_ascii_uppercase, digit_value}
use Rattle.rules_fields.specs.Types.{Chosen}

-- a letter, a digit, `-`, `.`, `_` or `~` (RFC 3986, 2.3)
abbrev pub is_unreserved : ℕ → Bool
is_unreserved b = is_ascii_alphanumeric b || b == 45 || b == 46 || b == 95 || b == 126

-- the byte that two digits of base 16 say
abbrev pub coded : ℕ → ℕ → ℕ
coded high low = 16 * digit_value high + digit_value low

-- a percent-code of an unreserved byte is that byte, another has large digits (RFC 3986, 6.2.2)
abbrev pub plain_code : ℕ → ℕ → List ℕ
plain_code high low =
    if is_unreserved (coded high low) then coded high low ∷ [] else 37 ∷ to_ascii_uppercase high ∷ to_ascii_uppercase low ∷ []

-- a percent and two digits of base 16
abbrev pub is_code : ℕ → ℕ → ℕ → Bool
is_code a b c = a == 37 && is_ascii_hexdigit b && is_ascii_hexdigit c

-- a text with each of its percent-codes so
abbrev pub folded : List ℕ → List ℕ
folded [] = []
folded (a ∷ []) = a ∷ []
folded (a ∷ b ∷ []) = a ∷ b ∷ []
folded (a ∷ b ∷ c ∷ text) = if is_code a b c then plain_code b c ++ folded text else a ∷ folded (b ∷ c ∷ text)

-- a percent-code stands in front
abbrev pub starts_code : List ℕ → Bool
starts_code [] = false
starts_code (a ∷ []) = false
starts_code (a ∷ b ∷ []) = false
starts_code (a ∷ b ∷ c ∷ text) = is_code a b c

-- a target as it counts in a key
abbrev pub as_keyed : Chosen → List ℕ → List ℕ
as_keyed o target = if o.folds_percent then folded target else target

-- scheme, `://`, host and target
abbrev pub key_of : List ℕ → List ℕ → List ℕ → Chosen → List ℕ
key_of scheme host target o = scheme ++ codes "://" ++ host ++ as_keyed o target
