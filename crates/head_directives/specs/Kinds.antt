-- The bytes that a search for directives distinguishes. It takes more than RFC 9110, 5.6.2 and 5.6.3 allow.
use Rattle.std.specs.Prelude.{ℕ, Bool, ◌==◌, ◌||◌, ◌&&◌, not, nat_lt, codes}
use Rattle.std.specs.List.{list_any}

-- white space: tab, LF, VT, FF, CR, space; the RFC has tab and space
abbrev pub is_space : ℕ → Bool
is_space b = (nat_lt 8 b && nat_lt b 14) || b == 32

-- what separates directives: a comma, and a semicolon, which the RFC does not have
abbrev pub is_separator : ℕ → Bool
is_separator b = b == 44 || b == 59

-- a byte of a token: no control byte, no space, no delimiter; the RFC has none from 128 on
unfoldable pub is_token : ℕ → Bool
is_token b = not (nat_lt b 33 || b == 127 || list_any (λ c. c == b) (codes "()<>@,;:\\\"/[]?={}"))
