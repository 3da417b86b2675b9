-- The codings that are asked for, of those that an operator lists (RFC 9110, 12.4.2, 12.5.3). Bytes are numbers: 46 a dot, 48 to 57 digits, 59 `;`.
use Rattle.std.specs.Prelude.{ℕ, Bool, true, false, not, ◌&&◌, ◌||◌, ◌==◌, nat_lt, if◌then◌else◌, List, [], ◌∷◌, length, take, drop, filter, find, codes, bytes_eq}
use Rattle.std.specs.List.{list_all, list_any, position_or_len, fold}
use Rattle.std.specs.Option.{option_map_or}
use Rattle.std.specs.Char.{is_ascii_digit}
use Rattle.rules_fields.specs.Texts.{trimmed, small}
use Rattle.rules_fields.specs.Fields.{Field, elements}
use Rattle.http1_message.specs.Cookies.{joined_to}

-- the name of an element, in small letters: what stands before the first `;`
abbrev pub element_name : List ℕ → List ℕ
element_name element = small (trimmed (take (position_or_len (λ b. b == 59) element) element))

-- an element names a coding: `x-gzip` is gzip (8.4.1.3)
abbrev pub names : List ℕ → List ℕ → Bool
names coding element = bytes_eq (element_name element) coding || (bytes_eq coding (codes "gzip") && bytes_eq (element_name element) (codes "x-gzip"))

-- at most three digits behind a dot, of which behind a 1 each is a 0
abbrev pub is_fraction : ℕ → List ℕ → Bool
is_fraction first [] = true
is_fraction first (dot ∷ digits) =
    dot == 46 && not (nat_lt 3 (length digits)) && list_all (λ b. if first == 48 then is_ascii_digit b else b == 48) digits

-- a weight that can be read, and is above 0
abbrev pub is_above_zero : List ℕ → Bool
is_above_zero [] = false
is_above_zero (first ∷ rest) =
    (first == 48 || first == 49) && is_fraction first rest && list_any (λ b. nat_lt 48 b) (first ∷ rest)

-- what follows `q=`, in any case
abbrev pub is_wanted_by : List ℕ → Bool
is_wanted_by parameter = bytes_eq (small (take 2 parameter)) (codes "q=") && is_above_zero (drop 2 parameter)

-- nothing behind the name, or a weight above 0
abbrev pub is_wanted_behind : List ℕ → Bool
is_wanted_behind [] = true
is_wanted_behind (mark ∷ parameter) = is_wanted_by (trimmed parameter)

abbrev pub is_wanted : List ℕ → Bool
is_wanted element = is_wanted_behind (drop (position_or_len (λ b. b == 59) element) element)

-- the first element that names a coding says whether it is admitted, else the first `*`
abbrev pub admits_any : List (List ℕ) → Bool
admits_any elements = option_map_or is_wanted (find (names (codes "*")) elements) false

abbrev pub admits : List (List ℕ) → List ℕ → Bool
admits elements coding = option_map_or is_wanted (find (names coding) elements) (admits_any elements)

-- those of the list that the lines admit, in its order
abbrev pub encodings_of : List (List ℕ) → List Field → List ℕ
encodings_of list lines = fold (joined_to (codes ", ")) [] (filter (admits (elements (codes "accept-encoding") lines)) list)
