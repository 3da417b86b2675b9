-- The parts of a body that a Range names (RFC 9110, 14.1, 14.2). Bytes are numbers: 45 a hyphen.
use Rattle.std.specs.Prelude.{ℕ, ◌+◌, ◌-◌, ◌==◌, min, Bool, false, not, ◌&&◌, ◌||◌, nat_lt, if◌then◌else◌, List, [], ◌∷◌, map, filter, length, take, drop, bytes_eq, codes, Option, Some, None, option_map, option_and_then}
use Rattle.std.specs.List.{list_any}
use Rattle.std.specs.Option.{option_map_or}
use Rattle.rules_fields.specs.Texts.{small}
use Rattle.rules_fields.specs.Numbers.{digits}
use Rattle.rules_fields.specs.Fields.{elements_of}

-- the first and the last byte, or of a suffix its length alone
abbrev pub Spec : Type 0
Spec = Option ℕ × Option ℕ

-- from a byte on, up to a byte where one is named
abbrev pub spec_from : Option ℕ → List ℕ → Option Spec
spec_from None after = None
spec_from (Some a) [] = Some (Some a, None)
spec_from (Some a) (b ∷ after) = option_map (λ n. (Some a, Some n)) (digits (b ∷ after))

-- what stands before the first hyphen, and what follows it
abbrev pub cut_hyphen : List ℕ → List ℕ × Option (List ℕ)
cut_hyphen [] = ([], None)
cut_hyphen (b ∷ text) = if b == 45 then ([], Some text) else (b ∷ (cut_hyphen text).0, (cut_hyphen text).1)

-- `a-b`, `a-` and `-n`
abbrev pub spec_at : List ℕ → List ℕ → Option Spec
spec_at [] after = option_map (λ n. (None, Some n)) (digits after)
spec_at (b ∷ before) after = spec_from (digits (b ∷ before)) after

abbrev pub spec_of : List ℕ → Option Spec
spec_of text = option_and_then (λ after. spec_at (cut_hyphen text).0 after) (cut_hyphen text).1

-- all of them, or none where one is none
abbrev pub every : {A : Type 0} → List (Option A) → Option (List A)
every [] = Some []
every (None ∷ xs) = None
every (Some x ∷ xs) = option_map (λ ys. x ∷ ys) (every xs)

-- what follows `bytes=` in any case of letters, between commas
abbrev pub elements_in : List ℕ → Option (List (List ℕ))
elements_in text = if bytes_eq (small (take 6 text)) (codes "bytes=") then Some (elements_of (drop 6 text)) else None

-- the last byte lies before the first
abbrev pub is_inverted : Spec → Bool
is_inverted spec = option_map_or (λ a. option_map_or (λ b. nat_lt b a) spec.1 false) spec.0 false

-- what a form names of a body of this length: from a byte up to, and without, another
abbrev pub part_at : ℕ → Option ℕ → Option ℕ → ℕ × ℕ
part_at length None last = (length - option_map_or (λ n. n) last 0, length)
part_at length (Some a) last = (a, option_map_or (λ b. min (b + 1) length) last length)

abbrev pub part_of : ℕ → Spec → ℕ × ℕ
part_of length spec = part_at length spec.0 spec.1

abbrev pub is_filled_part : ℕ × ℕ → Bool
is_filled_part p = nat_lt p.0 p.1

-- they have a byte in common
abbrev pub overlap : ℕ × ℕ → ℕ × ℕ → Bool
overlap p q = nat_lt p.0 q.1 && nat_lt q.0 p.1

abbrev pub some_overlap : List (ℕ × ℕ) → Bool
some_overlap [] = false
some_overlap (p ∷ ps) = list_any (overlap p) ps || some_overlap ps

-- there is one at least, and no more than the most, and none is inverted
abbrev pub is_countable : ℕ → List Spec → Bool
is_countable most specs = not (length specs == 0) && not (nat_lt most (length specs)) && not (list_any is_inverted specs)

-- unless two overlap
abbrev pub apart : List (ℕ × ℕ) → Option (List (ℕ × ℕ))
apart parts = if some_overlap parts then None else Some parts

-- the parts, cut to a body of this length, without empty ones; none where the Range doesn't count
abbrev pub parts_of : ℕ → List Spec → Option (List (ℕ × ℕ))
parts_of length specs = apart (filter is_filled_part (map (part_of length) specs))

abbrev pub ranges : List ℕ → ℕ → ℕ → Option (List (ℕ × ℕ))
ranges text length most =
    option_and_then (λ specs. if is_countable most specs then parts_of length specs else None)
    (option_and_then (λ elements. every (map spec_of elements)) (elements_in text))
