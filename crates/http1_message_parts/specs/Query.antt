-- The query of a target as the operator's words leave it (RFC 3986, 3.4). Bytes are numbers: 38 `&`, 42 `*`, 61 `=`, 63 `?`.
use Rattle.std.specs.Prelude.{ℕ, ◌-◌, Bool, not, ◌&&◌, ◌==◌, if◌then◌else◌, List, [], ◌∷◌, ◌++◌, length, take, drop, filter, bytes_eq, Option, Some, None}
use Rattle.std.specs.List.{list_any, position_or_len, slice_split}
use Rattle.std.specs.Option.{option_map_or}
use Rattle.std.specs.Ordering.{is_lt, nat_cmp}
use Rattle.std.specs.Cmp.Lexicographic.{slice_cmp}
use Rattle.rules_fields.specs.Types.{Chosen}

-- the name of a part: what stands before the first `=`, with its percent-codes as they are
abbrev pub part_name : List ℕ → List ℕ
part_name part = take (position_or_len (λ b. b == 61) part) part

-- what stands before a `*` at the end
abbrev pub prefix_of : List ℕ → Option (List ℕ)
prefix_of word = if bytes_eq (drop (length word - 1) word) (42 ∷ []) then Some (take (length word - 1) word) else None

-- a word is this name, or a prefix of it with a `*` behind
abbrev pub names : List ℕ → List ℕ → Bool
names word name = option_map_or (λ prefix. bytes_eq (take (length prefix) name) prefix) (prefix_of word) (bytes_eq name word)

abbrev pub is_dropped : List (List ℕ) → List ℕ → Bool
is_dropped words part = list_any (λ word. names word (part_name part)) words

-- the parts between `&` that the operator doesn't drop
abbrev pub kept_parts : List (List ℕ) → List ℕ → List (List ℕ)
kept_parts words query = filter (λ part. not (is_dropped words part)) (slice_split (λ b. b == 38) query)

-- the name of a part is the smaller, byte by byte
abbrev pub goes_before : List ℕ → List ℕ → Bool
goes_before part other = is_lt (slice_cmp nat_cmp (part_name part) (part_name other))

-- a part in front of the first whose name isn't smaller
abbrev pub in_front : List ℕ → List (List ℕ) → List (List ℕ)
in_front part [] = part ∷ []
in_front part (p ∷ ps) = if goes_before p part then p ∷ in_front part ps else part ∷ p ∷ ps

-- in the order of their names; parts of one name stay as they are
abbrev pub in_order : List (List ℕ) → List (List ℕ)
in_order [] = []
in_order (part ∷ parts) = in_front part (in_order parts)

-- the first behind a mark, each other behind `&`
abbrev pub marked : ℕ → List (List ℕ) → List ℕ
marked mark [] = []
marked mark (part ∷ parts) = mark ∷ part ++ marked 38 parts

-- of a query and its `?` what is left of it: where no part is, the `?` goes too
abbrev pub query_left : Chosen → List ℕ → List ℕ
query_left o [] = []
query_left o (mark ∷ query) =
    let parts = kept_parts o.query_drops query in marked 63 (if o.query_sorts then in_order parts else parts)

-- no word speaks of queries
abbrev pub leaves_query : Chosen → Bool
leaves_query o = length o.query_drops == 0 && not o.query_sorts

abbrev pub cut_target : Chosen → List ℕ → List ℕ
cut_target o target = let n = position_or_len (λ b. b == 63) target in take n target ++ query_left o (drop n target)

-- a target as the operator's words leave it
abbrev pub chosen_target : Chosen → List ℕ → List ℕ
chosen_target o target = if leaves_query o then target else cut_target o target
