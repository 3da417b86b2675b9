-- The keys and items of a dictionary (RFC 8941, 3.1.2, 3.2, 3.3). Bytes: 32 a space, 34 a quote, 42 `*`, 44 a comma, 45 `-`, 46 a dot, 58 a colon, 59 `;`, 61 `=`, 63 `?`, 92 a backslash.
use Rattle.std.specs.Prelude.{ℕ, ◌+◌, Bool, true, false, not, ◌&&◌, ◌||◌, ◌==◌, nat_le, if◌then◌else◌, List, [], ◌∷◌, ◌++◌, take, drop, Option, Some, None, option_map, codes}
use Rattle.std.specs.List.{list_any, position_or_len}
use Rattle.std.specs.Char.{is_ascii_digit, is_ascii_alphabetic, is_ascii_alphanumeric, is_ascii_lowercase}

-- how many bytes in front are all of a kind
abbrev pub run_of : (ℕ → Bool) → List ℕ → ℕ
run_of is_one text = position_or_len (λ b. not (is_one b)) text

abbrev pub starts_with : ℕ → List ℕ → Bool
starts_with wanted [] = false
starts_with wanted (b ∷ text) = b == wanted

abbrev pub skip_spaces : List ℕ → List ℕ
skip_spaces [] = []
skip_spaces (b ∷ text) = if b == 32 then skip_spaces text else b ∷ text

-- the bytes of a key, and of its start
abbrev pub starts_key : ℕ → Bool
starts_key b = is_ascii_lowercase b || b == 42

abbrev pub is_key_byte : ℕ → Bool
is_key_byte b = is_ascii_lowercase b || is_ascii_digit b || b == 95 || b == 45 || b == 46 || b == 42

-- the bytes of a token in an item: those of any token, a colon and a slash
abbrev pub is_token_byte : ℕ → Bool
is_token_byte b = is_ascii_alphanumeric b || list_any (λ c. c == b) (codes "!#$%&'*+-.^_`|~:/")

abbrev pub is_base64_byte : ℕ → Bool
is_base64_byte b = is_ascii_alphanumeric b || b == 43 || b == 47 || b == 61

-- so many digits, and no more than a greatest number of them
abbrev pub is_some_of : ℕ → ℕ → Bool
is_some_of n most = nat_le 1 n && nat_le n most

-- an integer of at most 15 digits, or a decimal of at most 12 and 3, without its sign
abbrev pub unsigned_len : List ℕ → Option ℕ
unsigned_len text =
    let whole = run_of is_ascii_digit text in
    let part = run_of is_ascii_digit (drop (whole + 1) text) in
    if starts_with 46 (drop whole text)
    then (if is_some_of whole 12 && is_some_of part 3 then Some (whole + 1 + part) else None)
    else (if is_some_of whole 15 then Some whole else None)

abbrev pub one_more : Option ℕ → Option ℕ
one_more n = option_map (λ k. k + 1) n

abbrev pub number_len : List ℕ → Option ℕ
number_len [] = None
number_len (b ∷ text) = if b == 45 then one_more (unsigned_len text) else unsigned_len (b ∷ text)

-- up to and with the quote that ends a string: visible bytes and spaces, and a backslash before a quote or a backslash
abbrev pub string_len : Bool → List ℕ → Option ℕ
string_len escaped [] = None
string_len true (b ∷ text) = if b == 34 || b == 92 then one_more (string_len false text) else None
string_len false (b ∷ text) =
    if b == 34 then Some 1
    else (if b == 92 then one_more (string_len true text)
    else (if nat_le 32 b && nat_le b 126 then one_more (string_len false text) else None))

abbrev pub boolean_len : List ℕ → Option ℕ
boolean_len text = if starts_with 48 text || starts_with 49 text then Some 2 else None

abbrev pub base64_len : List ℕ → Option ℕ
base64_len text =
    let n = run_of is_base64_byte text in
    if starts_with 58 (drop n text) then Some (n + 2) else None

-- the length of the item at the front
abbrev pub item_len : List ℕ → Option ℕ
item_len [] = None
item_len (b ∷ text) =
    if b == 34 then one_more (string_len false text)
    else (if is_ascii_alphabetic b || b == 42 then Some (run_of is_token_byte text + 1)
    else (if b == 63 then boolean_len text
    else (if b == 58 then base64_len text else number_len (b ∷ text))))

-- a key, the item after its `=`, and what is left
abbrev pub after_key : List ℕ → List ℕ → Option (List ℕ × Option (List ℕ) × List ℕ)
after_key key [] = Some (key, None, [])
after_key key (b ∷ rest) = if b == 61 then option_map (λ n. (key, Some (take n rest), drop n rest)) (item_len rest) else Some (key, None, b ∷ rest)

abbrev pub pair_at : List ℕ → Option (List ℕ × Option (List ℕ) × List ℕ)
pair_at [] = None
pair_at (b ∷ text) =
    let n = run_of is_key_byte text + 1 in
    if starts_key b then after_key (take n (b ∷ text)) (drop n (b ∷ text)) else None
