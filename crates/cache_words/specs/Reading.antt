-- Reading MessagePack from left to right, with the first fault that is met.
use Rattle.std.specs.Prelude.{◌≡◌, ℕ, zero, suc, ◌+◌, ◌-◌, ◌/◌, ◌^◌, Bool, ◌&&◌, ◌==◌, nat_lt, nat_le, if◌then◌else◌, List, [], ◌∷◌, length, take, drop, Option, Some, None, Result, Ok, Err}
use Rattle.std.specs.Int.{Width, byte_len, from_be_bytes}
use Rattle.std.specs.Str.{is_utf8}
use Rattle.cache_words.specs.declared.pack.fault.PackFault.{PackFault}
use Rattle.cache_words.specs.declared.pack.fault.PackFault.TheVariants.{Short, Kind, Range, Utf8, Length}
use Rattle.cache_words.specs.Forms.{Form, Forms, numbers, arrays, texts, byte_strings}
use Rattle.cache_words.specs.Pack.{carried}
use Rattle.cache_words.specs.Time.{MomentValue, second}
use Rattle.cache_words.specs.Key.{Key}

infixl 10 ◌>>=◌
abbrev pub ◌>>=◌ : {A B : Type 0} → Result A PackFault → (A → Result B PackFault) → Result B PackFault
(Ok x) >>= f = f x
(Err e) >>= f = Err e

-- what a reader returned, seen by view, is what reading gives
abbrev pub Gives : {X Y : Type 0} → (X → Y) → Result X PackFault → Result Y PackFault → Type 0
Gives view (Ok x) read = read ≡ Ok (view x)
Gives view (Err e) read = read ≡ Err e

-- the value at the front, and the bytes after it
abbrev pub Reader : Type 0 → Type 0
Reader X = List ℕ → Result (X × List ℕ) PackFault

-- so many values, one after the other
unfoldable pub list_at : {X : Type 0} → Reader X → ℕ → Reader (List X)
list_at read zero bytes = Ok ([], bytes)
list_at read (suc n) bytes = do
  first ← read bytes
  others ← list_at read n first.1
  Ok (first.0 ∷ others.0, others.1)

-- a value, or none
unfoldable pub optional_at : {X : Type 0} → Reader X → Reader (Option X)
optional_at read [] = Err Short
optional_at read (b ∷ rest) =
    if b == 0xc0 then Ok (None, rest)
    else read (b ∷ rest) >>= λ x. Ok (Some x.0, x.1)

-- a number of some width, and the bytes after it
abbrev pub wide_at : Width → List ℕ → Result (ℕ × List ℕ) PackFault
wide_at w bytes =
    if nat_lt (length bytes) (byte_len w) then Err Short
    else Ok (from_be_bytes w (take (byte_len w) bytes), drop (byte_len w) bytes)

-- the number after the tag b
abbrev pub behind_at : List Form → ℕ → List ℕ → Result (ℕ × List ℕ) PackFault
behind_at [] b rest = Err Kind
behind_at (f ∷ fs) b rest = if b == f.tag then wide_at f.width rest else behind_at fs b rest

-- the byte b has a number within it
abbrev pub is_within : Forms → ℕ → Bool
is_within forms b = nat_le forms.first b && nat_lt b (forms.first + forms.count)

-- a number in one of its forms: the first byte decides
unfoldable pub number_at : Forms → List ℕ → Result (ℕ × List ℕ) PackFault
number_at forms [] = Err Short
number_at forms (b ∷ rest) = if is_within forms b then Ok (b - forms.first, rest) else behind_at forms.wide b rest

-- a number below the limit
unfoldable pub below_at : ℕ → List ℕ → Result (ℕ × List ℕ) PackFault
below_at limit bytes = do
  n ← number_at numbers bytes
  if nat_lt n.0 limit then Ok n else Err Range

-- an array of one length: the bytes after its head
unfoldable pub array_of_at : ℕ → List ℕ → Result (List ℕ) PackFault
array_of_at count bytes = do
  n ← number_at arrays bytes
  if n.0 == count then Ok n.1 else Err Length

-- so many bytes, and those after them
unfoldable pub front_at : ℕ → List ℕ → Result (List ℕ × List ℕ) PackFault
front_at n bytes = if nat_lt (length bytes) n then Err Short else Ok (take n bytes, drop n bytes)

unfoldable pub bytes_at : List ℕ → Result (List ℕ × List ℕ) PackFault
bytes_at bytes = do
  n ← number_at byte_strings bytes
  front_at n.0 n.1

unfoldable pub text_at : List ℕ → Result (List ℕ × List ℕ) PackFault
text_at bytes = do
  n ← number_at texts bytes
  t ← front_at n.0 n.1
  if is_utf8 t.0 then Ok t else Err Utf8

unfoldable pub nil_at : List ℕ → Result (List ℕ) PackFault
nil_at [] = Err Short
nil_at (b ∷ rest) = if b == 0xc0 then Ok rest else Err Kind

-- n numbers below 256
abbrev pub each_at : ℕ → Reader (List ℕ)
each_at = list_at (below_at 256)

unfoldable pub hash_at : List ℕ → Result (List ℕ × List ℕ) PackFault
hash_at bytes = do
  rest ← array_of_at 16 bytes
  each_at 16 rest

abbrev pub optional_hash_at : Reader (Option (List ℕ))
optional_hash_at = optional_at hash_at

unfoldable pub moment_at : List ℕ → Result (MomentValue × List ℕ) PackFault
moment_at bytes = do
  rest ← array_of_at 2 bytes
  s ← number_at numbers rest
  n ← below_at (2 ^ 32) s.1
  if nat_lt (s.0 + n.0 / second) (2 ^ 63) then Ok (carried s.0 n.0, n.1) else Err Range

abbrev pub optional_moment_at : Reader (Option MomentValue)
optional_moment_at = optional_at moment_at

unfoldable pub key_at : List ℕ → Result (Key × List ℕ) PackFault
key_at bytes = do
  rest ← array_of_at 3 bytes
  primary ← hash_at rest
  variance ← optional_hash_at primary.1
  tag ← text_at variance.1
  Ok (record { primary = primary.0; variance = variance.0; user_tag = tag.0 }, tag.1)
