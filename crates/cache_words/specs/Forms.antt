-- The forms of MessagePack that a cache's files and metas have, as the public standard lists them. A form begins with
-- one byte, its tag, and a number after it, high byte first; small numbers are in the first byte itself.
use Rattle.std.specs.Prelude.{◌≡◌, ℕ, ◌+◌, ◌*◌, ◌<◌, ◌^◌, ◌⊎◌, nat_lt, if◌then◌else◌, List, [], ◌∷◌}
use Rattle.std.specs.Int.{Width, w8, w16, w32, w64, byte_len, to_be_bytes}

-- a tag, and the width of the number after it
pub record Form : Type 0 where
  pub tag : ℕ
  pub width : Width

-- how a number of one kind may be written: one below `count` within the first byte, above `first`, or after a tag
pub record Forms : Type 0 where
  pub first : ℕ
  pub count : ℕ
  pub wide : List Form

abbrev pub form : ℕ → Width → Form
form tag width = record { tag = tag; width = width }

-- numbers
abbrev pub numbers : Forms
numbers = record {
  first = 0x00;
  count = 128;
  wide = form 0xcc w8 ∷ form 0xcd w16 ∷ form 0xce w32 ∷ form 0xcf w64 ∷ [];
}

-- how many items an array has
abbrev pub arrays : Forms
arrays = record { first = 0x90; count = 16; wide = form 0xdc w16 ∷ form 0xdd w32 ∷ [] }

-- how many bytes a text has
abbrev pub texts : Forms
texts = record { first = 0xa0; count = 32; wide = form 0xd9 w8 ∷ form 0xda w16 ∷ form 0xdb w32 ∷ [] }

-- how many bytes a byte string has
abbrev pub byte_strings : Forms
byte_strings = record { first = 0x00; count = 0; wide = form 0xc4 w8 ∷ form 0xc5 w16 ∷ form 0xc6 w32 ∷ [] }

-- the numbers below this fit in the width
abbrev pub room : Width → ℕ
room w = 2 ^ (8 * byte_len w)

abbrev pub StandsBehind : List Form → ℕ → List ℕ → Type 0
StandsBehind [] n text = ⊥
StandsBehind (f ∷ fs) n text = ((n < room f.width) × (text ≡ f.tag ∷ to_be_bytes f.width n)) ⊎ StandsBehind fs n text

-- the text is the number in one of its forms
abbrev pub Stands : Forms → ℕ → List ℕ → Type 0
Stands forms n text = ((n < forms.count) × (text ≡ (forms.first + n) ∷ [])) ⊎ StandsBehind forms.wide n text

-- the text is the number, which is below the limit
abbrev pub StandsBelow : ℕ → ℕ → List ℕ → Type 0
StandsBelow limit n text = (n < limit) × Stands numbers n text

abbrev pub shortest_behind : List Form → ℕ → List ℕ
shortest_behind [] n = []
shortest_behind (f ∷ fs) n = if nat_lt n (room f.width) then f.tag ∷ to_be_bytes f.width n else shortest_behind fs n

-- the shortest form of the number
abbrev pub shortest : Forms → ℕ → List ℕ
shortest forms n = if nat_lt n forms.count then (forms.first + n) ∷ [] else shortest_behind forms.wide n
