-- Items one after the other: which texts spell them, and how they are read.
use Rattle.std.specs.Prelude.{◌≡◌, ℕ, ◌^◌, ◌<◌, Bool, true, false, nat_lt, if◌then◌else◌, List, [], ◌∷◌, Option, None, Result, Ok, Err}
use Rattle.cache_words.specs.declared.pack.fault.PackFault.{PackFault}
use Rattle.cache_words.specs.declared.pack.fault.PackFault.TheVariants.{Short, Kind}
use Rattle.cache_words.specs.Forms.{StandsBelow, arrays}
use Rattle.cache_words.specs.Reading.{◌>>=◌, number_at, below_at}
pub use Rattle.cache_words.specs.Spelling.{Spelling, SpellBoth, SpellItems, SpellList, SpellArray, array_text, SpellUnder, SpellThere}
pub use Rattle.cache_words.specs.Pack.{SpellOptional, optional_text, SpellsOptionalMoment, optional_moment_of}
unfoldable pub use Rattle.cache_words.specs.Reading.{Reader, list_at, optional_at, optional_moment_at}

-- what was read, as another value
abbrev pub seen_as : {X Y : Type 0} → (X → Y) → Result (X × List ℕ) PackFault → Result (Y × List ℕ) PackFault
seen_as view read = read >>= λ x. Ok (view x.0, x.1)

-- an array of values
unfoldable pub array_at : {X : Type 0} → Reader X → Reader (List X)
array_at read bytes = do
  count ← number_at arrays bytes
  list_at read count.0 count.1

-- the one byte that says which value follows
abbrev pub SpellsByte : Spelling ℕ
SpellsByte n text = (n < 128) × (text ≡ n ∷ [])

unfoldable pub byte_at : Reader ℕ
byte_at [] = Err Short
byte_at (b ∷ rest) = if nat_lt b 128 then Ok (b, rest) else Err Kind

-- a value where it is present, and none where it isn't
abbrev pub there_at : {X : Type 0} → Bool → Reader (Option X) → Reader (Option X)
there_at true read bytes = read bytes
there_at false read bytes = Ok (None, bytes)

-- a number of seconds
abbrev pub SpellsSeconds : Spelling ℕ
SpellsSeconds = StandsBelow (2 ^ 32)

abbrev pub seconds_at : Reader ℕ
seconds_at = below_at (2 ^ 32)

-- what a reader returned and left is what reading gives
abbrev pub Steps : {X : Type 0} → (List ℕ → Result (X × List ℕ) PackFault) → List ℕ → List ℕ → Result X PackFault → Type 0
Steps read old new (Ok x) = read old ≡ Ok (x, new)
Steps read old new (Err e) = read old ≡ Err e
