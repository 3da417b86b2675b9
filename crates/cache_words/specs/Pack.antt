-- Values as MessagePack: which texts spell a value, and which of them is written.
use Rattle.std.specs.Prelude.{◌≡◌, ℕ, ◌+◌, ◌/◌, ◌%◌, ◌<◌, ◌^◌, pos, nat_abs, List, [], ◌∷◌, ◌++◌, length, slice_index, flat_map, Option, Some, None, IsUtf8}
use Rattle.cache_words.specs.Forms.{Stands, StandsBelow, shortest, numbers, arrays, texts, byte_strings}
use Rattle.cache_words.specs.Spelling.{Spelling, SpellList}
use Rattle.cache_words.specs.Time.{MomentValue, second}
use Rattle.cache_words.specs.Key.{Key}

-- no value
abbrev pub nil : List ℕ
nil = 0xc0 ∷ []

abbrev pub IsNil : List ℕ → Type 0
IsNil text = text ≡ nil

-- a text: how many bytes it has, and they
abbrev pub SpellsText : List ℕ → List ℕ → Type 0
SpellsText bytes text = (head : List ℕ) × Stands texts (length bytes) head × IsUtf8 bytes × (text ≡ head ++ bytes)

abbrev pub text_of : List ℕ → List ℕ
text_of bytes = shortest texts (length bytes) ++ bytes

-- a byte string: how many bytes it has, and they
abbrev pub SpellsBytes : List ℕ → List ℕ → Type 0
SpellsBytes bytes text = (head : List ℕ) × Stands byte_strings (length bytes) head × (text ≡ head ++ bytes)

abbrev pub bytes_of : List ℕ → List ℕ
bytes_of bytes = shortest byte_strings (length bytes) ++ bytes

-- sixteen bytes
abbrev pub IsHash : List ℕ → Type 0
IsHash hash = (length hash ≡ 16) × ((i : ℕ) → slice_index hash i < 256)

-- a hash: an array of 16 numbers below 256
pub record SpellsHash (hash text : List ℕ) : Type 0 where
  pub head : List ℕ
  pub body : List ℕ
  pub sixteen : length hash ≡ 16
  pub array : Stands arrays 16 head
  pub each : SpellList (StandsBelow 256) hash body
  pub parts : text ≡ head ++ body

abbrev pub hash_of : List ℕ → List ℕ
hash_of hash = shortest arrays 16 ++ flat_map (shortest numbers) hash

-- a value, or none
abbrev pub SpellOptional : {X : Type 0} → Spelling X → Spelling (Option X)
SpellOptional P None text = text ≡ nil
SpellOptional P (Some v) text = P v text

abbrev pub optional_text : {X : Type 0} → (X → List ℕ) → Option X → List ℕ
optional_text text_of None = nil
optional_text text_of (Some v) = text_of v

abbrev pub SpellsOptionalHash : Spelling (Option (List ℕ))
SpellsOptionalHash = SpellOptional SpellsHash

abbrev pub optional_hash_of : Option (List ℕ) → List ℕ
optional_hash_of = optional_text hash_of

-- whole seconds and nanoseconds as an instant: what passes a second is carried
abbrev pub carried : ℕ → ℕ → MomentValue
carried s n = record { seconds = pos (s + n / second); nanoseconds = n % second }

-- an instant that isn't before 1970: an array of its seconds and its nanoseconds, which are below 2 ^ 32
pub record SpellsMoment (t : MomentValue) (text : List ℕ) : Type 0 where
  pub head : List ℕ
  pub first : List ℕ
  pub behind : List ℕ
  pub s : ℕ
  pub n : ℕ
  pub array : Stands arrays 2 head
  pub seconds : Stands numbers s first
  pub nanoseconds : Stands numbers n behind
  pub low : n < 2 ^ 32
  pub fits : s + n / second < 2 ^ 63
  pub value : t ≡ carried s n
  pub parts : text ≡ head ++ (first ++ behind)

abbrev pub moment_of : MomentValue → List ℕ
moment_of t = shortest arrays 2 ++ (shortest numbers (nat_abs t.seconds) ++ shortest numbers t.nanoseconds)

abbrev pub SpellsOptionalMoment : Spelling (Option MomentValue)
SpellsOptionalMoment = SpellOptional SpellsMoment

abbrev pub optional_moment_of : Option MomentValue → List ℕ
optional_moment_of = optional_text moment_of

-- a kept key: an array of the primary hash, the variance or no value, and the tag
pub record SpellsKey (k : Key) (text : List ℕ) : Type 0 where
  pub head : List ℕ
  pub first : List ℕ
  pub second : List ℕ
  pub third : List ℕ
  pub array : Stands arrays 3 head
  pub primary : SpellsHash k.primary first
  pub variance : SpellsOptionalHash k.variance second
  pub user_tag : SpellsText k.user_tag third
  pub parts : text ≡ head ++ (first ++ (second ++ third))

abbrev pub key_text_of : Key → List ℕ
key_text_of k = shortest arrays 3 ++ (hash_of k.primary ++ (optional_hash_of k.variance ++ text_of k.user_tag))
