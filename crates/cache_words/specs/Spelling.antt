-- Which texts spell values that come one after the other.
use Rattle.std.specs.Prelude.{◌≡◌, ℕ, Bool, true, false, List, [], ◌∷◌, ◌++◌, length, flat_map, Option, None}
use Rattle.cache_words.specs.Forms.{Stands, shortest, arrays}

-- which texts spell a value
abbrev pub Spelling : Type 0 → Type 1
Spelling X = X → List ℕ → Type 0

-- a value, and another after it
abbrev pub SpellBoth : {X Y : Type 0} → Spelling X → Spelling Y → Spelling (X × Y)
SpellBoth P Q v text = (first : List ℕ) × (second : List ℕ) × P v.0 first × Q v.1 second × (text ≡ first ++ second)

-- the items of an array of this length
abbrev pub SpellItems : {X : Type 0} → ℕ → Spelling X → Spelling X
SpellItems count P v text = (head : List ℕ) × (items : List ℕ) × Stands arrays count head × P v items × (text ≡ head ++ items)

-- the values of a list, one after the other
abbrev pub SpellList : {X : Type 0} → Spelling X → Spelling (List X)
SpellList P [] text = text ≡ []
SpellList P (v ∷ vs) text = (first : List ℕ) × (others : List ℕ) × P v first × SpellList P vs others × (text ≡ first ++ others)

-- an array of the values of a list
abbrev pub SpellArray : {X : Type 0} → Spelling X → Spelling (List X)
SpellArray P vs text = SpellItems (length vs) (SpellList P) vs text

-- the array that is written, by the text of each value
abbrev pub array_text : {X : Type 0} → (X → List ℕ) → List X → List ℕ
array_text text_of vs = shortest arrays (length vs) ++ flat_map text_of vs

-- one byte that says which value follows, below 0x80
abbrev pub SpellUnder : {X : Type 0} → ℕ → Spelling X → Spelling X
SpellUnder tag P v text = (rest : List ℕ) × P v rest × (text ≡ tag ∷ rest)

-- a value where it is present, and none where it isn't
abbrev pub SpellThere : {X : Type 0} → Bool → Spelling (Option X) → Spelling (Option X)
SpellThere true P v text = P v text
SpellThere false P v text = (v ≡ None) × (text ≡ [])
