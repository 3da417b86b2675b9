-- What a header line holds: gap, match, gap, match, .. to its end, a lenient reading of RFC 9111, 5.2. Bytes are numbers:
-- 10 LF, 34 a quote, 61 `=`, 92 a backslash.
use Rattle.std.specs.Prelude.{◌≡◌, ℕ, ◌<◌, ◌⊎◌, Bool, true, false, ◌&&◌, ◌==◌, List, [], ◌∷◌, ◌++◌, length, Option, Some, None}
use Rattle.std.specs.List.{AllByRecursion}
use Rattle.head_directives.specs.Kinds.{is_space, is_separator, is_token}
use Rattle.head_directives.specs.Written.{Written}

-- no token goes on here
abbrev pub HasNoToken : List ℕ → Type 0
HasNoToken [] = Unit {0}
HasNoToken (b ∷ bytes) = is_token b ≡ false

-- a longest token run, with what follows it
pub record IsRun (run rest : List ℕ) : Type 0 where
  pub some : 0 < length run
  pub tokens : AllByRecursion (λ b. is_token b ≡ true) run
  pub longest : HasNoToken rest

-- the inside of a quoted text: no quote, but a backslash takes any byte but LF with it
abbrev pub IsInside : Bool → List ℕ → Type 0
IsInside true [] = ⊥
IsInside true (b ∷ bytes) = ((b == 10) ≡ false) × IsInside false bytes
IsInside false [] = Unit {0}
IsInside false (b ∷ bytes) = ((b == 34) ≡ false) × IsInside (b == 92) bytes

-- a closed quoted text, with its quotes
abbrev pub IsQuoted : List ℕ → Type 0
IsQuoted text = (inside : List ℕ) × IsInside false inside × (text ≡ 34 ∷ (inside ++ 34 ∷ []))

-- after a name: `=`, a longest token run or a closed quoted text, and the rest
abbrev pub HasValue : List ℕ → List ℕ → List ℕ → Type 0
HasValue bytes value rest = (bytes ≡ 61 ∷ (value ++ rest)) × (IsRun value rest ⊎ IsQuoted value)

-- the value after a name, and the rest. There is none only where none can be read
abbrev pub IsValueAfter : List ℕ → Option (List ℕ) → List ℕ → Type 0
IsValueAfter bytes None rest = (rest ≡ bytes) × ((value rest : List ℕ) → HasValue bytes value rest → ⊥)
IsValueAfter bytes (Some value) rest = HasValue bytes value rest

-- a directive at the front of bytes, as long as it can be, and the rest
pub record IsDirective (bytes : List ℕ) (d : Written) (rest : List ℕ) : Type 0 where
  pub after : List ℕ
  pub is : bytes ≡ d.0 ++ after
  pub name : IsRun d.0 after
  pub value : IsValueAfter after d.1 rest

abbrev pub IsBlank : List ℕ → Type 0
IsBlank bytes = AllByRecursion (λ b. is_space b ≡ true) bytes

-- before a name: white space, one separator, white space; at a line's very beginning also nothing
abbrev pub IsLead : Bool → List ℕ → Type 0
IsLead first lead =
    ((first ≡ true) × (lead ≡ []))
    ⊎ ((before : List ℕ) × (s : ℕ) × (blank : List ℕ) × (lead ≡ before ++ s ∷ blank) × IsBlank before × (is_separator s ≡ true) × IsBlank blank)

-- a match may begin here
abbrev pub Begins : Bool → List ℕ → Type 0
Begins first bytes =
    (lead : List ℕ) × (b : ℕ) × (rest : List ℕ) × IsLead first lead × (is_token b ≡ true) × (bytes ≡ lead ++ b ∷ rest)

-- no match begins inside the gap, where the rest follows it
abbrev pub IsGap : Bool → List ℕ → List ℕ → Type 0
IsGap first [] rest = Unit {0}
IsGap first (b ∷ gap) rest = (Begins first (b ∷ (gap ++ rest)) → ⊥) × IsGap false gap rest

-- the very beginning goes with the first byte of a gap
abbrev pub is_none_yet : List ℕ → Bool
is_none_yet [] = true
is_none_yet (b ∷ gap) = false

-- gap, match, gap, match, .. to the end
abbrev pub Reads : Bool → List ℕ → List Written → Type 0
Reads first bytes [] = IsGap first bytes []
Reads first bytes (d ∷ ds) =
    (gap : List ℕ) × (lead : List ℕ) × (body : List ℕ) × (rest : List ℕ)
    × (bytes ≡ gap ++ (lead ++ body))
    × IsGap first gap (lead ++ body)
    × IsLead (first && is_none_yet gap) lead
    × IsDirective body d rest
    × Reads false rest ds

-- the directives that a whole line holds, in order
abbrev pub HoldsDirectives : List ℕ → List Written → Type 0
HoldsDirectives line ds = Reads true line ds
