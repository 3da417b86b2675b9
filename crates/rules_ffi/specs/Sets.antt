-- Sets of Vary: what a list's body has. Bytes are numbers: 10 a LF.
use Rattle.std.specs.Prelude.{ℕ, zero, suc, Bool, not, ◌&&◌, ◌||◌, ◌==◌, nat_lt, if◌then◌else◌, List, [], ◌∷◌, ◌++◌, length, take, bytes_eq}
use Rattle.std.specs.List.{flat_map, list_all, position_or_len}
use Rattle.rules_fields.specs.Texts.{is_filled}
use Rattle.rules_fields.specs.Fields.{Field}
use Rattle.http1_message_parts.specs.Lines.{lines_of}
use Rattle.rules_storage.specs.Selecting.{counting}

-- a token, and the names by which the responses vary that are stored under it
pub record Set : Type 0 where
  pub token : List ℕ
  pub names : List (List ℕ)

-- the lines up to an empty one, and those behind it
abbrev pub front : List (List ℕ) → List (List ℕ)
front [] = []
front (line ∷ lines) = if length line == 0 then [] else line ∷ front lines

abbrev pub behind_front : List (List ℕ) → List (List ℕ)
behind_front [] = []
behind_front (line ∷ lines) = if length line == 0 then lines else behind_front lines

-- a set, by its lines, in front of others; where there is no line there is none, and none behind it
abbrev pub put_set : List (List ℕ) → List Set → List Set
put_set [] sets = []
put_set (token ∷ names) sets = record { token = token; names = names } ∷ sets

-- at most so many sets, each up to an empty line
abbrev pub sets_within : ℕ → List (List ℕ) → List Set
sets_within zero lines = []
sets_within (suc most) lines = put_set (front lines) (sets_within most (behind_front lines))

-- a list's body has one to four sets, newest first; without a list there is none
abbrev pub sets_of : List ℕ → List Set
sets_of list = sets_within 4 (lines_of list)

-- each with a LF behind it
abbrev pub ended : List (List ℕ) → List ℕ
ended names = flat_map (λ name. name ++ (10 ∷ [])) names

-- the place of the set of these names; as many as there are sets where none is
abbrev pub place_of : List (List ℕ) → List Set → ℕ
place_of names sets = position_or_len (λ s. bytes_eq (ended s.names) (ended names)) sets

-- responses that vary by these names have their place: a set, or the first key where there is no list and they vary by nothing
abbrev pub has_place : List (List ℕ) → List Set → Bool
has_place names sets = nat_lt (place_of names sets) (length sets) || (length sets == 0 && length names == 0)

-- the set of these lines isn't in a list
abbrev pub varies : List ℕ → List Field → Bool
varies list lines = not (has_place (counting lines) (sets_of list))

-- two heads vary by the same names
abbrev pub vary_alike : List Field → List Field → Bool
vary_alike lines other = bytes_eq (ended (counting lines)) (ended (counting other))

-- the text of a set: its token, its names, and an empty line
abbrev pub set_text : Set → List ℕ
set_text s = s.token ++ (10 ∷ []) ++ ended s.names ++ (10 ∷ [])

-- a new set in front, and at most three of the others
abbrev pub list_body : List ℕ → List (List ℕ) → List Set → List ℕ
list_body token names sets = set_text (record { token = token; names = names }) ++ flat_map set_text (take 3 sets)

-- it can be a line of a list: it has a byte, and none is a LF
abbrev pub is_line : List ℕ → Bool
is_line line = is_filled line && list_all (λ b. not (b == 10)) line

abbrev pub is_set : Set → Bool
is_set s = is_line s.token && list_all is_line s.names
