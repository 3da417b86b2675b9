-- Lists of variants, and the second keys by them. Bytes are numbers: 10 a LF.
use Rattle.std.specs.Prelude.{ℕ, pos, Bool, not, ◌&&◌, nat_lt, if◌then◌else◌, List, [], ◌∷◌, ◌++◌, length, map, codes, ◌==◌, Option, Some}
use Rattle.std.specs.List.{position_or_len}
use Rattle.rules_fields.specs.Texts.{small}
use Rattle.rules_fields.specs.Types.{Asked, Chosen}
use Rattle.rules_reuse.specs.Keys.{key_of}
use Rattle.rules_storage.specs.Selecting.{counting}
use Rattle.rules_reuse.specs.Variants.{secondary}
use Rattle.rules_response.specs.Reply.{Piece}
use Rattle.rules_ffi_arguments.specs.Given.{◌>>=◌, only_if}
use Rattle.rules_ffi_arguments.specs.Rooms.{behind}
use Rattle.rules_ffi_arguments.specs.Options.{lists_in, chosen_by}
use Rattle.rules_ffi_arguments.specs.Spans.{lines_in}
use Rattle.rules_ffi_arguments.specs.Requests.{asked_by}
use Rattle.rules_ffi_arguments.specs.Responses.{answered_by}
use Rattle.rules_ffi_arguments.specs.Moments.{moment_in}
use Rattle.rules_ffi_arguments.specs.Stored.{meta_of}
use Rattle.rules_ffi_arguments.specs.declared.shapes.OptionNumbers.{OptionNumbers}
use Rattle.rules_ffi_arguments.specs.declared.shapes.RequestShape.{RequestShape}
use Rattle.rules_ffi_arguments.specs.declared.shapes.ResponseShape.{ResponseShape}
use Rattle.rules_ffi_arguments.specs.declared.shapes.KeptShape.{KeptShape}
use Rattle.rules_ffi_results.specs.Keeping.{unkept}
use Rattle.rules_ffi_results.specs.Numbers.{blank}
use Rattle.rules_ffi_results.specs.Parts.{befores, part_shapes}
use Rattle.rules_ffi_results.specs.Sending.{Answered}
use Rattle.rules_ffi.specs.Sets.{Set, ended, sets_of, place_of, has_place, list_body}

-- the first key and the token, each with a LF behind it, and the values of the names in small letters
abbrev pub second_key : Asked → Chosen → Set → List ℕ
second_key a o s = ended (key_of a.scheme a.host a.target o ∷ s.token ∷ []) ++ secondary (map small s.names) a.lines

-- one for each set, in their order
abbrev pub keys_of : Asked → List ℕ → Chosen → List Piece
keys_of a list o = map (λ s. record { before = second_key a o s; from = 0; to = Some 0 }) (sets_of list)

abbrev pub told_keys : List Piece → Answered
told_keys keys = record {
  text = befores keys;
  told = record (blank 67 0) { count = length keys };
  parts = part_shapes 0 keys;
}

unfoldable pub second_keys_in : OptionNumbers → List ℕ → RequestShape → List ℕ → List ℕ → Option Answered
second_keys_in n words q text list = do
  lists ← lists_in words
  o ← chosen_by n lists
  lines ← lines_in text q.lines
  request ← asked_by q text lines o.scheme
  Some (told_keys (keys_of request list o))

-- what a list is made with: a token of 8 to 64 bytes, none of them a LF
abbrev pub is_token : List ℕ → Bool
is_token token =
    position_or_len (λ b. b == 10) token == length token && not (nat_lt (length token) 8) && not (nat_lt 64 (length token))

abbrev pub list_head : List ℕ
list_head = codes "HTTP/1.1 600 List" ++ (13 ∷ 10 ∷ 13 ∷ 10 ∷ [])

-- the new list, fresh for a year
abbrev pub new_list : List ℕ → List (List ℕ) → List Set → ℕ → List ℕ × KeptShape
new_list token names sets now = (
  list_head ++ list_body token names sets,
  record (unkept 68 0) {
    varies = 1;
    meta = meta_of (pos now) 31536000 0 0;
    head = behind 0 list_head;
    body = behind (length list_head) (list_body token names sets);
  },
)

-- where responses of these names have their place there is none to write
abbrev pub list_or : List (List ℕ) → List Set → List ℕ → ℕ → List ℕ × KeptShape
list_or names sets token now =
    if has_place names sets then ([], record (unkept 67 0) { place = place_of names sets }) else new_list token names sets now

unfoldable pub listed_in : OptionNumbers → List ℕ → ResponseShape → List ℕ → ℕ → ℕ → List ℕ → List ℕ → Option (List ℕ × KeptShape)
listed_in n words r text seconds nanoseconds old token = do
  lists ← lists_in words
  o ← chosen_by n lists
  lines ← lines_in text r.lines
  response ← answered_by r lines
  now ← moment_in seconds nanoseconds
  only_if (is_token token) (list_or (counting response.lines) (sets_of old) token now)
