-- Responses that vary by fields of the request (RFC 9111, 4.1): the index of their sets stands under a first key, and each response under the second key
-- by its set.
use Rattle.std.specs.Prelude.{ℕ, zero, Bool, true, false, ◌==◌, if◌then◌else◌, List, [], map, length, Option, Some, None, option_map}
use Rattle.rules_ffi_arguments.specs.Given.{◌>>=◌}
use Rattle.rules_ffi_arguments.specs.Options.{lists_in, chosen_by}
use Rattle.rules_ffi_arguments.specs.Spans.{lines_in}
use Rattle.rules_fields.specs.Types.{Asked as Request, Chosen}
use Rattle.rules_ffi_arguments.specs.Requests.{asked_by}
use Rattle.rules_ffi_arguments.specs.declared.shapes.Moment.{Moment}
use Rattle.rules_ffi_arguments.specs.declared.shapes.MetaShape.{MetaShape}
use Rattle.rules_ffi_arguments.specs.declared.shapes.KeptShape.{KeptShape}
use Rattle.rules_ffi.specs.Sets.{sets_of}
use Rattle.rules_ffi.specs.Lists.{second_key, listed_in}
use Rattle.gateway_rules.specs.Options.{Options}
use Rattle.gateway_rules.specs.Values.{Asked, Came, text_of}
use Rattle.gateway_rules.specs.declared.varying.VaryIndex.{VaryIndex}

-- one for each set of an index, in their order
abbrev pub keys_by : Request → Chosen → List ℕ → List (List ℕ)
keys_by request chosen index = map (second_key request chosen) (sets_of index)

-- the second keys of a request by an index
unfoldable pub keys_in : Options → Asked → List ℕ → Option (List (List ℕ))
keys_in o q index = do
  lists ← lists_in o.words
  chosen ← chosen_by o.numbers lists
  lines ← lines_in q.0 q.1.lines
  request ← asked_by q.1 q.0 lines chosen.scheme
  Some (keys_by request chosen index)

-- the index under which a response is stored, what is said of it, and the place of the response's set in it; whether it is to be put under the first key
pub record IndexValue : Type 0 where
  pub head : List ℕ
  pub meta : MetaShape
  pub body : List ℕ
  pub place : ℕ
  pub is_new : Bool

abbrev pub index_of : VaryIndex → IndexValue
index_of v = record { head = v.head.items; meta = v.meta; body = v.body.items; place = v.place; is_new = v.is_new }

-- a new one has the response's set in front
abbrev pub new_index : List ℕ → KeptShape → IndexValue
new_index text told = record { head = text_of text told.head; meta = told.meta; body = text_of text told.body; place = 0; is_new = true }

abbrev pub same_index : List ℕ → KeptShape → IndexValue
same_index index told = record { head = []; meta = told.meta; body = index; place = told.place; is_new = false }

-- 68: there is a new one; else the response has its place in that which stands, or under the first key where none does
abbrev pub index_told : List ℕ → List ℕ × KeptShape → Option IndexValue
index_told index told =
    if told.1.status == 68 then Some (new_index told.0 told.1) else (if length index == 0 then None else Some (same_index index told.1))

-- where a response is stored, by what stands under the first key at a moment; the token names a new set
abbrev pub indexed_in : Options → Came → Moment → List ℕ → List ℕ → Option (Option IndexValue)
indexed_in o r now index token = option_map (index_told index) (listed_in o.numbers o.words r.1 r.0 now.seconds now.nanoseconds index token)
