-- A tree, and the data that it stands for.
use Rattle.std.proofs.Common.{◌≡◌, ℕ, List, Bool, true, false, ◌&&◌, cond, Option, Some, None, option_map, bytes_eq, refl, sym, ap, ◌∙◌, true≢false, if◌then◌else◌}
use Rattle.std.specs.Prelude.{is_some, option_and_then, Ok, Err}
use Rattle.std.specs.Str.{IsUtf8, is_utf8}
use Rattle.std.proofs.lemmas.Str.{is_utf8-from_IsUtf8, IsUtf8-from_is_utf8}
use Rattle.std.proofs.lemmas.Slice.Eq.{bytes_eq-Decides}
use Rattle.json.specs.Json as json
use Rattle.json.specs.Find as trees
use Rattle.serde_json.specs.Data.{Num, Data, number, array, object, Items, item, Members, no_members, put}
use Rattle.serde_json.specs.Find.{get, get_member, as_bool, as_number, as_str, as_u64}
use Rattle.serde_json.specs.Read.{number_of, of_json, of_items, of_members, read}
use Rattle.serde_json.proofs.Views.{get_member-put, get_member-put_other}
use Rattle.trace_lines.specs.Lines.{or_refused, json_of}
use Rattle.trace_lines.specs.declared.line.Refusal.TheVariants.{NotJson}
use Rattle.trace_lines.specs.Trees.{tree_of, num_or_none, data_of, items_of, members_of, in_range, items_in_range, members_in_range}

number_is : (n : Option Num) → option_map number n ≡ (if is_some n then Some (number (num_or_none n)) else None)
number_is None = refl
number_is (Some n) = refl

pub mapped_twice : {A B C : Type 0} (f : A → B) (g : B → C) (o : Option A) → option_map (λ a. g (f a)) o ≡ option_map g (option_map f o)
mapped_twice f g None = refl
mapped_twice f g (Some a) = refl

mapped : {A B : Type 0} (f : A → B) (test : Bool) (x : A) → option_map f (if test then Some x else None) ≡ (if test then Some (f x) else None)
mapped f true x = refl
mapped f false x = refl

item_is : (first rest : Bool) (d : Data) (ds : Items) → option_and_then (λ e. option_map (item e) (if rest then Some ds else None)) (if first then Some d else None) ≡ (if first && rest then Some (item d ds) else None)
item_is true true d ds = refl
item_is true false d ds = refl
item_is false rest d ds = refl

member_is : (first rest : Bool) (d : Data) (f : Data → Option Members) (ms : Members) → f d ≡ (if rest then Some ms else None) → option_and_then f (if first then Some d else None) ≡ (if first && rest then Some ms else None)
member_is true rest d f ms is = is
member_is false rest d f ms is = refl

mutual
  -- a tree has data exactly where its numbers are in range
  pub of_json_is : (j : json.Json) → of_json j ≡ (if in_range j then Some (data_of j) else None)
  of_json_is json.null = refl
  of_json_is (json.boolean b) = refl
  of_json_is (json.number s) = number_is (number_of s)
  of_json_is (json.string s) = refl
  of_json_is (json.array js) = ap (option_map array) (of_items_is js) ∙ mapped array (items_in_range js) (items_of js)
  of_json_is (json.object ms) = ap (option_map object) (of_members_is ms no_members) ∙ mapped object (members_in_range ms) (members_of ms no_members)

  of_items_is : (js : json.Items) → of_items js ≡ (if items_in_range js then Some (items_of js) else None)
  of_items_is json.no_items = refl
  of_items_is (json.item j js) = rw (of_items_is js, of_json_is j) (item_is (in_range j) (items_in_range js) (data_of j) (items_of js))

  of_members_is : (ms : json.Members) (found : Members) → of_members ms found ≡ (if members_in_range ms then Some (members_of ms found) else None)
  of_members_is json.no_members found = refl
  of_members_is (json.member k j ms) found =
      ap (option_and_then (λ d. of_members ms (put k d found))) (of_json_is j)
      ∙ member_is (in_range j) (members_in_range ms) (data_of j) (λ d. of_members ms (put k d found)) (members_of ms (put k (data_of j) found)) (of_members_is ms (put k (data_of j) found))

-- the first that is there
abbrev pick : Option json.Json → Option Data → Option Data
pick None later = later
pick (Some j) later = Some (data_of j)

pick_none : (o : Option json.Json) → pick o None ≡ option_map data_of o
pick_none None = refl
pick_none (Some j) = refl

pick_later : (o p : Option json.Json) (r : Option Data) → pick o (pick p r) ≡ pick (trees.later_or o p) r
pick_later None p r = refl
pick_later (Some j) p r = refl

put_is : (same : Bool) (name k : List ℕ) (j : json.Json) (found : Members) → bytes_eq k name ≡ same → get_member name (put k (data_of j) found) ≡ pick (cond same (Some j) None) (get_member name found)
put_is true name k j found is =
    let one : k ≡ name = (bytes_eq-Decides k name).0 is in
    ap (λ n. get_member n (put k (data_of j) found)) (sym one) ∙ get_member-put k (data_of j) found
put_is false name k j found is = get_member-put_other name k (data_of j) found (λ one. absurd (true≢false (sym ((bytes_eq-Decides k name).1 (sym one)) ∙ is)))

get_member_is : (name : List ℕ) (ms : json.Members) (found : Members) → get_member name (members_of ms found) ≡ pick (trees.get_member name ms) (get_member name found)
get_member_is name json.no_members found = refl
get_member_is name (json.member k j ms) found =
    get_member_is name ms (put k (data_of j) found)
    ∙ ap (pick (trees.get_member name ms)) (put_is (bytes_eq k name) name k j found refl)
    ∙ pick_later (trees.get_member name ms) (cond (bytes_eq k name) (Some j) None) (get_member name found)

-- the last member of a name is the one that the data has
pub get_is : (name : List ℕ) (j : json.Json) → get name (data_of j) ≡ option_map data_of (trees.get name j)
get_is name json.null = refl
get_is name (json.boolean b) = refl
get_is name (json.number s) = refl
get_is name (json.string s) = refl
get_is name (json.array js) = refl
get_is name (json.object ms) = get_member_is name ms no_members ∙ pick_none (trees.get_member name ms)

pub as_str_is : (j : json.Json) → as_str (data_of j) ≡ trees.as_str j
as_str_is json.null = refl
as_str_is (json.boolean b) = refl
as_str_is (json.number s) = refl
as_str_is (json.string s) = refl
as_str_is (json.array js) = refl
as_str_is (json.object ms) = refl

pub as_bool_is : (j : json.Json) → as_bool (data_of j) ≡ trees.as_bool j
as_bool_is json.null = refl
as_bool_is (json.boolean b) = refl
as_bool_is (json.number s) = refl
as_bool_is (json.string s) = refl
as_bool_is (json.array js) = refl
as_bool_is (json.object ms) = refl

in_place : (n : Option Num) → as_u64 (num_or_none n) ≡ option_and_then as_u64 n
in_place None = refl
in_place (Some n) = refl

pub as_u64_is : (j : json.Json) → option_and_then as_u64 (as_number (data_of j)) ≡ option_and_then (λ s. option_and_then as_u64 (number_of s)) (trees.as_number j)
as_u64_is json.null = refl
as_u64_is (json.boolean b) = refl
as_u64_is (json.number s) = in_place (number_of s)
as_u64_is (json.string s) = refl
as_u64_is (json.array js) = refl
as_u64_is (json.object ms) = refl

json_of_tree : (bytes : List ℕ) (o : Option json.Json) → IsUtf8 bytes → tree_of bytes ≡ o → json_of bytes ≡ or_refused NotJson (option_and_then of_json o)
json_of_tree bytes o utf8 tree =
    ap (λ (test : Bool). or_refused NotJson (if test then read bytes else None)) (is_utf8-from_IsUtf8 bytes utf8)
    ∙ ap (λ (t : Option json.Json). or_refused NotJson (option_and_then of_json t)) tree

json_of_value : (bytes : List ℕ) (j : json.Json) (test : Bool) → IsUtf8 bytes → tree_of bytes ≡ Some j → in_range j ≡ test → json_of bytes ≡ or_refused NotJson (if test then Some (data_of j) else None)
json_of_value bytes j test utf8 tree range =
    json_of_tree bytes (Some j) utf8 tree ∙ ap (or_refused NotJson) (of_json_is j ∙ ap (λ (t : Bool). if t then Some (data_of j) else None) range)

-- the bytes of a text have the data of its tree, where its numbers are in range
pub json_of_is : (bytes : List ℕ) (j : json.Json) → IsUtf8 bytes → tree_of bytes ≡ Some j → in_range j ≡ true → json_of bytes ≡ Ok (data_of j)
json_of_is bytes j utf8 tree range = json_of_value bytes j true utf8 tree range

pub json_out_of_range : (bytes : List ℕ) (j : json.Json) → IsUtf8 bytes → tree_of bytes ≡ Some j → in_range j ≡ false → json_of bytes ≡ Err NotJson
json_out_of_range bytes j utf8 tree range = json_of_value bytes j false utf8 tree range

pub no_json_of : (bytes : List ℕ) → IsUtf8 bytes → tree_of bytes ≡ None → json_of bytes ≡ Err NotJson
no_json_of bytes utf8 none = json_of_tree bytes None utf8 none

pub no_json_of_bytes : (bytes : List ℕ) → ¬ IsUtf8 bytes → json_of bytes ≡ Err NotJson
no_json_of_bytes bytes none = by (is_utf8 bytes) refl
  where
    by : (test : Bool) → is_utf8 bytes ≡ test → or_refused NotJson (if test then read bytes else None) ≡ Err NotJson
    by true e = absurd (none (IsUtf8-from_is_utf8 bytes e))
    by false e = refl
