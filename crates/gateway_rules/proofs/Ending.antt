-- The texts in front of each LF.
use Rattle.std.proofs.Common.{◌≡◌, ◌==◌, ℕ, Bool, true, false, cond, List, [], ◌∷◌, ◌++◌, refl, ap, sym, map, append_assoc, ◌∙◌, Option, Some, None, is_some, Bor, get_or}
use Rattle.std.specs.Prelude.{not, ◌&&◌}
use Rattle.std.specs.List.{list_all}
use Rattle.std.specs.Option.{option_map_or}
use Rattle.std.proofs.lemmas.List.Sums.{AllPass-from_list_all}
use Rattle.std.proofs.lemmas.List.Splits.{slice_split_at}
use Rattle.rules_ffi.specs.Keys.{ended}
use Rattle.std.proofs.lemmas.List.{map-append}
use Rattle.std.specs.List.{slice_split, onto_first}
use Rattle.http1_message_parts.specs.Lines.{lines_of}
use Rattle.gateway_rules.specs.Requests.{all_but_last, ended_lines, is_key}

pub record HasFirst (lines : List (List ℕ)) : Type 0 where
  pub line : List ℕ
  pub more : List (List ℕ)
  pub is : lines ≡ line ∷ more

onto : (b : ℕ) (lines : List (List ℕ)) → HasFirst (onto_first b lines)
onto b [] = record { line = b ∷ []; more = []; is = refl }
onto b (line ∷ lines) = record { line = b ∷ line; more = lines; is = refl }

-- a text has a line, if an empty one
has_first : (p : ℕ → Bool) (text : List ℕ) → HasFirst (slice_split p text)
has_first p [] = record { line = []; more = []; is = refl }
has_first p (b ∷ text) = go (p b)
  where
    go : (t : Bool) → HasFirst (cond t ([] ∷ slice_split p text) (onto_first b (slice_split p text)))
    go true = record { line = []; more = slice_split p text; is = refl }
    go false = onto b (slice_split p text)

not_last : (line : List ℕ) (lines : List (List ℕ)) → HasFirst lines → all_but_last (line ∷ lines) ≡ line ∷ all_but_last lines
not_last line lines h = rw h.is refl

-- a line that a LF ends, and those behind it
pub one_ended : (text line rest : List ℕ) → lines_of text ≡ line ∷ lines_of rest → ended_lines text ≡ line ∷ ended_lines rest
one_ended text line rest e = ap all_but_last e ∙ not_last line (lines_of rest) (has_first (λ b. b == 10) rest)

-- a line that is added to those that were found, and what is left behind it
pub push_line : {V : Type 0} (view : V → List ℕ) (lines new : List V) (v : V) (line : List ℕ) (rest : Option (Bor (List ℕ))) (text : List ℕ) (whole : List (List ℕ))
    → lines_of text ≡ line ∷ option_map_or (λ r. lines_of r.now) rest [] → is_some rest ≡ true → view v ≡ line → new ≡ lines ++ (v ∷ [])
    → map view lines ++ ended_lines text ≡ whole → map view new ++ option_map_or (λ r. ended_lines r.now) rest [] ≡ whole
push_line view lines new v line None text whole e some is added so_far = cc
push_line view lines new v line (Some r) text whole e some is added so_far =
    rw (added, map-append, append_assoc) (rw is (ap (λ (t : List (List ℕ)). map view lines ++ t) (sym (one_ended text line r.now e)) ∙ so_far))

is_no_end : (t : Bool) → not t ≡ true → t ≡ false
is_no_end true h = cc
is_no_end false h = refl

-- a line that a LF ends
line_at : (line more : List ℕ) → is_key line ≡ true → lines_of (line ++ (10 ∷ more)) ≡ line ∷ lines_of more
line_at line more h =
    slice_split_at (λ b. b == 10) line 10 more (λ k d lt. is_no_end (get_or line k d == 10) (AllPass-from_list_all (λ b. not (b == 10)) line h k d lt)) refl

both : (a b : Bool) → (a && b) ≡ true → (a ≡ true) × (b ≡ true)
both true b h = (refl, h)
both false b h = cc

lines_back : (keys : List (List ℕ)) → list_all is_key keys ≡ true → lines_of (ended keys) ≡ keys ++ ([] ∷ [])
lines_back [] h = refl
lines_back (k ∷ keys) h =
    let all = both (is_key k) (list_all is_key keys) h in
    ap lines_of (append_assoc k (10 ∷ []) (ended keys)) ∙ line_at k (ended keys) all.0 ∙ ap (λ (t : List (List ℕ)). k ∷ t) (lines_back keys all.1)

front_back : (keys : List (List ℕ)) → all_but_last (keys ++ ([] ∷ [])) ≡ keys
front_back [] = refl
front_back (k ∷ []) = refl
front_back (k ∷ l ∷ keys) = ap (λ (t : List (List ℕ)). k ∷ t) (front_back (l ∷ keys))

pub read_back : (keys : List (List ℕ)) → list_all is_key keys ≡ true → ended_lines (ended keys) ≡ keys
read_back keys h = ap all_but_last (lines_back keys h) ∙ front_back keys
