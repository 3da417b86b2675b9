-- A list that is written is read back.
use Rattle.std.proofs.Common.{◌≡◌, ℕ, zero, suc, ◌≤◌, List, [], ◌∷◌, ◌++◌, refl, ap, ◌∙◌, append_assoc, Bool, true, false, not, ◌&&◌, ◌==◌, length, get_or, arith}
use Rattle.std.specs.List.{list_all, flat_map}
use Rattle.std.proofs.lemmas.Bool.{ne_eqb}
use Rattle.std.proofs.lemmas.List.Sums.{AllPass-from_list_all}
use Rattle.std.proofs.lemmas.List.Splits.{slice_split_at}
use Rattle.rules_fields.specs.Texts.{is_filled}
use Rattle.http1_message_parts.specs.Lines.{lines_of}
use Rattle.rules_ffi.specs.Sets.{Set, front, behind_front, sets_within, ended, set_text, is_line, is_set}
use Rattle.rules_ffi.proofs.SetSteps.{none_behind, one_behind}

and_first : (a b : Bool) → (a && b) ≡ true → a ≡ true
and_first true b h = refl
and_first false b h = cc

and_second : (a b : Bool) → (a && b) ≡ true → b ≡ true
and_second true b h = h
and_second false b h = cc

not_false : (t : Bool) → not t ≡ true → t ≡ false
not_false true h = cc
not_false false h = refl

-- a line has bytes
has_bytes : (line : List ℕ) → is_line line ≡ true → (length line == 0) ≡ false
has_bytes [] h = cc
has_bytes (b ∷ line) h = ne_eqb (length (b ∷ line)) 0 (λ s. omega (arith, s))

-- a line that a LF ends, and the lines behind it
line_at : (line more : List ℕ) → is_line line ≡ true → lines_of (line ++ (10 ∷ more)) ≡ line ∷ lines_of more
line_at line more h =
    slice_split_at (λ b. b == 10) line 10 more
    (λ k d lt. not_false (get_or line k d == 10) (AllPass-from_list_all (λ b. not (b == 10)) line (and_second (is_filled line) (list_all (λ b. not (b == 10)) line) h) k d lt)) refl

-- names that LFs end, and the lines behind them
names_at : (names : List (List ℕ)) (more : List ℕ) → list_all is_line names ≡ true → lines_of (ended names ++ more) ≡ names ++ lines_of more
names_at [] more h = refl
names_at (n ∷ names) more h =
    ap lines_of (append_assoc (n ++ (10 ∷ [])) (ended names) more ∙ append_assoc n (10 ∷ []) (ended names ++ more))
    ∙ line_at n (ended names ++ more) (and_first (is_line n) (list_all is_line names) h)
    ∙ ap (λ (t : List (List ℕ)). n ∷ t) (names_at names more (and_second (is_line n) (list_all is_line names) h))

-- a set's text, and the lines behind it
set_at : (s : Set) (more : List ℕ) → is_set s ≡ true → lines_of (set_text s ++ more) ≡ s.token ∷ (s.names ++ ([] ∷ lines_of more))
set_at s more h =
    ap lines_of
    (append_assoc ((s.token ++ (10 ∷ [])) ++ ended s.names) (10 ∷ []) more ∙ append_assoc (s.token ++ (10 ∷ [])) (ended s.names) (10 ∷ more)
    ∙ append_assoc s.token (10 ∷ []) (ended s.names ++ (10 ∷ more)))
    ∙ line_at s.token (ended s.names ++ (10 ∷ more)) (and_first (is_line s.token) (list_all is_line s.names) h)
    ∙ ap (λ (t : List (List ℕ)). s.token ∷ t) (names_at s.names (10 ∷ more) (and_second (is_line s.token) (list_all is_line s.names) h))

-- names end at the first empty line
front_of : (names more : List (List ℕ)) → list_all is_line names ≡ true → front (names ++ ([] ∷ more)) ≡ names
front_of [] more h = refl
front_of (n ∷ names) more h =
    rw (has_bytes n (and_first (is_line n) (list_all is_line names) h)) (ap (λ (t : List (List ℕ)). n ∷ t) (front_of names more (and_second (is_line n) (list_all is_line names) h)))

behind_of : (names more : List (List ℕ)) → list_all is_line names ≡ true → behind_front (names ++ ([] ∷ more)) ≡ more
behind_of [] more h = refl
behind_of (n ∷ names) more h =
    rw (has_bytes n (and_first (is_line n) (list_all is_line names) h)) (behind_of names more (and_second (is_line n) (list_all is_line names) h))

-- the texts of no more sets than are read, read back
pub read_back : (most : ℕ) (sets : List Set) → list_all is_set sets ≡ true → length sets ≤ most → sets_within most (lines_of (flat_map set_text sets)) ≡ sets
read_back most [] h l = none_behind most [] [] refl
read_back zero (s ∷ sets) h l = absurd (omega (arith, l))
read_back (suc most) (s ∷ sets) h l =
    let own = and_first (is_set s) (list_all is_set sets) h in
    let named = and_second (is_line s.token) (list_all is_line s.names) own in
    let left = lines_of (flat_map set_text sets) in
    ap (sets_within (suc most)) (set_at s (flat_map set_text sets) own)
    ∙ one_behind most s.token (s.names ++ ([] ∷ left)) (has_bytes s.token (and_first (is_line s.token) (list_all is_line s.names) own))
    ∙ ap (λ (ns : List (List ℕ)). record { token = s.token; names = ns } ∷ sets_within most (behind_front (s.names ++ ([] ∷ left)))) (front_of s.names left named)
    ∙ ap (λ (t : List (List ℕ)). s ∷ sets_within most t) (behind_of s.names left named)
    ∙ ap (λ (t : List Set). s ∷ t) (read_back most sets (and_second (is_set s) (list_all is_set sets) h) (omega (arith, l)))
