-- What is left of a text behind its first directive is shorter, so none is missed.
use Rattle.std.proofs.Common.{◌≡◌, ℕ, ◌+◌, ◌≤◌, ◌<◌, zero, suc, Bool, true, false, cond, ◌==◌, ◌++◌, List, [], ◌∷◌, length, take, drop, refl, sym, ap, ◌∙◌, arith, append_assoc, length-drop}
use Rattle.std.specs.Prelude.{Option, Some, None, option_map, option_and_then, unwrap_or}
use Rattle.std.specs.Option.{option_map_or}
use Rattle.std.specs.List.{cons_option}
use Rattle.std.specs.Borrow.{Bor}
use Rattle.std.proofs.lemmas.List.{map_push}
use Rattle.rules_fields.specs.Texts.{is_blank, skip_blanks, trimmed}
use Rattle.rules_fields.specs.Fields.{cut}
use Rattle.rules_fields.specs.declared.directive.Directive.{Directive}
use Rattle.rules_fields.specs.Meaning.{Meaning, meaning, meanings}
use Rattle.rules_fields.specs.Directives.{onto, quoted, at_comma, quoted_value, value_at, named, name_len, directive_of, first_of, directives_within, directives_of}

-- a quoted text with more in front of what it says
abbrev pub behind : List ℕ → Option (List ℕ × List ℕ) → Option (List ℕ × List ℕ)
behind front None = None
behind front (Some q) = Some (front ++ q.0, q.1)

pub behind_onto : (front : List ℕ) (b : ℕ) (q : Option (List ℕ × List ℕ)) → behind (front ++ b ∷ []) q ≡ behind front (onto b q)
behind_onto front b None = refl
behind_onto front b (Some q) = ap (λ (t : List ℕ). Some (t, q.1)) (append_assoc front (b ∷ []) q.0)

pub behind_none : (q : Option (List ℕ × List ℕ)) → behind [] q ≡ q
behind_none None = refl
behind_none (Some q) = refl

-- how much is left behind a comma, and that comma
abbrev pub left : Option (List ℕ) → ℕ
left None = 0
left (Some rest) = length rest + 1

blanks_left : (text : List ℕ) → length (skip_blanks text) ≤ length text
blanks_left [] = omega arith
blanks_left (b ∷ text) = go (is_blank b) (blanks_left text)
  where
    go : (t : Bool) → length (skip_blanks text) ≤ length text → length (cond t (skip_blanks text) (b ∷ text)) ≤ length (b ∷ text)
    go true h = omega (arith, h)
    go false h = omega arith

cut_left : (text : List ℕ) → left (cut text).1 ≤ length text
cut_left [] = omega arith
cut_left (b ∷ text) = go (b == 44) (cut_left text)
  where
    go : (t : Bool) → left (cut text).1 ≤ length text → left (cond {A = List ℕ × Option (List ℕ)} t ([], Some text) (b ∷ (cut text).0, (cut text).1)).1 ≤ length (b ∷ text)
    go true h = omega arith
    go false h = omega (arith, h)

abbrev pub after : Option (List ℕ × List ℕ) → ℕ
after None = 0
after (Some q) = length q.1 + 1

after_onto : (b : ℕ) (q : Option (List ℕ × List ℕ)) → after (onto b q) ≡ after q
after_onto b None = refl
after_onto b (Some q) = refl

quoted_left : (escaped : Bool) (text : List ℕ) → after (quoted escaped text) ≤ length text
quoted_left true [] = omega arith
quoted_left false [] = omega arith
quoted_left true (b ∷ text) = let h = quoted_left false text in let e = after_onto b (quoted false text) in omega (arith, h, e)
quoted_left false (b ∷ text) = go (b == 34) (b == 92) (quoted_left true text) (quoted_left false text)
  where
    go : (t u : Bool) → after (quoted true text) ≤ length text → after (quoted false text) ≤ length text → after (cond t (Some ([], text)) (cond u (quoted true text) (onto b (quoted false text)))) ≤ length (b ∷ text)
    go true u h k = omega arith
    go false true h k = omega (arith, h)
    go false false h k = let e = after_onto b (quoted false text) in omega (arith, k, e)

abbrev pub comma_after : Option (Option (List ℕ)) → ℕ
comma_after None = 0
comma_after (Some o) = left o

comma_left : (text : List ℕ) → comma_after (at_comma text) ≤ length text
comma_left [] = omega arith
comma_left (b ∷ text) = go (b == 44)
  where
    go : (t : Bool) → comma_after (cond t (Some (Some text)) None) ≤ length (b ∷ text)
    go true = omega arith
    go false = omega arith

abbrev pub value_after : Option (List ℕ × Option (List ℕ)) → ℕ
value_after None = 0
value_after (Some v) = left v.1

value_comma : (q : Option (List ℕ × List ℕ)) → value_after (option_and_then (λ q. option_map (λ rest. (q.0, rest)) (at_comma (skip_blanks q.1))) q) ≤ after q
value_comma None = omega arith
value_comma (Some q) = go (at_comma (skip_blanks q.1)) (comma_left (skip_blanks q.1))
  where
    go : (o : Option (Option (List ℕ))) → comma_after o ≤ length (skip_blanks q.1) → value_after (option_map (λ rest. (q.0, rest)) o) ≤ length q.1 + 1
    go None h = omega arith
    go (Some rest) h = let k = blanks_left q.1 in omega (arith, h, k)

quoted_value_left : (text : List ℕ) → value_after (quoted_value text) ≤ length text
quoted_value_left [] = omega arith
quoted_value_left (b ∷ text) = go (b == 34)
  where
    go : (t : Bool) → value_after (cond t (option_and_then (λ q. option_map (λ rest. (q.0, rest)) (at_comma (skip_blanks q.1))) (quoted false text)) None) ≤ length (b ∷ text)
    go true = let h = quoted_left false text in let k = value_comma (quoted false text) in omega (arith, h, k)
    go false = omega arith

value_left : (text : List ℕ) → left (value_at text).1 ≤ length text
unfolding value_at
value_left text = go (quoted_value (skip_blanks text)) (quoted_value_left (skip_blanks text))
  where
    go : (o : Option (List ℕ × Option (List ℕ))) → value_after o ≤ length (skip_blanks text) → left (unwrap_or o (trimmed (cut text).0, (cut text).1)).1 ≤ length text
    go None h = cut_left text
    go (Some v) h = let k = blanks_left text in omega (arith, h, k)

directive_left : (name text : List ℕ) → left (directive_of name text).1 ≤ length text
directive_left name [] = omega arith
directive_left name (b ∷ text) = go (b == 44)
  where
    go : (t : Bool) → left (cond {A = Option Meaning × Option (List ℕ)} t (named name None, Some text) (let v = value_at text in (named name (Some v.0), v.1))).1 ≤ length (b ∷ text)
    go true = omega arith
    go false = let h = value_left text in omega (arith, h)

pub first_left : (text : List ℕ) → left (first_of text).1 ≤ length text
unfolding first_of
first_left text =
    let h = directive_left (trimmed (take (name_len text) text)) (drop (name_len text) text) in
    let k = length-drop (name_len text) text in
    omega (arith, h, k)

within_step : (n m : ℕ) → ((rest : List ℕ) → length rest < n → length rest < m → directives_within n rest ≡ directives_within m rest) → (o : Option (List ℕ)) → left o ≤ n → left o ≤ m → option_map_or (λ rest. directives_within n rest) o [] ≡ option_map_or (λ rest. directives_within m rest) o []
within_step n m ih None h k = refl
within_step n m ih (Some rest) h k = ih rest (omega (arith, h)) (omega (arith, k))

-- any number beyond the bytes is as good
within_enough : (n m : ℕ) (text : List ℕ) → length text < n → length text < m → directives_within n text ≡ directives_within m text
within_enough zero m text h k = absurd (omega (arith, h))
within_enough (suc n) zero text h k = absurd (omega (arith, k))
within_enough (suc n) (suc m) text h k =
    let l = first_left text in
    ap (cons_option (first_of text).0) (within_step n m (within_enough n m) (first_of text).1 (omega (arith, l, h)) (omega (arith, l, k)))

rest_step : (n : ℕ) (o : Option (List ℕ)) → left o ≤ n → option_map_or (λ rest. directives_within n rest) o [] ≡ option_map_or directives_of o []
unfolding directives_of
rest_step n None h = refl
rest_step n (Some rest) h = within_enough n (suc (length rest)) rest (omega (arith, h)) (omega arith)

-- the first directive, and those of what follows its comma
pub directives_first : (text : List ℕ) → directives_of text ≡ cons_option (first_of text).0 (option_map_or directives_of (first_of text).1 [])
unfolding directives_of
directives_first text = ap (cons_option (first_of text).0) (rest_step (length text) (first_of text).1 (first_left text))

-- all that is left to find
abbrev pub to_find : Option (Bor (List ℕ)) → List Meaning
to_find o = option_map_or (λ t. directives_of t.now) o []

abbrev pub bytes_left : Option (Bor (List ℕ)) → ℕ
bytes_left o = option_map_or (λ t. length t.now + 1) o 0

seen : (o : Option (Bor (List ℕ))) → to_find o ≡ option_map_or directives_of (option_map (λ t. t.now) o) []
seen None = refl
seen (Some t) = refl

found_first : (o : Option Directive) (rest : Option (Bor (List ℕ))) (text : Bor (List ℕ)) → (let first : Option Meaning × Option (List ℕ) = (option_map meaning o, option_map (λ t. t.now) rest) in first ≡ first_of text.now) → directives_of text.now ≡ cons_option (option_map meaning o) (to_find rest)
found_first o rest text e =
    directives_first text.now
    ∙ ap (λ (p : Option Meaning × Option (List ℕ)). cons_option p.0 (option_map_or directives_of p.1 [])) (sym e)
    ∙ ap (cons_option (option_map meaning o)) (sym (seen rest))

-- one directive more is found
pub add_some : (found new : List Directive) (d : Directive) (o : Option Directive) (left rest : Option (Bor (List ℕ))) (text : Bor (List ℕ)) (all : List Meaning) → left ≡ Some text → o ≡ Some d → new ≡ found ++ d ∷ [] → (let first : Option Meaning × Option (List ℕ) = (option_map meaning o, option_map (λ t. t.now) rest) in first ≡ first_of text.now) → meanings found ++ to_find left ≡ all → meanings new ++ to_find rest ≡ all
add_some found new d o left rest text all el eo en e h =
    ap (λ (ds : List Directive). meanings ds ++ to_find rest) en
    ∙ ap (λ (m : List Meaning). m ++ to_find rest) (map_push meaning found d)
    ∙ append_assoc (meanings found) (meaning d ∷ []) (to_find rest)
    ∙ ap (λ (p : Option Directive). meanings found ++ cons_option (option_map meaning p) (to_find rest)) (sym eo)
    ∙ ap (λ (m : List Meaning). meanings found ++ m) (sym (found_first o rest text e))
    ∙ ap (λ (l : Option (Bor (List ℕ))). meanings found ++ to_find l) (sym el)
    ∙ h

-- a piece without a name
pub add_none : (found : List Directive) (o : Option Directive) (left rest : Option (Bor (List ℕ))) (text : Bor (List ℕ)) (all : List Meaning) → left ≡ Some text → o ≡ None → (let first : Option Meaning × Option (List ℕ) = (option_map meaning o, option_map (λ t. t.now) rest) in first ≡ first_of text.now) → meanings found ++ to_find left ≡ all → meanings found ++ to_find rest ≡ all
add_none found o left rest text all el eo e h =
    ap (λ (p : Option Directive). meanings found ++ cons_option (option_map meaning p) (to_find rest)) (sym eo)
    ∙ ap (λ (m : List Meaning). meanings found ++ m) (sym (found_first o rest text e))
    ∙ ap (λ (l : Option (Bor (List ℕ))). meanings found ++ to_find l) (sym el)
    ∙ h

pub smaller : (o : Option Directive) (left rest : Option (Bor (List ℕ))) (text : Bor (List ℕ)) → left ≡ Some text → (let first : Option Meaning × Option (List ℕ) = (option_map meaning o, option_map (λ t. t.now) rest) in first ≡ first_of text.now) → bytes_left rest < bytes_left left
smaller o lefts rest text el e =
    let a : bytes_left lefts ≡ length text.now + 1 = ap bytes_left el in
    let b = first_left text.now in
    let k : left (option_map (λ t. t.now) rest) ≡ left (first_of text.now).1 = ap (λ (p : Option Meaning × Option (List ℕ)). left p.1) e in
    let s = size rest in
    omega (arith, a, b, k, s)
  where
    size : (r : Option (Bor (List ℕ))) → bytes_left r ≡ left (option_map (λ t. t.now) r)
    size None = refl
    size (Some t) = refl
