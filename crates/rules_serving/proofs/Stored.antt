-- A row that stands as an answer writes it.
use Rattle.std.proofs.Common.{◌≡◌, ℕ, ◌+◌, ◌≤◌, ◌==◌, List, [], ◌∷◌, ◌++◌, refl, sym, ap, ◌∙◌, append_assoc, Bool, true, false, not, ◌&&◌, cond, length, take, drop, reverse, arith}
use Rattle.std.specs.Prelude.{Ok, Err, Some, None}
use Rattle.std.specs.List.{position_or_len}
use Rattle.std.proofs.lemmas.Bool.Decides.{nat_tests}
use Rattle.std.proofs.lemmas.List.{reverse-reverse, length-reverse, take-append-drop, length-take-le}
use Rattle.rules_fields.specs.Texts.{is_blank, skip_blanks, trimmed}
use Rattle.rules_fields.specs.Fields.{Field}
use Rattle.http1_message_parts.specs.Lines.{fault_of, field_from, field_of}
use Rattle.rules_serving.specs.Whole.{StandsAs, behind_colon}

skip_shorter : (text : List ℕ) → length (skip_blanks text) ≤ length text
skip_shorter [] = omega arith
skip_shorter (b ∷ text) = go (is_blank b) (skip_shorter text)
  where
    go : (t : Bool) → length (skip_blanks text) ≤ length text → length (cond t (skip_blanks text) (b ∷ text)) ≤ length (b ∷ text)
    go true h = omega arith
    go false h = omega arith

skip_same : (text : List ℕ) → length text ≤ length (skip_blanks text) → skip_blanks text ≡ text
skip_same [] h = refl
skip_same (b ∷ text) h = go (is_blank b) h
  where
    go : (t : Bool) → length (b ∷ text) ≤ length (cond t (skip_blanks text) (b ∷ text)) → cond t (skip_blanks text) (b ∷ text) ≡ (b ∷ text)
    go true h = let s = skip_shorter text in absurd (omega arith)
    go false h = refl

-- what isn't shorter without its blanks has none
trimmed_same : (text : List ℕ) → length text ≤ length (trimmed text) → trimmed text ≡ text
unfolding trimmed
trimmed_same text h =
    let a = length-reverse (skip_blanks (reverse (skip_blanks text))) in
    let b = skip_shorter (reverse (skip_blanks text)) in
    let d = length-reverse (skip_blanks text) in
    let e = skip_shorter text in
    ap reverse (skip_same (reverse (skip_blanks text)) (omega arith)) ∙ reverse-reverse (skip_blanks text) ∙ skip_same text (omega arith)

trimmed_space : (text : List ℕ) → trimmed (32 ∷ text) ≡ trimmed text
unfolding trimmed
trimmed_space text = refl

parts_are : (before after : List ℕ) (f : Field) → field_from before after ≡ Ok f → (before ≡ f.0) × (f.1 ≡ trimmed (drop 1 after))
parts_are before [] f h = cc
parts_are before (c ∷ v) f h = go _ h
  where
    go : (t : Bool) → cond t (Ok (before, trimmed v)) (Err (fault_of before (c ∷ v))) ≡ Ok f → (before ≡ f.0) × (f.1 ≡ trimmed v)
    go true h = let e : (before, trimmed v) ≡ f = cc in (ap (λ (p : Field). p.0) e, sym (ap (λ (p : Field). p.1) e))
    go false h = cc

at_most : (row : List ℕ) → position_or_len (λ b. b == 58) row ≤ length row
at_most [] = omega arith
at_most (b ∷ row) = go (b == 58) (at_most row)
  where
    go : (t : Bool) → position_or_len (λ b. b == 58) row ≤ length row → cond (not t) (1 + position_or_len (λ b. b == 58) row) 0 ≤ length (b ∷ row)
    go true h = omega arith
    go false h = omega arith

-- the name stands in front of the row
pub name_fits : (row : List ℕ) (f : Field) → field_of row ≡ Ok f → length f.0 ≤ length row
name_fits row f h =
    let n = position_or_len (λ b. b == 58) row in
    let le = at_most row in
    let e = length-take-le n row le in
    let p = parts_are (take n row) (drop n row) f h in
    let k : length f.0 ≡ n = sym (ap length p.0) ∙ e in
    omega (arith, k, le)

-- where a space follows the colon, and as many bytes as the value has
pub stands : (row value : List ℕ) (f : Field) (b : Bool) → field_of row ≡ Ok f → drop (length f.0) row ≡ 58 ∷ 32 ∷ value → (length value == length f.1) ≡ b → StandsAs row f b
stands row value f false h e l = tt {0}
stands row value f true h e l =
    let n = position_or_len (λ b. b == 58) row in
    let le = at_most row in
    let p = parts_are (take n row) (drop n row) f h in
    let k : length f.0 ≡ n = sym (ap length p.0) ∙ length-take-le n row le in
    let after : drop n row ≡ 58 ∷ 32 ∷ value = ap (λ m. drop m row) (sym k) ∙ e in
    let v : f.1 ≡ trimmed value = p.1 ∙ ap (λ (t : List ℕ). trimmed (drop 1 t)) after ∙ trimmed_space value in
    let same : length value ≡ length f.1 = grind (arith, nat_tests) in
    let long : length value ≡ length (trimmed value) = same ∙ ap length v in
    let w : f.1 ≡ value = v ∙ trimmed_same value (omega arith) in
    let whole : row ≡ f.0 ++ (58 ∷ 32 ∷ f.1) = sym (take-append-drop n row) ∙ ap (λ (t : List ℕ). t ++ drop n row) p.0 ∙ ap (λ (t : List ℕ). f.0 ++ t) (after ∙ ap (λ (t : List ℕ). 58 ∷ 32 ∷ t) (sym w)) in
    ap (λ (t : List ℕ). t ++ (13 ∷ 10 ∷ [])) whole ∙ simp append_assoc refl

pub colon_is : (text value : List ℕ) → Some value ≡ behind_colon text → text ≡ 58 ∷ 32 ∷ value
colon_is [] value h = cc
colon_is (b ∷ []) value h = cc
colon_is (b ∷ c ∷ text) value h = go (b == 58) refl (c == 32) refl h
  where
    go : (t : Bool) → (b == 58) ≡ t → (u : Bool) → (c == 32) ≡ u → Some value ≡ cond (t && u) (Some text) None → b ∷ c ∷ text ≡ 58 ∷ 32 ∷ value
    go true e true k h =
        let x : b ≡ 58 = grind (arith, nat_tests) in
        let y : c ≡ 32 = grind (arith, nat_tests) in
        let z : value ≡ text = cc in
        rw (x, y, z) refl
    go true e false k h = cc
    go false e u k h = cc
