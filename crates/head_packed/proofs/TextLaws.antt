-- Lines are read as they were written.
use Rattle.std.proofs.Common.{◌≡◌, ℕ, Bool, ◌+◌, ◌-◌, ◌<◌, ◌≤◌, true, false, List, [], ◌∷◌, ◌++◌, length, take, drop, get_or, Some, refl, sym, ap, ◌∙◌, suc, cond, subst, inl, inr, append_assoc, length-append, arith, zero-le}
use Rattle.std.specs.Prelude.{flat_map, Option, None, MatchOption, IfNone}
use Rattle.std.specs.List.{AllByRecursion}
use Rattle.std.proofs.Math.ListN.{get_or-append}
use Rattle.std.proofs.Math.Seq.{get_or-append_seam, drop-append-add, drop-append_seam, take-append_seam}
use Rattle.std.proofs.lemmas.List.{take_rest}
use Rattle.std.proofs.lemmas.Bool.{cases_lt, eq-eqb, eqb-true, ne_eqb}
use Rattle.http_header.specs.FieldValue.{FieldValue, plain_value}
use Rattle.http_header.specs.HeaderMap.{Entries, append, append_all, pairs, IsHeaderMap}
use Rattle.http_header.specs.Token.{is_token_byte, is_value_byte}
use Rattle.head_metas.proofs.MapLines.{append_all-pairs}
use Rattle.memchr.specs.Find.{IsFirstByte, is_byte}
use Rattle.head_packed.specs.HeadText.{text_line, before, past, past_name, fields_within, fields_in, IsPlainField}
use Rattle.head_packed.specs.Shared.{fields_or}

-- ---- bytes of names and values

no_colon : (b : ℕ) → is_token_byte b ≡ true → b ≡ 58 → ⊥
unfolding is_token_byte
no_colon b h e = let t : false ≡ true = subst (λ (x : ℕ). is_token_byte x ≡ true) e h in cc

no_return : (b : ℕ) → is_value_byte b ≡ true → b ≡ 13 → ⊥
no_return b h e = let t : false ≡ true = subst (λ (x : ℕ). is_value_byte x ≡ true) e h in cc

plain_field : (v : FieldValue) → v.is_sensitive ≡ false → plain_value v.bytes ≡ v
plain_field v h = λ i. record { bytes = v.bytes; is_sensitive = sym h i }

-- ---- where a byte stands

-- a byte that comes after others alone is the first of its kind
first-after : (b : ℕ) (a rest text : List ℕ) (k : ℕ) → IsFirstByte (is_byte b) text (Some k) → text ≡ a ++ b ∷ rest
    → ((i : ℕ) → i < length a → get_or a i 0 ≡ b → ⊥) → k ≡ length a
first-after b a rest text k first is free =
    let at : get_or text (length a) 0 ≡ b = ap (λ (t : List ℕ). get_or t (length a) 0) is ∙ get_or-append_seam a b rest 0 in
    let byte : get_or text k 0 ≡ b = eqb-true _ _ first.1 in
    elim (cases_lt k (length a)) [
      | inl less ↦ absurd (free k less (sym (ap (λ (t : List ℕ). get_or t k 0) is ∙ get_or-append a (b ∷ rest) 0 k less) ∙ byte))
      | inr most ↦ elim (cases_lt (length a) k) [
        | inl more ↦ absurd (first.0.before (length a) (omega arith) more (eq-eqb _ _ at))
        | inr least ↦ omega (arith, most, least)
      ]
    ]

-- the parts of a line
seam : (field : List ℕ × FieldValue) (rest text : List ℕ) → text ≡ text_line field ++ rest → text ≡ field.0 ++ 58 ∷ 32 ∷ (field.1.bytes ++ 13 ∷ 10 ∷ rest)
seam field rest text is =
    is ∙ append_assoc field.0 (58 ∷ 32 ∷ (field.1.bytes ++ 13 ∷ 10 ∷ [])) rest
    ∙ ap (λ (x : List ℕ). field.0 ++ 58 ∷ 32 ∷ x) (append_assoc field.1.bytes (13 ∷ 10 ∷ []) rest)

after : (field : List ℕ × FieldValue) (rest text : List ℕ) (colon : ℕ) → text ≡ text_line field ++ rest → colon ≡ length field.0
    → drop (colon + 2) text ≡ field.1.bytes ++ 13 ∷ 10 ∷ rest
after field rest text colon is at =
    ap (λ (n : ℕ). drop (n + 2) text) at ∙ ap (λ (t : List ℕ). drop (length field.0 + 2) t) (seam field rest text is)
    ∙ drop-append-add field.0 (58 ∷ 32 ∷ (field.1.bytes ++ 13 ∷ 10 ∷ rest)) 2

pub colon-at : (field : List ℕ × FieldValue) (rest text : List ℕ) (k : ℕ) → IsPlainField field → text ≡ text_line field ++ rest
    → IsFirstByte (is_byte 58) text (Some k) → k ≡ length field.0
colon-at field rest text k plain is first =
    first-after 58 field.0 (32 ∷ (field.1.bytes ++ 13 ∷ 10 ∷ rest)) text k first (seam field rest text is)
    (λ i lt e. no_colon (get_or field.0 i 0) (plain.name.0.0.1 i 0 lt) e)

pub end-at : (field : List ℕ × FieldValue) (rest text value : List ℕ) (colon k : ℕ) → IsPlainField field → text ≡ text_line field ++ rest
    → colon ≡ length field.0 → value ≡ drop (colon + 2) text → IsFirstByte (is_byte 13) value (Some k) → k ≡ length field.1.bytes
end-at field rest text value colon k plain is at cut first =
    first-after 13 field.1.bytes (10 ∷ rest) value k first (cut ∙ after field rest text colon is at)
    (λ i lt e. no_return (get_or field.1.bytes i 0) (plain.value i 0 lt) e)

-- ---- lines

-- what is cut out of a line is its field, and what comes after it is the rest
pub line-read : (field : List ℕ × FieldValue) (rest text : List ℕ) (colon end : ℕ) (name : List ℕ) (value : FieldValue) → IsPlainField field
    → text ≡ text_line field ++ rest → colon ≡ length field.0 → end ≡ (length field.0 + 2) + length field.1.bytes → name ≡ take colon text
    → value ≡ plain_value (take (end - (colon + 2)) (drop (colon + 2) text)) → ((name, value) ≡ field) × (drop (end + 2) text ≡ rest)
line-read field rest text colon end name value plain is at ends named valued =
    let first : name ≡ field.0 =
    named ∙ ap (λ (n : ℕ). take n text) at ∙ ap (λ (t : List ℕ). take (length field.0) t) (seam field rest text is)
    ∙ take-append_seam field.0 (58 ∷ 32 ∷ (field.1.bytes ++ 13 ∷ 10 ∷ rest)) in
    let count : (end - (colon + 2)) ≡ length field.1.bytes = omega (arith, at, ends) in
    let second : value ≡ field.1 =
    valued ∙ ap (λ (n : ℕ). plain_value (take n (drop (colon + 2) text))) count
    ∙ ap (λ (t : List ℕ). plain_value (take (length field.1.bytes) t)) (after field rest text colon is at)
    ∙ ap (λ (t : List ℕ). plain_value t) (take-append_seam field.1.bytes (13 ∷ 10 ∷ rest))
    ∙ plain_field field.1 plain.flag in
    let count_front : length (text_line field) ≡ length field.0 + length (58 ∷ 32 ∷ (field.1.bytes ++ 13 ∷ 10 ∷ [])) = length-append field.0 (58 ∷ 32 ∷ (field.1.bytes ++ 13 ∷ 10 ∷ [])) in
    let count_back : length (field.1.bytes ++ 13 ∷ 10 ∷ []) ≡ length field.1.bytes + 2 = length-append field.1.bytes (13 ∷ 10 ∷ []) in
    let whole : end + 2 ≡ length (text_line field) = omega (arith, ends, count_front, count_back) in (
      λ i. (first i, second i),
      ap (λ (n : ℕ). drop n text) whole ∙ ap (λ (t : List ℕ). drop (length (text_line field)) t) is ∙ drop-append_seam (text_line field) rest,
    )

-- a line is taken off the front
pub line-off : (rest : List ℕ) (m more all : Entries FieldValue) (name : List ℕ) (value : FieldValue) (next : ℕ) (left : List (List ℕ × FieldValue))
    → AllByRecursion IsPlainField left → rest ≡ flat_map text_line left → append_all m left ≡ all → (length rest ≡ 0 → ⊥)
    → ((field : List ℕ × FieldValue) (after : List ℕ) → IsPlainField field → rest ≡ text_line field ++ after → ((name, value) ≡ field) × (drop next rest ≡ after))
    → more ≡ append m name value
    → (x : List (List ℕ × FieldValue)) × AllByRecursion IsPlainField x × (take (length rest - next) (drop next rest) ≡ flat_map text_line x) × (append_all more x ≡ all)
line-off rest m more all name value next [] plain is goes some read added = absurd (some (ap (λ (t : List ℕ). length t) is))
line-off rest m more all name value next (field ∷ left) plain is goes some read added =
    let r = read field (flat_map text_line left) plain.0 is in (
      left,
      plain.1,
      take_rest rest next ∙ r.1,
      ap (λ (n : Entries FieldValue). append_all n left) (added ∙ ap (λ (p : List ℕ × FieldValue). append m p.0 p.1) r.0) ∙ goes,
    )

-- where nothing is left, all is read
pub lines-done : (rest : List ℕ) (m all : Entries FieldValue) (left : List (List ℕ × FieldValue)) → rest ≡ flat_map text_line left → append_all m left ≡ all
    → length rest ≡ 0 → m ≡ all
lines-done rest m all [] is goes none = goes
lines-done rest m all (field ∷ left) is goes none =
    let count : length rest ≡ length (text_line field) + length (flat_map text_line left) = ap (λ (t : List ℕ). length t) is ∙ length-append (text_line field) (flat_map text_line left) in
    let count_front : length (text_line field) ≡ length field.0 + length (58 ∷ 32 ∷ (field.1.bytes ++ 13 ∷ 10 ∷ [])) = length-append field.0 (58 ∷ 32 ∷ (field.1.bytes ++ 13 ∷ 10 ∷ [])) in
    absurd (omega (arith, count, count_front, none))

-- ---- the fields that lines say

before-seam : (b : ℕ) (a rest : List ℕ) → ((i : ℕ) → i < length a → get_or a i 0 ≡ b → ⊥) → before b (a ++ b ∷ rest) ≡ a
before-seam b [] rest free = ap (λ (t : Bool). cond t [] (b ∷ before b rest)) (eq-eqb b b refl)
before-seam b (x ∷ a) rest free =
    ap (λ (t : Bool). cond t [] (x ∷ before b (a ++ b ∷ rest))) (ne_eqb x b (free 0 (omega arith)))
    ∙ ap (λ (t : List ℕ). x ∷ t) (before-seam b a rest (λ i less. free (suc i) (omega (arith, less))))

past-seam : (b : ℕ) (a rest : List ℕ) → ((i : ℕ) → i < length a → get_or a i 0 ≡ b → ⊥) → past b (a ++ b ∷ rest) ≡ rest
past-seam b [] rest free = ap (λ (t : Bool). cond t rest (past b rest)) (eq-eqb b b refl)
past-seam b (x ∷ a) rest free =
    ap (λ (t : Bool). cond t (a ++ b ∷ rest) (past b (a ++ b ∷ rest))) (ne_eqb x b (free 0 (omega arith)))
    ∙ past-seam b a rest (λ i less. free (suc i) (omega (arith, less)))

first-line : (x : ℕ) (most text : List ℕ) → (length text ≡ 0 → ⊥)
    → fields_within (x ∷ most) text ≡ (before 58 text, plain_value (before 13 (past_name text))) ∷ fields_within most (drop 1 (past 13 (past_name text)))
first-line x most [] some = absurd (some refl)
first-line x most (b ∷ bs) some = refl

-- the line at the front gives its field
line-field : (x : ℕ) (most : List ℕ) (field : List ℕ × FieldValue) (rest : List ℕ) → IsPlainField field
    → fields_within (x ∷ most) (text_line field ++ rest) ≡ field ∷ fields_within most rest
line-field x most field rest plain =
    let value : List ℕ = field.1.bytes ++ 13 ∷ 10 ∷ rest in
    let text : List ℕ = field.0 ++ 58 ∷ 32 ∷ value in
    let is : text_line field ++ rest ≡ text = seam field rest (text_line field ++ rest) refl in
    let count : length text ≡ length field.0 + length (58 ∷ 32 ∷ value) = length-append field.0 (58 ∷ 32 ∷ value) in
    let no_colons : (i : ℕ) → i < length field.0 → get_or field.0 i 0 ≡ 58 → ⊥ = λ i less e. no_colon (get_or field.0 i 0) (plain.name.0.0.1 i 0 less) e in
    let no_returns : (i : ℕ) → i < length field.1.bytes → get_or field.1.bytes i 0 ≡ 13 → ⊥ = λ i less e. no_return (get_or field.1.bytes i 0) (plain.value i 0 less) e in
    let named : before 58 text ≡ field.0 = before-seam 58 field.0 (32 ∷ value) no_colons in
    let left : past_name text ≡ value = ap (λ (t : List ℕ). drop 1 t) (past-seam 58 field.0 (32 ∷ value) no_colons) in
    let valued : plain_value (before 13 (past_name text)) ≡ field.1 =
    ap (λ (t : List ℕ). plain_value (before 13 t)) left ∙ ap (λ (t : List ℕ). plain_value t) (before-seam 13 field.1.bytes (10 ∷ rest) no_returns) ∙ plain_field field.1 plain.flag in
    let next : drop 1 (past 13 (past_name text)) ≡ rest =
    ap (λ (t : List ℕ). drop 1 (past 13 t)) left ∙ ap (λ (t : List ℕ). drop 1 t) (past-seam 13 field.1.bytes (10 ∷ rest) no_returns) in
    ap (λ (t : List ℕ). fields_within (x ∷ most) t) is ∙ first-line x most text (λ none. omega (arith, none, count))
    ∙ (λ i. (named i, valued i) ∷ fields_within most (next i))

fields-read : (most : List ℕ) (fields : List (List ℕ × FieldValue)) → AllByRecursion IsPlainField fields → length fields ≤ length most
    → fields_within most (flat_map text_line fields) ≡ fields
fields-read [] [] plain enough = refl
fields-read (x ∷ most) [] plain enough = refl
fields-read [] (field ∷ fields) plain enough = absurd (omega (arith, enough))
fields-read (x ∷ most) (field ∷ fields) plain enough =
    line-field x most field (flat_map text_line fields) plain.0
    ∙ ap (λ (l : List (List ℕ × FieldValue)). field ∷ l) (fields-read most fields plain.1 (omega (arith, enough)))

-- a line isn't empty
lines-count : (fields : List (List ℕ × FieldValue)) → length fields ≤ length (flat_map text_line fields)
lines-count [] = zero-le
lines-count (field ∷ fields) =
    let less = lines-count fields in
    let count : length (flat_map text_line (field ∷ fields)) ≡ length (text_line field) + length (flat_map text_line fields) = length-append (text_line field) (flat_map text_line fields) in
    let count_front : length (text_line field) ≡ length field.0 + length (58 ∷ 32 ∷ (field.1.bytes ++ 13 ∷ 10 ∷ [])) = length-append field.0 (58 ∷ 32 ∷ (field.1.bytes ++ 13 ∷ 10 ∷ [])) in
    omega (arith, less, count, count_front)

-- lines of plain fields give these back
pub fields-back : (fields : List (List ℕ × FieldValue)) → AllByRecursion IsPlainField fields → fields_in (flat_map text_line fields) ≡ fields
fields-back fields plain = fields-read (flat_map text_line fields) fields plain (lines-count fields)

-- ---- what is kept

pub kept-fields : {B : Type 0} (fields : B → Entries FieldValue) (whole : Option B) (text : List ℕ) (m : Entries FieldValue)
    → MatchOption whole (AllByRecursion IsPlainField (pairs m)) (λ b. fields b ≡ m) → text ≡ flat_map text_line (pairs m) → IsHeaderMap m
    → fields_or fields whole text ≡ m
kept-fields fields None text m plain is map =
    ap (λ (t : List ℕ). append_all [] (fields_in t)) is ∙ ap (λ (l : List (List ℕ × FieldValue)). append_all [] l) (fields-back (pairs m) plain) ∙ append_all-pairs m map
kept-fields fields (Some b) text m same is map = same

pub kept-plain : {B : Type 0} (whole : Option B) (P : Type 0) (Q : B → Type 0) → MatchOption whole P Q → IfNone whole P
kept-plain None P Q plain = plain
kept-plain (Some b) P Q same = tt
