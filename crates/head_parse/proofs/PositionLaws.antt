-- A head ends with an empty line, so no head ends where none came.
use Rattle.std.proofs.Common.{◌≡◌, ℕ, ◌+◌, ◌-◌, ◌<◌, ◌≤◌, true, false, List, [], ◌∷◌, ◌++◌, length, take, drop, refl, ap, sym, ◌∙◌, subst, arith, inl, inr, append_assoc, length-append, get_or}
use Rattle.std.specs.Prelude.{◌≢◌, ◌==◌, Bool, codes, slice_range}
use Rattle.std.proofs.lemmas.Bool.{cases_lt, cases_Bool}
use Rattle.std.proofs.lemmas.List.{take_more, take_all, length-drop}
use Rattle.std.proofs.Math.Seq.{take-append-add, take-append_seam, take-add}
use Rattle.httparse.specs.Grammar.{LineEnd, crlf, lf, print_end, print_blank, print_version, Field, print_field, print_section, print_reason, ResponseHead, HasNoResponse, print_response}
use Rattle.head_parse.specs.declared.position.Position.{Position}
use Rattle.head_parse.specs.declared.position.Position.TheVariants.{BeforeText, InLine, LineStart, AfterReturn, AfterEmptyLine}
use Rattle.head_parse.specs.Positions.{position_after_byte, position_after}
use Rattle.head_parse.proofs.ReadingLaws.{read_front}

pub after-append : (p : Position) (xs ys : List ℕ) → position_after p (xs ++ ys) ≡ position_after (position_after p xs) ys
after-append p [] ys = refl
after-append p (x ∷ xs) ys = after-append (position_after_byte p x) xs ys

-- text came
abbrev has_text : Position → Bool
has_text BeforeText = false
has_text _ = true

abbrev is_start : Position → Bool
is_start LineStart = true
is_start AfterEmptyLine = true
is_start _ = false

start-text : (p : Position) → is_start p ≡ true → has_text p ≡ true
start-text BeforeText e = cc
start-text InLine e = cc
start-text LineStart e = refl
start-text AfterReturn e = cc
start-text AfterEmptyLine e = refl

text-line : (b : ℕ) → has_text (position_after_byte LineStart b) ≡ true
text-line b = elim (cases_Bool (b == 10)) [
  | inl t ↦ rw t refl
  | inr f ↦ elim (cases_Bool (b == 13)) [ inl t ↦ rw (f, t) refl | inr g ↦ rw (f, g) refl ]
]

text-byte : (p : Position) (b : ℕ) → has_text p ≡ true → has_text (position_after_byte p b) ≡ true
text-byte BeforeText b t = cc
text-byte InLine b t = elim (cases_Bool (b == 10)) [ inl y ↦ rw y refl | inr n ↦ rw n refl ]
text-byte LineStart b t = text-line b
text-byte AfterReturn b t = elim (cases_Bool (b == 10)) [ inl y ↦ rw y refl | inr n ↦ rw n refl ]
text-byte AfterEmptyLine b t = text-line b

text-bytes : (p : Position) (xs : List ℕ) → has_text p ≡ true → has_text (position_after p xs) ≡ true
text-bytes p [] t = t
text-bytes p (x ∷ xs) t = text-bytes (position_after_byte p x) xs (text-byte p x t)

-- a letter is text
letter : (p : Position) → has_text (position_after_byte p 72) ≡ true
letter BeforeText = refl
letter InLine = refl
letter LineStart = refl
letter AfterReturn = refl
letter AfterEmptyLine = refl

feed-start : (p : Position) → has_text p ≡ true → is_start (position_after_byte p 10) ≡ true
feed-start BeforeText t = cc
feed-start InLine t = refl
feed-start LineStart t = refl
feed-start AfterReturn t = refl
feed-start AfterEmptyLine t = refl

end-start : (p : Position) (e : LineEnd) → has_text p ≡ true → is_start (position_after p (print_end e)) ≡ true
end-start p crlf t = feed-start (position_after_byte p 13) (text-byte p 13 t)
end-start p lf t = feed-start p t

end-empty : (p : Position) (e : LineEnd) → is_start p ≡ true → position_after p (print_end e) ≡ AfterEmptyLine
end-empty BeforeText e s = cc
end-empty InLine e s = cc
end-empty LineStart crlf s = refl
end-empty LineStart lf s = refl
end-empty AfterReturn e s = cc
end-empty AfterEmptyLine crlf s = refl
end-empty AfterEmptyLine lf s = refl

field-start : (p : Position) (f : Field) → has_text p ≡ true → is_start (position_after p (print_field f)) ≡ true
field-start p f t =
    subst (λ (q : Position). is_start q ≡ true) (sym (after-append p (f.name ++ 58 ∷ f.raw) (print_end f.end)))
    (end-start (position_after p (f.name ++ 58 ∷ f.raw)) f.end (text-bytes p (f.name ++ 58 ∷ f.raw) t))

section-end : (p : Position) (fields : List Field) (last : LineEnd) → is_start p ≡ true → position_after p (print_section fields last) ≡ AfterEmptyLine
section-end p [] last s = end-empty p last s
section-end p (f ∷ fields) last s =
    ap (position_after p) (append_assoc (print_field f) _ (print_end last)) ∙ after-append p (print_field f) (print_section fields last)
    ∙ section-end (position_after p (print_field f)) fields last (field-start p f (start-text p s))

text-append : (p : Position) (xs ys : List ℕ) → has_text (position_after p xs) ≡ true → has_text (position_after p (xs ++ ys)) ≡ true
text-append p xs ys t = subst (λ (q : Position). has_text q ≡ true) (sym (after-append p xs ys)) (text-bytes (position_after p xs) ys t)

version-text : (p : Position) (minor : ℕ) → has_text (position_after p (print_version minor)) ≡ true
version-text p minor = text-bytes (position_after_byte p 72) (codes "TTP/1." ++ (48 + minor) ∷ []) (letter p)

-- a head up to the end of its first line
abbrev before_end : ResponseHead → List ℕ
before_end h = print_blank h.blank ++ print_version h.minor ++ 32 ∷ h.digits ++ print_reason h.reason

before-text : (h : ResponseHead) → has_text (position_after BeforeText (before_end h)) ≡ true
before-text h =
    let version : has_text (position_after BeforeText (print_blank h.blank ++ print_version h.minor)) ≡ true =
    subst (λ (q : Position). has_text q ≡ true) (sym (after-append BeforeText (print_blank h.blank) (print_version h.minor))) (version-text (position_after BeforeText (print_blank h.blank)) h.minor) in
    text-append BeforeText (print_blank h.blank ++ print_version h.minor ++ 32 ∷ h.digits) (print_reason h.reason)
    (text-append BeforeText (print_blank h.blank ++ print_version h.minor) (32 ∷ h.digits) version)

head-parts : (h : ResponseHead) → print_response h ≡ before_end h ++ print_end h.line_end ++ print_section h.fields h.last
unfolding print_response
head-parts h = refl

-- after a head comes an empty line
pub head-end : (h : ResponseHead) → position_after BeforeText (print_response h) ≡ AfterEmptyLine
head-end h =
    let first : is_start (position_after BeforeText (before_end h ++ print_end h.line_end)) ≡ true =
    subst (λ (q : Position). is_start q ≡ true) (sym (after-append BeforeText (before_end h) (print_end h.line_end))) (end-start (position_after BeforeText (before_end h)) h.line_end (before-text h)) in
    ap (position_after BeforeText) (head-parts h) ∙ after-append BeforeText (before_end h ++ print_end h.line_end) (print_section h.fields h.last)
    ∙ section-end (position_after BeforeText (before_end h ++ print_end h.line_end)) h.fields h.last first

-- no head stands in no bytes
pub nothing-has-none : HasNoResponse []
nothing-has-none h rest reads =
    let none : print_response h ≡ [] = empty (print_response h) rest (sym reads.1) in
    let e : BeforeText ≡ AfterEmptyLine = sym (ap (position_after BeforeText) none) ∙ head-end h in
    cc
  where
    empty : (xs ys : List ℕ) → xs ++ ys ≡ [] → xs ≡ []
    empty [] ys e = refl
    empty (x ∷ xs) ys e = absurd cc

-- none ends in more bytes after which no empty line came
pub more-has-none : (bytes more : List ℕ) → HasNoResponse bytes → ((n : ℕ) → 0 < n → n ≤ length more → position_after (position_after BeforeText bytes) (take n more) ≢ AfterEmptyLine) → HasNoResponse (bytes ++ more)
more-has-none bytes more none quiet h rest reads =
    elim (cases_lt (length bytes) (length (print_response h))) [
      | inr l ↦ none h _ (read_front bytes more h rest reads l)
      | inl l ↦
          let n : ℕ = length (print_response h) - length bytes in
          let long : length bytes + n ≡ length (print_response h) = omega (arith, l) in
          let front : print_response h ≡ bytes ++ take n more =
          sym (take-append_seam (print_response h) rest) ∙ ap (take (length (print_response h))) (sym reads.1) ∙ ap (λ (k : ℕ). take k (bytes ++ more)) (sym long) ∙ take-append-add bytes more n in
          let fits : n ≤ length more = omega (arith, long, ap length reads.1, length-append bytes more, length-append (print_response h) rest) in
          quiet n (omega (arith, l)) fits (sym (after-append BeforeText bytes (take n more)) ∙ sym (ap (position_after BeforeText) front) ∙ head-end h)
    ]

-- the position after one more byte
pub after-more : (p : Position) (bytes : List ℕ) (i d : ℕ) → i < length bytes → position_after p (take (i + 1) bytes) ≡ position_after_byte (position_after p (take i bytes)) (get_or bytes i d)
after-more p bytes i d l = ap (position_after p) (take_more bytes i d l) ∙ after-append p (take i bytes) (get_or bytes i d ∷ [])

pub quiet-more : (p : Position) (bytes : List ℕ) (i : ℕ) → ((n : ℕ) → 0 < n → n ≤ i → position_after p (take n bytes) ≢ AfterEmptyLine) → position_after p (take (i + 1) bytes) ≢ AfterEmptyLine
    → (n : ℕ) → 0 < n → n ≤ i + 1 → position_after p (take n bytes) ≢ AfterEmptyLine
quiet-more p bytes i quiet this n some l =
    elim (cases_lt i n) [
      | inl more ↦ let e : n ≡ i + 1 = omega (arith, more, l) in subst (λ (k : ℕ). position_after p (take k bytes) ≢ AfterEmptyLine) (sym e) this
      | inr few ↦ quiet n some few
    ]

-- the position after a part of a piece
pub after-part : (p : Position) (bytes part : List ℕ) (q : Position) → p ≡ position_after BeforeText bytes → q ≡ position_after p part → q ≡ position_after BeforeText (bytes ++ part)
after-part p bytes part q e f = f ∙ ap (λ (x : Position). position_after x part) e ∙ sym (after-append BeforeText bytes part)

-- a head whose bytes took another part, after which no empty line came
pub part-has-none : (bytes part : List ℕ) (p : Position) → p ≡ position_after BeforeText bytes → ((n : ℕ) → 0 < n → n ≤ length part → position_after p (take n part) ≢ AfterEmptyLine) → HasNoResponse bytes → HasNoResponse (bytes ++ part)
part-has-none bytes part p e quiet none =
    more-has-none bytes part none (subst (λ (q : Position). (n : ℕ) → 0 < n → n ≤ length part → position_after q (take n part) ≢ AfterEmptyLine) e quiet)

-- one more part of a piece after another
pub taken-more : (bytes piece before after : List ℕ) (m n : ℕ) → before ≡ bytes ++ take m piece → after ≡ before ++ take n (slice_range piece m (length piece)) → after ≡ bytes ++ take (m + n) piece
taken-more bytes piece before after m n e f =
    let rest : slice_range piece m (length piece) ≡ drop m piece = take_all (length piece - m) (drop m piece) (omega (arith, length-drop m piece)) in
    f ∙ ap (λ (x : List ℕ). before ++ take n x) rest ∙ ap (λ (x : List ℕ). x ++ take n (drop m piece)) e ∙ append_assoc bytes (take m piece) (take n (drop m piece)) ∙ ap (λ (x : List ℕ). bytes ++ x) (sym (take-add m n piece))
