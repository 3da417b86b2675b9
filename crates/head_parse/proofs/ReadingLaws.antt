-- Readings of responses: a head that the parser's default options read or begin to read has one; what is read whatever more comes.
use Rattle.std.proofs.Common.{◌≡◌, ℕ, ◌≤◌, ◌<◌, true, List, [], ◌++◌, length, map, take, drop, refl, ap, ap₂, sym, ◌∙◌, subst, cond, arith, length-append, append_assoc, append-nil, inl, inr}
use Rattle.std.specs.Prelude.{◌≢◌, ◌==◌, ◌&&◌, ◌||◌, not, false, ◌∷◌, ◌⊎◌, Bool, nat_le, Option, Some, None}
use Rattle.std.proofs.lemmas.Bool.{cases_lt, cases_Bool}
use Rattle.std.proofs.lemmas.List.{take-append-le, take-append-drop}
use Rattle.std.proofs.Math.Seq.{take-append_seam}
use Rattle.head_lines.specs.Lines.{Line, map_of}
use Rattle.head_lines.specs.declared.header.ResponseHeader.{ResponseHeader}
use Rattle.httparse.specs.Grammar.{ResponseHead, ReadsResponse, HasNoResponse, NeverHasResponse, MayBecomeResponse, print_response, status_code}
use Rattle.httparse.specs.Spans.{name_and_value, ResponseOverflows}
use Rattle.httparse.proofs.GrammarLemmas.{response_unique, response_prefix_free}
use Rattle.head_parse.specs.declared.response.Parsed.TheVariants.{Incomplete, BadHead}
use Rattle.head_parse.specs.Response.{IsPlain, IsWellFormed, is_within_bounds, body_length, parsed_by_body, parsed_by_lines, line_from, first_line, BeginsNoHead, HasStatus, IsLenientHead, IsLenientReading, Reading, whole_head, begun_head, no_head, IsReading, parsed_of}

-- a head that stands whole in the first part of some bytes is read there
pub read_front : (bytes more : List ℕ) (h : ResponseHead) (rest : List ℕ) → ReadsResponse (bytes ++ more) h rest → length (print_response h) ≤ length bytes → ReadsResponse bytes h (drop (length (print_response h)) bytes)
read_front bytes more h rest r l =
    let n : ℕ = length (print_response h) in
    let front : take n bytes ≡ print_response h = sym (take-append-le n bytes more l) ∙ ap (take n) r.1 ∙ take-append_seam (print_response h) rest in
    (r.0, sym (take-append-drop n bytes) ∙ ap (λ (xs : List ℕ). xs ++ drop n bytes) front)

-- no head is read where the head of the whole bytes goes on after them
read_none : (bytes more : List ℕ) (h : ResponseHead) (rest : List ℕ) → ReadsResponse (bytes ++ more) h rest → length bytes < length (print_response h) → HasNoResponse bytes
read_none bytes more h rest r l k other s =
    let same : k ≡ h = (response_prefix_free bytes more k h other rest s r).0 in
    omega (arith, ap length s.1, length-append (print_response k) other, ap (λ (x : ResponseHead). length (print_response x)) same)

-- a head that is read, or the beginning of one, settles the reading
pub IsReading-one : (bytes : List ℕ) (p q : Reading) → IsPlain bytes → IsReading bytes p → IsReading bytes q → p ≡ q
IsReading-one bytes p q plain x y =
    let h : ResponseHead = plain.1 in
    elim (cases_lt (length bytes) (length (print_response h))) [
      | inr l ↦
          let reads : ReadsResponse bytes h (drop (length (print_response h)) bytes) = read_front bytes plain.0 h plain.2 plain.3 l in
          x.whole h (drop (length (print_response h)) bytes) reads plain.4 ∙ sym (y.whole h (drop (length (print_response h)) bytes) reads plain.4)
      | inl l ↦
          let no : HasNoResponse bytes = read_none bytes plain.0 h plain.2 plain.3 l in
          x.begins no plain ∙ sym (y.begins no plain)
    ]

-- what a head within bounds gives is no bad head
parsed_by_body-read : (header : ResponseHeader) (n : Option ℕ) (rest : List ℕ) → parsed_by_body header n rest ≢ BadHead
parsed_by_body-read header None rest e = cc
parsed_by_body-read header (Some n) rest e =
    elim (cases_Bool (nat_le n (length rest))) [
      | inl t ↦ absurd (cc)
      | inr f ↦ absurd (cc)
    ]

pub parsed_by_lines-read : (status : ℕ) (lines : List Line) (rest : List ℕ) → is_within_bounds status lines ≡ true → parsed_by_lines status lines rest ≢ BadHead
unfolding parsed_by_lines
parsed_by_lines-read status lines rest bounds e =
    let header : ResponseHeader = record { status = status; headers = map_of lines } in
    parsed_by_body-read header (body_length status lines) rest (subst (λ (v : Bool). cond v (parsed_by_body header (body_length status lines) rest) BadHead ≡ BadHead) bounds e)

pub parsed_of-read : (bytes : List ℕ) (r : Reading) → IsWellFormed bytes → IsReading bytes r → parsed_of r ≢ BadHead
parsed_of-read bytes r well is bad =
    let h : ResponseHead = well.1 in
    elim (cases_lt (length bytes) (length (print_response h))) [
      | inr l ↦
          parsed_by_lines-read (status_code h) (map name_and_value h.fields) (drop (length (print_response h)) bytes) well.5
          (ap parsed_of (sym (is.whole h (drop (length (print_response h)) bytes) (read_front bytes well.0 h well.2 well.3 l) well.4)) ∙ bad)
      | inl l ↦
          let early : parsed_of r ≡ Incomplete None = ap parsed_of (is.begins (read_none bytes well.0 h well.2 well.3 l) (well.0, h, well.2, well.3, well.4)) in
          cc
    ]

after-head : (status code : ℕ) (lines others : List Line) (rest other : List ℕ) → whole_head status lines rest ≡ whole_head code others other → rest ≡ other
after-head status code lines others rest other e = cc

-- one head is at the front of some bytes, whatever comes after
same-head : (bytes more : List ℕ) (h k : ResponseHead) (rest other : List ℕ) → ReadsResponse bytes h rest → ReadsResponse (bytes ++ more) k other → length h.fields ≤ 256 → 256 < length k.fields → ⊥
same-head bytes more h k rest other reads reads_k few many =
    let same : h ≡ k = (response_prefix_free bytes more h k rest other reads reads_k).0 in
    omega (arith, few, many, ap (λ (x : ResponseHead). length x.fields) same)

-- a head stays the head whatever more comes
pub reads-more : (bytes more : List ℕ) (h : ResponseHead) (rest : List ℕ) → ReadsResponse bytes h rest → ReadsResponse (bytes ++ more) h (rest ++ more)
reads-more bytes more h rest reads = (reads.0, ap (λ (x : List ℕ). x ++ more) reads.1 ∙ append_assoc (print_response h) rest more)

-- the first line is the bytes' front, and more bytes change it only where it hasn't ended
line_from-front : (text : Bool) (bytes : List ℕ) → (rest : List ℕ) × (bytes ≡ line_from text bytes ++ rest)
line_from-front text [] = ([], refl)
line_from-front text (b ∷ bytes) =
    let next = line_from-front (text || not (b == 10 || b == 13)) bytes in
    elim (cases_Bool (text && b == 10)) [
      | inl t ↦ rw t (bytes, refl)
      | inr f ↦ rw f (next.0, ap (λ (xs : List ℕ). b ∷ xs) next.1)
    ]

line_from-more : (text : Bool) (bytes more : List ℕ) → (line_from text (bytes ++ more) ≡ line_from text bytes) ⊎ (line_from text bytes ≡ bytes)
line_from-more text [] more = inr refl
line_from-more text (b ∷ bytes) more =
    elim (cases_Bool (text && b == 10)) [
      | inl t ↦ rw t (inl refl)
      | inr f ↦
          rw f (elim (line_from-more (text || not (b == 10 || b == 13)) bytes more) [
            | inl e ↦ inl (ap (λ (xs : List ℕ). b ∷ xs) e)
            | inr e ↦ inr (ap (λ (xs : List ℕ). b ∷ xs) e)
          ])
    ]

-- and these stay refused whatever more comes
pub never-more : (bytes more : List ℕ) → NeverHasResponse bytes → NeverHasResponse (bytes ++ more)
never-more bytes more never later h rest reads = never (more ++ later) h rest (rw (← append_assoc bytes more later) reads)

pub never-has : (bytes : List ℕ) → NeverHasResponse bytes → HasNoResponse bytes
never-has bytes never h rest reads = never [] h rest (rw (append-nil bytes) reads)

-- where the first line begins no head, the bytes have none
never-first : (bytes : List ℕ) → BeginsNoHead bytes → NeverHasResponse bytes
never-first bytes never =
    let front = line_from-front false bytes in
    subst NeverHasResponse (sym front.1) (never-more (first_line bytes) front.0 never)

begins-read : (bytes : List ℕ) (h : ResponseHead) (rest : List ℕ) → ReadsResponse bytes h rest → ¬ (BeginsNoHead bytes)
begins-read bytes h rest reads never = never-has bytes (never-first bytes never) h rest reads

pub begins-more : (bytes : List ℕ) → MayBecomeResponse bytes → ¬ (BeginsNoHead bytes)
begins-more bytes may never = never-first bytes never may.0 may.1 [] may.2

pub begins-status : (bytes : List ℕ) (status : ℕ) → HasStatus bytes status → ¬ (BeginsNoHead bytes)
begins-status bytes status has never = never (10 ∷ []) has.0 has.1 has.2

-- the status stays where no more bytes make a head
status-more : (bytes more : List ℕ) (status : ℕ) → NeverHasResponse bytes → HasStatus bytes status → HasStatus (bytes ++ more) status
status-more bytes more status never has =
    elim (line_from-more false bytes more) [
      | inl e ↦ (has.0, has.1, subst (λ (line : List ℕ). ReadsResponse (line ++ 10 ∷ []) has.0 has.1) (sym e) has.2, has.3)
      | inr e ↦ absurd (never (10 ∷ []) has.0 has.1 (subst (λ (line : List ℕ). ReadsResponse (line ++ 10 ∷ []) has.0 has.1) e has.2))
    ]

-- the reading of bytes with a head at their front
pub reading-whole : (bytes : List ℕ) (h : ResponseHead) (rest : List ℕ) → ReadsResponse bytes h rest → length h.fields ≤ 256 → IsReading bytes (whole_head (status_code h) (map name_and_value h.fields) rest)
reading-whole bytes h rest reads few = record {
  whole = λ k other reads_k few_k.
      let same = response_unique bytes h k rest other reads reads_k in
      ap₂ (λ (x : ResponseHead) (y : List ℕ). whole_head (status_code x) (map name_and_value x.fields) y) same.0 same.1;
  begins = λ empty plain. absurd (empty h rest reads);
  long = λ k other reads_k many. absurd (same-head bytes [] h k rest other reads (rw (append-nil bytes) reads_k) few many);
  longer = λ more k other reads_k many. absurd (same-head bytes more h k rest other reads reads_k few many);
  within = λ status lines other same. (print_response h, reads.1 ∙ ap (λ (x : List ℕ). print_response h ++ x) (after-head _ _ _ _ _ _ same));
  lenient = λ never. absurd (never-has bytes never h rest reads);
  refused = λ never. absurd (begins-read bytes h rest reads never);
}

-- the reading of bytes without a head: one may have begun
pub reading-begun : (bytes : List ℕ) → HasNoResponse bytes → ¬ (BeginsNoHead bytes) → IsReading bytes begun_head
reading-begun bytes nothing begins = record {
  whole = λ h rest reads few. absurd (nothing h rest reads);
  begins = λ _ plain. refl;
  long = λ h rest reads many. absurd (nothing h rest reads);
  longer = λ more h rest reads many. inr refl;
  within = λ status lines rest same. absurd cc;
  lenient = λ never. tt;
  refused = λ never. absurd (begins never);
}

-- no head of at most 256 lines, and no beginning of one
pub reading-long : (bytes : List ℕ) → ResponseOverflows 256 bytes → IsReading bytes no_head
reading-long bytes over = record {
  whole = λ h rest reads few. absurd (omega (arith, few, over [] h rest (rw (append-nil bytes) reads)));
  begins = λ _ plain. absurd (omega (arith, plain.4, over plain.0 plain.1 plain.2 plain.3));
  long = λ h rest reads many. refl;
  longer = λ more h rest reads many. inl refl;
  within = λ status lines rest same. absurd cc;
  lenient = λ never. tt;
  refused = λ never. refl;
}

-- a reading of bytes that the default options refuse
pub reading-never : (bytes : List ℕ) (r : Reading) → NeverHasResponse bytes → ((status : ℕ) (lines : List Line) (rest : List ℕ) → r ≡ whole_head status lines rest → (front : List ℕ) × (bytes ≡ front ++ rest))
    → IsLenientReading bytes r → (BeginsNoHead bytes → r ≡ no_head) → IsReading bytes r
reading-never bytes r never within lenient refused = record {
  whole = λ h rest reads few. absurd (never [] h rest (rw (append-nil bytes) reads));
  begins = λ _ plain. absurd (never plain.0 plain.1 plain.2 plain.3);
  long = λ h rest reads many. absurd (never [] h rest (rw (append-nil bytes) reads));
  longer = λ more h rest reads many. absurd (never more h rest reads);
  within = within;
  lenient = λ _. lenient;
  refused = refused;
}

pub overflows-more : (bytes more : List ℕ) → ResponseOverflows 256 bytes → ResponseOverflows 256 (bytes ++ more)
overflows-more bytes more over later h rest reads = over (more ++ later) h rest (rw (← append_assoc bytes more later) reads)

-- the lenient reading of such bytes, and more
lenient-more : (bytes more : List ℕ) (status : ℕ) (lines : List Line) (rest : List ℕ) → NeverHasResponse bytes → IsLenientHead bytes status lines rest → IsLenientHead (bytes ++ more) status lines (rest ++ more)
lenient-more bytes more status lines rest never is = record {
  status = status-more bytes more status never is.status;
  few = is.few;
  come = (is.come.0, ap (λ (x : List ℕ). x ++ more) is.come.1 ∙ append_assoc is.come.0 rest more, is.come.2);
}

pub reading-lenient : (bytes more : List ℕ) (status : ℕ) (lines : List Line) (len : ℕ) → NeverHasResponse bytes → IsLenientHead bytes status lines (drop len bytes)
    → IsReading (bytes ++ more) (whole_head status lines (drop len bytes ++ more))
reading-lenient bytes more status lines len never is =
    let later : IsLenientHead (bytes ++ more) status lines (drop len bytes ++ more) = lenient-more bytes more status lines (drop len bytes) never is in
    reading-never (bytes ++ more) _ (never-more bytes more never)
    (λ code others other same. (take len bytes, ap (λ (x : List ℕ). x ++ more) (sym (take-append-drop len bytes)) ∙ append_assoc (take len bytes) (drop len bytes) more ∙ ap (λ (x : List ℕ). take len bytes ++ x) (after-head _ _ _ _ _ _ same)))
    later (λ none. absurd (begins-status (bytes ++ more) status later.status none))

pub reading-refused : (bytes more : List ℕ) → NeverHasResponse bytes → IsReading (bytes ++ more) no_head
reading-refused bytes more never = reading-never (bytes ++ more) no_head (never-more bytes more never) (λ status lines rest same. absurd cc) tt (λ none. refl)
