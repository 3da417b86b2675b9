-- What a parser holds, as more bytes come.
use Rattle.std.proofs.Common.{◌≡◌, ℕ, ◌+◌, ◌-◌, ◌≤◌, true, List, [], ◌++◌, length, take, drop, refl, ap, sym, ◌∙◌, subst, arith, inl, inr, append_assoc, append-nil}
use Rattle.std.specs.Prelude.{nat_le, Option, Some, None}
use Rattle.std.proofs.lemmas.Bool.{cases_lt, cases_Bool, le-leb}
use Rattle.std.proofs.lemmas.List.{take-append-le, take-append-drop, take_all, take-take, length-take, length-take-le}
use Rattle.std.proofs.Math.Seq.{take-append-add}
use Rattle.head_lines.specs.Lines.{Line}
use Rattle.head_lines.specs.declared.header.ResponseHeader.{ResponseHeader}
use Rattle.httparse.specs.Grammar.{HasNoResponse}
use Rattle.head_parse.specs.declared.response.Parsed.TheVariants as parsed
use Rattle.head_parse.specs.declared.response.Progress.TheVariants.{BadHead}
use Rattle.head_parse.specs.declared.front.Front.{Front}
use Rattle.head_parse.specs.declared.front.Front.TheVariants.{Found, Begun, Refused}
use Rattle.head_parse.specs.declared.head.Head.{Head as FoundHead}
use Rattle.head_parse.specs.Response.{is_within_bounds, parsed_by_body, parsed_by_lines, parsed_of, Reading, whole_head, begun_head, no_head, Gives}
use Rattle.head_parse.specs.Parse.{progress_by_length, progress_by_lines, progress_of, IsAt, ParserState, in_head, in_body, at_bad_head, announced, limited, limited_after, IsHeaderOf, IsHeaderFor, IsBad, ParserHolds, held_progress}
use Rattle.head_parse.specs.Heads.{parsed_by_header, IsFrontOf, IsToldFront}
use Rattle.head_parse.proofs.ReadingLaws.{parsed_by_lines-read}
use Rattle.head_parse.proofs.HeadLaws.{announced-is, Gives-header}

-- what came of a body, and more
limited-short : (k : ℕ) (body piece : List ℕ) → length body ≤ k → take k (body ++ piece) ≡ body ++ take (k - length body) piece
limited-short k body piece l =
    let long : k ≡ length body + (k - length body) = omega (arith, l) in
    ap (λ (n : ℕ). take n (body ++ piece)) long ∙ take-append-add body piece (k - length body)

kept-length : (k : ℕ) (body : List ℕ) → take k body ≡ body → length body ≤ k
kept-length k body e = omega (arith, length-take k body, ap length e)

pub limited-add : (n : Option ℕ) (body piece : List ℕ) → limited n body ≡ body → limited n (body ++ piece) ≡ body ++ limited_after n (length body) piece
limited-add None body piece e = refl
limited-add (Some k) body piece e = limited-short k body piece (kept-length k body e)

-- two parts of a body, each cut
pub limited-parts : (n : Option ℕ) (xs ys : List ℕ) → limited n (xs ++ ys) ≡ limited n xs ++ limited_after n (length (limited n xs)) ys
limited-parts None xs ys = refl
limited-parts (Some k) xs ys =
    elim (cases_lt k (length xs)) [
      | inr l ↦ rw (take_all k xs l) (limited-short k xs ys l)
      | inl l ↦
          let all : length (take k xs) ≡ k = length-take-le k xs (omega (arith, l)) in
          let none : k - length (take k xs) ≡ 0 = omega (arith, all) in
          rw none (take-append-le k xs ys (omega (arith, l)) ∙ sym (append-nil (take k xs)))
    ]

pub limited-twice : (n : Option ℕ) (rest : List ℕ) → limited n (limited n rest) ≡ limited n rest
limited-twice None rest = refl
limited-twice (Some k) rest = take-take k k rest (omega arith)

limited-more : (n : Option ℕ) (rest piece : List ℕ) → limited n (limited n rest ++ piece) ≡ limited n (rest ++ piece)
limited-more None rest piece = refl
limited-more (Some k) rest piece =
    elim (cases_lt k (length rest)) [
      | inr l ↦ rw (take_all k rest l) refl
      | inl l ↦
          take-append-le k (take k rest) piece (omega (arith, length-take-le k rest (omega (arith, l))))
          ∙ take-take k k rest (omega arith) ∙ sym (take-append-le k rest piece (omega (arith, l)))
    ]

by_body-limited : (header : ResponseHeader) (n : Option ℕ) (rest : List ℕ) → parsed_by_body header n (limited n rest) ≡ parsed_by_body header n rest
by_body-limited header None rest = refl
by_body-limited header (Some k) rest =
    elim (cases_lt k (length rest)) [
      | inr l ↦ ap (parsed_by_body header (Some k)) (take_all k rest l)
      | inl l ↦
          let here : nat_le k (length rest) ≡ true = le-leb k (length rest) (omega (arith, l)) in
          let there : nat_le k (length (take k rest)) ≡ true = le-leb k (length (take k rest)) (omega (arith, length-take-le k rest (omega (arith, l)))) in
          rw (here, there, take-take k k rest (omega arith)) refl
    ]

progress-limited : (n : Option ℕ) (rest : List ℕ) → progress_by_length n (length (limited n rest)) ≡ progress_by_length n (length rest)
progress-limited None rest = refl
progress-limited (Some k) rest =
    elim (cases_lt k (length rest)) [
      | inr l ↦ rw (take_all k rest l) refl
      | inl l ↦
          let here : nat_le k (length rest) ≡ true = le-leb k (length rest) (omega (arith, l)) in
          let there : nat_le k (length (take k rest)) ≡ true = le-leb k (length (take k rest)) (omega (arith, length-take-le k rest (omega (arith, l)))) in
          rw (here, there) refl
    ]

-- a header is that of the bytes with more
header-more : (bytes piece : List ℕ) (header : ResponseHeader) (rest : List ℕ) → IsHeaderFor bytes header rest → IsHeaderFor (bytes ++ piece) header (rest ++ piece)
header-more bytes piece header rest is = (is.0, is.1, λ more. rw (append_assoc bytes piece more, append_assoc rest piece more) (is.2 (piece ++ more)))

bad-more : (bytes piece : List ℕ) → IsBad bytes → IsBad (bytes ++ piece)
bad-more bytes piece bad more = rw (append_assoc bytes piece more) (bad (piece ++ more))

-- one more piece of a body, or after a bad head
pub ParserHolds-body : (bytes piece : List ℕ) (header : ResponseHeader) (body : List ℕ) → ParserHolds bytes (in_body header body) → ParserHolds (bytes ++ piece) (in_body header (limited (announced header) (body ++ piece)))
ParserHolds-body bytes piece header body holds =
    (holds.0 ++ piece, header-more bytes piece header holds.0 holds.1, ap (λ (x : List ℕ). limited (announced header) (x ++ piece)) holds.2 ∙ limited-more (announced header) holds.0 piece)

pub ParserHolds-bad : (bytes piece : List ℕ) → ParserHolds bytes at_bad_head → ParserHolds (bytes ++ piece) at_bad_head
ParserHolds-bad bytes piece bad = bad-more bytes piece bad

-- the part of a piece that a head took, and the rest
parts : (front piece : List ℕ) (n : ℕ) → front ++ piece ≡ (front ++ take n piece) ++ drop n piece
parts front piece n = ap (λ (x : List ℕ). front ++ x) (sym (take-append-drop n piece)) ∙ sym (append_assoc front (take n piece) (drop n piece))

pub ParserHolds-refused : (bytes piece front : List ℕ) (n : ℕ) → front ≡ bytes ++ take n piece → IsBad front → ParserHolds (bytes ++ piece) at_bad_head
ParserHolds-refused bytes piece front n is bad = rw (parts bytes piece n) (bad-more (bytes ++ take n piece) (drop n piece) (rw is at bad))

pub ParserHolds-found : (bytes piece front : List ℕ) (n : ℕ) (head : FoundHead) → front ≡ bytes ++ take n piece → IsToldFront front (Found head)
    → ParserHolds (bytes ++ piece) (in_body head.header (limited (announced head.header) (drop head.len front ++ drop n piece)))
ParserHolds-found bytes piece front n head is found = (
  drop head.len front ++ drop n piece,
  subst (λ (x : List ℕ). IsHeaderFor x head.header (drop head.len front ++ drop n piece)) (ap (λ (x : List ℕ). x ++ drop n piece) is ∙ sym (parts bytes piece n))
      (header-more front (drop n piece) head.header (drop head.len front) found.1),
  refl,
)

-- the first piece, read where it is
pub ParserHolds-first-refused : (bytes piece front : List ℕ) → front ≡ [] → front ≡ bytes → IsBad piece → ParserHolds (bytes ++ piece) at_bad_head
ParserHolds-first-refused bytes piece front none is bad = subst (λ (x : List ℕ). ParserHolds (x ++ piece) at_bad_head) (sym none ∙ is) bad

-- how far it has come
bad-progress : (r : Reading) → parsed.BadHead ≡ parsed_of r → BadHead ≡ progress_of r
unfolding parsed_by_lines progress_by_lines
bad-progress (whole_head status lines rest) e =
    elim (cases_Bool (is_within_bounds status lines)) [
      | inr f ↦ rw f refl
      | inl t ↦ absurd (parsed_by_lines-read status lines rest t (sym e))
    ]
bad-progress begun_head e = cc
bad-progress no_head e = refl

body-progress : (header : ResponseHeader) (lines : List Line) (rest : List ℕ) → IsHeaderOf header lines → progress_by_length (announced header) (length rest) ≡ progress_by_lines header.status lines rest
unfolding progress_by_lines
body-progress header lines rest is = rw (is.1, announced-is header lines is) refl

pub ParserHolds-progress : (bytes : List ℕ) (held : ParserState) → ParserHolds bytes held → IsAt bytes (held_progress held)
ParserHolds-progress bytes (in_head front) holds = inr (holds.1, refl)
ParserHolds-progress bytes (in_body header body) holds =
    let is : IsHeaderFor bytes header holds.0 = holds.1 in inl (
      whole_head header.status is.0 holds.0,
      rw (append-nil bytes, append-nil holds.0) at (is.2 []),
      rw holds.2 (progress-limited (announced header) holds.0) ∙ body-progress header is.0 holds.0 is.1,
    )
ParserHolds-progress bytes at_bad_head holds =
    let gives : Gives bytes parsed.BadHead = rw (append-nil bytes) at (holds []) in
    inl (gives.0, gives.1, bad-progress gives.0 gives.2)

-- what it gives at the end
pub Gives-body : (bytes : List ℕ) (header : ResponseHeader) (body : List ℕ) → ParserHolds bytes (in_body header body) → Gives bytes (parsed_by_header header body)
Gives-body bytes header body holds =
    subst (Gives bytes) (sym (ap (λ (x : List ℕ). parsed_by_header header x) holds.2 ∙ by_body-limited header (announced header) holds.0)) (Gives-header bytes header holds.0 holds.1)

-- what is reported of a front that was read
pub told-front : (bytes : List ℕ) (front : Front) → IsFrontOf bytes front → IsToldFront bytes front
told-front bytes (Found head) is = is
told-front bytes Begun is = tt
told-front bytes Refused is = is

pub none-begun : (bytes : List ℕ) (front : Front) → IsFrontOf bytes front → front ≡ Begun → HasNoResponse bytes
none-begun bytes front is e = (rw e at is).0
