-- The lines of a map, and what heads within the bounds give.
use Rattle.std.proofs.Common.{◌≡◌, ℕ, ◌+◌, ◌-◌, ◌≤◌, ◌<◌, true, false, List, [], ◌∷◌, ◌++◌, length, map, take, drop, refl, ap, sym, ◌∙◌, subst, arith, inl, inr, append_assoc, append-nil, All, length-append, length-take, length-drop, get_or}
use Rattle.std.specs.Prelude.{◌≢◌, bytes_eq, codes, ◌&&◌, ◌⊎◌, Bool, nat_le, Some, None}
use Rattle.std.specs.List.{list_all}
use Rattle.std.proofs.lemmas.Bool.Decides.{nat_tests}
use Rattle.std.proofs.lemmas.List.Folds.{list_all-append, list_all-map}
use Rattle.std.proofs.lemmas.Bool.{cases_Bool}
use Rattle.std.proofs.lemmas.Slice.Eq.{bytes_eq-Decides}
use Rattle.std.proofs.lemmas.List.{map-append, take_more, drop_more, get_or-map, length-map, length-take-le, take-append-le, take-append-drop, take_all}
use Rattle.std.proofs.Math.Seq.{take-add}
use Rattle.std.proofs.lemmas.List.Elements.{All-map}
use Rattle.std.proofs.lemmas.List.Sums.{sum_by-cons, AllPass-from_list_all}
use Rattle.head_lines.specs.declared.header.ResponseHeader.{ResponseHeader}
use Rattle.http.specs.StatusCode.{IsStatusCode}
use Rattle.http_header.specs.HeaderMap.{Entry as MapEntry, Entries, append, append_all, get_all, value_count}
use Rattle.http_header.specs.FieldValue.{FieldValue, plain_value}
use Rattle.http_header.specs.Token.{lowercase}
use Rattle.http_header.specs.Token as token
use Rattle.http_header.proofs.HeaderMapLemmas.{get_all-append_same, get_all-append_other}
use Rattle.httparse.specs.Grammar.{ResponseHead, ReadsResponse, NeverHasResponse, Field, IsField, is_value_byte, is_token_byte, status_code}
use Rattle.httparse.specs.declared.spans.HeaderSpan.{HeaderSpan}
use Rattle.httparse.specs.declared.spans.ResponseSpans.{ResponseSpans}
use Rattle.httparse.specs.declared.spans.Span.{Span}
use Rattle.httparse.specs.Spans.{span_bytes, header_bytes, name_and_value, AreFieldsAt, IsWithin, IsHeaderWithin, IsSectionWithin, IsResponseAt, ResponseOverflows}
use Rattle.httparse.proofs.TrimLemmas.{AllPass-trim_ows}
use Rattle.head_lines.specs.Lines.{Line, pair_of, map_of, IsLine}
use Rattle.head_parse.specs.declared.response.Parsed.TheVariants.{Incomplete, BadHead}
use Rattle.head_parse.specs.declared.head.Head.{Head}
use Rattle.head_parse.specs.declared.front.Front.{Front}
use Rattle.head_parse.specs.declared.front.Front.TheVariants.{Found, Begun, Refused}
use Rattle.head_parse.specs.Response.{values_of, body_length, parsed_by_lines, has_short_name, is_within_bounds, HasStatus, StandsIn, IsLineIn, Reading, whole_head, begun_head, no_head, IsReading, head_of, parsed_of, Gives}
use Rattle.head_parse.specs.Parse.{values_under, announced, IsHeaderOf, IsHeaderFor, IsBad}
use Rattle.head_parse.specs.Heads.{parsed_by_header, values_at, unfolded_line, IsBegun, IsFrontOf, IsHeadAt, IsHeadOf, IsOutOfBounds, IsSomeHead, HasFieldValue}
use Rattle.head_parse.proofs.ReadingLaws.{parsed_by_lines-read, reads-more, reading-whole, reading-begun, reading-long, reading-lenient, reading-refused, overflows-more}

-- a further line adds one value, and one name at most
value_count-append : (m : Entries FieldValue) (name : List ℕ) (value : FieldValue) → value_count (append m name value) ≡ value_count m + 1
value_count-append [] name value = refl
value_count-append (e ∷ m) name value =
    let values : MapEntry FieldValue → ℕ = λ e. length e.1 in
    elim (cases_Bool (bytes_eq e.0 name)) [
      | inl t ↦
          let more : MapEntry FieldValue = (e.0, e.1 ++ value ∷ []) in
          rw t (omega (arith, sum_by-cons values more m, sum_by-cons values e m, length-append e.1 (value ∷ [])))
      | inr n ↦ rw n (omega (arith, sum_by-cons values e (append m name value), sum_by-cons values e m, value_count-append m name value))
    ]

length-append-le : (m : Entries FieldValue) (name : List ℕ) (value : FieldValue) → length (append m name value) ≤ length m + 1
length-append-le [] name value = omega arith
length-append-le (e ∷ m) name value =
    elim (cases_Bool (bytes_eq e.0 name)) [
      | inl t ↦ rw t (omega arith)
      | inr n ↦ rw n (omega (arith, length-append-le m name value))
    ]

pub names-more : (m next : Entries FieldValue) (name : List ℕ) (value : FieldValue) (i : ℕ) → next ≡ append m name value → length m ≤ i → length next ≤ i + 1
names-more m next name value i e l = rw e (omega (arith, length-append-le m name value))

pub values-more : (m next : Entries FieldValue) (name : List ℕ) (value : FieldValue) (i : ℕ) → next ≡ append m name value → value_count m ≤ i → value_count next ≤ i + 1
values-more m next name value i e l = rw e (omega (arith, value_count-append m name value))

under-append_all : (lines : List Line) (m : Entries FieldValue) (name : List ℕ) → values_under name (append_all m (map pair_of lines)) ≡ values_under name m ++ values_of name lines
under-append_all [] m name = sym (append-nil (values_under name m))
under-append_all (line ∷ lines) m name =
    let next : Entries FieldValue = append m (lowercase line.0) (plain_value line.1) in
    elim (cases_Bool (bytes_eq (lowercase line.0) name)) [
      | inl t ↦
          let same : lowercase line.0 ≡ name = (bytes_eq-Decides (lowercase line.0) name).0 t in
          let here : get_all next name ≡ get_all m name ++ plain_value line.1 ∷ [] =
          subst (λ (n : List ℕ). get_all (append m n (plain_value line.1)) name ≡ get_all m name ++ plain_value line.1 ∷ []) (sym same) (get_all-append_same m name (plain_value line.1)) in
          rw t (under-append_all lines next name ∙ ap (λ (vs : List FieldValue). map (λ v. v.bytes) vs ++ values_of name lines) here
          ∙ ap (λ (vs : List (List ℕ)). vs ++ values_of name lines) (map-append (λ (v : FieldValue). v.bytes) (get_all m name) (plain_value line.1 ∷ []))
          ∙ append_assoc (values_under name m) (line.1 ∷ []) (values_of name lines))
      | inr n ↦
          let other : lowercase line.0 ≢ name = λ e. let t : bytes_eq (lowercase line.0) name ≡ true = (bytes_eq-Decides (lowercase line.0) name).1 e in cc in
          rw n (under-append_all lines next name ∙ ap (λ (vs : List FieldValue). map (λ v. v.bytes) vs ++ values_of name lines) (get_all-append_other m (lowercase line.0) name (plain_value line.1) other))
    ]

-- a map has under a name the values of the lines of that name
pub under-map_of : (lines : List Line) (name : List ℕ) → values_under name (map_of lines) ≡ values_of name lines
under-map_of lines name = under-append_all lines [] name

-- one more line
append_all-more : (m : Entries FieldValue) (lines : List Line) (line : List ℕ × List ℕ) → append_all m (map pair_of (lines ++ line ∷ [])) ≡ append (append_all m (map pair_of lines)) (lowercase line.0) (plain_value line.1)
append_all-more m [] line = refl
append_all-more m (l ∷ ls) line = append_all-more (append m (lowercase l.0) (plain_value l.1)) ls line

pub map_of-more : (read : HeaderSpan → Line) (lines : List HeaderSpan) (i : ℕ) (d : HeaderSpan) → i < length lines
    → map_of (map read (take (i + 1) lines)) ≡ append (map_of (map read (take i lines))) (lowercase (read (get_or lines i d)).0) (plain_value (read (get_or lines i d)).1)
map_of-more read lines i d l =
    rw (take_more lines i d l, map-append read (take i lines) (get_or lines i d ∷ [])) (append_all-more [] (map read (take i lines)) (read (get_or lines i d)))

pub line_at : (bytes : List ℕ) (lines : List HeaderSpan) (i : ℕ) (d : HeaderSpan) → All IsLine (map (header_bytes bytes) lines) → i < length lines → IsLine (header_bytes bytes (get_or lines i d))
line_at bytes lines i d all l = subst IsLine (get_or-map (header_bytes bytes) lines i d (header_bytes bytes d) l) (all i (header_bytes bytes d) (rw length-map l))

-- and so for values alone
pub value_at : (bytes : List ℕ) (lines : List HeaderSpan) (i : ℕ) (d : HeaderSpan) → All HasFieldValue (map (header_bytes bytes) lines) → i < length lines → HasFieldValue (header_bytes bytes (get_or lines i d))
value_at bytes lines i d all l = subst HasFieldValue (get_or-map (header_bytes bytes) lines i d (header_bytes bytes d) l) (all i (header_bytes bytes d) (rw length-map l))

-- the values of a grammar's fields are those that a map takes
pub values-valid : (fields : List Field) → All IsField fields → All HasFieldValue (map name_and_value fields)
values-valid fields valid =
    All-map HasFieldValue name_and_value fields (λ k d l. AllPass-trim_ows is_value_byte (get_or fields k d).raw (valid k d l).raw)

has-short : (line : Line) → length line.0 ≤ 65535 → has_short_name line ≡ true
has-short line short = grind (arith, nat_tests)

same_tokens : (b : ℕ) → is_token_byte b ≡ token.is_token_byte b
unfolding is_token_byte token.is_token_byte
same_tokens b = refl

IsLine-field : (f : Field) → IsField f → length f.name ≤ 65535 → IsLine (name_and_value f)
IsLine-field f valid short =
    (((valid.name.0, λ k d l. rw (← same_tokens) (valid.name.1 k d l)), short), AllPass-trim_ows is_value_byte f.raw valid.raw)

-- one more short name
pub short-more : (read : HeaderSpan → Line) (lines : List HeaderSpan) (i : ℕ) (d : HeaderSpan) → i < length lines → list_all has_short_name (map read (take i lines)) ≡ true
    → length (read (get_or lines i d)).0 ≤ 65535 → list_all has_short_name (map read (take (i + 1) lines)) ≡ true
short-more read lines i d l before this =
    let short : has_short_name (read (get_or lines i d)) ≡ true = has-short (read (get_or lines i d)) this in
    rw (take_more lines i d l, map-append read (take i lines) (get_or lines i d ∷ []), list_all-append has_short_name (map read (take i lines)) (read (get_or lines i d) ∷ []), before, short) refl

short-at : (f : Field) → has_short_name (name_and_value f) ≡ true → length f.name ≤ 65535
short-at f t = grind (arith, nat_tests)

short-fields : (fields : List Field) → All IsField fields → list_all has_short_name (map name_and_value fields) ≡ true → All IsLine (map name_and_value fields)
short-fields fields valid short =
    let each = AllPass-from_list_all (λ f. has_short_name (name_and_value f)) fields (sym (list_all-map has_short_name name_and_value fields) ∙ short) in
    All-map IsLine name_and_value fields (λ k d l. IsLine-field (get_or fields k d) (valid k d l) (short-at (get_or fields k d) (each k d l)))

-- a head whose lines a map refuses is out of its bounds
pub out-by-lines : (bytes : List ℕ) (h : ResponseHead) (rest : List ℕ) → ReadsResponse bytes h rest → ¬ (All IsLine (map name_and_value h.fields))
    → is_within_bounds (status_code h) (map name_and_value h.fields) ≡ false
out-by-lines bytes h rest reads refused = elim (cases_Bool (list_all has_short_name (map name_and_value h.fields))) [
  | inl t ↦ absurd (refused (short-fields h.fields reads.0.fields t))
  | inr f ↦ rw f (and_no (nat_le 100 (status_code h)))
]
  where
    and_no : (v : Bool) → (v && false) ≡ false
    and_no true = refl
    and_no false = refl

-- and so is one whose status is none
pub out-by-status : (h : ResponseHead) (code : ℕ) → code ≡ status_code h → code < 1000 → ¬ (IsStatusCode code) → is_within_bounds (status_code h) (map name_and_value h.fields) ≡ false
out-by-status h code e l refused = rw (← e, low (nat_le 100 code) refl) refl
  where
    low : (v : Bool) → nat_le 100 code ≡ v → nat_le 100 code ≡ false
    low true t = absurd (refused (grind (arith, nat_tests), l))
    low false f = f

pub in-bounds : (h : ResponseHead) (code : ℕ) → code ≡ status_code h → IsStatusCode code → list_all has_short_name (map name_and_value h.fields) ≡ true
    → is_within_bounds (status_code h) (map name_and_value h.fields) ≡ true
in-bounds h code e is short = rw (short, ← e, high is.0) refl
  where
    high : 100 ≤ code → nat_le 100 code ≡ true
    high l = grind (arith, nat_tests)

pub few-fields : (bytes : List ℕ) (headers : List HeaderSpan) (count : ℕ) (fields : List Field) → AreFieldsAt bytes headers count fields → length headers ≤ 256 → length fields ≤ 256
few-fields bytes headers count fields at room =
    omega (arith, room, length-take count headers, length-map (take count headers) (header_bytes bytes), length-map fields name_and_value, ap length at)

-- a head whose status and lines are taken
pub whole-head : (bytes : List ℕ) (headers : List HeaderSpan) (r : ResponseSpans) (h : ResponseHead) → IsResponseAt bytes headers r h → length headers ≤ 256
    → (status : ℕ) (all : Entries FieldValue) → IsStatusCode r.code → status ≡ r.code → all ≡ map_of (map (header_bytes bytes) (take r.headers headers))
    → list_all has_short_name (map (header_bytes bytes) (take r.headers headers)) ≡ true → IsHeadOf bytes (record { header = record { status = status; headers = all }; len = r.len })
whole-head bytes headers r h at room status all is code value short = (
  h,
  record {
    reads = at.reads;
    few = few-fields bytes headers r.headers h.fields at.fields room;
    bounds = in-bounds h r.code at.code is (subst (λ (ls : List Line). list_all has_short_name ls ≡ true) at.fields short);
    status = code ∙ at.code;
    headers = value ∙ ap map_of at.fields;
  },
)

-- a header announces what its lines say
pub announced-is : (header : ResponseHeader) (lines : List Line) → IsHeaderOf header lines → announced header ≡ body_length header.status lines
announced-is header lines is = rw (is.0, under-map_of lines (codes "content-length")) refl

-- a head as a map gives what its lines give
parsed_by_header-is : (header : ResponseHeader) (rest : List ℕ) (lines : List Line) → IsHeaderOf header lines → parsed_by_header header rest ≡ parsed_by_lines header.status lines rest
unfolding parsed_by_lines
parsed_by_header-is header rest lines is =
    rw (is.1, ← announced-is header lines is, ← is.0) refl

parsed_by_lines-out : (status : ℕ) (lines : List Line) (rest : List ℕ) → is_within_bounds status lines ≡ false → parsed_by_lines status lines rest ≡ BadHead
unfolding parsed_by_lines
parsed_by_lines-out status lines rest bounds = rw bounds refl

-- where the head was read
pub front-whole : (bytes : List ℕ) (front : Head) → front.len ≤ length bytes → IsHeadOf bytes front → IsFrontOf bytes (Found front)
front-whole bytes front len is =
    let h : ResponseHead = is.0 in
    let at : IsHeadAt bytes front h = is.1 in
    let lines : List Line = map name_and_value h.fields in
    let rest : List ℕ = drop front.len bytes in (
      len,
      (
        lines,
        (at.headers, rw at.status at.bounds),
        λ more. rw at.status (reading-whole (bytes ++ more) h (rest ++ more) (reads-more bytes more h rest at.reads) at.few),
      ),
    )

-- where the head is out of bounds
pub front-out : (bytes : List ℕ) → IsOutOfBounds bytes → IsBad bytes
front-out bytes out more = (
  whole_head (status_code out.0) (map name_and_value out.0.fields) (out.1 ++ more),
  reading-whole (bytes ++ more) out.0 (out.1 ++ more) (reads-more bytes more out.0 out.1 out.2) out.3,
  sym (parsed_by_lines-out (status_code out.0) (map name_and_value out.0.fields) (out.1 ++ more) out.4),
)

-- where there are too many lines
bad-long : (bytes : List ℕ) → ResponseOverflows 256 bytes → IsBad bytes
bad-long bytes over more = (no_head, reading-long (bytes ++ more) (overflows-more bytes more over), refl)

pub front-long : (bytes : List ℕ) (front : Front) → ResponseOverflows 256 bytes → (front ≡ Refused) ⊎ ((front ≡ Begun) × IsBegun bytes) → IsFrontOf bytes front
front-long bytes front over is = elim is [ inl e ↦ rw e (bad-long bytes over) | inr e ↦ rw e.0 e.1 ]

-- where the default options refuse
pub front-refused : (bytes : List ℕ) → NeverHasResponse bytes → IsBad bytes
front-refused bytes never more = (no_head, reading-refused bytes more never, refl)

pub front-lenient : (bytes : List ℕ) (front : Head) → NeverHasResponse bytes → IsSomeHead bytes front → IsFrontOf bytes (Found front)
front-lenient bytes front never is = (
  is.len,
  (is.lines.0, is.lines.1, λ more. reading-lenient bytes more front.header.status is.lines.0 front.len never is.lines.2),
)

-- what the bytes give by a head at their front
pub Gives-header : (bytes : List ℕ) (header : ResponseHeader) (rest : List ℕ) → IsHeaderFor bytes header rest → Gives bytes (parsed_by_header header rest)
Gives-header bytes header rest is = (
  whole_head header.status is.0 rest,
  rw (append-nil bytes, append-nil rest) at (is.2 []),
  parsed_by_header-is header rest is.0 is.1,
)

pub Gives-begun : (bytes : List ℕ) → IsBegun bytes → Gives bytes (Incomplete None)
Gives-begun bytes begun = (begun_head, reading-begun bytes begun.0 begun.1, refl)

pub Gives-bad : (bytes : List ℕ) → IsBad bytes → Gives bytes BadHead
Gives-bad bytes bad = rw (append-nil bytes) at (bad [])

-- what a span covers stands in the bytes
span-stands : (bytes : List ℕ) (len : ℕ) (s : Span) → IsWithin len s → StandsIn (span_bytes bytes s) (take len bytes)
span-stands bytes len s within =
    let size : ℕ = s.end - s.start in
    let after : ℕ = len - s.end in
    let parts : len ≡ s.start + (size + after) = omega (arith, within.0, within.1) in (
      take s.start bytes,
      take after (drop size (drop s.start bytes)),
      ap (λ (n : ℕ). take n bytes) parts ∙ take-add s.start (size + after) bytes ∙ ap (λ (x : List ℕ). take s.start bytes ++ x) (take-add size after (drop s.start bytes))
          ∙ sym (append_assoc (take s.start bytes) (span_bytes bytes s) (take after (drop size (drop s.start bytes)))),
    )

lines-stand : (bytes : List ℕ) (len : ℕ) (lines : List HeaderSpan) → All (IsHeaderWithin len) lines → All (IsLineIn (take len bytes)) (map (unfolded_line bytes) lines)
lines-stand bytes len lines within =
    All-map (IsLineIn (take len bytes)) (unfolded_line bytes) lines (λ k d l.
    let line : HeaderSpan = get_or lines k d in
    let at = within k d l in
    (span-stands bytes len line.name at.0, (span_bytes bytes line.value, span-stands bytes len line.value at.1, refl)))

-- a map of such lines, with a status, is a head
pub some-head : (bytes : List ℕ) (headers : List HeaderSpan) (count len status code : ℕ) (all : Entries FieldValue) → IsSectionWithin bytes headers len count → length headers ≤ 256
    → HasStatus bytes code → IsStatusCode code → status ≡ code → all ≡ map_of (map (unfolded_line bytes) (take count headers)) → list_all has_short_name (map (unfolded_line bytes) (take count headers)) ≡ true
    → IsSomeHead bytes (record { header = record { status = status; headers = all }; len = len })
some-head bytes headers count len status code all within room has is same value short =
    let lines : List Line = map (unfolded_line bytes) (take count headers) in record {
      len = within.len_fits;
      lines = (
        lines,
        (value, rw (short, same, high is.0) refl),
        record {
          status = rw same has;
          few = omega (arith, room, length-take count headers, length-map (take count headers) (unfolded_line bytes));
          come = (take len bytes, sym (take-append-drop len bytes), lines-stand bytes len (take count headers) within.headers_fit);
        },
      );
    }
  where
    high : 100 ≤ code → nat_le 100 code ≡ true
    high l = grind (arith, nat_tests)

-- bytes that are exactly one head
pub exact-head : (bytes : List ℕ) (header : ResponseHeader) (rest : List ℕ) → length rest ≡ 0 → IsHeaderFor bytes header rest → (r : Reading) × IsReading bytes r × (head_of r ≡ Some header)
exact-head bytes header [] none is = (
  whole_head header.status is.0 [],
  rw (append-nil bytes) at (is.2 []),
  rw (is.1.1, ← is.1.0) refl,
)
exact-head bytes header (b ∷ rest) none is = cc

-- and those with more after it
pub longer-head : (bytes : List ℕ) (header : ResponseHeader) (rest : List ℕ) → 0 < length rest → IsHeaderFor bytes header rest → (r : Reading) × IsReading bytes r × (head_of r ≡ None)
longer-head bytes header [] more is = absurd (omega (arith, more))
longer-head bytes header (b ∷ rest) more is = (
  whole_head header.status is.0 (b ∷ rest),
  rw (append-nil bytes, append-nil (b ∷ rest)) at (is.2 []),
  refl,
)

pub begun-head : (bytes : List ℕ) → IsBegun bytes → (r : Reading) × IsReading bytes r × (head_of r ≡ None)
begun-head bytes begun = (begun_head, reading-begun bytes begun.0 begun.1, refl)

-- a bad head is none
not-head : (r : Reading) → BadHead ≡ parsed_of r → head_of r ≡ None
not-head (whole_head status [] []) e =
    elim (cases_Bool (is_within_bounds status [])) [ inl t ↦ absurd (parsed_by_lines-read status [] [] t (sym e)) | inr f ↦ rw f refl ]
not-head (whole_head status (line ∷ lines) []) e =
    elim (cases_Bool (is_within_bounds status (line ∷ lines))) [ inl t ↦ absurd (parsed_by_lines-read status (line ∷ lines) [] t (sym e)) | inr f ↦ rw f refl ]
not-head (whole_head status lines (b ∷ rest)) e = refl
not-head begun_head e = refl
not-head no_head e = refl

pub bad-head : (bytes : List ℕ) → IsBad bytes → (r : Reading) × IsReading bytes r × (head_of r ≡ None)
bad-head bytes bad =
    let gives : Gives bytes BadHead = rw (append-nil bytes) at (bad []) in
    (gives.0, gives.1, not-head gives.0 gives.2)

span-length : (bytes : List ℕ) (s : Span) → IsWithin (length bytes) s → length (span_bytes bytes s) ≡ s.end - s.start
span-length bytes s within = length-take-le (s.end - s.start) (drop s.start bytes) (omega (arith, within.0, within.1, length-drop s.start bytes))

-- the values from a line on are that line's, and then the others
pub value-here : (bytes : List ℕ) (lines : List HeaderSpan) (i : ℕ) (d : HeaderSpan) (value : List ℕ) → i < length lines → All (IsHeaderWithin (length bytes)) lines
    → value ≡ take ((get_or lines i d).value.end - (get_or lines i d).value.start) (values_at bytes (drop i lines)) → value ≡ span_bytes bytes (get_or lines i d).value
value-here bytes lines i d value l within e =
    let line : HeaderSpan = get_or lines i d in
    let long : length (span_bytes bytes line.value) ≡ line.value.end - line.value.start = span-length bytes line.value (within i d l).1 in
    let rest : List ℕ = values_at bytes (drop (i + 1) lines) in
    e ∙ rw (drop_more lines i d l) (take-append-le (line.value.end - line.value.start) (span_bytes bytes line.value) rest (omega (arith, long)) ∙ take_all (line.value.end - line.value.start) (span_bytes bytes line.value) (omega (arith, long)))

pub values-after : (bytes : List ℕ) (lines : List HeaderSpan) (i : ℕ) (d : HeaderSpan) (values : List ℕ) → i < length lines → All (IsHeaderWithin (length bytes)) lines
    → values ≡ drop ((get_or lines i d).value.end - (get_or lines i d).value.start) (values_at bytes (drop i lines)) → values ≡ values_at bytes (drop (i + 1) lines)
values-after bytes lines i d values l within e =
    let line : HeaderSpan = get_or lines i d in
    let long : length (span_bytes bytes line.value) ≡ line.value.end - line.value.start = span-length bytes line.value (within i d l).1 in
    let rest : List ℕ = values_at bytes (drop (i + 1) lines) in
    e ∙ rw (drop_more lines i d l) (drop-front (line.value.end - line.value.start) (span_bytes bytes line.value) rest (sym long))
  where
    drop-whole : (xs ys : List ℕ) → drop (length xs) (xs ++ ys) ≡ ys
    drop-whole [] ys = refl
    drop-whole (x ∷ xs) ys = drop-whole xs ys

    drop-front : (n : ℕ) (xs ys : List ℕ) → n ≡ length xs → drop n (xs ++ ys) ≡ ys
    drop-front n xs ys e = ap (λ (k : ℕ). drop k (xs ++ ys)) e ∙ drop-whole xs ys
