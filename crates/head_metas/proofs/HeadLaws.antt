-- Heads: what is read is spelled, and each spelling is read.
use Rattle.std.proofs.Common.{◌≡◌, ℕ, zero, suc, ◌<◌, ◌≤◌, Bool, true, false, List, [], ◌∷◌, ◌++◌, length, map, All, Result, Ok, Err, refl, sym, ap, subst, ◌∙◌, arith, inl, inr, nat_lt, lit≤}
use Rattle.std.specs.Prelude.{nat_le, ◌&&◌, IfOk}
use Rattle.std.proofs.lemmas.Bool.{le-ltb}
use Rattle.std.proofs.lemmas.Bool.Decides.{nat_tests}
use Rattle.std.proofs.lemmas.List.{append-nil}
use Rattle.std.proofs.lemmas.List.Elements.{All-cons, All-nil}
use Rattle.http.specs.StatusCode.{IsStatusCode}
use Rattle.http_header.specs.FieldName.{IsFieldName}
use Rattle.http_header.specs.FieldValue.{FieldValue, plain_value, IsFieldValue}
use Rattle.http_header.specs.HeaderMap.{Entries, append, append_all}
use Rattle.http_header.specs.Token.{lowercase}
use Rattle.cache_words.specs.declared.pack.fault.PackFault.{PackFault}
use Rattle.cache_words.specs.declared.pack.fault.PackFault.TheVariants.{Kind, Range}
use Rattle.cache_words.specs.Forms.{Stands, numbers, arrays}
use Rattle.cache_words.specs.Pack.{SpellsText, SpellsBytes}
use Rattle.cache_words.specs.Reading.{number_at, array_of_at, text_at, bytes_at}
use Rattle.cache_words.proofs.ReadingLaws.{IsBytes, Agrees, bind_ok, ok_is, test_ok, one_spelling}
use Rattle.cache_words.proofs.FormLaws.{number_agrees, are_numbers, are_arrays}
use Rattle.cache_words.proofs.ValueLaws.{array_skips, text_agrees, bytes_agrees}
use Rattle.cache_words.specs.Items.{SpellList}
use Rattle.head_lines.specs.declared.header.ResponseHeader.{ResponseHeader}
use Rattle.head_lines.specs.Lines.{Line, pair_of, IsLine}
use Rattle.head_metas.specs.Head.{SpellsLine, SpellsHead, BeginsWithHead, most_names}
use Rattle.head_metas.specs.declared.fault.MetaReadFault.{MetaReadFault}
use Rattle.head_metas.specs.declared.fault.MetaReadFault.TheVariants.{Memory, Pack}
use Rattle.head_metas.specs.InternalReading.{value_of}
use Rattle.head_metas.specs.HeadReading.{Gives, StepsTo, is_name, is_value, field_name_of, field_value_of, line_at, with_line, lines_at, status_at, head_at}
use Rattle.head_metas.proofs.HeadLines.{name_named, name_test, value_valued, value_test, grows, line_added}
use Rattle.cache_words.proofs.ItemLaws.{agrees_with, SpellThen, then_agrees, seen_agrees, SpellAs, SpellEither, either_agrees, Never, refused_agrees, SpellAfter, after_agrees, SpellBy, by_agrees, SpellNothing, nothing_agrees}

-- ---- a line

name_of-ok : (bytes name : List ℕ) → field_name_of bytes ≡ Ok name → IsFieldName bytes × (name ≡ lowercase bytes)
name_of-ok bytes name e =
    let t = test_ok (is_name bytes) Kind (lowercase bytes) name e in
    (name_named bytes t.0, sym t.1)

name_of-is : (bytes : List ℕ) → IsFieldName bytes → field_name_of bytes ≡ Ok (lowercase bytes)
name_of-is bytes h = rw (name_test bytes h) refl

value_of-ok : (bytes : List ℕ) (value : FieldValue) → field_value_of bytes ≡ Ok value → IsFieldValue bytes × (value ≡ plain_value bytes)
value_of-ok bytes value e =
    let t = test_ok (is_value bytes) Kind (plain_value bytes) value e in
    (value_valued bytes t.0, sym t.1)

value_of-is : (bytes : List ℕ) → IsFieldValue bytes → field_value_of bytes ≡ Ok (plain_value bytes)
value_of-is bytes h = rw (value_test bytes h) refl

-- a line as a map keeps it
abbrev pub SpellsPair : List ℕ × FieldValue → List ℕ → Type 0
SpellsPair v text = (line : Line) × (v ≡ pair_of line) × IsLine line × SpellsLine line text

abbrev LineSteps : List ℕ × FieldValue → List ℕ → Type 0
LineSteps =
    SpellAfter (Stands arrays 2) (SpellThen SpellsText (λ t. SpellBy (field_name_of t) (λ name.
    SpellThen SpellsBytes (λ s. SpellBy (field_value_of s) (λ value. SpellNothing (name, value))))))

line_steps : Agrees line_at LineSteps
unfolding line_at
line_steps =
    after_agrees (array_of_at 2) (Stands arrays 2) _ _ (array_skips 2) (
    then_agrees text_at SpellsText _ _ text_agrees (λ t.
    by_agrees (field_name_of t) _ _ (λ name e.
    then_agrees bytes_at SpellsBytes _ _ bytes_agrees (λ s.
    by_agrees (field_value_of s) _ _ (λ value f. nothing_agrees (name, value))))))

line_to : (v : List ℕ × FieldValue) (text : List ℕ) → LineSteps v text → SpellsPair v text
line_to v text s =
    let t = s.3 in
    let n = t.4 in
    let b = n.2 in
    let w = b.4 in
    let name = name_of-ok t.0 n.0 n.1 in
    let value = value_of-ok b.0 w.0 w.1 in
    let same : v ≡ (lowercase t.0, plain_value b.0) = rw (w.2.0, name.1, value.1) refl in
    let no_more : b.2 ≡ [] = w.2.1 in
    let last : t.2 ≡ b.1 = rw (b.5, no_more) (append-nil b.1) in
    ((t.0, b.0), same, (name.0, value.0), (s.0, s.1, s.2, (t.1, b.1, t.3, b.3, rw t.5 (ap (λ (x : List ℕ). t.1 ++ x) last)), s.4))

line_from : (v : List ℕ × FieldValue) (text : List ℕ) → SpellsPair v text → LineSteps v text
line_from v text s =
    let line = s.0 in
    let a = s.3 in
    let b = a.3 in (
      a.0,
      a.1,
      a.2,
      (
        line.0,
        b.0,
        b.1,
        b.2,
        (
          lowercase line.0,
          name_of-is line.0 s.2.0,
          (
            line.1,
            b.1,
            [],
            b.3,
            (plain_value line.1, value_of-is line.1 s.2.1, (s.1, refl)),
            sym (append-nil b.1),
          ),
        ),
        b.4,
      ),
      a.4,
    )

pub line_agrees : Agrees line_at SpellsPair
line_agrees = agrees_with line_at LineSteps SpellsPair line_steps line_to line_from

-- ---- lines

-- further values take no names away
append_all-grows : (items : List (List ℕ × FieldValue)) (m : Entries FieldValue) → length m ≤ length (append_all m items)
append_all-grows [] m = omega arith
append_all-grows (item ∷ items) m =
    elim (grows m item.0 item.1) [
      | inl h ↦ omega (arith, h.1, append_all-grows items (append m item.0 item.1))
      | inr h ↦ omega (arith, h.1, append_all-grows items (append m item.0 item.1))
    ]

with_line-is : (m : Entries FieldValue) (line : List ℕ × FieldValue) → length (append m line.0 line.1) ≤ most_names → with_line m line ≡ Ok (append m line.0 line.1)
unfolding with_line
with_line-is m line few =
    let test : nat_lt most_names (length (append m line.0 line.1)) ≡ false = le-ltb _ _ few in
    rw test refl

-- the map m with lines
pub record SpellsMore (n : ℕ) (m next : Entries FieldValue) (text : List ℕ) : Type 0 where
  pub lines : List Line
  pub count : length lines ≡ n
  pub are_lines : All IsLine lines
  pub room : length next ≤ most_names
  pub made : next ≡ append_all m (map pair_of lines)
  pub spelled : SpellList SpellsLine lines text

abbrev MoreSteps : ℕ → Entries FieldValue → Entries FieldValue → List ℕ → Type 0
MoreSteps n m = SpellThen SpellsPair (λ line. SpellBy (with_line m line) (λ more. SpellsMore n more))

more_to : (n : ℕ) (m next : Entries FieldValue) (text : List ℕ) → MoreSteps n m next text → SpellsMore (suc n) m next text
more_to n m next text s =
    let line = s.3 in
    let by = s.4 in
    let rest = by.2 in
    let added : by.0 ≡ append m (lowercase line.0.0) (plain_value line.0.1) = (line_added m s.0 by.0 by.1).1 ∙ ap (λ (p : List ℕ × FieldValue). append m p.0 p.1) line.1 in
    record {
      lines = line.0 ∷ rest.lines;
      count = ap suc rest.count;
      are_lines = All-cons IsLine line.0 rest.lines line.2 rest.are_lines;
      room = rest.room;
      made = rest.made ∙ ap (λ (e : Entries FieldValue). append_all e (map pair_of rest.lines)) added;
      spelled = (s.1, s.2, line.3, rest.spelled, s.5);
    }

more_from_by : (n : ℕ) (m next : Entries FieldValue) (text : List ℕ) (lines : List Line) → length lines ≡ suc n → All IsLine lines → length next ≤ most_names
    → next ≡ append_all m (map pair_of lines) → SpellList SpellsLine lines text → MoreSteps n m next text
more_from_by n m next text [] count are room made spelled = absurd (omega arith)
more_from_by n m next text (line ∷ lines) count are room made spelled =
    let more : Entries FieldValue = append m (lowercase line.0) (plain_value line.1) in
    let few : length more ≤ most_names = omega (arith, append_all-grows (map pair_of lines) more, ap length made) in (
      pair_of line,
      spelled.0,
      spelled.1,
      (line, refl, are 0 line (omega arith), spelled.2),
      (
        more,
        with_line-is m (pair_of line) few,
        record {
          lines = lines;
          count = omega arith;
          are_lines = λ k d lt. are (suc k) d (omega arith);
          room = room;
          made = made;
          spelled = spelled.3;
        },
      ),
      spelled.4,
    )

more_from : (n : ℕ) (m next : Entries FieldValue) (text : List ℕ) → SpellsMore (suc n) m next text → MoreSteps n m next text
more_from n m next text s = more_from_by n m next text s.lines s.count s.are_lines s.room s.made s.spelled

none_from_by : (m next : Entries FieldValue) (text : List ℕ) (lines : List Line) → length lines ≡ 0 → next ≡ append_all m (map pair_of lines) → SpellList SpellsLine lines text
    → SpellNothing m next text
none_from_by m next text [] count made spelled = (made, spelled)
none_from_by m next text (line ∷ lines) count made spelled = absurd (omega arith)

pub lines_agrees : (n : ℕ) (m : Entries FieldValue) → length m ≤ most_names → Agrees (lines_at n m) (SpellsMore n m)
unfolding lines_at
lines_agrees zero m few =
    agrees_with (lines_at 0 m) (SpellNothing m) (SpellsMore 0 m) (nothing_agrees m)
    (λ next text s. record { lines = []; count = refl; are_lines = All-nil IsLine; room = rw s.0 few; made = s.0; spelled = s.1 })
    (λ next text s. none_from_by m next text s.lines s.count s.made s.spelled)
lines_agrees (suc n) m few =
    agrees_with (lines_at (suc n) m) (MoreSteps n m) (SpellsMore (suc n) m)
    (then_agrees line_at SpellsPair _ _ line_agrees (λ line.
    by_agrees (with_line m line) _ _ (λ more e. lines_agrees n more (line_added m line more e).0)))
    (more_to n m) (more_from n m)

-- ---- a head

abbrev is_status : ℕ → Bool
is_status n = nat_le 100 n && nat_lt n 1000

status_is : (n : ℕ) → is_status n ≡ true → IsStatusCode n
status_is n h = (grind (arith, nat_tests), grind (arith, nat_tests))

status_test : (n : ℕ) → IsStatusCode n → is_status n ≡ true
status_test n h =
    let low : 100 ≤ n = h.0 in
    let high : n < 1000 = h.1 in
    grind (arith, nat_tests)

abbrev SpellsStatus : ℕ → List ℕ → Type 0
SpellsStatus n text = IsStatusCode n × Stands numbers n text

abbrev StatusSteps : ℕ → List ℕ → Type 0
StatusSteps = SpellThen (Stands numbers) (λ n. SpellEither (is_status n) (SpellNothing n) Never)

status_steps : Agrees status_at StatusSteps
unfolding status_at
status_steps =
    then_agrees (number_at numbers) (Stands numbers) _ _ (number_agrees numbers are_numbers) (λ n.
    either_agrees (is_status n) (λ rest. Ok (n, rest)) (λ _. Err Range) (SpellNothing n) Never (nothing_agrees n) (refused_agrees Range))

status_to : (v : ℕ) (text : List ℕ) → StatusSteps v text → SpellsStatus v text
status_to v text s =
    elim s.4 [
      | inl is ↦
          let same : text ≡ s.1 = rw (s.5, is.1.1) (append-nil s.1) in
          rw (is.1.0, same) (status_is s.0 is.0, s.3)
      | inr never ↦ absurd never.1
    ]

status_from : (v : ℕ) (text : List ℕ) → SpellsStatus v text → StatusSteps v text
status_from v text s = (v, text, [], s.1, inl (status_test v s.0, (refl, refl)), sym (append-nil text))

status_agrees : Agrees status_at SpellsStatus
status_agrees = agrees_with status_at StatusSteps SpellsStatus status_steps status_to status_from

abbrev head_made : ℕ → Entries FieldValue → ResponseHeader
head_made status headers = record { status = status; headers = headers }

abbrev HeadSteps : ResponseHeader → List ℕ → Type 0
HeadSteps =
    SpellAfter (Stands arrays 2) (SpellThen SpellsStatus (λ status. SpellThen (Stands arrays) (λ n. SpellAs (head_made status) (SpellsMore n []))))

head_steps : Agrees head_at HeadSteps
unfolding head_at
head_steps =
    after_agrees (array_of_at 2) (Stands arrays 2) _ _ (array_skips 2) (
    then_agrees status_at SpellsStatus _ _ status_agrees (λ status.
    then_agrees (number_at arrays) (Stands arrays) _ _ (number_agrees arrays are_arrays) (λ n.
    seen_agrees (head_made status) (lines_at n []) (SpellsMore n []) (lines_agrees n [] (lit≤ tt)))))

head_to : (v : ResponseHeader) (text : List ℕ) → HeadSteps v text → SpellsHead v text
head_to v text s =
    let a = s.3 in
    let b = a.4 in
    let c = b.4 in
    let m = c.1 in
    let is : v ≡ head_made a.0 c.0 = c.2 in
    let head : Stands arrays (length m.lines) b.1 = rw m.count b.3 in
    record {
      lines = m.lines;
      are_lines = m.are_lines;
      room = subst (λ (e : Entries FieldValue). length e ≤ most_names) m.made m.room;
      headers = ap (λ (h : ResponseHeader). h.headers) is ∙ m.made;
      status = subst (λ (h : ResponseHeader). IsStatusCode h.status) (sym is) a.3.0;
      spelled = (s.0, s.1, s.2, (a.1, a.2, subst (λ (h : ResponseHeader). Stands numbers h.status a.1) (sym is) a.3.1, (b.1, b.2, head, m.spelled, b.5), a.5), s.4);
    }

head_from : (v : ResponseHeader) (text : List ℕ) → SpellsHead v text → HeadSteps v text
head_from v text s =
    let p = s.spelled in
    let a = p.3 in
    let b = a.3 in
    let room : length v.headers ≤ most_names = rw s.headers s.room in (
      p.0,
      p.1,
      p.2,
      (
        v.status,
        a.0,
        a.1,
        (s.status, a.2),
        (
          length s.lines,
          b.0,
          b.1,
          b.2,
          (
            v.headers,
            record { lines = s.lines; count = refl; are_lines = s.are_lines; room = room; made = s.headers; spelled = b.3 },
            refl,
          ),
          b.4,
        ),
        a.4,
      ),
      p.4,
    )

pub head_agrees : Agrees head_at SpellsHead
head_agrees = agrees_with head_at HeadSteps SpellsHead head_steps head_to head_from

-- no spelling of one head begins a spelling of another
pub one_head : (v w : ResponseHeader) (a b x y : List ℕ) → SpellsHead v a → SpellsHead w b → a ++ x ≡ b ++ y → (v ≡ w) × (x ≡ y)
one_head = one_spelling head_at SpellsHead head_agrees

-- ---- a whole input

pub given : {X : Type 0} (read : List ℕ → Result (X × List ℕ) PackFault) (old new : List ℕ) (r : Result X MetaReadFault)
    → StepsTo read old new r → Gives r (value_of (read old))
given read old new (Ok x) steps = rw steps refl
given read old new (Err Memory) steps = tt
given read old new (Err (Pack f)) steps = rw steps refl

pub head_found : (bytes : List ℕ) (r : Result ResponseHeader MetaReadFault) → IsBytes bytes → Gives r (value_of (head_at bytes)) → IfOk r (BeginsWithHead bytes)
head_found bytes (Err f) fits e = tt
head_found bytes (Ok h) fits e =
    let a = bind_ok (head_at bytes) (λ x. Ok x.0) h e in
    let t = head_agrees.takes bytes a.0 fits a.1 in
    (t.text, a.0.1, subst (λ (v : ResponseHeader). SpellsHead v t.text) (ok_is a.0.0 h a.2) t.spelled, t.parts)

pub head_read : (bytes : List ℕ) (r : Result ResponseHeader MetaReadFault) → Gives r (value_of (head_at bytes))
    → (h : ResponseHeader) → BeginsWithHead bytes h → Gives {X = ResponseHeader} r (Ok h)
head_read bytes r e h begins =
    subst (λ (read : Result ResponseHeader PackFault). Gives r read)
    (ap (λ (b : List ℕ). value_of (head_at b)) begins.3 ∙ ap value_of (head_agrees.again h begins.0 begins.1 begins.2)) e
