-- What the reader of responses tells is what the rules say.
use Rattle.std.proofs.Common.{◌≡◌, ℕ, ◌+◌, ◌-◌, ◌≤◌, ◌==◌, Bool, true, false, List, [], ◌∷◌, ◌++◌, take, drop, length, refl, sym, ap, ◌∙◌, arith, length-append}
use Rattle.std.specs.Prelude.{codes, Some, Ok}
use Rattle.std.specs.List.{list_all}
use Rattle.std.proofs.lemmas.Bool.{eqb-true}
use Rattle.rules_fields.specs.Fields.{Field, all}
use Rattle.rules_fields.specs.Types.{Chosen}
use Rattle.rules_fields.specs.declared.types.Framing.{Framing}
use Rattle.http1_message_parts.specs.Start.{status_line}
use Rattle.http1_message.specs.Response.{response_framing, closes, answered_with, answered_by, read_response}
use Rattle.rules_ffi_arguments.specs.Rooms.{block}
use Rattle.rules_ffi_arguments.specs.declared.shapes.ResponseShape.{ResponseShape}
use Rattle.rules_quick.specs.Plain.{is_plain_line, is_plain_connection, says_close, is_over}
use Rattle.rules_quick.specs.PlainResponses.{watched, head_then, staying, added, has_any, ends, plain_shape}
use Rattle.rules_quick.specs.Responses.{is_dated, response_told, told_heard}
use Rattle.rules_quick.specs.ResponseWalks.{Stand, Walked, GoesOn, IsEnd}
use Rattle.rules_quick.proofs.Saying.{all_unnamed}
use Rattle.rules_quick.proofs.Walking.{cut_run}
use Rattle.rules_quick.proofs.Ending.{over_is}
use Rattle.rules_quick.proofs.ResponseStart.{start_row}
use Rattle.rules_quick.proofs.ResponseHead.{IsPlain, reads}
use Rattle.rules_quick.proofs.ResponseSaying.{body_ends, ends_are}
use Rattle.rules_quick.proofs.ResponseLines.{lines_are, dated_is, block_append}

-- a status above 101 that says how its body ends is answered
answered_is : (minor status : ℕ) (date : List ℕ) (o : Chosen) (lines : List Field) (f : Framing) → 200 ≤ status → response_framing (codes "GET") minor status lines ≡ Ok f
    → answered_by (codes "GET") date o (minor, status) lines ≡ Ok (answered_with minor status date o lines f)
unfolding answered_by
answered_is minor status date o lines f le e = rw (other status le, e) refl
  where
    other : (status : ℕ) → 200 ≤ status → (status == 101) ≡ false
    other status le = go (status == 101) refl
      where
        go : (t : Bool) → (status == 101) ≡ t → t ≡ false
        go true k = absurd (omega (arith, le, eqb-true status 101 k))
        go false k = refl

told_by : (minor status : ℕ) (f : Framing) (lines : List Field) (c : Bool) (used : ℕ) → response_told (record { status = status; minor = minor; lines = lines; framing = f }) c used
    ≡ (block lines, plain_shape minor status f c (is_dated lines) (length (block lines)) used)
told_by minor status f lines c used = ap (λ (n : ℕ). (block lines, plain_shape minor status f c (is_dated lines) n used)) (plain_length (length (block lines)))
  where
    plain_length : (n : ℕ) → 0 + n ≡ n
    plain_length n = omega arith

told : (minor status : ℕ) (date : List ℕ) (o : Chosen) (lines : List Field) (f : Framing) (used : ℕ) → list_all (is_plain_line watched) lines ≡ true → is_plain_connection (all (codes "connection") lines) ≡ true
    → length (all (codes "date") lines) ≤ 1 → told_heard (Some (Ok (answered_with minor status date o lines f, used)))
    ≡ (
      block (staying lines) ++ block (added minor o.name date (all (codes "date") lines)),
      plain_shape minor status f (ends minor (says_close (all (codes "connection") lines)) f) (has_any (all (codes "date") lines))
          (length (block (staying lines) ++ block (added minor o.name date (all (codes "date") lines)))) used,
    )
told minor status date o lines f used h c d =
    let dates = all (codes "date") lines in
    let on = staying lines ++ added minor o.name date dates in
    let says = ends minor (says_close (all (codes "connection") lines)) f in
    ap (λ (fs : List Field). response_told (record { status = status; minor = minor; lines = fs; framing = f }) (closes minor lines f) used) (lines_are minor date o.name lines (all_unnamed watched lines h) c d)
    ∙ ap (λ (t : Bool). response_told (record { status = status; minor = minor; lines = on; framing = f }) t used) (ends_are minor lines f c)
    ∙ told_by minor status f on says used
    ∙ ap (λ (t : Bool). (block on, plain_shape minor status f says t (length (block on)) used)) (dated_is (staying lines) minor o.name date dates)
    ∙ ap (λ (x : List ℕ). (x, plain_shape minor status f says (has_any dates) (length x) used)) (block_append (staying lines) (added minor o.name date dates))

used_are : (start : List ℕ) (lines : List Field) (rest : List ℕ) → length (head_then start lines rest) ≡ length (head_then start lines []) + length rest
used_are start lines rest = omega (
  arith,
  length-append start (13 ∷ 10 ∷ (block lines ++ (13 ∷ 10 ∷ rest))),
  length-append start (13 ∷ 10 ∷ (block lines ++ (13 ∷ 10 ∷ []))),
  length-append (block lines) (13 ∷ 10 ∷ rest),
  length-append (block lines) (13 ∷ 10 ∷ []),
)

by_end : (bytes row behind : List ℕ) (minor status most : ℕ) (date : List ℕ) (o : Chosen) (s : Stand) (new : List ℕ) (shape : ResponseShape) → bytes ≡ row ++ (13 ∷ 10 ∷ behind)
    → status_line row ≡ Ok (minor, status) → 200 ≤ status → Walked behind most s → most ≤ o.most_lines → s.left ≡ 13 ∷ 10 ∷ drop 2 s.left → length s.left ≤ length s.run
    → IsEnd bytes minor status date s o new shape → told_heard (read_response bytes (codes "GET") date o) ≡ (new, shape)
by_end bytes row behind minor status most date o s new shape come st le w count left within d =
    let rest = drop 2 s.left in
    let bytes_are : bytes ≡ head_then row w.lines rest = come ∙ ap (λ (x : List ℕ). row ++ (13 ∷ 10 ∷ x)) (w.come ∙ ap (λ (x : List ℕ). block w.lines ++ x) left) in
    let used_is : d.used ≡ length (head_then row w.lines []) =
    omega (arith, d.used_is, ap (λ (x : List ℕ). length x) left, ap (λ (x : List ℕ). length x) bytes_are, used_are row w.lines rest) in
    let plain : IsPlain row (minor, status) w.lines o = record {
      start_is = start_row row (minor, status) st;
      status_is = st;
      lines_are = w.plain;
      head_within = omega (arith, used_is, d.head_within);
      count_within = omega (arith, w.counted, count);
    } in
    let connection = ap is_plain_connection w.connection_is ∙ d.connection_is in
    let answered = answered_is minor status date o w.lines d.framing le (body_ends minor status w.lines s.lengths s.codings d.framing le w.lengths_are w.codings_are d.framing_is) in
    let text : s.text ++ take (length s.run - length s.left) s.run ≡ block (staying w.lines) = cut_run s.text s.run (block (staying w.lines)) s.left w.kept within in
    let new_is : new ≡ block (staying w.lines) ++ block (added minor o.name date s.dates) = d.text_is ∙ ap (λ (x : List ℕ). x ++ block (added minor o.name date s.dates)) text in
    let says = ends minor (says_close s.connection) d.framing in
    ap (λ (x : List ℕ). told_heard (read_response x (codes "GET") date o)) bytes_are
    ∙ ap told_heard (reads row (codes "GET") date (minor, status) w.lines rest o (answered_with minor status date o w.lines d.framing) plain answered)
    ∙ told minor status date o w.lines d.framing (length (head_then row w.lines [])) w.plain connection (omega (arith, ap (λ (vs : List (List ℕ)). length vs) w.dates_are, w.one_date))
    ∙ ap (λ (vs : List (List ℕ)). (block (staying w.lines) ++ block (added minor o.name date vs), plain_shape minor status d.framing (ends minor (says_close (all (codes "connection") w.lines)) d.framing) (has_any vs) (length (block (staying w.lines) ++ block (added minor o.name date vs))) (length (head_then row w.lines [])))) w.dates_are
    ∙ ap (λ (vs : List (List ℕ)). (block (staying w.lines) ++ block (added minor o.name date s.dates), plain_shape minor status d.framing (ends minor (says_close vs) d.framing) (has_any s.dates) (length (block (staying w.lines) ++ block (added minor o.name date s.dates))) (length (head_then row w.lines [])))) w.connection_is
    ∙ ap (λ (x : List ℕ). (x, plain_shape minor status d.framing says (has_any s.dates) (length x) (length (head_then row w.lines [])))) (sym new_is)
    ∙ ap (λ (n : ℕ). (new, plain_shape minor status d.framing says (has_any s.dates) (length new) n)) (sym used_is)
    ∙ ap (λ (x : ResponseShape). (new, x)) (sym d.shape_is)

-- before any line was read
begun : (behind text : List ℕ) (most : ℕ) → text ≡ [] → Walked behind most (record { text = text; run = behind; left = behind; connection = []; lengths = []; codings = []; dates = []; room = most })
begun behind text most e = rw e (record {
  lines = [];
  come = refl;
  plain = refl;
  connection_is = refl;
  lengths_are = refl;
  codings_are = refl;
  dates_are = refl;
  one_date = omega arith;
  counted = omega arith;
  kept = refl;
})

pub law : (bytes row behind text : List ℕ) (minor status : ℕ) (date : List ℕ) (o : Chosen) (s : Stand) (new : List ℕ) (shape : ResponseShape) → bytes ≡ row ++ (13 ∷ 10 ∷ behind)
    → status_line row ≡ Ok (minor, status) → 200 ≤ status → text ≡ []
    → GoesOn (record { text = text; run = behind; left = behind; connection = []; lengths = []; codings = []; dates = []; room = o.most_lines }) s → is_over s.left ≡ true → length s.left ≤ length s.run
    → IsEnd bytes minor status date s o new shape → told_heard (read_response bytes (codes "GET") date o) ≡ (new, shape)
law bytes row behind text minor status date o s new shape come st le t goes over within d =
    by_end bytes row behind minor status o.most_lines date o s new shape come st le (goes behind o.most_lines (begun behind text o.most_lines t)) (omega arith) (over_is s.left over) within d
