-- Where the empty line is reached, the lines are those of a plain request.
use Rattle.std.proofs.Common.{◌≡◌, ℕ, ◌+◌, ◌-◌, ◌≤◌, ◌==◌, not, cond, Bool, true, false, List, [], ◌∷◌, ◌++◌, take, drop, length, refl, sym, ap, ◌∙◌, append_assoc, arith, length-append}
use Rattle.std.specs.Prelude.{map, filter, bytes_eq, codes}
use Rattle.std.specs.List.{list_all}
use Rattle.std.proofs.lemmas.Grind.{common_steps}
use Rattle.std.proofs.lemmas.Bool.{and_from, and_parts, eqb-true}
use Rattle.rules_fields.specs.Texts.{small}
use Rattle.rules_fields.specs.Tables.{among, hop}
use Rattle.rules_fields.specs.Fields.{Field, is_named, all, without}
use Rattle.rules_fields.specs.Types.{Chosen}
use Rattle.http1_message_parts.specs.Host.{is_host, normal_host}
use Rattle.http1_message.specs.Request.{read_request}
use Rattle.rules_ffi_arguments.specs.declared.shapes.RequestShape.{RequestShape}
use Rattle.rules_ffi_arguments.specs.Rooms.{line_text, block}
use Rattle.rules_quick.specs.Plain.{is_passed, watched, is_plain_line, is_plain_target, is_plain_method, is_plain_connection, is_plain_choice, plain_asked, plain_key, plain_marks, says_close, start_text, head_then, IsPlainBut, is_over}
use Rattle.rules_ffi_results.specs.Numbers.{mark}
use Rattle.rules_quick.specs.Requests.{asked_lines, request_told, plain_shape, told_heard}
use Rattle.rules_quick.specs.Walked.{Stand, Walked}
use Rattle.rules_quick.proofs.Walking.{plain_by, cut_run}
use Rattle.rules_quick.proofs.Head.{IsPlain}
use Rattle.rules_quick.proofs.Placed.{Serves}
use Rattle.rules_quick.proofs.Told.{told}

-- a line of Host
host_first : (name : List ℕ) (f : Field) (lines : List Field) → small f.0 ≡ codes "host" → all name (f ∷ lines) ≡ cond (bytes_eq (codes "host") name) (f.1 ∷ all name lines) (all name lines)
host_first name f lines h = ap (λ (n : List ℕ). map (λ g. g.1) (cond (bytes_eq n name) (f ∷ filter (is_named name) lines) (filter (is_named name) lines))) h ∙ go (bytes_eq (codes "host") name)
  where
    go : (t : Bool) → map (λ g. g.1) (cond t (f ∷ filter (is_named name) lines) (filter (is_named name) lines)) ≡ cond t (f.1 ∷ all name lines) (all name lines)
    go true = refl
    go false = refl

host_stays : (f : Field) (lines : List Field) → small f.0 ≡ codes "host" → without hop (f ∷ lines) ≡ f ∷ without hop lines
host_stays f lines h = ap (λ (n : List ℕ). cond (not (among hop n)) (f ∷ without hop lines) (without hop lines)) h

host_not_asked : (f : Field) (lines : List Field) → small f.0 ≡ codes "host" → asked_lines (f ∷ lines) ≡ asked_lines lines
host_not_asked f lines h = rw h refl

-- the bytes of what was read
whole : (method target bytes behind rest : List ℕ) (f : Field) (lines : List Field) → bytes ≡ start_text method target ++ (13 ∷ 10 ∷ (line_text f ++ behind))
    → behind ≡ block lines ++ (13 ∷ 10 ∷ rest) → bytes ≡ head_then method target (f ∷ lines) rest
whole method target bytes behind rest f lines e b =
    e ∙ ap (λ (t : List ℕ). start_text method target ++ (13 ∷ 10 ∷ (line_text f ++ t))) b
    ∙ ap (λ (t : List ℕ). start_text method target ++ (13 ∷ 10 ∷ t)) (sym (append_assoc (line_text f) (block lines) (13 ∷ 10 ∷ rest)))

-- and how many they are
used_are : (method target : List ℕ) (lines : List Field) (rest : List ℕ) → length (head_then method target lines rest) ≡ length (head_then method target lines []) + length rest
used_are method target lines rest =
    let start = start_text method target in
    omega (
      arith,
      length-append start (13 ∷ 10 ∷ (block lines ++ (13 ∷ 10 ∷ rest))),
      length-append start (13 ∷ 10 ∷ (block lines ++ (13 ∷ 10 ∷ []))),
      length-append (block lines) (13 ∷ 10 ∷ rest),
      length-append (block lines) (13 ∷ 10 ∷ []),
    )

-- what was found, but the lines behind Host's
pub record Found (method target : List ℕ) (f : Field) (o : Chosen) (used : ℕ) : Type 0 where
  pub method_is : is_plain_method method ≡ true
  pub target_is : is_plain_target target ≡ true
  pub host_line : IsPlainBut f
  pub named_host : small f.0 ≡ codes "host"
  pub host_is : is_host f.1 ≡ true
  pub served : Serves o f.1
  pub host_passed : is_passed o.drops f ≡ true
  pub choice : is_plain_choice o ≡ true
  pub unrefused : among o.refuses method ≡ false
  pub start_within : length (start_text method target) ≤ o.most_target
  pub head_within : used ≤ o.most_head
  pub line_within : used ≤ o.most_line

abbrev pub base : Chosen → List ℕ → List ℕ → List ℕ → List ℕ
base o method target host = method ++ normal_host o.scheme host ++ target ++ plain_key o host target

-- the shape by where its texts end
abbrev shape_of : Chosen → List ℕ → List ℕ → List ℕ → List ℕ → List ℕ → ℕ → ℕ → RequestShape
shape_of o method target host lines_text asked marks used =
    plain_shape (length method) (length method + length (normal_host o.scheme host)) (length method + length (normal_host o.scheme host) + length target)
    (length (base o method target host)) (length lines_text) (length lines_text + length asked) marks used

abbrev full : ℕ → ℕ → ℕ → ℕ → ℕ → ℕ → ℕ → ℕ → ℕ → RequestShape
full end method host target key lines asked marks used = record (plain_shape method host target key lines asked marks used) { method = record { from = 0; to = end } }

same_ends : (end method host target key lines asked key' lines' asked' marks used : ℕ) → end ≡ method → key ≡ key' → lines ≡ lines' → asked ≡ asked'
    → full end method host target key lines asked marks used ≡ plain_shape method host target key' lines' asked' marks used
same_ends end method host target key lines asked key' lines' asked' marks used a b c d = rw (a, b, c, d) refl

base_len : (o : Chosen) (method target host : List ℕ) → length (base o method target host) ≡ length method + length (normal_host o.scheme host) + length target + length (plain_key o host target)
base_len o method target host =
    let h = normal_host o.scheme host in
    omega (arith, length-append (method ++ h ++ target) (plain_key o host target), length-append (method ++ h) target, length-append method h)

told_as : (o : Chosen) (method target host : List ℕ) (lines : List Field) (marks used : ℕ) (lines_text asked_text : List ℕ)
    → lines_text ≡ base o method target host ++ block (without hop lines) → asked_text ≡ block (asked_lines (without hop lines))
    → request_told (plain_asked o method target host lines) (plain_key o host target) (1, 0, 0) marks used ≡ (lines_text ++ asked_text, shape_of o method target host lines_text asked_text marks used)
told_as o method target host lines marks used lines_text asked_text e k =
    let h = normal_host o.scheme host in
    let m = length method in
    let to_target = length method + length h + length target in
    let to_key = to_target + length (plain_key o host target) in
    let to_lines = to_key + length (block (without hop lines)) in
    let to_asked = to_lines + length (block (asked_lines (without hop lines))) in
    let ends_lines : to_lines ≡ length lines_text = omega (arith, base_len o method target host, length-append (base o method target host) (block (without hop lines)), ap (λ (x : List ℕ). length x) e) in
    ap (λ (x : List ℕ). (x, full (0 + m) m (m + length h) to_target to_key to_lines to_asked marks used)) (ap (λ (x : List ℕ). x ++ block (asked_lines (without hop lines))) (sym e) ∙ ap (λ (x : List ℕ). lines_text ++ x) (sym k))
    ∙ ap (λ (x : RequestShape). (lines_text ++ asked_text, x))
    (same_ends (0 + m) m (m + length h) to_target to_key to_lines to_asked (length (base o method target host)) (length lines_text) (length lines_text + length asked_text) marks used
    (omega arith) (sym (base_len o method target host)) ends_lines (omega (arith, ends_lines, ap (λ (x : List ℕ). length x) k)))

pub ending : (method target bytes behind rest : List ℕ) (f : Field) (o : Chosen) (used most : ℕ) (s : Stand) → Found method target f o used
    → bytes ≡ start_text method target ++ (13 ∷ 10 ∷ (line_text f ++ behind)) → Walked o.drops behind most (base o method target f.1 ++ line_text f) [] s → s.left ≡ 13 ∷ 10 ∷ rest
    → length s.left ≤ length s.run → used + length rest ≡ length bytes → most + 1 ≤ o.most_lines → is_plain_connection s.connection ≡ true
    → (lines_text : List ℕ) → lines_text ≡ s.text ++ take (length s.run - length s.left) s.run
    → told_heard (read_request bytes o) o ≡ (
      lines_text ++ s.asked,
      plain_shape (length method) (length method + length (normal_host o.scheme f.1))
          (length method + length (normal_host o.scheme f.1) + length target) (length (base o method target f.1)) (length lines_text) (length lines_text + length s.asked)
          (mark (says_close s.connection) 1 + mark (bytes_eq method (codes "HEAD")) 8) used,
    )
ending method target bytes behind rest f o used most s p e w left within len count c lines_text t =
    let lines = f ∷ w.lines in
    let h = p.named_host in
    let bytes_are : bytes ≡ head_then method target lines rest = whole method target bytes behind rest f w.lines e (w.come ∙ ap (λ (x : List ℕ). block w.lines ++ x) left) in
    let used_is : used ≡ length (head_then method target lines []) = omega (arith, len, ap (λ (x : List ℕ). length x) bytes_are, used_are method target lines rest) in
    let plain : list_all (is_plain_line watched) lines ≡ true =
    and_from (is_plain_line watched f) (list_all (is_plain_line watched) w.lines) (plain_by watched f p.host_line (ap (among watched) h)) w.plain in
    let is : IsPlain method target lines o = record {
      method_is = p.method_is;
      target_is = p.target_is;
      lines_are = plain;
      start_within = p.start_within;
      head_within = omega (arith, used_is, p.head_within);
      line_within = omega (arith, used_is, p.line_within);
      count_within = omega (arith, w.counted, count);
      unrefused = p.unrefused;
    } in
    let hosts : all (codes "host") lines ≡ f.1 ∷ [] = host_first (codes "host") f w.lines h ∙ ap (λ (vs : List (List ℕ)). f.1 ∷ vs) w.no_host in
    let connection : all (codes "connection") lines ≡ s.connection = host_first (codes "connection") f w.lines h ∙ w.connection_is in
    let kept : lines_text ≡ base o method target f.1 ++ block (without hop lines) =
    t ∙ cut_run s.text s.run ((base o method target f.1 ++ line_text f) ++ block (without hop w.lines)) s.left w.kept within
    ∙ append_assoc (base o method target f.1) (line_text f) (block (without hop w.lines))
    ∙ ap (λ (ls : List Field). base o method target f.1 ++ block ls) (sym (host_stays f w.lines h)) in
    let asked : s.asked ≡ block (asked_lines (without hop lines)) =
    w.asked_are ∙ ap block (sym (ap asked_lines (host_stays f w.lines h) ∙ host_not_asked f (without hop w.lines) h)) in
    ap (λ (x : List ℕ). told_heard (read_request x o) o) bytes_are
    ∙ told method target f.1 lines rest o is p.choice (and_from (is_passed o.drops f) (list_all (is_passed o.drops) w.lines) p.host_passed w.passed) p.served hosts p.host_is (ap is_plain_connection connection ∙ c)
    ∙ told_as o method target f.1 lines (plain_marks method lines) (length (head_then method target lines [])) lines_text s.asked kept asked
    ∙ ap (λ (v : List (List ℕ)). (lines_text ++ s.asked, shape_of o method target f.1 lines_text s.asked (mark (says_close v) 1 + mark (bytes_eq method (codes "HEAD")) 8) (length (head_then method target lines [])))) connection
    ∙ ap (λ (n : ℕ). (lines_text ++ s.asked, shape_of o method target f.1 lines_text s.asked (mark (says_close s.connection) 1 + mark (bytes_eq method (codes "HEAD")) 8) n)) (sym used_is)

-- an empty line in front has two bytes
pub over_len : (left : List ℕ) → is_over left ≡ true → 2 ≤ length left
over_len [] h = cc
over_len (a ∷ []) h = cc
over_len (a ∷ b ∷ rest) h = omega arith

pub over_is : (left : List ℕ) → is_over left ≡ true → left ≡ 13 ∷ 10 ∷ drop 2 left
over_is [] h = cc
over_is (a ∷ []) h = cc
over_is (a ∷ b ∷ rest) h = let p = and_parts (a == 13) (b == 10) h in rw (eqb-true a 13 p.0, eqb-true b 10 p.1) refl

-- before any line was read
pub begun : (unwanted : List (List ℕ)) (behind text run : List ℕ) (f : Field) (most : ℕ) → run ≡ line_text f ++ behind
    → Walked unwanted behind most (text ++ line_text f) [] (record { text = text; asked = []; run = run; left = behind; connection = []; room = most })
begun unwanted behind text run f most e = record {
  lines = [];
  come = refl;
  plain = refl;
  passed = refl;
  no_host = refl;
  connection_is = refl;
  counted = omega arith;
  kept = ap (λ (x : List ℕ). text ++ x) e ∙ sym (append_assoc text (line_text f) behind) ∙ ap (λ (x : List ℕ). x ++ behind) (sym (append_nil (text ++ line_text f)));
  asked_are = refl;
}
  where
    append_nil : (xs : List ℕ) → xs ++ [] ≡ xs
    append_nil xs = grind (arith, common_steps)
