-- How the whole that is written at once is sent, and what is told of it.
use Rattle.std.proofs.Common.{◌≡◌, ℕ, ◌+◌, ◌*◌, ◌-◌, ◌/◌, ◌%◌, ◌<◌, ◌≤◌, ◌==◌, List, [], ◌∷◌, ◌++◌, refl, sym, ap, ◌∙◌, append_assoc, Bool, true, false, not, ◌&&◌, ◌||◌, cond, codes, length, min, zero-add, add-zero, if◌then◌else◌, arith}
use Rattle.std.specs.Prelude.{Option, Some, None, option_and_then, option_map, is_some, bytes_eq, ◌^◌}
use Rattle.std.specs.List.{list_all}
use Rattle.std.specs.Fmt.{decimal}
use Rattle.std.specs.Char.{is_ascii_digit}
use Rattle.std.specs.Option.{option_map_or}
use Rattle.std.proofs.lemmas.Fmt.{decimal_by_steps}
use Rattle.std.specs.Cmp.Lexicographic.{bytes_decides}
use Rattle.std.proofs.lemmas.Bool.{false≢true}
use Rattle.std.proofs.lemmas.Bool.Decides.{nat_tests}
use Rattle.std.proofs.lemmas.List.{append-nil}
use Rattle.std.proofs.lemmas.List.Folds.{list_all-append}
use Rattle.rules_fields.specs.Texts.{is_filled, small}
use Rattle.rules_fields.specs.Numbers.{number_from, digits}
use Rattle.rules_fields.specs.Tables.{among}
use Rattle.rules_fields.specs.Fields.{Field, is_named, first, all, without}
use Rattle.rules_fields.specs.Types.{Asked, KeptHead, Chosen}
use Rattle.rules_storage.specs.Kept.{with_length}
use Rattle.rules_response.specs.Lines.{cache_status, age_line}
use Rattle.rules_response.specs.Reply.{Piece}
use Rattle.rules_response.specs.Answering.{own, accepts_parts, accepts_line, length_sent, whole_piece, whole}
use Rattle.rules_ffi_results.specs.Heads.{sent_framing}
use Rattle.rules_ffi_results.specs.Numbers.{blank, mark}
use Rattle.rules_ffi_results.specs.Parts.{befores, part_shapes}
use Rattle.rules_ffi_results.specs.Sending.{Answered}
use Rattle.rules_ffi_arguments.specs.Options.{has_mark}
use Rattle.rules_ffi_arguments.specs.declared.shapes.PartShape.{PartShape}
use Rattle.rules_ffi_arguments.specs.declared.shapes.RequestShape.{RequestShape}
use Rattle.rules_ffi_arguments.specs.declared.shapes.How.{How}
use Rattle.rules_ffi_arguments.specs.declared.shapes.Out.{Out}
use Rattle.rules_serving.specs.Answers.{closes, reply_framing, shaped}
use Rattle.rules_serving.specs.Whole.{over, whole_shapes, whole_text}

-- a number that is written is read as it was
number_more : (ds : List ℕ) (n b : ℕ) → number_from n (ds ++ (b ∷ [])) ≡ 10 * number_from n ds + (b - 48)
number_more [] n b = refl
number_more (d ∷ ds) n b = number_more ds (10 * n + (d - 48)) b

is_digit : (k : ℕ) → k < 10 → is_ascii_digit (48 + k) ≡ true
is_digit k lt = grind (arith, nat_tests)

filled_more : (ds : List ℕ) (b : ℕ) → is_filled (ds ++ (b ∷ [])) ≡ true
filled_more [] b = refl
filled_more (d ∷ ds) b = refl

pub record Reads (n : ℕ) (ds : List ℕ) : Type 0 where
  pub filled : is_filled ds ≡ true
  pub are : list_all is_ascii_digit ds ≡ true
  pub say : number_from 0 ds ≡ n

decimal_read : (n : ℕ) → n < 2 ^ 64 → Reads n (decimal n)
decimal_read n small = decimal_by_steps Reads one more n small
  where
    one : (k : ℕ) → k < 10 → Reads k ((48 + k) ∷ [])
    one k lt = record { filled = refl; are = rw (is_digit k lt) refl; say = omega arith }

    more : (k : ℕ) (ds : List ℕ) → 10 ≤ k → Reads (k / 10) ds → Reads k (ds ++ ((48 + k % 10) ∷ []))
    more k ds le h = record {
      filled = filled_more ds (48 + k % 10);
      are = list_all-append is_ascii_digit ds ((48 + k % 10) ∷ []) ∙ rw (h.are, is_digit (k % 10) (omega arith)) refl;
      say = number_more ds 0 (48 + k % 10) ∙ ap (λ m. 10 * m + (48 + k % 10 - 48)) h.say ∙ (omega arith);
    }

digits_read : (n : ℕ) → n < 2 ^ 64 → digits (decimal n) ≡ Some n
digits_read n small =
    let h = decimal_read n small in
    ap (λ (b : Bool). cond (b && list_all is_ascii_digit (decimal n)) (Some (min (2 ^ 64 - 1) (number_from 0 (decimal n)))) None) h.filled
    ∙ ap (λ (b : Bool). cond b (Some (min (2 ^ 64 - 1) (number_from 0 (decimal n)))) None) h.are
    ∙ ap (λ m. Some (min (2 ^ 64 - 1) m)) h.say ∙ ap Some (omega arith)

-- what is behind lines without a name states it first
first_behind : (names : List (List ℕ)) (name : List ℕ) (lines rest : List Field) → among names name ≡ true → first name (without names lines ++ rest) ≡ first name rest
first_behind names name [] rest h = refl
first_behind names name (f ∷ lines) rest h = go (among names (small f.0)) refl (is_named name f) refl (first_behind names name lines rest h)
  where
    go : (t : Bool) → among names (small f.0) ≡ t → (u : Bool) → is_named name f ≡ u → first name (without names lines ++ rest) ≡ first name rest
        → first name (without names (f ∷ lines) ++ rest) ≡ first name rest
    go true e u k ih = rw e ih
    go false e false k ih = rw e (rw k ih)
    go false e true k ih = absurd (false≢true (sym e ∙ ap (among names) ((bytes_decides (small f.0) name).0 k) ∙ h))

stated_is : (lines : List Field) (age status : Field) (says : Bool) (n : Option ℕ) → is_named (codes "content-length") age ≡ false → is_named (codes "content-length") status ≡ false
    → first (codes "content-length") ((without own lines ++ (age ∷ accepts_line says ++ with_length n)) ++ (status ∷ [])) ≡ option_map decimal n
stated_is lines age status says n a c =
    ap (first (codes "content-length")) (append_assoc (without own lines) (age ∷ accepts_line says ++ with_length n) (status ∷ []))
    ∙ first_behind own (codes "content-length") lines ((age ∷ accepts_line says ++ with_length n) ++ (status ∷ [])) refl
    ∙ go says n
  where
    go : (t : Bool) (m : Option ℕ) → first (codes "content-length") ((age ∷ accepts_line t ++ with_length m) ++ (status ∷ [])) ≡ option_map decimal m
    go true None = rw (a, c) refl
    go false None = rw (a, c) refl
    go true (Some k) = rw a refl
    go false (Some k) = rw a refl

abbrev told_of : Out → ℕ → ℕ → ℕ → ℕ → ℕ → ℕ → Out
told_of b status form size marks count to = record b { code = status; framing = form; length = size; marks = marks; parts = count; head = record { from = 0; to = to } }

-- by whether there is a body: what is told of a head
by_body : (is_bare : Bool) (head : List ℕ) (status n form size marks : ℕ)
    → (let r : Answered = record { text = head; told = told_of (blank 67 0) status form size marks (length (whole_shapes is_bare (length head) n)) (length head); parts = whole_shapes is_bare (length head) n } in r)
    ≡ (let ps = option_map_or (λ x. x) (if is_bare then None else Some (record { before = []; from = 0; to = Some n } ∷ [])) [] in
    let r : Answered = record { text = head ++ befores ps ++ []; told = told_of (blank 67 0) status form size marks (length ps) (0 + length head); parts = part_shapes (length head) ps } in r)
by_body true head status n form size marks = rw (append-nil (head ++ []), append-nil head, zero-add (length head)) refl
by_body false head status n form size marks = rw (append-nil (head ++ []), append-nil head, zero-add (length head), add-zero (length head)) refl

sent_stated : (none : Bool) (n : ℕ) → n < 2 ^ 64 → option_and_then digits (option_map decimal (if none then None else Some n)) ≡ (if none then None else Some n)
sent_stated true n small = refl
sent_stated false n small = digits_read n small

has_pieces : (is_bare : Bool) (n : ℕ) → is_some (if is_bare then None else Some ((let p : Piece = record { before = []; from = 0; to = Some n } in p) ∷ [])) ≡ not is_bare
has_pieces true n = refl
has_pieces false n = refl

-- how the whole is sent
framing_is : (request : Asked) (kept : KeptHead) (n now : ℕ) (how : List (List ℕ)) (o : Chosen) (minor : ℕ) → n < 2 ^ 64
    → sent_framing (not (bytes_eq request.method (codes "HEAD") || kept.status == 204)) (length_sent kept.status (Some n)) minor ≡ reply_framing (whole request kept (Some n) now how o) minor
framing_is request kept n now how o minor fits =
    let stated = length_sent kept.status (Some n) in
    let says = accepts_parts kept (Some n) in
    ap (λ (b : Bool). sent_framing b stated minor) (sym (has_pieces (bytes_eq request.method (codes "HEAD") || kept.status == 204) n))
    ∙ ap (λ (l : Option ℕ). sent_framing (is_some (whole_piece request.method kept.status (Some n))) l minor)
    (sym (ap (option_and_then digits) (stated_is kept.lines (age_line kept.arrival now) (cache_status (all (codes "cache-status") kept.lines) how o) says stated refl refl)
    ∙ sent_stated (kept.status == 204) n fits))

-- what was written at once, of lines, is that of the definition
pub sent_is : (fs : List Field) (request : Asked) (stored : KeptHead) (q : RequestShape) (way : How) (n now : ℕ) (how : List (List ℕ)) (o : Chosen) (is_bare closing h : Bool) (form size : ℕ)
    (text : List ℕ) (to count m k : ℕ) (b told : Out) (parts : List PartShape)
    → n < 2 ^ 64 → is_bare ≡ (bytes_eq request.method (codes "HEAD") || stored.status == 204)
    → (form, size) ≡ sent_framing (not is_bare) (length_sent stored.status (Some n)) q.minor → closing ≡ closes q way → h ≡ has_mark q.marks 8
    → text ≡ whole_text (over stored fs) n now how o form closing
    → to ≡ length text → parts ≡ whole_shapes is_bare to n → count ≡ length parts → m ≡ mark closing 1 → k ≡ mark h 8 → b ≡ blank 67 0
    → told ≡ told_of b stored.status form size (m + k) count to
    → (let r : Answered = record { text = text; told = told; parts = parts } in r) ≡ shaped (whole request (over stored fs) (Some n) now how o) q way
sent_is fs request stored q way n now how o is_bare closing h form size text to count m k b told parts small e1 e3 e4 e5 e6 e7 e8 e9 e10 e11 e12 e13 =
    let kept = over stored fs in
    let frame : (form, size) ≡ reply_framing (whole request kept (Some n) now how o) q.minor =
    e3 ∙ ap (λ (x : Bool). sent_framing (not x) (length_sent stored.status (Some n)) q.minor) e1 ∙ framing_is request kept n now how o q.minor small in
    rw (e13, e12, e11, e10, e9, e8, e7, e6, e1, e4, e5, ap (λ (p : ℕ × ℕ). p.0) frame, ap (λ (p : ℕ × ℕ). p.1) frame)
    (by_body (bytes_eq request.method (codes "HEAD") || stored.status == 204) _ stored.status n _ _ _)

-- the same, of the lines that were written, if any
pub each_sent : (lines : Option (List Field)) (request : Asked) (stored : KeptHead) (q : RequestShape) (way : How) (n now : ℕ) (how : List (List ℕ)) (o : Chosen) (is_bare closing h : Bool) (form size : ℕ)
    (text : List ℕ) (to count m k : ℕ) (b told : Out) (parts : List PartShape)
    → n < 2 ^ 64 → is_bare ≡ (bytes_eq request.method (codes "HEAD") || stored.status == 204)
    → (form, size) ≡ sent_framing (not is_bare) (length_sent stored.status (Some n)) q.minor → closing ≡ closes q way → h ≡ has_mark q.marks 8
    → Some text ≡ option_map (λ (fs : List Field). whole_text (over stored fs) n now how o form closing) lines
    → to ≡ length text → parts ≡ whole_shapes is_bare to n → count ≡ length parts → m ≡ mark closing 1 → k ≡ mark h 8 → b ≡ blank 67 0
    → told ≡ told_of b stored.status form size (m + k) count to
    → Some (let r : Answered = record { text = text; told = told; parts = parts } in r) ≡ option_map (λ (fs : List Field). shaped (whole request (over stored fs) (Some n) now how o) q way) lines
each_sent None request stored q way n now how o is_bare closing h form size text to count m k b told parts small e1 e3 e4 e5 e6 e7 e8 e9 e10 e11 e12 e13 = cc
each_sent (Some fs) request stored q way n now how o is_bare closing h form size text to count m k b told parts small e1 e3 e4 e5 e6 e7 e8 e9 e10 e11 e12 e13 =
    let e : text ≡ whole_text (over stored fs) n now how o form closing = cc in
    ap Some (sent_is fs request stored q way n now how o is_bare closing h form size text to count m k b told parts small e1 e3 e4 e5 e e7 e8 e9 e10 e11 e12 e13)
