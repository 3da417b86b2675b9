-- The lines of a plain response that go on, and those that are added.
use Rattle.std.proofs.Common.{◌≡◌, ℕ, ◌≤◌, ◌||◌, ◌&&◌, not, cond, Bool, true, false, List, [], ◌∷◌, ◌++◌, length, refl, sym, ap, ◌∙◌, append_assoc, arith}
use Rattle.std.specs.Prelude.{map, filter, bytes_eq, codes}
use Rattle.std.specs.List.{list_all}
use Rattle.std.proofs.lemmas.Bool.{and_parts, and_from, or_parts, not-true}
use Rattle.std.proofs.lemmas.List.{reverse-append}
use Rattle.std.proofs.lemmas.Slice.Eq.{bytes_eq-Decides}
use Rattle.rules_fields.specs.Texts.{small}
use Rattle.rules_fields.specs.Tables.{among, hop}
use Rattle.rules_fields.specs.Fields.{Field, is_named, all, without}
use Rattle.http1_message_parts.specs.Via.{own_via, listed, with_via}
use Rattle.http1_message.specs.Response.{own_date, one_date, own_lines, response_lines}
use Rattle.rules_ffi_arguments.specs.Rooms.{line_text, block}
use Rattle.rules_quick.specs.Plain.{is_passed, is_plain_connection}
use Rattle.rules_quick.specs.PlainResponses.{watched, staying, added, has_any}
use Rattle.rules_quick.specs.PlainResponses.{own_date as plain_date}
use Rattle.rules_quick.specs.Responses.{ends_dated, is_dated}
use Rattle.rules_quick.proofs.Placed.{drops_nothing}
use Rattle.rules_quick.proofs.Saying.{unnamed, still, no_values, kept_are}
use Rattle.rules_quick.proofs.ResponseSaying.{there}

-- a name that isn't among these is no name that is
unlike : (names : List (List ℕ)) (name other : List ℕ) → among names name ≡ false → among names other ≡ true → bytes_eq other name ≡ false
unlike names name other out within = go (bytes_eq other name) refl
  where
    contrary : false ≡ true → ⊥
    contrary e = cc

    go : (t : Bool) → bytes_eq other name ≡ t → t ≡ false
    go true e = absurd (contrary (sym out ∙ ap (among names) (sym ((bytes_eq-Decides other name).0 e)) ∙ within))
    go false e = refl

-- the values of a name that stays
values_stay : (names : List (List ℕ)) (name : List ℕ) (lines : List Field) → among names name ≡ false → all name (without names lines) ≡ all name lines
values_stay names name [] out = refl
values_stay names name (f ∷ lines) out = go (among names (small f.0)) refl (values_stay names name lines out)
  where
    there_too : (t : Bool) → all name (without names lines) ≡ all name lines
        → map (λ g. g.1) (cond t (f ∷ filter (is_named name) (without names lines)) (filter (is_named name) (without names lines))) ≡ map (λ g. g.1) (cond t (f ∷ filter (is_named name) lines) (filter (is_named name) lines))
    there_too true h = ap (λ (vs : List (List ℕ)). f.1 ∷ vs) h
    there_too false h = h

    go : (t : Bool) → among names (small f.0) ≡ t → all name (without names lines) ≡ all name lines → all name (cond (not t) (f ∷ without names lines) (without names lines)) ≡ all name (f ∷ lines)
    go true e h = h ∙ sym (ap (λ (b : Bool). map (λ g. g.1) (cond b (f ∷ filter (is_named name) lines) (filter (is_named name) lines))) (unlike names name (small f.0) out e))
    go false e h = there_too (is_named name f) h

-- at most one Date stays as it is
undated : (came : Bool) (lines : List Field) → all (codes "date") lines ≡ [] → one_date came lines ≡ lines
undated came [] h = refl
undated came (f ∷ lines) h = go (is_named (codes "date") f) (undated (came || false) lines) h
  where
    go : (t : Bool) → (all (codes "date") lines ≡ [] → one_date (came || false) lines ≡ lines)
        → map (λ g. g.1) (cond t (f ∷ filter (is_named (codes "date")) lines) (filter (is_named (codes "date")) lines)) ≡ [] → cond (t && came) (one_date came lines) (f ∷ one_date (came || t) lines) ≡ f ∷ lines
    go true more k = cc
    go false more k = ap (λ (fs : List Field). f ∷ fs) (more k)

none : {A : Type 0} (x : A) (xs : List A) → length (x ∷ xs) ≤ 1 → xs ≡ []
none x [] h = refl
none x (y ∷ xs) h = absurd (omega (arith, h))

once : (lines : List Field) → length (all (codes "date") lines) ≤ 1 → one_date false lines ≡ lines
once [] h = refl
once (f ∷ lines) h = go (is_named (codes "date") f) (once lines) h
  where
    go : (t : Bool) → (length (all (codes "date") lines) ≤ 1 → one_date false lines ≡ lines) → length (map (λ g. g.1) (cond t (f ∷ filter (is_named (codes "date")) lines) (filter (is_named (codes "date")) lines))) ≤ 1
        → cond (t && false) (one_date false lines) (f ∷ one_date (false || t) lines) ≡ f ∷ lines
    go true more k = ap (λ (fs : List Field). f ∷ fs) (undated true lines (none f.1 (all (codes "date") lines) k))
    go false more k = ap (λ (fs : List Field). f ∷ fs) (more k)

-- those that stay, of lines that are plain
own_are : (lines : List Field) → list_all (unnamed watched) lines ≡ true → is_plain_connection (all (codes "connection") lines) ≡ true → length (all (codes "date") lines) ≤ 1 → own_lines lines ≡ staying lines
own_are lines h c d =
    let dates : all (codes "date") (staying lines) ≡ all (codes "date") lines =
    values_stay (codes "content-length" ∷ []) (codes "date") (without hop lines) refl ∙ values_stay hop (codes "date") lines refl in
    ap (λ (fs : List Field). one_date false (without (codes "content-length" ∷ []) fs)) (kept_are watched lines refl h c)
    ∙ once (staying lines) (omega (arith, ap (λ (vs : List (List ℕ)). length vs) dates, d))

-- none is Via
passed : (lines : List Field) → list_all (unnamed watched) lines ≡ true → list_all (is_passed (codes "via" ∷ [])) lines ≡ true
passed [] h = refl
passed (f ∷ lines) h =
    let p = and_parts (unnamed watched f) (list_all (unnamed watched) lines) h in
    let q = or_parts (bytes_eq (small f.0) (codes "close")) (among (codes "via" ∷ []) (small f.0)) (not-true (among watched (small f.0)) p.0) in
    and_from (is_passed (codes "via" ∷ []) f) (list_all (is_passed (codes "via" ∷ [])) lines) (ap not q.1) (passed lines p.1)

with_own : (minor : ℕ) (name : List ℕ) (lines : List Field) → list_all (unnamed watched) lines ≡ true → with_via minor name lines ≡ lines ++ (codes "Via", own_via minor name) ∷ []
with_own minor name lines h =
    ap (λ (fs : List Field). fs ++ (codes "Via", listed (all (codes "via") lines) ++ own_via minor name) ∷ []) (drops_nothing (codes "via" ∷ []) lines (passed lines h))
    ∙ ap (λ (vs : List (List ℕ)). lines ++ (codes "Via", listed vs ++ own_via minor name) ∷ []) (no_values watched (codes "via") lines refl h)

date_is : (date : List ℕ) (lines : List Field) → own_date date lines ≡ plain_date date (all (codes "date") lines)
date_is date lines = ap (λ (t : Bool). cond t [] ((codes "Date", date) ∷ [])) (there (codes "date") lines) ∙ go (all (codes "date") lines)
  where
    go : (dates : List (List ℕ)) → cond (has_any dates) [] ((codes "Date", date) ∷ []) ≡ plain_date date dates
    go [] = refl
    go (d ∷ dates) = refl

staying_unnamed : (lines : List Field) → list_all (unnamed watched) lines ≡ true → list_all (unnamed watched) (staying lines) ≡ true
staying_unnamed lines h =
    still (λ f. not (among (codes "content-length" ∷ []) (small f.0))) (unnamed watched) (without hop lines) (still (λ f. not (among hop (small f.0))) (unnamed watched) lines h)

-- its lines, as they are told
pub lines_are : (minor : ℕ) (date name : List ℕ) (lines : List Field) → list_all (unnamed watched) lines ≡ true → is_plain_connection (all (codes "connection") lines) ≡ true
    → length (all (codes "date") lines) ≤ 1 → response_lines minor date name lines ≡ staying lines ++ added minor name date (all (codes "date") lines)
lines_are minor date name lines h c d =
    ap (λ (fs : List Field). with_via minor name fs ++ own_date date lines) (own_are lines h c d)
    ∙ ap (λ (fs : List Field). fs ++ own_date date lines) (with_own minor name (staying lines) (staying_unnamed lines h))
    ∙ append_assoc (staying lines) ((codes "Via", own_via minor name) ∷ []) (own_date date lines)
    ∙ ap (λ (fs : List Field). staying lines ++ ((codes "Via", own_via minor name) ∷ fs)) (date_is date lines)

-- whether it came with Date
pub dated_is : (lines : List Field) (minor : ℕ) (name date : List ℕ) (dates : List (List ℕ)) → is_dated (lines ++ added minor name date dates) ≡ has_any dates
dated_is lines minor name date [] = ap ends_dated (reverse-append lines (added minor name date [])) ∙ refl
dated_is lines minor name date (d ∷ dates) = ap ends_dated (reverse-append lines (added minor name date (d ∷ dates))) ∙ refl

pub block_append : (lines more : List Field) → block (lines ++ more) ≡ block lines ++ block more
block_append [] more = refl
block_append (f ∷ lines) more = ap (λ (t : List ℕ). line_text f ++ t) (block_append lines more) ∙ sym (append_assoc (line_text f) (block lines) (block more))
