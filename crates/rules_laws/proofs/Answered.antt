-- Answers from lines that are alike.
use Rattle.std.proofs.Common.{◌≡◌, ℕ, List, [], ◌∷◌, ◌++◌, refl, sym, ap, ◌∙◌, subst, Bool, true, false, not, cond, codes, length, map, filter, ◌==◌, ◌&&◌}
use Rattle.std.specs.Prelude.{Option, Some, None, option_and_then, unwrap_or, is_some}
use Rattle.std.specs.List.{flat_map}
use Rattle.rules_fields.specs.Texts.{small}
use Rattle.rules_fields.specs.Numbers.{digits}
use Rattle.rules_fields.specs.Tables.{among, conditions, not_in_304}
use Rattle.rules_fields.specs.Fields.{Field, all, first, without}
use Rattle.rules_fields.specs.Types.{Asked, KeptHead, Chosen}
use Rattle.rules_storage.specs.Kept.{with_length}
use Rattle.rules_response.specs.Lines.{age_line, cache_status, sent}
use Rattle.rules_response.specs.Matching.{matches, range_counts}
use Rattle.rules_response.specs.Ranges.{ranges}
use Rattle.rules_response.specs.Reply.{Piece, Reply}
use Rattle.rules_response.specs.Answering.{accepts, unless_several, known_length, own, left_out_of_304, not_modified, unsatisfied_lines, unsatisfied, part_lines, one_part, type_line, type_lines, pieces, several_lines, last_text, several_with, length_sent, whole_piece, whole, chosen_parts, answer_with, answer_of}
use Rattle.rules_forward.specs.Send.{tag_line, date_line, validate}
use Rattle.rules_laws.specs.Alike.{AreAlike, with_lines, AnswersAlike}
use Rattle.rules_laws.proofs.Same.{first_same}
use Rattle.rules_laws.proofs.Matched.{tag_same, matches_same, range_counts_same}
use Rattle.rules_laws.proofs.Named.{joined_alike, passing_alike}

-- the validators are first values
abbrev asked_with : Asked → Option (List ℕ) → Option (List ℕ) → Option (List Field)
asked_with request tag date =
    cond (length (tag_line tag ++ date_line date) == 0) None
    (Some (without (codes "range" ∷ []) (without conditions request.lines) ++ (tag_line tag ++ date_line date)))

pub validate_same : (request : Asked) (kept : KeptHead) (other : List Field) → AreAlike kept.lines other → validate request kept ≡ validate request (with_lines kept other)
validate_same request kept other a =
    ap (λ (t : Option (List ℕ)). asked_with request t (first (codes "last-modified") kept.lines)) (first_same kept.lines other a (codes "etag"))
    ∙ ap (λ (d : Option (List ℕ)). asked_with request (first (codes "etag") other) d) (first_same kept.lines other a (codes "last-modified"))

sent_alike : (left_out : List (List ℕ)) (lines other more : List Field) (how : List (List ℕ)) (o : Chosen) → AreAlike lines other → AreAlike (sent left_out lines more how o) (sent left_out other more how o)
sent_alike left_out lines other more how o a name =
    let mine = without left_out lines ++ more in
    let its = without left_out other ++ more in
    let status : List (List ℕ) → List Field = λ vs. cache_status vs how o ∷ [] in
    joined_alike mine its (status (all (codes "cache-status") lines))
    (joined_alike (without left_out lines) (without left_out other) more (passing_alike (λ n. not (among left_out n)) lines other a)) name
    ∙ ap (λ (vs : List (List ℕ)). all name (its ++ status vs)) (a (codes "cache-status"))

not_modified_alike : (kept : KeptHead) (other : List Field) (now : ℕ) (how : List (List ℕ)) (o : Chosen) → AreAlike kept.lines other
    → AnswersAlike (not_modified kept now how o) (not_modified (with_lines kept other) now how o)
not_modified_alike kept other now how o a = record {
  status = refl;
  lines = λ name.
      sent_alike (left_out_of_304 kept.lines) kept.lines other (age_line kept.arrival now ∷ []) how o a name
      ∙ ap (λ (t : Option (Bool × List ℕ)). all name (sent (own ++ not_in_304 ++ cond (is_some t) (codes "last-modified" ∷ []) []) other (age_line kept.arrival now ∷ []) how o))
      (tag_same kept.lines other a);
  pieces = refl;
  after = refl;
}

unsatisfied_alike : (kept : KeptHead) (other : List Field) (n : ℕ) (how : List (List ℕ)) (o : Chosen) → AreAlike kept.lines other
    → AnswersAlike (unsatisfied kept n how o) (unsatisfied (with_lines kept other) n how o)
unsatisfied_alike kept other n how o a =
    let p : List ℕ → Bool = λ m. among (codes "date" ∷ codes "via" ∷ []) m in
    record {
      status = refl;
      lines = λ name.
          joined_alike (filter (λ f. p (small f.0)) kept.lines ++ unsatisfied_lines n) (filter (λ f. p (small f.0)) other ++ unsatisfied_lines n) (cache_status [] how o ∷ [])
          (joined_alike (filter (λ f. p (small f.0)) kept.lines) (filter (λ f. p (small f.0)) other) (unsatisfied_lines n) (passing_alike p kept.lines other a)) name;
      pieces = refl;
      after = refl;
    }

accepts_same : (kept : KeptHead) (other : List Field) (n : Option ℕ) → AreAlike kept.lines other → accepts kept n ≡ accepts (with_lines kept other) n
accepts_same kept other n a =
    ap (λ (v : Option (List ℕ)). cond (kept.status == 200 && is_some n && not (is_some v)) ((codes "Accept-Ranges", codes "bytes") ∷ []) [])
    (first_same kept.lines other a (codes "accept-ranges"))

-- behind Age and what is told of ranges
told_alike : (left_out : List (List ℕ)) (kept : KeptHead) (other : List Field) (n : Option ℕ) (now : ℕ) (more : List Field) (how : List (List ℕ)) (o : Chosen) → AreAlike kept.lines other
    → AreAlike (sent left_out kept.lines (age_line kept.arrival now ∷ accepts kept n ++ more) how o) (sent left_out other (age_line kept.arrival now ∷ accepts (with_lines kept other) n ++ more) how o)
told_alike left_out kept other n now more how o a name =
    sent_alike left_out kept.lines other (age_line kept.arrival now ∷ accepts kept n ++ more) how o a name
    ∙ ap (λ (r : List Field). all name (sent left_out other (age_line kept.arrival now ∷ r ++ more) how o)) (accepts_same kept other n a)

several_alike : (kept : KeptHead) (other : List Field) (n : ℕ) (ps : List Piece) (after : List ℕ) (now : ℕ) (boundary : List ℕ) (how : List (List ℕ)) (o : Chosen) → AreAlike kept.lines other
    → AnswersAlike (several_with kept n ps after now boundary how o) (several_with (with_lines kept other) n ps after now boundary how o)
several_alike kept other n ps after now boundary how o a = record {
  status = refl;
  lines = λ name. told_alike (codes "content-type" ∷ own) kept other (Some n) now (several_lines ps after boundary) how o a name;
  pieces = refl;
  after = refl;
}

by_parts_alike : (ps : Option (List (ℕ × ℕ))) (request : Asked) (kept : KeptHead) (other : List Field) (n : Option ℕ) (now : ℕ) (boundary : Option (List ℕ)) (how : List (List ℕ)) (o : Chosen)
    → AreAlike kept.lines other → AnswersAlike (answer_with ps request kept n now boundary how o) (answer_with ps request (with_lines kept other) n now boundary how o)
by_parts_alike None request kept other n now boundary how o a = record {
  status = refl;
  lines = λ name. told_alike own kept other n now (with_length (length_sent kept.status n)) how o a name;
  pieces = refl;
  after = refl;
}
by_parts_alike (Some []) request kept other n now boundary how o a = unsatisfied_alike kept other (unwrap_or n 0) how o a
by_parts_alike (Some (p ∷ [])) request kept other n now boundary how o a = record {
  status = refl;
  lines = λ name. told_alike own kept other (Some (unwrap_or n 0)) now (part_lines p (unwrap_or n 0)) how o a name;
  pieces = refl;
  after = refl;
}
by_parts_alike (Some (p ∷ q ∷ ps)) request kept other n now boundary how o a =
    let b : List ℕ = unwrap_or boundary [] in
    let at : List ℕ → List Piece = λ kind. pieces kind (p ∷ q ∷ ps) (unwrap_or n 0) b in
    let mine = several_with kept (unwrap_or n 0) (at (type_lines kept.lines)) (last_text b) now b how o in
    subst (λ (kind : List ℕ). AnswersAlike mine (several_with (with_lines kept other) (unwrap_or n 0) (at kind) (last_text b) now b how o)) (ap (flat_map type_line) (a (codes "content-type")))
    (several_alike kept other (unwrap_or n 0) (at (type_lines kept.lines)) (last_text b) now b how o a)

known_same : (length : Option ℕ) (kept : KeptHead) (other : List Field) → AreAlike kept.lines other → known_length length kept ≡ known_length length (with_lines kept other)
known_same None kept other a = ap (option_and_then digits) (first_same kept.lines other a (codes "content-length"))
known_same (Some n) kept other a = refl

abbrev parts_by : Bool → Asked → Option ℕ → Bool → Chosen → Option (List (ℕ × ℕ))
parts_by counts request n has_boundary o =
    option_and_then (unless_several has_boundary)
    (cond counts (option_and_then (λ m. option_and_then (λ text. ranges text m o.most_ranges) (first (codes "range") request.lines)) n) None)

-- the answer, by whether a condition matches, by the length, and whether a Range counts
abbrev reply_by : Bool → Option ℕ → Bool → Asked → KeptHead → ℕ → Option (List ℕ) → List (List ℕ) → Chosen → Reply
reply_by match n counts request kept now boundary how o =
    cond match (not_modified kept now how o) (answer_with (parts_by counts request n (is_some boundary) o) request kept n now boundary how o)

reply_alike : (match : Bool) (n : Option ℕ) (counts : Bool) (request : Asked) (kept : KeptHead) (other : List Field) (now : ℕ) (boundary : Option (List ℕ)) (how : List (List ℕ)) (o : Chosen)
    → AreAlike kept.lines other → AnswersAlike (reply_by match n counts request kept now boundary how o) (reply_by match n counts request (with_lines kept other) now boundary how o)
reply_alike true n counts request kept other now boundary how o a = not_modified_alike kept other now how o a
reply_alike false n counts request kept other now boundary how o a = by_parts_alike (parts_by counts request n (is_some boundary) o) request kept other n now boundary how o a

pub answer_alike : (request : Asked) (kept : KeptHead) (other : List Field) → AreAlike kept.lines other → (length : Option ℕ) (now : ℕ) (boundary : Option (List ℕ)) (how : List (List ℕ)) (o : Chosen)
    → AnswersAlike (answer_of request kept length now boundary how o) (answer_of request (with_lines kept other) length now boundary how o)
answer_alike request kept other a length now boundary how o =
    let its = with_lines kept other in
    let mine = answer_of request kept length now boundary how o in
    let n = known_length length kept in
    let same : reply_by (matches request kept) n (range_counts request kept) request its now boundary how o ≡ answer_of request its length now boundary how o =
    ap (λ (m : Bool). reply_by m n (range_counts request kept) request its now boundary how o) (matches_same request kept other a)
    ∙ ap (λ (k : Option ℕ). reply_by (matches request its) k (range_counts request kept) request its now boundary how o) (known_same length kept other a)
    ∙ ap (λ (r : Bool). reply_by (matches request its) (known_length length its) r request its now boundary how o) (range_counts_same request kept other a) in
    subst (λ (r : Reply). AnswersAlike mine r) same (reply_alike (matches request kept) n (range_counts request kept) request kept other now boundary how o a)
