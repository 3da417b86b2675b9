-- Where the whole is written at once it is the answer.
use Rattle.std.proofs.Common.{◌≡◌, ℕ, ◌==◌, List, [], refl, sym, ap, ◌∙◌, Bool, true, false, not, ◌&&◌, ◌||◌, cond, codes, length, if◌then◌else◌, arith}
use Rattle.std.proofs.lemmas.Bool.Decides.{nat_tests}
use Rattle.std.specs.Prelude.{Option, Some, None, option_and_then, option_map, is_some, bytes_eq, nat_le, nat_lt}
use Rattle.rules_fields.specs.Fields.{Field, first, has_line}
use Rattle.rules_fields.specs.Types.{Asked, KeptHead, Chosen}
use Rattle.rules_response.specs.Confirm.{date_in}
use Rattle.rules_response.specs.Matching.{is_not_after, modified_in, matches_tag, matches_date, matches, is_same_for_range, range_counts}
use Rattle.rules_response.specs.Ranges.{ranges}
use Rattle.rules_response.specs.Answering.{whole, not_modified, unless_several, answer_with, answer_of}
use Rattle.rules_ffi_arguments.specs.Given.{◌>>=◌}
use Rattle.rules_ffi_arguments.specs.Moments.{nanoseconds_of}
use Rattle.rules_ffi_arguments.specs.Responses.{code_in}
use Rattle.rules_ffi_arguments.specs.Spans.{block_lines}
use Rattle.rules_ffi_arguments.specs.Stored.{kept_from, kept_by}
use Rattle.rules_ffi_arguments.specs.declared.shapes.HeadShape.{HeadShape}
use Rattle.rules_ffi_arguments.specs.declared.shapes.RequestShape.{RequestShape}
use Rattle.rules_ffi_arguments.specs.declared.shapes.How.{How}
use Rattle.rules_ffi_results.specs.Hows.{said, time_to_live}
use Rattle.rules_ffi_results.specs.Numbers.{none}
use Rattle.rules_ffi_results.specs.Sending.{Answered}
use Rattle.rules_serving.specs.Answers.{known, shaped, reply_by}
use Rattle.rules_serving.specs.Boundary.{boundary_in}
use Rattle.rules_serving.specs.Whole.{asks_for_a_part, plain, plain_lines, over, is_at_once}
use Rattle.rules_serving.proofs.Written.{none_named}

pub isnt : (a b : ℕ) → (a ≡ b → ⊥) → (a == b) ≡ false
isnt a b h = grind (arith, nat_tests)

or_first : (a b : Bool) → (a || b) ≡ false → a ≡ false
or_first true b h = cc
or_first false b h = refl

or_second : (a b : Bool) → (a || b) ≡ false → b ≡ false
or_second true b h = cc
or_second false b h = h

and_none : (a : Bool) → (a && false) ≡ false
and_none true = refl
and_none false = refl

matches_none : (request : Asked) (kept : KeptHead) → has_line (codes "if-none-match") request.lines ≡ false → has_line (codes "if-modified-since") request.lines ≡ false → matches request kept ≡ false
matches_none request kept h k =
    let ok = nat_le 200 kept.status && nat_lt kept.status 300 in
    let late = is_not_after (modified_in kept.lines) (date_in (codes "if-modified-since") request.lines) in
    ap (λ (b : Bool). ok && (if b then matches_tag request.lines kept.lines else matches_date request.lines kept.lines)) h
    ∙ ap (λ (vs : List (List ℕ)). ok && (length vs == 1 && late)) (none_named (codes "if-modified-since") request.lines k) ∙ and_none ok

counts_none : (request : Asked) (kept : KeptHead) → has_line (codes "range") request.lines ≡ false → range_counts request kept ≡ false
counts_none request kept h =
    let front = bytes_eq request.method (codes "GET") && kept.status == 200 in
    let same = is_same_for_range request.lines kept.lines in
    ap (λ (vs : List (List ℕ)). front && length vs == 1 && same) (none_named (codes "range") request.lines h) ∙ ap (λ (b : Bool). b && same) (and_none front)

-- where there is no condition and no Range the whole answers, whatever the boundary
pub whole_answers : (request : Asked) (kept : KeptHead) (n now : ℕ) (boundary : Option (List ℕ)) (how : List (List ℕ)) (o : Chosen) → asks_for_a_part request.lines ≡ false
    → whole request kept (Some n) now how o ≡ answer_of request kept (Some n) now boundary how o
whole_answers request kept n now boundary how o h =
    let tag = has_line (codes "if-none-match") request.lines in
    let date = has_line (codes "if-modified-since") request.lines in
    let front = or_first (tag || date) (has_line (codes "range") request.lines) h in
    sym (ap (λ (b : Bool). if b then not_modified kept now how o
    else answer_with (option_and_then (unless_several (is_some boundary)) (if range_counts request kept
    then option_and_then (λ m. option_and_then (λ text. ranges text m o.most_ranges) (first (codes "range") request.lines)) (Some n) else None))
    request kept (Some n) now boundary how o)
    (matches_none request kept (or_first tag date front) (or_second tag date front))
    ∙ ap (λ (b : Bool). answer_with (option_and_then (unless_several (is_some boundary)) (if b
    then option_and_then (λ m. option_and_then (λ text. ranges text m o.most_ranges) (first (codes "range") request.lines)) (Some n) else None))
    request kept (Some n) now boundary how o)
    (counts_none request kept (or_second (tag || date) (has_line (codes "range") request.lines) h)))

abbrev made : RequestShape → Asked → HeadShape → ℕ → ℕ → How → Chosen → KeptHead → Answered
made q request h length now way o kept =
    shaped (answer_of request kept (known length) now (boundary_in request now o) (said way (Some (time_to_live (nanoseconds_of h.updated) kept.lifetime now))) o) q way

reply_unfolded : (q : RequestShape) (request : Asked) (h : HeadShape) (lines : List ℕ) (length now : ℕ) (way : How) (o : Chosen)
    → reply_by q request h lines length now way o ≡ (block_lines lines >>= λ stored. kept_by h stored >>= λ kept. Some (made q request h length now way o kept))
unfolding reply_by
reply_unfolded q request h lines length now way o = refl

kept_over : (h : HeadShape) (fs : List Field) (kept : KeptHead) → kept_by h [] ≡ Some kept → kept_by h fs ≡ Some (over kept fs)
unfolding kept_by
kept_over h fs kept e = go (code_in h.status) e
  where
    go : (s : Option ℕ) → (s >>= λ status. Some (kept_from h [] status)) ≡ Some kept → (s >>= λ status. Some (kept_from h fs status)) ≡ Some (over kept fs)
    go None e = cc
    go (Some status) e = let k : kept_from h [] status ≡ kept = cc in rw (← k) refl

kept_none : (h : HeadShape) (fs : List Field) → kept_by h [] ≡ None → kept_by h fs ≡ None
unfolding kept_by
kept_none h fs e = go (code_in h.status) e
  where
    go : (s : Option ℕ) → (s >>= λ status. Some (kept_from h [] status)) ≡ None → (s >>= λ status. Some (kept_from h fs status)) ≡ None
    go None e = refl
    go (Some status) e = cc

-- the whole, by what the head alone tells, is the reply where it is written at once
pub reply_whole : (q : RequestShape) (request : Asked) (h : HeadShape) (lines : List ℕ) (length now : ℕ) (way : How) (o : Chosen) (kept : KeptHead)
    → kept_by h [] ≡ Some kept → (length == none) ≡ false → asks_for_a_part request.lines ≡ false
    → option_map (λ (fs : List Field). shaped (whole request (over kept fs) (Some length) now (said way (Some (time_to_live (nanoseconds_of h.updated) kept.lifetime now))) o) q way) (plain_lines lines)
    ≡ (if is_at_once request lines length then reply_by q request h lines length now way o else None)
reply_whole q request h lines length now way o kept e known_here asks =
    go (block_lines lines)
    ∙ ap (λ (r : Option Answered). if is_some (plain_lines lines) then r else None) (sym (reply_unfolded q request h lines length now way o))
    ∙ ap (λ (b : Bool). if b then reply_by q request h lines length now way o else None)
    (sym (ap (λ (b : Bool). not b && not (asks_for_a_part request.lines) && is_some (plain_lines lines)) known_here ∙ ap (λ (b : Bool). not b && is_some (plain_lines lines)) asks))
  where
    how : List (List ℕ)
    how = said way (Some (time_to_live (nanoseconds_of h.updated) kept.lifetime now))

    one : (fs : List Field) → Some (shaped (whole request (over kept fs) (Some length) now how o) q way) ≡ (kept_by h fs >>= λ kept. Some (made q request h length now way o kept))
    one fs =
        ap (λ r. Some (shaped r q way)) (whole_answers request (over kept fs) length now (boundary_in request now o) how o asks
        ∙ ap (λ (b : Bool). answer_of request (over kept fs) (if b then None else Some length) now (boundary_in request now o) how o) (sym known_here))
        ∙ sym (ap (λ (k : Option KeptHead). k >>= λ kept. Some (made q request h length now way o kept)) (kept_over h fs kept e))

    go : (b : Option (List Field)) → option_map (λ (fs : List Field). shaped (whole request (over kept fs) (Some length) now how o) q way) (b >>= plain)
        ≡ (if is_some (b >>= plain) then (b >>= λ stored. kept_by h stored >>= λ kept. Some (made q request h length now way o kept)) else None)
    go None = refl
    go (Some fs) = by (has_line (codes "cache-status") fs)
      where
        by : (t : Bool) → option_map (λ (fs : List Field). shaped (whole request (over kept fs) (Some length) now how o) q way) (cond t None (Some fs))
            ≡ (if is_some (cond t None (Some fs)) then (kept_by h fs >>= λ kept. Some (made q request h length now way o kept)) else None)
        by true = refl
        by false = one fs

either : (b : Bool) → (if b then (let n : Option Answered = None in n) else None) ≡ None
either true = refl
either false = refl

-- no reply by a head that isn't one
pub reply_none : (q : RequestShape) (request : Asked) (h : HeadShape) (lines : List ℕ) (length now : ℕ) (way : How) (o : Chosen) → kept_by h [] ≡ None
    → None ≡ (if is_at_once request lines length then reply_by q request h lines length now way o else None)
reply_none q request h lines length now way o e =
    sym (ap (λ (r : Option Answered). if is_at_once request lines length then r else None) (reply_unfolded q request h lines length now way o ∙ go (block_lines lines))
    ∙ either (is_at_once request lines length))
  where
    go : (b : Option (List Field)) → (b >>= λ stored. kept_by h stored >>= λ kept. Some (made q request h length now way o kept)) ≡ None
    go None = refl
    go (Some fs) = ap (λ (k : Option KeptHead). k >>= λ kept. Some (made q request h length now way o kept)) (kept_none h fs e)

-- what was written at once is the reply
pub then_is : (b : Bool) (given : Option Answered) (a : Answered) → Some a ≡ (if b then given else None) → given ≡ Some a
then_is true given a h = sym h
then_is false given a h = cc
