-- What counts of a request is what it has under a few names.
use Rattle.std.proofs.Common.{◌≡◌, ℕ, List, [], ◌∷◌, refl, sym, ap, ◌∙◌, Bool, true, false, not, ◌&&◌, ◌||◌, ◌==◌, cond, length, map, codes}
use Rattle.std.specs.Prelude.{Option, Some, None, bytes_eq, nat_lt, nat_le, max, unwrap_or, is_some, is_none, option_and_then}
use Rattle.std.specs.Option.{option_map_or}
use Rattle.std.specs.List.{list_any, flat_map}
use Rattle.rules_fields.specs.Texts.{small}
use Rattle.rules_fields.specs.Dates.{date_of}
use Rattle.rules_fields.specs.Tables.{among, asked}
use Rattle.rules_fields.specs.Fields.{Field, first, all, has_line, elements_of}
use Rattle.rules_fields.specs.Directives.{directives_of}
use Rattle.rules_fields.specs.Meaning.{Meaning}
use Rattle.rules_fields.specs.Asking.{seconds_under, has}
use Rattle.rules_fields.specs.Rows.{first_true}
use Rattle.rules_fields.specs.Says.{says}
use Rattle.rules_fields.specs.Types.{Asked, Answered, KeptHead, Chosen}
use Rattle.rules_storage.specs.Judge.{opens_authorized}
use Rattle.rules_storage.specs.Good.{is_late_by}
use Rattle.rules_reuse.specs.Planning.{asked_directives, reloads, is_reload}
use Rattle.rules_reuse.specs.declared.using.Use.{Use}
use Rattle.rules_reuse.specs.declared.using.Use.TheVariants.{Pass, Validate, Fresh, Stale, Meanwhile}
use Rattle.rules_reuse.specs.Using.{must_validate, is_older, is_fresh_for, most_late, use_of, is_failure, most_spared, may_spare}
use Rattle.rules_response.specs.Reply.{Reply}
use Rattle.rules_response.specs.Confirm.{tag_in}
use Rattle.rules_response.specs.Tagged.{members_of, lists_tag}
use Rattle.rules_response.specs.Matching.{is_star, modified_in, is_not_after, matches, is_strong_tag, is_strong_date, range_counts}
use Rattle.rules_response.specs.Ranges.{ranges}
use Rattle.rules_response.specs.Answering.{known_length, not_modified, named_parts, unless_several, chosen_parts, answer_with, answer_of}
use Rattle.rules_response.specs.declared.telling.Fetch.{Fetch}
use Rattle.rules_response.specs.declared.telling.Fetch.TheVariants.{PassOn, Fill, Confirm, Again}
use Rattle.rules_response.specs.Told.{asks_for_whole, is_cut, as_kept, body_length, at_most_one, told_parts, told_304, told_whole, told_by, told_reply}
use Rattle.rules_laws.specs.Asking.{asked_lines, with_asked}
use Rattle.rules_laws.proofs.Same.{head, first_is}
use Rattle.rules_laws.proofs.Named.{all_passing}

all_asked : (name : List ℕ) → among asked name ≡ true → (lines : List Field) → all name (asked_lines lines) ≡ all name lines
all_asked name h lines = all_passing (among asked) name lines ∙ ap (λ (b : Bool). cond b (all name lines) []) h

first_asked : (name : List ℕ) → among asked name ≡ true → (lines : List Field) → first name (asked_lines lines) ≡ first name lines
first_asked name h lines = first_is name (asked_lines lines) ∙ ap head (all_asked name h lines) ∙ sym (first_is name lines)

directives_asked : (request : Asked) (o : Chosen) → asked_directives (with_asked request) o ≡ asked_directives request o
directives_asked request o =
    ap (λ (vs : List (List ℕ)). cond o.heeds_requests (flat_map directives_of vs) []) (all_asked (codes "cache-control") refl request.lines)

reload_asked : (request : Asked) (o : Chosen) → is_reload (with_asked request) o ≡ is_reload request o
reload_asked request o =
    ap (λ (ds : List Meaning). o.heeds_requests && reloads ds (asked_lines request.lines)) (directives_asked request o)
    ∙ ap (λ (vs : List (List ℕ)). o.heeds_requests && (has (codes "no-cache") (asked_directives request o)
    || (length (asked_directives request o) == 0 && list_any (λ t. bytes_eq t (codes "no-cache")) (map small (flat_map elements_of vs)))))
    (all_asked (codes "pragma") refl request.lines)

-- the use, by whether there is Authorization, by the directives, and by whether it reloads
abbrev used_by : Bool → List Meaning → Bool → KeptHead → ℕ → Chosen → Use
used_by auth ds reload kept now o =
    unwrap_or (first_true
    ((Pass, auth && not o.authorized_reads && not (opens_authorized (says kept.lines o)))
    ∷ (Validate, reload || is_older kept now (seconds_under (codes "max-age") ds))
    ∷ (Fresh, is_fresh_for kept now (unwrap_or (seconds_under (codes "min-fresh") ds) 0))
    ∷ (Validate, is_some (seconds_under (codes "min-fresh") ds))
    ∷ (Stale, option_map_or (λ n. is_late_by kept now n) (most_late ds) false && not (must_validate kept o))
    ∷ (Meanwhile, is_late_by kept now kept.stale_while_revalidate && not (kept.stale_while_revalidate == 0))
    ∷ [])) Validate

pub use_asked : (request : Asked) (kept : KeptHead) (now : ℕ) (o : Chosen) → use_of (with_asked request) kept now o ≡ use_of request kept now o
use_asked request kept now o =
    ap (λ (v : Option (List ℕ)). used_by (is_some v) (asked_directives (with_asked request) o) (is_reload (with_asked request) o) kept now o)
    (first_asked (codes "authorization") refl request.lines)
    ∙ ap (λ (ds : List Meaning). used_by (has_line (codes "authorization") request.lines) ds (is_reload (with_asked request) o) kept now o) (directives_asked request o)
    ∙ ap (λ (b : Bool). used_by (has_line (codes "authorization") request.lines) (asked_directives request o) b kept now o) (reload_asked request o)

abbrev spared_by : List Meaning → Bool → KeptHead → ℕ → Option ℕ → Chosen → Bool
spared_by ds reload kept now status o =
    is_failure status && not reload && (let most = most_spared ds kept status o in not (most == 0) && is_late_by kept now most)

pub spared_asked : (request : Asked) (kept : KeptHead) (now : ℕ) (status : Option ℕ) (o : Chosen)
    → may_spare (with_asked request) kept now status o ≡ may_spare request kept now status o
spared_asked request kept now status o =
    ap (λ (ds : List Meaning). spared_by ds (is_reload (with_asked request) o) kept now status o) (directives_asked request o)
    ∙ ap (λ (b : Bool). spared_by (asked_directives request o) b kept now status o) (reload_asked request o)

-- whether a condition lets 304 answer, by If-None-Match and If-Modified-Since
abbrev matched_by : Option (List ℕ) → List (List ℕ) → List (List ℕ) → Option (List ℕ) → KeptHead → Bool
matched_by tag tags dates date kept =
    nat_le 200 kept.status && nat_lt kept.status 300
    && cond (is_some tag)
    (is_star tags || option_map_or (λ t. lists_tag t.1 (flat_map members_of tags)) (tag_in kept.lines) false)
    (length dates == 1 && is_not_after (modified_in kept.lines) (option_and_then date_of date))

matches_asked : (request : Asked) (kept : KeptHead) → matches (with_asked request) kept ≡ matches request kept
matches_asked request kept =
    let few = asked_lines request.lines in
    let lines = request.lines in
    let tag = codes "if-none-match" in
    let date = codes "if-modified-since" in
    ap (λ (v : Option (List ℕ)). matched_by v (all tag few) (all date few) (first date few) kept) (first_asked (codes "if-none-match") refl lines)
    ∙ ap (λ (vs : List (List ℕ)). matched_by (first tag lines) vs (all date few) (first date few) kept) (all_asked (codes "if-none-match") refl lines)
    ∙ ap (λ (vs : List (List ℕ)). matched_by (first tag lines) (all tag lines) vs (first date few) kept) (all_asked (codes "if-modified-since") refl lines)
    ∙ ap (λ (v : Option (List ℕ)). matched_by (first tag lines) (all tag lines) (all date lines) v kept) (first_asked (codes "if-modified-since") refl lines)

-- whether a Range counts, by Range and If-Range
abbrev counted_by : List (List ℕ) → List (List ℕ) → Option (List ℕ) → List ℕ → KeptHead → Bool
counted_by ranged alone same method kept =
    bytes_eq method (codes "GET") && kept.status == 200 && length ranged == 1
    && option_map_or (λ text. length alone == 1 && (is_strong_tag text kept.lines || is_strong_date text kept.lines)) same true

counts_asked : (request : Asked) (kept : KeptHead) → range_counts (with_asked request) kept ≡ range_counts request kept
counts_asked request kept =
    let few = asked_lines request.lines in
    let lines = request.lines in
    let same = codes "if-range" in
    ap (λ (vs : List (List ℕ)). counted_by vs (all same few) (first same few) request.method kept) (all_asked (codes "range") refl lines)
    ∙ ap (λ (vs : List (List ℕ)). counted_by (all (codes "range") lines) vs (first same few) request.method kept) (all_asked (codes "if-range") refl lines)
    ∙ ap (λ (v : Option (List ℕ)). counted_by (all (codes "range") lines) (all same lines) v request.method kept) (first_asked (codes "if-range") refl lines)

named_asked : (request : Asked) (kept : KeptHead) (n : Option ℕ) (o : Chosen) → named_parts (with_asked request) kept n o ≡ named_parts request kept n o
named_asked request kept n o =
    ap (λ (b : Bool). cond b (option_and_then (λ m. option_and_then (λ text. ranges text m o.most_ranges) (first (codes "range") (asked_lines request.lines))) n) None)
    (counts_asked request kept)
    ∙ ap (λ (v : Option (List ℕ)). cond (range_counts request kept) (option_and_then (λ m. option_and_then (λ text. ranges text m o.most_ranges) v) n) None)
    (first_asked (codes "range") refl request.lines)

chosen_asked : (request : Asked) (kept : KeptHead) (n : Option ℕ) (bounded : Bool) (o : Chosen)
    → chosen_parts (with_asked request) kept n bounded o ≡ chosen_parts request kept n bounded o
chosen_asked request kept n bounded o =
    ap (λ (ps : Option (List (ℕ × ℕ))). option_and_then (unless_several bounded) ps) (named_asked request kept n o)

answered_asked : (parts : Option (List (ℕ × ℕ))) (request : Asked) (kept : KeptHead) (n : Option ℕ) (now : ℕ) (boundary : Option (List ℕ)) (how : List (List ℕ)) (o : Chosen)
    → answer_with parts (with_asked request) kept n now boundary how o ≡ answer_with parts request kept n now boundary how o
answered_asked None request kept n now boundary how o = refl
answered_asked (Some parts) request kept n now boundary how o = refl

pub answer_asked : (request : Asked) (kept : KeptHead) (length : Option ℕ) (now : ℕ) (boundary : Option (List ℕ)) (how : List (List ℕ)) (o : Chosen)
    → answer_of (with_asked request) kept length now boundary how o ≡ answer_of request kept length now boundary how o
answer_asked request kept length now boundary how o =
    let n = known_length length kept in
    let few = with_asked request in
    let bounded = is_some boundary in
    ap (λ (b : Bool). cond b (not_modified kept now how o) (answer_with (chosen_parts few kept n bounded o) few kept n now boundary how o)) (matches_asked request kept)
    ∙ ap (λ (ps : Option (List (ℕ × ℕ))). cond (matches request kept) (not_modified kept now how o) (answer_with ps few kept n now boundary how o))
    (chosen_asked request kept n bounded o)
    ∙ ap (λ (a : Reply). cond (matches request kept) (not_modified kept now how o) a) (answered_asked (chosen_parts request kept n bounded o) request kept n now boundary how o)

whole_asked : (fetch : Fetch) (request : Asked) (p : Answered) (o : Chosen) → asks_for_whole fetch (with_asked request) p o ≡ asks_for_whole fetch request p o
whole_asked PassOn request p o = refl
whole_asked Fill request p o = ap (λ (v : Option (List ℕ)). o.fills_ranges || not (is_some v)) (first_asked (codes "range") refl request.lines)
whole_asked Confirm request p o = refl
whole_asked Again request p o = refl

handed_asked : (parts : Option (List (ℕ × ℕ))) (request : Asked) (p : Answered) (asked came : ℕ) (how : List (List ℕ)) (o : Chosen)
    → told_by parts (with_asked request) p asked came how o ≡ told_by parts request p asked came how o
handed_asked None request p asked came how o = refl
handed_asked (Some []) request p asked came how o = refl
handed_asked (Some (part ∷ [])) request p asked came how o = refl
handed_asked (Some (part ∷ other ∷ parts)) request p asked came how o = refl

-- what is handed on, by whether it was asked for as a whole, whether a condition lets 304 answer, and the parts
abbrev handed_by : Bool → Bool → Option (List (ℕ × ℕ)) → Asked → Answered → ℕ → ℕ → List (List ℕ) → Chosen → Reply
handed_by whole matched parts request p asked came how o =
    cond (not (bytes_eq request.method (codes "GET") && whole)) (told_whole request p asked came how o)
    (cond matched (told_304 p asked came how o) (told_by parts request p asked came how o))

pub told_asked : (fetch : Fetch) (request : Asked) (p : Answered) (asked came : ℕ) (how : List (List ℕ)) (o : Chosen)
    → told_reply fetch (with_asked request) p asked came how o ≡ told_reply fetch request p asked came how o
told_asked fetch request p asked came how o =
    let few = with_asked request in
    let kept = as_kept p in
    ap (λ (b : Bool). handed_by b (matches few kept) (told_parts few p o) few p asked came how o) (whole_asked fetch request p o)
    ∙ ap (λ (b : Bool). handed_by (asks_for_whole fetch request p o) b (told_parts few p o) few p asked came how o) (matches_asked request kept)
    ∙ ap (λ (ps : Option (List (ℕ × ℕ))). handed_by (asks_for_whole fetch request p o) (matches request kept) (option_and_then at_most_one ps) few p asked came how o)
    (named_asked request kept (body_length p.framing) o)
    ∙ ap (λ (a : Reply). cond (not (is_cut fetch request p o)) (told_whole request p asked came how o) (cond (matches request kept) (told_304 p asked came how o) a))
    (handed_asked (told_parts request p o) request p asked came how o)
