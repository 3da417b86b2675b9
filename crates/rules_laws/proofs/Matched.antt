-- Validators are first values.
use Rattle.std.proofs.Common.{◌≡◌, ℕ, List, refl, ap, ◌∙◌, Bool, true, false, not, ◌&&◌, ◌||◌, ◌==◌, cond, length, codes}
use Rattle.std.specs.Prelude.{Option, Some, None, bytes_eq, nat_lt, nat_le, is_some, is_none, option_and_then}
use Rattle.std.specs.Option.{option_map_or}
use Rattle.rules_fields.specs.Texts.{trimmed}
use Rattle.rules_fields.specs.Dates.{date_of}
use Rattle.rules_fields.specs.Tags.{tag_of}
use Rattle.rules_fields.specs.Fields.{Field, first, all, has_line}
use Rattle.rules_fields.specs.Types.{Asked, KeptHead}
use Rattle.rules_response.specs.Tagged.{members, lists_tag}
use Rattle.rules_response.specs.Confirm.{tag_in, date_in, is_tag_sent, is_same_second, is_before, is_strongly_dated, confirms_by_date, confirms}
use Rattle.rules_response.specs.Matching.{is_star, matches_tag, modified_text, modified_in, is_not_after, is_alone, matches_date, matches, is_strong_tag, is_strong_date, range_counts}
use Rattle.rules_laws.specs.Alike.{AreAlike, with_lines}
use Rattle.rules_laws.proofs.Same.{first_same}

pub tag_same : (lines other : List Field) → AreAlike lines other → tag_in lines ≡ tag_in other
tag_same lines other a = ap (option_and_then tag_of) (first_same lines other a (codes "etag"))

date_same : (lines other : List Field) → AreAlike lines other → (name : List ℕ) → date_in name lines ≡ date_in name other
date_same lines other a name = ap (option_and_then date_of) (first_same lines other a name)

modified_same : (lines other : List Field) → AreAlike lines other → modified_in lines ≡ modified_in other
modified_same lines other a =
    ap (λ (m : Option (List ℕ)). option_and_then date_of (modified_text m (first (codes "date") lines))) (first_same lines other a (codes "last-modified"))
    ∙ ap (λ (d : Option (List ℕ)). option_and_then date_of (modified_text (first (codes "last-modified") other) d)) (first_same lines other a (codes "date"))

matches_tag_same : (request lines other : List Field) → AreAlike lines other → matches_tag request lines ≡ matches_tag request other
matches_tag_same request lines other a =
    ap (λ (t : Option (Bool × List ℕ)). is_star (all (codes "if-none-match") request) || option_map_or (λ tag. lists_tag tag.1 (members (codes "if-none-match") request)) t false)
    (tag_same lines other a)

matches_date_same : (request lines other : List Field) → AreAlike lines other → matches_date request lines ≡ matches_date request other
matches_date_same request lines other a = ap (λ (m : Option ℕ). is_alone (codes "if-modified-since") request && is_not_after m (date_in (codes "if-modified-since") request)) (modified_same lines other a)

pub matches_same : (request : Asked) (kept : KeptHead) (other : List Field) → AreAlike kept.lines other → matches request kept ≡ matches request (with_lines kept other)
matches_same request kept other a =
    ap (λ (t : Bool). nat_le 200 kept.status && nat_lt kept.status 300 && cond (has_line (codes "if-none-match") request.lines) t (matches_date request.lines kept.lines))
    (matches_tag_same request.lines kept.lines other a)
    ∙ ap (λ (d : Bool). nat_le 200 kept.status && nat_lt kept.status 300 && cond (has_line (codes "if-none-match") request.lines) (matches_tag request.lines other) d)
    (matches_date_same request.lines kept.lines other a)

strong_tag_same : (text : List ℕ) (lines other : List Field) → AreAlike lines other → is_strong_tag text lines ≡ is_strong_tag text other
strong_tag_same text lines other a =
    ap (λ (t : Option (Bool × List ℕ)). option_map_or (λ tag. option_map_or (λ mine. not tag.0 && not mine.0 && bytes_eq mine.1 tag.1) t false) (tag_of text) false)
    (tag_same lines other a)

strong_date_same : (text : List ℕ) (lines other : List Field) → AreAlike lines other → is_strong_date text lines ≡ is_strong_date text other
strong_date_same text lines other a =
    ap (λ (m : Option (List ℕ)). is_some (date_of text) && option_map_or (λ v. bytes_eq v (trimmed text)) m false && is_before (option_and_then date_of m) (date_in (codes "date") lines))
    (first_same lines other a (codes "last-modified"))
    ∙ ap (λ (d : Option ℕ). is_some (date_of text) && option_map_or (λ v. bytes_eq v (trimmed text)) (first (codes "last-modified") other) false && is_before (date_in (codes "last-modified") other) d)
    (date_same lines other a (codes "date"))

range_same : (alone : Bool) (text : Option (List ℕ)) (lines other : List Field) → AreAlike lines other
    → option_map_or (λ t. alone && (is_strong_tag t lines || is_strong_date t lines)) text true
    ≡ option_map_or (λ t. alone && (is_strong_tag t other || is_strong_date t other)) text true
range_same alone None lines other a = refl
range_same alone (Some text) lines other a =
    ap (λ (t : Bool). alone && (t || is_strong_date text lines)) (strong_tag_same text lines other a)
    ∙ ap (λ (d : Bool). alone && (is_strong_tag text other || d)) (strong_date_same text lines other a)

pub range_counts_same : (request : Asked) (kept : KeptHead) (other : List Field) → AreAlike kept.lines other → range_counts request kept ≡ range_counts request (with_lines kept other)
range_counts_same request kept other a =
    ap (λ (s : Bool). bytes_eq request.method (codes "GET") && kept.status == 200 && is_alone (codes "range") request.lines && s)
    (range_same (is_alone (codes "if-range") request.lines) (first (codes "if-range") request.lines) kept.lines other a)

confirms_by_date_same : (lines other sent : List Field) → AreAlike lines other → confirms_by_date lines sent ≡ confirms_by_date other sent
confirms_by_date_same lines other sent a =
    ap (λ (t : Option (Bool × List ℕ)). cond (has_line (codes "last-modified") sent && (is_none t || is_strongly_dated sent)) (is_same_second (date_in (codes "last-modified") sent) (date_in (codes "last-modified") lines)) true)
    (tag_same lines other a)
    ∙ ap (λ (d : Option ℕ). cond (has_line (codes "last-modified") sent && (is_none (tag_in other) || is_strongly_dated sent)) (is_same_second (date_in (codes "last-modified") sent) d) true)
    (date_same lines other a (codes "last-modified"))

pub confirms_same : (lines other sent : List Field) → AreAlike lines other → confirms lines sent ≡ confirms other sent
confirms_same lines other sent a =
    ap (λ (t : Option (Bool × List ℕ)). option_map_or (λ tag. is_tag_sent tag t) (tag_in sent) (confirms_by_date lines sent)) (tag_same lines other a)
    ∙ ap (λ (b : Bool). option_map_or (λ tag. is_tag_sent tag (tag_in other)) (tag_in sent) b) (confirms_by_date_same lines other sent a)
