-- What a 304 confirms, and what it makes of the stored head (RFC 9111, 3.2, 4.3.3 to 4.3.5).
use Rattle.std.specs.Prelude.{ℕ, Bool, true, false, not, ◌&&◌, ◌||◌, ◌==◌, nat_lt, if◌then◌else◌, List, [], ◌∷◌, ◌++◌, filter, bytes_eq, codes, Option, Some, option_and_then, is_none}
use Rattle.std.specs.Option.{option_map_or}
use Rattle.rules_fields.specs.Texts.{small}
use Rattle.rules_fields.specs.Dates.{date_of}
use Rattle.rules_fields.specs.Numbers.{digits}
use Rattle.rules_fields.specs.Tags.{tag_of}
use Rattle.rules_fields.specs.Tables.{not_updated}
use Rattle.rules_fields.specs.Fields.{Field, first, has_line, without}
use Rattle.rules_fields.specs.Types.{Answered, KeptHead, Chosen, stated}
use Rattle.rules_fields.specs.Says.{says}
use Rattle.rules_storage.specs.Lifetime.{is_explicit}
use Rattle.rules_fields.specs.declared.types.Framing.{Framing}
use Rattle.rules_fields.specs.declared.types.Framing.TheVariants.{Length, Close}

-- the valid entity tag of lines, and the second of a date
abbrev pub tag_in : List Field → Option (Bool × List ℕ)
tag_in lines = option_and_then tag_of (first (codes "etag") lines)

abbrev pub date_in : List ℕ → List Field → Option ℕ
date_in name lines = option_and_then date_of (first name lines)

-- the stored tag is the one that was sent: of a weak one the text, of a strong one all
abbrev pub is_tag_sent : Bool × List ℕ → Option (Bool × List ℕ) → Bool
is_tag_sent sent stored = option_map_or (λ mine. bytes_eq mine.1 sent.1 && (sent.0 || not mine.0)) stored false

-- both show one second, or neither shows any
abbrev pub is_same_second : Option ℕ → Option ℕ → Bool
is_same_second Option.None b = is_none b
is_same_second (Some a) b = option_map_or (λ n. n == a) b false

-- both show a second, and the first is earlier
abbrev pub is_before : Option ℕ → Option ℕ → Bool
is_before a b = option_map_or (λ n. option_map_or (λ m. nat_lt n m) b false) a false

-- Last-Modified lies a second or more before Date, so that it is a strong validator (RFC 9110, 8.8.2.2)
abbrev pub is_strongly_dated : List Field → Bool
is_strongly_dated lines = is_before (date_in (codes "last-modified") lines) (date_in (codes "date") lines)

-- by Last-Modified, where one was sent, and it is strong, or nothing stored has a tag
abbrev pub confirms_by_date : List Field → List Field → Bool
confirms_by_date stored sent =
    if has_line (codes "last-modified") sent && (is_none (tag_in stored) || is_strongly_dated sent)
    then is_same_second (date_in (codes "last-modified") sent) (date_in (codes "last-modified") stored)
    else true

-- the 304 is of what is stored (4.3.4): by the tag that was sent, else by its Last-Modified
abbrev pub confirms : List Field → List Field → Bool
confirms stored sent = option_map_or (λ tag. is_tag_sent tag (tag_in stored)) (tag_in sent) (confirms_by_date stored sent)

-- the stored lines whose names weren't sent, then those that were sent: but none on which the stored body depends (3.2)
abbrev pub merged_lines : List Field → List Field → List Field
merged_lines stored lines =
    let sent = without not_updated lines in
    filter (λ f. not (has_line (small f.0) sent)) stored ++ sent

abbrev pub framed : Option ℕ → Framing
framed Option.None = Close
framed (Some n) = Length n

-- the stored response as these lines make it
abbrev pub merged_with : KeptHead → List Field → ℕ → Answered
merged_with kept lines minor = record {
  status = kept.status;
  minor = minor;
  lines = without (codes "content-length" ∷ []) (merged_lines kept.lines lines);
  framing = framed (option_and_then digits (first (codes "content-length") kept.lines));
}

-- as a 304's fields make it
abbrev pub merged_head : KeptHead → Answered → Answered
merged_head kept response = merged_with kept response.lines response.minor

-- a 304 brings Set-Cookie, and the operator doesn't store it where freshness is explicit (7.3)
abbrev pub brings_cookies : Answered → Answered → Chosen → Bool
brings_cookies response merged o =
    has_line (codes "set-cookie") response.lines && not (o.stores_cookies && is_explicit (says merged.lines o))

-- what is stored of a merged head: without the Set-Cookie lines of the 304, which go to who asked
abbrev pub stored_from : KeptHead → Answered → Answered → Chosen → Answered
stored_from kept response merged o =
    if brings_cookies response merged o then merged_with kept (without (codes "set-cookie" ∷ []) response.lines) response.minor else merged

-- none where the 304 is of another response
abbrev pub freshen : KeptHead → Answered → Option Answered
freshen kept response = if confirms kept.lines response.lines then Some (merged_head kept response) else Option.None

-- what was sent under a name, if anything, is what is stored
abbrev pub agrees : List ℕ → List Field → List Field → Bool
agrees name stored sent = option_map_or (λ v. option_map_or (λ mine. bytes_eq mine v) (first name stored) false) (first name sent) true

-- a 200 to HEAD is of what is stored (4.3.5): status, length and validators agree where it has them
abbrev pub is_head_of : KeptHead → ℕ → Answered → Bool
is_head_of kept length response =
    kept.status == response.status && option_map_or (λ n. n == length) (stated response.framing) true
    && agrees (codes "etag") kept.lines response.lines && agrees (codes "last-modified") kept.lines response.lines

abbrev pub freshen_by_head : KeptHead → ℕ → Answered → Option Answered
freshen_by_head kept length response = if is_head_of kept length response then freshen kept response else Option.None
