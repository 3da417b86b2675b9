-- Metas that calls give, and finishes: each can be written.
use Rattle.std.proofs.Common.{◌≡◌, ℕ, ap, ◌∙◌, true, false, cond}
use Rattle.std.specs.Prelude.{Bool, List, Option, Some, None, Err, IfSome}
use Rattle.cache_words.specs.Time.{MomentValue}
use Rattle.cache_words.specs.Key.{CacheKeyValue}
use Rattle.head_lines.specs.declared.header.ResponseHeader.{ResponseHeader}
use Rattle.cache_heads.specs.declared.given.GivenMeta.{GivenMeta}
use Rattle.cache_heads.specs.declared.meta.CacheMeta.{CacheMeta}
use Rattle.cache_entries.specs.declared.entry.CacheEntryKey.{CacheEntryKey}
use Rattle.cache_entries.specs.Entry.{key_of}
use Rattle.head_lines.specs.Lines.{map_of}
use Rattle.head_parse.specs.Response.{Reading, whole_head, begun_head, no_head, is_within_bounds, parsed_of, head_of, split_of, Splits}
use Rattle.head_parse.specs.declared.response.Response.{Response}
use Rattle.head_parse.specs.declared.response.Split.TheVariants as split
use Rattle.head_parse.specs.declared.response.Parsed.{Parsed}
use Rattle.head_parse.specs.declared.response.Parsed.TheVariants as parsed
use Rattle.tier_model.specs.declared.event.Action.{Action}
use Rattle.tier_model.specs.declared.event.Action.TheVariants.{Begin, Revalidate, Put}
use Rattle.tier_model.specs.declared.whole.PutVerdict.{PutVerdict}
use Rattle.tier_model.specs.declared.whole.PutVerdict.TheVariants as whole
use Rattle.tier_model.specs.Response.{Judged, kept, not_kept, too_early, not_read, judged, as_given, judged_alone, whole_with, whole_by, whole_given, whole_as, whole_in, judged_in, confirmed_in}
use Rattle.tier_model.specs.declared.event.TierFault.{TierFault}
use Rattle.tier_model.specs.declared.event.TierFault.TheVariants as fault
use Rattle.tier_model.specs.Calls.{finished_in}
use Rattle.tier_model.specs.Rows.{FinishedBody}
use Rattle.tier_model.specs.Shelf.{InFlight, Shelf, has_number}
use Rattle.tier_model.specs.State.{Request}
use Rattle.tier_model.specs.Answers.{body_under, flight_of, finishing}
use Rattle.tier_single.specs.Given.{IsAsGiven, IsWholeGiven}
use Rattle.tier_single.proofs.DatedLaws.{IsDated, DatedIn, judged-dated, as-given-dated, judged-with-dated, confirmed-dated, dated-found, IsDatedShelf}

abbrev pub DatedWhole : PutVerdict → Type 0
DatedWhole (whole.Stored body) = IsDated body.meta
DatedWhole _ = Unit {0}

with_dated : (bytes : List ℕ) (j : Judged) → DatedIn j → DatedWhole (whole_with bytes j)
with_dated bytes (kept meta) d = d
with_dated bytes (not_kept reason) d = tt
with_dated bytes too_early d = tt
with_dated bytes not_read d = tt

whole_dated : (t : MomentValue) (p : Parsed) → DatedWhole (whole_by t p)
whole_dated t (parsed.Complete response) = with_dated response.body (judged t response.header) (judged-dated t response.header)
whole_dated t (parsed.Incomplete short) = tt
whole_dated t parsed.BadHead = tt

pub given-dated : (s : GivenMeta) (r : Reading) → DatedWhole (whole_given s r)
given-dated s (whole_head status lines rest) = by_bounds (is_within_bounds status lines)
  where
    header : ResponseHeader
    header = record { status = status; headers = map_of lines }

    by_bounds : (v : Bool) → DatedWhole (cond v (whole_with rest (as_given s header)) whole.BadHead)
    by_bounds true = with_dated rest (as_given s header) (as-given-dated s header)
    by_bounds false = tt
given-dated s begun_head = tt
given-dated s no_head = tt

-- a head that was split off gives what it gives as it is given
whole_split : (s : GivenMeta) (response : Response) (j : Judged) (r : Reading) → split.Head response ≡ split_of r → as_given s response.header ≡ j → whole_given s r ≡ whole_with response.body j
whole_split s response j (whole_head status lines rest) is gives = by_bounds (is_within_bounds status lines) (record { header = record { status = status; headers = map_of lines }; body = rest }) is
  where
    by_bounds : (v : Bool) (other : Response) → split.Head response ≡ cond v (split.Head other) split.BadHead
        → cond v (whole_with other.body (as_given s other.header)) whole.BadHead ≡ whole_with response.body j
    by_bounds true other is =
        let same : other ≡ response = cc in
        ap (λ (x : Response). whole_with x.body (as_given s x.header)) same ∙ ap (whole_with response.body) gives
    by_bounds false other is = absurd cc
whole_split s response j begun_head is gives = absurd cc
whole_split s response j no_head is gives = absurd cc

-- one that was split off, but has no body of its own, or a moment before 1970
pub given-refused : (s : GivenMeta) (bytes : List ℕ) (response : Response) (f : TierFault) → Splits bytes (split.Head response) → IsAsGiven s response.header (Err f) → IsWholeGiven s bytes (Err f)
given-refused s bytes response fault.BadHead splits gives = (splits.0, splits.1, whole_split s response not_read splits.0 splits.2 gives)
given-refused s bytes response fault.BeforeEpoch splits gives = (splits.0, splits.1, whole_split s response too_early splits.0 splits.2 gives)
given-refused s bytes response f splits gives = absurd gives

whole_as_dated : (given : Option GivenMeta) (t : MomentValue) (r : Reading) → DatedWhole (whole_as given t r)
whole_as_dated None t r = whole_dated t (parsed_of r)
whole_as_dated (Some s) t r = given-dated s r

put_dated : (key : CacheKeyValue) (pieces : List (List ℕ)) (given : Option GivenMeta) (w : PutVerdict) → DatedWhole w → IfSome (finished_in (Put key pieces given) (Some w)) (λ b. IsDated b.body.meta)
put_dated key pieces given (whole.Stored body) d = d
put_dated key pieces given _ d = tt

pub finished-given : (t : MomentValue) (action : Action) (r : Option Reading) → IfSome (finished_in action (whole_in t action r)) (λ b. IsDated b.body.meta)
finished-given t (Put key pieces given) (Some r) = put_dated key pieces given (whole_as given t r) (whole_as_dated given t r)
finished-given t (Put key pieces given) None = tt
finished-given t _ r = tt

alone_dated : (given : Option GivenMeta) (t : MomentValue) (o : Option ResponseHeader) → DatedIn (judged_alone given t o)
alone_dated given t None = tt
alone_dated given t (Some header) = judged-with-dated given t header

pub judged-given : (t : MomentValue) (action : Action) (r : Option Reading) → IfSome (judged_in t action r) DatedIn
judged-given t (Begin id head given) (Some r) = alone_dated given t (head_of r)
judged-given t (Begin id head given) None = tt
judged-given t _ r = tt

pub confirmed-given : (t : MomentValue) (old : Option CacheMeta) (action : Action) (r : Option Reading) → IfSome old IsDated → IfSome (confirmed_in t old action r) DatedIn
confirmed-given t (Some old) (Revalidate id head given) (Some r) d = confirmed-dated given t old (head_of r) d
confirmed-given t (Some old) (Revalidate id head given) None d = tt
confirmed-given t (Some old) _ r d = tt
confirmed-given t None action r d = tt

flight_dated : (entry : CacheEntryKey) (f : Option InFlight) → IfSome f (λ f. IsDated f.meta) → IfSome (body_under entry f) (λ b. IsDated b.body.meta)
flight_dated entry None d = tt
flight_dated entry (Some f) d = by_removed f.removed
  where
    by_removed : (v : Bool) → IfSome {T = FinishedBody} (cond v None (Some (record { entry = key_of entry; body = record { bytes = f.bytes; meta = f.meta } }))) (λ b. IsDated b.body.meta)
    by_removed true = tt
    by_removed false = d

pub finishing-given : (q : Request) (shelf : Shelf) → IsDatedShelf shelf → IfSome (finishing q shelf) (λ b. IsDated b.body.meta)
finishing-given q shelf h = flight_dated q.entry (flight_of q.write shelf) (by_write q.write)
  where
    by_write : (w : Option ℕ) → IfSome (flight_of w shelf) (λ f. IsDated f.meta)
    by_write None = tt
    by_write (Some n) = dated-found (has_number n) shelf.flying h.flying
