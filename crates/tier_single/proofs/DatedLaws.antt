-- Metas that can be written: those of heads that are kept, and what a shelf holds of them.
use Rattle.std.proofs.Common.{◌≡◌, ℕ, refl, ap, sym, true, false, subst, cond, [], ◌∷◌, ◌++◌, T, not}
use Rattle.std.specs.Prelude.{◌==◌, ◌||◌, Bool, List, Option, Some, None, find, filter, map, unwrap_or, IfSome, codes}
use Rattle.std.specs.Int.Signed.{lt_z_no}
use Rattle.std.specs.List.{AllByRecursion}
use Rattle.std.specs.FinMap.{get, insert, get-insert}
use Rattle.std.specs.Cmp.Lexicographic.{nat_list_cmp_total}
use Rattle.cache_words.specs.Time.{MomentValue}
use Rattle.head_directives.specs.Written.{Written}
use Rattle.head_directives.specs.Control.{named, lines_under}
use Rattle.head_lines.specs.declared.header.ResponseHeader.{ResponseHeader}
use Rattle.head_metas.specs.Internal.{IsSinceEpoch, IsWritable}
use Rattle.head_metas.specs.declared.versions.InternalMetaV2.{InternalMetaV2}
use Rattle.cache_heads.specs.FreshUntil.{fresh_until_by}
use Rattle.cache_heads.specs.Merged.{with_provenance_of, renewed_from, merged}
use Rattle.cache_heads.specs.Meta.{new_meta, provenance_of}
use Rattle.cache_heads.specs.Stale.{revalidate_window, error_window}
use Rattle.cache_heads.specs.Verdict as verdicts
use Rattle.cache_heads.specs.declared.given.GivenMeta.{GivenMeta}
use Rattle.cache_heads.specs.declared.meta.CacheMeta.{CacheMeta}
use Rattle.cache_entries.specs.declared.entry.CacheEntryKey.{CacheEntryKey}
use Rattle.cache_changes.specs.Changes.{StoredKey, key_alone}
use Rattle.tier_model.specs.Response.{Judged, kept, not_kept, too_early, not_read, judged, judged_by, given_too_early, given_unless, has_own_body, is_answered, as_given, renewal_too_early, judged_with, renewed_by, confirmed_alone, is_before_epoch}
use Rattle.tier_model.specs.Rows.{Numbered, Bodies, FinishedBody, with_meta, with_meta_in, without_body}
use Rattle.tier_model.specs.Shelf.{InFlight, Shelf, Look, absent, in_flight, finished, look_by, look, flies_for, has_number, on_flying, begun, appended, ended, landed, stored, renewed, marked, marked_all, removed, cleared}
use Rattle.tier_model.specs.After.{on_write, pieced}
use Rattle.tier_model.proofs.BodyLaws.{has_key, held-without, held-without_all}

abbrev pub IsDated : CacheMeta → Type 0
IsDated meta = IsWritable meta.internal

-- ---- heads

pub since : (t : MomentValue) → is_before_epoch t ≡ false → IsSinceEpoch t
since t e = lt_z_no (subst T (sym (ap not e)) tt)

neither : (a b : Bool) → (a || b) ≡ false → (a ≡ false) × (b ≡ false)
neither false b e = (refl, e)
neither true b e = absurd cc

-- what comes, and is fresh, since 1970
pub new-dated : (t until : MomentValue) (revalidate error : ℕ) (header : ResponseHeader) → (is_before_epoch t || is_before_epoch until) ≡ false → IsDated (new_meta until t revalidate error header)
new-dated t until revalidate error header e =
    let both = neither (is_before_epoch t) (is_before_epoch until) e in
    record { fresh_until = since until both.1; created = since t both.0; updated = since t both.0; epoch_override = tt; provenance = since t both.0 }

abbrev pub DatedIn : Judged → Type 0
DatedIn (kept meta) = IsDated meta
DatedIn _ = Unit {0}

by_until : (t : MomentValue) (until : Option MomentValue) (ds : Option (List Written)) (header : ResponseHeader) → DatedIn (judged_by t (verdicts.kept_until until t ds header 0 0))
by_until t None ds header = tt
by_until t (Some until) ds header = by_test (is_before_epoch t || is_before_epoch until) refl
  where
    meta : CacheMeta
    meta = new_meta until t (revalidate_window ds 0) (error_window ds 0) (verdicts.kept_header header ds)

    by_test : (v : Bool) → (is_before_epoch t || is_before_epoch until) ≡ v → DatedIn (cond v too_early (kept meta))
    by_test true e = tt
    by_test false e = new-dated t until (revalidate_window ds 0) (error_window ds 0) (verdicts.kept_header header ds) e

pub judged-dated : (t : MomentValue) (header : ResponseHeader) → DatedIn (judged t header)
judged-dated t header =
    let lines = lines_under (codes "cache-control") header.headers in
    by_until t (fresh_until_by t (named lines) (lines_under (codes "expires") header.headers) false None) (named lines) header

-- what is given with a head is since 1970 in each of its four moments
pub as-given-dated : (s : GivenMeta) (header : ResponseHeader) → DatedIn (as_given s header)
as-given-dated s header = by_status (has_own_body header.status)
  where
    by_test : (v : Bool) → given_too_early s ≡ v → DatedIn (given_unless v s header)
    by_test true e = tt
    by_test false e =
        let until = neither (is_before_epoch s.fresh_until) _ e in
        let created = neither (is_before_epoch s.created) _ until.1 in
        let updated = neither (is_before_epoch s.updated) (is_before_epoch s.provenance) created.1 in
        record {
          fresh_until = since s.fresh_until until.0;
          created = since s.created created.0;
          updated = since s.updated updated.0;
          epoch_override = tt;
          provenance = since s.provenance updated.1;
        }

    by_status : (v : Bool) → DatedIn (cond v (given_unless (given_too_early s) s header) not_read)
    by_status true = by_test (given_too_early s) refl
    by_status false = tt

pub judged-with-dated : (given : Option GivenMeta) (t : MomentValue) (header : ResponseHeader) → DatedIn (judged_with given t header)
judged-with-dated None t header = judged-dated t header
judged-with-dated (Some s) t header = as-given-dated s header

provenance_dated : (m : InternalMetaV2) → IsWritable m → IsSinceEpoch (provenance_of m)
provenance_dated m w = by_moment m.provenance w.provenance
  where
    by_moment : (o : Option MomentValue) → IfSome o IsSinceEpoch → IsSinceEpoch (unwrap_or o m.created)
    by_moment None since = w.created
    by_moment (Some t) since = since

-- with what it keeps of an earlier one
pub provenance-dated : (o : Option CacheMeta) (meta : CacheMeta) → IfSome o IsDated → IsDated meta → IsDated (with_provenance_of o meta)
provenance-dated None meta old new = new
provenance-dated (Some m) meta old new =
    record { fresh_until = new.fresh_until; created = new.created; updated = new.updated; epoch_override = new.epoch_override; provenance = provenance_dated m.internal old }

pub renewed-dated : (old meta : CacheMeta) → IsDated old → IsDated meta → IsDated (renewed_from (Some old) meta)
renewed-dated old meta was new =
    record { fresh_until = new.fresh_until; created = was.created; updated = new.updated; epoch_override = new.epoch_override; provenance = provenance_dated old.internal was }

-- in a renewal in its own two, and the others are the old ones
renewed_given : (s : GivenMeta) (old : CacheMeta) (header : ResponseHeader) (v : Bool) → renewal_too_early s ≡ v → IsDated old → DatedIn (renewed_by old (given_unless v s header))
renewed_given s old header true e was = tt
renewed_given s old header false e was =
    let until = neither (is_before_epoch s.fresh_until) (is_before_epoch s.updated) e in
    record {
      fresh_until = since s.fresh_until until.0;
      created = was.created;
      updated = since s.updated until.1;
      epoch_override = tt;
      provenance = provenance_dated old.internal was;
    }

renewed_in : (old : CacheMeta) (j : Judged) → IsDated old → DatedIn j → DatedIn (renewed_by old j)
renewed_in old (kept meta) was new = renewed-dated old meta was new
renewed_in old (not_kept reason) was new = tt
renewed_in old too_early was new = tt
renewed_in old not_read was new = tt

pub confirmed-dated : (given : Option GivenMeta) (t : MomentValue) (old : CacheMeta) (h : Option ResponseHeader) → IsDated old → DatedIn (confirmed_alone given t old h)
confirmed-dated given t old None was = tt
confirmed-dated (Some s) t old (Some header) was = by_status (is_answered header.status)
  where
    by_status : (v : Bool) → DatedIn (cond v (renewed_by old (given_unless (renewal_too_early s) s header)) not_read)
    by_status true = renewed_given s old header (renewal_too_early s) refl was
    by_status false = tt
confirmed-dated None t old (Some sent) was = by_status (sent.status == 304)
  where
    by_status : (v : Bool) → DatedIn (cond v (renewed_by old (judged t (merged old.header sent))) not_read)
    by_status true = renewed_in old (judged t (merged old.header sent)) was (judged-dated t (merged old.header sent))
    by_status false = tt

-- ---- bodies

abbrev DatedBody : Option Numbered → Type 0
DatedBody o = IfSome o (λ x. IsDated x.body.meta)

abbrev DatedBodies : Bodies → Type 0
DatedBodies bodies = (k : StoredKey) → DatedBody (get bodies k)

dated_insert : (bodies : Bodies) (k : StoredKey) (y : Numbered) → IsDated y.body.meta → DatedBodies bodies → DatedBodies (insert bodies k y)
dated_insert bodies k y d h j = subst DatedBody (sym (get-insert nat_list_cmp_total bodies k y j)) (by_test _)
  where
    by_test : (v : Bool) → DatedBody (cond v (Some y) (get bodies j))
    by_test true = d
    by_test false = h j

dated_or_gone : (v : Bool) (o : Option Numbered) → DatedBody o → DatedBody (cond v None o)
dated_or_gone true o d = tt
dated_or_gone false o d = d

dated_without : (j : StoredKey) (bodies : Bodies) → DatedBodies bodies → DatedBodies (without_body j bodies)
dated_without j bodies h k = subst DatedBody (sym (held-without k j bodies)) (dated_or_gone _ (get bodies k) (h k))

dated_meta : (k : StoredKey) (meta : CacheMeta) (bodies : Bodies) → IsDated meta → DatedBodies bodies → DatedBodies (with_meta k meta bodies)
dated_meta k meta bodies d h = by_body (get bodies k)
  where
    by_body : (o : Option Numbered) → DatedBodies (with_meta_in o k meta bodies)
    by_body None = h
    by_body (Some x) = dated_insert bodies k (record x { body = record x.body { meta = meta } }) d h

-- ---- writes in flight

abbrev DatedFlights : List InFlight → Type 0
DatedFlights fs = AllByRecursion (λ f. IsDated f.meta) fs

dated_more : (x : InFlight) (fs : List InFlight) → IsDated x.meta → DatedFlights fs → DatedFlights (fs ++ x ∷ [])
dated_more x [] d h = (d, tt)
dated_more x (f ∷ fs) d h = (h.0, dated_more x fs d h.1)

dated_map : (change : InFlight → InFlight) → ((f : InFlight) → (change f).meta ≡ f.meta) → (fs : List InFlight) → DatedFlights fs → DatedFlights (map change fs)
dated_map change same [] h = tt
dated_map change same (f ∷ fs) h = (subst IsDated (sym (same f)) h.0, dated_map change same fs h.1)

dated_on : (n : ℕ) (change : InFlight → InFlight) → ((f : InFlight) → (change f).meta ≡ f.meta) → (fs : List InFlight) → DatedFlights fs → DatedFlights (on_flying n change fs)
dated_on n change same fs h = dated_map (λ f. cond (has_number n f) (change f) f) (λ f. by_test f (has_number n f)) fs h
  where
    by_test : (f : InFlight) (v : Bool) → (cond v (change f) f).meta ≡ f.meta
    by_test f true = same f
    by_test f false = refl

dated_kept : (p : InFlight → Bool) (fs : List InFlight) → DatedFlights fs → DatedFlights (filter p fs)
dated_kept p [] h = tt
dated_kept p (f ∷ fs) h = by_test (p f) (dated_kept p fs h.1)
  where
    by_test : (v : Bool) → DatedFlights (filter p fs) → DatedFlights (cond v (f ∷ filter p fs) (filter p fs))
    by_test true rest = (h.0, rest)
    by_test false rest = rest

dated_marked : (es : List CacheEntryKey) (fs : List InFlight) → DatedFlights fs → DatedFlights (marked_all es fs)
dated_marked [] fs h = h
dated_marked (e ∷ es) fs h = dated_marked es (map (marked (key_alone e)) fs) (dated_map (marked (key_alone e)) (λ f. refl) fs h)

pub dated-found : (p : InFlight → Bool) (fs : List InFlight) → DatedFlights fs → IfSome (find p fs) (λ f. IsDated f.meta)
dated-found p [] h = tt
dated-found p (f ∷ fs) h = by_test (p f) (dated-found p fs h.1)
  where
    by_test : (v : Bool) → IfSome (find p fs) (λ f. IsDated f.meta) → IfSome (cond v (Some f) (find p fs)) (λ f. IsDated f.meta)
    by_test true rest = h.0
    by_test false rest = rest

-- ---- shelves

-- all metas on it can be written
pub record IsDatedShelf (shelf : Shelf) : Type 0 where
  pub bodies : (k : StoredKey) → IfSome (get shelf.bodies k) (λ x. IsDated x.body.meta)
  pub flying : AllByRecursion (λ f. IsDated f.meta) shelf.flying

module _ (shelf : Shelf) (h : IsDatedShelf shelf) where
  pub begun-dated : (k : StoredKey) (meta : CacheMeta) → IsDated meta → IsDatedShelf (begun k meta shelf)
  begun-dated k meta d = record { bodies = h.bodies; flying = dated_more _ shelf.flying d h.flying }

  pub appended-dated : (n : ℕ) (bytes : List ℕ) → IsDatedShelf (appended n bytes shelf)
  appended-dated n bytes = record { bodies = h.bodies; flying = dated_on n (λ f. record f { bytes = f.bytes ++ bytes }) (λ f. refl) shelf.flying h.flying }

  pub ended-dated : (n : ℕ) → IsDatedShelf (ended n shelf)
  ended-dated n = record { bodies = h.bodies; flying = dated_on n (λ f. record f { ended = true }) (λ f. refl) shelf.flying h.flying }

  pub landed-dated : (is_finished : Bool) (w : Option ℕ) → IsDatedShelf (on_write w (landed is_finished) shelf)
  landed-dated is_finished None = h
  landed-dated is_finished (Some n) = record { bodies = h.bodies; flying = dated_kept (λ f. not (has_number n f)) shelf.flying h.flying }

  pub stored-dated : (w : Option ℕ) (b : FinishedBody) → IsDated b.body.meta → IsDatedShelf (on_write w (λ n. stored n b) shelf)
  stored-dated None b d = h
  stored-dated (Some n) b d = record { bodies = dated_insert shelf.bodies _ _ d h.bodies; flying = h.flying }

  pub renewed-shelf : (k : StoredKey) (meta : CacheMeta) → IsDated meta → IsDatedShelf (renewed k meta shelf)
  renewed-shelf k meta d = record { bodies = dated_meta k meta shelf.bodies d h.bodies; flying = h.flying }

  pub removed-dated : (k : StoredKey) → IsDatedShelf (removed k shelf)
  removed-dated k = record { bodies = dated_without k shelf.bodies h.bodies; flying = dated_map (marked (Some k)) (λ f. refl) shelf.flying h.flying }

  pub cleared-dated : (es : List CacheEntryKey) → IsDatedShelf (cleared es shelf)
  cleared-dated es = record {
    bodies = λ k. subst DatedBody (sym (held-without_all k es shelf.bodies)) (dated_or_gone (has_key k es) (get shelf.bodies k) (h.bodies k));
    flying = dated_marked es shelf.flying h.flying;
  }

  -- what is found of a key
  abbrev pub DatedLook : Look → Type 0
  DatedLook absent = Unit {0}
  DatedLook (in_flight f) = IsDated f.meta
  DatedLook (finished x) = IsDated x.body.meta

  pub look-dated : (k : StoredKey) → DatedLook (look k shelf)
  look-dated k = by_found (find (flies_for k) shelf.flying) (get shelf.bodies k) (dated-found (flies_for k) shelf.flying h.flying) (h.bodies k)
    where
      by_found : (f : Option InFlight) (x : Option Numbered) → IfSome f (λ f. IsDated f.meta) → DatedBody x → DatedLook (look_by f x)
      by_found (Some f) x flies there = flies
      by_found None (Some x) flies there = there
      by_found None None flies there = tt

pub pieced-dated : (shelf : Shelf) → IsDatedShelf shelf → (w : Option ℕ) (bytes : List ℕ) (last : Bool) → IsDatedShelf (on_write w (pieced bytes last) shelf)
pieced-dated shelf h None bytes last = h
pieced-dated shelf h (Some n) bytes true = ended-dated (appended n bytes shelf) (appended-dated shelf h n bytes) n
pieced-dated shelf h (Some n) bytes false = appended-dated shelf h n bytes
