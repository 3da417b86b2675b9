-- What a history of calls changes: the writes of bodies, and the entries in the order of use.
use Rattle.std.specs.Prelude.{◌≡◌, ℕ, ◌==◌, Bool, true, false, ◌&&◌, List, [], ◌∷◌, ◌++◌, map, if◌then◌else◌, Option, Some, None, option_map, Ok, Err}
use Rattle.std.specs.List.{AllByRecursion}
use Rattle.cache_heads.specs.declared.meta.CacheMeta.{CacheMeta}
use Rattle.cache_heads.specs.Meta.{meta_weight}
use Rattle.cache_heads.specs.Merged.{with_provenance_of}
use Rattle.cache_entries.specs.declared.entry.CacheEntryKey.{CacheEntryKey}
use Rattle.cache_entries.specs.declared.rows.Tracked.{Tracked}
use Rattle.cache_entries.specs.Entry.{key_of}
use Rattle.cache_changes.specs.Changes.{stored_key, Write, Change, Changes, begins, appends, ends, finishes, leaves, renews, removes, admits, uses, reweighs, departs, evicts}
use Rattle.cache_changes.specs.Writes.{bytes_of, meta_of, body_now, IsShown}
use Rattle.cache_changes.specs.Store.{Stored, store_of, shown_at}
use Rattle.cache_changes.specs.Uses.{admissions}
use Rattle.tier_model.specs.declared.state.Body.{Body}
use Rattle.tier_model.specs.declared.event.Action.{Action}
use Rattle.tier_model.specs.declared.event.Action.TheVariants.{Open, LookUp, Begin, Revalidate, Piece, Finish, Drop, Purge, Put}
use Rattle.tier_model.specs.declared.event.Answer.TheVariants.{Opened, Found, Absent, Begun, Revalidated, Written, Purged, Finished}
use Rattle.tier_model.specs.declared.event.TierFault.TheVariants.{WriteRemoved}
use Rattle.tier_model.specs.declared.event.Done.{Done}
use Rattle.tier_model.specs.Keys.{Entry, entry_of, alone}
use Rattle.tier_model.specs.Calls.{Call, History, Outcome, extended, done_of, judged_of, confirmed_of, is_confirmation, finished_by, writes_after, opened_for, hits, ends_reader}
use Rattle.tier_model.specs.Response.{Judged, kept}
use Rattle.tier_model.specs.Rows.{FinishedBody, weight_for}
use Rattle.tier_model.specs.State.{Settings}

-- what is kept of a write beside its bytes: the entry under which it came, and the meta that is stored with it
pub record Kept : Type 0 where
  pub entry : CacheEntryKey
  pub meta : CacheMeta

-- what a body counts for beside its bytes: what it has outside, and its meta as it is written
abbrev pub counts : Kept → ℕ
counts k = meta_weight k.meta

-- the body that changes say of a write
abbrev pub told_of : Changes Kept → Write Kept → Body
told_of changes w = record { bytes = bytes_of w.number changes; meta = (meta_of w changes).meta }

-- how a tier began: what it was made with, the numbers of its first write and of the first core of its lock, which tell how many were
-- used up before, and the order of use that it loaded. No body was stored
pub record Opening : Type 0 where
  pub settings : Settings
  pub first : ℕ
  pub first_core : ℕ
  pub loaded : List Tracked

-- nothing was loaded, and no number was used up
abbrev pub empty_opening : Settings → Opening
empty_opening settings = record { settings = settings; first = 0; first_core = 0; loaded = [] }

-- how many writes began: the number of the next
abbrev pub writes_begun : Opening → History → ℕ
writes_begun start [] = start.first
writes_begun start (c ∷ h) = writes_after (writes_begun start h) c.began

abbrev pub kept_of : FinishedBody → Kept
kept_of b = record { entry = alone b.entry; meta = b.body.meta }

-- the write of a body before which n others began
abbrev pub write_of : ℕ → FinishedBody → Write Kept
write_of n b = record { number = n; key = stored_key b.entry; meta = kept_of b }

-- these are evicted, in order
abbrev pub goes : List CacheEntryKey → List (Change Kept)
goes es = map (λ e. evicts e) es

-- the entry of a finished body is admitted, and then these are evicted
abbrev pub settles : FinishedBody → List CacheEntryKey → List (Change Kept)
settles b gone = admits (alone b.entry) (weight_for b.body) ∷ goes gone

-- a body is written whole, its entry is admitted, and then these are evicted
abbrev pub stores : ℕ → FinishedBody → List CacheEntryKey → List (Change Kept)
stores n b gone = begins (write_of n b) ∷ appends n b.body.bytes ∷ finishes (write_of n b) ∷ settles b gone

-- what an entry's key has is removed, and the entry departs
abbrev pub clears : Entry → List (Change Kept)
clears e = removes (stored_key e) ∷ departs (alone e) ∷ []

-- a put that is refused after its body was stored: what was done until then, and then body and entry go again
abbrev pub takes_back : ℕ → FinishedBody → Done → List (Change Kept)
takes_back n b done = if done.stored then ((if done.admitted then stores n b done.evicted else []) ++ clears b.entry) else []

-- by a put that finished a body
abbrev pub put_changes : ℕ → Option FinishedBody → Outcome → List (Change Kept)
put_changes n (Some b) (Ok (Finished length evicted)) = stores n b evicted
put_changes n (Some b) (Err fault) = takes_back n b (done_of fault)
put_changes n _ _ = []

-- a hit of the body of w is a use of the entry
abbrev pub hit_changes : Entry → Option (Write Kept) → Changes Kept → List (Change Kept)
hit_changes e None before = []
hit_changes e (Some w) before = uses (alone e) (weight_for (told_of before w)) ∷ []

-- by a complete hit of a request that is open for an entry
abbrev pub look_changes : Option Entry → Changes Kept → List (Change Kept)
look_changes None before = []
look_changes (Some e) before = hit_changes e (body_now (stored_key e) before) before

-- ---- writes that come in pieces

-- what changes say that a look-up of an entry shows
abbrev pub shown_for : Option Entry → Changes Kept → Option (Stored Kept)
shown_for None changes = None
shown_for (Some e) changes = shown_at (stored_key e) (store_of changes)

-- what a request has seen: what its look-up showed, where that was past its moment, until it looks up anew, begins, or that is confirmed
abbrev pub seen_after : ℕ → Option (Stored Kept) → Action → Outcome → Option (Stored Kept) → Option (Stored Kept)
seen_after id shown (Open request key asks) (Ok Opened) old = if request == id then None else old
seen_after id shown (LookUp request) (Ok (Found fresh complete lock)) old = if request == id then (if fresh then None else shown) else old
seen_after id shown (LookUp request) (Ok (Absent lock)) old = if request == id then None else old
seen_after id shown (Begin request head given) (Ok answer) old = if request == id then None else old
seen_after id shown (Revalidate request head given) outcome old = if (request == id) && is_confirmation outcome then None else old
seen_after id shown (Drop request) (Ok answer) old = if request == id then None else old
seen_after id shown _ _ old = old

-- the write that is begun for an entry, before which n others began, by what its head gives: with the provenance of what was seen
abbrev pub write_begun : ℕ → Option Entry → Option (Stored Kept) → Option Judged → Option (Write Kept)
write_begun n (Some e) seen (Some (kept meta)) =
    Some (record { number = n; key = stored_key e; meta = record { entry = alone e; meta = with_provenance_of (option_map (λ x. x.meta.meta) seen) meta } })
write_begun n _ seen _ = None

-- the same of a begin of a request that has seen that; h are the calls before it
abbrev pub begun_from : Opening → ℕ → Option (Stored Kept) → Call → History → Option (Write Kept)
begun_from start id seen c h = write_begun (writes_begun start h) (opened_for id h) seen (judged_of c)

-- a write with the meta that confirms it, under an entry
abbrev pub write_renewed : Entry → Write Kept → Option Judged → Option (Write Kept)
write_renewed e w (Some (kept meta)) = Some (record w { meta = record { entry = alone e; meta = meta } })
write_renewed e w _ = None

-- what a revalidation renews: the write that its request has seen, with the meta that its head gives
abbrev pub renewal_from : Option Entry → Option (Stored Kept) → Call → Option (Write Kept)
renewal_from (Some e) (Some x) c = write_renewed e x.write (confirmed_of (Some x.meta.meta) c)
renewal_from _ _ c = None

-- the answer to a finish, or the fault, ended the flight of the write
abbrev pub is_landing : Outcome → Bool
is_landing (Ok answer) = true
is_landing (Err WriteRemoved) = true
is_landing (Err fault) = (done_of fault).stored

abbrev pub write_after : ℕ → Option (Write Kept) → Action → Outcome → Option (Write Kept) → Option (Write Kept)
write_after id new (Begin request head given) (Ok Begun) old = if request == id then new else old
write_after id new (Finish request) outcome old = if (request == id) && is_landing outcome then None else old
write_after id new (Drop request) (Ok answer) old = if request == id then None else old
write_after id new _ _ old = old

abbrev pub begin_changes : Option (Write Kept) → List (Change Kept)
begin_changes None = []
begin_changes (Some w) = begins w ∷ []

-- bytes come to a write, and after the last of them no more
abbrev pub piece_changes : Option (Write Kept) → List ℕ → Bool → List (Change Kept)
piece_changes None bytes last = []
piece_changes (Some w) bytes last = appends w.number bytes ∷ (if last then ends w.number ∷ [] else [])

-- the body that a write is, under its entry
abbrev pub finished_of : Changes Kept → Write Kept → FinishedBody
finished_of changes w = record { entry = key_of w.meta.entry; body = told_of changes w }

-- a finish that is refused after the body was stored: what was done until then, and then body and entry go again
abbrev pub settles_back : FinishedBody → Done → List (Change Kept)
settles_back b done = (if done.admitted then settles b done.evicted else []) ++ clears b.entry

-- a write is finished and its entry admitted, or it is given up, where it was removed
abbrev pub finish_changes : Option (Write Kept) → Outcome → Changes Kept → List (Change Kept)
finish_changes None outcome before = []
finish_changes (Some w) (Ok (Finished length evicted)) before = finishes w ∷ settles (finished_of before w) evicted
finish_changes (Some w) (Ok _) before = []
finish_changes (Some w) (Err WriteRemoved) before = leaves w.number ∷ []
finish_changes (Some w) (Err fault) before = if (done_of fault).stored then finishes w ∷ settles_back (finished_of before w) (done_of fault) else []

abbrev pub drop_changes : Option (Write Kept) → List (Change Kept)
drop_changes None = []
drop_changes (Some w) = leaves w.number ∷ []

-- a body has another meta, its entry is weighed anew, and then these are evicted
abbrev pub renews_body : Write Kept → List CacheEntryKey → Changes Kept → List (Change Kept)
renews_body w gone before =
    renews w.number w.meta ∷ reweighs w.meta.entry (weight_for (record { bytes = bytes_of w.number before; meta = w.meta.meta })) ∷ goes gone

-- a revalidation that is refused after the new meta was stored: what was done until then, and then body and entry go
abbrev pub renewal_changes : Option (Write Kept) → Outcome → Changes Kept → List (Change Kept)
renewal_changes None outcome before = []
renewal_changes (Some w) (Ok (Revalidated evicted)) before = renews_body w evicted before
renewal_changes (Some w) (Ok _) before = []
renewal_changes (Some w) (Err fault) before = if (done_of fault).stored then renews_body w (done_of fault).evicted before ++ clears (key_of w.meta.entry) else []

-- what a call changes, in the order in which it happens, where each request would begin that write, renew that one and has this one; h are the
-- calls before it, and `before` what those changed
abbrev pub changes_in : Opening → (ℕ → Option (Write Kept)) → (ℕ → Option (Write Kept)) → (ℕ → Option (Write Kept)) → Action → Outcome → Call → History → Changes Kept → List (Change Kept)
changes_in start begun renewed held (LookUp id) (Ok (Found fresh true lock)) c h before = look_changes (opened_for id h) before
changes_in start begun renewed held (Begin id head given) (Ok Begun) c h before = begin_changes (begun id)
changes_in start begun renewed held (Revalidate id head given) outcome c h before = renewal_changes (renewed id) outcome before
changes_in start begun renewed held (Piece id bytes last) (Ok Written) c h before = piece_changes (held id) bytes last
changes_in start begun renewed held (Finish id) outcome c h before = finish_changes (held id) outcome before
changes_in start begun renewed held (Drop id) (Ok answer) c h before = drop_changes (held id)
changes_in start begun renewed held (Purge key) (Ok (Purged true)) c h before = clears (entry_of key)
changes_in start begun renewed held (Put key pieces given) outcome c h before = put_changes (writes_begun start h) (finished_by c) outcome
changes_in start begun renewed held _ _ c h before = []

abbrev mutual
  -- what a history changed, the latest change first. What was loaded was admitted before any call
  pub changes_of : Opening → History → Changes Kept
  changes_of start [] = admissions start.loaded
  changes_of start (c ∷ h) =
      extended (changes_of start h)
      (changes_in start (λ id. begun_from start id (seen_by start id h) c h) (λ id. renewal_from (opened_for id h) (seen_by start id h) c)
      (λ id. write_held start id h) c.event.action c.outcome c h (changes_of start h))

  -- the write of a request: it began it, and neither finished nor lost nor left it
  pub write_held : Opening → ℕ → History → Option (Write Kept)
  write_held start id [] = None
  write_held start id (c ∷ h) = write_after id (begun_from start id (seen_by start id h) c h) c.event.action c.outcome (write_held start id h)

  -- what a request has seen, as it was then: what its last look-up found that was past its moment
  pub seen_by : Opening → ℕ → History → Option (Stored Kept)
  seen_by start id [] = None
  seen_by start id (c ∷ h) = seen_after id (shown_for (opened_for id h) (changes_of start h)) c.event.action c.outcome (seen_by start id h)

-- the write that a begin of that request begins; h are the calls before it
abbrev pub begun_by : Opening → ℕ → Call → History → Option (Write Kept)
begun_by start id c h = begun_from start id (seen_by start id h) c h

-- the write that a revalidation of that request renews
abbrev pub renewal_by : Opening → ℕ → Call → History → Option (Write Kept)
renewal_by start id c h = renewal_from (opened_for id h) (seen_by start id h) c

-- the request's last look-up found all of w; since are the calls after it
pub record HasHit (start : Opening) (id : ℕ) (w : Write Kept) (since h : History) : Type 0 where
  pub call : Call
  pub before : History
  pub entry : Entry
  pub split : h ≡ since ++ call ∷ before
  pub hit : hits id call ≡ true
  pub of_entry : opened_for id before ≡ Some entry
  pub shows : IsShown (stored_key entry) w (changes_of start before)
  pub last : AllByRecursion (λ c. ends_reader id c ≡ false) since
