-- Calls of a tier, and what one call reports: what it stored and evicted, what a request read, and whether it asks for a lock.
use Rattle.std.specs.Prelude.{◌≡◌, ℕ, ◌+◌, ◌==◌, Bool, true, false, ◌&&◌, not, List, [], ◌∷◌, ◌++◌, if◌then◌else◌, Option, Some, None, Result, Ok, Err}
use Rattle.cache_heads.specs.declared.meta.CacheMeta.{CacheMeta}
use Rattle.cache_entries.specs.declared.entry.CacheEntryKey.{CacheEntryKey}
use Rattle.tier_model.specs.Rows.{FinishedBody}
use Rattle.tier_model.specs.declared.whole.PutVerdict.{PutVerdict}
use Rattle.tier_model.specs.declared.whole.PutVerdict.TheVariants.{Stored}
use Rattle.tier_model.specs.declared.event.Event.{Event}
use Rattle.tier_model.specs.declared.event.Action.{Action}
use Rattle.tier_model.specs.declared.event.Action.TheVariants.{Open, LookUp, Begin, Revalidate, Read, Drop, Put}
use Rattle.tier_model.specs.declared.event.Answer.{Answer}
use Rattle.tier_model.specs.declared.event.Answer.TheVariants.{Opened, Found, Begun, Bytes, Dropped, Finished, Revalidated}
use Rattle.tier_model.specs.declared.event.Done.{Done}
use Rattle.tier_model.specs.declared.event.TierFault.{TierFault}
use Rattle.tier_model.specs.declared.event.TierFault.TheVariants.{NumbersSpent, TooHeavy, TooLong, Memory}
use Rattle.tier_model.specs.Keys.{Entry, entry_of}
use Rattle.head_parse.specs.Response.{Reading}
use Rattle.tier_model.specs.Response.{Judged, whole_in, judged_in, confirmed_in}

-- what a call answered, or the fault that refused it
abbrev pub Outcome : Type 0
Outcome = Result Answer TierFault

-- an event with its outcome, the reading of its response or head, where one was read, whether a write began, and whether a look-up was
-- given a permit or a wait
pub record Call : Type 0 where
  pub event : Event
  pub outcome : Outcome
  pub reading : Option Reading
  pub began : Bool
  pub asked : Bool

-- the calls of one tier, the latest first
abbrev pub History : Type 0
History = List Call

-- the calls are these events, each with its outcome, in order
abbrev pub AreCallsOf : List Event → List Outcome → List Call → Type 0
AreCallsOf [] [] [] = Unit {0}
AreCallsOf (e ∷ es) (o ∷ os) (c ∷ cs) = (c.event ≡ e) × (c.outcome ≡ o) × AreCallsOf es os cs
AreCallsOf _ _ _ = ⊥

-- what came, the latest first, after more in the order in which it came
abbrev pub extended : {X : Type 0} → List X → List X → List X
extended past [] = past
extended past (x ∷ xs) = extended (x ∷ past) xs

-- nothing was done before the refusal
abbrev pub nothing_done : Done
nothing_done = record { stored = false; admitted = false; evicted = [] }

-- what was done before a refusal
abbrev pub done_of : TierFault → Done
done_of (NumbersSpent done) = done
done_of (TooHeavy done) = done
done_of (TooLong done) = done
done_of (Memory done) = done
done_of _ = nothing_done

-- the entries that went before a refusal; where nothing was stored none did
abbrev pub evicted_before : Done → List CacheEntryKey
evicted_before done = if done.stored then done.evicted else []

-- the entries that went
abbrev pub evicted_by : Outcome → List CacheEntryKey
evicted_by (Ok (Finished length evicted)) = evicted
evicted_by (Ok (Revalidated evicted)) = evicted
evicted_by (Ok _) = []
evicted_by (Err fault) = evicted_before (done_of fault)

-- what a call's response gave
abbrev pub read_by : Call → Option PutVerdict
read_by c = whole_in c.event.moment c.event.action c.reading

-- what a begin's head gave
abbrev pub judged_of : Call → Option Judged
judged_of c = judged_in c.event.moment c.event.action c.reading

-- what a revalidation's head gave, by the meta that its request found
abbrev pub confirmed_of : Option CacheMeta → Call → Option Judged
confirmed_of found c = confirmed_in c.event.moment found c.event.action c.reading

-- what an event finishes, by what its response gave: a body under the entry of the event's key
abbrev pub finished_in : Action → Option PutVerdict → Option FinishedBody
finished_in (Put key pieces given) (Some (Stored body)) = Some (record { entry = entry_of key; body = body })
finished_in _ _ = None

abbrev pub finished_by : Call → Option FinishedBody
finished_by c = finished_in c.event.action (read_by c)

-- a body was stored, though it may have been removed again
abbrev pub has_stored : Outcome → Bool
has_stored (Ok (Finished length evicted)) = true
has_stored (Ok _) = false
has_stored (Err fault) = (done_of fault).stored

abbrev pub is_begun : Outcome → Bool
is_begun (Ok Begun) = true
is_begun _ = false

-- how many writes began, after a call
abbrev pub writes_after : ℕ → Bool → ℕ
writes_after n false = n
writes_after n true = n + 1

abbrev pub entry_after : ℕ → Action → Outcome → Option Entry → Option Entry
entry_after id (Open request key lock) (Ok Opened) old = if request == id then Some (entry_of key) else old
entry_after id (Drop request) (Ok Dropped) old = if request == id then None else old
entry_after id _ _ old = old

-- the entry that a request was last opened for, if it is open
abbrev pub opened_for : ℕ → History → Option Entry
opened_for id [] = None
opened_for id (c ∷ h) = entry_after id c.event.action c.outcome (opened_for id h)

abbrev pub asks_after : ℕ → Action → Outcome → Bool → Bool
asks_after id (Open request key lock) (Ok Opened) old = if request == id then lock else old
asks_after id _ _ old = old

-- the request asks for the lock: it was opened so
abbrev pub asks_lock : ℕ → History → Bool
asks_lock id [] = false
asks_lock id (c ∷ h) = asks_after id c.event.action c.outcome (asks_lock id h)

abbrev pub is_hit : ℕ → Action → Outcome → Bool
is_hit id (LookUp request) (Ok (Found fresh complete lock)) = (request == id) && complete
is_hit id _ _ = false

-- the request's look-up found all of a body
abbrev pub hits : ℕ → Call → Bool
hits id c = is_hit id c.event.action c.outcome

abbrev pub is_partial_hit : ℕ → Action → Outcome → Bool
is_partial_hit id (LookUp request) (Ok (Found fresh complete lock)) = (request == id) && not complete
is_partial_hit id _ _ = false

-- the request's look-up found a write in flight
abbrev pub hits_partly : ℕ → Call → Bool
hits_partly id c = is_partial_hit id c.event.action c.outcome

abbrev pub is_begin_of : ℕ → Action → Outcome → Bool
is_begin_of id (Begin request head given) (Ok Begun) = request == id
is_begin_of id _ _ = false

-- the request began a write
abbrev pub begins_by : ℕ → Call → Bool
begins_by id c = is_begin_of id c.event.action c.outcome

abbrev pub is_revalidation : Action → Bool
is_revalidation (Revalidate request head given) = true
is_revalidation _ = false

-- a revalidation confirmed what its request found: it was answered, or refused after the new meta was stored
abbrev pub is_confirmation : Outcome → Bool
is_confirmation (Ok answer) = true
is_confirmation (Err f) = (done_of f).stored

abbrev pub is_end_of_reader : ℕ → Action → Outcome → Bool
is_end_of_reader id (LookUp request) (Ok answer) = request == id
is_end_of_reader id (Begin request head given) (Ok answer) = request == id
is_end_of_reader id (Drop request) (Ok answer) = request == id
is_end_of_reader id _ _ = false

-- the call ended the request's earlier reader: it looked up anew, began or gave up a write, or was dropped
abbrev pub ends_reader : ℕ → Call → Bool
ends_reader id c = is_end_of_reader id c.event.action c.outcome

abbrev pub bytes_answered : Answer → List ℕ
bytes_answered (Bytes bytes) = bytes
bytes_answered _ = []

abbrev pub bytes_given : ℕ → Action → Outcome → List ℕ
bytes_given id (Read request) (Ok answer) = if request == id then bytes_answered answer else []
bytes_given id _ _ = []

-- what the request read, in order
abbrev pub bytes_read : ℕ → History → List ℕ
bytes_read id [] = []
bytes_read id (c ∷ h) = bytes_read id h ++ bytes_given id c.event.action c.outcome
