-- A row into which no body and no renewal comes lists no entry that went.
use Rattle.std.proofs.Common.{◌≡◌, ℕ, refl, sym, true, false, subst, cond, [], ◌∷◌}
use Rattle.std.specs.Prelude.{◌&&◌, Bool, List, Option, Some, None, Ok, Err, is_some, not, drop}
use Rattle.cache_words.specs.Time.{MomentValue}
use Rattle.cache_words.specs.Key.{CacheKeyValue}
use Rattle.cache_changes.specs.Changes.{stored_key}
use Rattle.tier_model.specs.declared.event.Action.{Action}
use Rattle.tier_model.specs.declared.event.Action.TheVariants as on
use Rattle.tier_model.specs.declared.event.Answer.TheVariants as answer
use Rattle.tier_model.specs.declared.event.TierFault.TheVariants as fault
use Rattle.tier_model.specs.declared.whole.PutVerdict.{PutVerdict}
use Rattle.tier_model.specs.declared.whole.PutVerdict.TheVariants as whole
use Rattle.tier_model.specs.Answers.{is_fresh, next_by}
use Rattle.tier_model.specs.Keys.{entry_of}
use Rattle.tier_model.specs.Response.{Judged, kept, not_kept, too_early, not_read}
use Rattle.tier_model.specs.Calls.{Call, Outcome, evicted_by, judged_of, read_by}
use Rattle.tier_model.specs.State.{Settings, Phase, cache_key, stale, miss, Reader, closed, unread, spent, streaming}
use Rattle.tier_promise.specs.Promise.{Write, Changes, Request, Hold, no_lock, holds, waits, EventRow, Now, Whether, Entering, nothing, a_use, a_body, a_renewal, HowFar, gone_by, far_of, shown, body_of, bytes_of, is_done, is_alive, as_body, flying, first_of, opened, open_row}
use Rattle.tier_promise.specs.Promise.{refused, some_memory, asked, look_found, look_row, look_by, poll_by, begin_row, begin_by, piece_by, appends, read_by_reader, drop_row, purge_row, put_row, lands, finish_row, finish_by, still, confirm_row, confirmed_by, revalidate_row, revalidate_by, row_of, after}

abbrev pub makes_room : Entering → Bool
makes_room (a_body e w) = true
makes_room (a_renewal e w) = true
makes_room _ = false

-- nothing went
abbrev pub ListsNone : Outcome → Type 0
ListsNone o = (gone_by (far_of o) ≡ []) × (evicted_by o ≡ [])

-- where a body or a renewal comes in, an entry may go; of any other row none does
abbrev pub IsAlone : EventRow → Type 0
IsAlone row = Whether (makes_room row.needs.entering) (Unit {0}) (ListsNone row.outcome)

abbrev pub IsQuiet : EventRow → Type 0
IsQuiet row = (makes_room row.needs.entering ≡ false) × ListsNone row.outcome

alone-quiet : (row : EventRow) → IsQuiet row → IsAlone row
alone-quiet row quiet = subst (λ (v : Bool). Whether v (Unit {0}) (ListsNone row.outcome)) (sym quiet.0) quiet.1

module _ (q : Request) (c : Changes) where
  found-quiet : (t : MomentValue) (complete : Bool) (hold : Hold) (w : Write) → IsQuiet (look_found t complete hold w q c)
  found-quiet t true hold w = (refl, (refl, refl))
  found-quiet t false hold w = (refl, (refl, refl))

  row-quiet : (t : MomentValue) (o : Option Write) → IsQuiet (look_row t q o c)
  row-quiet t None = (refl, (refl, refl))
  row-quiet t (Some w) = found-quiet t (not (is_some (first_of (flying (stored_key q.entry) c)))) (asked (q.asks && not (is_fresh t w.meta)) t q c) w

  look-quiet : (t : MomentValue) (phase : Phase) (hold : Hold) → IsQuiet (look_by phase hold t q c)
  look-quiet t cache_key no_lock = row-quiet t (shown (stored_key q.entry) c)
  look-quiet t stale no_lock = row-quiet t (shown (stored_key q.entry) c)
  look-quiet t cache_key (waits p first) = (refl, (refl, refl))
  look-quiet t stale (waits p first) = (refl, (refl, refl))
  look-quiet t _ _ = (refl, (refl, refl))

  poll-quiet : (x : Settings) (t : MomentValue) (hold : Hold) → IsQuiet (poll_by x hold t q c)
  poll-quiet x t (waits p first) = (refl, (refl, refl))
  poll-quiet x t no_lock = (refl, (refl, refl))
  poll-quiet x t (holds p) = (refl, (refl, refl))

  begun-quiet : (j : Option Judged) → IsQuiet (begin_row j q c)
  begun-quiet None = (refl, (refl, refl))
  begun-quiet (Some not_read) = (refl, (refl, refl))
  begun-quiet (Some too_early) = (refl, (refl, refl))
  begun-quiet (Some (not_kept reason)) = (refl, (refl, refl))
  begun-quiet (Some (kept meta)) = (refl, (refl, refl))

  begin-quiet : (phase : Phase) (gave : Bool) (j : Option Judged) → IsQuiet (begin_by phase gave j q c)
  begin-quiet miss gave j = begun-quiet j
  begin-quiet stale false j = begun-quiet j
  begin-quiet _ _ j = (refl, (refl, refl))

  piece-quiet : (o : Option Write) (bytes : List ℕ) (last : Bool) → IsQuiet (piece_by o bytes last q c)
  piece-quiet None bytes last = (refl, (refl, refl))
  piece-quiet (Some w) bytes last = by_done (is_done w.number c)
    where
      by_done : (v : Bool) → IsQuiet (cond v (refused q fault.AfterEnd) (record { outcome = Ok answer.Written; changes = appends w.number bytes last ∷ []; request = Some q; needs = some_memory }))
      by_done true = (refl, (refl, refl))
      by_done false = (refl, (refl, refl))

  next-quiet : (l : List ℕ) (d : Bool) → ListsNone (Ok (next_by l d))
  next-quiet [] true = (refl, refl)
  next-quiet [] false = (refl, refl)
  next-quiet (b ∷ l) d = (refl, refl)

  read-quiet : (r : Reader) → IsQuiet (read_by_reader r q c)
  read-quiet closed = (refl, (refl, refl))
  read-quiet (unread bytes) = (refl, (refl, refl))
  read-quiet spent = (refl, (refl, refl))
  read-quiet (streaming n place) = (refl, next-quiet (drop place (bytes_of n c)) (is_done n c))

  finish-alone : (o : Option Write) (far : HowFar) → IsAlone (finish_by o far q c)
  finish-alone None far = (refl, refl)
  finish-alone (Some w) far = by_life (is_alive w c)
    where
      by_life : (v : Bool) → IsAlone (cond v (finish_row w (as_body w c) far q) (record (refused (record q { write = None }) fault.WriteRemoved) { changes = lands w.number false ∷ [] }))
      by_life true = tt
      by_life false = (refl, refl)

  confirm-alone : (j : Judged) (far : HowFar) (w : Option Write) → IsAlone (confirm_row j far w q c)
  confirm-alone not_read far w = (refl, refl)
  confirm-alone too_early far None = (refl, refl)
  confirm-alone (not_kept reason) far None = (refl, refl)
  confirm-alone (kept meta) far None = (refl, refl)
  confirm-alone too_early far (Some w) = (refl, refl)
  confirm-alone (not_kept reason) far (Some w) = (refl, refl)
  confirm-alone (kept meta) far (Some w) = tt

  revalidate-alone : (phase : Phase) (gave : Bool) (j : Option Judged) (far : HowFar) → IsAlone (revalidate_by phase gave j far q c)
  revalidate-alone stale false None far = (refl, refl)
  revalidate-alone stale false (Some j) far = confirm-alone j far (still q.seen (body_of (stored_key q.entry) c))
  revalidate-alone _ _ j far = (refl, refl)

of-alone : (v : Option Request) (f : Request → EventRow) → ((q : Request) → IsAlone (f q)) → IsAlone (row_of v f)
of-alone None f h = (refl, refl)
of-alone (Some q) f h = h q

of-quiet : (v : Option Request) (f : Request → EventRow) → ((q : Request) → IsQuiet (f q)) → IsQuiet (row_of v f)
of-quiet None f h = (refl, (refl, refl))
of-quiet (Some q) f h = h q

open-quiet : (v : Option Request) (new : Request) → IsQuiet (open_row v new)
open-quiet None new = (refl, (refl, refl))
open-quiet (Some q) new = (refl, (refl, refl))

-- of these events alone entries go
abbrev pub IsCalm : Action → Type 0
IsCalm (on.Finish id) = ⊥
IsCalm (on.Revalidate id head given) = ⊥
IsCalm (on.Put key pieces given) = ⊥
IsCalm _ = Unit {0}

module _ (x : Settings) (call : Call) (now : Now) where
  abbrev c : Changes
  c = now.changes

  put-alone : (key : CacheKeyValue) (v : Option PutVerdict) (far : HowFar) → IsAlone (put_row (entry_of key) v far c)
  put-alone key None far = (refl, refl)
  put-alone key (Some whole.BadHead) far = (refl, refl)
  put-alone key (Some whole.BeforeEpoch) far = (refl, refl)
  put-alone key (Some whole.Incomplete) far = (refl, refl)
  put-alone key (Some (whole.Uncacheable reason)) far = (refl, refl)
  put-alone key (Some (whole.Stored b)) far = tt

  pub call-quiet : (t : MomentValue) (action : Action) → IsCalm action → IsQuiet (after x call t action now).row
  call-quiet t (on.Open id key asks) calm = open-quiet (now.request id) (opened (entry_of key) asks)
  call-quiet t (on.LookUp id) calm = of-quiet (now.request id) (λ q. look_by q.phase q.hold t q c) (λ q. look-quiet q c t q.phase q.hold)
  call-quiet t (on.Poll id) calm = of-quiet (now.request id) (λ q. poll_by x q.hold t q c) (λ q. poll-quiet q c x t q.hold)
  call-quiet t (on.Begin id head given) calm = of-quiet (now.request id) (λ q. begin_by q.phase q.gave_read (judged_of call) q c) (λ q. begin-quiet q c q.phase q.gave_read (judged_of call))
  call-quiet t (on.Piece id bytes last) calm = of-quiet (now.request id) (λ q. piece_by q.write bytes last q c) (λ q. piece-quiet q c q.write bytes last)
  call-quiet t (on.Read id) calm = of-quiet (now.request id) (λ q. read_by_reader q.reader q c) (λ q. read-quiet q c q.reader)
  call-quiet t (on.Drop id) calm = of-quiet (now.request id) (λ q. drop_row q) (λ q. (refl, (refl, refl)))
  call-quiet t (on.Purge key) calm = (refl, (refl, refl))
  call-quiet t (on.Finish id) calm = absurd calm
  call-quiet t (on.Revalidate id head given) calm = absurd calm
  call-quiet t (on.Put key pieces given) calm = absurd calm

  pub call-alone : (t : MomentValue) (action : Action) → IsAlone (after x call t action now).row
  call-alone t (on.Revalidate id head given) = of-alone (now.request id) (λ q. revalidate_by q.phase q.gave_read (confirmed_by q call) (far_of call.outcome) q c)
      (λ q. revalidate-alone q c q.phase q.gave_read (confirmed_by q call) (far_of call.outcome))
  call-alone t (on.Finish id) = of-alone (now.request id) (λ q. finish_by q.write (far_of call.outcome) q c) (λ q. finish-alone q c q.write (far_of call.outcome))
  call-alone t (on.Put key pieces given) = put-alone key (read_by call) (far_of call.outcome)
  call-alone t (on.Open id key asks) = alone-quiet (after x call t (on.Open id key asks) now).row (call-quiet t (on.Open id key asks) tt)
  call-alone t (on.LookUp id) = alone-quiet (after x call t (on.LookUp id) now).row (call-quiet t (on.LookUp id) tt)
  call-alone t (on.Poll id) = alone-quiet (after x call t (on.Poll id) now).row (call-quiet t (on.Poll id) tt)
  call-alone t (on.Begin id head given) = alone-quiet (after x call t (on.Begin id head given) now).row (call-quiet t (on.Begin id head given) tt)
  call-alone t (on.Piece id bytes last) = alone-quiet (after x call t (on.Piece id bytes last) now).row (call-quiet t (on.Piece id bytes last) tt)
  call-alone t (on.Read id) = alone-quiet (after x call t (on.Read id) now).row (call-quiet t (on.Read id) tt)
  call-alone t (on.Drop id) = alone-quiet (after x call t (on.Drop id) now).row (call-quiet t (on.Drop id) tt)
  call-alone t (on.Purge key) = alone-quiet (after x call t (on.Purge key) now).row (call-quiet t (on.Purge key) tt)
