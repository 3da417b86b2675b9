-- What calls change of the order of use by the promise they change of it by their history, list by list.
use Rattle.std.proofs.Common.{◌≡◌, ℕ, refl, ap, sym, ◌∙◌, true, false, cond, [], ◌∷◌, ◌++◌}
use Rattle.std.specs.Prelude.{Bool, List, Option, Some, None, Ok, Err, is_some, map, not}
use Rattle.cache_entries.specs.declared.entry.CacheEntryKey.{CacheEntryKey}
use Rattle.cache_entries.specs.Entry.{key_of}
use Rattle.cache_entries.specs.Rows.{without_row, admitted}
use Rattle.cache_lock.specs.declared.status.LockStatus.{LockStatus}
use Rattle.cache_changes.specs.Changes.{Changes as Told, evicts}
use Rattle.cache_changes.specs.Changes as kept
use Rattle.cache_changes.specs.Uses.{rows_of}
use Rattle.cache_changes.specs.Changes.{Write as KeptWrite}
use Rattle.tier_model.specs.declared.event.Action.{Action}
use Rattle.tier_model.specs.declared.event.Action.TheVariants as on
use Rattle.tier_model.specs.declared.event.Answer.TheVariants as answer
use Rattle.tier_model.specs.declared.event.Done.{Done}
use Rattle.tier_model.specs.declared.event.TierFault.{TierFault}
use Rattle.tier_model.specs.declared.event.TierFault.TheVariants as fault
use Rattle.tier_model.specs.declared.state.Body.{Body}
use Rattle.tier_model.specs.Keys.{alone}
use Rattle.tier_model.specs.Calls.{Call, History, Outcome, extended, done_of, finished_by}
use Rattle.tier_model.specs.Histories.{Kept, Opening, goes, settles, clears, takes_back, put_changes, begin_changes, piece_changes, settles_back, finished_of, finish_changes, drop_changes, renews_body, renewal_changes, changes_in, writes_begun}
use Rattle.tier_model.specs.Rows.{FinishedBody, weight_for}
use Rattle.tier_promise.specs.Promise.{Write, Changes, Hold, no_lock, holds, waits, Change, puts, lands, takes, ends, rows, ended, permits_in, released, dropped, ran_out}
use Rattle.tier_promise.proofs.NowLists.{extended-both}

-- the entries in the order of use are the same by both
abbrev pub Same : Changes → Told Kept → Type 0
Same c told = rows c ≡ rows_of told

-- entries go
pub same-went : (es : List CacheEntryKey) (c : Changes) (told : Told Kept) → Same c told → Same (extended c (map takes es)) (extended told (goes es))
same-went [] c told same = same
same-went (e ∷ es) c told same = same-went es (takes e ∷ c) (evicts e ∷ told) (ap (without_row e) same)

-- a body lands, its entry is admitted, and these go
abbrev pub admits : Write → ℕ → List CacheEntryKey → List Change
admits w weight es = lands w.number true ∷ puts (alone w.entry) weight ∷ map takes es

-- a body lands and its entry is admitted, or both go again
module _ (w : Write) (b : Body) (c : Changes) (told : Told Kept) (same : Same c told) where
  abbrev pub finished : FinishedBody
  finished = record { entry = w.entry; body = b }

  pub same-settled : (es : List CacheEntryKey) → Same (extended c (admits w (weight_for b) es)) (extended told (settles finished es))
  same-settled es = same-went es (puts (alone w.entry) (weight_for b) ∷ lands w.number true ∷ c) (kept.admits (alone w.entry) (weight_for b) ∷ told) (ap (admitted (alone w.entry) (weight_for b)) same)

  pub same-back : (v : Bool) (es : List CacheEntryKey)
      → Same (extended c (cond v (admits w (weight_for b) es) (lands w.number false ∷ []) ++ takes (alone w.entry) ∷ [])) (extended told (cond v (settles finished es) [] ++ clears w.entry))
  same-back true es =
      ap rows (extended-both c (admits w (weight_for b) es) (takes (alone w.entry) ∷ [])) ∙ ap (without_row (alone w.entry)) (same-settled es)
      ∙ sym (ap rows_of (extended-both told (settles finished es) (clears w.entry)))
  same-back false es = ap (without_row (alone w.entry)) same

-- ---- what is no use, by the promise

pub rows-permits : (h : Hold) (c : Changes) → rows (extended c (permits_in h)) ≡ rows c
rows-permits no_lock c = refl
rows-permits (holds p) c = refl
rows-permits (waits p first) c = refl

pub rows-released : (how : LockStatus) (h : Hold) (then c : Changes) → rows (extended c (released how h then)) ≡ rows c
rows-released how no_lock then c = refl
rows-released how (waits p first) then c = refl
rows-released how (holds p) then c = by_end (is_some (ended p.number then))
  where
    by_end : (v : Bool) → rows (extended c (cond v [] (ends p.number how ∷ []))) ≡ rows c
    by_end true = refl
    by_end false = refl

pub rows-dropped : (h : Hold) (c : Changes) → rows (extended c (dropped h)) ≡ rows c
rows-dropped no_lock c = refl
rows-dropped (holds p) c = refl
rows-dropped (waits p first) c = refl

-- ---- what is none by the history

-- of these events alone an answer uses, admits or takes an entry
abbrev pub IsUse : Action → Type 0
IsUse (on.LookUp id) = Unit {0}
IsUse (on.Revalidate id head given) = Unit {0}
IsUse (on.Finish id) = Unit {0}
IsUse (on.Purge key) = Unit {0}
IsUse (on.Put key pieces given) = Unit {0}
IsUse _ = ⊥

module _ (start : Opening) (begun renewed held : ℕ → Option (KeptWrite Kept)) (call : Call) (h : History) (told : Told Kept) where
  abbrev pub by_history : Action → Outcome → Told Kept
  by_history action o = extended told (changes_in start begun renewed held action o call h told)

  begin_rows : (w : Option (KeptWrite Kept)) → rows_of (extended told (begin_changes w)) ≡ rows_of told
  begin_rows None = refl
  begin_rows (Some w) = refl

  piece_rows : (w : Option (KeptWrite Kept)) (bytes : List ℕ) (last : Bool) → rows_of (extended told (piece_changes w bytes last)) ≡ rows_of told
  piece_rows None bytes last = refl
  piece_rows (Some w) bytes true = refl
  piece_rows (Some w) bytes false = refl

  drop_rows : (w : Option (KeptWrite Kept)) → rows_of (extended told (drop_changes w)) ≡ rows_of told
  drop_rows None = refl
  drop_rows (Some w) = refl

  pub rows-quiet : (action : Action) (o : Outcome) → (IsUse action → ⊥) → rows_of (by_history action o) ≡ rows_of told
  rows-quiet (on.Begin id head given) (Ok answer.Begun) none = begin_rows (begun id)
  rows-quiet (on.Begin id head given) _ none = refl
  rows-quiet (on.Piece id bytes last) (Ok answer.Written) none = piece_rows (held id) bytes last
  rows-quiet (on.Piece id bytes last) _ none = refl
  rows-quiet (on.Drop id) (Ok a) none = drop_rows (held id)
  rows-quiet (on.Drop id) (Err f) none = refl
  rows-quiet (on.Open id key asks) o none = refl
  rows-quiet (on.Poll id) o none = refl
  rows-quiet (on.Read id) o none = refl
  rows-quiet (on.LookUp id) o none = absurd (none tt)
  rows-quiet (on.Revalidate id head given) o none = absurd (none tt)
  rows-quiet (on.Finish id) o none = absurd (none tt)
  rows-quiet (on.Purge key) o none = absurd (none tt)
  rows-quiet (on.Put key pieces given) o none = absurd (none tt)

  -- ---- refusals that had stored nothing

  pub renewal-rows : (w : Option (KeptWrite Kept)) (f : TierFault) → (done_of f).stored ≡ false → rows_of (extended told (renewal_changes w (Err f) told)) ≡ rows_of told
  renewal-rows None f none = refl
  renewal-rows (Some w) f none = ap (λ (v : Bool). rows_of (extended told (cond v (renews_body w (done_of f).evicted told ++ clears (key_of w.meta.entry)) []))) none

  pub finish-rows : (w : Option (KeptWrite Kept)) (f : TierFault) → (done_of f).stored ≡ false → rows_of (extended told (finish_changes w (Err f) told)) ≡ rows_of told
  finish-rows None f none = refl
  finish-rows (Some w) fault.WriteRemoved none = refl
  finish-rows (Some w) f none = ap (λ (v : Bool). rows_of (extended told (cond v (kept.finishes w ∷ settles_back (finished_of told w) (done_of f)) []))) none

  pub put-rows : (n : ℕ) (b : Option FinishedBody) (f : TierFault) → (done_of f).stored ≡ false → rows_of (extended told (put_changes n b (Err f))) ≡ rows_of told
  put-rows n None f none = refl
  put-rows n (Some b) f none = stored_not (done_of f) none
    where
      stored_not : (d : Done) → d.stored ≡ false → rows_of (extended told (takes_back n b d)) ≡ rows_of told
      stored_not d none = rw none refl

  pub rows-refused : (action : Action) (f : TierFault) → (done_of f).stored ≡ false → rows_of (by_history action (Err f)) ≡ rows_of told
  rows-refused (on.Revalidate id head given) f none = renewal-rows (renewed id) f none
  rows-refused (on.Finish id) f none = finish-rows (held id) f none
  rows-refused (on.Put key pieces given) f none = put-rows (writes_begun start h) (finished_by call) f none
  rows-refused (on.Begin id head given) f none = refl
  rows-refused (on.Piece id bytes last) f none = refl
  rows-refused (on.Drop id) f none = refl
  rows-refused (on.Open id key asks) f none = refl
  rows-refused (on.Poll id) f none = refl
  rows-refused (on.Read id) f none = refl
  rows-refused (on.LookUp id) f none = refl
  rows-refused (on.Purge key) f none = refl

  pub rows-ran : (action : Action) (o : Outcome) → ran_out o ≡ true → rows_of (by_history action o) ≡ rows_of told
  rows-ran action (Ok a) out = absurd cc
  rows-ran action (Err f) out = rows-refused action f (stored_none f out)
    where
      was_false : (v : Bool) → not v ≡ true → v ≡ false
      was_false true e = absurd cc
      was_false false e = refl

      stored_none : (f : TierFault) → ran_out (Err f) ≡ true → (done_of f).stored ≡ false
      stored_none (fault.NumbersSpent d) out = was_false d.stored out
      stored_none (fault.TooHeavy d) out = was_false d.stored out
      stored_none (fault.TooLong d) out = was_false d.stored out
      stored_none (fault.Memory d) out = was_false d.stored out
      stored_none _ out = absurd cc
