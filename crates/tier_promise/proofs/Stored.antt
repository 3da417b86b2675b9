-- What a put that finished stores, and what a confirmed body keeps.
use Rattle.cache_heads.specs.declared.given.GivenMeta.{GivenMeta}
use Rattle.std.proofs.Common.{◌≡◌, ℕ, ◌+◌, refl, ap, sym, ◌∙◌, true, false, subst, cond, [], ◌∷◌, ◌++◌, ◌==◌, length}
use Rattle.std.specs.Prelude.{Bool, List, Option, Some, None, option_map, is_some, map, find, Ok, Err}
use Rattle.std.specs.List.{AllByRecursion}
use Rattle.std.specs.Option.{option_or}
use Rattle.std.proofs.lemmas.Bool.{eqb-true}
use Rattle.cache_words.specs.Key.{CacheKeyValue}
use Rattle.cache_changes.specs.Bound.{is_entry_of}
use Rattle.cache_changes.specs.Changes.{StoredKey, stored_key}
use Rattle.cache_entries.specs.declared.entry.CacheEntryKey.{CacheEntryKey}
use Rattle.cache_entries.specs.declared.rows.Tracked.{Tracked}
use Rattle.cache_lock.specs.declared.status.LockStatus.{LockStatus}
use Rattle.cache_lock.specs.declared.status.LockStatus.TheVariants as status
use Rattle.cache_heads.specs.declared.meta.CacheMeta.{CacheMeta}
use Rattle.tier_model.specs.declared.event.Action.TheVariants as on
use Rattle.tier_model.specs.declared.event.Answer.TheVariants as answer
use Rattle.tier_model.specs.declared.state.Body.{Body}
use Rattle.tier_model.specs.declared.whole.PutVerdict.{PutVerdict}
use Rattle.tier_model.specs.declared.whole.PutVerdict.TheVariants as whole
use Rattle.tier_model.specs.Keys.{Entry, entry_of, alone}
use Rattle.tier_model.specs.Response.{Judged, kept, not_kept, too_early, not_read}
use Rattle.tier_model.specs.Calls.{Call, History, Outcome, extended, read_by}
use Rattle.tier_model.specs.Rows.{weight_for}
use Rattle.tier_model.specs.State.{Settings, Phase, stale, Seen}
use Rattle.tier_promise.specs.Promise.{Write, Change, Changes, begins, appends, lands, puts, renews, weighs, takes, ends, has_number, bytes_of, as_body, flying, body_of, ended, Hold, no_lock, holds, waits, released, Request, Now, EventRow, HowFar, whole_way, far_of, still, confirmed, confirm_row, renew_row, confirmed_by}
use Rattle.tier_promise.specs.Promise.{revalidate_row, revalidate_by, row_of, put_row, after, now_of, AreRight}
use Rattle.tier_promise.proofs.NowLists.{both-all}
use Rattle.tier_promise.proofs.NowOrder.{open-later}
use Rattle.tier_promise.proofs.NowKeeps.{Keeps, one_write}
use Rattle.tier_promise.proofs.NowCalls.{w, written, yet, begun_now, written_now, alive_now, bytes_now, keeps-all}
use Rattle.tier_promise.proofs.Founds.{said-as, next-as}

-- ---- what leaves bytes and bodies

-- a change without bytes
abbrev IsDry : Change → Type 0
IsDry (appends n bytes last) = ⊥
IsDry _ = Unit {0}

bytes-one : (n : ℕ) (x : Change) (c : Changes) → IsDry x → bytes_of n (x ∷ c) ≡ bytes_of n c
bytes-one n (appends m bytes last) c dry = absurd dry
bytes-one n _ c dry = refl

bytes-kept : (n : ℕ) (xs : List Change) (c : Changes) → AllByRecursion IsDry xs → bytes_of n (extended c xs) ≡ bytes_of n c
bytes-kept n [] c dry = refl
bytes-kept n (x ∷ xs) c dry = bytes-kept n xs (x ∷ c) dry.1 ∙ bytes-one n x c dry.0

dry_taken : (es : List CacheEntryKey) → AllByRecursion IsDry (map takes es)
dry_taken [] = tt
dry_taken (e ∷ es) = (tt, dry_taken es)

dry_released : (how : LockStatus) (h : Hold) (c : Changes) → AllByRecursion IsDry (released how h c)
dry_released how no_lock c = tt
dry_released how (waits p first) c = tt
dry_released how (holds p) c = by_end (is_some (ended p.number c))
  where
    by_end : (v : Bool) → AllByRecursion IsDry (cond v [] (ends p.number how ∷ []))
    by_end true = tt
    by_end false = (tt, tt)

-- other entries go
body-kept : (k : StoredKey) (es : List CacheEntryKey) (c : Changes) → AllByRecursion (λ e. is_entry_of k e ≡ false) es → body_of k (extended c (map takes es)) ≡ body_of k c
body-kept k [] c others = refl
body-kept k (e ∷ es) c others = body-kept k es (takes e ∷ c) others.1 ∙ ap (λ (v : Bool). cond v None (body_of k c)) others.0

-- ---- a put that finished

module _ (now : Now) (k : Keeps now) (e : Entry) (b : Body) (es : List CacheEntryKey) (others : AllByRecursion (λ y. is_entry_of (stored_key e) y ≡ false) es) where
  abbrev all : Changes
  all = written now k e b

  abbrev v : Write
  v = w now k e b

  abbrev landed : Changes
  landed = puts (alone e) (weight_for b) ∷ lands v.number true ∷ all

  found_by : (o : Option Write) → find (has_number v.number) (flying (stored_key e) all) ≡ o → is_some o ≡ true → option_or o (body_of (stored_key e) all) ≡ Some v
  found_by None is some = absurd cc
  found_by (Some y) is some =
      let o = written_now now k e b in
      let one : y ≡ v = one_write (stored_key e) v y all o.order
      (open-later v (appends v.number b.bytes true) (begins v ∷ now.changes) (begun_now now k e b).order (o.order).0 refl (yet now k e b)) is in
      ap (λ (x : Write). Some x) one

  body_is : body_of (stored_key e) landed ≡ Some v
  body_is = found_by (find (has_number v.number) (flying (stored_key e) all)) refl (alive_now now k e b)

  bytes_are : bytes_of v.number (extended landed (map takes es)) ≡ b.bytes
  bytes_are = bytes-kept v.number (map takes es) landed (dry_taken es) ∙ bytes_now now k e b

  put-stored : option_map (λ x. as_body x (extended landed (map takes es))) (body_of (stored_key e) (extended landed (map takes es))) ≡ Some b
  put-stored =
      ap (option_map (λ x. as_body x (extended landed (map takes es)))) (body-kept (stored_key e) es landed others ∙ body_is)
      ∙ ap (λ (l : List ℕ). let body : Body = record { bytes = l; meta = b.meta } in Some body) bytes_are

module _ (s : Settings) (used : ℕ) (loaded : List Tracked) (h : History) (c : Call) (key : CacheKeyValue) (pieces : List (List ℕ)) (given : Option GivenMeta) (size : ℕ) (es : List CacheEntryKey) (right : AreRight s used loaded (c ∷ h))
    (is : c.event.action ≡ on.Put key pieces given) (o : c.outcome ≡ Ok (answer.Finished size es)) (others : AllByRecursion (λ e. is_entry_of (stored_key (entry_of key)) e ≡ false) es) where
  abbrev now : Now
  now = now_of s loaded h

  abbrev k : StoredKey
  k = stored_key (entry_of key)

  abbrev Holds : Body → Changes → Type 0
  Holds b then = option_map (λ x. as_body x then) (body_of k then) ≡ Some b

  by_verdict : (v : Option PutVerdict) → read_by c ≡ v → ◌≡◌ {A = Outcome} (Ok (answer.Finished size es)) (put_row (entry_of key) v (whole_way es) now.changes).outcome
      → (b : Body) × (read_by c ≡ Some (whole.Stored b)) × Holds b (extended now.changes (put_row (entry_of key) v (whole_way es) now.changes).changes)
  by_verdict (Some (whole.Stored b)) v says = (b, v, put-stored now (keeps-all s used loaded h right.1) (entry_of key) b es others)
  by_verdict (Some (whole.Uncacheable reason)) v says = absurd cc
  by_verdict (Some whole.Incomplete) v says = absurd cc
  by_verdict (Some whole.BadHead) v says = absurd cc
  by_verdict (Some whole.BeforeEpoch) v says = absurd cc
  by_verdict None v says = absurd cc

  pub put-is-stored : (b : Body) × (read_by c ≡ Some (whole.Stored b)) × Holds b (now_of s loaded (c ∷ h)).changes
  put-is-stored =
      let far : far_of c.outcome ≡ whole_way es = ap far_of o in
      let said = said-as s (used + length h) c now (on.Put key pieces given) (Ok (answer.Finished size es)) is o right.0 in
      let row : put_row (entry_of key) (read_by c) (far_of c.outcome) now.changes ≡ put_row (entry_of key) (read_by c) (whole_way es) now.changes = ap (λ (f : HowFar). put_row (entry_of key) (read_by c) f now.changes) far in
      let all = by_verdict (read_by c) refl (said.0 ∙ ap (λ (y : EventRow). y.outcome) row) in
      let after_is : (now_of s loaded (c ∷ h)).changes ≡ extended now.changes (put_row (entry_of key) (read_by c) (whole_way es) now.changes).changes =
      ap (λ (y : Now). y.changes) (next-as s c now (on.Put key pieces given) (Ok (answer.Finished size es)) is o) ∙ ap (λ (y : EventRow). extended now.changes y.changes) row in
      (all.0, all.1, subst (λ (then : Changes). Holds all.0 then) (sym after_is) all.2)

-- ---- a 304

module _ (q : Request) (c : Changes) (es : List CacheEntryKey) where
  -- what was seen is the body, and no byte of any write changes
  abbrev IsRenewed : EventRow → Type 0
  IsRenewed row = (x : Seen) × (w : Write) × (q.seen ≡ Some x) × (body_of (stored_key q.entry) c ≡ Some w) × (w.number ≡ x.number) × ((n : ℕ) → bytes_of n (extended c row.changes) ≡ bytes_of n c)

  abbrev Says : EventRow → Type 0
  Says row = ◌≡◌ {A = Outcome} (Ok (answer.Revalidated es)) row.outcome

  still_is : (x : Option Seen) (o : Option Write) (w : Write) → still x o ≡ Some w → (y : Seen) × (x ≡ Some y) × (o ≡ Some w) × (w.number ≡ y.number)
  still_is None o w e = absurd cc
  still_is (Some x) None w e = absurd cc
  still_is (Some x) (Some v) w e = by_number (x.number == v.number) refl e
    where
      by_number : (t : Bool) → (x.number == v.number) ≡ t → cond t (Some v) None ≡ Some w → (y : Seen) × (Some x ≡ Some y) × (Some v ≡ Some w) × (w.number ≡ y.number)
      by_number true t e = (x, refl, e, (let one : v ≡ w = cc in sym (ap (λ (u : Write). u.number) one) ∙ sym (eqb-true x.number v.number t)))
      by_number false t e = absurd cc

  confirm-renews : (j : Judged) (o : Option Write) → still q.seen (body_of (stored_key q.entry) c) ≡ o → Says (confirm_row j (whole_way es) o q c) → IsRenewed (confirm_row j (whole_way es) o q c)
  confirm-renews not_read o is says = absurd cc
  confirm-renews too_early None is says = absurd cc
  confirm-renews (not_kept reason) None is says = absurd cc
  confirm-renews (kept meta) None is says = absurd cc
  confirm-renews too_early (Some w) is says = absurd cc
  confirm-renews (not_kept reason) (Some w) is says = absurd cc
  confirm-renews (kept meta) (Some w) is says =
      let y = still_is q.seen (body_of (stored_key q.entry) c) w is in (
        y.0,
        w,
        y.1,
        y.2,
        y.3,
        λ n. bytes-kept n (map takes es ++ released status.Done q.hold c) (weighs (alone q.entry) (weight_for (record (as_body w c) { meta = meta })) ∷ renews w.number q.entry meta ∷ c)
            (both-all IsDry (map takes es) (released status.Done q.hold c) (dry_taken es) (dry_released status.Done q.hold c)),
      )

  judged-renews : (j : Option Judged) → Says (revalidate_row j (whole_way es) q c) → IsRenewed (revalidate_row j (whole_way es) q c)
  judged-renews None says = absurd cc
  judged-renews (Some j) says = confirm-renews j (still q.seen (body_of (stored_key q.entry) c)) refl says

  renews-by : (phase : Phase) (gave : Bool) (j : Option Judged) → Says (revalidate_by phase gave j (whole_way es) q c) → IsRenewed (revalidate_by phase gave j (whole_way es) q c)
  renews-by stale false j says = judged-renews j says
  renews-by _ _ j says = absurd cc

module _ (s : Settings) (used : ℕ) (loaded : List Tracked) (h : History) (c : Call) (id : ℕ) (head : List ℕ) (given : Option GivenMeta) (q : Request) (es : List CacheEntryKey) (right : AreRight s used loaded (c ∷ h))
    (is : c.event.action ≡ on.Revalidate id head given) (at : (now_of s loaded h).request id ≡ Some q) (o : c.outcome ≡ Ok (answer.Revalidated es)) where
  abbrev before : Now
  before = now_of s loaded h

  abbrev row_at : HowFar → Option Request → EventRow
  row_at far v = row_of v (λ r. revalidate_by r.phase r.gave_read (confirmed_by r c) far r before.changes)

  pub renews-just-that : (x : Seen) × (w : Write) × (q.seen ≡ Some x) × (body_of (stored_key q.entry) before.changes ≡ Some w) × (w.number ≡ x.number)
      × ((n : ℕ) → bytes_of n (now_of s loaded (c ∷ h)).changes ≡ bytes_of n before.changes)
  renews-just-that =
      let said = said-as s (used + length h) c before (on.Revalidate id head given) (Ok (answer.Revalidated es)) is o right.0 in
      let row : row_at (far_of c.outcome) (before.request id) ≡ row_at (whole_way es) (Some q) = ap (row_at (far_of c.outcome)) at ∙ ap (λ (f : HowFar). row_at f (Some q)) (ap far_of o) in
      let all = renews-by q before.changes es q.phase q.gave_read (confirmed_by q c) (said.0 ∙ ap (λ (y : EventRow). y.outcome) row) in
      let after_is : (now_of s loaded (c ∷ h)).changes ≡ extended before.changes (row_at (whole_way es) (Some q)).changes =
      ap (λ (y : Now). y.changes) (next-as s c before (on.Revalidate id head given) (Ok (answer.Revalidated es)) is o) ∙ ap (λ (y : EventRow). extended before.changes y.changes) row in
      (all.0, all.1, all.2, all.3, all.4, λ n. ap (bytes_of n) after_is ∙ all.5 n)
