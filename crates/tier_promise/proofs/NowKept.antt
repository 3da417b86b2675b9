-- An event of a request leaves changes in order, and each body's entry tracked with at least the body's size.
use Rattle.std.proofs.Common.{◌≡◌, ℕ, ◌≤◌, refl, ap, sym, ◌∙◌, true, false, cond, [], ◌∷◌, ◌++◌, ◌==◌, length, arith}
use Rattle.std.specs.Prelude.{◌&&◌, Bool, List, Option, Some, None, Ok, Err, is_some, not, map, unwrap_or, option_map}
use Rattle.std.specs.List.{AllByRecursion}
use Rattle.std.specs.Option.{option_or}
use Rattle.std.proofs.lemmas.Bool.{eqb-true, eq-eqb}
use Rattle.cache_entries.specs.declared.entry.CacheEntryKey.{CacheEntryKey}
use Rattle.cache_entries.specs.Entry.{same_entry}
use Rattle.cache_entries.specs.Rows.{weight_of}
use Rattle.cache_entries.specs.SameEntry.{same_entry-tells}
use Rattle.cache_words.specs.Time.{MomentValue, at_least, elapsed}
use Rattle.cache_heads.specs.Merged.{with_provenance_of}
use Rattle.cache_heads.specs.declared.meta.CacheMeta.{CacheMeta}
use Rattle.cache_changes.specs.Changes.{stored_key}
use Rattle.cache_lock.specs.declared.status.LockStatus.{LockStatus}
use Rattle.cache_lock.specs.declared.status.LockStatus.TheVariants as status
use Rattle.tier_model.specs.declared.event.Answer.TheVariants as answer
use Rattle.tier_model.specs.declared.event.TierFault.{TierFault}
use Rattle.tier_model.specs.declared.event.TierFault.TheVariants as fault
use Rattle.tier_model.specs.declared.state.Body.{Body}
use Rattle.tier_model.specs.Keys.{Entry, alone}
use Rattle.tier_model.specs.Calls.{extended}
use Rattle.tier_model.specs.Response.{Judged, kept, not_kept, too_early, not_read}
use Rattle.tier_model.specs.Rows.{size_of, weight_for}
use Rattle.tier_model.specs.State.{Settings, Phase, cache_key, stale, miss, begun, Reader, closed, unread, spent, streaming, Seen}
use Rattle.tier_promise.specs.Promise.{Write, Permit, Changes, begins, appends, lands, puts, renews, weighs, takes, ends, flying, body_of, first_of, shown, rows, ended, is_done, is_alive, as_body, Hold, no_lock, holds, waits}
use Rattle.tier_promise.specs.Promise.{Request, Now, EventRow, refused, open_row, opened, asked, permits_in, look_absent, look_found, look_row, look_by, after_poll, poll_row, poll_by, released, dropped, begin_row, begin_by, piece_by, read_by_reader}
use Rattle.tier_promise.specs.Promise.{still, confirmed, confirm_row, revalidate_row, revalidate_by, left, drop_row, lands_whole, done_so, finish_row, finish_by, came, row_of, of_open}
use Rattle.tier_promise.specs.Promise.{HowFar, whole_way, cut, kept_out, ComesSo, a_renewal, some_memory, no_needs, use_of, answer_alone}
use Rattle.tier_model.specs.Standings.{time_waited}
use Rattle.tier_model.specs.Polls.{told_in_time}
use Rattle.tier_model.specs.Answers.{is_fresh, is_past}
use Rattle.tier_promise.proofs.NowRows.{row_closed}
use Rattle.tier_promise.proofs.NowLists.{all-pushed, both-all}
use Rattle.tier_promise.proofs.NowOrder.{IsOpen}
use Rattle.tier_promise.proofs.NowKeeps.{IsTracked, Keeps, write_of, with_request, with_changes, IsFree, IsCalm, keeps-more, keeps-turned, keeps-begun, keeps-calm, keeps-left, keeps-whole, keeps-renewed}

-- ---- lists of changes

all_taken : (es : List CacheEntryKey) → AllByRecursion IsCalm (map takes es)
all_taken [] = tt
all_taken (e ∷ es) = (tt, all_taken es)

calm_permits : (h : Hold) → AllByRecursion IsCalm (permits_in h)
calm_permits no_lock = tt
calm_permits (holds p) = (tt, tt)
calm_permits (waits p first) = tt

calm_released : (how : LockStatus) (h : Hold) (c : Changes) → AllByRecursion IsCalm (released how h c)
calm_released how no_lock c = tt
calm_released how (holds p) c = by_end (is_some (ended p.number c))
  where
    by_end : (v : Bool) → AllByRecursion IsCalm (cond v [] (ends p.number how ∷ []))
    by_end true = tt
    by_end false = (tt, tt)
calm_released how (waits p first) c = tt

calm_dropped : (h : Hold) → AllByRecursion IsCalm (dropped h)
calm_dropped no_lock = tt
calm_dropped (holds p) = (tt, tt)
calm_dropped (waits p first) = tt

calm_aged : (v : Bool) (n : ℕ) (how : LockStatus) → AllByRecursion IsCalm (cond v (ends n how ∷ []) [])
calm_aged true n how = (tt, tt)
calm_aged false n how = tt

heavy_enough : (b : Body) → size_of b ≤ weight_for b
heavy_enough b = omega arith

-- ---- what is settled

pub settled-keeps : (now : Now) → Keeps now → (w : Write) → IsOpen w now.changes → IsFree w.number now → is_alive w now.changes ≡ true → (weight : ℕ) → size_of (as_body w now.changes) ≤ weight → (far : HowFar)
    → Keeps (with_changes (extended now.changes (done_so w (lands_whole w weight) far)) now)
settled-keeps now k w i own alive weight enough (whole_way es) =
    keeps-calm (map takes es) (with_changes (puts (alone w.entry) weight ∷ lands w.number true ∷ now.changes) now) (keeps-whole now k w i own weight alive enough) (all_taken es)
settled-keeps now k w i own alive weight enough (cut es) =
    keeps-calm (map takes es ++ takes (alone w.entry) ∷ []) (with_changes (puts (alone w.entry) weight ∷ lands w.number true ∷ now.changes) now) (keeps-whole now k w i own weight alive enough)
    (all-pushed IsCalm (map takes es) (takes (alone w.entry)) (all_taken es) tt)
settled-keeps now k w i own alive weight enough (kept_out f) = keeps-calm (takes (alone w.entry) ∷ []) (with_changes (lands w.number false ∷ now.changes) now) (keeps-left now k w i own) (tt, tt)

-- ---- events of an open request

module _ (now : Now) (k : Keeps now) (id : ℕ) where
  abbrev c : Changes
  c = now.changes

  abbrev RowKeeps : EventRow → Type 0
  RowKeeps row = Keeps (came id row now).now

  calm-row : (row : EventRow) → AllByRecursion IsCalm row.changes → ((w : Write) → write_of row.request ≡ Some w → write_of (now.request id) ≡ Some w) → RowKeeps row
  calm-row row calm had = keeps-calm row.changes (with_request id row.request now) (keeps-turned now k id row.request had) calm

  closed-keeps : RowKeeps row_closed
  closed-keeps = calm-row row_closed tt (λ w e. absurd cc)

  module _ (q : Request) (at : now.request id ≡ Some q) where
    had : (w : Write) → q.write ≡ Some w → write_of (now.request id) ≡ Some w
    had w e = ap write_of at ∙ e

    refused-keeps : (f : TierFault) → RowKeeps (refused q f)
    refused-keeps f = calm-row (refused q f) tt had

    -- another request has another write
    others-free : (w : Write) → q.write ≡ Some w → (o : Option Request) → write_of o ≡ None → IsFree w.number (with_request id o now)
    others-free w has o none i v e = by_id (i == id) refl e
      where
        by_number : (i == id) ≡ false → write_of (now.request i) ≡ Some v → (t : Bool) → (w.number == v.number) ≡ t → t ≡ false
        by_number apart e false t = refl
        by_number apart e true t =
            let same : id ≡ i = k.apart id i w v (had w has) e (eqb-true w.number v.number t) in
            let one : (i == id) ≡ true = eq-eqb i id (sym same) in
            absurd cc

        by_id : (t : Bool) → (i == id) ≡ t → write_of (cond t o (now.request i)) ≡ Some v → (w.number == v.number) ≡ false
        by_id true t e = let nothing : None ≡ Some v = sym none ∙ e in absurd cc
        by_id false t e = by_number t e (w.number == v.number) refl

    -- its write lands
    module _ (w : Write) (has : q.write ≡ Some w) (o : Option Request) (none : write_of o ≡ None) where
      turned : Keeps (with_request id o now)
      turned = keeps-turned now k id o (λ v e. let nothing : None ≡ Some v = sym none ∙ e in absurd cc)

      left-keeps : Keeps (with_changes (lands w.number false ∷ c) (with_request id o now))
      left-keeps = keeps-left (with_request id o now) turned w (k.held id w (had w has)) (others-free w has o none)

      whole-keeps : (far : HowFar) → is_alive w c ≡ true → Keeps (with_changes (extended c (done_so w (lands_whole w (weight_for (as_body w c))) far)) (with_request id o now))
      whole-keeps far alive = settled-keeps (with_request id o now) turned w (k.held id w (had w has)) (others-free w has o none) alive (weight_for (as_body w c)) (heavy_enough (as_body w c)) far

    -- ---- look-ups

    used_enough : (x : ℕ) (u : Write) → IsTracked u c → same_entry (alone q.entry) (alone u.entry) ≡ true → size_of (as_body u c) ≤ unwrap_or (weight_of (alone q.entry) (rows c)) x
    used_enough x u i h =
        let entry : alone q.entry ≡ alone u.entry = same_entry-tells.equal (alone q.entry) (alone u.entry) h in
        let same : unwrap_or (weight_of (alone q.entry) (rows c)) x ≡ i.0 = ap (λ (e : CacheEntryKey). unwrap_or (weight_of e (rows c)) x) entry ∙ ap (λ (o : Option ℕ). unwrap_or o x) i.1 in
        omega (arith, same, i.2)

    found-keeps : (t : MomentValue) (complete : Bool) (h : Hold) (w : Write) → RowKeeps (look_found t complete h w q c)
    found-keeps t true h w =
        let y : Now = record { changes = c; request = λ i. cond (i == id) (look_found t true h w q c).request (now.request i) } in
        let v = unwrap_or (weight_of (alone q.entry) (rows c)) (weight_for (as_body w c)) in
        keeps-calm (permits_in h) (with_changes (puts (alone q.entry) v ∷ c) y)
        (keeps-more y (keeps-turned now k id (look_found t true h w q c).request had) (puts (alone q.entry) v) tt (λ j u e s. used_enough (weight_for (as_body w c)) u (k.tracks j u e) s) (λ i u e. refl)) (calm_permits h)
    found-keeps t false h w = calm-row (look_found t false h w q c) (calm_permits h) had

    look-keeps : (t : MomentValue) (o : Option Write) → RowKeeps (look_row t q o c)
    look-keeps t None = calm-row (look_absent (asked q.asks t q c) q) (calm_permits (asked q.asks t q c)) had
    look-keeps t (Some w) = found-keeps t (not (is_some (first_of (flying (stored_key q.entry) c)))) (asked (q.asks && not (is_fresh t w.meta)) t q c) w

    pub look_by-keeps : (t : MomentValue) (phase : Phase) (h : Hold) → RowKeeps (look_by phase h t q c)
    look_by-keeps t cache_key no_lock = look-keeps t (shown (stored_key q.entry) c)
    look_by-keeps t stale no_lock = look-keeps t (shown (stored_key q.entry) c)
    look_by-keeps t cache_key (waits p first) = refused-keeps fault.Waiting
    look_by-keeps t stale (waits p first) = refused-keeps fault.Waiting
    look_by-keeps t _ _ = refused-keeps fault.WrongPhase

    -- ---- polls

    had_poll : (o : Option LockStatus) (t : MomentValue) (p : Permit) (first : Option MomentValue) (w : Write) → (after_poll o t p first q).write ≡ Some w → write_of (now.request id) ≡ Some w
    had_poll None t p first w e = had w e
    had_poll (Some how) t p first w e = had w e

    poll_row-keeps : (end : Option LockStatus) (aged over : Bool) (t : MomentValue) (p : Permit) (first : Option MomentValue) → RowKeeps (poll_row end aged over t p first q)
    poll_row-keeps end aged over t p first =
        calm-row (poll_row end aged over t p first q) (calm_aged (aged && not (is_some end)) p.number status.AgeTimeout) (had_poll (option_or end (told_in_time aged over)) t p first)

    pub poll-keeps : (s : Settings) (t : MomentValue) (h : Hold) → RowKeeps (poll_by s h t q c)
    poll-keeps s t (waits p first) = poll_row-keeps (ended p.number c) (at_least (elapsed p.given t) s.age) (is_past s.wait q.waited (time_waited first t)) t p first
    poll-keeps s t no_lock = refused-keeps fault.WrongPhase
    poll-keeps s t (holds p) = refused-keeps fault.WrongPhase

    -- ---- writes

    begin-keeps : (j : Option Judged) → RowKeeps (begin_row j q c)
    begin-keeps (Some (kept meta)) =
        let w : Write = record { number = length c; entry = q.entry; meta = with_provenance_of (option_map (λ x. x.meta) q.seen) meta } in
        let r : Request = record q { phase = begun; hold = no_lock; seen = None; write = Some w; reader = streaming w.number 0 } in
        keeps-calm (released status.Done q.hold c) (with_changes (begins w ∷ c) (with_request id (Some r) now)) (keeps-begun now k id r w refl refl) (calm_released status.Done q.hold c)
    begin-keeps (Some (not_kept reason)) = calm-row (begin_row (Some (not_kept reason)) q c) (calm_released status.GiveUp q.hold c) had
    begin-keeps (Some too_early) = refused-keeps fault.BeforeEpoch
    begin-keeps (Some not_read) = refused-keeps fault.BadHead
    begin-keeps None = calm-row (begin_row None q c) tt had

    pub begin_by-keeps : (j : Option Judged) (phase : Phase) (gave : Bool) → RowKeeps (begin_by phase gave j q c)
    begin_by-keeps j miss gave = begin-keeps j
    begin_by-keeps j stale false = begin-keeps j
    begin_by-keeps j _ _ = refused-keeps fault.WrongPhase

    pub piece-keeps : (o : Option Write) (bytes : List ℕ) (last : Bool) → q.write ≡ o → RowKeeps (piece_by o bytes last q c)
    piece-keeps None bytes last has = refused-keeps fault.WrongPhase
    piece-keeps (Some w) bytes last has = by_done (is_done w.number c)
      where
        by_done : (v : Bool) → RowKeeps (cond v (refused q fault.AfterEnd) (record { outcome = Ok answer.Written; changes = appends w.number bytes last ∷ []; request = Some q; needs = some_memory }))
        by_done true = refused-keeps fault.AfterEnd
        by_done false = keeps-more (with_request id (Some q) now) (keeps-turned now k id (Some q) had) (appends w.number bytes last) (let i = k.held id w (had w has) in (i.below, i.yet)) tt (λ i v e. refl)

    pub finish-keeps : (o : Option Write) (far : HowFar) → q.write ≡ o → RowKeeps (finish_by o far q c)
    finish-keeps None far has = refused-keeps fault.WrongPhase
    finish-keeps (Some w) far has = by_life (is_alive w c) refl
      where
        without : Request
        without = record q { write = None }

        by_life : (v : Bool) → is_alive w c ≡ v → RowKeeps (cond v (finish_row w (as_body w c) far q) (record (refused without fault.WriteRemoved) { changes = lands w.number false ∷ [] }))
        by_life true alive = whole-keeps w has (Some without) refl far alive
        by_life false alive = left-keeps w has (Some without) refl

    -- ---- revalidations

    seen_body : (x : Option Seen) (o : Option Write) (w : Write) → still x o ≡ Some w → o ≡ Some w
    seen_body None o w e = absurd cc
    seen_body (Some x) None w e = absurd cc
    seen_body (Some x) (Some v) w e = by_number (x.number == v.number) e
      where
        by_number : (t : Bool) → cond t (Some v) None ≡ Some w → Some v ≡ Some w
        by_number true e = e
        by_number false e = absurd cc

    module _ (w : Write) (body : body_of (stored_key q.entry) c ≡ Some w) (meta : CacheMeta) where
      abbrev turned_now : Now
      turned_now = with_request id (Some (confirmed q)) now

      abbrev weight : ℕ
      weight = weight_for (as_body (record w { meta = meta }) c)

      abbrev renewed_now : Now
      renewed_now = with_changes (weighs (alone q.entry) weight ∷ renews w.number q.entry meta ∷ c) turned_now

      renewed_keeps : Keeps renewed_now
      renewed_keeps = keeps-renewed turned_now (keeps-turned now k id (Some (confirmed q)) had) (stored_key q.entry) w body q.entry refl meta weight (heavy_enough (as_body (record w { meta = meta }) c))

      kept-confirmed : (x : Settings) (far : HowFar) → ComesSo x (a_renewal (alone q.entry) weight) far c → RowKeeps (confirm_row (kept meta) far (Some w) q c)
      kept-confirmed x (whole_way es) so =
          keeps-calm (map takes es ++ released status.Done q.hold c) renewed_now renewed_keeps (both-all IsCalm (map takes es) (released status.Done q.hold c) (all_taken es) (calm_released status.Done q.hold c))
      kept-confirmed x (cut es) so =
          keeps-calm ((map takes es ++ takes (alone q.entry) ∷ []) ++ released status.Done q.hold c) renewed_now renewed_keeps
          (both-all IsCalm (map takes es ++ takes (alone q.entry) ∷ []) (released status.Done q.hold c) (all-pushed IsCalm (map takes es) (takes (alone q.entry)) (all_taken es) tt) (calm_released status.Done q.hold c))
      kept-confirmed x (kept_out f) so = absurd so

    -- a renewal that is right comes to its end, or until memory runs out
    abbrev Comes : Settings → EventRow → HowFar → Type 0
    Comes x row far = ComesSo x row.needs.entering far c

    confirm-keeps : (x : Settings) (j : Judged) (far : HowFar) (o : Option Write) → ((w : Write) → o ≡ Some w → body_of (stored_key q.entry) c ≡ Some w) → Comes x (confirm_row j far o q c) far → RowKeeps (confirm_row j far o q c)
    confirm-keeps x not_read far o is so = refused-keeps fault.BadHead
    confirm-keeps x too_early far None is so = refused-keeps fault.NotStored
    confirm-keeps x (not_kept reason) far None is so = refused-keeps fault.NotStored
    confirm-keeps x (kept meta) far None is so = refused-keeps fault.NotStored
    confirm-keeps x too_early far (Some w) is so = refused-keeps fault.BeforeEpoch
    confirm-keeps x (not_kept reason) far (Some w) is so = calm-row (confirm_row (not_kept reason) far (Some w) q c) (calm_released status.GiveUp q.hold c) had
    confirm-keeps x (kept meta) far (Some w) is so = kept-confirmed w (is w refl) meta x far so

    revalidate-keeps : (x : Settings) (j : Option Judged) (far : HowFar) → Comes x (revalidate_row j far q c) far → RowKeeps (revalidate_row j far q c)
    revalidate-keeps x None far so = calm-row (revalidate_row None far q c) tt had
    revalidate-keeps x (Some j) far so = confirm-keeps x j far (still q.seen (body_of (stored_key q.entry) c)) (λ w e. seen_body q.seen (body_of (stored_key q.entry) c) w e) so

    pub revalidate_by-keeps : (x : Settings) (j : Option Judged) (far : HowFar) (phase : Phase) (gave : Bool) → Comes x (revalidate_by phase gave j far q c) far → RowKeeps (revalidate_by phase gave j far q c)
    revalidate_by-keeps x j far stale false so = revalidate-keeps x j far so
    revalidate_by-keeps x j far _ _ so = refused-keeps fault.WrongPhase

    pub read-keeps : (r : Reader) → RowKeeps (read_by_reader r q c)
    read-keeps closed = refused-keeps fault.WrongPhase
    read-keeps (unread bytes) = calm-row (read_by_reader (unread bytes) q c) tt had
    read-keeps spent = calm-row (read_by_reader spent q c) tt had
    read-keeps (streaming n place) = calm-row (read_by_reader (streaming n place) q c) tt had

    pub drop-keeps : RowKeeps (drop_row q)
    drop-keeps = by_write q.write refl
      where
        by_write : (o : Option Write) → q.write ≡ o → RowKeeps (record (answer_alone (Ok answer.Dropped)) { changes = left o ++ dropped q.hold })
        by_write None has = calm-row (record (answer_alone (Ok answer.Dropped)) { changes = dropped q.hold }) (calm_dropped q.hold) (λ w e. absurd cc)
        by_write (Some w) has = keeps-calm (dropped q.hold) (with_changes (lands w.number false ∷ c) (with_request id None now)) (left-keeps w has None refl) (calm_dropped q.hold)

  -- ---- a request that may not be open

  pub open-keeps : (o : Option Request) → now.request id ≡ o → (e : Entry) (asks : Bool) → RowKeeps (open_row o (opened e asks))
  open-keeps None at e asks = calm-row (open_row None (opened e asks)) tt (λ w e. absurd cc)
  open-keeps (Some q) at e asks = refused-keeps q at fault.IdInUse

  -- by what is said of its row
  pub of-open-so : (f : Request → Changes → EventRow) (P : EventRow → Type 0) → P (row_of (now.request id) (λ q. f q c)) → ((q : Request) → now.request id ≡ Some q → P (f q c) → RowKeeps (f q c)) → Keeps (of_open id f now).now
  of-open-so f P so h = by_open (now.request id) refl so
    where
      by_open : (o : Option Request) → now.request id ≡ o → P (row_of o (λ q. f q c)) → RowKeeps (row_of o (λ q. f q c))
      by_open None at so = closed-keeps
      by_open (Some q) at so = h q at so

  pub of-open-keeps : (f : Request → Changes → EventRow) → ((q : Request) → now.request id ≡ Some q → RowKeeps (f q c)) → Keeps (of_open id f now).now
  of-open-keeps f h = of-open-so f (λ row. Unit {0}) tt (λ q at so. h q at)
