-- The row of each event of an open request changes only what is its key's, and what its outcome lists.
use Rattle.std.proofs.Common.{◌≡◌, ℕ, ◌≤◌, refl, ap, sym, ◌∙◌, true, false, cond, [], ◌∷◌, ◌++◌, ◌==◌, length, arith}
use Rattle.std.specs.Prelude.{◌&&◌, Bool, List, Option, Some, None, Ok, Err, IfSome, is_some, not, map, option_map, drop, find}
use Rattle.std.specs.Option.{option_or}
use Rattle.std.proofs.lemmas.Bool.{eq-eqb}
use Rattle.cache_words.specs.Time.{MomentValue, at_least, elapsed}
use Rattle.cache_heads.specs.Merged.{with_provenance_of}
use Rattle.cache_heads.specs.declared.meta.CacheMeta.{CacheMeta}
use Rattle.cache_entries.specs.declared.entry.CacheEntryKey.{CacheEntryKey}
use Rattle.cache_changes.specs.Changes.{StoredKey, stored_key}
use Rattle.cache_lock.specs.declared.status.LockStatus.{LockStatus}
use Rattle.cache_lock.specs.declared.status.LockStatus.TheVariants as status
use Rattle.tier_model.specs.declared.event.Action.{Action}
use Rattle.tier_model.specs.declared.event.Answer.TheVariants as answer
use Rattle.tier_model.specs.declared.event.TierFault.{TierFault}
use Rattle.tier_model.specs.declared.event.TierFault.TheVariants as fault
use Rattle.tier_model.specs.Keys.{alone}
use Rattle.tier_model.specs.Calls.{Outcome, extended, evicted_by, is_revalidation}
use Rattle.tier_model.specs.Response.{Judged, kept, not_kept, too_early, not_read}
use Rattle.tier_model.specs.Rows.{weight_for}
use Rattle.tier_model.specs.State.{Settings, Phase, cache_key, stale, miss, revalidated, Reader, closed, unread, spent, streaming, Seen}
use Rattle.tier_model.specs.Standings.{time_waited}
use Rattle.tier_model.specs.Polls.{told_in_time}
use Rattle.tier_model.specs.Answers.{is_fresh, is_past, next_by}
use Rattle.tier_promise.specs.Promise.{Write, Permit, Change, Changes, begins, appends, lands, renews, weighs, takes, ends, has_number, flying, body_of, first_of, shown, bytes_of, ended, is_done, is_alive, as_body, waiting, Hold, no_lock, holds, waits}
use Rattle.tier_promise.specs.Promise.{HowFar, whole_way, cut, kept_out, ComesSo, some_memory, use_of, enters, Request, EventRow, refused, asked, hold_given, told, permits_in}
use Rattle.tier_promise.specs.Promise.{look_absent, look_found, look_row, look_by, after_poll, poll_row, poll_by, released, dropped, begin_row, begin_by, piece_by, read_by_reader, still, confirm_row, revalidate_by, left, drop_row, finish_row, finish_by}
use Rattle.tier_laws.specs.Keys.{is_purge, gives_permit}
use Rattle.tier_laws.specs.Others.{lists}
use Rattle.tier_laws.proofs.Owners.{owner, granted, Scope, AreOwned, owner-new, granted-new}
use Rattle.tier_laws.proofs.Turns.{InTurn, any-listed, any-left, in-turn-both, owner-kept, granted-kept, listed-in-turn, own-goes, HoldsOf, holds-kept, released-in-turn, dropped-in-turn}
use Rattle.tier_laws.proofs.Rows.{scope_of, IsHeld, IsOwn, write-kept, held-kept, true-last, lands-so, lands-listed, finished-so}

module _ (c : Changes) (o : AreOwned c) (q : Request) (i : IsHeld q c) (a : Action) where
  abbrev k : StoredKey
  k = stored_key q.entry

  abbrev IsOwnRow : EventRow → Type 0
  IsOwnRow row = IsOwn (Some k) a row c

  pub refused-own : (f : TierFault) → evicted_by (Err f) ≡ [] → IsOwnRow (refused q f)
  refused-own f none = record { turn = tt; listed = λ j l. let no : false ≡ true = sym (ap (lists j) none) ∙ l in absurd cc; finished = λ size es e. absurd cc; request = i }

  -- ---- look-ups

  abbrev new_permit : MomentValue → Permit
  new_permit t = record { number = length c; key = k; given = t }

  -- what a look-up gives: a new permit of its key, or a wait for one of its key
  abbrev IsGiven : Hold → Type 0
  IsGiven no_lock = Unit {0}
  IsGiven (holds p) = (p.number ≡ length c) × (p.key ≡ k)
  IsGiven (waits p first) = granted p.number c ≡ Some k

  asked-given : (b : Bool) (t : MomentValue) → IsGiven (asked b t q c)
  asked-given false t = tt
  asked-given true t = by_permit (waiting k c) refl
    where
      by_permit : (v : Option Permit) → waiting k c ≡ v → IsGiven (hold_given v (new_permit t))
      by_permit None is = (refl, refl)
      by_permit (Some p) is = (o.waits k p is).0

  module _ (d : Changes) (longer : length c ≤ length d) (same : (n : ℕ) → granted n d ≡ granted n c) where
    permits-in-turn : (s : Scope) (h : Hold) → IsGiven h → s.key ≡ Some k → gives_permit (Ok (answer.Absent (told h))) ≡ s.gives → InTurn s (permits_in h) d
    permits-in-turn s no_lock g key so = tt
    permits-in-turn s (waits p first) g key so = tt
    permits-in-turn s (holds p) g key so =
        let at = g.0 in
        ((omega (arith, at, longer), same p.number ∙ granted-new c o p.number (omega (arith, at)), key ∙ ap (λ (j : StoredKey). Some j) (sym g.1), sym so), tt)

    permits-held : (h : Hold) → IsGiven h → HoldsOf k h (extended d (permits_in h))
    permits-held no_lock g = tt
    permits-held (waits p first) g = same p.number ∙ g
    permits-held (holds p) g =
        let at = g.0 in
        ap (λ (y : Option StoredKey). option_or y (cond (p.number == p.number) (Some p.key) None)) (same p.number ∙ granted-new c o p.number (omega (arith, at)))
        ∙ ap (λ (v : Bool). cond v (Some p.key) None) (eq-eqb p.number p.number refl)
        ∙ ap (λ (j : StoredKey). Some j) g.1

  found-own : (t : MomentValue) (complete : Bool) (h : Hold) (w : Write) → IsGiven h → IsOwnRow (look_found t complete h w q c)
  found-own t true h w g =
      let d : Changes = extended c (enters (use_of true q w c) c) in
      record {
        turn = (tt, permits-in-turn d (omega arith) (λ n. refl) (scope_of (Some k) a (look_found t true h w q c).outcome) h g refl refl);
        listed = λ j l. absurd cc;
        finished = λ size es e. absurd cc;
        request = record { write = write-kept q.entry q.write (look_found t true h w q c).changes c i.write; hold = permits-held d (omega arith) (λ n. refl) h g };
      }
  found-own t false h w g = record {
    turn = permits-in-turn c (omega arith) (λ n. refl) (scope_of (Some k) a (look_found t false h w q c).outcome) h g refl refl;
    listed = λ j l. absurd cc;
    finished = λ size es e. absurd cc;
    request = record { write = write-kept q.entry q.write (permits_in h) c i.write; hold = permits-held c (omega arith) (λ n. refl) h g };
  }

  absent-own : (h : Hold) → IsGiven h → IsOwnRow (look_absent h q)
  absent-own h g = record {
    turn = permits-in-turn c (omega arith) (λ n. refl) (scope_of (Some k) a (look_absent h q).outcome) h g refl refl;
    listed = λ j l. absurd cc;
    finished = λ size es e. absurd cc;
    request = record { write = write-kept q.entry q.write (permits_in h) c i.write; hold = permits-held c (omega arith) (λ n. refl) h g };
  }

  look-own : (t : MomentValue) (v : Option Write) → IsOwnRow (look_row t q v c)
  look-own t None = absent-own (asked q.asks t q c) (asked-given q.asks t)
  look-own t (Some w) = found-own t (not (is_some (first_of (flying k c)))) (asked (q.asks && not (is_fresh t w.meta)) t q c) w (asked-given (q.asks && not (is_fresh t w.meta)) t)

  pub look_by-own : (t : MomentValue) (phase : Phase) (h : Hold) → IsOwnRow (look_by phase h t q c)
  look_by-own t cache_key no_lock = look-own t (shown k c)
  look_by-own t stale no_lock = look-own t (shown k c)
  look_by-own t cache_key (waits p first) = refused-own fault.Waiting refl
  look_by-own t stale (waits p first) = refused-own fault.Waiting refl
  look_by-own t _ _ = refused-own fault.WrongPhase refl

  -- ---- polls

  module _ (end : Option LockStatus) (aged over : Bool) (t : MomentValue) (p : Permit) (first : Option MomentValue) (g : granted p.number c ≡ Some k) where
    abbrev polled : EventRow
    polled = poll_row end aged over t p first q

    aged-in-turn : (v : Bool) → InTurn (scope_of (Some k) a polled.outcome) (cond v (ends p.number status.AgeTimeout ∷ []) []) c
    aged-in-turn true = ((k, g, refl), tt)
    aged-in-turn false = tt

    polled-held : (v : Option LockStatus) → IsHeld (after_poll v t p first q) (extended c polled.changes)
    polled-held None = record { write = write-kept q.entry q.write polled.changes c i.write; hold = granted-kept p.number k polled.changes c g }
    polled-held (Some how) = record { write = write-kept q.entry q.write polled.changes c i.write; hold = tt }

    poll_row-own : IsOwnRow polled
    poll_row-own = record { turn = aged-in-turn (aged && not (is_some end)); listed = λ j l. absurd cc; finished = λ size es e. absurd cc; request = polled-held (option_or end (told_in_time aged over)) }

  pub poll_by-own : (s : Settings) (t : MomentValue) (h : Hold) → HoldsOf k h c → IsOwnRow (poll_by s h t q c)
  poll_by-own s t (waits p first) g = poll_row-own (ended p.number c) (at_least (elapsed p.given t) s.age) (is_past s.wait q.waited (time_waited first t)) t p first g
  poll_by-own s t no_lock g = refused-own fault.WrongPhase refl
  poll_by-own s t (holds p) g = refused-own fault.WrongPhase refl

  -- ---- writes

  begin-own : (j : Option Judged) → IsOwnRow (begin_row j q c)
  begin-own (Some (kept meta)) =
      let w : Write = record { number = length c; entry = q.entry; meta = with_provenance_of (option_map (λ x. x.meta) q.seen) meta } in
      let s : Scope = scope_of (Some k) a (Ok answer.Begun) in
      let mine : owner (length c) (begins w ∷ c) ≡ Some k =
      ap (λ (y : Option StoredKey). option_or y (cond (length c == length c) (Some k) None)) (owner-new c o (length c) (omega arith)) ∙ ap (λ (v : Bool). cond v (Some k) None) (eq-eqb (length c) (length c) refl) in
      record {
        turn = ((refl, refl), released-in-turn s k status.Done q.hold c (begins w ∷ c) refl (holds-kept k q.hold (begins w ∷ []) c i.hold));
        listed = λ j l. absurd cc;
        finished = λ size es e. absurd cc;
        request = record { write = (owner-kept (length c) k (released status.Done q.hold c) (begins w ∷ c) mine, refl); hold = tt };
      }
  begin-own (Some (not_kept reason)) = record {
    turn = released-in-turn (scope_of (Some k) a (Ok (answer.Uncacheable reason))) k status.GiveUp q.hold c c refl i.hold;
    listed = λ j l. absurd cc;
    finished = λ size es e. absurd cc;
    request = record { write = write-kept q.entry q.write (released status.GiveUp q.hold c) c i.write; hold = tt };
  }
  begin-own (Some too_early) = refused-own fault.BeforeEpoch refl
  begin-own (Some not_read) = refused-own fault.BadHead refl
  begin-own None = record { turn = tt; listed = λ j l. absurd cc; finished = λ size es e. absurd cc; request = i }

  pub begin_by-own : (j : Option Judged) (phase : Phase) (gave : Bool) → IsOwnRow (begin_by phase gave j q c)
  begin_by-own j miss gave = begin-own j
  begin_by-own j stale false = begin-own j
  begin_by-own j _ _ = refused-own fault.WrongPhase refl

  pub piece-own : (v : Option Write) (bytes : List ℕ) (last : Bool) → IfSome v (λ w. (owner w.number c ≡ Some k) × (w.entry ≡ q.entry)) → IsOwnRow (piece_by v bytes last q c)
  piece-own None bytes last has = refused-own fault.WrongPhase refl
  piece-own (Some w) bytes last has = by_done (is_done w.number c) refl
    where
      by_done : (v : Bool) → is_done w.number c ≡ v
          → IsOwnRow (cond v (refused q fault.AfterEnd) (record { outcome = Ok answer.Written; changes = appends w.number bytes last ∷ []; request = Some q; needs = some_memory }))
      by_done true is = refused-own fault.AfterEnd refl
      by_done false is = record { turn = (((k, has.0, refl), is), tt); listed = λ j l. absurd cc; finished = λ size es e. absurd cc; request = held-kept q (appends w.number bytes last ∷ []) c i }

  -- its write was removed
  abbrev removed_row : Write → EventRow
  removed_row w = record (refused (record q { write = None }) fault.WriteRemoved) { changes = lands w.number false ∷ [] }

  pub finish-own : (s : Settings) (v : Option Write) (far : HowFar) → IfSome v (λ w. (owner w.number c ≡ Some k) × (w.entry ≡ q.entry)) → ComesSo s (finish_by v far q c).needs.entering far c → IsOwnRow (finish_by v far q c)
  finish-own s None far has so = refused-own fault.WrongPhase refl
  finish-own s (Some w) far has so = by_life (is_alive w c) refl so
    where
      in_flight : (j : StoredKey) → Some k ≡ Some j → is_alive w c ≡ true → is_some (find (has_number w.number) (flying j c)) ≡ true
      in_flight j key alive =
          let one : k ≡ j = cc in
          ap (λ (i : StoredKey). is_some (find (has_number w.number) (flying i c))) (sym one ∙ ap stored_key (sym has.1)) ∙ alive

      by_life : (v : Bool) → is_alive w c ≡ v → ComesSo s (cond v (finish_row w (as_body w c) far q) (removed_row w)).needs.entering far c → IsOwnRow (cond v (finish_row w (as_body w c) far q) (removed_row w))
      by_life true alive so = record {
        turn = lands-so k a s c w (weight_for (as_body w c)) (length (as_body w c).bytes) has.0 (ap stored_key (sym has.1)) far (alone w.entry) c so;
        listed = λ j l. lands-listed j w (weight_for (as_body w c)) (length (as_body w c).bytes) far (alone w.entry) s c so l;
        finished = λ size es e j key none. finished-so j w (weight_for (as_body w c)) (length (as_body w c).bytes) c refl (in_flight j key alive) far size es e none;
        request = record { write = tt; hold = holds-kept k q.hold (finish_row w (as_body w c) far q).changes c i.hold };
      }
      by_life false alive so = record { turn = ((k, has.0, refl), tt); listed = λ j l. absurd cc; finished = λ size es e. absurd cc; request = record { write = tt; hold = holds-kept k q.hold (lands w.number false ∷ []) c i.hold } }

  -- ---- revalidations

  seen-own : (x : Option Seen) (w : Write) → still x (body_of k c) ≡ Some w → owner w.number c ≡ Some k
  seen-own x w is = (o.stays k w (seen_body x (body_of k c) is)).0
    where
      seen_body : (x : Option Seen) (v : Option Write) → still x v ≡ Some w → v ≡ Some w
      seen_body None v e = absurd cc
      seen_body (Some x) None e = absurd cc
      seen_body (Some x) (Some v) e = by_number (x.number == v.number) e
        where
          by_number : (t : Bool) → cond t (Some v) None ≡ Some w → Some v ≡ Some w
          by_number true e = e
          by_number false e = absurd cc

  module _ (rev : is_revalidation a ≡ true) (w : Write) (meta : CacheMeta) (mine : owner w.number c ≡ Some k) where
    abbrev row : HowFar → EventRow
    row far = confirm_row (kept meta) far (Some w) q c

    abbrev scope : HowFar → Scope
    scope far = scope_of (Some k) a (row far).outcome

    abbrev changed : List Change
    changed = renews w.number q.entry meta ∷ weighs (alone q.entry) (weight_for (record (as_body w c) { meta = meta })) ∷ []

    confirmed-held : (far : HowFar) → IsHeld (record q { phase = revalidated; hold = no_lock; seen = None }) (extended c (row far).changes)
    confirmed-held far = record { write = write-kept q.entry q.write (row far).changes c i.write; hold = tt }

    with-released : (far : HowFar) (xs : List Change) → InTurn (scope far) xs c → InTurn (scope far) (xs ++ released status.Done q.hold c) c
    with-released far xs all =
        in-turn-both (scope far) xs (released status.Done q.hold c) c all (released-in-turn (scope far) k status.Done q.hold c (extended c xs) refl (holds-kept k q.hold xs c i.hold))

    renewed-own : (s : Settings) (far : HowFar) → ComesSo s (row far).needs.entering far c → IsOwnRow (row far)
    renewed-own s (whole_way es) so =
        let listed = listed-in-turn (scope (whole_way es)) es (extended c changed) (λ j others. others) in
        record {
          turn = with-released (whole_way es) (changed ++ map takes es) (((k, mine, refl), rev), (tt, listed));
          listed = λ j l. any-left j (map takes es) (released status.Done q.hold c) (any-listed j es l);
          finished = λ size gone e. absurd cc;
          request = confirmed-held (whole_way es);
        }
    renewed-own s (cut es) so =
        let listed = listed-in-turn (scope (cut es)) es (extended c changed) (λ j others. others) in
        let own = own-goes (scope (cut es)) q.entry (extended (extended c changed) (map takes es)) refl (true-last (is_purge a)) in
        let gone = in-turn-both (scope (cut es)) (map takes es) (takes (alone q.entry) ∷ []) (extended c changed) listed (own, tt) in
        let out : List Change = map takes es ++ takes (alone q.entry) ∷ [] in
        record {
          turn = with-released (cut es) (changed ++ out) (((k, mine, refl), rev), (tt, gone));
          listed = λ j l. any-left j out (released status.Done q.hold c) (any-left j (map takes es) (takes (alone q.entry) ∷ []) (any-listed j es l));
          finished = λ size told e. absurd cc;
          request = confirmed-held (cut es);
        }
    renewed-own s (kept_out f) so = absurd so

  confirm-own : is_revalidation a ≡ true → (s : Settings) (j : Judged) (far : HowFar) (v : Option Write) → still q.seen (body_of k c) ≡ v → ComesSo s (confirm_row j far v q c).needs.entering far c → IsOwnRow (confirm_row j far v q c)
  confirm-own rev s not_read far v is so = refused-own fault.BadHead refl
  confirm-own rev s too_early far None is so = refused-own fault.NotStored refl
  confirm-own rev s (not_kept reason) far None is so = refused-own fault.NotStored refl
  confirm-own rev s (kept meta) far None is so = refused-own fault.NotStored refl
  confirm-own rev s too_early far (Some w) is so = record { turn = tt; listed = λ j l. absurd cc; finished = λ size es e. absurd cc; request = i }
  confirm-own rev s (not_kept reason) far (Some w) is so = record {
    turn = released-in-turn (scope_of (Some k) a (Ok (answer.Uncacheable reason))) k status.GiveUp q.hold c c refl i.hold;
    listed = λ j l. absurd cc;
    finished = λ size es e. absurd cc;
    request = record { write = write-kept q.entry q.write (released status.GiveUp q.hold c) c i.write; hold = tt };
  }
  confirm-own rev s (kept meta) far (Some w) is so = renewed-own rev w meta (seen-own q.seen w is) s far so

  pub revalidate_by-own : is_revalidation a ≡ true → (s : Settings) (j : Option Judged) (far : HowFar) (phase : Phase) (gave : Bool) → ComesSo s (revalidate_by phase gave j far q c).needs.entering far c → IsOwnRow (revalidate_by phase gave j far q c)
  revalidate_by-own rev s (Some j) far stale false so = confirm-own rev s j far (still q.seen (body_of k c)) refl so
  revalidate_by-own rev s None far stale false so = record { turn = tt; listed = λ j l. absurd cc; finished = λ size es e. absurd cc; request = i }
  revalidate_by-own rev s j far _ _ so = refused-own fault.WrongPhase refl

  -- ---- reads and drops

  next-none : (bytes : List ℕ) (over : Bool) → evicted_by (Ok (next_by bytes over)) ≡ []
  next-none [] true = refl
  next-none [] false = refl
  next-none (b ∷ bytes) over = refl

  next-other : (bytes : List ℕ) (over : Bool) (size : ℕ) (es : List CacheEntryKey) → ◌≡◌ {A = Outcome} (Ok (next_by bytes over)) (Ok (answer.Finished size es)) → ⊥
  next-other [] true size es e = absurd cc
  next-other [] false size es e = absurd cc
  next-other (b ∷ bytes) over size es e = absurd cc

  pub read-own : (r : Reader) → IsOwnRow (read_by_reader r q c)
  read-own closed = refused-own fault.WrongPhase refl
  read-own (unread bytes) = record { turn = tt; listed = λ j l. absurd cc; finished = λ size es e. absurd cc; request = record { write = i.write; hold = i.hold } }
  read-own spent = record { turn = tt; listed = λ j l. absurd cc; finished = λ size es e. absurd cc; request = record { write = i.write; hold = i.hold } }
  read-own (streaming n place) = record {
    turn = tt;
    listed = λ j l. let none : false ≡ true = sym (ap (lists j) (next-none (drop place (bytes_of n c)) (is_done n c))) ∙ l in absurd cc;
    finished = λ size es e. absurd (next-other (drop place (bytes_of n c)) (is_done n c) size es e);
    request = record { write = i.write; hold = i.hold };
  }

  left-in-turn : (s : Scope) (v : Option Write) → s.key ≡ Some k → IfSome v (λ w. (owner w.number c ≡ Some k) × (w.entry ≡ q.entry)) → InTurn s (left v) c
  left-in-turn s None key has = tt
  left-in-turn s (Some w) key has = ((k, has.0, key), tt)

  pub drop-own : IsOwnRow (drop_row q)
  drop-own =
      let s : Scope = scope_of (Some k) a (Ok answer.Dropped) in
      record {
        turn = in-turn-both s (left q.write) (dropped q.hold) c (left-in-turn s q.write refl i.write) (dropped-in-turn s k q.hold (extended c (left q.write)) refl (holds-kept k q.hold (left q.write) c i.hold));
        listed = λ j l. absurd cc;
        finished = λ size es e. absurd cc;
        request = tt;
      }
