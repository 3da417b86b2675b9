-- Finishes: each is answered by its row, and leaves what the promise says then.
use Rattle.std.proofs.Common.{◌≡◌, ℕ, refl, ap, sym, ◌∙◌, true, false, cond}
use Rattle.std.specs.Prelude.{◌&&◌, Bool, List, Option, Some, None, option_map, is_some, not, filter, find}
use Rattle.std.proofs.lemmas.Bool.{eqb-true}
use Rattle.cache_changes.specs.Changes.{StoredKey, stored_key}
use Rattle.cache_entries.specs.Entry.{key_of}
use Rattle.cache_entries.specs.SameEntry.{same_bytes-tells}
use Rattle.cache_entries.specs.declared.entry.CacheEntryKey.{CacheEntryKey}
use Rattle.cache_heads.specs.declared.meta.CacheMeta.{CacheMeta}
use Rattle.cache_changes.proofs.RowLaws.{find-passes}
use Rattle.cache_lock.specs.Changes.{Changes as LockChanges}
use Rattle.tier_model.specs.declared.state.Body.{Body}
use Rattle.tier_model.specs.Shelf.{InFlight, has_number, flies_for, flying_at}
use Rattle.tier_model.specs.State.{Settings, Reader, streaming, State, shards_of}
use Rattle.tier_model.specs.State as state
use Rattle.tier_model.specs.Answers.{finishing, flight_of, body_under}
use Rattle.tier_promise.specs.Promise.{Write, Changes, Request, Now, lands, flying, as_body, bytes_of, is_done, is_alive}
use Rattle.tier_promise.specs.Promise as now_is
use Rattle.tier_promise.proofs.NowLists.{seen-found, found-kept, found-holds, all-filtered}
use Rattle.tier_promise.proofs.NowFits.{Told, told_write, told_flight, IsFlight, WriteFits, RequestFits, NowFits}
use Rattle.tier_promise.proofs.NowLands.{same-place}
use Rattle.tier_promise.proofs.NowRequests.{IsSound, flying-read}

-- ---- a write is alive exactly where its flight met no removal

module _ (x : Settings) (s : State) (locks : LockChanges) (now : Now) (fits : NowFits x s locks now) (sound : IsSound s) (q : state.Request) (r : Request) (f : RequestFits x fits.numbers fits.permits s.shelf now.changes q r) (n : ℕ) (w : Write)
    (held : q.write ≡ Some n) (h : WriteFits fits.numbers s.shelf.flying r.entry (Some n) (Some w)) where
  abbrev c : Changes
  c = now.changes

  abbrev g : InFlight
  g = h.2.0

  -- the body that it is
  pub body-is : record { bytes = g.bytes; meta = g.meta } ≡ as_body w c
  body-is =
      let y = flying-read fits.numbers s.shelf s.shelf.writes c fits.shelf n w.number h.0 g h.2.1 in
      ap (λ (m : CacheMeta). record { bytes = g.bytes; meta = m }) h.2.3 ∙ ap (λ (l : List ℕ). record { bytes = l; meta = w.meta }) y.0

  pub finishing-is : finishing q s.shelf ≡ cond g.removed None (Some (record { entry = r.entry; body = as_body w c }))
  finishing-is =
      ap (λ (o : Option ℕ). body_under q.entry (flight_of o s.shelf)) held ∙ ap (body_under q.entry) h.2.1
      ∙ ap (λ (e : CacheEntryKey). cond g.removed None (Some (record { entry = key_of e; body = record { bytes = g.bytes; meta = g.meta } }))) f.entry
      ∙ ap (λ (b : Body). cond g.removed None (Some (record { entry = r.entry; body = b }))) body-is

  key_of_write : stored_key w.entry ≡ g.key
  key_of_write = ap stored_key h.1 ∙ sym h.2.2

  number_is : g.number ≡ n
  number_is = sym (eqb-true n g.number (find-passes (has_number n) s.shelf.flying g h.2.1))

  abbrev AtFlight : InFlight → Type 0
  AtFlight y = IsFlight fits.numbers (λ m. bytes_of m c) (λ m. is_done m c) y

  same_found : option_map told_write (find (now_is.has_number w.number) (flying g.key c)) ≡ option_map (told_flight fits.numbers) (find (has_number n) (filter (flies_for g.key) s.shelf.flying))
  same_found = seen-found AtFlight told_write (told_flight fits.numbers) (now_is.has_number w.number) (has_number n)
      (λ v y at e. sym (same-place fits.numbers s.shelf.bodies s.shelf.flying s.shelf.writes c fits.shelf n w.number h.0 y.number v.number (sym (ap (λ (z : Told). z.number) e))))
      (flying g.key c) (filter (flies_for g.key) s.shelf.flying) (all-filtered AtFlight AtFlight (flies_for g.key) s.shelf.flying (λ y t p. p) fits.shelf.each) (fits.shelf.flights g.key)

  some_seen : (o : Option Write) (p : Option InFlight) → option_map told_write o ≡ option_map (told_flight fits.numbers) p → is_some o ≡ is_some p
  some_seen (Some v) (Some y) e = refl
  some_seen None None e = refl
  some_seen (Some v) None e = absurd cc
  some_seen None (Some y) e = absurd cc

  flies_is : flies_for g.key g ≡ not g.removed
  flies_is = ap (λ (v : Bool). v && not g.removed) (same_bytes-tells.itself g.key)

  found_by : (v : Bool) → g.removed ≡ v → (o : Option InFlight) → find (has_number n) (filter (flies_for g.key) s.shelf.flying) ≡ o → is_some o ≡ not v
  found_by false e o is =
      let there : find (has_number n) (filter (flies_for g.key) s.shelf.flying) ≡ Some g = found-kept (has_number n) (flies_for g.key) s.shelf.flying g h.2.1 (flies_is ∙ ap not e) in
      ap is_some (sym is ∙ there)
  found_by true e None is = refl
  found_by true e (Some y) is =
      let both = found-holds (λ y. (flies_for g.key y ≡ true) × (flying_at y.number s.shelf.flying ≡ Some y)) (has_number n) (filter (flies_for g.key) s.shelf.flying) y
      (all-filtered (λ y. flying_at y.number s.shelf.flying ≡ Some y) (λ y. (flies_for g.key y ≡ true) × (flying_at y.number s.shelf.flying ≡ Some y)) (flies_for g.key) s.shelf.flying (λ y t p. (t, p)) sound.one) is in
      let number : n ≡ y.number = eqb-true n y.number (find-passes (has_number n) (filter (flies_for g.key) s.shelf.flying) y is) in
      let same : Some y ≡ Some g = sym both.1 ∙ ap (λ (m : ℕ). flying_at m s.shelf.flying) (sym number) ∙ h.2.1 in
      let one : g ≡ y = cc in
      let flies : flies_for g.key g ≡ true = ap (flies_for g.key) one ∙ both.0 in
      let not_flies : flies_for g.key g ≡ false = flies_is ∙ ap not e in
      absurd cc

  pub alive-is : is_alive w c ≡ not g.removed
  alive-is =
      ap (λ (k : StoredKey). is_some (find (now_is.has_number w.number) (flying k c))) key_of_write
      ∙ some_seen (find (now_is.has_number w.number) (flying g.key c)) (find (has_number n) (filter (flies_for g.key) s.shelf.flying)) same_found
      ∙ found_by g.removed refl (find (has_number n) (filter (flies_for g.key) s.shelf.flying)) refl
