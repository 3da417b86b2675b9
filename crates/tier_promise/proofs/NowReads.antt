-- Reads and pieces: each is answered by its row, and leaves what the promise says then.
use Rattle.std.proofs.Common.{◌≡◌, ℕ, ◌+◌, ◌≤◌, refl, ap, sym, ◌∙◌, true, false, subst, cond, [], ◌∷◌, ◌++◌, ◌==◌, length, arith, inl, inr}
use Rattle.std.specs.Prelude.{Bool, List, Option, Some, None, option_map, option_and_then, Ok, Err, max, drop, nat_lt, ◌-◌}
use Rattle.std.specs.FinMap.{get}
use Rattle.std.proofs.lemmas.Bool.{ltb-false}
use Rattle.std.proofs.lemmas.List.{length-drop, length-append, nil_from_length}
use Rattle.cache_words.specs.Time.{MomentValue}
use Rattle.cache_changes.proofs.RowLaws.{find-map}
use Rattle.tier_model.specs.declared.event.Action.TheVariants.{Read}
use Rattle.cache_lock.specs.Changes.{Changes as LockChanges}
use Rattle.tier_model.specs.declared.event.Answer.{Answer}
use Rattle.tier_model.specs.declared.event.Answer.TheVariants.{Bytes}
use Rattle.tier_model.specs.declared.event.TierFault.{TierFault}
use Rattle.tier_model.specs.declared.event.TierFault.TheVariants.{NoRequest, WrongPhase}
use Rattle.tier_model.specs.Calls.{Outcome, writes_after, bytes_answered}
use Rattle.tier_model.specs.Shelf.{InFlight, Readers, Shelf, readable, has_number, flying_at, on_flying, past_place}
use Rattle.tier_model.specs.State.{Settings, Reader, closed, unread, spent, streaming, State}
use Rattle.tier_model.specs.State as state
use Rattle.tier_model.specs.Checks.{unless, unless_open, has_reader}
use Rattle.tier_model.specs.Answers.{read_answer, next_by, next_of}
use Rattle.tier_model.specs.Step.{AllowsBy, Allows, HasNews, tells_of_write}
use Rattle.tier_model.specs.After.{with_counts, with_request, by_request, on_request, on_write, pieced, after_outcome}
use Rattle.tier_model.specs.After as state_after
use Rattle.tier_promise.specs.Promise.{Changes, Request, EventRow, Now, no_needs, has_news, bytes_of, is_done, reader_after, read_by_reader, came, refused, row_of}
use Rattle.tier_model.proofs.CallLaws.{Inside, call_at}
use Rattle.tier_promise.proofs.NowRows.{row_closed, memory-out}
use Rattle.tier_promise.proofs.NowFits.{ReaderFits, RequestFits, OpenFits, NowFits, ShelfFits}
use Rattle.tier_promise.proofs.NowShelf.{apart_number}
use Rattle.tier_promise.proofs.NowRequests.{Stays, Carries, reads-on}
use Rattle.tier_promise.proofs.NowSteps.{Step, Comes, of-open, on-open, same-count, request-fits, refused-fits, closed-fits, counted-fits}

module _ (x : Settings) (s : State) (locks : LockChanges) (now : Now) (fits : NowFits x s locks now) (used : ℕ) (t : MomentValue) (i : Inside) where
  abbrev c : Changes
  c = now.changes

  abbrev bytes : ℕ → List ℕ
  bytes = λ m. bytes_of m c

  abbrev done : ℕ → Bool
  done = λ m. is_done m c

  abbrev Fits : Reader → Reader → Type 0
  Fits a b = ReaderFits fits.numbers (λ n. readable n s.shelf) bytes done a b

  -- ---- reads

  told_bytes : (l : List ℕ) (d : Bool) → bytes_answered (next_by l d) ≡ l
  told_bytes [] true = refl
  told_bytes [] false = refl
  told_bytes (b ∷ l) d = refl

  -- what one reads, and its reader then
  pub reader-read : (r : Request) (a b : Reader) (said : Answer) → Fits a b → has_reader a ≡ true → said ≡ read_answer a s.shelf
      → (read_by_reader b r c ≡ record { outcome = Ok said; changes = []; request = Some (record r { reader = reader_after b c }); needs = record no_needs { memory = has_news b c } }) × Fits (state_after.read_on said a) (reader_after b c)
  reader-read r closed closed said f there is = absurd cc
  reader-read r (unread l) (unread k) said f there is =
      (ap (λ (y : Answer). record { outcome = Ok y; changes = []; request = Some (record r { reader = spent }); needs = no_needs }) (ap Bytes (sym f) ∙ sym is), tt)
  reader-read r spent spent said f there is = (ap (λ (y : Answer). record { outcome = Ok y; changes = []; request = Some (record r { reader = spent }); needs = no_needs }) (sym is), tt)
  reader-read r (streaming n place) (streaming m at) said f there is =
      let ahead : said ≡ next_by (drop at (bytes_of m c)) (is_done m c) =
      is ∙ ap (λ (o : Option (List ℕ × Bool)). next_of (past_place place o)) f.2 ∙ ap (λ (k : ℕ). next_by (drop k (bytes_of m c)) (is_done m c)) f.1 in
      let read : bytes_answered said ≡ drop at (bytes_of m c) = ap bytes_answered ahead ∙ told_bytes (drop at (bytes_of m c)) (is_done m c) in
      let many : length (bytes_answered said) ≡ length (bytes_of m c) - at = ap (λ (l : List ℕ). length l) read ∙ length-drop at (bytes_of m c) in
      let same : place ≡ at = f.1 in
      let long : at ≤ length (bytes_of m c) = f.3 in (
        ap (λ (y : Answer). record { outcome = Ok y; changes = []; request = Some (record r { reader = streaming m (max at (length (bytes_of m c))) }); needs = record no_needs { memory = has_news (streaming m at) c } }) (sym ahead),
        (f.0, omega (arith, many, same, long), f.2, omega (arith, long)),
      )
  reader-read r closed (unread k) said f there is = absurd f
  reader-read r closed spent said f there is = absurd f
  reader-read r closed (streaming m at) said f there is = absurd f
  reader-read r (unread l) closed said f there is = absurd f
  reader-read r (unread l) spent said f there is = absurd f
  reader-read r (unread l) (streaming m at) said f there is = absurd f
  reader-read r spent closed said f there is = absurd f
  reader-read r spent (unread k) said f there is = absurd f
  reader-read r spent (streaming m at) said f there is = absurd f
  reader-read r (streaming n place) closed said f there is = absurd f
  reader-read r (streaming n place) (unread k) said f there is = absurd f
  reader-read r (streaming n place) spent said f there is = absurd f

  -- where nothing is to be read
  reader-none : (r : Request) (a b : Reader) → Fits a b → has_reader a ≡ false → read_by_reader b r c ≡ refused r WrongPhase
  reader-none r closed closed f none = refl
  reader-none r (unread l) b f none = absurd cc
  reader-none r spent b f none = absurd cc
  reader-none r (streaming n place) b f none = absurd cc
  reader-none r closed (unread k) f none = absurd f
  reader-none r closed spent f none = absurd f
  reader-none r closed (streaming m at) f none = absurd f

  -- a read takes memory only where there are bytes to read of a write as it comes
  news_there : (k : ℕ) (l : List ℕ) → (drop k l ≡ [] → ⊥) → nat_lt k (length l) ≡ true
  news_there k l some = by_test (nat_lt k (length l)) refl
    where
      by_test : (v : Bool) → nat_lt k (length l) ≡ v → v ≡ true
      by_test true e = refl
      by_test false e =
          let past : length l ≤ k = ltb-false k (length l) e in
          let many : length (drop k l) ≡ length l - k = length-drop k l in
          absurd (some (nil_from_length (drop k l) (omega (arith, past, many))))

  reader-may : (r : Request) (a b : Reader) → Fits a b → HasNews a s.shelf → (read_by_reader b r c).needs.memory ≡ true
  reader-may r closed b f news = absurd news
  reader-may r (unread l) b f news = absurd news
  reader-may r spent b f news = absurd news
  reader-may r (streaming n place) (streaming m at) f news = news_there at (bytes_of m c)
      (λ none. news (ap (λ (o : Option (List ℕ × Bool)). (past_place place o).0) f.2 ∙ ap (λ (k : ℕ). drop k (bytes_of m c)) f.1 ∙ none))
  reader-may r (streaming n place) closed f news = absurd f
  reader-may r (streaming n place) (unread k) f news = absurd f
  reader-may r (streaming n place) spent f news = absurd f

  read-fits : (id : ℕ) (q : state.Request) (r : Request) (said : Answer) → get s.requests id ≡ Some q → RequestFits x fits.numbers fits.permits s.shelf c q r
      → Fits (state_after.read_on said q.reader) (reader_after r.reader c)
      → NowFits x (with_request id (record q { reader = state_after.read_on said q.reader }) s) locks (record now { request = λ j. cond (j == id) (Some (record r { reader = reader_after r.reader c })) (now.request j) })
  read-fits id q r said is f reads = request-fits x s locks now fits id (record q { reader = state_after.read_on said q.reader }) (record r { reader = reader_after r.reader c })
      (record { entry = f.entry; asks = f.asks; wait = f.wait; phase = f.phase; waited = f.waited; gave_read = f.gave_read; hold = f.hold; seen = f.seen; write = f.write; reader = reads })

  abbrev ReadRow : Option Request → EventRow
  ReadRow v = row_of v (λ r. read_by_reader r.reader r c)

  read_there : (id : ℕ) (o : Outcome) (q : state.Request) (r : Request) (n : ℕ) → get s.requests id ≡ Some q → now.request id ≡ Some r → RequestFits x fits.numbers fits.permits s.shelf c q r
      → n ≡ s.shelf.writes → (v : Bool) → has_reader q.reader ≡ v → AllowsBy (unless v WrongPhase) s t (Read id) (call_at t (Read id) i o) o → Comes x used s locks now t (Read id) i o id n (read_by_reader r.reader r c)
  read_there id (Ok a) q r n is at f same false none p = absurd cc
  read_there id (Err g) q r n is at f same false none p =
      subst (λ (row : EventRow). Comes x used s locks now t (Read id) i (Err g) id n row) (sym (reader-none r q.reader r.reader f.reader none))
      (subst (λ (y : TierFault). Comes x used s locks now t (Read id) i (Err y) id n (refused r WrongPhase)) (let one : WrongPhase ≡ g = cc in one)
      ((refl, tt), counted-fits x s locks (came id (refused r WrongPhase) now).now n s.lock same refl (refused-fits x s locks now fits id r WrongPhase at)))
  read_there id (Ok a) q r n is at f same true there p =
      let said = of-open s id q (λ q. a ≡ read_answer q.reader s.shelf) is p in
      let read = reader-read r q.reader r.reader a f.reader there said in
      subst (λ (row : EventRow). Comes x used s locks now t (Read id) i (Ok a) id n row) (sym read.0) (
        (refl, tt),
        on-open s id q (λ q. with_request id (record q { reader = state_after.read_on a q.reader }) s)
            (λ new. NowFits x (with_counts n s.lock new) locks (record now { request = λ j. cond (j == id) (Some (record r { reader = reader_after r.reader c })) (now.request j) })) is
            (counted-fits x (with_request id (record q { reader = state_after.read_on a q.reader }) s) locks (record now { request = λ j. cond (j == id) (Some (record r { reader = reader_after r.reader c })) (now.request j) })
            n s.lock same refl (read-fits id q r a is f read.1)),
      )
  read_there id (Err g) q r n is at f same true there p = elim p [
    | inl h ↦ subst (λ (y : TierFault). Comes x used s locks now t (Read id) i (Err y) id n (read_by_reader r.reader r c)) (sym h.0)
        (memory-out x used (read_by_reader r.reader r c).needs c (reader-may r q.reader r.reader f.reader (of-open s id q (λ q. HasNews q.reader s.shelf) is h.1)), counted-fits x s locks now n s.lock same refl fits)
    | inr h ↦ absurd h
  ]

  read_by : (id : ℕ) (o : Outcome) (q : Option state.Request) (v : Option Request) (n : ℕ) → get s.requests id ≡ q → now.request id ≡ v → OpenFits x fits.numbers fits.permits s.shelf c q v
      → n ≡ s.shelf.writes → AllowsBy (unless_open q (λ q. unless (has_reader q.reader) WrongPhase)) s t (Read id) (call_at t (Read id) i o) o → Comes x used s locks now t (Read id) i o id n (ReadRow v)
  read_by id o (Some q) None n is at f same p = absurd f
  read_by id o None (Some r) n is at f same p = absurd f
  read_by id (Ok a) None None n is at f same p = absurd cc
  read_by id (Err g) None None n is at f same p =
      subst (λ (y : TierFault). Comes x used s locks now t (Read id) i (Err y) id n row_closed) (let one : NoRequest ≡ g = cc in one)
      ((refl, tt), counted-fits x s locks (came id row_closed now).now n s.lock same refl (closed-fits x s locks now fits id at))
  read_by id o (Some q) (Some r) n is at f same p = read_there id o q r n is at f same (has_reader q.reader) refl p

  pub read-step : (id : ℕ) (o : Outcome) → Allows s (call_at t (Read id) i o) → Step x used s locks (call_at t (Read id) i o) now
  read-step id o p =
      let all = read_by id o (get s.requests id) (now.request id) (writes_after s.shelf.writes i.began) refl refl (fits.requests id) (same-count s (tells_of_write (call_at t (Read id) i o)) i.began p.begins) p.outcome in
      record { right = record { read = p.read; outcome = all.0 }; fits = all.1 }

  -- ---- pieces

  on-at : (n j : ℕ) (g : InFlight → InFlight) (fs : List InFlight) → ((f : InFlight) → (g f).number ≡ f.number) → flying_at j (on_flying n g fs) ≡ option_map (λ f. cond (has_number n f) (g f) f) (flying_at j fs)
  on-at n j g fs h = find-map (has_number j) (λ f. cond (has_number n f) (g f) f) fs (λ f. by_test f (has_number n f))
    where
      by_test : (f : InFlight) (v : Bool) → has_number j (cond v (g f) f) ≡ has_number j f
      by_test f true = ap (λ (k : ℕ). j == k) (h f)
      by_test f false = refl

  was_none : {X Y : Type 0} (g : X → Y) (o : Option X) → option_map g o ≡ None → o ≡ None
  was_none g None e = refl
  was_none g (Some y) e = absurd cc

  on-none : (n j : ℕ) (g : InFlight → InFlight) (fs : List InFlight) → ((f : InFlight) → (g f).number ≡ f.number) → flying_at j (on_flying n g fs) ≡ None → flying_at j fs ≡ None
  on-none n j g fs h e = was_none (λ f. cond (has_number n f) (g f) f) (flying_at j fs) (sym (on-at n j g fs h) ∙ e)

  on-stays : (n j : ℕ) (g : InFlight → InFlight) (f : InFlight) (fs : List InFlight) → ((f : InFlight) → (g f).number ≡ f.number) → ((f : InFlight) → (g f).key ≡ f.key) → ((f : InFlight) → (g f).meta ≡ f.meta)
      → flying_at j fs ≡ Some f → Stays j f (on_flying n g fs)
  on-stays n j g f fs number key meta at = (cond (has_number n f) (g f) f, on-at n j g fs number ∙ ap (option_map (λ f. cond (has_number n f) (g f) f)) at, by_key (has_number n f), by_meta (has_number n f))
    where
      by_key : (v : Bool) → (cond v (g f) f).key ≡ f.key
      by_key true = key f
      by_key false = refl

      by_meta : (v : Bool) → (cond v (g f) f).meta ≡ f.meta
      by_meta true = meta f
      by_meta false = refl

  -- what a piece leaves of the request that reads or writes
  pub carried : (n m : ℕ) (g : InFlight → InFlight) (old new : Shelf) (next : Changes) (b : List ℕ) → fits.numbers n ≡ Some m → is_done m c ≡ false → ((j : ℕ) → bytes_of j next ≡ cond (m == j) (bytes_of j c ++ b) (bytes_of j c))
      → ((j : ℕ) → is_done j c ≡ true → is_done j next ≡ true) → ((f : InFlight) → (g f).number ≡ f.number) → ((f : InFlight) → (g f).key ≡ f.key) → ((f : InFlight) → (g f).meta ≡ f.meta)
      → old.flying ≡ s.shelf.flying → new.flying ≡ on_flying n g old.flying → new.readers ≡ s.shelf.readers → ShelfFits fits.numbers new.bodies new.flying s.shelf.writes next → (q : state.Request)
      → Carries fits.numbers fits.numbers s.shelf new c next q
  carried n m g old new next b named open_yet bytes_are done_are number key meta was is readers shelf q = record {
    named = λ i j h. h;
    flights = λ j f held at. subst (Stays j f) (sym (is ∙ ap (on_flying n g) was)) (on-stays n j g f s.shelf.flying number key meta at);
    reads = λ j place k held h e. reads-on fits.numbers new s.shelf.writes next shelf j k h s.shelf c
        (λ none. on-none n j g s.shelf.flying number (sym (ap (flying_at j) (is ∙ ap (on_flying n g) was)) ∙ none))
        (λ gone. ap (λ r. option_and_then (λ (y : Readers). y.left) (get r j)) readers)
        (λ d. (bytes_are k ∙ ap (λ (v : Bool). cond v (bytes_of k c ++ b) (bytes_of k c)) (apart k d), done_are k d))
        (longer k (m == k) (bytes_are k)) e;
  }
    where
      apart : (k : ℕ) → is_done k c ≡ true → (m == k) ≡ false
      apart k d = apart_number m k (λ same. let clash : is_done m c ≡ true = ap (λ (y : ℕ). is_done y c) same ∙ d in absurd cc)

      longer : (k : ℕ) (v : Bool) → bytes_of k next ≡ cond v (bytes_of k c ++ b) (bytes_of k c) → length (bytes_of k c) ≤ length (bytes_of k next)
      longer k true e = let many : length (bytes_of k next) ≡ length (bytes_of k c) + length b = ap (λ (l : List ℕ). length l) e ∙ length-append (bytes_of k c) b in omega (arith, many)
      longer k false e = let many : length (bytes_of k next) ≡ length (bytes_of k c) = ap (λ (l : List ℕ). length l) e in omega (arith, many)
