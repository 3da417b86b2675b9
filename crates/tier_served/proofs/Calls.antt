-- What one call of an event answers and leaves.
use Rattle.std.proofs.Common.{◌≡◌, ℕ, Bool, true, false, List, [], Option, Some, None, Ok, Err, refl, ap, sym, ◌∙◌, subst, inl, inr}
use Rattle.std.specs.Prelude.{is_some, not, ◌⊎◌, if◌then◌else◌, MatchOption}
use Rattle.std.proofs.lemmas.Bool.{false≢true}
use Rattle.std.specs.FinMap.{get}
use Rattle.rand_core.specs.Stream.{Stream}
use Rattle.cache_words.specs.Time.{MomentValue}
use Rattle.cache_words.specs.Key.{CacheKeyValue}
use Rattle.cache_lock.specs.State.{LockState, after_all}
use Rattle.head_parse.specs.Response.{Reading}
use Rattle.tier_model.specs.declared.whole.PutVerdict.{PutVerdict}
use Rattle.tier_model.specs.declared.whole.PutVerdict.TheVariants as whole
use Rattle.tier_model.specs.declared.event.Action.{Action}
use Rattle.tier_model.specs.declared.event.Action.TheVariants.{Open, LookUp, Read, Drop, Purge, Put}
use Rattle.tier_model.specs.declared.event.Answer.{Answer}
use Rattle.tier_model.specs.declared.event.Answer.TheVariants.{Opened, Bytes, Dropped, Purged, Finished, Uncacheable}
use Rattle.tier_model.specs.declared.event.Done.{Done}
use Rattle.tier_model.specs.declared.event.Event.{Event}
use Rattle.tier_model.specs.declared.event.LockGiven.TheVariants as lock
use Rattle.tier_model.specs.declared.event.TierFault.{TierFault}
use Rattle.tier_model.specs.declared.event.TierFault.TheVariants.{IdInUse, WrongPhase}
use Rattle.tier_model.specs.Keys.{Entry, entry_of}
use Rattle.tier_model.specs.Calls.{Call, Outcome, finished_in, writes_after, done_of, is_begun}
use Rattle.tier_model.specs.Response.{whole_in}
use Rattle.tier_model.specs.Rows.{FinishedBody}
use Rattle.tier_model.specs.Shelf.{Shelf, Look, absent, in_flight, finished, is_there, landed}
use Rattle.tier_model.specs.State.{Reader, unread, spent, Request, State}
use Rattle.tier_model.specs.Answers.{look_for, asks_now, look_answer, lock_given, read_answer, IsPutAnswer}
use Rattle.tier_model.specs.Checks.{has_reader, look_refusal, refusal, unless, unless_open}
use Rattle.tier_model.specs.Step.{Allows, AllowsBy, AsksLock, BeginsWrite, HasNews, UseFits}
use Rattle.tier_model.specs.After.{after, after_look, after_purge, after_put, by_request, given_changes, back_changes, leave_of, looked, on_write, read_on, taken_back, undone, with_counts, with_request, without_request}
use Rattle.tier_single.specs.Draws.{evicts_from, AreDrawn}
use Rattle.tier_served.specs.Requests.{event_at}
use Rattle.tier_requests.specs.Faults.{out_of_memory}
use Rattle.tier_served.specs.Leaves.{found_at, IsAside, joined_by, looked_up}
use Rattle.tier_served.specs.Looks.{opened_for, IsNew, IsAnswerOfPut}
use Rattle.tier_served.proofs.Took.{StepsBy}

none_of : {X : Type 0} (o : Option X) → is_some o ≡ false → o ≡ None
none_of None h = refl
none_of (Some x) h = absurd (false≢true (sym h))

answered_not : (a : Answer) (f : TierFault) → ◌≡◌ {A = Outcome} (Ok a) (Err f) → ⊥
answered_not a f h = cc

refused_as : (f g : TierFault) → ◌≡◌ {A = Outcome} (Err f) (Err g) → f ≡ g
refused_as f g h = cc

-- a call of an action with an outcome
abbrev pub IsCall : State → MomentValue → Action → Outcome → State → Type 0
IsCall old t action o new = (c : Call) × (c.event ≡ event_at t action) × (c.outcome ≡ o) × Allows old c × (new ≡ after old c)

abbrev pub call_of : MomentValue → Action → Outcome → Option Reading → Bool → Bool → Call
call_of t action o reading began asked = record { event = event_at t action; outcome = o; reading = reading; began = began; asked = asked }

-- an open that is refused draws no words
pub undrawn : (old : State) (s : Stream) (t : MomentValue) (id : ℕ) (key : CacheKeyValue) (o : Outcome) (new : State) (rest : Stream) → StepsBy old s (event_at t (Open id key false)) o new rest → rest ≡ s
undrawn old s t id key o new rest h =
    let c : Call = h.0 in
    subst (λ (x : Call). AreDrawn old (evicts_from old x) x.outcome s rest)
    (ap (λ (e : Event). record { event = e; outcome = c.outcome; reading = c.reading; began = c.began; asked = c.asked }) h.1) h.5

pub is_call : (old : State) (s : Stream) (t : MomentValue) (action : Action) (o : Outcome) (new : State) (rest : Stream) → StepsBy old s (event_at t action) o new rest → IsCall old t action o new
is_call old s t action o new rest h = (h.0, h.1, h.2, h.3, h.4)

module _ (old : State) (t : MomentValue) (new : State) where
  -- what the call of an action says, by the reading of its response, whether a write began and whether it was given a lock
  pub record Says (action : Action) (o : Outcome) : Type 0 where
    pub reading : Option Reading
    pub began : Bool
    pub asked : Bool
    pub allows : Allows old (call_of t action o reading began asked)
    pub state : new ≡ after old (call_of t action o reading began asked)

  pub said : (action : Action) (o : Outcome) → IsCall old t action o new → Says action o
  said action o h =
      let c : Call = h.0 in
      let is : c ≡ call_of t action o c.reading c.began c.asked =
      ap (λ (e : Event). record { event = e; outcome = c.outcome; reading = c.reading; began = c.began; asked = c.asked }) h.1 ∙ ap (λ (x : Outcome). call_of t action x c.reading c.began c.asked) h.2 in
      record { reading = c.reading; began = c.began; asked = c.asked; allows = subst (λ (x : Call). Allows old x) is h.3; state = h.4 ∙ ap (λ (x : Call). after old x) is }

  -- where nothing can be begun no write began
  not-begun : (told began : Bool) → BeginsWrite old false told began → began ≡ false
  not-begun told true b = absurd (false≢true b.0)
  not-begun told false b = refl

  settled : (x : State) (began : Bool) (locks : LockState) → began ≡ false → new ≡ with_counts (writes_after old.shelf.writes began) locks x → x.shelf.writes ≡ old.shelf.writes → locks ≡ x.lock → new ≡ x
  settled x began locks e n w l =
      n ∙ ap (λ (b : Bool). with_counts (writes_after old.shelf.writes b) locks x) e ∙ ap (λ (k : ℕ). with_counts k locks x) (sym w) ∙ ap (λ (k : LockState). with_counts x.shelf.writes k x) l

  -- ---- opened

  module _ (id : ℕ) (key : CacheKeyValue) where
    abbrev opening : Action
    opening = Open id key false

    abbrev opened_state : State
    opened_state = with_request id (opened_for old (entry_of key)) old

    pub open_ok : (a : Answer) → IsCall old t opening (Ok a) new → (get old.requests id ≡ None) × (a ≡ Opened) × (new ≡ opened_state)
    open_ok a h =
        let x = said opening (Ok a) h in
        by_test (is_some (get old.requests id)) refl (call_of t opening (Ok a) x.reading x.began x.asked) x.allows.outcome (settled opened_state x.began old.lock (not-begun (is_begun (Ok a)) x.began x.allows.begins) x.state refl refl)
      where
        by_test : (b : Bool) → is_some (get old.requests id) ≡ b → (c : Call) → AllowsBy (unless (not b) IdInUse) old t opening c (Ok a) → new ≡ opened_state → (get old.requests id ≡ None) × (a ≡ Opened) × (new ≡ opened_state)
        by_test true e c allowed n = absurd (answered_not a IdInUse allowed)
        by_test false e c allowed n = (none_of (get old.requests id) e, allowed, n)

    pub open_err : (f : TierFault) → IsCall old t opening (Err f) new → (new ≡ old) × ((f ≡ out_of_memory) ⊎ ((f ≡ IdInUse) × (is_some (get old.requests id) ≡ true)))
    open_err f h =
        let x = said opening (Err f) h in (
          settled old x.began old.lock (not-begun false x.began x.allows.begins) x.state refl refl,
          by_test (is_some (get old.requests id)) refl (call_of t opening (Err f) x.reading x.began x.asked) x.allows.outcome,
        )
      where
        by_test : (b : Bool) → is_some (get old.requests id) ≡ b → (c : Call) → AllowsBy (unless (not b) IdInUse) old t opening c (Err f) → (f ≡ out_of_memory) ⊎ ((f ≡ IdInUse) × (is_some (get old.requests id) ≡ true))
        by_test true e c allowed = inr (refused_as f IdInUse allowed, e)
        by_test false e c allowed = elim allowed [ inl memory ↦ inl memory.0 | inr late ↦ absurd late ]

  -- ---- looked up

  module _ (id : ℕ) (e : Entry) (is_new : IsNew old id e) where
    abbrev q0 : Request
    q0 = opened_for old e

    abbrev l : Look
    l = found_at e old

    -- the state after a look-up that found this
    abbrev then_of : Look → State
    then_of x = with_request id (looked t q0 x old.lock) (record (looked_up old e x) { shelf = joined_by x old.shelf })

    after_look-is : (x : Look) → after_look old t id q0 x ≡ then_of x
    after_look-is absent = refl
    after_look-is (in_flight f) = refl
    after_look-is (finished x) = refl

    unasked : (asked : Bool) → AsksLock old t (LookUp id) asked → asked ≡ false
    unasked false h = refl
    unasked true h = absurd (false≢true (subst (λ (o : Option Request). MatchOption o ⊥ (λ q. asks_now t q (look_for q old.shelf) ≡ true)) is_new h.1))

    pub look_ok : (a : Answer) → IsCall old t (LookUp id) (Ok a) new → (a ≡ look_answer t lock.None l) × (new ≡ then_of l)
    look_ok a h =
        let x = said (LookUp id) (Ok a) h in
        let c : Call = call_of t (LookUp id) (Ok a) x.reading x.began x.asked in
        let allowed : AllowsBy None old t (LookUp id) c (Ok a) = subst (λ (o : Option Request). AllowsBy (unless_open o look_refusal) old t (LookUp id) c (Ok a)) is_new x.allows.outcome in
        let given : (a ≡ look_answer t lock.None l) × UseFits old q0 l =
        subst (λ (o : Option Request). MatchOption o ⊥ (λ q. (a ≡ look_answer t (lock_given t q (look_for q old.shelf) old.lock) (look_for q old.shelf)) × UseFits old q (look_for q old.shelf))) is_new allowed in
        let is : by_request old (get old.requests id) (λ q. after_look old t id q (look_for q old.shelf)) ≡ then_of l =
        ap (λ (o : Option Request). by_request old o (λ q. after_look old t id q (look_for q old.shelf))) is_new ∙ after_look-is l in
        let locks : LockState = after_all (by_request [] (get old.requests id) (λ q. given_changes t q (look_for q old.shelf) old.lock)) old.lock in
        let same : locks ≡ old.lock = ap (λ (o : Option Request). after_all (by_request [] o (λ q. given_changes t q (look_for q old.shelf) old.lock)) old.lock) is_new in
        (given.0, settled (then_of l) x.began locks (not-begun (is_begun (Ok a)) x.began x.allows.begins) (x.state ∙ ap (λ (y : State). with_counts (writes_after old.shelf.writes x.began) locks y) is) refl same)

    pub look_err : (f : TierFault) → IsCall old t (LookUp id) (Err f) new → new ≡ old
    look_err f h =
        let x = said (LookUp id) (Err f) h in
        let locks : Bool → LockState = λ b. after_all (if b then by_request [] (get old.requests id) (λ q. back_changes t q (look_for q old.shelf) old.lock) else []) old.lock in
        settled old x.began (locks x.asked) (not-begun false x.began x.allows.begins) x.state refl (ap locks (unasked x.asked x.allows.asks))

  -- ---- read

  module _ (id : ℕ) (q : Request) (bytes : List ℕ) (is_open : get old.requests id ≡ Some q) (reads : q.reader ≡ unread bytes) where
    abbrev then_read : State
    then_read = with_request id (record q { reader = spent }) old

    passes : refusal old (Read id) ≡ None
    passes = ap (λ (o : Option Request). unless_open o (λ q. unless (has_reader q.reader) WrongPhase)) is_open ∙ ap (λ (r : Reader). unless (has_reader r) WrongPhase) reads

    pub read_ok : (o : Outcome) → IsCall old t (Read id) o new → (o ≡ Ok (Bytes bytes)) × (new ≡ then_read)
    read_ok (Ok a) h =
        let x = said (Read id) (Ok a) h in
        let allowed : AllowsBy None old t (Read id) (call_of t (Read id) (Ok a) x.reading x.began x.asked) (Ok a) =
        subst (λ (r : Option TierFault). AllowsBy r old t (Read id) (call_of t (Read id) (Ok a) x.reading x.began x.asked) (Ok a)) passes x.allows.outcome in
        let given : a ≡ read_answer q.reader old.shelf = subst (λ (o : Option Request). MatchOption o ⊥ (λ q. a ≡ read_answer q.reader old.shelf)) is_open allowed in
        let is : by_request old (get old.requests id) (λ q. with_request id (record q { reader = read_on a q.reader }) old) ≡ then_read =
        ap (λ (o : Option Request). by_request old o (λ q. with_request id (record q { reader = read_on a q.reader }) old)) is_open
        ∙ ap (λ (r : Reader). with_request id (record q { reader = read_on a r }) old) reads in (
          ap (λ (b : Answer). Ok b) (given ∙ ap (λ (r : Reader). read_answer r old.shelf) reads),
          settled then_read x.began old.lock (not-begun (is_begun (Ok a)) x.began x.allows.begins) (x.state ∙ ap (λ (y : State). with_counts (writes_after old.shelf.writes x.began) old.lock y) is) refl refl,
        )
    read_ok (Err f) h =
        let x = said (Read id) (Err f) h in
        let allowed : AllowsBy None old t (Read id) (call_of t (Read id) (Err f) x.reading x.began x.asked) (Err f) =
        subst (λ (r : Option TierFault). AllowsBy r old t (Read id) (call_of t (Read id) (Err f) x.reading x.began x.asked) (Err f)) passes x.allows.outcome in
        absurd (elim allowed [
          | inl memory ↦ subst (λ (r : Reader). HasNews r old.shelf) reads (subst (λ (o : Option Request). MatchOption o ⊥ (λ q. HasNews q.reader old.shelf)) is_open memory.1)
          | inr late ↦ late
        ])

  -- ---- ended

  drop_passes : (o : Option Request) → is_some o ≡ true → unless_open o (λ q. None) ≡ None
  drop_passes None h = absurd (false≢true h)
  drop_passes (Some q) h = refl

  landed-writes : (w : Option ℕ) (shelf : Shelf) → (on_write w (landed false) shelf).writes ≡ shelf.writes
  landed-writes None shelf = refl
  landed-writes (Some n) shelf = refl

  -- a request that ended
  abbrev then_gone : ℕ → Request → State
  then_gone id q = record (without_request old id q) { lock = after_all (leave_of q.held) old.lock }

  pub drop_ok : (id : ℕ) (o : Outcome) → is_some (get old.requests id) ≡ true → IsCall old t (Drop id) o new
      → (o ≡ Ok Dropped) × ((q : Request) → get old.requests id ≡ Some q → new ≡ then_gone id q)
  drop_ok id (Ok a) is_open h =
      let x = said (Drop id) (Ok a) h in
      let c : Call = call_of t (Drop id) (Ok a) x.reading x.began x.asked in
      let allowed : AllowsBy None old t (Drop id) c (Ok a) = subst (λ (r : Option TierFault). AllowsBy r old t (Drop id) c (Ok a)) (drop_passes (get old.requests id) is_open) x.allows.outcome in
      let locks : Option Request → LockState = λ o. after_all (by_request [] o (λ q. leave_of q.held)) old.lock in (
        ap (λ (b : Answer). Ok b) allowed,
        λ q is.
            let n : new ≡ with_counts (writes_after old.shelf.writes x.began) (locks (get old.requests id)) (without_request old id q) =
            x.state ∙ ap (λ (o : Option Request). with_counts (writes_after old.shelf.writes x.began) (locks (get old.requests id)) (by_request old o (λ q. without_request old id q))) is in
            settled (then_gone id q) x.began (locks (get old.requests id)) (not-begun (is_begun (Ok a)) x.began x.allows.begins) n (landed-writes q.write old.shelf) (ap locks is),
      )
  drop_ok id (Err f) is_open h =
      let x = said (Drop id) (Err f) h in
      let c : Call = call_of t (Drop id) (Err f) x.reading x.began x.asked in
      let allowed : AllowsBy None old t (Drop id) c (Err f) = subst (λ (r : Option TierFault). AllowsBy r old t (Drop id) c (Err f)) (drop_passes (get old.requests id) is_open) x.allows.outcome in
      absurd (elim allowed [ inl memory ↦ memory.1 | inr late ↦ late ])

  -- ---- purged

  module _ (key : CacheKeyValue) where
    purge-writes : (found : Bool) → (after_purge old key found).shelf.writes ≡ old.shelf.writes
    purge-writes true = refl
    purge-writes false = refl

    purge-lock : (found : Bool) → old.lock ≡ (after_purge old key found).lock
    purge-lock true = refl
    purge-lock false = refl

    purge-aside : (found : Bool) → IsAside old (after_purge old key found)
    purge-aside true = record { requests = refl; lock = refl }
    purge-aside false = record { requests = refl; lock = refl }

    pub purge_ok : (o : Outcome) → IsCall old t (Purge key) o new
        → (o ≡ Ok (Purged (is_there (found_at (entry_of key) old)))) × (new ≡ after_purge old key (is_there (found_at (entry_of key) old))) × IsAside old new
    purge_ok (Ok a) h =
        let x = said (Purge key) (Ok a) h in
        let found : Bool = is_there (found_at (entry_of key) old) in
        let n : new ≡ after_purge old key found = settled (after_purge old key found) x.began old.lock (not-begun (is_begun (Ok a)) x.began x.allows.begins) x.state (purge-writes found) (purge-lock found) in
        (ap (λ (b : Answer). Ok b) x.allows.outcome, n, subst (λ (y : State). IsAside old y) (sym n) (purge-aside found))
    purge_ok (Err f) h =
        let x = said (Purge key) (Err f) h in
        absurd (elim x.allows.outcome [ inl memory ↦ memory.1 | inr late ↦ late ])

  -- ---- put

  put_after-requests : (n : Option ℕ) (b : Option FinishedBody) (a : Answer) → (after_put old n b a).requests ≡ old.requests
  put_after-requests n None a = refl
  put_after-requests n (Some b) (Finished told evicted) = refl
  put_after-requests n (Some b) _ = refl

  taken_back-requests : (b : FinishedBody) (done : Done) (stored : Bool) → (taken_back stored old b done).requests ≡ old.requests
  taken_back-requests b done false = refl
  taken_back-requests b done true = refl

  undone-requests : (b : Option FinishedBody) (done : Done) → (undone old b done).requests ≡ old.requests
  undone-requests None done = refl
  undone-requests (Some b) done = taken_back-requests b done done.stored

  module _ (key : CacheKeyValue) (pieces : List (List ℕ)) where
    abbrev put : Action
    put = Put key pieces None

    pub put_aside : (o : Outcome) → IsCall old t put o new → IsAside old new
    put_aside (Ok a) h =
        let x = said put (Ok a) h in
        record { requests = ap (λ (y : State). y.requests) x.state ∙ put_after-requests (Some old.shelf.writes) (finished_in put (whole_in t put x.reading)) a; lock = ap (λ (y : State). y.lock) x.state }
    put_aside (Err f) h =
        let x = said put (Err f) h in
        record { requests = ap (λ (y : State). y.requests) x.state ∙ undone-requests (finished_in put (whole_in t put x.reading)) (done_of f); lock = ap (λ (y : State). y.lock) x.state }

    -- a put is answered finished or uncacheable, where it isn't refused
    put_answers : (b : Option FinishedBody) (w : Option PutVerdict) (a : Answer) → IsPutAnswer old b w a → IsAnswerOfPut a
    put_answers b w (Finished n evicted) h = tt
    put_answers b w (Uncacheable reason) h = tt
    put_answers (Some b) w _ h = h
    put_answers None (Some (whole.Uncacheable reason)) _ h = h
    put_answers None _ _ h = h

    pub put_ok : (a : Answer) → IsCall old t put (Ok a) new → IsAnswerOfPut a
    put_ok a h =
        let x = said put (Ok a) h in
        put_answers (finished_in put (whole_in t put x.reading)) (whole_in t put x.reading) a x.allows.outcome
