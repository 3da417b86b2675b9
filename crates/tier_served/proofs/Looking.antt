-- Calls of a get, one after another.
use Rattle.std.proofs.Common.{◌≡◌, ℕ, suc, zero, ◌+◌, ◌<◌, Bool, true, false, List, ◌∷◌, [], ◌++◌, arith, Option, Some, Ok, Err, refl, ap, sym, ◌∙◌, subst, inl, inr}
use Rattle.std.specs.Prelude.{is_some, ◌&&◌, Result}
use Rattle.std.proofs.lemmas.Bool.{false≢true, cases_eq}
use Rattle.std.specs.Ordering.{nat_cmp}
use Rattle.std.specs.FinMap.{FinMap, get, insert, remove}
use Rattle.rand_core.specs.Stream.{Stream}
use Rattle.cache_words.specs.Time.{MomentValue}
use Rattle.cache_words.specs.Key.{CacheKeyValue}
use Rattle.cache_lock.specs.State.{LockState, after_all}
use Rattle.tier_model.specs.declared.event.Action.{Action}
use Rattle.tier_model.specs.declared.event.Action.TheVariants.{Open, LookUp, Read, Drop}
use Rattle.tier_model.specs.declared.event.Answer.{Answer}
use Rattle.tier_model.specs.declared.event.Answer.TheVariants.{Opened, Found, Bytes, Dropped}
use Rattle.tier_model.specs.declared.event.Event.{Event}
use Rattle.tier_model.specs.declared.event.LockGiven.{LockGiven}
use Rattle.tier_model.specs.declared.event.LockGiven.TheVariants as lock
use Rattle.tier_model.specs.declared.event.TierFault.{TierFault}
use Rattle.tier_model.specs.declared.event.TierFault.TheVariants.{IdInUse}
use Rattle.tier_model.specs.Keys.{Entry, entry_of}
use Rattle.tier_model.specs.Calls.{Outcome}
use Rattle.tier_model.specs.Rows.{Numbered}
use Rattle.tier_model.specs.Shelf.{Shelf, Look, absent, in_flight, finished, is_there, landed}
use Rattle.tier_model.specs.State.{LockHold, closed, unread, spent, Request, State}
use Rattle.tier_model.specs.Answers.{is_fresh, look_answer}
use Rattle.tier_model.specs.After.{leave_of, looked, on_write, reader_of, turned, with_request, without_request}
use Rattle.tier_single.specs.Takes.{Takes}
use Rattle.tier_served.specs.Requests.{event_at}
use Rattle.tier_requests.specs.Faults.{out_of_memory}
use Rattle.tier_served.specs.Courses.{is_found, is_hit, AreAllOpen, IsUnopened}
use Rattle.tier_served.specs.Leaves.{found_at, gives_hit, joined_by, came_and_went, looked_up}
use Rattle.tier_served.specs.Looks.{opened_for, IsNew, is_in_use, AreOpenAbove, IsOpened, OpensAt, IsUnread, Reads, IsLooked, Looks, Ends, Finds}
use Rattle.tier_served.specs.declared.look_ups.Looked.{Looked}
use Rattle.tier_served.specs.declared.look_ups.Looked.TheVariants.{Fresh, Missed}
use Rattle.tier_served.proofs.Requests.{put_twice, there, come_and_gone}
use Rattle.tier_served.proofs.Took.{StepsBy-takes, Takes-then}
use Rattle.tier_served.proofs.Calls.{IsCall, is_call, undrawn, open_ok, open_err, look_ok, look_err, read_ok, drop_ok}

-- ---- opened

module _ (old : State) (s : Stream) (t : MomentValue) (new : State) (rest : Stream) where
  called : (action : Action) (o : Outcome) → Takes old s (event_at t action ∷ []) (o ∷ []) new rest → IsCall old t action o new
  called action o takes = is_call old s t action o new rest (StepsBy-takes old s (event_at t action) o new rest takes)

  pub opened : (key : CacheKeyValue) (id : ℕ) (a : Answer) → Takes old s (event_at t (Open id key false) ∷ []) (Ok a ∷ []) new rest → IsOpened old s t key id new rest
  opened key id a takes =
      let r = open_ok old t new id key a (called (Open id key false) (Ok a) takes) in
      (r.0, r.2, subst (λ (b : Answer). Takes old s (event_at t (Open id key false) ∷ []) (Ok b ∷ []) new rest) r.1 takes)

  pub unopened : (key : CacheKeyValue) (id : ℕ) (f : TierFault) → Takes old s (event_at t (Open id key false) ∷ []) (Err f ∷ []) new rest → OpensAt old s t key id (Err f) new rest
  unopened key id f takes =
      let r = open_err old t new id key f (called (Open id key false) (Err f) takes) in
      (r.0, undrawn old s t id key (Err f) new rest (StepsBy-takes old s (event_at t (Open id key false)) (Err f) new rest takes), r.1)

  -- ---- read and ended

  pub all_read : (id : ℕ) (bytes : List ℕ) (o : Outcome) → IsUnread old id bytes → Takes old s (event_at t (Read id) ∷ []) (o ∷ []) new rest → (o ≡ Ok (Bytes bytes)) × Reads old s t id bytes new rest
  all_read id bytes o u takes =
      let r = read_ok old t new id u.0 bytes u.1 u.2 o (called (Read id) o takes) in
      (r.0, (u.0, u.1, u.2, r.1, subst (λ (x : Outcome). Takes old s (event_at t (Read id) ∷ []) (x ∷ []) new rest) r.0 takes))

  pub ended : (id : ℕ) (o : Outcome) → is_some (get old.requests id) ≡ true → Takes old s (event_at t (Drop id) ∷ []) (o ∷ []) new rest → Ends old s t id new rest
  ended id o is_open takes =
      let r = drop_ok old t new id o is_open (called (Drop id) o takes) in
      (r.1, subst (λ (x : Outcome). Takes old s (event_at t (Drop id) ∷ []) (x ∷ []) new rest) r.0 takes)

-- ---- numbers that are in use

in-use : (f : TierFault) → is_in_use f ≡ true → f ≡ IdInUse
in-use IdInUse h = refl
in-use _ h = absurd (false≢true h)

memory-not : (f : TierFault) → f ≡ out_of_memory → f ≡ IdInUse → ⊥
memory-not f h i = false≢true (sym (ap is_in_use h) ∙ ap is_in_use i)

-- each number above that one has an open request, and this one has one too
open-from : (s : State) (id k : ℕ) → id ≡ k + 1 → is_some (get s.requests id) ≡ true → AreOpenAbove s id → AreOpenAbove s k
open-from s id k is there above j more small = elim (cases_eq j id) [
  | inl same ↦ subst (λ (i : ℕ). is_some (get s.requests i) ≡ true) (sym same) there
  | inr other ↦ above j (above_too j other more) small
]
  where
    above_too : (j : ℕ) → (j ≡ id → ⊥) → k < j → id < j
    above_too j other more = omega (arith, more, is, other)

open-all : (s : State) → is_some (get s.requests 0) ≡ true → AreOpenAbove s 0 → AreAllOpen s
open-all s there above zero small = there
open-all s there above (suc j) small = above (suc j) (omega arith) small

module _ (old cur new : State) (s0 s rest : Stream) (t : MomentValue) (key : CacheKeyValue) (id : ℕ) (same : cur ≡ old) (words : s ≡ s0) where
  -- numbers were tried, and nothing was done
  pub opened_then : IsOpened cur s t key id new rest → IsOpened old s0 t key id new rest
  opened_then h = subst (λ (y : State). IsOpened y s0 t key id new rest) same (subst (λ (x : Stream). IsOpened cur x t key id new rest) words h)

  module _ (f : TierFault) (h : OpensAt cur s t key id (Err f) new rest) where
    pub unchanged : (new ≡ old) × (rest ≡ s0)
    unchanged = (h.0 ∙ same, h.1 ∙ words)

    there_too : f ≡ IdInUse → is_some (get old.requests id) ≡ true
    there_too i = elim h.2 [ inl memory ↦ absurd (memory-not f memory i) | inr used ↦ subst (λ (y : State). is_some (get y.requests id) ≡ true) same used.1 ]

    -- the last number was tried
    pub none_left : id ≡ 0 → AreOpenAbove old id → IsUnopened old s0 f new rest
    none_left z above = elim h.2 [
      | inl memory ↦ (unchanged.0, unchanged.1, inl memory)
      | inr used ↦ (
        unchanged.0,
        unchanged.1,
        inr (used.0, open-all old (subst (λ (i : ℕ). is_some (get old.requests i) ≡ true) z (there_too used.0)) (subst (λ (i : ℕ). AreOpenAbove old i) z above)),
      )
    ]

    -- memory ran out
    pub refused_then : is_in_use f ≡ false → IsUnopened old s0 f new rest
    refused_then isnt = elim h.2 [
      | inl memory ↦ (unchanged.0, unchanged.1, inl memory)
      | inr used ↦ absurd (false≢true (sym isnt ∙ ap is_in_use used.0))
    ]

    -- the next number is tried
    pub next_number : (k : ℕ) → id ≡ k + 1 → is_in_use f ≡ true → AreOpenAbove old id → (new ≡ old) × (rest ≡ s0) × AreOpenAbove old k
    next_number k is used above = (unchanged.0, unchanged.1, open-from old id k is (there_too (in-use f used)) above)

some_same : {X : Type 0} {q r : X} → Some q ≡ Some r → q ≡ r
some_same e = cc

bytes_same : {a b : List ℕ} → unread a ≡ unread b → a ≡ b
bytes_same e = cc

-- ---- looked up

found-is : (t : MomentValue) (given : LockGiven) (l : Look) → is_found (look_answer t given l) ≡ is_there l
found-is t given absent = refl
found-is t given (in_flight f) = refl
found-is t given (finished x) = refl

hit-is : (t : MomentValue) (given : LockGiven) (l : Look) → is_hit (look_answer t given l) ≡ gives_hit t l
hit-is t given absent = refl
hit-is t given (in_flight f) = by (is_fresh t f.meta)
  where
    by : (v : Bool) → (v && false) ≡ false
    by true = refl
    by false = refl
hit-is t given (finished x) = by (is_fresh t x.body.meta)
  where
    by : (v : Bool) → (v && true) ≡ v
    by true = refl
    by false = refl

-- what is found fresh and whole is a body
fresh-body : (t : MomentValue) (l : Look) → gives_hit t l ≡ true → (x : Numbered) × (l ≡ finished x) × (is_fresh t x.body.meta ≡ true)
fresh-body t absent h = absurd (false≢true h)
fresh-body t (in_flight f) h = absurd (false≢true h)
fresh-body t (finished x) h = (x, refl, h)

-- the reader of a body that was read goes as one that wasn't
read_whole : (l : Look) (x : Numbered) (shelf : Shelf) → l ≡ finished x → turned spent closed (joined_by l shelf) ≡ turned (reader_of l) closed (joined_by l shelf)
read_whole l x shelf is = subst (λ (y : Look). turned spent closed (joined_by y shelf) ≡ turned (reader_of y) closed (joined_by y shelf)) (sym is) refl

module _ (old : State) (s : Stream) (t : MomentValue) (id : ℕ) (e : Entry) (is_new : IsNew old id e) where
  abbrev l : Look
  l = found_at e old

  -- the request after its look-up
  abbrev q : Request
  q = looked t (opened_for old e) l old.lock

  -- the state after it but for the request
  abbrev mid_of : State
  mid_of = record (looked_up old e l) { shelf = joined_by l old.shelf }

  pub looks : (a : Answer) (mid : State) (left : Stream) → Takes old s (event_at t (LookUp id) ∷ []) (Ok a ∷ []) mid left → (a ≡ look_answer t lock.None l) × (mid ≡ with_request id q mid_of)
  looks a mid left takes = look_ok old t mid id e is_new a (called old s t mid left (LookUp id) (Ok a) takes)

  is_open : (mid : State) → mid ≡ with_request id q mid_of → get mid.requests id ≡ Some q
  is_open mid is = ap (λ (y : State). get y.requests id) is ∙ there _ id q

  -- a fresh and complete body is there, and all of it to be read
  pub hit-unread : (a : Answer) (mid : State) (left : Stream) → is_hit a ≡ true → Takes old s (event_at t (LookUp id) ∷ []) (Ok a ∷ []) mid left
      → (x : Numbered) × (l ≡ finished x) × (is_fresh t x.body.meta ≡ true) × IsUnread mid id x.body.bytes × (mid ≡ with_request id q mid_of)
  hit-unread a mid left hit takes =
      let r = looks a mid left takes in
      let f = fresh-body t l (sym (hit-is t lock.None l) ∙ ap is_hit (sym r.0) ∙ hit) in
      (f.0, f.1, f.2, (q, is_open mid r.1, ap reader_of f.1), r.1)

  pub looked-fresh : (a : Answer) (mid new : State) (left rest : Stream) (body : List ℕ) → is_hit a ≡ true → a ≡ Found true true lock.None → Takes old s (event_at t (LookUp id) ∷ []) (Ok a ∷ []) mid left
      → Reads mid left t id body new rest → Looks old s t id e (Ok (Fresh body)) new rest
  looked-fresh a mid new left rest body hit is takes reads =
      let r = hit-unread a mid left hit takes in
      let same : reads.0 ≡ q = some_same (sym reads.1 ∙ is_open mid r.4) in
      let p : Request = record q { reader = spent } in
      let n : new ≡ with_request id p mid_of =
      reads.3 ∙ ap (λ (x : Request). with_request id (record x { reader = spent }) mid) same ∙ ap (λ (y : State). with_request id p y) r.4
      ∙ ap (λ (m : FinMap nat_cmp Request). record mid_of { requests = m }) (put_twice mid_of.requests id q p) in
      let first : Takes old s (event_at t (LookUp id) ∷ []) (Ok (Found true true lock.None) ∷ []) mid left = subst (λ (x : Answer). Takes old s (event_at t (LookUp id) ∷ []) (Ok x ∷ []) mid left) is takes in (
        (r.0, r.1, r.2, bytes_same (sym reads.2 ∙ ap (λ (x : Request). x.reader) same ∙ ap reader_of r.1)),
        record { request = p; held = refl; write = refl; reader = read_whole l r.0 old.shelf r.1; state = n },
        Takes-then old mid new s left rest (event_at t (LookUp id) ∷ []) (event_at t (Read id) ∷ []) (Ok (Found true true lock.None) ∷ []) (Ok (Bytes body) ∷ []) first reads.4,
      )

  pub looked-missed : (a : Answer) (found : Bool) (new : State) (rest : Stream) → is_hit a ≡ false → is_found a ≡ found → Takes old s (event_at t (LookUp id) ∷ []) (Ok a ∷ []) new rest
      → Looks old s t id e (Ok (Missed found)) new rest
  looked-missed a found new rest missed is takes =
      let r = looks a new rest takes in (
        sym is ∙ ap is_found r.0 ∙ found-is t lock.None l,
        sym (hit-is t lock.None l) ∙ ap is_hit (sym r.0) ∙ missed,
        record { request = q; held = refl; write = refl; reader = refl; state = r.1 },
        (a, is, missed, takes),
      )

  pub looked-refused : (f : TierFault) (new : State) (rest : Stream) → Takes old s (event_at t (LookUp id) ∷ []) (Err f ∷ []) new rest → Looks old s t id e (Err f) new rest
  looked-refused f new rest takes = (look_err old t new id e is_new f (called old s t new rest (LookUp id) (Err f) takes), takes)

  open_after : (new : State) → IsLooked old id e new → is_some (get new.requests id) ≡ true
  open_after new i = ap (λ (y : State). is_some (get y.requests id)) i.state ∙ ap (λ (o : Option Request). is_some o) (there _ id i.request)

  -- the request is open still
  pub still_open : (r : Result Looked TierFault) (new : State) (rest : Stream) → Looks old s t id e r new rest → is_some (get new.requests id) ≡ true
  still_open (Ok (Fresh body)) new rest h = open_after new h.1
  still_open (Ok (Missed found)) new rest h = open_after new h.2
  still_open (Err f) new rest h = ap (λ (y : State). is_some (get y.requests id)) h.0 ∙ ap (λ (o : Option Request). is_some o) is_new

-- ---- opened, looked up and ended

module _ (old : State) (s : Stream) (t : MomentValue) (key : CacheKeyValue) (id : ℕ) (m1 : State) (s1 : Stream) (is_opened : IsOpened old s t key id m1 s1) where
  abbrev e : Entry
  e = entry_of key

  abbrev first : Request
  first = opened_for old e

  abbrev open_state : State
  open_state = with_request id first old

  pub is_new : IsNew m1 id e
  is_new = subst (λ (y : State). IsNew y id e) (sym is_opened.1) (there old.requests id first)

  same_look : found_at e m1 ≡ found_at e old
  same_look = ap (λ (y : State). found_at e y) is_opened.1

  -- the state after the look-up and the end of its request, by the requests, the lock and the shelf
  abbrev ended_by : FinMap nat_cmp Request → LockState → Shelf → State
  ended_by m k shelf = record (looked_up old e (found_at e old)) { requests = m; lock = k; shelf = shelf }

  besides : (l : Look) → looked_up open_state e l ≡ record (looked_up old e l) { requests = open_state.requests }
  besides absent = refl
  besides (in_flight f) = refl
  besides (finished b) = refl

  -- the state after the look-up
  mid_is : (m2 : State) (i : IsLooked open_state id e m2) → m2 ≡ ended_by (insert (insert old.requests id first) id i.request) old.lock (joined_by (found_at e old) old.shelf)
  mid_is m2 i = i.state ∙ ap (λ (y : State). with_request id i.request (record y { shelf = joined_by (found_at e old) old.shelf })) (besides (found_at e old))

  gone : (p : Request) → remove (insert (insert old.requests id first) id p) id ≡ old.requests
  gone p = ap (λ (m : FinMap nat_cmp Request). remove m id) (put_twice old.requests id first p) ∙ come_and_gone old.requests id p is_opened.0

  -- what is left once the request has ended
  left_by : (m2 new : State) (i : IsLooked open_state id e m2) → new ≡ record (without_request m2 id i.request) { lock = after_all (leave_of i.request.held) m2.lock } → new ≡ looked_up old e (found_at e old)
  left_by m2 new i n =
      let l : Look = found_at e old in
      let joined : Shelf = joined_by l old.shelf in
      let m : FinMap nat_cmp Request = remove (insert (insert old.requests id first) id i.request) id in
      n ∙ ap (λ (y : State). record (without_request y id i.request) { lock = after_all (leave_of i.request.held) y.lock }) (mid_is m2 i)
      ∙ ap (λ (h : LockHold). ended_by m (after_all (leave_of h) old.lock) (turned i.request.reader closed (on_write i.request.write (landed false) joined))) i.held
      ∙ ap (λ (w : Option ℕ). ended_by m old.lock (turned i.request.reader closed (on_write w (landed false) joined))) i.write ∙ ap (λ (x : Shelf). ended_by m old.lock x) i.reader
      ∙ ap (λ (x : FinMap nat_cmp Request). ended_by x old.lock (came_and_went l old.shelf)) (gone i.request)

  left : (m2 new : State) (rest s2 : Stream) → IsLooked m1 id e m2 → Ends m2 s2 t id new rest → new ≡ looked_up old e (found_at e old)
  left m2 new rest s2 looked ends =
      let i : IsLooked open_state id e m2 = subst (λ (y : State). IsLooked y id e m2) is_opened.1 looked in
      left_by m2 new i (ends.0 i.request (ap (λ (y : State). get y.requests id) i.state ∙ there _ id i.request))

  -- the events of all three
  all_taken : (es : List Event) (os : List Outcome) (m2 : State) (s2 : Stream) (new : State) (rest : Stream) → Takes m1 s1 es os m2 s2 → Takes m2 s2 (event_at t (Drop id) ∷ []) (Ok Dropped ∷ []) new rest
      → Takes old s (event_at t (Open id key false) ∷ es ++ event_at t (Drop id) ∷ []) (Ok Opened ∷ os ++ Ok Dropped ∷ []) new rest
  all_taken es os m2 s2 new rest looks ends =
      Takes-then old m1 new s s1 rest (event_at t (Open id key false) ∷ []) (es ++ event_at t (Drop id) ∷ []) (Ok Opened ∷ []) (os ++ Ok Dropped ∷ []) is_opened.2
      (Takes-then m1 m2 new s1 s2 rest es (event_at t (Drop id) ∷ []) os (Ok Dropped ∷ []) looks ends)

  pub finds : (r : Result Looked TierFault) (m2 : State) (s2 : Stream) (new : State) (rest : Stream) → Looks m1 s1 t id e r m2 s2 → Ends m2 s2 t id new rest → Finds old s t key r new rest
  finds (Ok (Fresh body)) m2 s2 new rest h ends =
      let is : found_at e old ≡ finished h.0.0 = sym same_look ∙ h.0.1 in
      let n : new ≡ looked_up old e (finished h.0.0) = left m2 new rest s2 h.1 ends ∙ ap (λ (l : Look). looked_up old e l) is in (
        (h.0.0, is, h.0.2, h.0.3, n),
        (id, is_opened.0, all_taken (event_at t (LookUp id) ∷ event_at t (Read id) ∷ []) (Ok (Found true true lock.None) ∷ Ok (Bytes body) ∷ []) m2 s2 new rest h.2 ends.1),
      )
  finds (Ok (Missed found)) m2 s2 new rest h ends = (
    h.0 ∙ ap is_there same_look,
    sym (ap (λ (l : Look). gives_hit t l) same_look) ∙ h.1,
    left m2 new rest s2 h.2 ends,
    (id, h.3.0, is_opened.0, h.3.1, h.3.2, all_taken (event_at t (LookUp id) ∷ []) (Ok h.3.0 ∷ []) m2 s2 new rest h.3.3 ends.1),
  )
  finds (Err f) m2 s2 new rest h ends =
      let mid : m2 ≡ open_state = h.0 ∙ is_opened.1 in
      let is : get m2.requests id ≡ Some first = ap (λ (y : State). get y.requests id) mid ∙ there old.requests id first in
      let back : remove (insert old.requests id first) id ≡ old.requests = come_and_gone old.requests id first is_opened.0 in
      let n : new ≡ old =
      ends.0 first is ∙ ap (λ (y : State). record (without_request y id first) { lock = after_all (leave_of first.held) y.lock }) mid
      ∙ ap (λ (m : FinMap nat_cmp Request). record old { requests = m }) back in
      inr (n, (id, is_opened.0, all_taken (event_at t (LookUp id) ∷ []) (Err f ∷ []) m2 s2 new rest h.1 ends.1))
