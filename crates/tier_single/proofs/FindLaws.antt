-- A look-up that is answered gives the head of what each past shows; where that can't be shared, the look-up runs out of memory.
use Rattle.std.proofs.Common.{◌≡◌, ℕ, ◌+◌, [], ◌∷◌, refl, ap, ◌∙◌, true, false, subst, inl, Some, None, Option}
use Rattle.std.specs.Prelude.{Ok, Err, is_some}
use Rattle.std.specs.FinMap.{get}
use Rattle.rand_core.specs.Stream.{Stream}
use Rattle.cache_words.specs.Time.{MomentValue}
use Rattle.cache_heads.specs.declared.meta.CacheMeta.{CacheMeta}
use Rattle.tier_model.specs.declared.event.Action.TheVariants.{LookUp}
use Rattle.tier_model.specs.declared.event.Answer.{Answer}
use Rattle.tier_model.specs.declared.event.Event.{Event}
use Rattle.tier_model.specs.declared.event.TierFault.{TierFault}
use Rattle.tier_model.specs.Calls.{Call, History, Outcome}
use Rattle.tier_model.specs.Histories.{Opening}
use Rattle.tier_model.specs.Past.{HasPast}
use Rattle.tier_model.specs.Shelf.{Look, absent, in_flight, finished, is_there}
use Rattle.tier_model.specs.State.{Request, State}
use Rattle.tier_model.specs.Checks.{refusal, unless_open, look_refusal}
use Rattle.tier_model.specs.Answers.{look_for}
use Rattle.tier_model.specs.Step.{AllowsBy}
use Rattle.tier_model.specs.After.{by_request}
use Rattle.tier_promise.specs.Hits.{head_at}
use Rattle.tier_promise.proofs.Hits.{head-request}
use Rattle.tier_requests.specs.Faults.{out_of_memory}
use Rattle.tier_requests.specs.Shown.{meta_found, unless_refused, meta_for_look}
use Rattle.tier_single.specs.Acts.{Took}
use Rattle.tier_single.specs.Hits.{FindsHead, OneFound, at_moment}
use Rattle.tier_single.specs.Takes.{Takes}
use Rattle.tier_single.proofs.LookLaws.{Took-look-fault}
use Rattle.tier_single.proofs.RunLaws.{Takes-one}

same-head : (l : Look) → meta_found l ≡ head_at l
same-head absent = refl
same-head (in_flight f) = refl
same-head (finished x) = refl

module _ (s : State) (t : MomentValue) (id : ℕ) where
  -- the meta of what a look-up of the request finds, if it is open and may look up
  abbrev pub there_for : Option Request → Option CacheMeta
  there_for o = by_request None o (λ (q : Request). meta_for_look q s.shelf)

  -- ---- an answered one was let

  let-by : (a : Answer) (c : Call) (r : Option TierFault) → AllowsBy r s t (LookUp id) c (Ok a) → r ≡ None
  let-by a c None p = refl
  let-by a c (Some f) p = absurd cc

  abbrev Allowed : Call → Event → Outcome → Type 0
  Allowed c e o = AllowsBy (refusal s e.action) s e.moment e.action c o

  pub look-let : (a : Answer) (new : State) → Took s t (LookUp id) (Ok a) new → refusal s (LookUp id) ≡ None
  look-let a new took =
      let c = took.0 in
      let by_event = subst (λ (e : Event). Allowed c e c.outcome) took.1 took.3.outcome in
      let-by a c (refusal s (LookUp id)) (subst (λ (o : Outcome). Allowed c (record { moment = t; action = LookUp id }) o) took.2 by_event)

  open_let : (o : Option Request) → unless_open o look_refusal ≡ None → (q : Request) × (o ≡ Some q) × (look_refusal q ≡ None)
  open_let None e = absurd cc
  open_let (Some q) e = (q, refl, e)

  -- the head is that of what each past shows
  pub finds-head : (a : Answer) (new : State) → Took s t (LookUp id) (Ok a) new → (m : Option CacheMeta) → m ≡ there_for (get s.requests id) → FindsHead s id m
  finds-head a new took m is =
      let may = open_let (get s.requests id) (look-let a new took) in
      let q = may.0 in
      λ start past had.
      is ∙ ap there_for may.1 ∙ ap (λ (r : Option TierFault). unless_refused r (meta_found (look_for q s.shelf))) may.2 ∙ same-head (look_for q s.shelf) ∙ head-request start s past had id q may.1

  -- ---- a head that can't be shared

  found-there : (l : Look) → is_some (meta_found l) ≡ true → is_there l ≡ true
  found-there absent e = absurd cc
  found-there (in_flight f) e = refl
  found-there (finished x) e = refl

  may_by : (q : Request) (r : Option TierFault) → look_refusal q ≡ r → is_some (unless_refused r (meta_found (look_for q s.shelf))) ≡ true → (look_refusal q ≡ None) × (is_there (look_for q s.shelf) ≡ true)
  may_by q None e h = (e, found-there (look_for q s.shelf) h)
  may_by q (Some f) e h = absurd cc

  by_open : (o : Option Request) → get s.requests id ≡ o → is_some (there_for o) ≡ true → Took s t (LookUp id) (Err out_of_memory) s
  by_open None none h = absurd cc
  by_open (Some q) there h =
      let may = may_by q (look_refusal q) refl h in
      Took-look-fault s t id q there may.0 out_of_memory (inl (refl, inl may.1)) s.lock (record { asked = false; due = λ no. absurd cc; lock = refl })

  pub find-memory : is_some (there_for (get s.requests id)) ≡ true → Took s t (LookUp id) (Err out_of_memory) s
  find-memory h = by_open (get s.requests id) refl h

-- words that nothing asks for
abbrev pub some_stream : Stream
some_stream = record { u32_after = λ calls. 0; u64_after = λ calls. 0; bytes_after = λ calls n. [] }

-- of any past that the tier had
pub one-found : (start : Opening) (past : History) (s : State) (w : Stream) (t : MomentValue) (id : ℕ) (a : Answer) (m : Option CacheMeta) (new : State) (rest : Stream) → HasPast start s past
    → Takes s w (at_moment t (LookUp id) ∷ []) (Ok a ∷ []) new rest → FindsHead s id m → OneFound t id a m
one-found start past s w t id a m new rest had takes finds =
    let one = Takes-one s w (at_moment t (LookUp id)) (Ok a) new rest takes in
    record {
      settings = start.settings;
      used = start.first + start.first_core;
      loaded = start.loaded;
      before = past;
      call = one.0;
      event = one.1;
      answer = one.2;
      promise = one.4 start past had;
      head = finds start past had;
    }

pub some-of : (m : CacheMeta) (o : Option CacheMeta) → Some m ≡ o → is_some o ≡ true
some-of m None e = absurd cc
some-of m (Some n) e = refl
