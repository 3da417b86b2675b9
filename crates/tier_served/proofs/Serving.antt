-- What the steps of a request say of it as a whole.
use Rattle.std.proofs.Common.{◌≡◌, ℕ, Bool, false, List, ◌∷◌, [], None, Ok, Err, refl, ap, sym, ◌∙◌, subst, inl, inr}
use Rattle.std.specs.Prelude.{Result}
use Rattle.rand_core.specs.Stream.{Stream}
use Rattle.cache_words.specs.Time.{MomentValue}
use Rattle.cache_words.specs.Key.{CacheKeyValue}
use Rattle.tier_model.specs.declared.event.Event.{Event}
use Rattle.tier_model.specs.declared.event.Action.TheVariants.{Open, LookUp, Drop, Put}
use Rattle.tier_model.specs.declared.event.Answer.TheVariants.{Opened, Dropped}
use Rattle.tier_model.specs.declared.event.TierFault.{TierFault}
use Rattle.tier_model.specs.Keys.{Entry, entry_of}
use Rattle.tier_model.specs.Calls.{Outcome}
use Rattle.tier_model.specs.Shelf.{Look, finished, is_there}
use Rattle.tier_model.specs.State.{State}
use Rattle.tier_model.specs.Step.{Allows}
use Rattle.tier_model.specs.After.{after}
use Rattle.tier_single.specs.Takes.{Takes}
use Rattle.tier_served.specs.Requests.{event_at}
use Rattle.tier_served.specs.Courses.{unseen, hit, unfilled, filled, IsPutTold, TakesBy}
use Rattle.tier_served.specs.Leaves.{found_at, looked_up, LeavesBy, IsAside}
use Rattle.tier_served.specs.Serves.{Serves}
use Rattle.tier_served.specs.Looks.{Finds, Fills}
use Rattle.tier_served.specs.declared.request.Request.{Request}
use Rattle.tier_served.specs.declared.request.Method.{Method}
use Rattle.tier_served.specs.declared.request.Method.TheVariants as method
use Rattle.tier_served.specs.declared.request.Served.{Served}
use Rattle.tier_served.specs.declared.request.Served.TheVariants.{Hit}
use Rattle.tier_served.specs.declared.look_ups.Looked.{Looked}
use Rattle.tier_served.specs.declared.look_ups.Looked.TheVariants.{Fresh, Missed}
use Rattle.tier_served.proofs.Took.{StepsBy, StepsBy-takes, Takes-then}
use Rattle.tier_served.proofs.Calls.{is_call, put_aside}

-- ---- who is open, and the lock

same_aside : (old new : State) → new ≡ old → IsAside old new
same_aside old new is = record { requests = ap (λ (y : State). y.requests) is; lock = ap (λ (y : State). y.lock) is }

looked_aside : (old new : State) (e : Entry) (l : Look) → new ≡ looked_up old e l → IsAside old new
looked_aside old new e l is = record { requests = ap (λ (y : State). y.requests) is; lock = ap (λ (y : State). y.lock) is }

then_aside : (old mid new : State) → IsAside old mid → IsAside mid new → IsAside old new
then_aside old mid new a b = record { requests = b.requests ∙ a.requests; lock = b.lock ∙ a.lock }

-- ---- what the function of a method says

pub record Says (m : Method) (old : State) (s : Stream) (t : MomentValue) (key : CacheKeyValue) (told : Result Served TierFault) (new : State) (rest : Stream) : Type 0 where
  pub calls : TakesBy m old s t key told new rest
  pub leaves : LeavesBy m old t key told new
  pub aside : IsAside old new

pub served_by : (old : State) (s : Stream) (r : Request) (told : Result Served TierFault) (new : State) (rest : Stream) (m : Method) → r.method ≡ m → Says m old s r.moment r.key told new rest → Serves old s r told new rest
served_by old s r told new rest m is says =
    let x : Says r.method old s r.moment r.key told new rest = subst (λ (m : Method). Says m old s r.moment r.key told new rest) (sym is) says in
    record { events = x.calls; leaves = record { leaves = x.leaves; aside = x.aside } }

module _ (old : State) (s : Stream) (t : MomentValue) (key : CacheKeyValue) where
  -- ---- a get

  module _ (response : List ℕ) where
    pub get_refused : (f : TierFault) (new : State) (rest : Stream) → Finds old s t key (Err f) new rest → Says (method.Get response) old s t key (Err f) new rest
    get_refused f new rest h = elim h [
      | inl closed ↦ record { calls = inl (f, refl, closed); leaves = inl (f, refl, closed.0); aside = same_aside old new closed.0 }
      | inr looked ↦ record {
        calls = inr (record { id = looked.1.0; free = looked.1.1; course = unseen f; takes = looked.1.2; is_told = refl });
        leaves = inl (f, refl, looked.0);
        aside = same_aside old new looked.0;
      }
    ]

    pub get_hit : (body : List ℕ) (new : State) (rest : Stream) → Finds old s t key (Ok (Fresh body)) new rest → Says (method.Get response) old s t key (Ok (Hit body)) new rest
    get_hit body new rest h = record {
      calls = inr (record { id = h.1.0; free = h.1.1; course = hit body; takes = h.1.2; is_told = refl });
      leaves = inr (inl (h.0.0, h.0.1, h.0.2, told_of h.0.3, h.0.4));
      aside = looked_aside old new (entry_of key) (finished h.0.0) h.0.4;
    }
      where
        told_of : {a b : List ℕ} → a ≡ b → ◌≡◌ {A = Result Served TierFault} (Ok (Hit a)) (Ok (Hit b))
        told_of is = cc

    pub get_filled : (found : Bool) (mid : State) (left : Stream) (told : Result Served TierFault) (new : State) (rest : Stream) → Finds old s t key (Ok (Missed found)) mid left
        → Fills mid left t key response found told new rest → Says (method.Get response) old s t key told new rest
    get_filled found mid left told new rest h fills =
        let e : Entry = entry_of key in
        let l : Look = found_at e old in
        let es : List Event = event_at t (Open h.3.0 key false) ∷ event_at t (LookUp h.3.0) ∷ event_at t (Drop h.3.0) ∷ [] in
        let os : List Outcome = Ok Opened ∷ Ok h.3.1 ∷ Ok Dropped ∷ [] in
        let put : Event = event_at t (Put key (response ∷ []) None) in
        elim fills [
          | inl out ↦ record {
            calls =
                inr
                (record {
                  id = h.3.0;
                  free = h.3.2;
                  course = unfilled h.3.1;
                  takes = subst (λ (x : Stream). Takes old s es os new x) (sym out.2) (subst (λ (y : State). Takes old s es os y left) (sym out.1) h.3.5);
                  is_told = (h.3.4, out.0);
                });
            leaves = inr (inr (h.1, inl (out.0, out.1 ∙ h.2)));
            aside = looked_aside old new e l (out.1 ∙ h.2);
          }
          | inr more ↦
              let step : StepsBy mid left put more.0 new rest = StepsBy-takes mid left put more.0 new rest more.2 in record {
                calls =
                    inr
                    (record {
                      id = h.3.0;
                      free = h.3.2;
                      course = filled h.3.1 more.0;
                      takes = Takes-then old mid new s left rest es (put ∷ []) os (more.0 ∷ []) h.3.5 more.2;
                      is_told = (h.3.4, subst (λ (v : Bool). IsPutTold v more.0 told) (sym h.3.3) more.1);
                    });
                leaves =
                    inr
                    (inr (
                      h.1,
                      inr (
                        step.0,
                        step.1,
                        subst (λ (o : Outcome). IsPutTold (is_there l) o told) (sym step.2) (subst (λ (v : Bool). IsPutTold v more.0 told) h.0 more.1),
                        subst (λ (y : State). Allows y step.0) h.2 step.3,
                        step.4 ∙ ap (λ (y : State). after y step.0) h.2,
                      ),
                    ));
                aside = then_aside old mid new (looked_aside old mid e l h.2) (put_aside mid t new key (response ∷ []) more.0 (is_call mid left t (Put key (response ∷ []) None) more.0 new rest step));
              }
        ]

    pub get_hit_by : (looked : Looked) (body : List ℕ) (new : State) (rest : Stream) → looked ≡ Fresh body → Finds old s t key (Ok looked) new rest
        → Says (method.Get response) old s t key (Ok (Hit body)) new rest
    get_hit_by looked body new rest is h = get_hit body new rest (subst (λ (l : Looked). Finds old s t key (Ok l) new rest) is h)

    pub get_filled_by : (looked : Looked) (found : Bool) (mid : State) (left : Stream) (told : Result Served TierFault) (new : State) (rest : Stream) → looked ≡ Missed found → Finds old s t key (Ok looked) mid left
        → Fills mid left t key response found told new rest → Says (method.Get response) old s t key told new rest
    get_filled_by looked found mid left told new rest is h fills = get_filled found mid left told new rest (subst (λ (l : Looked). Finds old s t key (Ok l) mid left) is h) fills
