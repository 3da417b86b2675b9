-- What one request leaves, as the laws of loads see it, of a tier in which no write is in flight.
use Rattle.std.proofs.Common.{◌≡◌, ℕ, Bool, true, false, List, ◌∷◌, [], map, Option, Some, None, Ok, Err, refl, ap, sym, ◌∙◌, subst, inl, inr}
use Rattle.std.specs.Prelude.{Result, is_some, find, option_map, MatchOption}
use Rattle.std.specs.FinMap.{get}
use Rattle.std.proofs.lemmas.List.{append-nil, length-set}
use Rattle.cache_words.specs.Time.{MomentValue}
use Rattle.cache_words.specs.Key.{CacheKeyValue}
use Rattle.cache_entries.specs.declared.entry.CacheEntryKey.{CacheEntryKey}
use Rattle.cache_changes.specs.Changes.{stored_key}
use Rattle.cache_lock.specs.State.{LockState}
use Rattle.head_parse.specs.Response.{Reading, IsReading}
use Rattle.cache_evict.specs.Managed.{Managed, put_first, use_first, taken_out}
use Rattle.tier_model.specs.declared.state.Body.{Body}
use Rattle.tier_model.specs.declared.whole.PutVerdict.{PutVerdict}
use Rattle.tier_model.specs.declared.whole.PutVerdict.TheVariants.{Stored, Uncacheable as NotKept, Incomplete, BadHead, BeforeEpoch}
use Rattle.tier_model.specs.declared.event.Action.TheVariants.{Put}
use Rattle.tier_model.specs.declared.event.Answer.{Answer}
use Rattle.tier_model.specs.declared.event.Answer.TheVariants.{Finished}
use Rattle.tier_model.specs.declared.event.TierFault.{TierFault}
use Rattle.tier_model.specs.Keys.{Entry, entry_of, alone}
use Rattle.tier_model.specs.Calls.{Outcome, finished_in, writes_after}
use Rattle.tier_model.specs.Response.{whole_of, whole_in, joined, IsRead}
use Rattle.tier_model.specs.Rows.{Numbered, FinishedBody, body_of, with_body, without_body, without_bodies, weight_for}
use Rattle.tier_model.specs.Evictions.{all_gone, GoInTurn}
use Rattle.tier_model.specs.Shelf.{InFlight, Look, absent, finished, look_by, is_there, flies_for, marked, marked_all}
use Rattle.tier_model.specs.State.{State, shards_of}
use Rattle.tier_model.specs.Answers.{IsPutAnswer}
use Rattle.tier_model.specs.After.{after_purge, after_put, with_counts}
use Rattle.tier_loads.specs.Requests.{PlainRequest, asks, purges, Stores, Uses, ServesRequest, entry_of as plain_entry, step_of}
use Rattle.tier_served.specs.Requests.{step_for, step_by}
use Rattle.tier_served.specs.Uniform.{asks_for, IsSeenBy, IsSeenAs, IsPlainBy, IsPlain}
use Rattle.tier_served.specs.Courses.{IsPutTold}
use Rattle.tier_served.specs.Leaves.{found_at, looked_up, LeavesPut, LeavesGet, LeavesPurge, LeavesBy, Leaves}
use Rattle.tier_pairs.specs.Two.{found_by}
use Rattle.tier_served.specs.declared.request.Request.{Request}
use Rattle.tier_served.specs.declared.request.Method.{Method}
use Rattle.tier_served.specs.declared.request.Method.TheVariants.{Get, Purge}
use Rattle.tier_served.specs.declared.request.Served.{Served}
use Rattle.tier_served.specs.declared.request.Served.TheVariants.{Hit, Filled, Purged}
use Rattle.tier_served.proofs.Calls.{IsCall, said}

told_same : {a b : Served} → ◌≡◌ {A = Result Served TierFault} (Ok a) (Ok b) → a ≡ b
told_same e = cc

not_refused : {a : Served} {f : TierFault} → ◌≡◌ {A = Result Served TierFault} (Ok a) (Err f) → ⊥
not_refused e = cc

-- a plain response has one reading
one_reading : (response : List ℕ) (a b : Reading) → IsPlainBy (Get response) → IsReading response a → IsReading response b → a ≡ b
one_reading response a b plain x y = x.whole plain.0 plain.1 plain.2 plain.3 ∙ sym (y.whole plain.0 plain.1 plain.2 plain.3)

-- the reading of the one piece of a put
read_joined : (response : List ℕ) (r : Reading) → IsReading (joined (response ∷ [])) r → IsReading response r
read_joined response r x = subst (λ (bytes : List ℕ). IsReading bytes r) (append-nil response) x

-- of writes none of which is in flight none is marked
none_marked : (es : List CacheEntryKey) → marked_all es [] ≡ []
none_marked [] = refl
none_marked (e ∷ es) = none_marked es

-- ---- a put

module _ (mid : State) (t : MomentValue) (key : CacheKeyValue) (response : List ℕ) (body : Body) (new : State) where
  abbrev kept_body : FinishedBody
  kept_body = record { entry = entry_of key; body = body }

  abbrev first_put : Managed
  first_put = put_first (shards_of mid) (alone (entry_of key)) (weight_for body) mid.managed

  -- the body was stored, with these evictions
  pub record Puts (a : Answer) : Type 0 where
    pub n : ℕ
    pub es : List CacheEntryKey
    pub is : a ≡ Finished n es
    pub turns : GoInTurn (shards_of mid) false es first_put
    pub managed : new.managed ≡ all_gone (shards_of mid) es first_put
    pub bodies : new.shelf.bodies ≡ without_bodies es (with_body mid.shelf.writes kept_body mid.shelf.bodies)
    pub flying : new.shelf.flying ≡ marked_all es mid.shelf.flying

  -- what the call says, by what the response gives
  abbrev Gives : Option PutVerdict → Answer → Type 0
  Gives w a =
      IsPutAnswer mid (finished_in (Put key (response ∷ []) None) w) w a → (began : Bool) (k : LockState)
      → new ≡ with_counts (writes_after mid.shelf.writes began) k (after_put mid (Some mid.shelf.writes) (finished_in (Put key (response ∷ []) None) w) a) → Puts a

  finishes : (a : Answer) → Gives (Some (Stored body)) a
  finishes (Finished n es) allowed began k is = record {
    n = n;
    es = es;
    is = refl;
    turns = allowed.2;
    managed = ap (λ (y : State). y.managed) is;
    bodies = ap (λ (y : State). y.shelf.bodies) is;
    flying = ap (λ (y : State). y.shelf.flying) is;
  }
  finishes _ allowed began k is = absurd allowed

  pub put_stores : (a : Answer) → (plain : IsPlainBy (Get response)) → (x : Reading) → IsReading response x → whole_of t x ≡ Stored body → IsCall mid t (Put key (response ∷ []) None) (Ok a) new → Puts a
  put_stores a plain x reads gives call =
      let y = said mid t new (Put key (response ∷ []) None) (Ok a) call in
      by y.reading y.allows.read y.allows.outcome y.began mid.lock y.state
    where
      by : (reading : Option Reading) → IsRead (Put key (response ∷ []) None) reading → Gives (whole_in t (Put key (response ∷ []) None) reading) a
      by None read allowed began k is = absurd allowed
      by (Some r) read allowed began k is =
          let same : whole_of t r ≡ Stored body = ap (whole_of t) (one_reading response r x plain (read_joined response r read) reads) ∙ gives in
          subst (λ (w : PutVerdict). Gives (Some w) a) (sym same) (finishes a) allowed began k is

  -- at one shard
  pub stores : shards_of mid ≡ 1 → (a : Answer) → (p : Puts a) → Stores kept_body p.es mid.managed mid.shelf.bodies new.managed new.shelf.bodies
  stores one a p = (
    subst (λ (n : ℕ). GoInTurn n false p.es (put_first n (alone (entry_of key)) (weight_for body) mid.managed)) one p.turns,
    subst (λ (n : ℕ). new.managed ≡ all_gone n p.es (put_first n (alone (entry_of key)) (weight_for body) mid.managed)) one p.managed,
    (mid.shelf.writes, p.bodies),
  )

-- ---- a request

-- what a request does, and whether it found its key; no write is in flight
pub record Did (p : PlainRequest) (old : State) (told : Served) (new : State) : Type 0 where
  pub does : ServesRequest p old.managed old.shelf.bodies new.managed new.shelf.bodies
  pub found : found_by told ≡ is_some (body_of (stored_key (plain_entry p)) old.shelf.bodies)
  pub grounded : new.shelf.flying ≡ []

a_body : (o : Option Numbered) (x : Numbered) → look_by None o ≡ finished x → o ≡ Some x
a_body None x h = absurd cc
a_body (Some y) x h = cc

-- the body of what is kept
abbrev body_in : Option Numbered → Option Body
body_in o = option_map (λ x. x.body) o

module _ (old : State) (grounded : old.shelf.flying ≡ []) (one : shards_of old ≡ 1) (t : MomentValue) (key : CacheKeyValue) (new : State) (told : Served) where
  abbrev e : Entry
  e = entry_of key

  abbrev kept : Option Numbered
  kept = get old.shelf.bodies (stored_key e)

  -- what is found is a body
  look_is : found_at e old ≡ look_by None kept
  look_is = ap (λ (fs : List InFlight). look_by (find (flies_for (stored_key e)) fs) kept) grounded

  abbrev Purges : Option Numbered → Type 0
  Purges o =
      MatchOption (body_in o) ((new.managed ≡ old.managed) × (new.shelf.bodies ≡ old.shelf.bodies))
      (λ found. (new.managed ≡ taken_out 1 (alone e) old.managed) × (new.shelf.bodies ≡ without_body (stored_key e) old.shelf.bodies))

  purged : LeavesPurge old key (Ok told) new → Did (purges e) old told new
  purged h = elim h [
    | inl out ↦ absurd (not_refused out.0)
    | inr gone ↦
        by kept refl (told_same gone.0 ∙ ap (λ (l : Look). Purged (is_there l)) look_is) (gone.1 ∙ ap (λ (l : Look). after_purge old key (is_there l)) look_is)
  ]
    where
      by : (o : Option Numbered) → kept ≡ o → told ≡ Purged (is_there (look_by None o)) → new ≡ after_purge old key (is_there (look_by None o)) → Did (purges e) old told new
      by None is says n = record {
        does = subst Purges (sym is) (ap (λ (y : State). y.managed) n, ap (λ (y : State). y.shelf.bodies) n);
        found = ap found_by says ∙ sym (ap (λ (o : Option Numbered). is_some (body_in o)) is);
        grounded = ap (λ (y : State). y.shelf.flying) n ∙ grounded;
      }
      by (Some x) is says n = record {
        does = subst Purges (sym is) (ap (λ (y : State). y.managed) n ∙ ap (λ (k : ℕ). taken_out k (alone e) old.managed) one, ap (λ (y : State). y.shelf.bodies) n);
        found = ap found_by says ∙ sym (ap (λ (o : Option Numbered). is_some (body_in o)) is);
        grounded = ap (λ (y : State). y.shelf.flying) n ∙ ap (λ (fs : List InFlight). map (marked (Some (stored_key e))) fs) grounded;
      }

  module _ (response : List ℕ) (plain : IsPlainBy (Get response)) (r : Reading) (reads : IsReading response r) (body : Body) (gives : whole_of t r ≡ Stored body) where
    abbrev asked : FinishedBody
    asked = record { entry = e; body = body }

    pub record DidPut (mid : State) (found : Bool) : Type 0 where
      pub es : List CacheEntryKey
      pub stores : Stores asked es mid.managed mid.shelf.bodies new.managed new.shelf.bodies
      pub tells : found_by told ≡ found
      pub none_flies : new.shelf.flying ≡ []

    -- the put that comes after a look-up
    filled : (mid : State) → mid.shelf.flying ≡ [] → shards_of mid ≡ 1 → (found : Bool) → LeavesPut mid t key response found (Ok told) new → DidPut mid found
    filled mid ground is found h = elim h [ inl out ↦ absurd (not_refused out.0) | inr put ↦ by put.0.outcome put.2 (put.0, put.1, refl, put.3, put.4) ]
      where
        by : (o : Outcome) → IsPutTold found o (Ok told) → IsCall mid t (Put key (response ∷ []) None) o new → DidPut mid found
        by (Err f) says call = absurd (not_refused says)
        by (Ok a) says call =
            let y = put_stores mid t key response body new a plain r reads gives call in
            let s : told ≡ Filled found y.n y.es = told_same (subst (λ (b : Answer). IsPutTold found (Ok b) (Ok told)) y.is says) in record {
              es = y.es;
              stores = stores mid t key response body new is a y;
              tells = ap found_by s;
              none_flies = y.flying ∙ ap (λ (fs : List InFlight). marked_all y.es fs) ground ∙ none_marked y.es;
            }

    mid-one : (o : Option Numbered) → shards_of (looked_up old e (look_by None o)) ≡ 1
    mid-one None = one
    mid-one (Some x) = length-set _ _ _ ∙ one

    abbrev Asks : Option Numbered → Type 0
    Asks o =
        MatchOption (body_in o) ((es : List CacheEntryKey) × Stores asked es old.managed old.shelf.bodies new.managed new.shelf.bodies)
        (λ found. Uses asked found old.managed old.shelf.bodies new.managed new.shelf.bodies)

    asked_for : LeavesGet old t key response (Ok told) new → Did (asks asked) old told new
    asked_for h = elim h [
      | inl out ↦ absurd (not_refused out.1)
      | inr rest ↦
          elim rest [
            | inl hit ↦ by_hit hit.0 (a_body kept hit.0 (sym look_is ∙ hit.1)) (told_same hit.3) hit.4
            | inr put ↦
                by kept refl (subst (λ (l : Look). LeavesPut (looked_up old e l) t key response (is_there l) (Ok told) new) look_is put.1)
          ]
    ]
      where
        by_hit : (x : Numbered) → kept ≡ Some x → told ≡ Hit x.body.bytes → new ≡ looked_up old e (finished x) → Did (asks asked) old told new
        by_hit x is says n = record {
          does = subst Asks (sym is) (inl (ap (λ (y : State). y.managed) n ∙ ap (λ (k : ℕ). use_first k (alone e) (weight_for x.body) old.managed) one, ap (λ (y : State). y.shelf.bodies) n));
          found = ap found_by says ∙ sym (ap (λ (o : Option Numbered). is_some (body_in o)) is);
          grounded = ap (λ (y : State). y.shelf.flying) n ∙ grounded;
        }

        by : (o : Option Numbered) → kept ≡ o → LeavesPut (looked_up old e (look_by None o)) t key response (is_there (look_by None o)) (Ok told) new → Did (asks asked) old told new
        by None is h =
            let f = filled (looked_up old e absent) grounded (mid-one None) false h in
            record { does = subst Asks (sym is) (f.es, f.stores); found = f.tells ∙ sym (ap (λ (o : Option Numbered). is_some (body_in o)) is); grounded = f.none_flies }
        by (Some x) is h =
            let f = filled (looked_up old e (finished x)) grounded (mid-one (Some x)) true h in
            let uses : Stores asked f.es (use_first 1 (alone e) (weight_for x.body) old.managed) old.shelf.bodies new.managed new.shelf.bodies =
            subst (λ (k : ℕ). Stores asked f.es (use_first k (alone e) (weight_for x.body) old.managed) old.shelf.bodies new.managed new.shelf.bodies) one f.stores in
            record { does = subst Asks (sym is) (inr (f.es, uses)); found = f.tells ∙ sym (ap (λ (o : Option Numbered). is_some (body_in o)) is); grounded = f.none_flies }

  -- what is seen of a request has its entry and is its step
  pub done_by : (m : Method) (p : PlainRequest) → LeavesBy m old t key (Ok told) new → IsPlainBy m → IsSeenBy t e m (Some p) → Did p old told new × (plain_entry p ≡ e) × (step_of p ≡ step_by (alone e) m)
  done_by Purge p l plain seen =
      let is : p ≡ purges e = some_same seen in
      (subst (λ (x : PlainRequest). Did x old told new) (sym is) (purged l), ap plain_entry is, ap step_of is)
    where
      some_same : {q r : PlainRequest} → Some q ≡ Some r → q ≡ r
      some_same h = cc
  done_by (Get response) p l plain seen = by (whole_of t seen.0) refl seen.2
    where
      some_same : {q r : PlainRequest} → Some q ≡ Some r → q ≡ r
      some_same h = cc

      by : (w : PutVerdict) → whole_of t seen.0 ≡ w → Some p ≡ asks_for e w → Did p old told new × (plain_entry p ≡ e) × (step_of p ≡ step_by (alone e) (Get response))
      by (Stored body) gives seen' =
          let is : p ≡ asks (record { entry = e; body = body }) = some_same seen' in
          (subst (λ (x : PlainRequest). Did x old told new) (sym is) (asked_for response plain seen.0 seen.1 body gives l), ap plain_entry is, ap step_of is)
      by (NotKept reason) gives seen' = absurd cc
      by Incomplete gives seen' = absurd cc
      by BadHead gives seen' = absurd cc
      by BeforeEpoch gives seen' = absurd cc

pub done : (old : State) (r : Request) (p : PlainRequest) (told : Served) (new : State) → old.shelf.flying ≡ [] → shards_of old ≡ 1 → Leaves old r (Ok told) new → IsPlain r → IsSeenAs r (Some p)
    → Did p old told new × (plain_entry p ≡ entry_of r.key) × (step_of p ≡ step_for r)
done old r p told new grounded one l plain seen = done_by old grounded one r.moment r.key new told r.method p l.leaves plain seen
