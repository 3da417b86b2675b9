-- A look-up's checks, what it finds, and its step.
use Rattle.std.proofs.Common.{◌≡◌, ℕ, refl, ap, sym, ◌∙◌, true, false, cond, length, inl, inr}
use Rattle.std.specs.Prelude.{◌&&◌, Bool, Option, Some, None, option_map, is_some, not, find, Ok, ◌⊎◌}
use Rattle.std.specs.FinMap.{get}
use Rattle.std.specs.Option.{option_or}
use Rattle.cache_words.specs.Time.{MomentValue}
use Rattle.cache_changes.specs.Changes.{StoredKey, stored_key}
use Rattle.cache_heads.specs.declared.meta.CacheMeta.{CacheMeta}
use Rattle.cache_lock.specs.Changes.{Changes as LockChanges}
use Rattle.tier_model.specs.declared.event.Answer.TheVariants.{Found}
use Rattle.tier_model.specs.declared.event.LockGiven.TheVariants as lock
use Rattle.tier_model.specs.declared.event.TierFault.{TierFault}
use Rattle.tier_model.specs.declared.event.TierFault.TheVariants.{WrongPhase, Waiting}
use Rattle.tier_model.specs.Calls.{Outcome}
use Rattle.tier_model.specs.Rows.{Numbered}
use Rattle.tier_model.specs.Shelf.{InFlight, Look, absent, in_flight, finished, is_there, look, look_by as found_by, flies_for}
use Rattle.tier_model.specs.Step.{UseFits, IsUseFault}
use Rattle.tier_model.specs.State.{Settings, Phase, cache_key, hit, stale, miss, begun, disabled, revalidated, LockHold, nothing, permit, State}
use Rattle.tier_model.specs.State as state
use Rattle.tier_model.specs.Checks.{can_look_up, has_permit, is_waiting, unless}
use Rattle.tier_model.specs.Answers.{asks_now, is_fresh, look_answer}
use Rattle.tier_promise.specs.Promise.{HowFar, ComesSo, StaysOut}
use Rattle.tier_promise.specs.Promise.{Write, Permit, Changes, Request, EventRow, Now, Hold, no_lock, holds, waits, bytes_of, is_done, flying, body_of, first_of, rows, shown, waiting, as_body, hold_given, asked, told, is_wait, is_given, refused, look_found, look_absent, look_row, look_by}
use Rattle.tier_promise.proofs.NowFits.{told_write, told_flight, BodyFits, HoldFits, RequestFits, NowFits}
use Rattle.tier_promise.proofs.NowRequests.{IsSound, first-flight}
use Rattle.tier_promise.proofs.NowQuiet.{IsLocked}
use Rattle.tier_promise.proofs.NowLookUps.{ThereStill, Leaves, leaves-absent, leaves-flight, leaves-body, flight-meta, body-meta, body-is}
use Rattle.tier_promise.proofs.NowRoom.{use-room, use-kept_out}

module _ (x : Settings) (s : State) (locks : LockChanges) (now : Now) (fits : NowFits x s locks now) (t : MomentValue) (r : Request) where
  abbrev c : Changes
  c = now.changes

  abbrev k : StoredKey
  k = stored_key r.entry

  abbrev checks : Phase → LockHold → Option TierFault
  checks phase held = cond (can_look_up phase && not (has_permit held)) (unless (not (is_waiting held)) Waiting) (Some WrongPhase)

  -- ---- the checks

  abbrev Passed : Phase → LockHold → Hold → Type 0
  Passed phase held hold = (held ≡ nothing) × (look_by phase hold t r c ≡ look_row t r (shown k c) c)

  pub passed : (phase : Phase) (held : LockHold) (hold : Hold) → HoldFits fits.permits held hold → checks phase held ≡ None → Passed phase held hold
  passed cache_key nothing no_lock h e = (refl, refl)
  passed stale nothing no_lock h e = (refl, refl)
  passed cache_key (permit n) hold h e = absurd cc
  passed stale (permit n) hold h e = absurd cc
  passed cache_key (state.waits n first) hold h e = absurd cc
  passed stale (state.waits n first) hold h e = absurd cc
  passed cache_key nothing (holds p) h e = absurd h
  passed cache_key nothing (waits p since) h e = absurd h
  passed stale nothing (holds p) h e = absurd h
  passed stale nothing (waits p since) h e = absurd h
  passed _ held hold h e = absurd cc

  abbrev Failed : TierFault → Phase → Hold → Type 0
  Failed g phase hold = ((g ≡ WrongPhase) ⊎ (g ≡ Waiting)) × (look_by phase hold t r c ≡ refused r g)

  wrong : (g : TierFault) (phase : Phase) (hold : Hold) → look_by phase hold t r c ≡ refused r WrongPhase → Some WrongPhase ≡ Some g → Failed g phase hold
  wrong g phase hold is e = let same : WrongPhase ≡ g = cc in (inl (sym same), is ∙ ap (refused r) same)

  waiting_still : (g : TierFault) (phase : Phase) (hold : Hold) → look_by phase hold t r c ≡ refused r Waiting → Some Waiting ≡ Some g → Failed g phase hold
  waiting_still g phase hold is e = let same : Waiting ≡ g = cc in (inr (sym same), is ∙ ap (refused r) same)

  pub failed : (g : TierFault) (phase : Phase) (held : LockHold) (hold : Hold) → HoldFits fits.permits held hold → checks phase held ≡ Some g → Failed g phase hold
  failed g cache_key nothing hold h e = absurd cc
  failed g stale nothing hold h e = absurd cc
  failed g cache_key (permit n) (holds p) h e = wrong g cache_key (holds p) refl e
  failed g stale (permit n) (holds p) h e = wrong g stale (holds p) refl e
  failed g cache_key (state.waits n first) (waits p since) h e = waiting_still g cache_key (waits p since) refl e
  failed g stale (state.waits n first) (waits p since) h e = waiting_still g stale (waits p since) refl e
  failed g cache_key (permit n) no_lock h e = absurd h
  failed g cache_key (permit n) (waits p since) h e = absurd h
  failed g stale (permit n) no_lock h e = absurd h
  failed g stale (permit n) (waits p since) h e = absurd h
  failed g cache_key (state.waits n first) no_lock h e = absurd h
  failed g cache_key (state.waits n first) (holds p) h e = absurd h
  failed g stale (state.waits n first) no_lock h e = absurd h
  failed g stale (state.waits n first) (holds p) h e = absurd h
  failed g hit held hold h e = wrong g hit hold refl e
  failed g miss held hold h e = wrong g miss hold refl e
  failed g begun held hold h e = wrong g begun hold refl e
  failed g disabled held hold h e = wrong g disabled hold refl e
  failed g revalidated held hold h e = wrong g revalidated hold refl e

-- ---- what is found

and_true : (a : Bool) → (a && true) ≡ a
and_true true = refl
and_true false = refl

module _ (x : Settings) (s : State) (locks : LockChanges) (now : Now) (fits : NowFits x s locks now) (locked : IsLocked x.age s locks) (sound : IsSound s) (t : MomentValue) (id : ℕ) (q : state.Request) (r : Request)
    (f : RequestFits x fits.numbers fits.permits s.shelf now.changes q r) where
  abbrev changes : Changes
  changes = now.changes

  abbrev key : StoredKey
  key = stored_key r.entry

  -- what a look-up finds, and its row
  pub record Finds : Type 0 where
    pub finds : Look
    pub asks : Bool
    pub row : EventRow
    pub is : look key s.shelf ≡ finds
    pub asks_is : asks_now t q finds ≡ asks
    pub row_is : look_row t r (shown key changes) changes ≡ row
    pub says : row.outcome ≡ Ok (look_answer t (told (asked asks t r changes)) finds)
    -- what its row needs: room for a use, memory for what is found or a new permit, a number for what is given
    pub comes : UseFits s q finds → (far : HowFar) → ComesSo x row.needs.entering far changes
    pub stays_out : (g : TierFault) → IsUseFault s q finds g → StaysOut x row.needs.entering g (rows changes)
    pub memory : (is_there finds ≡ true) ⊎ (told (asked asks t r changes) ≡ lock.Write) → row.needs.memory ≡ true
    pub number : asks ≡ true → row.needs.number ≡ true
    pub leaves : ThereStill x s locks now fits locked sound t id q r f finds → (n : ℕ) → n ≡ s.shelf.writes → Leaves x s locks now fits locked sound t id q r f asks key nothing finds n row

  given_by : (o : Option Permit) (p : Permit) → is_given (hold_given o p) ≡ true
  given_by None p = refl
  given_by (Some y) p = refl

  given_is : (b : Bool) → b ≡ true → is_given (asked b t r changes) ≡ true
  given_is true e = given_by (waiting key changes) (record { number = length changes; key = key; given = t })
  given_is false e = absurd cc

  permit_is : (h : Hold) → told h ≡ lock.Write → (is_given h && not (is_wait h)) ≡ true
  permit_is no_lock e = absurd cc
  permit_is (holds p) e = refl
  permit_is (waits p since) e = absurd cc

  row_found : (o : Option Write) → shown key changes ≡ o → (u : Option Write) → first_of (flying key changes) ≡ u → (w : Write) → o ≡ Some w
      → look_row t r (shown key changes) changes ≡ look_found t (not (is_some u)) (asked (r.asks && not (is_fresh t w.meta)) t r changes) w r changes
  row_found o e u first w is =
      ap (λ (y : Option Write). look_row t r y changes) (e ∙ is) ∙ ap (λ (y : Option Write). look_found t (not (is_some y)) (asked (r.asks && not (is_fresh t w.meta)) t r changes) w r changes) first

  finds_by : (o : Option InFlight) (w : Option Write) (b : Option Numbered) (v : Option Write) → find (flies_for key) s.shelf.flying ≡ o → first_of (flying key changes) ≡ w → get s.shelf.bodies key ≡ b → body_of key changes ≡ v
      → option_map told_write w ≡ option_map (told_flight fits.numbers) o → BodyFits fits.numbers (λ m. bytes_of m changes) (λ m. is_done m changes) key b v → Finds
  finds_by (Some g) (Some w) b v eo ew eb ev sees body =
      let seen : told_write w ≡ told_flight fits.numbers g = cc in
      let meta = flight-meta x s locks now fits locked sound t id q r f g w eo seen in
      record {
        finds = in_flight g;
        asks = r.asks && not (is_fresh t w.meta);
        row = look_found t false (asked (r.asks && not (is_fresh t w.meta)) t r changes) w r changes;
        is = ap (λ (y : Option InFlight). found_by y (get s.shelf.bodies key)) eo;
        asks_is = ap (λ (y : Bool). y && not (is_fresh t g.meta)) f.asks ∙ ap (λ (m : CacheMeta). r.asks && not (is_fresh t m)) meta;
        row_is = row_found (Some w) (ap (λ (y : Option Write). option_or y (body_of key changes)) ew) (Some w) ew w refl;
        says = ap (λ (m : CacheMeta). let said : Outcome = Ok (Found (is_fresh t m) false (told (asked (r.asks && not (is_fresh t w.meta)) t r changes))) in said) (sym meta);
        comes = λ fit far. tt;
        stays_out = λ g out. absurd out;
        memory = λ due. refl;
        number = given_is (r.asks && not (is_fresh t w.meta));
        leaves = λ there n same. leaves-flight x s locks now fits locked sound t id q r f g w eo seen there (r.asks && not (is_fresh t w.meta)) n same;
      }
  finds_by None None (Some y) (Some w) eo ew eb ev sees body =
      let meta = body-meta x s locks now fits locked sound t id q r f y w body in
      record {
        finds = finished y;
        asks = r.asks && not (is_fresh t w.meta);
        row = look_found t true (asked (r.asks && not (is_fresh t w.meta)) t r changes) w r changes;
        is = ap (λ (z : Option InFlight). found_by z (get s.shelf.bodies key)) eo ∙ ap (found_by None) eb;
        asks_is = ap (λ (z : Bool). z && not (is_fresh t y.body.meta)) f.asks ∙ ap (λ (m : CacheMeta). r.asks && not (is_fresh t m)) meta;
        row_is = row_found (Some w) (ap (λ (z : Option Write). option_or z (body_of key changes)) ew ∙ ev) None ew w refl;
        says = ap (λ (m : CacheMeta). let said : Outcome = Ok (Found (is_fresh t m) true (told (asked (r.asks && not (is_fresh t w.meta)) t r changes))) in said) (sym meta);
        comes = λ fit far. use-room x s locks now fits q.entry r.entry f.entry y.body (as_body w changes) (body-is x s locks now fits locked sound t id q r f y w body) fit;
        stays_out = λ g out. use-kept_out x s locks now fits q.entry r.entry f.entry y.body (as_body w changes) (body-is x s locks now fits locked sound t id q r f y w body) g out;
        memory = λ due. refl;
        number = given_is (r.asks && not (is_fresh t w.meta));
        leaves = λ there n same. leaves-body x s locks now fits locked sound t id q r f y w body there (r.asks && not (is_fresh t w.meta)) n same;
      }
  finds_by None None None None eo ew eb ev sees body = record {
    finds = absent;
    asks = r.asks;
    row = look_absent (asked r.asks t r changes) r;
    is = ap (λ (z : Option InFlight). found_by z (get s.shelf.bodies key)) eo ∙ ap (found_by None) eb;
    asks_is = and_true q.asks ∙ f.asks;
    row_is = ap (λ (z : Option Write). look_row t r z changes) (ap (λ (z : Option Write). option_or z (body_of key changes)) ew ∙ ev);
    says = refl;
    comes = λ fit far. tt;
    stays_out = λ g out. absurd out;
    memory = λ due. elim due [
      | inl there ↦ absurd cc
      | inr new ↦ permit_is (asked r.asks t r changes) new
    ];
    number = given_is r.asks;
    leaves = λ there n same. leaves-absent x s locks now fits locked sound t id q r f there r.asks n same;
  }
  finds_by (Some g) None b v eo ew eb ev sees body = absurd cc
  finds_by None (Some w) b v eo ew eb ev sees body = absurd cc
  finds_by None None (Some y) None eo ew eb ev sees body = absurd body
  finds_by None None None (Some w) eo ew eb ev sees body = absurd body

  pub look-finds : Finds
  look-finds = finds_by (find (flies_for key) s.shelf.flying) (first_of (flying key changes)) (get s.shelf.bodies key) (body_of key changes) refl refl refl refl
      (first-flight fits.numbers s.shelf.bodies s.shelf.flying s.shelf.writes changes fits.shelf key) (fits.shelf.bodies key)
