-- What a state finds is what each past of it shows.
use Rattle.std.proofs.Common.{◌≡◌, ℕ, refl, ap, sym, ◌∙◌, subst, cond, [], ◌∷◌}
use Rattle.std.specs.Prelude.{List, Option, Some, None, option_map, option_and_then, find}
use Rattle.std.specs.Option.{option_or}
use Rattle.std.specs.FinMap.{get}
use Rattle.cache_words.specs.Time.{MomentValue}
use Rattle.cache_entries.specs.Entry.{key_of}
use Rattle.cache_entries.specs.declared.entry.CacheEntryKey.{CacheEntryKey}
use Rattle.cache_changes.specs.Changes.{StoredKey, stored_key}
use Rattle.tier_model.specs.Answers.{is_fresh, key_for, look_for}
use Rattle.tier_model.specs.Calls.{History}
use Rattle.tier_model.specs.Histories.{Opening}
use Rattle.tier_model.specs.Past.{HasPast, state_of}
use Rattle.tier_model.specs.Rows.{Numbered, Bodies}
use Rattle.tier_model.specs.Shelf.{InFlight, Shelf, look_by, look, flies_for}
use Rattle.tier_model.specs.State.{State}
use Rattle.tier_model.specs.State as state
use Rattle.tier_promise.specs.Promise.{Write, Changes, Request, as_body, bytes_of, is_done, flying, body_of, first_of, shown, now_of, head_found}
use Rattle.tier_promise.specs.Hits.{head_at, hit_at, fresh_in, unless_any, hit_in}
use Rattle.tier_promise.proofs.NowFits.{Numbers, Permits, Told, told_write, told_flight, told_body, BodyFits, ShelfFits, OpenFits}
use Rattle.tier_promise.proofs.NowRequests.{first-flight}
use Rattle.tier_promise.proofs.NowAll.{NowFits-lawful}

module _ (numbers : Numbers) (bodies : Bodies) (fs : List InFlight) (next : ℕ) (c : Changes) (f : ShelfFits numbers bodies fs next c) (k : StoredKey) where
  abbrev Fits : Option Numbered → Option Write → Type 0
  Fits x v = BodyFits numbers (λ m. bytes_of m c) (λ m. is_done m c) k x v

  head_by : (o : Option InFlight) (w : Option Write) (x : Option Numbered) (v : Option Write) → option_map told_write w ≡ option_map (told_flight numbers) o → Fits x v
      → head_at (look_by o x) ≡ option_map (λ (w : Write). w.meta) (option_or w v)
  head_by (Some g) (Some w) x v e h = let told : told_flight numbers g ≡ told_write w = cc in ap (λ (t : Told). Some t.meta) told
  head_by (Some g) None x v e h = absurd cc
  head_by None (Some w) x v e h = absurd cc
  head_by None None (Some x) (Some v) e h = ap (λ (t : Told). Some t.meta) h.0
  head_by None None (Some x) None e h = absurd h
  head_by None None None (Some v) e h = absurd h
  head_by None None None None e h = refl

  pub head-shelf : head_at (look_by (find (flies_for k) fs) (get bodies k)) ≡ option_map (λ (w : Write). w.meta) (shown k c)
  head-shelf = head_by (find (flies_for k) fs) (first_of (flying k c)) (get bodies k) (body_of k c) (first-flight numbers bodies fs next c f k) (f.bodies k)

  -- the body that a write is
  body_is : (x : Numbered) (w : Write) → told_body numbers k x ≡ told_write w → x.body.bytes ≡ bytes_of w.number c → (t : MomentValue)
      → cond (is_fresh t x.body.meta) (Some x.body) None ≡ cond (is_fresh t w.meta) (Some (as_body w c)) None
  body_is x w told bytes t =
      let meta : x.body.meta ≡ w.meta = ap (λ (t : Told). t.meta) told in
      let body : x.body ≡ as_body w c = λ i. record { bytes = bytes i; meta = meta i } in
      λ i. cond (is_fresh t (meta i)) (Some (body i)) None

  hit_by : (t : MomentValue) (o : Option InFlight) (ws : List Write) (x : Option Numbered) (v : Option Write) → option_map told_write (first_of ws) ≡ option_map (told_flight numbers) o → Fits x v
      → hit_at t (look_by o x) ≡ unless_any ws (fresh_in t c v)
  hit_by t (Some g) (w ∷ ws) x v e h = refl
  hit_by t (Some g) [] x v e h = absurd cc
  hit_by t None (w ∷ ws) x v e h = absurd cc
  hit_by t None [] (Some x) (Some v) e h = body_is x v h.0 h.1 t
  hit_by t None [] (Some x) None e h = absurd h
  hit_by t None [] None (Some v) e h = absurd h
  hit_by t None [] None None e h = refl

  pub hit-shelf : (t : MomentValue) → hit_at t (look_by (find (flies_for k) fs) (get bodies k)) ≡ hit_in t k c
  hit-shelf t = hit_by t (find (flies_for k) fs) (flying k c) (get bodies k) (body_of k c) (first-flight numbers bodies fs next c f k) (f.bodies k)

module _ (start : Opening) (s : State) (past : History) (had : HasPast start s past) where
  abbrev c : Changes
  c = (now_of start.settings start.loaded past).changes

  abbrev from : State
  from = state_of start past

  -- the head of what is found of a key
  pub head-past : (k : StoredKey) → head_at (look k s.shelf) ≡ option_map (λ (w : Write). w.meta) (shown k c)
  head-past k =
      let fits = NowFits-lawful start past had.lawful in
      subst (λ (x : State). head_at (look k x.shelf) ≡ option_map (λ (w : Write). w.meta) (shown k c)) (sym had.state) (head-shelf fits.numbers from.shelf.bodies from.shelf.flying from.shelf.writes c fits.shelf k)

  -- what is whole and fresh of it
  pub hit-past : (t : MomentValue) (k : StoredKey) → hit_at t (look k s.shelf) ≡ hit_in t k c
  hit-past t k =
      let fits = NowFits-lawful start past had.lawful in
      subst (λ (x : State). hit_at t (look k x.shelf) ≡ hit_in t k c) (sym had.state) (hit-shelf fits.numbers from.shelf.bodies from.shelf.flying from.shelf.writes c fits.shelf k t)

  by_open : (numbers : Numbers) (permits : Permits) (shelf : Shelf) (q : state.Request) (v : Option Request) → OpenFits start.settings numbers permits shelf c (Some q) v
      → option_map (λ (w : Write). w.meta) (shown (key_for q) c) ≡ option_map (λ (w : Write). w.meta) (option_and_then (λ (p : Request). shown (stored_key p.entry) c) v)
  by_open numbers permits shelf q (Some p) f = ap (λ (e : CacheEntryKey). option_map (λ (w : Write). w.meta) (shown (stored_key (key_of e)) c)) f.entry
  by_open numbers permits shelf q None f = absurd f

  -- the head of what an open request finds
  pub head-request : (id : ℕ) (q : state.Request) → get s.requests id ≡ Some q → head_at (look_for q s.shelf) ≡ head_found id (now_of start.settings start.loaded past)
  head-request id q there =
      let fits = NowFits-lawful start past had.lawful in
      let now = now_of start.settings start.loaded past in
      let here : get from.requests id ≡ Some q = subst (λ (x : State). get x.requests id ≡ Some q) had.state there in
      head-past (key_for q) ∙ by_open fits.numbers fits.permits from.shelf q (now.request id)
      (subst (λ (o : Option state.Request). OpenFits start.settings fits.numbers fits.permits from.shelf c o (now.request id)) here (fits.requests id))
