-- Lawful histories are pasts of the states after them, and runs carry them on.
use Rattle.std.proofs.Common.{◌≡◌, ℕ, ◌<◌, refl, ap, sym, ◌∙◌, subst, [], ◌∷◌, length, arith}
use Rattle.std.specs.Prelude.{List, Option, Some, None, option_map, MatchOption, replicate, map}
use Rattle.std.proofs.lemmas.List.{ext_get_or}
use Rattle.std.specs.List.{sum_by}
use Rattle.std.specs.FinMap.{get, entries, len-entries}
use Rattle.cache_heads.specs.Meta.{meta_length}
use Rattle.cache_entries.specs.declared.rows.Tracked.{Tracked}
use Rattle.cache_changes.specs.Changes.{StoredKey, Write, Changes}
use Rattle.cache_changes.specs.Writes.{bytes_of, meta_of, IsBody}
use Rattle.cache_changes.specs.Uses.{AreShardsOf, rows_of}
use Rattle.cache_changes.proofs.ManyShards.{AreShardsOf-none, weights-shards, length-shards}
use Rattle.cache_changes.proofs.UseLaws.{IsOrderOfUse-rows_of}
use Rattle.cache_evict.specs.Managed.{fresh}
use Rattle.tier_model.specs.declared.state.Body.{Body}
use Rattle.tier_model.specs.Calls.{Call, History, opened_for}
use Rattle.tier_model.specs.Histories.{Kept, Opening, empty_opening, told_of, writes_begun, changes_of}
use Rattle.tier_model.specs.Rows.{Numbered, body_of}
use Rattle.tier_model.specs.Reports.{IsReport, report_of}
use Rattle.tier_model.specs.State.{Settings, Request, State, shards_of, empty_state}
use Rattle.tier_model.specs.Shelf.{Readers}
use Rattle.tier_model.specs.Step.{Allows}
use Rattle.tier_model.specs.After.{after}
use Rattle.tier_model.specs.Past.{in_shards, state_of, IsLawful, count_of, streamers, holders, IsRequestOf, MatchesHistory, HasPast, AreTaken, CarriesPast}
use Rattle.tier_model.proofs.RowSteps.{in_shards-are}
use Rattle.tier_model.proofs.ShownLaws.{is_held, shows}
use Rattle.tier_model.proofs.WriteLaws.{flies-of}
use Rattle.tier_model.proofs.GrantedLaws.{LocksFit-lawful}
use Rattle.tier_model.proofs.OwnedLaws.{Owned-lawful}
use Rattle.tier_model.proofs.OwnTurns.{OpenFits}
use Rattle.tier_model.proofs.LockLaws.{lock-is}
use Rattle.tier_model.proofs.ReaderLaws.{CountFits}
use Rattle.tier_model.proofs.ReadLaws.{ReadsFit, readable_is}
use Rattle.tier_model.proofs.HeldLaws.{all-held, sums}
use Rattle.tier_model.proofs.StandLaws.{Stands, opened_request, Stands-lawful}

-- there is a shard
start-some : (start : Opening) (h : History) (s : State) → Stands start s h → 0 < start.settings.shards
start-some start h s past = subst (λ (n : ℕ). 0 < n) past.made.shards past.holds.leaves.some

-- the state after a lawful history is what it says
IsRequestOf-fits : (start : Opening) (id : ℕ) (o : Option Request) (h : History) → OpenFits start id o h → ReadsFit start id o h
    → MatchOption o (opened_for id h ≡ None) (λ q. IsRequestOf start id q h)
IsRequestOf-fits start id None h fits reads = fits
IsRequestOf-fits start id (Some q) h fits reads = record { key = fits.0.key; entry = fits.0.entry; asks = fits.3; own = fits.1; wait = fits.2; seen = fits.0.seen; write = fits.0.write; reader = reads }

count_is : (n : ℕ) (o : Option Readers) (k : ℕ) (changes : Changes Kept) → CountFits n o k changes → count_of o ≡ k
count_is n None k changes fits = sym fits
count_is n (Some r) k changes fits = fits.0

some_count : (n : ℕ) (r : Readers) (k : ℕ) (changes : Changes Kept) → CountFits n (Some r) k changes → 0 < r.count
some_count n r k changes fits = subst (λ (c : ℕ). 0 < c) (sym fits.0) fits.1

MatchesHistory-lawful : (start : Opening) (s : State) (h : History) → IsLawful start h → s ≡ state_of start h → Stands start s h → MatchesHistory s start h
MatchesHistory-lawful start s h l is past = record {
  bodies = all-held (shards_of s) (writes_begun start h) s.shelf.bodies s.shelf.flying s.managed (changes_of start h) past.holds.leaves;
  flights = past.holds.leaves.flights;
  order = (start-some start h s past, (rows_of (changes_of start h), IsOrderOfUse-rows_of (changes_of start h), subst (λ (n : ℕ). AreShardsOf n s.managed.shards (rows_of (changes_of start h))) past.made.shards past.holds.leaves.rows));
  held = record { fly = flies-of start h past.writes; owned = Owned-lawful start h l; apart = past.writes.apart };
  requests = λ id. IsRequestOf-fits start id (get s.requests id) h (past.opens id) (past.reads id);
  counted = λ n. count_is n (get s.shelf.readers n) (streamers n s.requests) (changes_of start h) (past.counted n);
  kept = λ n r e. some_count n r (streamers n s.requests) (changes_of start h) (subst (λ (o : Option Readers). CountFits n o (streamers n s.requests) (changes_of start h)) e (past.counted n));
  reading = λ id n place q e is. readable_is start s h past.holds past.count (opened_request start s h past) past.counted id q n place e is;
  lock = ap (λ (x : State). x.lock) is ∙ lock-is start h;
  named = λ n. (LocksFit-lawful start h l).granted.grants.names n ∙ ap (λ (x : State). holders n x.requests) (sym is);
  found = past.tallies.found;
  absent = past.tallies.absent;
  evicted = past.tallies.evicted;
  writes = past.count;
}

-- a lawful history is a past of the state after it
pub HasPast-lawful : (start : Opening) (s : State) (h : History) → IsLawful start h → s ≡ state_of start h → HasPast start s h
HasPast-lawful start s h l e =
    let past : Stands start (state_of start h) h = Stands-lawful start h l in
    record {
      lawful = l;
      state = e;
      matches = subst (λ (x : State). MatchesHistory x start h) (sym e) (MatchesHistory-lawful start (state_of start h) h l refl past);
    }

-- no rows in n shards
empty-shards : (n : ℕ) → in_shards n [] ≡ replicate n []
empty-shards n =
    let a = in_shards-are n [] in
    let b = AreShardsOf-none n in
    ext_get_or [] (in_shards n []) (replicate n []) (a.count ∙ sym b.count) (λ i h. let inside : i < n = subst (λ (m : ℕ). i < m) a.count h in a.each i inside ∙ sym (b.each i inside))

pub empty-past : (settings : Settings) → 0 < settings.shards → HasPast (empty_opening settings) (empty_state settings) []
empty-past settings pos =
    HasPast-lawful (empty_opening settings) (empty_state settings) [] (pos, tt)
    (ap (λ (l : List (List Tracked)). record (empty_state settings) { managed = record (fresh settings.shards settings.limit settings.watermark) { shards = l } }) (sym (empty-shards settings.shards)))

pub more_past : (start : Opening) (old : State) (past : History) (c : Call) (new : State) → Allows old c → new ≡ after old c → HasPast start old past → HasPast start new (c ∷ past)
more_past start old past c new allowed is h =
    HasPast-lawful start new (c ∷ past) (subst (λ (s : State). Allows s c) h.state allowed, h.lawful) (is ∙ ap (λ (s : State). after s c) h.state)

-- calls that were taken carry each past on
pub CarriesPast-taken : (old : State) (calls : List Call) (new : State) → AreTaken old calls new → CarriesPast old calls new
CarriesPast-taken old [] new taken start past h = subst (λ (s : State). HasPast start s past) (sym taken) h
CarriesPast-taken old (c ∷ calls) new taken start past h = CarriesPast-taken (after old c) calls new taken.1 start (c ∷ past) (more_past start old past c (after old c) taken.0 refl h)

-- the report of a state that a history says is the history's
pub IsReport-matches : (s : State) (start : Opening) (h : History) → MatchesHistory s start h → IsReport (report_of s) start h
IsReport-matches s start h m =
    let same = sums (λ b. length b.bytes) (changes_of start h) (entries s.shelf.bodies) m.bodies.0 m.bodies.2 in
    let bytes : sum_by (λ (x : Numbered). length x.body.bytes) (map (λ e. e.1) (entries s.shelf.bodies)) ≡ sum_by (λ (w : Write Kept). length (bytes_of w.number (changes_of start h))) m.bodies.0 = same.0 in
    let metas : sum_by (λ (x : Numbered). meta_length x.body.meta) (map (λ e. e.1) (entries s.shelf.bodies)) ≡ sum_by (λ (w : Write Kept). meta_length (meta_of w (changes_of start h)).meta) m.bodies.0 =
    (sums (λ b. meta_length b.meta) (changes_of start h) (entries s.shelf.bodies) m.bodies.0 m.bodies.2).0 in
    let outside : sum_by (λ (x : Numbered). x.body.meta.external) (map (λ e. e.1) (entries s.shelf.bodies)) ≡ sum_by (λ (w : Write Kept). (meta_of w (changes_of start h)).meta.external) m.bodies.0 =
    (sums (λ b. b.meta.external) (changes_of start h) (entries s.shelf.bodies) m.bodies.0 m.bodies.2).0 in
    record {
      found = m.found;
      absent = m.absent;
      evicted = m.evicted;
      bodies = (m.bodies.0, m.bodies.1, len-entries s.shelf.bodies ∙ same.1, omega (arith, bytes), omega (arith, metas), omega (arith, outside));
      tracked = (
        m.order.1.0,
        m.order.1.1,
        length-shards start.settings.shards s.managed.shards m.order.1.0 m.order.0 m.order.1.2,
        weights-shards start.settings.shards s.managed.shards m.order.1.0 m.order.0 m.order.1.2,
      );
    }

-- what a state is to a past of it
pub stands-past : (start : Opening) (s : State) (h : History) → HasPast start s h → Stands start s h
stands-past start s h p = subst (λ (x : State). Stands start x h) (sym p.state) (Stands-lawful start h p.lawful)

-- each body of a past is held, with its bytes and its meta
pub held-past : (start : Opening) (s : State) (h : History) → HasPast start s h → (k : StoredKey) (w : Write Kept) → IsBody k w (changes_of start h)
    → (b : Body) × (body_of k s.shelf.bodies ≡ Some b) × (b ≡ told_of (changes_of start h) w)
held-past start s h p k w i =
    let x = is_held (shards_of s) (writes_begun start h) s.shelf.bodies s.shelf.flying s.managed (changes_of start h) (stands-past start s h p).holds.leaves k w i in
    (x.0.body, ap (option_map (λ (y : Numbered). y.body)) x.1, ap (λ (y : Numbered). y.body) x.2)

-- and what is held is one
held_with : (o : Option Numbered) (b : Body) → option_map (λ x. x.body) o ≡ Some b → (x : Numbered) × (o ≡ Some x)
held_with None b e = absurd cc
held_with (Some x) b e = (x, refl)

pub body-past : (start : Opening) (s : State) (h : History) → HasPast start s h → (k : StoredKey) (b : Body) → body_of k s.shelf.bodies ≡ Some b → (w : Write Kept) × IsBody k w (changes_of start h)
body-past start s h p k b e =
    let y = held_with (get s.shelf.bodies k) b e in
    let x = shows (shards_of s) (writes_begun start h) s.shelf.bodies s.shelf.flying s.managed (changes_of start h) (stands-past start s h p).holds.leaves k y.0 y.1 in
    (x.write, x.body)
