-- What changes leave is what a tier's state holds: change by change.
use Rattle.std.proofs.Common.{◌≡◌, ℕ, ◌≤◌, ◌<◌, refl, ap, sym, ◌∙◌, true, cond, [], ◌∷◌}
use Rattle.std.specs.Prelude.{Bool, List, Option, Some, None, option_map, map, ◌++◌}
use Rattle.std.specs.List.{AllByRecursion}
use Rattle.std.specs.FinMap.{get}
use Rattle.cache_entries.specs.declared.entry.CacheEntryKey.{CacheEntryKey}
use Rattle.cache_entries.specs.Keys.{same_bytes}
use Rattle.cache_changes.specs.Changes.{StoredKey, stored_key, key_alone, is_key, Write, Change, Changes, begins, finishes, renews, removes, uses, departs, evicts}
use Rattle.cache_changes.specs.Writes.{BeginsBelow, IsOrderly, IsInFlight, IsBody}
use Rattle.cache_changes.specs.Store.{Flying, Store, store_of, removed_from, marked, body_at, stored_of}
use Rattle.cache_changes.specs.Bound.{SettlesAtOnce, TracksBodies, is_settled}
use Rattle.cache_changes.specs.Uses.{rows_of, EvictsLawfully, AreShardsOf}
use Rattle.cache_changes.proofs.FoundLaws.{store_of-is}
use Rattle.cache_changes.proofs.ManyShards.{AreShardsOf-after}
use Rattle.cache_changes.proofs.UseLaws.{IsOrderOfUse-rows_of}
use Rattle.cache_changes.proofs.WriteLaws.{all_begin_less}
use Rattle.cache_evict.specs.Managed.{Managed, is_over, use_first, taken_out}
use Rattle.cache_evict.specs.Managed as managed
use Rattle.tier_model.specs.Keys.{Entry, alone}
use Rattle.tier_model.specs.Calls.{extended}
use Rattle.tier_model.specs.Evictions.{gone, all_gone, GoInTurn}
use Rattle.tier_model.specs.Histories.{Kept, counts, goes, clears}
use Rattle.tier_model.specs.Shelf.{InFlight, marked as put_mark, marked_all}
use Rattle.tier_model.specs.Past.{plain}
use Rattle.tier_model.proofs.FlightLaws.{plain-marked}
use Rattle.tier_model.specs.Rows.{Bodies, without_body, without_key, without_bodies}
use Rattle.tier_model.proofs.BodyLaws.{held-without_key, body_at-without, view, AreSame, both_gone}
use Rattle.tier_model.proofs.RowSteps.{over-rows, last-rows}

abbrev pub more_bytes : List ℕ → InFlight → InFlight
more_bytes bytes f = record f { bytes = f.bytes ++ bytes }

abbrev pub no_more : InFlight → InFlight
no_more f = record f { ended = true }

-- after n writes the changes leave these bodies, these writes in flight and these N shards; what went went lawfully
pub record Leaves (N n : ℕ) (held : Bodies) (fs : List InFlight) (m : Managed) (changes : Changes Kept) : Type 0 where
  pub orderly : IsOrderly changes
  pub below : AllByRecursion (BeginsBelow n) changes
  pub flights : fs ≡ map plain (store_of changes).flying
  pub bodies : (k : StoredKey) → AreSame (get held k) (body_at k (store_of changes))
  pub some : 0 < N
  pub rows : AreShardsOf N m.shards (rows_of changes)
  pub lawful : EvictsLawfully N m.limit m.watermark changes
  pub tracks : TracksBodies counts changes
  pub settled : is_settled changes ≡ true

-- after what is settled anything may come
pub unbound : (c : Change Kept) (before : Changes Kept) → is_settled before ≡ true → SettlesAtOnce c before
unbound c [] e = tt
unbound c (finishes w ∷ before) e = absurd cc
unbound c (renews n meta ∷ before) e = absurd cc
unbound c (_ ∷ before) e = tt

-- a write that just began
pub just_began : (w : Write Kept) (before : Changes Kept) → IsInFlight w (begins w ∷ before)
just_began w before = record { since = []; before = before; split = refl; flies = tt }

-- what was removed has no body
pub no_body : (j : StoredKey) (w : Write Kept) (changes : Changes Kept) → IsOrderly (removes j ∷ changes) → same_bytes j w.key ≡ true → IsBody w.key w (removes j ∷ changes) → ⊥
no_body j w changes o t i =
    let there : body_at w.key (store_of (removes j ∷ changes)) ≡ Some (stored_of w (removes j ∷ changes)) = ((store_of-is (removes j ∷ changes) o).bodies w.key (stored_of w (removes j ∷ changes))).1 (i, refl) in
    let none : body_at w.key (store_of (removes j ∷ changes)) ≡ None = body_at-without w.key (Some j) (store_of changes).bodies ∙ ap (λ v. cond v None (body_at w.key (store_of changes))) t in
    absurd cc

module _ (N : ℕ) where
  pub leaves-later : (i n : ℕ) (bodies : Bodies) (fs : List InFlight) (m : Managed) (changes : Changes Kept) → i ≤ n → Leaves N i bodies fs m changes → Leaves N n bodies fs m changes
  leaves-later i n bodies fs m changes h l = record {
    orderly = l.orderly;
    below = all_begin_less i n changes h l.below;
    flights = l.flights;
    bodies = l.bodies;
    some = l.some;
    rows = l.rows;
    lawful = l.lawful;
    tracks = l.tracks;
    settled = l.settled;
  }

  -- other bodies that are the same
  pub leaves-same : (n : ℕ) (old new : Bodies) (fs : List InFlight) (m : Managed) (changes : Changes Kept) → ((k : StoredKey) → get new k ≡ get old k) → Leaves N n old fs m changes
      → Leaves N n new fs m changes
  leaves-same n old new fs m changes f l = record {
    orderly = l.orderly;
    below = l.below;
    flights = l.flights;
    bodies = λ k. f k ∙ l.bodies k;
    some = l.some;
    rows = l.rows;
    lawful = l.lawful;
    tracks = l.tracks;
    settled = l.settled;
  }

  without_same : (j : Option StoredKey) (bodies : Bodies) (s : Store Kept) → ((k : StoredKey) → AreSame (get bodies k) (body_at k s))
      → (k : StoredKey) → AreSame (get (without_key j bodies) k) (body_at k (removed_from j s))
  without_same j bodies s f k =
      held-without_key k j bodies ∙ both_gone (is_key k j) (get bodies k) (body_at k s) (f k) ∙ sym (ap (option_map view) (body_at-without k j s.bodies))

  pub marked_same : (k : Option StoredKey) (fs : List InFlight) (flying : List (Flying Kept)) → fs ≡ map plain flying → map (put_mark k) fs ≡ map plain (map (marked k) flying)
  marked_same k fs flying e = ap (map (put_mark k)) e ∙ sym (plain-marked k flying)

  pub leaves-removed : (n : ℕ) (j : StoredKey) (bodies : Bodies) (fs : List InFlight) (m : Managed) (changes : Changes Kept)
      → Leaves N n bodies fs m changes → Leaves N n (without_body j bodies) (map (put_mark (Some j)) fs) m (removes j ∷ changes)
  leaves-removed n j bodies fs m changes l = record {
    orderly = (tt, l.orderly);
    below = (tt, l.below);
    flights = marked_same (Some j) fs (store_of changes).flying l.flights;
    bodies = without_same (Some j) bodies (store_of changes) l.bodies;
    some = l.some;
    rows = l.rows;
    lawful = l.lawful;
    tracks = (unbound (removes j) changes l.settled, tt, l.tracks);
    settled = refl;
  }

  pub leaves-used : (n : ℕ) (e : CacheEntryKey) (w : ℕ) (bodies : Bodies) (fs : List InFlight) (m : Managed) (changes : Changes Kept)
      → Leaves N n bodies fs m changes → Leaves N n bodies fs (use_first N e w m) (uses e w ∷ changes)
  leaves-used n e w bodies fs m changes l = record {
    orderly = (tt, l.orderly);
    below = (tt, l.below);
    flights = l.flights;
    bodies = l.bodies;
    some = l.some;
    rows = AreShardsOf-after {M = Kept} N (uses e w) e m.shards (rows_of changes) l.some refl l.rows;
    lawful = l.lawful;
    tracks = (unbound (uses e w) changes l.settled, tt, l.tracks);
    settled = refl;
  }

  leaves-evicted : (n : ℕ) (e : CacheEntryKey) (bodies : Bodies) (fs : List InFlight) (m : Managed) (changes : Changes Kept) → is_over m ≡ true → managed.IsLast (managed.rows_of N e m) e
      → Leaves N n bodies fs m changes → Leaves N n (without_key (key_alone e) bodies) (map (put_mark (key_alone e)) fs) (gone N e m) (evicts e ∷ changes)
  leaves-evicted n e bodies fs m changes over last l = record {
    orderly = (tt, l.orderly);
    below = (tt, l.below);
    flights = marked_same (key_alone e) fs (store_of changes).flying l.flights;
    bodies = without_same (key_alone e) bodies (store_of changes) l.bodies;
    some = l.some;
    rows = AreShardsOf-after {M = Kept} N (evicts e) e m.shards (rows_of changes) l.some refl l.rows;
    lawful = (
      record { rows = rows_of changes; order = IsOrderOfUse-rows_of changes; over = over-rows N m (rows_of changes) l.some l.rows ∙ over; last = last-rows N e m (rows_of changes) l.some l.rows last },
      l.lawful,
    );
    tracks = (unbound (evicts e) changes l.settled, tt, l.tracks);
    settled = refl;
  }

  pub leaves-gone : (n : ℕ) (over : Bool) (es : List CacheEntryKey) (bodies : Bodies) (fs : List InFlight) (m : Managed) (changes : Changes Kept) → GoInTurn N over es m
      → Leaves N n bodies fs m changes → Leaves N n (without_bodies es bodies) (marked_all es fs) (all_gone N es m) (extended changes (goes es))
  leaves-gone n over [] bodies fs m changes h l = l
  leaves-gone n over (e ∷ es) bodies fs m changes h l =
      leaves-gone n over es (without_key (key_alone e) bodies) (map (put_mark (key_alone e)) fs) (gone N e m) (evicts e ∷ changes) h.2 (leaves-evicted n e bodies fs m changes h.0 h.1 l)

  pub leaves-cleared : (n : ℕ) (e : Entry) (bodies : Bodies) (fs : List InFlight) (m : Managed) (changes : Changes Kept)
      → Leaves N n bodies fs m changes → Leaves N n (without_body (stored_key e) bodies) (map (put_mark (Some (stored_key e))) fs) (taken_out N (alone e) m) (extended changes (clears e))
  leaves-cleared n e bodies fs m changes l = cleared_by (leaves-removed n (stored_key e) bodies fs m changes l)
    where
      cleared_by : Leaves N n (without_body (stored_key e) bodies) (map (put_mark (Some (stored_key e))) fs) m (removes (stored_key e) ∷ changes)
          → Leaves N n (without_body (stored_key e) bodies) (map (put_mark (Some (stored_key e))) fs) (taken_out N (alone e) m) (extended changes (clears e))
      cleared_by r = record {
        orderly = (tt, r.orderly);
        below = (tt, r.below);
        flights = r.flights;
        bodies = r.bodies;
        some = r.some;
        rows = AreShardsOf-after {M = Kept} N (departs (alone e)) (alone e) m.shards (rows_of changes) l.some refl l.rows;
        lawful = l.lawful;
        tracks = (tt, λ w t i. no_body (stored_key e) w changes r.orderly t i, r.tracks);
        settled = refl;
      }
