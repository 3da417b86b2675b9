-- A body that gets another meta, its entry weighed anew: what that leaves is what a tier's state holds.
use Rattle.std.proofs.Common.{◌≡◌, ℕ, ◌+◌, ◌≤◌, refl, ap, sym, ◌∙◌, true, false, subst, cond, [], ◌∷◌, length, inr}
use Rattle.std.specs.Prelude.{Bool, List, Option, Some, None, option_map, is_some, map, find, ◌==◌}
use Rattle.std.specs.FinMap.{get}
use Rattle.std.proofs.Math.Nat.{le-max_right}
use Rattle.std.proofs.lemmas.Bool.{eqb-true}
use Rattle.cache_heads.specs.Meta.{meta_weight}
use Rattle.cache_heads.specs.declared.meta.CacheMeta.{CacheMeta}
use Rattle.cache_entries.specs.declared.entry.CacheEntryKey.{CacheEntryKey}
use Rattle.cache_entries.specs.Keys.{same_bytes}
use Rattle.cache_entries.specs.SameEntry.{same_bytes-tells}
use Rattle.cache_changes.specs.Changes.{StoredKey, stored_key, Write, Changes, renews, reweighs}
use Rattle.cache_changes.specs.Writes.{bytes_of, meta_of, IsOrderly, IsBody, body_now}
use Rattle.cache_changes.specs.Store.{Flying, store_of, stored_of, body_at, flying_at, renewed_flying, has_number as held_number}
use Rattle.cache_changes.specs.Bound.{measure_of, AreWithin}
use Rattle.cache_changes.specs.Uses.{rows_of}
use Rattle.cache_changes.proofs.BodyLaws.{body_now-is, body_now-of, body_at-is, stored_in, not_appended}
use Rattle.cache_changes.proofs.BoundLaws.{bodies-within}
use Rattle.cache_changes.proofs.ManyShards.{AreShardsOf-after}
use Rattle.cache_changes.proofs.MayLaws.{flies-is}
use Rattle.cache_changes.proofs.UseLaws.{IsOrderOfUse-rows_of}
use Rattle.cache_changes.proofs.WriteLaws.{same_number, alive_began}
use Rattle.cache_evict.specs.Managed.{Managed, weighed_anew, taken_out}
use Rattle.tier_model.specs.Keys.{Entry, alone}
use Rattle.tier_model.specs.Calls.{extended}
use Rattle.tier_model.specs.Evictions.{all_gone, GoInTurn}
use Rattle.tier_model.specs.Histories.{Kept, counts, goes, clears}
use Rattle.tier_model.specs.Rows.{Numbered, Bodies, with_meta, with_meta_in, without_body, without_bodies, weight_for}
use Rattle.tier_model.specs.Shelf.{InFlight, marked, marked_all}
use Rattle.tier_model.specs.Past.{plain}
use Rattle.tier_model.proofs.BodyLaws.{held-inserted, view, AreSame}
use Rattle.tier_model.proofs.RowSteps.{over-rows}
use Rattle.tier_model.proofs.ChangeLaws.{Leaves, unbound, leaves-gone, leaves-cleared}
use Rattle.tier_model.proofs.ShownLaws.{is_held}
use Rattle.tier_model.proofs.SeenLaws.{one_begun}
use Rattle.tier_model.proofs.BoundLaws.{Keeps, ChangesKey, ends-over, gone-limit, within_fewer, fewer_back}

-- no write in flight has that number
unflown : (n : ℕ) (meta : Kept) (fs : List (Flying Kept)) → find (held_number n) fs ≡ None → map (renewed_flying n meta) fs ≡ fs
unflown n meta [] none = refl
unflown n meta (f ∷ fs) none = by_test (unflown n meta fs) (held_number n f) refl none
  where
    by_test : (find (held_number n) fs ≡ None → map (renewed_flying n meta) fs ≡ fs) → (v : Bool) → held_number n f ≡ v → cond v (Some f) (find (held_number n) fs) ≡ None
        → map (renewed_flying n meta) (f ∷ fs) ≡ f ∷ fs
    by_test ih true e none = absurd cc
    by_test ih false e none =
        ap (λ v. record f { stored = cond v (record f.stored { meta = meta }) f.stored } ∷ map (renewed_flying n meta) fs) e
        ∙ ap (λ (l : List (Flying Kept)). f ∷ l) (ih none)

module _ (N n : ℕ) (e : Entry) (w : Write Kept) (meta : CacheMeta) (bodies : Bodies) (fs : List InFlight) (m : Managed) (changes : Changes Kept) (orderly : IsOrderly changes)
    (is : IsBody (stored_key e) w changes) where
  -- the meta with its entry, and what the body weighs with it
  abbrev pub new_meta : Kept
  new_meta = record { entry = alone e; meta = meta }

  abbrev pub new_weight : ℕ
  new_weight = weight_for (record { bytes = bytes_of w.number changes; meta = meta })

  abbrev renewed : Changes Kept
  renewed = renews w.number new_meta ∷ changes

  abbrev pub after_renewal : Changes Kept
  after_renewal = reweighs (alone e) new_weight ∷ renewed

  abbrev pub weighed : Managed
  weighed = weighed_anew N (alone e) new_weight m

  key : w.key ≡ stored_key e
  key = same_bytes-tells.equal w.key (stored_key e) is.of_key

  pub itself_body : IsBody w.key w changes
  itself_body = subst (λ (j : StoredKey). IsBody j w changes) (sym key) is

  -- the number is that of no other body
  same_body : (j : StoredKey) (v : Write Kept) → IsBody j v changes → (w.number == v.number) ≡ true → w ≡ v
  same_body j v b t = one_begun w v changes orderly (alive_began w changes is.alive) (alive_began v changes b.alive) (eqb-true w.number v.number t)

  other_number : (j : StoredKey) (v : Write Kept) → body_now j changes ≡ Some v → same_bytes (stored_key e) j ≡ false → (w.number == v.number) ≡ false
  other_number j v there apart = by_test (w.number == v.number) refl
    where
      by_test : (t : Bool) → (w.number == v.number) ≡ t → t ≡ false
      by_test false t = refl
      by_test true t =
          let b = body_now-is j changes v orderly there in
          let one = same_body j v b t in
          let same : same_bytes (stored_key e) j ≡ true =
          subst (λ (i : StoredKey). same_bytes i j ≡ true) key (subst (λ (u : Write Kept). same_bytes u.key j ≡ true) (sym one) b.of_key) in
          absurd cc

  renewed_orderly : IsOrderly renewed
  renewed_orderly = (inr (w, refl, itself_body), orderly)

  not_flying : flying_at w.number (store_of changes) ≡ None
  not_flying = by_flight (flying_at w.number (store_of changes)) refl
    where
      by_flight : (o : Option (Flying Kept)) → flying_at w.number (store_of changes) ≡ o → o ≡ None
      by_flight None f = refl
      by_flight (Some x) f =
          let flies = (flies-is changes orderly w.number).0 (ap is_some f) in
          let apart : (w.number == w.number) ≡ false = not_appended (stored_key e) w.number changes orderly flies w (body_now-of (stored_key e) changes w orderly is) in
          let same : (w.number == w.number) ≡ true = same_number w.number in
          absurd cc

  -- what is stored of other bodies stays
  stored_other : (j : StoredKey) → same_bytes (stored_key e) j ≡ false → (o : Option (Write Kept)) → body_now j changes ≡ o → stored_in renewed o ≡ stored_in changes o
  stored_other j apart None there = refl
  stored_other j apart (Some v) there =
      ap (λ t. Some (record { write = v; meta = cond t new_meta (meta_of v changes); bytes = bytes_of v.number changes })) (other_number j v there apart)

  module _ (l : Leaves N n bodies fs m changes) where
    abbrev body_then : Numbered
    body_then = record { number = w.number; body = record { bytes = bytes_of w.number changes; meta = meta } }

    held : with_meta (stored_key e) meta bodies ≡ with_meta_in (Some (view (stored_of w changes))) (stored_key e) meta bodies
    held =
        let x = is_held N n bodies fs m changes l (stored_key e) w is in
        ap (λ (o : Option Numbered). with_meta_in o (stored_key e) meta bodies) (x.1 ∙ ap (λ (y : Numbered). Some y) x.2)

    bodies_then : (j : StoredKey) → AreSame (get (with_meta (stored_key e) meta bodies) j) (body_at j (store_of renewed))
    bodies_then j =
        ap (λ (b : Bodies). get b j) held ∙ held-inserted j (stored_key e) body_then bodies ∙ by_key (same_bytes (stored_key e) j) refl
        ∙ sym (ap (option_map view) (body_at-is j renewed renewed_orderly))
      where
        by_key : (v : Bool) → same_bytes (stored_key e) j ≡ v → cond v (Some body_then) (get bodies j) ≡ option_map view (stored_in renewed (body_now j changes))
        by_key true t =
            let one : stored_key e ≡ j = same_bytes-tells.equal (stored_key e) j t in
            let there : body_now j changes ≡ Some w = subst (λ (i : StoredKey). body_now i changes ≡ Some w) one (body_now-of (stored_key e) changes w orderly is) in
            sym (ap (λ (o : Option (Write Kept)). option_map view (stored_in renewed o)) there
            ∙ ap (λ v. Some (record { number = w.number; body = record { bytes = bytes_of w.number changes; meta = (cond v new_meta (meta_of w changes)).meta } })) (same_number w.number))
        by_key false t =
            l.bodies j ∙ ap (option_map view) (body_at-is j changes orderly) ∙ sym (ap (option_map view) (stored_other j t (body_now j changes) refl))

    enough : (v : Write Kept) → same_bytes (stored_key e) v.key ≡ true → IsBody v.key v renewed → measure_of counts v renewed ≤ new_weight
    enough v t i =
        let one : stored_key e ≡ v.key = same_bytes-tells.equal (stored_key e) v.key t in
        let here : body_now v.key changes ≡ Some v = body_now-of v.key renewed v renewed_orderly i in
        let there : body_now v.key changes ≡ Some w = subst (λ (j : StoredKey). body_now j changes ≡ Some w) one (body_now-of (stored_key e) changes w orderly is) in
        let same : w ≡ v = cc in
        subst (λ (u : Write Kept). measure_of counts u renewed ≤ new_weight) same
        (subst (λ (b : Bool). length (bytes_of w.number changes) + counts (cond b new_meta (meta_of w changes)) ≤ new_weight) (sym (same_number w.number))
        (le-max_right 1 (length (bytes_of w.number changes) + meta_weight meta)))

    pub leaves-renewed : Leaves N n (with_meta (stored_key e) meta bodies) fs weighed after_renewal
    leaves-renewed = record {
      orderly = (tt, renewed_orderly);
      below = (tt, (tt, l.below));
      flights = l.flights ∙ sym (ap (map plain) (unflown w.number new_meta (store_of changes).flying not_flying));
      bodies = bodies_then;
      some = l.some;
      rows = AreShardsOf-after {M = Kept} N (reweighs (alone e) new_weight) (alone e) m.shards (rows_of changes) l.some refl l.rows;
      lawful = l.lawful;
      tracks = (
        λ v t i. subst (λ (j : StoredKey). same_bytes (stored_key e) j ≡ true) (sym key ∙ ap (λ (u : Write Kept). u.key) (same_body v.key v i t)) (same_bytes-tells.itself (stored_key e)),
        enough,
        (unbound (renews w.number new_meta) changes l.settled, tt, l.tracks),
      );
      settled = refl;
    }

    -- and those went that made room
    pub leaves-made_room : (over : Bool) (es : List CacheEntryKey) → GoInTurn N over es weighed
        → Leaves N n (without_bodies es (with_meta (stored_key e) meta bodies)) (marked_all es fs) (all_gone N es weighed) (extended after_renewal (goes es))
    leaves-made_room over es h = leaves-gone N n over es (with_meta (stored_key e) meta bodies) fs weighed after_renewal h leaves-renewed

  -- only the body of that key counts otherwise
  renewal_changes_key : ChangesKey (stored_key e) changes after_renewal
  renewal_changes_key j v apart there =
      (there, ap (λ t. length (bytes_of v.number changes) + counts (cond t new_meta (meta_of v changes))) (other_number j v there apart))

  module _ (k : Keeps N n bodies fs m changes) where
    pub keeps-renewed : (es : List CacheEntryKey) → GoInTurn N false es weighed
        → Keeps N n (without_bodies es (with_meta (stored_key e) meta bodies)) (marked_all es fs) (all_gone N es weighed) (extended after_renewal (goes es))
    keeps-renewed es h =
        let last : Changes Kept = extended after_renewal (goes es) in
        let left : Managed = all_gone N es weighed in
        let after = leaves-made_room k.leaves false es h in
        record {
          leaves = after;
          within = bodies-within counts last after.orderly after.tracks after.settled left.limit left.watermark (rows_of last) (IsOrderOfUse-rows_of last)
              (over-rows N left (rows_of last) after.some after.rows ∙ ends-over N false es weighed h);
        }

    -- a body that was renewed is taken back with its entry
    pub keeps-undone : (over : Bool) (es : List CacheEntryKey) → GoInTurn N over es weighed
        → Keeps N n (without_body (stored_key e) (without_bodies es (with_meta (stored_key e) meta bodies))) (map (marked (Some (stored_key e))) (marked_all es fs))
        (taken_out N (alone e) (all_gone N es weighed)) (extended (extended after_renewal (goes es)) (clears e))
    keeps-undone over es h =
        let last : Changes Kept = extended (extended after_renewal (goes es)) (clears e) in
        let after = leaves-cleared N n e (without_bodies es (with_meta (stored_key e) meta bodies)) (marked_all es fs) (all_gone N es weighed) (extended after_renewal (goes es))
        (leaves-made_room k.leaves over es h) in
        let fewer = within_fewer m.limit m.watermark changes last orderly after.orderly (fewer_back e changes after_renewal renewal_changes_key es) k.within in
        let limits = gone-limit N es weighed in
        record {
          leaves = after;
          within = subst (λ (x : ℕ). AreWithin counts x (all_gone N es weighed).watermark last) (sym limits.0) (subst (λ (x : Option ℕ). AreWithin counts m.limit x last) (sym limits.1) fewer);
        }
