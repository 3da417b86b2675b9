-- The bodies keep both limits: after a put since they are tracked and the rows keep them, and no other call makes more.
use Rattle.std.proofs.Common.{◌≡◌, ℕ, ◌+◌, ◌≤◌, refl, ap, sym, ◌∙◌, true, false, subst, cond, [], ◌∷◌, ◌++◌, length}
use Rattle.std.specs.Prelude.{Bool, List, Option, Some, None, ◌==◌, filter, map, not}
use Rattle.std.specs.List.{AllByRecursion, sum_by}
use Rattle.std.proofs.lemmas.List.Sums.{sum_by-cons}
use Rattle.cache_entries.specs.Keys.{same_bytes}
use Rattle.cache_changes.specs.Changes.{StoredKey, stored_key, key_alone, is_key, Write, Changes, begins, appends, ends, finishes, leaves, removes, departs, uses, evicts}
use Rattle.cache_changes.specs.Writes.{bytes_of, has_ended, meta_of, IsOrderly, IsInFlight, IsAlive, IsBody, body_now, body_chosen}
use Rattle.cache_changes.specs.Bound.{measure_of, AreWithin}
use Rattle.cache_changes.proofs.BodyLaws.{body_now-is, body_now-of, not_appended}
use Rattle.cache_changes.proofs.BoundLaws.{bodies-within}
use Rattle.cache_changes.proofs.WriteLaws.{above_apart, alive_began, began_below}
use Rattle.cache_entries.specs.declared.entry.CacheEntryKey.{CacheEntryKey}
use Rattle.cache_changes.specs.Uses.{rows_of}
use Rattle.cache_changes.proofs.UseLaws.{IsOrderOfUse-rows_of}
use Rattle.cache_evict.specs.Managed.{Managed, is_over, put_first, use_first, taken_out}
use Rattle.tier_model.specs.Keys.{Entry, alone}
use Rattle.tier_model.specs.Calls.{extended}
use Rattle.tier_model.specs.Evictions.{gone, all_gone, GoInTurn}
use Rattle.tier_model.specs.Histories.{Kept, counts, write_of, goes, settles, stores, clears}
use Rattle.tier_model.specs.Shelf.{InFlight, has_number, on_flying, marked, marked_all}
use Rattle.tier_model.specs.Rows.{Bodies, FinishedBody, with_body, without_body, without_bodies, weight_for}
use Rattle.tier_model.proofs.RowSteps.{over-rows}
use Rattle.tier_model.proofs.ChangeLaws.{Leaves, more_bytes, no_more, leaves-later, leaves-used, leaves-cleared, leaves-gone}
use Rattle.tier_model.proofs.WrittenLaws.{leaves-begun, leaves-appended, leaves-ended, leaves-left, leaves-withdrawn, leaves-back}

-- what the changes leave, with bodies that keep both limits
pub record Keeps (N n : ℕ) (held : Bodies) (fs : List InFlight) (m : Managed) (changes : Changes Kept) : Type 0 where
  pub leaves : Leaves N n held fs m changes
  pub within : AreWithin counts m.limit m.watermark changes

-- each body after some changes was one before, and counts the same
abbrev pub AreFewer : Changes Kept → Changes Kept → Type 0
AreFewer old new = (k : StoredKey) (w : Write Kept) → body_now k new ≡ Some w → (body_now k old ≡ Some w) × (measure_of counts w new ≡ measure_of counts w old)

module _ (limit : ℕ) (mark : Option ℕ) (old new : Changes Kept) (o : IsOrderly old) (p : IsOrderly new) (fewer : AreFewer old new) where
  bodies_before : (ws : List (Write Kept)) → AllByRecursion (λ w. IsBody w.key w new) ws
      → AllByRecursion (λ w. IsBody w.key w old) ws × (sum_by (λ w. measure_of counts w new) ws ≡ sum_by (λ w. measure_of counts w old) ws)
  bodies_before [] all = (tt, refl)
  bodies_before (w ∷ ws) all =
      let was = fewer w.key w (body_now-of w.key new w p all.0) in
      let rest = bodies_before ws all.1 in (
        (body_now-is w.key old w o was.0, rest.0),
        sum_by-cons (λ (x : Write Kept). measure_of counts x new) w ws
            ∙ ap (λ (n : ℕ). n + sum_by (λ x. measure_of counts x new) ws) was.1 ∙ ap (λ m. measure_of counts w old + m) rest.1
            ∙ sym (sum_by-cons (λ (x : Write Kept). measure_of counts x old) w ws),
      )

  pub within_fewer : AreWithin counts limit mark old → AreWithin counts limit mark new
  within_fewer h ws d all =
      let was = bodies_before ws all in
      let kept = h ws d was.0 in
      (subst (λ m. m ≤ limit) (sym was.1) kept.0, kept.1)

not_removed : (v : Bool) (o : Option (Write Kept)) (w : Write Kept) → body_chosen v None o ≡ Some w → o ≡ Some w
not_removed true o w e = absurd cc
not_removed false o w e = e

fewer_gone : (es : List CacheEntryKey) (changes : Changes Kept) → AreFewer changes (extended changes (goes es))
fewer_gone [] changes k w e = (e, refl)
fewer_gone (x ∷ es) changes k w e =
    let rest = fewer_gone es (evicts x ∷ changes) k w e in
    (not_removed (is_key k (key_alone x)) (body_now k changes) w rest.0, rest.1)

-- how evictions in turn end
pub ends-over : (N : ℕ) (over : Bool) (es : List CacheEntryKey) (m : Managed) → GoInTurn N over es m → is_over (all_gone N es m) ≡ over
ends-over N over [] m h = h
ends-over N over (e ∷ es) m h = ends-over N over es (gone N e m) h.2

-- the limits stay
pub gone-limit : (N : ℕ) (es : List CacheEntryKey) (m : Managed) → ((all_gone N es m).limit ≡ m.limit) × ((all_gone N es m).watermark ≡ m.watermark)
gone-limit N [] m = (refl, refl)
gone-limit N (e ∷ es) m = gone-limit N es (gone N e m)

-- a body is finished after some changes, and the other keys have what they had
abbrev pub ChangesKey : StoredKey → Changes Kept → Changes Kept → Type 0
ChangesKey j old new = (k : StoredKey) (w : Write Kept) → same_bytes j k ≡ false → body_now k new ≡ Some w → (body_now k old ≡ Some w) × (measure_of counts w new ≡ measure_of counts w old)

-- an entry's key that was changed alone, and is removed after evictions
pub fewer_back : (e : Entry) (old now : Changes Kept) → ChangesKey (stored_key e) old now → (es : List CacheEntryKey) → AreFewer old (extended (extended now (goes es)) (clears e))
fewer_back e old now other es k w is = by_key (same_bytes (stored_key e) k) refl is
  where
    by_key : (v : Bool) → same_bytes (stored_key e) k ≡ v → body_chosen v None (body_now k (extended now (goes es))) ≡ Some w
        → (body_now k old ≡ Some w) × (measure_of counts w (extended now (goes es)) ≡ measure_of counts w old)
    by_key true t is = absurd cc
    by_key false t is =
        let left = fewer_gone es now k w is in
        let was = other k w t left.0 in
        (was.0, left.1 ∙ was.1)

module _ (N n : ℕ) (bodies : Bodies) (fs : List InFlight) (m : Managed) (changes : Changes Kept) (l : Keeps N n bodies fs m changes) where
  pub keeps-later : (k : ℕ) → n ≤ k → Keeps N k bodies fs m changes
  keeps-later k h = record { leaves = leaves-later N n k bodies fs m changes h l.leaves; within = l.within }

  pub keeps-used : (e : CacheEntryKey) (w : ℕ) → Keeps N n bodies fs (use_first N e w m) (uses e w ∷ changes)
  keeps-used e w =
      let after = leaves-used N n e w bodies fs m changes l.leaves in
      record { leaves = after; within = within_fewer m.limit m.watermark changes (uses e w ∷ changes) l.leaves.orderly after.orderly (λ k w t. (t, refl)) l.within }

  pub keeps-cleared : (e : Entry) → Keeps N n (without_body (stored_key e) bodies) (map (marked (Some (stored_key e))) fs) (taken_out N (alone e) m) (extended changes (clears e))
  keeps-cleared e =
      let after = leaves-cleared N n e bodies fs m changes l.leaves in
      record {
        leaves = after;
        within = within_fewer m.limit m.watermark changes (extended changes (clears e)) l.leaves.orderly after.orderly
            (λ k w t. (not_removed (same_bytes (stored_key e) k) (body_now k changes) w t, refl)) l.within;
      }

  pub keeps-begun : (k : StoredKey) (meta : Kept)
      → Keeps N (n + 1) bodies (fs ++ record { number = n; key = k; meta = meta.meta; bytes = []; ended = false; removed = false } ∷ []) m (begins (record { number = n; key = k; meta = meta }) ∷ changes)
  keeps-begun k meta =
      let after = leaves-begun N n k meta bodies fs m changes l.leaves in
      record { leaves = after; within = within_fewer m.limit m.watermark changes (begins (record { number = n; key = k; meta = meta }) ∷ changes) l.leaves.orderly after.orderly (λ k w t. (t, refl)) l.within }

  module _ (w : Write Kept) (flies : IsInFlight w changes) where
    -- its bytes are those of no body
    apart_bytes : (bytes : List ℕ) (k : StoredKey) (v : Write Kept) → body_now k changes ≡ Some v → measure_of counts v (appends w.number bytes ∷ changes) ≡ measure_of counts v changes
    apart_bytes bytes k v e = ap (λ t. length (cond t (bytes_of v.number changes ++ bytes) (bytes_of v.number changes)) + counts (meta_of v changes)) (not_appended k w.number changes l.leaves.orderly (w, refl, flies) v e)

    pub keeps-appended : (bytes : List ℕ) → has_ended w.number changes ≡ false → Keeps N n bodies (on_flying w.number (more_bytes bytes) fs) m (appends w.number bytes ∷ changes)
    keeps-appended bytes more =
        let after = leaves-appended N n w bytes bodies fs m changes flies more l.leaves in
        record {
          leaves = after;
          within = within_fewer m.limit m.watermark changes (appends w.number bytes ∷ changes) l.leaves.orderly after.orderly (λ k v t. (t, apart_bytes bytes k v t)) l.within;
        }

    pub keeps-ended : Keeps N n bodies (on_flying w.number no_more fs) m (ends w.number ∷ changes)
    keeps-ended =
        let after = leaves-ended N n w bodies fs m changes flies l.leaves in
        record { leaves = after; within = within_fewer m.limit m.watermark changes (ends w.number ∷ changes) l.leaves.orderly after.orderly (λ k w t. (t, refl)) l.within }

    pub keeps-left : Keeps N n bodies (filter (λ f. not (has_number w.number f)) fs) m (leaves w.number ∷ changes)
    keeps-left =
        let after = leaves-left N n w bodies fs m changes flies l.leaves in
        record { leaves = after; within = within_fewer m.limit m.watermark changes (leaves w.number ∷ changes) l.leaves.orderly after.orderly (λ k w t. (t, refl)) l.within }

  -- a write is finished, and its key removed at once
  pub keeps-withdrawn : (w : Write Kept) → IsInFlight w changes → IsAlive w changes → (e : Entry) → w.key ≡ stored_key e
      → Keeps N n (without_body (stored_key e) bodies) (map (marked (Some (stored_key e))) (filter (λ f. not (has_number w.number f)) fs)) (taken_out N (alone e) m)
      (departs (alone e) ∷ removes (stored_key e) ∷ finishes w ∷ changes)
  keeps-withdrawn w flies alive e key =
      let now : Changes Kept = departs (alone e) ∷ removes (stored_key e) ∷ finishes w ∷ changes in
      let after = leaves-withdrawn N n w e bodies fs m changes flies alive key l.leaves in
      record { leaves = after; within = within_fewer m.limit m.watermark changes now l.leaves.orderly after.orderly fewer l.within }
    where
      fewer : AreFewer changes (departs (alone e) ∷ removes (stored_key e) ∷ finishes w ∷ changes)
      fewer k v is = by_key (same_bytes (stored_key e) k) refl is
        where
          by_key : (u : Bool) → same_bytes (stored_key e) k ≡ u → body_chosen u None (body_now k (finishes w ∷ changes)) ≡ Some v
              → (body_now k changes ≡ Some v) × (measure_of counts v changes ≡ measure_of counts v changes)
          by_key true t is = absurd cc
          by_key false t is = (ap (λ u. body_chosen false (cond u (Some w) None) (body_now k changes)) (sym (ap (λ (j : StoredKey). same_bytes j k) key ∙ t)) ∙ is, refl)

  abbrev pub admitted : FinishedBody → Managed
  admitted b = put_first N (alone b.entry) (weight_for b.body) m

  -- a body was finished and its entry admitted, by changes that leave the other keys
  module _ (i j : ℕ) (b : FinishedBody) (gs : List InFlight) (now : Changes Kept) (s : Leaves N i (with_body j b bodies) gs (admitted b) now) where
    -- and those went that made room for it
    pub leaves-room : (over : Bool) (es : List CacheEntryKey) → GoInTurn N over es (admitted b)
        → Leaves N i (without_bodies es (with_body j b bodies)) (marked_all es gs) (all_gone N es (admitted b)) (extended now (goes es))
    leaves-room over es h = leaves-gone N i over es (with_body j b bodies) gs (admitted b) now h s

    pub keeps-room : (es : List CacheEntryKey) → GoInTurn N false es (admitted b)
        → Keeps N i (without_bodies es (with_body j b bodies)) (marked_all es gs) (all_gone N es (admitted b)) (extended now (goes es))
    keeps-room es h = kept (leaves-room false es h)
      where
        kept : Leaves N i (without_bodies es (with_body j b bodies)) (marked_all es gs) (all_gone N es (admitted b)) (extended now (goes es))
            → Keeps N i (without_bodies es (with_body j b bodies)) (marked_all es gs) (all_gone N es (admitted b)) (extended now (goes es))
        kept after = record {
          leaves = after;
          within = bodies-within counts (extended now (goes es)) after.orderly after.tracks after.settled (all_gone N es (admitted b)).limit (all_gone N es (admitted b)).watermark
              (rows_of (extended now (goes es))) (IsOrderOfUse-rows_of (extended now (goes es)))
              (over-rows N (all_gone N es (admitted b)) (rows_of (extended now (goes es))) after.some after.rows ∙ ends-over N false es (admitted b) h);
        }

    -- and one that is taken back
    pub keeps-back : ChangesKey (stored_key b.entry) changes now → (over : Bool) (es : List CacheEntryKey) → GoInTurn N over es (admitted b)
        → Keeps N i (without_body (stored_key b.entry) (without_bodies es bodies)) (map (marked (Some (stored_key b.entry))) (marked_all es gs)) (taken_out N (alone b.entry) (all_gone N es (admitted b)))
        (extended (extended now (goes es)) (clears b.entry))
    keeps-back other over es h =
        let last : Changes Kept = extended (extended now (goes es)) (clears b.entry) in
        let after = leaves-back N i j b es bodies (marked_all es gs) (all_gone N es (admitted b)) (extended now (goes es)) (leaves-room over es h) in
        let fewer : AreWithin counts m.limit m.watermark last = within_fewer m.limit m.watermark changes last l.leaves.orderly after.orderly (fewer_back b.entry changes now other es) l.within in
        let limits = gone-limit N es (admitted b) in
        record {
          leaves = after;
          within = subst (λ (x : ℕ). AreWithin counts x (all_gone N es (admitted b)).watermark last) (sym limits.0) (subst (λ (x : Option ℕ). AreWithin counts m.limit x last) (sym limits.1) fewer);
        }

  -- a body that is written at once changes its key alone
  pub put_changes_key : (b : FinishedBody) → ChangesKey (stored_key b.entry) changes (extended changes (stores n b []))
  put_changes_key b k w t e =
      let there : body_now k changes ≡ Some w = ap (λ v. body_chosen false (cond v (Some (write_of n b)) None) (body_now k changes)) (sym t) ∙ e in
      let body = body_now-is k changes w l.leaves.orderly there in
      let other : (n == w.number) ≡ false = above_apart w.number n (began_below n w changes l.leaves.below (alive_began w changes body.alive)) in
      (there, ap (λ v. length (cond v (bytes_of w.number changes ++ b.body.bytes) (bytes_of w.number changes)) + counts (meta_of w changes)) other)

  -- and so does one that is finished
  pub finish_changes_key : (v : Write Kept) (e : Entry) → v.key ≡ stored_key e → (b : FinishedBody) → ChangesKey (stored_key e) changes (extended changes (finishes v ∷ settles b []))
  finish_changes_key v e key b k w t f =
      (ap (λ u. body_chosen false (cond u (Some v) None) (body_now k changes)) (sym (ap (λ (j : StoredKey). same_bytes j k) key ∙ t)) ∙ f, refl)
