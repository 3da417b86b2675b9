-- Whether all of a write came, as a reader at a place is told.
use Rattle.std.proofs.Common.{◌≡◌, ℕ, refl, ap, sym, ◌∙◌, arith, true, false, cond, [], ◌∷◌}
use Rattle.std.specs.Prelude.{◌-◌, ◌<◌, ◌≤◌, Bool, List, length, drop, Option, Some, None, option_map, option_and_then}
use Rattle.std.specs.BTreeMap as tree
use Rattle.std.specs.BTreeMap.{BTreeMap}
use Rattle.std.specs.Ordering.{nat_cmp}
use Rattle.std.proofs.lemmas.List.{length-drop, drop_all}
use Rattle.cache_heads.specs.declared.meta.CacheMeta.{CacheMeta}
use Rattle.cache_changes.specs.Store.{Stored, Flying, empty_store}
use Rattle.store_memory.specs.declared.flight.Buffer.{Buffer}
use Rattle.store_memory.specs.declared.flight.Flight.{Flight}
use Rattle.store_memory.specs.declared.flight.Readers.{Readers}
use Rattle.cache_store.specs.StoreState.{Reading, StoreState}
use Rattle.cache_store.specs.Readers.{left_at, readable_of, past_place, reading_at, whole_of, is_at_end, whole_past}
use Rattle.store_memory.specs.Kept.{bytes_in, flights_of, reading_of, readings_of}
use Rattle.store_memory.proofs.HeldLaws.{held}
use Rattle.store_memory.proofs.SeenLaws.{Alive}
use Rattle.store_memory.proofs.FinishLaws.{seen-at, not-seen-at}
use Rattle.store_memory.proofs.ReadLaws.{reading-found}

-- something is past a place that is less than the length, and else nothing
past-some : (place : ℕ) (xs ys : List ℕ) (over : Bool) → drop place xs ≡ ys → place < length xs → is_at_end (ys, over) ≡ false
past-some place xs [] over is more =
    let left : length xs - place ≡ 0 = sym (length-drop place xs) ∙ ap length is in
    absurd (grind (arith, left, more))
past-some place xs (y ∷ ys) over is more = refl

past-none : (place : ℕ) (xs : List ℕ) (over : Bool) → length xs ≤ place → is_at_end (drop place xs, over) ≡ over
past-none place xs over none = ap (λ (l : List ℕ). is_at_end (l, over)) (drop_all place xs none)

-- more may come
past-on : (xs : List ℕ) (over : Bool) → over ≡ false → is_at_end (xs, over) ≡ false
past-on [] over e = e
past-on (x ∷ xs) over e = refl

-- what is told of a write in flight, if there is one, to its readers
abbrev told : ℕ → ℕ → List Reading → Option (Flying CacheMeta) → Option Bool
told n place rs o = cond (is_at_end (past_place place (readable_of o (left_at n rs)))) (Some (whole_of o (reading_at n rs))) None

module _ (alive : Alive) (n place next : ℕ) (f : Flight) (flights : BTreeMap ℕ Flight) (bodies : List (Stored CacheMeta)) (rs : List Reading) (e : tree.get nat_cmp flights n ≡ Some f) where
  flying-told : (v : Bool) → is_at_end (drop place f.pieces, f.ended) ≡ v → whole_past n place (held bodies (flights_of alive flights.entries) next rs) ≡ cond v (Some f.ended) None
  flying-told v end = ap (told n place rs) (seen-at alive n f flights e) ∙ ap (λ (u : Bool). cond u (Some f.ended) None) end

  pub flying-ended : f.ended ≡ true → length f.pieces ≤ place → whole_past n place (held bodies (flights_of alive flights.entries) next rs) ≡ Some true
  flying-ended over none = flying-told true (past-none place f.pieces f.ended none ∙ over) ∙ ap (λ (v : Bool). Some v) over

  pub flying-more : place < length f.pieces → whole_past n place (held bodies (flights_of alive flights.entries) next rs) ≡ None
  flying-more more = flying-told false (past-some place f.pieces (drop place f.pieces) f.ended refl more)

  pub flying-on : f.ended ≡ false → whole_past n place (held bodies (flights_of alive flights.entries) next rs) ≡ None
  flying-on on = flying-told false (past-on (drop place f.pieces) f.ended on)

-- of none in flight what its readers are left with tells
pub landed-told : (alive : Alive) (n place next : ℕ) (flights : BTreeMap ℕ Flight) (bodies : List (Stored CacheMeta)) (rs : List Reading) → tree.get nat_cmp flights n ≡ None
    → whole_past n place (held bodies (flights_of alive flights.entries) next rs) ≡ whole_past n place (record { store = empty_store; next = 0; readings = rs })
landed-told alive n place next flights bodies rs e = ap (told n place rs) (not-seen-at alive n flights e)

-- what the readers of a write that is in flight no more tell, if it has some
abbrev left_told : ℕ → Option Reading → Option Bool
left_told place o = cond (is_at_end (past_place place (readable_of None (option_and_then (λ (r : Reading). r.left) o)))) (Some (whole_of None o)) None

module _ (n place : ℕ) (readers : BTreeMap ℕ Readers) where
  abbrev landed : StoreState
  landed = record { store = empty_store; next = 0; readings = readings_of readers.entries }

  of-readers : (o : Option Readers) → tree.get nat_cmp readers n ≡ o → whole_past n place landed ≡ left_told place (option_map (λ r. reading_of (n, r)) o)
  of-readers o e = ap (left_told place) (reading-found n readers.entries ∙ ap (option_map (λ r. reading_of (n, r))) e)

  pub no-readers : tree.get nat_cmp readers n ≡ None → whole_past n place landed ≡ Some false
  no-readers e = of-readers None e

  -- they were left with nothing yet
  pub left-nothing : (v : Readers) → tree.get nat_cmp readers n ≡ Some v → v.left ≡ None → whole_past n place landed ≡ Some v.whole
  left-nothing v e left = of-readers (Some v) e ∙ ap (λ (o : Option Buffer). left_told place (Some (record (reading_of (n, v)) { left = option_map bytes_in o }))) left

  left-with : (v : Readers) (b : Buffer) (u : Bool) → tree.get nat_cmp readers n ≡ Some v → v.left ≡ Some b → is_at_end (drop place (bytes_in b), true) ≡ u
      → whole_past n place landed ≡ cond u (Some v.whole) None
  left-with v b u e left end =
      of-readers (Some v) e ∙ ap (λ (o : Option Buffer). left_told place (Some (record (reading_of (n, v)) { left = option_map bytes_in o }))) left
      ∙ ap (λ (t : Bool). cond t (Some v.whole) None) end

  pub left-more : (v : Readers) (b : Buffer) → tree.get nat_cmp readers n ≡ Some v → v.left ≡ Some b → place < length (bytes_in b) → whole_past n place landed ≡ None
  left-more v b e left more = left-with v b false e left (past-some place (bytes_in b) (drop place (bytes_in b)) true refl more)

  pub left-read : (v : Readers) (b : Buffer) → tree.get nat_cmp readers n ≡ Some v → v.left ≡ Some b → length (bytes_in b) ≤ place
      → whole_past n place landed ≡ Some v.whole
  left-read v b e left none = left-with v b true e left (past-none place (bytes_in b) true none)
