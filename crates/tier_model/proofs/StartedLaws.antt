-- A tier that holds nothing but its order of use is as an opening with its rows gives it.
use Rattle.std.proofs.Common.{◌≡◌, ℕ, zero, suc, ◌+◌, ◌<◌, Bool, true, false, cond, List, [], ◌∷◌, ◌++◌, Option, Some, None, sym, refl, ap, ◌∙◌, subst, arith}
use Rattle.std.specs.Prelude.{◌≢◌, ◌==◌, length, replicate}
use Rattle.std.specs.FinMap.{empty_of_len, len-empty}
use Rattle.std.specs.Cmp.Lexicographic.{slice_cmp}
use Rattle.std.specs.List.{AllByRecursion}
use Rattle.std.specs.Ordering.{nat_cmp}
use Rattle.std.proofs.lemmas.Bool.{eqb-true}
use Rattle.std.proofs.lemmas.Bool.Decides.{nat_tests}
use Rattle.std.proofs.lemmas.List.{append-nil, ext_get_or}
use Rattle.std.proofs.lemmas.List.Elements.{filter-append}
use Rattle.cache_entries.specs.declared.entry.CacheEntryKey.{CacheEntryKey}
use Rattle.cache_entries.specs.declared.rows.Tracked.{Tracked}
use Rattle.cache_entries.specs.Entry.{same_entry}
use Rattle.cache_entries.specs.Rows.{row_of, AreDistinct}
use Rattle.cache_entries.specs.SameEntry.{same_entry-tells}
use Rattle.cache_changes.specs.Changes.{StoredKey, Write, Changes, begins}
use Rattle.cache_changes.specs.Writes.{IsFound}
use Rattle.cache_changes.specs.Uses.{admissions, in_shard}
use Rattle.cache_evict.specs.Managed.{Managed, IsSharded, fresh, rows_at, shard_of}
use Rattle.tier_model.specs.Rows.{Numbered}
use Rattle.tier_model.specs.Histories.{changes_of}
use Rattle.tier_model.specs.Shelf.{Readers}
use Rattle.tier_model.specs.Past.{HasPast, in_shards}
use Rattle.tier_model.specs.Started.{HasOnlyOrder, IsNew, all_rows, opening_of}
use Rattle.tier_model.specs.State.{Request, Settings, State, empty_state, shards_of}
use Rattle.tier_model.proofs.Carried.{HasPast-lawful}
use Rattle.tier_model.proofs.RowSteps.{in_shards-are}

-- a test that finds nothing is false of each
found_nothing : (b : Bool) (x : Tracked) (o : Option Tracked) → cond b (Some x) o ≡ None → (b ≡ false) × (o ≡ None)
found_nothing true x o h = absurd (let f : Some x ≡ None = h in cc)
found_nothing false x o h = (refl, h)

none_in_both : (e : CacheEntryKey) (rows rest : List Tracked) → row_of e rows ≡ None → row_of e rest ≡ None → row_of e (rows ++ rest) ≡ None
none_in_both e [] rest none none_rest = none_rest
none_in_both e (r ∷ rows) rest none none_rest =
    let both = found_nothing (same_entry r.entry e) r (row_of e rows) none in
    ap (λ (v : Bool). cond v (Some r) (row_of e (rows ++ rest))) both.0 ∙ none_in_both e rows rest both.1 none_rest

module _ (n : ℕ) where
  abbrev IsOf : ℕ → List Tracked → Type 0
  IsOf k rows = AllByRecursion (λ r. shard_of n r.entry ≡ k) rows

  -- the shards from number k on hold rows of their own entries alone
  abbrev AreHome : ℕ → List (List Tracked) → Type 0
  AreHome k [] = Unit {0}
  AreHome k (rows ∷ shards) = IsOf k rows × AreHome (k + 1) shards

  are_home : (k : ℕ) (shards : List (List Tracked)) → ((i : ℕ) → IsOf (k + i) (rows_at shards i)) → AreHome k shards
  are_home k [] h = tt
  are_home k (rows ∷ shards) h =
      let first : k + 0 ≡ k = omega arith in
      (subst (λ (j : ℕ). IsOf j rows) first (h 0), are_home (k + 1) shards (λ i. let next : k + suc i ≡ k + 1 + i = omega arith in subst (λ (j : ℕ). IsOf j (rows_at shards i)) next (h (suc i))))

  is_number : (a b : ℕ) → a ≡ b → (a == b) ≡ true
  is_number a b h = grind (arith, nat_tests)

  is_other : (a b : ℕ) → a ≢ b → (a == b) ≡ false
  is_other a b h = by_test (a == b) refl
    where
      by_test : (v : Bool) → (a == b) ≡ v → v ≡ false
      by_test true t = absurd (h (eqb-true a b t))
      by_test false t = refl

  -- what a shard has of rows that are all its own, or all of another one
  own : (s : ℕ) (rows : List Tracked) → IsOf s rows → in_shard n s rows ≡ rows
  own s [] h = refl
  own s (r ∷ rows) h =
      ap (λ (v : Bool). cond v (r ∷ in_shard n s rows) (in_shard n s rows)) (is_number (shard_of n r.entry) s h.0) ∙ ap (λ (l : List Tracked). r ∷ l) (own s rows h.1)

  other : (s k : ℕ) (rows : List Tracked) → IsOf k rows → k ≢ s → in_shard n s rows ≡ []
  other s k [] h apart = refl
  other s k (r ∷ rows) h apart =
      ap (λ (v : Bool). cond v (r ∷ in_shard n s rows) (in_shard n s rows)) (is_other (shard_of n r.entry) s (λ e. apart (sym h.0 ∙ e))) ∙ other s k rows h.1 apart

  split : (s : ℕ) (rows rest : List Tracked) → in_shard n s (rows ++ rest) ≡ in_shard n s rows ++ in_shard n s rest
  split s rows rest = filter-append (λ (r : Tracked). shard_of n r.entry == s) rows rest

  later : (s k : ℕ) (shards : List (List Tracked)) → AreHome k shards → s < k → in_shard n s (all_rows shards) ≡ []
  later s k [] h below = refl
  later s k (rows ∷ shards) h below =
      split s rows (all_rows shards) ∙ ap (λ (l : List Tracked). l ++ in_shard n s (all_rows shards)) (other s k rows h.0 (λ e. omega (arith, e, below)))
      ∙ later s (k + 1) shards h.1 (omega (arith, below))

  -- the rows of each shard
  each : (i k : ℕ) (shards : List (List Tracked)) → AreHome k shards → in_shard n (k + i) (all_rows shards) ≡ rows_at shards i
  each zero k [] h = refl
  each (suc i) k [] h = refl
  each zero k (rows ∷ shards) h =
      let same : k + 0 ≡ k = omega arith in
      ap (λ (j : ℕ). in_shard n j (rows ++ all_rows shards)) same ∙ split k rows (all_rows shards)
      ∙ ap (λ (l : List Tracked). l ++ in_shard n k (all_rows shards)) (own k rows h.0)
      ∙ ap (λ (l : List Tracked). rows ++ l) (later k (k + 1) shards h.1 (omega arith)) ∙ append-nil rows
  each (suc i) k (rows ∷ shards) h =
      let next : k + suc i ≡ k + 1 + i = omega arith in
      split (k + suc i) rows (all_rows shards)
      ∙ ap (λ (l : List Tracked). l ++ in_shard n (k + suc i) (all_rows shards)) (other (k + suc i) k rows h.0 (λ e. omega (arith, e)))
      ∙ ap (λ (j : ℕ). in_shard n j (all_rows shards)) next ∙ each i (k + 1) shards h.1

  -- ---- no entry has two rows

  none_of : (e : CacheEntryKey) (k : ℕ) (rows : List Tracked) → IsOf k rows → shard_of n e < k → row_of e rows ≡ None
  none_of e k [] h below = refl
  none_of e k (r ∷ rows) h below = by_test (none_of e k rows h.1 below) (same_entry r.entry e) refl
    where
      by_test : row_of e rows ≡ None → (v : Bool) → same_entry r.entry e ≡ v → cond v (Some r) (row_of e rows) ≡ None
      by_test rest true t = let here : shard_of n r.entry ≡ shard_of n e = ap (λ (x : CacheEntryKey). shard_of n x) (same_entry-tells.equal r.entry e t) in absurd (omega (arith, h.0, here, below))
      by_test rest false t = rest

  none_later : (e : CacheEntryKey) (k : ℕ) (shards : List (List Tracked)) → AreHome k shards → shard_of n e < k → row_of e (all_rows shards) ≡ None
  none_later e k [] h below = refl
  none_later e k (rows ∷ shards) h below =
      none_in_both e rows (all_rows shards) (none_of e k rows h.0 below) (none_later e (k + 1) shards h.1 (omega (arith, below)))

  distinct_both : (k : ℕ) (rows rest : List Tracked) → IsOf k rows → AreDistinct rows → AreDistinct rest → ((e : CacheEntryKey) → shard_of n e ≡ k → row_of e rest ≡ None) → AreDistinct (rows ++ rest)
  distinct_both k [] rest h d d_rest apart = d_rest
  distinct_both k (r ∷ rows) rest h d d_rest apart = (none_in_both r.entry rows rest d.0 (apart r.entry h.0), distinct_both k rows rest h.1 d.1 d_rest apart)

  all_distinct : (k : ℕ) (shards : List (List Tracked)) → AreHome k shards → ((i : ℕ) → AreDistinct (rows_at shards i)) → AreDistinct (all_rows shards)
  all_distinct k [] h d = tt
  all_distinct k (rows ∷ shards) h d =
      distinct_both k rows (all_rows shards) h.0 (d 0) (all_distinct (k + 1) shards h.1 (λ i. d (suc i)))
      (λ e home. none_later e (k + 1) shards h.1 (omega (arith, home)))

  module _ (m : Managed) (sharded : IsSharded n m) where
    home : AreHome 0 m.shards
    home = are_home 0 m.shards (λ i. let same : i ≡ 0 + i = omega arith in subst (λ (j : ℕ). IsOf j (rows_at m.shards i)) same (sharded.home i))

    -- the rows of shards give the shards again
    pub rows_again : in_shards n (all_rows m.shards) ≡ m.shards
    rows_again =
        let are = in_shards-are n (all_rows m.shards) in
        ext_get_or [] (in_shards n (all_rows m.shards)) m.shards (are.count ∙ sym sharded.count)
        (λ i inside. let same : i ≡ 0 + i = omega arith in are.each i (omega (arith, inside, are.count)) ∙ ap (λ (j : ℕ). in_shard n j (all_rows m.shards)) same ∙ each i 0 m.shards home)

    pub rows_distinct : AreDistinct (all_rows m.shards)
    rows_distinct = all_distinct 0 m.shards home sharded.distinct

-- such a tier has the past of its opening: no event
pub opening_past : (s : State) → HasOnlyOrder s → IsSharded (shards_of s) s.managed → HasPast (opening_of s) s []
opening_past s new sharded =
    let again = sym (rows_again (shards_of s) s.managed sharded) in
    HasPast-lawful (opening_of s) s [] (sharded.some, rows_distinct (shards_of s) s.managed sharded)
    (λ t. record {
      managed = record { shards = again t; limit = s.managed.limit; watermark = s.managed.watermark; evicted_size = new.evicted_size t; evicted_items = new.evicted_items t };
      wait = s.wait;
      shelf = record { bodies = empty_of_len s.shelf.bodies new.bodies t; flying = new.flying t; readers = empty_of_len s.shelf.readers new.readers t; writes = s.shelf.writes };
      lock = new.lock t;
      requests = empty_of_len s.requests new.requests t;
      found = new.found t;
      absent = new.absent t;
    })

-- ---- where no entry is tracked

no_rows : (shards : List (List Tracked)) → all_rows shards ≡ [] → shards ≡ replicate (length shards) []
no_rows [] e = refl
no_rows ([] ∷ shards) e = ap (λ (l : List (List Tracked)). [] ∷ l) (no_rows shards e)
no_rows ((r ∷ rows) ∷ shards) e = absurd cc

-- a tier as it is made is new
no_row : (n : ℕ) → all_rows (replicate n []) ≡ []
no_row zero = refl
no_row (suc n) = no_row n

pub empty-new : (settings : Settings) → IsNew (empty_state settings)
empty-new settings = record {
  nothing_else = record {
    bodies = len-empty (slice_cmp nat_cmp) Numbered;
    flying = refl;
    readers = len-empty nat_cmp Readers;
    lock = refl;
    requests = len-empty nat_cmp Request;
    found = refl;
    absent = refl;
    evicted_size = refl;
    evicted_items = refl;
  };
  untracked = no_row settings.shards;
}

pub tracks_nothing : (s : State) (n : ℕ) → IsNew s → IsSharded n s.managed → s.managed ≡ fresh n s.managed.limit s.managed.watermark
tracks_nothing s n new sharded =
    let none : s.managed.shards ≡ replicate n [] = no_rows s.managed.shards new.untracked ∙ ap (λ (k : ℕ). replicate k []) sharded.count in
    λ i. record {
      shards = none i;
      limit = s.managed.limit;
      watermark = s.managed.watermark;
      evicted_size = new.nothing_else.evicted_size i;
      evicted_items = new.nothing_else.evicted_items i;
    }

-- ---- what was loaded is no write

no_write : {M : Type 0} (rows : List Tracked) (since before : Changes M) (w : Write M) → admissions rows ≡ since ++ begins w ∷ before → ⊥
no_write [] [] before w e = absurd cc
no_write [] (c ∷ since) before w e = absurd cc
no_write (r ∷ rows) [] before w e = absurd cc
no_write (r ∷ rows) (c ∷ since) before w e = no_write rows since before w (let rest : admissions rows ≡ since ++ begins w ∷ before = cc in rest)

pub finds_nothing : (s : State) (k : StoredKey) → IsFound k (changes_of (opening_of s) []) → ⊥
finds_nothing s k found = no_write (all_rows s.managed.shards) found.2.since found.2.before found.0 found.2.split
