-- An entry's row at either end of its shard.
use Rattle.std.proofs.Common.{◌≡◌, ◌≢◌, ℕ, ◌%◌, inl, inr, map, slice_get, ◌<◌, length, arith, List, [], ◌∷◌, ◌++◌, get_or, set, Option, Some, None, sym, refl, ap, ◌∙◌, subst}
use Rattle.std.specs.Prelude.{unwrap_or, option_map}
use Rattle.std.proofs.lemmas.Bool.{cases_eq, eq-eqb, ne_eqb}
use Rattle.std.proofs.lemmas.List.{append-nil, map-append, set-get_or}
use Rattle.std.proofs.lemmas.Nat.{mod_below}
use Rattle.cache_entries.specs.declared.entry.CacheEntryKey.{CacheEntryKey}
use Rattle.cache_entries.specs.declared.rows.Tracked.{Tracked}
use Rattle.cache_entries.specs.Rows.{row_of, with_last}
use Rattle.lru_core.specs.declared.rows.Row.{Row}
use Rattle.lru_core.specs.Rows.{only, others, a_row}
use Rattle.lru_core.specs.Cores.{Core, rows_at}
use Rattle.lru_core.proofs.Filters.{only-append, only-others}
use Rattle.cache_evict.specs.declared.tracker.rows.End.{End}
use Rattle.cache_evict.specs.declared.tracker.rows.End.TheVariants.{First, Last}
use Rattle.lru_numbers.specs.Names.{IsOneToOne, HasNoNumber}
use Rattle.cache_evict.specs.Managed.{shard_of, put_at, put_last}
use Rattle.cache_evict.specs.Numbered.{nobody, tracked_row, tracked, managed_in, AreNumbered, IsNumbered, placed}
use Rattle.lru_numbers.proofs.PlaceLaws.{none_some}
use Rattle.cache_evict.proofs.NumberedLaws.{IsNumber, IsNumber-named, row_of-number, tracked-others, AreNumbered-others, others-without, absent}
use Rattle.cache_evict.proofs.WrittenLaws.{only-others_another, below, IsNumbered-written, shown-written, seen, IsNumbered-front, managed-front}

AreNumbered-append : (n : ℕ) (names : ℕ → Option CacheEntryKey) (s : ℕ) (xs ys : List (Row ℕ)) → AreNumbered n names s xs → AreNumbered n names s ys → AreNumbered n names s (xs ++ ys)
AreNumbered-append n names s [] ys a b = b
AreNumbered-append n names s (r ∷ xs) ys a b = (a.0, a.1, a.2, AreNumbered-append n names s xs ys a.3 b)

-- a number that no entry has has no row
pub unnamed_row : (n : ℕ) (names : ℕ → Option CacheEntryKey) (s k : ℕ) (rows : List (Row ℕ)) → AreNumbered n names s rows → names k ≡ None → only k rows ≡ []
unnamed_row n names s k [] a f = refl
unnamed_row n names s k (r ∷ rows) a f = elim (cases_eq r.key k) [
  | inl e ↦ absurd (a.2 (ap names e ∙ f))
  | inr m ↦ rw (ne_eqb r.key k m) (unnamed_row n names s k rows a.3 f)
]

module _ (n : ℕ) (names now : ℕ → Option CacheEntryKey) (core left : Core ℕ) (k : ℕ) (e : CacheEntryKey) (size items : ℕ) (h : IsNumbered n names core.shards) (same : (i : ℕ) → i ≢ k → now i ≡ names i)
    (home : k % n ≡ shard_of n e) (w : ℕ) (one : IsOneToOne now) (here : now k ≡ Some e) (is : IsNumber names k e) (none : HasNoNumber names e) where
  abbrev back : List (Row ℕ)
  back = others k (rows_at core.shards (k % n)) ++ a_row k k w ∷ []

  module _ (s : left ≡ record core { shards = set core.shards (k % n) back }) where
    IsNumbered-back : IsNumbered n now left.shards
    IsNumbered-back =
        let rows = rows_at core.shards (k % n) in
        subst (λ (c : Core ℕ). IsNumbered n now c.shards) (sym s) (IsNumbered-written n names now core.shards k h same back one (λ x p. home ∙ ap (shard_of n) (same_entry_of x p))
        (AreNumbered-append n now (k % n) (others k rows) (a_row k k w ∷ []) (AreNumbered-others n names now k same (k % n) rows (h.numbered (k % n))) (refl, refl, (λ f. none_some e (now k) f here), tt))
        (λ x p. (
          w,
          only-append k (others k rows) (a_row k k w ∷ []) ∙ ap (λ (l : List (Row ℕ)). l ++ only k (a_row k k w ∷ [])) (only-others k rows) ∙ own_row,
        ))
        (λ i m. only-append i (others k rows) (a_row k k w ∷ []) ∙ ap (λ (l : List (Row ℕ)). only i (others k rows) ++ l) (no_row i m) ∙ append-nil (only i (others k rows)) ∙ only-others_another i k rows m))
      where
        own_row : only k (a_row k k w ∷ []) ≡ a_row k k w ∷ []
        own_row = rw (eq-eqb k k refl) refl

        no_row : (i : ℕ) → i ≢ k → only i (a_row k k w ∷ []) ≡ []
        no_row i m = rw (ne_eqb k i (λ a. m (sym a))) refl

        same_entry_of : (x : CacheEntryKey) → now k ≡ Some x → e ≡ x
        same_entry_of x p = ap (λ (o : Option CacheEntryKey). unwrap_or o e) (sym here ∙ p)

    managed-back : managed_in now left size items ≡ put_last n e w (managed_in names core size items)
    managed-back =
        let rows = rows_at core.shards (k % n) in
        let view = map (tracked names) core.shards in
        let there = seen n names core.shards (k % n) (below n names now core.shards k h same) in
        let untracked = absent n names e (k % n) rows (h.numbered (k % n)) none in
        let own : unwrap_or (now k) nobody ≡ e = ap (λ (o : Option CacheEntryKey). unwrap_or o nobody) here in
        let rest : tracked now (others k rows) ≡ get_or view (k % n) [] =
        tracked-others n names now k same rows ∙ others-without n names k e is (k % n) rows (h.numbered (k % n)) ∙ untracked.1 ∙ sym there in
        let last : List Tracked → List Tracked = λ l. l ++ record { entry = e; weight = w } ∷ [] in
        let unlisted : row_of e (get_or view (k % n) []) ≡ None = ap (row_of e) there ∙ untracked.0 in
        let row : tracked now back ≡ with_last e w (get_or view (k % n) []) =
        map-append (tracked_row now) (others k rows) (a_row k k w ∷ [])
        ∙ ap (λ (l : List Tracked). l ++ tracked_row now (a_row k k w) ∷ []) rest
        ∙ ap (λ (x : CacheEntryKey). get_or view (k % n) [] ++ record { entry = x; weight = w } ∷ []) own
        ∙ sym (ap (λ (o : Option Tracked). unwrap_or (option_map (λ _. get_or view (k % n) []) o) (last (get_or view (k % n) []))) unlisted) in
        ap (λ (c : Core ℕ). managed_in now c size items) s
        ∙ ap (λ (l : List (List Tracked)). record (managed_in names core size items) { shards = l }) (shown-written n names now core.shards k h same back
        ∙ ap (set view (k % n)) row
        ∙ ap (λ (j : ℕ). set view j (with_last e w (get_or view j []))) home)

  pub IsNumbered-placed : (end : End) → left ≡ record core { shards = set core.shards (k % n) (placed end (a_row k k w) (others k (rows_at core.shards (k % n)))) } → IsNumbered n now left.shards
  IsNumbered-placed First s = IsNumbered-front n names now core left k e size items h same home w one here is s
  IsNumbered-placed Last s = IsNumbered-back s

  pub managed-placed : (end : End) → left ≡ record core { shards = set core.shards (k % n) (placed end (a_row k k w) (others k (rows_at core.shards (k % n)))) }
      → managed_in now left size items ≡ put_at end n e w (managed_in names core size items)
  managed-placed First s = managed-front n names now core left k e size items h same home w one here is s
  managed-placed Last s = managed-back s

-- nothing is put last of an entry that has a row
pub managed-kept : (n : ℕ) (names : ℕ → Option CacheEntryKey) (core : Core ℕ) (k : ℕ) (e : CacheEntryKey) (w size items : ℕ) → IsNumbered n names core.shards → names k ≡ Some e
    → managed_in names core size items ≡ put_last n e w (managed_in names core size items)
managed-kept n names core k e w size items h p =
    let b : k % n < length core.shards = let m = mod_below k n h.some in omega (arith, m, h.count) in
    let view = map (tracked names) core.shards in
    let known = h.known k e p in
    let there : row_of e (get_or view (k % n) []) ≡ Some (tracked_row names (a_row k k known.0)) =
    ap (row_of e) (seen n names core.shards (k % n) b) ∙ row_of-number n names k e (IsNumber-named names k e h.one p) (k % n) (rows_at core.shards (k % n)) (h.numbered (k % n))
    ∙ ap (λ (l : List (Row ℕ)). option_map (tracked_row names) (slice_get l 0)) known.1 in
    let kept : with_last e w (get_or view (k % n) []) ≡ get_or view (k % n) [] =
    ap (λ (o : Option Tracked). unwrap_or (option_map (λ _. get_or view (k % n) []) o) (get_or view (k % n) [] ++ record { entry = e; weight = w } ∷ [])) there in
    ap (λ (l : List (List Tracked)). record (managed_in names core size items) { shards = l }) (sym (
    ap (λ (j : ℕ). set view j (with_last e w (get_or view j []))) (sym (h.home k e p)) ∙ ap (set view (k % n)) kept ∙ set-get_or view (k % n) []))
