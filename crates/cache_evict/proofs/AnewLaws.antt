-- A number's row with another weight, where it stands.
use Rattle.std.proofs.Common.{◌≡◌, ◌≢◌, ℕ, ◌%◌, ◌<◌, inl, inr, Bool, true, false, cond, eqb, map, List, [], ◌∷◌, length, get_or, set, slice_get, is_some, Option, Some, None, sym, refl, ap, ◌∙◌, subst, arith}
use Rattle.std.specs.Prelude.{option_map}
use Rattle.std.proofs.lemmas.Bool.{cases_eq, eq-eqb, ne_eqb}
use Rattle.std.proofs.lemmas.Nat.{mod_below}
use Rattle.cache_entries.specs.declared.entry.CacheEntryKey.{CacheEntryKey}
use Rattle.cache_entries.specs.declared.rows.Tracked.{Tracked}
use Rattle.cache_entries.specs.Rows.{weight_of, admitted}
use Rattle.cache_changes.specs.Uses.{with_weight}
use Rattle.lru_core.specs.declared.rows.Row.{Row}
use Rattle.lru_core.specs.Rows.{only, reweighed, a_row}
use Rattle.lru_core.specs.Cores.{Core, rows_at}
use Rattle.lru_core.proofs.Filters.{only-reweighed}
use Rattle.cache_evict.specs.Managed.{Managed, shard_of, rows_of, with_rows, put_first, weighed_anew}
use Rattle.cache_evict.specs.Numbered.{tracked_row, tracked, managed_in, AreNumbered, IsNumbered}
use Rattle.cache_evict.proofs.NumberedLaws.{IsNumber, IsNumber-named}
use Rattle.cache_evict.proofs.WrittenLaws.{seen, IsNumbered-written, shown-written, weight_of-number}

-- rows of other numbers stay
only-weighed_another : (i k w : ℕ) (rows : List (Row ℕ)) → i ≢ k → only i (reweighed k w rows) ≡ only i rows
only-weighed_another i k w [] n = refl
only-weighed_another i k w (r ∷ rows) n = elim (cases_eq r.key k) [
  | inl e ↦ rw (eq-eqb r.key k e) (rw (ne_eqb r.key i (λ f. n (sym f ∙ e))) (only-weighed_another i k w rows n))
  | inr m ↦ rw (ne_eqb r.key k m) (ap (λ (l : List (Row ℕ)). cond (eqb r.key i) (r ∷ l) l) (only-weighed_another i k w rows n))
]

AreNumbered-weighed : (n : ℕ) (names : ℕ → Option CacheEntryKey) (s k w : ℕ) (rows : List (Row ℕ)) → AreNumbered n names s rows → AreNumbered n names s (reweighed k w rows)
AreNumbered-weighed n names s k w [] a = tt
AreNumbered-weighed n names s k w (r ∷ rows) a = elim (cases_eq r.key k) [
  | inl e ↦ rw (eq-eqb r.key k e) (a.0, a.1, a.2, AreNumbered-weighed n names s k w rows a.3)
  | inr m ↦ rw (ne_eqb r.key k m) (a.0, a.1, a.2, AreNumbered-weighed n names s k w rows a.3)
]

-- the row of the number is the row of the entry
tracked-weighed : (n : ℕ) (names : ℕ → Option CacheEntryKey) (k : ℕ) (e : CacheEntryKey) → IsNumber names k e → (s w : ℕ) (rows : List (Row ℕ)) → AreNumbered n names s rows
    → tracked names (reweighed k w rows) ≡ with_weight e w (tracked names rows)
tracked-weighed n names k e is s w [] a = refl
tracked-weighed n names k e is s w (r ∷ rows) a = rw (← is r.key a.2) (step (eqb r.key k) r rows (tracked-weighed n names k e is s w rows a.3))
  where
    step : (b : Bool) (r : Row ℕ) (rows : List (Row ℕ)) → tracked names (reweighed k w rows) ≡ with_weight e w (tracked names rows)
        → tracked_row names (cond b (record r { weight = w }) r) ∷ tracked names (reweighed k w rows) ≡ cond b (record (tracked_row names r) { weight = w }) (tracked_row names r) ∷ with_weight e w (tracked names rows)
    step true r rows h = ap (λ (l : List Tracked). tracked_row names (record r { weight = w }) ∷ l) h
    step false r rows h = ap (λ (l : List Tracked). tracked_row names r ∷ l) h

module _ (n : ℕ) (names : ℕ → Option CacheEntryKey) (core left : Core ℕ) (k : ℕ) (e : CacheEntryKey) (w size items : ℕ) (h : IsNumbered n names core.shards) (p : names k ≡ Some e)
    (s : left ≡ record core { shards = set core.shards (k % n) (reweighed k w (rows_at core.shards (k % n))) }) where
  pub own : (v : ℕ) × (only k (rows_at core.shards (k % n)) ≡ a_row k k v ∷ [])
  own = h.known k e p

  pub IsNumbered-anew : IsNumbered n names left.shards
  IsNumbered-anew =
      subst (λ (c : Core ℕ). IsNumbered n names c.shards) (sym s) (IsNumbered-written n names names core.shards k h (λ i m. refl) (reweighed k w (rows_at core.shards (k % n))) h.one (h.home k)
      (AreNumbered-weighed n names (k % n) k w (rows_at core.shards (k % n)) (h.numbered (k % n)))
      (λ x q. (w, only-reweighed k w (rows_at core.shards (k % n)) ∙ ap (map {A = Row ℕ} {B = Row ℕ} (λ r. record r { weight = w })) own.1))
      (λ i m. only-weighed_another i k w (rows_at core.shards (k % n)) m))

  pub weighed_before : weight_of e (get_or (map (tracked names) core.shards) (shard_of n e) []) ≡ Some own.0
  weighed_before = weight_of-number n names core k e h p ∙ ap (λ (l : List (Row ℕ)). option_map (λ r. r.weight) (slice_get l 0)) own.1

  pub managed-anew : managed_in names left size items ≡ weighed_anew n e w (managed_in names core size items)
  managed-anew =
      let b : k % n < length core.shards = let m = mod_below k n h.some in omega (arith, m, h.count) in
      let view = map (tracked names) core.shards in
      let there : tracked names (reweighed k w (rows_at core.shards (k % n))) ≡ with_weight e w (get_or view (k % n) []) =
      tracked-weighed n names k e (IsNumber-named names k e h.one p) (k % n) w (rows_at core.shards (k % n)) (h.numbered (k % n)) ∙ ap (with_weight e w) (sym (seen n names core.shards (k % n) b)) in
      let found : is_some (weight_of e (get_or view (shard_of n e) [])) ≡ true = ap (λ (o : Option ℕ). is_some o) weighed_before in
      ap (λ (c : Core ℕ). managed_in names c size items) s
      ∙ ap (λ (l : List (List Tracked)). record (managed_in names core size items) { shards = l }) (shown-written n names names core.shards k h (λ i m. refl) (reweighed k w (rows_at core.shards (k % n)))
      ∙ ap (set view (k % n)) there
      ∙ ap (λ (j : ℕ). set view j (with_weight e w (get_or view j []))) (h.home k e p)
      ∙ ap (λ (t : Bool). set view (shard_of n e) (cond t (with_weight e w (get_or view (shard_of n e) [])) (admitted e w (get_or view (shard_of n e) [])))) (sym found))

-- an entry that has no row is put first
pub anew_new : (n : ℕ) (e : CacheEntryKey) (w : ℕ) (m : Managed) → weight_of e (rows_of n e m) ≡ None → put_first n e w m ≡ weighed_anew n e w m
anew_new n e w m none =
    ap (λ (o : Option ℕ). with_rows n e (cond (is_some o) (with_weight e w (rows_of n e m)) (admitted e w (rows_of n e m))) m) (sym none)
