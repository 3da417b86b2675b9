-- Rows of numbers as text, and the last of them.
use Rattle.std.proofs.Common.{◌≡◌, ◌≢◌, ℕ, ◌<◌, ◌^◌, map, List, [], ◌∷◌, ◌++◌, length, Option, Some, None, sym, refl, ap, ◌∙◌, subst, arith, append_assoc}
use Rattle.std.specs.Prelude.{unwrap_or, flat_map, MatchOption, option_copied}
use Rattle.std.specs.Borrow.{Bor}
use Rattle.std.proofs.lemmas.List.{map-append, length-map}
use Rattle.cache_words.specs.Forms.{shortest, arrays}
use Rattle.cache_entries.specs.declared.entry.CacheEntryKey.{CacheEntryKey}
use Rattle.cache_entries.specs.declared.rows.Tracked.{Tracked}
use Rattle.cache_entries.specs.RowText.{SpellsRecency, row_text, recency_text}
use Rattle.cache_entries.specs.Writable.{IsRow}
use Rattle.cache_entries.proofs.WrittenLaws.{recency_spelled}
use Rattle.std.specs.List.{AllByRecursion}
use Rattle.lru_core.specs.declared.rows.Row.{Row}
use Rattle.lru_core.specs.Rows.{a_row, pairs_of}
use Rattle.lru_core.specs.Cores.{Core, rows_at}
use Rattle.cache_evict.specs.Managed.{IsLast, rows_at as rows_in}
use Rattle.cache_evict.specs.Numbered.{nobody, tracked_row, tracked, managed_in, AreNumbered, IsNumbered, row_of_pair, AreNamed}
use Rattle.cache_evict.proofs.GoneLaws.{last_numbered}
use Rattle.cache_evict.proofs.WrittenLaws.{seen}

module _ (n : ℕ) (names : ℕ → Option CacheEntryKey) where
  pub pairs-shown : (s : ℕ) (rows : List (Row ℕ)) → AreNumbered n names s rows → map (row_of_pair names) (pairs_of rows) ≡ tracked names rows
  pairs-shown s [] a = refl
  pairs-shown s (r ∷ rows) a =
      ap (λ (k : ℕ). record { entry = unwrap_or (names k) nobody; weight = r.weight } ∷ map (row_of_pair names) (pairs_of rows)) a.0
      ∙ ap (λ (l : List Tracked). tracked_row names r ∷ l) (pairs-shown s rows a.3)

  pub pairs-named : (s : ℕ) (rows : List (Row ℕ)) → AreNumbered n names s rows → AreNamed names (pairs_of rows)
  pairs-named s [] a = tt
  pairs-named s (r ∷ rows) a = (subst (λ (k : ℕ). names k ≢ None) (sym a.0) a.2, pairs-named s rows a.3)

  module _ (core : Core ℕ) (size items s : ℕ) (h : IsNumbered n names core.shards) (b : s < n) where
    within : s < length core.shards
    within = omega (arith, b, h.count)

    pub shown : rows_in (managed_in names core size items).shards s ≡ map (row_of_pair names) (pairs_of (rows_at core.shards s))
    shown = seen n names core.shards s within ∙ sym (pairs-shown s (rows_at core.shards s) (h.numbered s))

    pub named : AreNamed names (pairs_of (rows_at core.shards s))
    named = pairs-named s (rows_at core.shards s) (h.numbered s)

    pub counted : length (rows_in (managed_in names core size items).shards s) ≡ length (rows_at core.shards s)
    counted = ap length (seen n names core.shards s within) ∙ length-map (rows_at core.shards s) (tracked_row names)

    pub text_shown : (out head : List ℕ) → head ≡ shortest arrays (length (rows_at core.shards s)) → out ≡ head ++ flat_map row_text (map (row_of_pair names) (pairs_of (rows_at core.shards s)))
        → out ≡ recency_text (rows_in (managed_in names core size items).shards s)
    text_shown out head first all =
        all ∙ ap (λ (l : List ℕ). l ++ flat_map row_text (map (row_of_pair names) (pairs_of (rows_at core.shards s)))) (first ∙ ap (shortest arrays) (sym counted))
        ∙ ap (λ (l : List Tracked). shortest arrays (length (rows_in (managed_in names core size items).shards s)) ++ flat_map row_text l) (sym shown)

    -- the same as a spelling
    pub text_spelled : (out head : List ℕ) (pairs : List (ℕ × ℕ)) (count : ℕ) → head ≡ shortest arrays count → count ≡ length (rows_at core.shards s) → count < 2 ^ 32 → pairs ≡ pairs_of (rows_at core.shards s)
        → out ≡ head ++ flat_map row_text (map (row_of_pair names) pairs) → AllByRecursion IsRow (map (row_of_pair names) pairs) → SpellsRecency (rows_in (managed_in names core size items).shards s) out
    text_spelled out head pairs count first is few same all fits =
        let rows = rows_in (managed_in names core size items).shards s in
        subst (λ (text : List ℕ). SpellsRecency rows text) (sym (text_shown out head (first ∙ ap (shortest arrays) is) (all ∙ ap (λ (l : List (ℕ × ℕ)). head ++ flat_map row_text (map (row_of_pair names) l)) same)))
        (recency_spelled rows (let c = counted in omega (arith, c, is, few)) (subst (AllByRecursion IsRow) (ap (map (row_of_pair names)) same ∙ sym shown) fits))

    pub none_last : rows_at core.shards s ≡ [] → rows_in (managed_in names core size items).shards s ≡ []
    none_last e = seen n names core.shards s within ∙ ap (tracked names) e

    pub entry_last : (front : List (Row ℕ)) (k d w : ℕ) (o : Option (Bor CacheEntryKey)) → rows_at core.shards s ≡ front ++ a_row k d w ∷ [] → option_copied o ≡ names d
        → MatchOption o (rows_in (managed_in names core size items).shards s ≡ []) (λ e. IsLast (rows_in (managed_in names core size items).shards s) e.now)
    entry_last front k d w o is found = step o found
      where
        own : (a_row k d w).data ≡ (a_row k d w).key
        own = (last_numbered n names s front (a_row k d w) (subst (λ (l : List (Row ℕ)). AreNumbered n names s l) is (h.numbered s))).0

        some : names d ≢ None
        some = subst (λ (i : ℕ). names i ≢ None) (sym own) (last_numbered n names s front (a_row k d w) (subst (λ (l : List (Row ℕ)). AreNumbered n names s l) is (h.numbered s))).2

        step : (p : Option (Bor CacheEntryKey)) → option_copied p ≡ names d
            → MatchOption p (rows_in (managed_in names core size items).shards s ≡ []) (λ e. IsLast (rows_in (managed_in names core size items).shards s) e.now)
        step None f = absurd (some (sym f))
        step (Some e) f = (
          tracked names front,
          w,
          seen n names core.shards s within ∙ ap (tracked names) is ∙ map-append (tracked_row names) front (a_row k d w ∷ [])
              ∙ ap (λ (x : Option CacheEntryKey). tracked names front ++ record { entry = unwrap_or x nobody; weight = w } ∷ []) (ap names (sym own) ∙ sym f),
        )

-- one row more
pub text_more : (names : ℕ → Option CacheEntryKey) (out next all : List ℕ) (p : ℕ × ℕ) (before left : List (ℕ × ℕ)) → out ++ flat_map row_text (map (row_of_pair names) before) ≡ all → before ≡ p ∷ left
    → next ≡ out ++ row_text (row_of_pair names p) → next ++ flat_map row_text (map (row_of_pair names) left) ≡ all
text_more names out next all p before left h e s =
    ap (λ (l : List ℕ). l ++ flat_map row_text (map (row_of_pair names) left)) s ∙ append_assoc out (row_text (row_of_pair names p)) (flat_map row_text (map (row_of_pair names) left))
    ∙ ap (λ (l : List (ℕ × ℕ)). out ++ flat_map row_text (map (row_of_pair names) l)) (sym e) ∙ h
