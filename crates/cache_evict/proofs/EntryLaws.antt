-- Entries of a shard, one after another.
use Rattle.std.proofs.Common.{◌≡◌, ℕ, List, [], ◌∷◌, ◌++◌, map, ap, sym, ◌∙◌, append_assoc, refl}
use Rattle.std.specs.Prelude.{Option}
use Rattle.cache_entries.specs.declared.entry.CacheEntryKey.{CacheEntryKey}
use Rattle.cache_entries.specs.declared.rows.Tracked.{Tracked}
use Rattle.cache_evict.specs.Numbered.{entry_of_pair, row_of_pair}

pub entries-more : (names : ℕ → Option CacheEntryKey) (out next all : List CacheEntryKey) (p : ℕ × ℕ) (before left : List (ℕ × ℕ)) → out ++ map (entry_of_pair names) before ≡ all → before ≡ p ∷ left
    → next ≡ out ++ entry_of_pair names p ∷ [] → next ++ map (entry_of_pair names) left ≡ all
entries-more names out next all p before left h e s =
    ap (λ (l : List CacheEntryKey). l ++ map (entry_of_pair names) left) s ∙ append_assoc out (entry_of_pair names p ∷ []) (map (entry_of_pair names) left)
    ∙ ap (λ (l : List (ℕ × ℕ)). out ++ map (entry_of_pair names) l) (sym e) ∙ h

pub entries-of-rows : (names : ℕ → Option CacheEntryKey) (pairs : List (ℕ × ℕ)) → map (entry_of_pair names) pairs ≡ map (λ (r : Tracked). r.entry) (map (row_of_pair names) pairs)
entries-of-rows names [] = refl
entries-of-rows names (p ∷ pairs) = ap (λ (l : List CacheEntryKey). entry_of_pair names p ∷ l) (entries-of-rows names pairs)
