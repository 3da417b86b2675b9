-- Bodies found by key after edits, in a tier's state and in what changes leave of writes.
use Rattle.std.proofs.Common.{◌≡◌, ℕ, refl, ap, sym, ◌∙◌, true, false, subst, cond, [], ◌∷◌, ◌||◌}
use Rattle.std.specs.Prelude.{Bool, List, Option, Some, None, option_map, not, find, filter}
use Rattle.std.specs.Ordering.{nat_cmp, eq_by_cmp}
use Rattle.std.specs.Cmp.Lexicographic.{slice_cmp, texts_ties, nat_list_cmp_total}
use Rattle.std.specs.FinMap.{get, insert, get-insert, get-remove}
use Rattle.cache_entries.specs.Keys.{same_bytes}
use Rattle.cache_changes.specs.Changes.{StoredKey, stored_key, key_alone, is_key}
use Rattle.cache_changes.specs.Store.{Stored, is_of}
use Rattle.cache_changes.proofs.RowLaws.{not_true, not_false, find-kept, find-gone}
use Rattle.cache_entries.specs.declared.entry.CacheEntryKey.{CacheEntryKey}
use Rattle.cache_entries.specs.SameEntry.{same_bytes-tells, same-sym}
use Rattle.tier_model.specs.Histories.{Kept}
use Rattle.tier_model.specs.Rows.{Numbered, Bodies, FinishedBody, body_of, with_body, without_body, without_key, without_bodies}

-- keys that tie in the order of their bytes are the same
pub ties-same : (k j : StoredKey) → eq_by_cmp (slice_cmp nat_cmp) k j ≡ same_bytes j k
ties-same k j = sym (texts_ties k j) ∙ same-sym same_bytes same_bytes-tells k j

-- in a state
pub held-without : (k j : StoredKey) (bodies : Bodies) → get (without_body j bodies) k ≡ cond (same_bytes j k) None (get bodies k)
held-without k j bodies = get-remove nat_list_cmp_total bodies j k ∙ ap (λ v. cond v None (get bodies k)) (ties-same k j)

pub held-inserted : (k j : StoredKey) (x : Numbered) (bodies : Bodies) → get (insert bodies j x) k ≡ cond (same_bytes j k) (Some x) (get bodies k)
held-inserted k j x bodies = get-insert nat_list_cmp_total bodies j x k ∙ ap (λ v. cond v (Some x) (get bodies k)) (ties-same k j)

pub held-with : (k : StoredKey) (n : ℕ) (b : FinishedBody) (bodies : Bodies)
    → get (with_body n b bodies) k ≡ cond (same_bytes (stored_key b.entry) k) (Some (record { number = n; body = b.body })) (get bodies k)
held-with k n b bodies = held-inserted k (stored_key b.entry) (record { number = n; body = b.body }) bodies

either_none : {X : Type 0} (x y : Bool) (o : Option X) → cond y None (cond x None o) ≡ cond (x || y) None o
either_none true true o = refl
either_none true false o = refl
either_none false true o = refl
either_none false false o = refl

-- one of the entries has no id and the stored key k
abbrev pub has_key : StoredKey → List CacheEntryKey → Bool
has_key k [] = false
has_key k (e ∷ es) = is_key k (key_alone e) || has_key k es

pub held-without_key : (k : StoredKey) (j : Option StoredKey) (bodies : Bodies) → get (without_key j bodies) k ≡ cond (is_key k j) None (get bodies k)
held-without_key k None bodies = refl
held-without_key k (Some j) bodies = held-without k j bodies

pub held-without_all : (k : StoredKey) (es : List CacheEntryKey) (bodies : Bodies) → get (without_bodies es bodies) k ≡ cond (has_key k es) None (get bodies k)
held-without_all k [] bodies = refl
held-without_all k (e ∷ es) bodies =
    held-without_all k es (without_key (key_alone e) bodies) ∙ ap (cond (has_key k es) None) (held-without_key k (key_alone e) bodies) ∙ either_none (is_key k (key_alone e)) (has_key k es) (get bodies k)

-- the same of the bodies alone
alone_none : (v : Bool) (o : Option Numbered) → option_map (λ x. x.body) (cond v None o) ≡ cond v None (option_map (λ x. x.body) o)
alone_none true o = refl
alone_none false o = refl

alone_some : (v : Bool) (x : Numbered) (o : Option Numbered) → option_map (λ x. x.body) (cond v (Some x) o) ≡ cond v (Some x.body) (option_map (λ x. x.body) o)
alone_some true x o = refl
alone_some false x o = refl

pub body_of-without : (k j : StoredKey) (bodies : Bodies) → body_of k (without_body j bodies) ≡ cond (same_bytes j k) None (body_of k bodies)
body_of-without k j bodies = ap (option_map (λ (x : Numbered). x.body)) (held-without k j bodies) ∙ alone_none (same_bytes j k) (get bodies k)

pub body_of-with : (k : StoredKey) (n : ℕ) (b : FinishedBody) (bodies : Bodies) → body_of k (with_body n b bodies) ≡ cond (same_bytes (stored_key b.entry) k) (Some b.body) (body_of k bodies)
body_of-with k n b bodies =
    ap (option_map (λ (x : Numbered). x.body)) (held-with k n b bodies) ∙ alone_some (same_bytes (stored_key b.entry) k) (record { number = n; body = b.body }) (get bodies k)

pub body_of-without_all : (k : StoredKey) (es : List CacheEntryKey) (bodies : Bodies) → body_of k (without_bodies es bodies) ≡ cond (has_key k es) None (body_of k bodies)
body_of-without_all k es bodies = ap (option_map (λ (x : Numbered). x.body)) (held-without_all k es bodies) ∙ alone_none (has_key k es) (get bodies k)

-- in what changes leave
of_key : {M : Type 0} (k : StoredKey) (x : Stored M) → is_of k x ≡ true → x.write.key ≡ k
of_key k x t = same_bytes-tells.equal x.write.key k t

pub body_at-without : {M : Type 0} (k : StoredKey) (j : Option StoredKey) (xs : List (Stored M))
    → find (is_of k) (filter (λ x. not (is_key x.write.key j)) xs) ≡ cond (is_key k j) None (find (is_of k) xs)
body_at-without k None xs = find-kept (is_of k) (λ x. not (is_key x.write.key None)) xs (λ x t. refl)
body_at-without {M = M} k (Some j) xs = by_test (same_bytes j k) refl
  where
    by_test : (v : Bool) → same_bytes j k ≡ v → find (is_of k) (filter (λ x. not (is_key x.write.key (Some j))) xs) ≡ cond v None (find (is_of k) xs)
    by_test true e = find-gone (is_of k) (λ x. not (is_key x.write.key (Some j))) xs (λ x t. not_true (same_bytes j x.write.key) (subst (λ (i : StoredKey). same_bytes j i ≡ true) (sym (of_key k x t)) e))
    by_test false e = find-kept (is_of k) (λ x. not (is_key x.write.key (Some j))) xs (λ x t. not_false (same_bytes j x.write.key) (subst (λ (i : StoredKey). same_bytes j i ≡ false) (sym (of_key k x t)) e))

pub body_at-with : {M : Type 0} (k : StoredKey) (x : Stored M) (xs : List (Stored M)) → find (is_of k) (x ∷ filter (λ y. not (is_of x.write.key y)) xs) ≡ cond (is_of k x) (Some x) (find (is_of k) xs)
body_at-with {M = M} k x xs = by_test (is_of k x) refl
  where
    other : is_of k x ≡ false → (y : Stored M) → is_of k y ≡ true → is_of x.write.key y ≡ false
    other e y t = ap (λ (j : StoredKey). same_bytes j x.write.key) (of_key k y t) ∙ same-sym same_bytes same_bytes-tells k x.write.key ∙ e

    by_test : (v : Bool) → is_of k x ≡ v → cond v (Some x) (find (is_of k) (filter (λ y. not (is_of x.write.key y)) xs)) ≡ cond v (Some x) (find (is_of k) xs)
    by_test true e = refl
    by_test false e = find-kept (is_of k) (λ y. not (is_of x.write.key y)) xs (λ y t. not_false (is_of x.write.key y) (other e y t))

-- the body that changes leave
abbrev pub view : Stored Kept → Numbered
view x = record { number = x.write.number; body = record { bytes = x.bytes; meta = x.meta.meta } }

abbrev pub AreSame : Option Numbered → Option (Stored Kept) → Type 0
AreSame o x = o ≡ option_map view x

pub both_gone : (v : Bool) (o : Option Numbered) (x : Option (Stored Kept)) → AreSame o x → AreSame (cond v None o) (cond v None x)
both_gone true o x e = refl
both_gone false o x e = e

pub both_there : (v : Bool) (b : Numbered) (y : Stored Kept) (o : Option Numbered) (x : Option (Stored Kept)) → b ≡ view y → AreSame o x → AreSame (cond v (Some b) o) (cond v (Some y) x)
both_there true b y o x f e = ap (λ (p : Numbered). Some p) f
both_there false b y o x f e = e
