-- Laws of `same_key` and `same_entry`, which comparisons and hashes of entries are built on: what is the same is equal.
use Rattle.std.proofs.Common.{◌≡◌, refl, ap, sym, true, false, subst, ◌&&◌}
use Rattle.std.specs.Prelude.{Bool, ℕ, List, Option, Some, None}
use Rattle.std.specs.Cmp.{IsEquivalence}
use Rattle.std.specs.Hash.{HashWrites}
use Rattle.std.proofs.lemmas.Slice.Eq.{bytes_eq-Decides}
use Rattle.std.proofs.lemmas.Bool.{eqb-true}
use Rattle.std.proofs.lemmas.Bool.Decides.{nat_tests}
use Rattle.std.proofs.Common.{arith}
use Rattle.cache_words.specs.declared.key.CompactCacheKey.{CompactCacheKey}
use Rattle.cache_entries.specs.declared.entry.CacheEntryKey.{CacheEntryKey}
use Rattle.cache_entries.specs.declared.entry.CacheEntryKey.TheVariants.{KeyOnly, Identified}
use Rattle.cache_entries.specs.Keys.{same_bytes, same_variance, same_key}
use Rattle.cache_entries.specs.Entry.{number_of, same_id, same_entry, key_of, id_of}

-- a test that says whether two things are equal
pub record Tells {K : Type 0} (same : K → K → Bool) : Type 0 where
  pub equal : (a b : K) → same a b ≡ true → a ≡ b
  pub itself : (a : K) → same a a ≡ true

pub same_bytes-tells : Tells same_bytes
same_bytes-tells = record { equal = λ a b e. (bytes_eq-Decides a b).0 e; itself = λ a. (bytes_eq-Decides a a).1 refl }

same_variance-equal : (a b : Option (List ℕ)) → same_variance a b ≡ true → a ≡ b
same_variance-equal None None e = refl
same_variance-equal None (Some b) e = absurd cc
same_variance-equal (Some a) None e = absurd cc
same_variance-equal (Some a) (Some b) e = ap (λ (x : List ℕ). Some x) (same_bytes-tells.equal a b e)

same_variance-itself : (a : Option (List ℕ)) → same_variance a a ≡ true
same_variance-itself None = refl
same_variance-itself (Some a) = same_bytes-tells.itself a

both_true : (x y : Bool) → (x && y) ≡ true → (x ≡ true) × (y ≡ true)
both_true true y e = (refl, e)
both_true false y e = absurd cc

same_key-equal : (a b : CompactCacheKey) → same_key a b ≡ true → a ≡ b
same_key-equal a b e =
    let first = both_true (same_bytes a.primary b.primary) _ e in
    let second = both_true (same_variance a.variance b.variance) _ first.1 in
    let p = same_bytes-tells.equal _ _ first.0 in
    let v = same_variance-equal _ _ second.0 in
    let t = same_bytes-tells.equal _ _ second.1 in
    λ i. record { primary = p i; variance = v i; user_tag = t i }

same_key-itself : (a : CompactCacheKey) → same_key a a ≡ true
same_key-itself a = rw (same_bytes-tells.itself a.primary, same_variance-itself a.variance, same_bytes-tells.itself a.user_tag) refl

pub same_key-tells : Tells same_key
same_key-tells = record { equal = same_key-equal; itself = same_key-itself }

same_id-equal : (a b : Option ℕ) → same_id a b ≡ true → a ≡ b
same_id-equal None None e = refl
same_id-equal None (Some b) e = absurd cc
same_id-equal (Some a) None e = absurd cc
same_id-equal (Some a) (Some b) e = ap (λ (x : ℕ). Some x) (eqb-true a b e)

same_id-itself : (a : Option ℕ) → same_id a a ≡ true
same_id-itself None = refl
same_id-itself (Some a) = grind (arith, nat_tests)

-- an entry is its key and its id
two_equal : (a b : CacheEntryKey) → key_of a ≡ key_of b → id_of a ≡ id_of b → a ≡ b
two_equal (KeyOnly a) (KeyOnly b) k i = ap (λ (x : CompactCacheKey). KeyOnly x) k
two_equal (KeyOnly a) (Identified b j) k i = absurd cc
two_equal (Identified a j) (KeyOnly b) k i = absurd cc
two_equal (Identified a j) (Identified b h) k i = let same : number_of j ≡ number_of h = cc in λ t. Identified (k t) (record { 0 = same t })

same_entry-equal : (a b : CacheEntryKey) → same_entry a b ≡ true → a ≡ b
same_entry-equal a b e =
    let parts = both_true (same_key (key_of a) (key_of b)) _ e in
    two_equal a b (same_key-equal _ _ parts.0) (same_id-equal _ _ parts.1)

same_entry-itself : (a : CacheEntryKey) → same_entry a a ≡ true
same_entry-itself a = rw (same_key-itself (key_of a), same_id-itself (id_of a)) refl

pub same_entry-tells : Tells same_entry
same_entry-tells = record { equal = same_entry-equal; itself = same_entry-itself }

both_ways : (x y : Bool) → (x ≡ true → y ≡ true) → (y ≡ true → x ≡ true) → x ≡ y
both_ways true y f g = sym (f refl)
both_ways false true f g = g refl
both_ways false false f g = refl

module _ {K : Type 0} (same : K → K → Bool) (tells : Tells same) where
  turned : (a b : K) → same a b ≡ true → same b a ≡ true
  turned a b e = subst (λ (x : K). same b x ≡ true) (sym (tells.equal a b e)) (tells.itself b)

  pub same-sym : (a b : K) → same a b ≡ same b a
  same-sym a b = both_ways (same a b) (same b a) (turned a b) (turned b a)

  -- what is same as a same key
  pub same-left : (a b k : K) → same a b ≡ true → same a k ≡ same b k
  same-left a b k e = ap (λ (x : K). same x k) (tells.equal a b e)

  pub same-right : (k a b : K) → same a b ≡ true → same k a ≡ same k b
  same-right k a b e = ap (same k) (tells.equal a b e)

  pub same-equivalence : IsEquivalence same
  same-equivalence = record { refl = tells.itself; symm = same-sym; congr = same-left }

  -- what is same is hashed alike
  pub same-hashed : (writes : K → HashWrites) (a b : K) → same a b ≡ true → writes a ≡ writes b
  same-hashed writes a b e = ap writes (tells.equal a b e)

pub entries_equivalence : IsEquivalence same_entry
entries_equivalence = same-equivalence same_entry same_entry-tells
