-- Sums over requests, entry by entry: what is no more for each entry is no more for all.
use Rattle.std.proofs.Common.{◌≡◌, ℕ, zero, suc, ◌+◌, ◌≤◌, Bool, true, false, cond, List, [], ◌∷◌, refl, ap, ◌∙◌, subst, arith, length}
use Rattle.cache_entries.specs.declared.entry.CacheEntryKey.{CacheEntryKey}
use Rattle.cache_entries.specs.Entry.{same_entry}
use Rattle.curve_loads.proofs.Entries.{same-self, same-is}

-- a request for an entry, and two counts
pub record Mark : Type 0 where
  pub entry : CacheEntryKey
  pub lesser : ℕ
  pub greater : ℕ

abbrev pub all : (Mark → ℕ) → List Mark → ℕ
all f [] = 0
all f (k ∷ ks) = f k + all f ks

-- of one entry alone
abbrev pub all_of : (Mark → ℕ) → CacheEntryKey → List Mark → ℕ
all_of f e [] = 0
all_of f e (k ∷ ks) = cond (same_entry k.entry e) (f k) 0 + all_of f e ks

abbrev others : CacheEntryKey → List Mark → List Mark
others e [] = []
others e (k ∷ ks) = cond (same_entry k.entry e) (others e ks) (k ∷ others e ks)

split : (f : Mark → ℕ) (e : CacheEntryKey) (ks : List Mark) → all f ks ≡ all_of f e ks + all f (others e ks)
split f e [] = omega arith
split f e (k ∷ ks) = by_test (same_entry k.entry e) (split f e ks)
  where
    by_test : (t : Bool) → all f ks ≡ all_of f e ks + all f (others e ks) → f k + all f ks ≡ cond t (f k) 0 + all_of f e ks + all f (cond t (others e ks) (k ∷ others e ks))
    by_test true h = omega (arith, h)
    by_test false h = omega (arith, h)

fewer : (e : CacheEntryKey) (ks : List Mark) → length (others e ks) ≤ length ks
fewer e [] = omega arith
fewer e (k ∷ ks) = by_test (same_entry k.entry e) (fewer e ks)
  where
    by_test : (t : Bool) → length (others e ks) ≤ length ks → length (cond t (others e ks) (k ∷ others e ks)) ≤ length (k ∷ ks)
    by_test true h = omega (arith, h)
    by_test false h = omega (arith, h)

-- the entry itself is gone, and another keeps its sum
gone : (f : Mark → ℕ) (e : CacheEntryKey) (ks : List Mark) → all_of f e (others e ks) ≡ 0
gone f e [] = refl
gone f e (k ∷ ks) = by_test (same_entry k.entry e) refl (gone f e ks)
  where
    by_test : (t : Bool) → same_entry k.entry e ≡ t → all_of f e (others e ks) ≡ 0 → all_of f e (cond t (others e ks) (k ∷ others e ks)) ≡ 0
    by_test true p h = h
    by_test false p h = let z = ap (λ (b : Bool). cond b (f k) 0) p in omega (arith, z, h)

kept : (f : Mark → ℕ) (e x : CacheEntryKey) (ks : List Mark) → same_entry e x ≡ false → all_of f x (others e ks) ≡ all_of f x ks
kept f e x [] d = refl
kept f e x (k ∷ ks) d = by_test (same_entry k.entry e) refl (kept f e x ks d)
  where
    by_test : (t : Bool) → same_entry k.entry e ≡ t → all_of f x (others e ks) ≡ all_of f x ks → all_of f x (cond t (others e ks) (k ∷ others e ks)) ≡ cond (same_entry k.entry x) (f k) 0 + all_of f x ks
    by_test true p h =
        let q : same_entry k.entry x ≡ false = ap (λ (y : CacheEntryKey). same_entry y x) (same-is k.entry e p) ∙ d in
        let z = ap (λ (b : Bool). cond b (f k) 0) q in
        omega (arith, z, h)
    by_test false p h = omega (arith, h)

pub none-less : (f g : Mark → ℕ) (n : ℕ) (ks : List Mark) → length ks ≤ n → ((e : CacheEntryKey) → all_of f e ks ≤ all_of g e ks) → all f ks ≤ all g ks
none-less f g n [] l h = omega arith
none-less f g zero (k ∷ ks) l h = absurd (omega (arith, l))
none-less f g (suc n) (k ∷ ks) l h =
    let e = k.entry in
    let s = split f e ks in
    let t = split g e ks in
    let here = h e in
    let a = ap (λ (b : Bool). cond b (f k) 0) (same-self e) in
    let b = ap (λ (b : Bool). cond b (g k) 0) (same-self e) in
    let short = fewer e ks in
    let rest = none-less f g n (others e ks) (omega (arith, l, short)) (λ x. by_test x (same_entry e x) refl) in
    omega (arith, s, t, here, a, b, rest)
  where
    by_test : (x : CacheEntryKey) (t : Bool) → same_entry k.entry x ≡ t → all_of f x (others k.entry ks) ≤ all_of g x (others k.entry ks)
    by_test x true p =
        subst (λ (y : CacheEntryKey). all_of f y (others k.entry ks) ≤ all_of g y (others k.entry ks)) (same-is k.entry x p)
        (let a = gone f k.entry ks in let b = gone g k.entry ks in omega (arith, a, b))
    by_test x false p =
        let a = kept f k.entry x ks p in
        let b = kept g k.entry x ks p in
        let c = h x in
        let y = ap (λ (b : Bool). cond b (f k) 0) p in
        let z = ap (λ (b : Bool). cond b (g k) 0) p in
        omega (arith, a, b, c, y, z)
