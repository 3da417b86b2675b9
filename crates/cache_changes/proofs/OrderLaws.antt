-- The writes in flight of the state stand in the order in which they began.
use Rattle.std.proofs.Common.{◌≡◌, ℕ, ◌+◌, ◌<◌, ◌≤◌, refl, sym, ◌∙◌, true, false, subst, cond, [], ◌∷◌, ◌++◌, arith}
use Rattle.std.specs.Prelude.{Bool, ◌==◌, List, Some, not, find, filter, map}
use Rattle.std.specs.List.{AllByRecursion}
use Rattle.cache_changes.specs.Changes.{Change, Changes, begins, appends, ends, finishes, leaves, renews, removes, evicts, key_alone}
use Rattle.cache_changes.specs.Writes.{BeginsBelow, MayCome, IsOrderly}
use Rattle.cache_changes.specs.Store.{Flying, Store, has_number, begun, with_bytes, renewed_flying, ended, marked, after, store_of}
use Rattle.cache_changes.proofs.WriteLaws.{same_number, above_apart}

abbrev pub number_of : {M : Type 0} → Flying M → ℕ
number_of f = f.stored.write.number

-- the numbers rise, from a bound on
abbrev pub Rising : {M : Type 0} → ℕ → List (Flying M) → Type 0
Rising b [] = Unit {0}
Rising b (f ∷ fs) = (b ≤ number_of f) × Rising (number_of f + 1) fs

-- all numbers are below a bound
abbrev pub Below : {M : Type 0} → ℕ → List (Flying M) → Type 0
Below n fs = AllByRecursion (λ f. number_of f < n) fs

rising_less : {M : Type 0} (a b : ℕ) (fs : List (Flying M)) → a ≤ b → Rising b fs → Rising a fs
rising_less a b [] h r = tt
rising_less a b (f ∷ fs) h r = (omega (arith, h, r.0), r.1)

rising_map : {M : Type 0} (b : ℕ) (change : Flying M → Flying M) (fs : List (Flying M)) → ((f : Flying M) → number_of (change f) ≡ number_of f) → Rising b fs → Rising b (map change fs)
rising_map b change [] h r = tt
rising_map {M = M} b change (f ∷ fs) h r =
    (subst (λ (n : ℕ). b ≤ n) (sym (h f)) r.0, subst (λ (n : ℕ). Rising (n + 1) (map change fs)) (sym (h f)) (rising_map (number_of f + 1) change fs h r.1))

rising_filter : {M : Type 0} (b : ℕ) (p : Flying M → Bool) (fs : List (Flying M)) → Rising b fs → Rising b (filter p fs)
rising_filter b p [] r = tt
rising_filter b p (f ∷ fs) r = by_test (p f) (rising_filter (number_of f + 1) p fs r.1)
  where
    by_test : (v : Bool) → Rising (number_of f + 1) (filter p fs) → Rising b (cond v (f ∷ filter p fs) (filter p fs))
    by_test true rest = (r.0, rest)
    by_test false rest = rising_less b (number_of f + 1) (filter p fs) (omega (arith, r.0)) rest

rising_end : {M : Type 0} (b : ℕ) (x : Flying M) (fs : List (Flying M)) → b ≤ number_of x → Below (number_of x) fs → Rising b fs → Rising b (fs ++ x ∷ [])
rising_end b x [] h u r = (h, tt)
rising_end b x (f ∷ fs) h u r = (r.0, rising_end (number_of f + 1) x fs (omega (arith, u.0)) u.1 r.1)

below_map : {M : Type 0} (n : ℕ) (change : Flying M → Flying M) (fs : List (Flying M)) → ((f : Flying M) → number_of (change f) ≡ number_of f) → Below n fs → Below n (map change fs)
below_map n change [] h u = tt
below_map n change (f ∷ fs) h u = (subst (λ (k : ℕ). k < n) (sym (h f)) u.0, below_map n change fs h u.1)

below_filter : {M : Type 0} (n : ℕ) (p : Flying M → Bool) (fs : List (Flying M)) → Below n fs → Below n (filter p fs)
below_filter n p [] u = tt
below_filter n p (f ∷ fs) u = by_test (p f) (below_filter n p fs u.1)
  where
    by_test : (v : Bool) → Below n (filter p fs) → Below n (cond v (f ∷ filter p fs) (filter p fs))
    by_test true rest = (u.0, rest)
    by_test false rest = rest

below_end : {M : Type 0} (n : ℕ) (x : Flying M) (fs : List (Flying M)) → number_of x < n → Below n fs → Below n (fs ++ x ∷ [])
below_end n x [] h u = (h, tt)
below_end n x (f ∷ fs) h u = (u.0, below_end n x fs h u.1)

on_same : {M : Type 0} (m : ℕ) (change : Flying M → Flying M) (f : Flying M) → number_of (change f) ≡ number_of f → number_of (cond (has_number m f) (change f) f) ≡ number_of f
on_same m change f h = by_test (has_number m f)
  where
    by_test : (v : Bool) → number_of (cond v (change f) f) ≡ number_of f
    by_test true = h
    by_test false = refl

renewed_same : {M : Type 0} (m : ℕ) (meta : M) (f : Flying M) → number_of (renewed_flying m meta f) ≡ number_of f
renewed_same m meta f = by_test (m == f.stored.write.number)
  where
    by_test : (v : Bool) → (cond v (record f.stored { meta = meta }) f.stored).write.number ≡ number_of f
    by_test true = refl
    by_test false = refl

below-after : {M : Type 0} (n : ℕ) (c : Change M) (s : Store M) → BeginsBelow n c → Below n s.flying → Below n (after c s).flying
below-after n (begins w) s b u = below_end n (begun w) s.flying b u
below-after n (appends m bytes) s b u = below_map n (λ f. cond (has_number m f) (with_bytes bytes f) f) s.flying (λ f. on_same m (with_bytes bytes) f refl) u
below-after n (ends m) s b u = below_map n (λ f. cond (has_number m f) (ended f) f) s.flying (λ f. on_same m ended f refl) u
below-after n (finishes v) s b u = below_filter n (λ f. not (has_number v.number f)) s.flying u
below-after n (leaves m) s b u = below_filter n (λ f. not (has_number m f)) s.flying u
below-after n (renews m meta) s b u = below_map n (renewed_flying m meta) s.flying (renewed_same m meta) u
below-after n (removes k) s b u = below_map n (marked (Some k)) s.flying (λ f. refl) u
below-after n (evicts e) s b u = below_map n (marked (key_alone e)) s.flying (λ f. refl) u
below-after n _ s b u = u

all_below : {M : Type 0} (n : ℕ) (changes : Changes M) → AllByRecursion (BeginsBelow n) changes → Below n (store_of changes).flying
all_below n [] h = tt
all_below n (c ∷ before) h = below-after n c (store_of before) h.0 (all_below n before h.1)

rising-after : {M : Type 0} (c : Change M) (before : Changes M) → MayCome c before → Rising 0 (store_of before).flying → Rising 0 (after c (store_of before)).flying
rising-after (begins w) before may r = rising_end 0 (begun w) (store_of before).flying (omega arith) (all_below w.number before may) r
rising-after (appends m bytes) before may r = rising_map 0 (λ f. cond (has_number m f) (with_bytes bytes f) f) (store_of before).flying (λ f. on_same m (with_bytes bytes) f refl) r
rising-after (ends m) before may r = rising_map 0 (λ f. cond (has_number m f) (ended f) f) (store_of before).flying (λ f. on_same m ended f refl) r
rising-after (finishes v) before may r = rising_filter 0 (λ f. not (has_number v.number f)) (store_of before).flying r
rising-after (leaves m) before may r = rising_filter 0 (λ f. not (has_number m f)) (store_of before).flying r
rising-after (renews m meta) before may r = rising_map 0 (renewed_flying m meta) (store_of before).flying (renewed_same m meta) r
rising-after (removes k) before may r = rising_map 0 (marked (Some k)) (store_of before).flying (λ f. refl) r
rising-after (evicts e) before may r = rising_map 0 (marked (key_alone e)) (store_of before).flying (λ f. refl) r
rising-after _ before may r = r

-- the writes in flight stand in the order in which they began
pub flights-rise : {M : Type 0} (changes : Changes M) → IsOrderly changes → Rising 0 (store_of changes).flying
flights-rise [] o = tt
flights-rise (c ∷ before) o = rising-after c before o.0 (flights-rise before o.1)

-- what is found there
found_above : {M : Type 0} (b : ℕ) (q : Flying M → Bool) (fs : List (Flying M)) (g : Flying M) → Rising b fs → find q fs ≡ Some g → b ≤ number_of g
found_above b q [] g r e = absurd cc
found_above {M = M} b q (f ∷ fs) g r e = by_test (q f) (found_above (number_of f + 1) q fs g r.1) e
  where
    by_test : (v : Bool) → (find q fs ≡ Some g → number_of f + 1 ≤ number_of g) → cond v (Some f) (find q fs) ≡ Some g → b ≤ number_of g
    by_test true ih e = let same : f ≡ g = cc in subst (λ (x : Flying M). b ≤ number_of x) same r.0
    by_test false ih e = omega (arith, ih e, r.0)

-- of one number it is the only one
pub found_number : {M : Type 0} (b : ℕ) (p : Flying M → Bool) (fs : List (Flying M)) (f : Flying M) → Rising b fs → find p fs ≡ Some f → find (has_number (number_of f)) fs ≡ Some f
found_number b p [] f r e = absurd cc
found_number {M = M} b p (g ∷ fs) f r e = by_test (p g) (found_number (number_of g + 1) p fs f r.1) e
  where
    by_test : (v : Bool) → (find p fs ≡ Some f → find (has_number (number_of f)) fs ≡ Some f) → cond v (Some g) (find p fs) ≡ Some f
        → cond (number_of f == number_of g) (Some g) (find (has_number (number_of f)) fs) ≡ Some f
    by_test true ih e =
        let same : g ≡ f = cc in
        subst (λ (x : Flying M). cond (number_of x == number_of g) (Some g) (find (has_number (number_of x)) fs) ≡ Some x) same (rw (same_number (number_of g)) refl)
    by_test false ih e = rw (above_apart (number_of g) (number_of f) (omega (arith, found_above (number_of g + 1) p fs f r.1 e))) (ih e)

-- the first that passes has the least number
pub found_least : {M : Type 0} (b m : ℕ) (p : Flying M → Bool) (fs : List (Flying M)) (f g : Flying M) → Rising b fs → find p fs ≡ Some f → find (has_number m) fs ≡ Some g → p g ≡ true → number_of f ≤ number_of g
found_least b m p [] f g r e d t = absurd cc
found_least {M = M} b m p (h ∷ fs) f g r e d t = by_tests (p h) refl (has_number m h) (λ e d. found_least (number_of h + 1) m p fs f g r.1 e d t) e d
  where
    by_tests : (v : Bool) → p h ≡ v → (u : Bool) → (find p fs ≡ Some f → find (has_number m) fs ≡ Some g → number_of f ≤ number_of g)
        → cond v (Some h) (find p fs) ≡ Some f → cond u (Some h) (find (has_number m) fs) ≡ Some g → number_of f ≤ number_of g
    by_tests true is true ih e d = let one : h ≡ f = cc in let two : h ≡ g = cc in subst (λ (x : Flying M). number_of f ≤ number_of x) (sym one ∙ two) (omega arith)
    by_tests true is false ih e d =
        let one : h ≡ f = cc in
        subst (λ (x : Flying M). number_of x ≤ number_of g) one (omega (arith, found_above (number_of h + 1) (has_number m) fs g r.1 d))
    by_tests false is true ih e d = let two : h ≡ g = cc in let passes : p h ≡ true = subst (λ (x : Flying M). p x ≡ true) (sym two) t in absurd cc
    by_tests false is false ih e d = ih e d
