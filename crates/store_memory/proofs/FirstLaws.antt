-- What is found of writes in flight and of bodies.
use Rattle.std.proofs.Common.{◌+◌, arith, ◌≡◌, ℕ, ◌<◌, ◌≤◌, refl, ap, sym, ◌∙◌, true, false, subst, cond, [], ◌∷◌, nat_eq}
use Rattle.std.specs.Prelude.{◌==◌, Bool, List, Option, Some, None, option_map, unwrap_or, length, not, ◌&&◌, find}
use Rattle.std.specs.Map.{lookup}
use Rattle.std.specs.BTreeMap.{is_at}
use Rattle.std.specs.Ordering.{nat_cmp}
use Rattle.std.specs.Cmp.Lexicographic.{pointwise}
use Rattle.std.proofs.lemmas.Bool.{eqb-true}
use Rattle.std.proofs.lemmas.Bool.Decides.{nat_tests}
use Rattle.cache_heads.specs.declared.meta.CacheMeta.{CacheMeta}
use Rattle.cache_entries.specs.SameEntry.{same_bytes-tells}
use Rattle.cache_changes.specs.Changes.{StoredKey}
use Rattle.cache_changes.specs.Store.{Flying, is_of, has_number, flies_for}
use Rattle.store_memory.specs.declared.flight.Flight.{Flight}
use Rattle.store_memory.specs.declared.flight.Body.{Body}
use Rattle.store_memory.specs.Kept.{seen, flights_of, body_of, bodies_of}
use Rattle.std.specs.List.{AllByRecursion}
use Rattle.cache_entries.specs.Keys.{same_bytes}
use Rattle.store_memory.proofs.RowLaws.{Ascends, at_is, below_apart}
use Rattle.cache_store.proofs.BodyLaws.{same-sym}
use Rattle.store_memory.proofs.SeenLaws.{Alive}

-- the write of a number
pub flying-seen : (alive : Alive) (n : ℕ) (es : List (ℕ × Flight)) → find (has_number n) (flights_of alive es) ≡ option_map (λ f. seen alive (n, f)) (lookup (is_at (nat_cmp n)) es)
flying-seen alive n [] = refl
flying-seen alive n (e ∷ es) = rw (at_is n e.0) (by_test (n == e.0) refl (flying-seen alive n es))
  where
    by_test : (t : Bool) → (n == e.0) ≡ t → find (has_number n) (flights_of alive es) ≡ option_map (λ f. seen alive (n, f)) (lookup (is_at (nat_cmp n)) es)
        → cond t (Some (seen alive e)) (find (has_number n) (flights_of alive es)) ≡ option_map (λ f. seen alive (n, f)) (cond t (Some e.1) (lookup (is_at (nat_cmp n)) es))
    by_test true t ih = ap (λ (m : ℕ). Some (seen alive (m, e.1))) (sym (eqb-true n e.0 t))
    by_test false t ih = ih

-- the body of a key
pub body-found : (k : StoredKey) (es : List (StoredKey × Body)) → find (is_of k) (bodies_of es) ≡ option_map (λ b. body_of (k, b)) (lookup (pointwise nat_eq k) es)
body-found k [] = refl
body-found k (e ∷ es) = rw (same-sym e.0 k) (by_test (pointwise nat_eq k e.0) refl (body-found k es))
  where
    by_test : (t : Bool) → pointwise nat_eq k e.0 ≡ t → find (is_of k) (bodies_of es) ≡ option_map (λ b. body_of (k, b)) (lookup (pointwise nat_eq k) es)
        → cond t (Some (body_of e)) (find (is_of k) (bodies_of es)) ≡ option_map (λ b. body_of (k, b)) (cond t (Some e.1) (lookup (pointwise nat_eq k) es))
    by_test true t ih = ap (λ (j : StoredKey). Some (body_of (j, e.1))) (sym (same_bytes-tells.equal k e.0 t))
    by_test false t ih = ih

ended-option : (alive : Alive) (n : ℕ) (o : Option Flight) → option_map (λ (f : Flying CacheMeta). f.ended) (option_map (λ f. seen alive (n, f)) o) ≡ option_map (λ (f : Flight). f.ended) o
ended-option alive n None = refl
ended-option alive n (Some f) = refl

pub ended-seen : (alive : Alive) (n : ℕ) (es : List (ℕ × Flight)) → option_map (λ (f : Flying CacheMeta). f.ended) (find (has_number n) (flights_of alive es)) ≡ option_map (λ (f : Flight). f.ended) (lookup (is_at (nat_cmp n)) es)
ended-seen alive n es = ap (option_map (λ (f : Flying CacheMeta). f.ended)) (flying-seen alive n es) ∙ ended-option alive n (lookup (is_at (nat_cmp n)) es)

-- the alive write of a key in flight that began first
lookup_above : (n : ℕ) (es : List (ℕ × Flight)) → AllByRecursion (λ d. n < d.0) es → lookup (is_at (nat_cmp n)) es ≡ None
lookup_above n [] h = refl
lookup_above n (e ∷ es) h = rw (at_is n e.0, below_apart n e.0 h.0) (lookup_above n es h.1)

smaller : (n m : ℕ) → n ≤ m → (n == m) ≡ false → n < m
smaller n m h t = grind (arith, nat_tests)

all_more : (n m : ℕ) (es : List (ℕ × Flight)) → n < m → AllByRecursion (λ d. m < d.0) es → AllByRecursion (λ d. n < d.0) es
all_more n m [] h t = tt
all_more n m (e ∷ es) h t = let first : m < e.0 = t.0 in (omega arith, all_more n m es h t.1)

both : (x y : Bool) → (x && not (not y)) ≡ true → (x ≡ true) × (y ≡ true)
both true true t = (refl, refl)
both true false t = absurd cc
both false y t = absurd cc

pub first-seen : (alive : Alive) (k : StoredKey) (n : ℕ) (f : Flight) → alive k n ≡ true → ((m : ℕ) → alive k m ≡ true → n ≤ m) → f.key ≡ k
    → (es : List (ℕ × Flight)) → Ascends es → lookup (is_at (nat_cmp n)) es ≡ Some f → find (flies_for k) (flights_of alive es) ≡ Some (seen alive (n, f))
first-seen alive k n f here least key [] a e = absurd cc
first-seen alive k n f here least key (x ∷ xs) a e = by_test (n == x.0) (flies_for k (seen alive x)) refl refl (rw (at_is n x.0) at e) (first-seen alive k n f here least key xs a.1)
  where
    by_test : (t u : Bool) → (n == x.0) ≡ t → flies_for k (seen alive x) ≡ u → cond t (Some x.1) (lookup (is_at (nat_cmp n)) xs) ≡ Some f
        → (lookup (is_at (nat_cmp n)) xs ≡ Some f → find (flies_for k) (flights_of alive xs) ≡ Some (seen alive (n, f)))
        → cond u (Some (seen alive x)) (find (flies_for k) (flights_of alive xs)) ≡ Some (seen alive (n, f))
    by_test true true t u e ih = let value : x.1 ≡ f = cc in let same : n ≡ x.0 = eqb-true n x.0 t in λ i. Some (seen alive (sym same i, value i))
    by_test true false t u e ih =
        let value : x.1 ≡ f = cc in
        let same : n ≡ x.0 = eqb-true n x.0 t in
        let flies : flies_for k (seen alive (n, f)) ≡ true = rw (key, same_bytes-tells.itself k, here) refl in
        let still : flies_for k (seen alive x) ≡ true = subst (λ (m : ℕ). flies_for k (seen alive (m, x.1)) ≡ true) same (subst (λ (g : Flight). flies_for k (seen alive (n, g)) ≡ true) (sym value) flies) in
        absurd cc
    by_test false true t u e ih =
        let parts = both (same_bytes x.1.key k) (alive x.1.key x.0) u in
        let there : alive k x.0 ≡ true = subst (λ (j : StoredKey). alive j x.0 ≡ true) (same_bytes-tells.equal x.1.key k parts.0) parts.1 in
        let below : n < x.0 = smaller n x.0 (least x.0 there) t in
        let none : lookup (is_at (nat_cmp n)) xs ≡ None = lookup_above n xs (all_more n x.0 xs below a.0) in
        absurd cc
    by_test false false t u e ih = ih e

pub none-seen : (alive : Alive) (k : StoredKey) → ((m : ℕ) → alive k m ≡ false) → (es : List (ℕ × Flight)) → find (flies_for k) (flights_of alive es) ≡ None
none-seen alive k h [] = refl
none-seen alive k h (x ∷ xs) = by_test (flies_for k (seen alive x)) refl (none-seen alive k h xs)
  where
    by_test : (u : Bool) → flies_for k (seen alive x) ≡ u → find (flies_for k) (flights_of alive xs) ≡ None → cond u (Some (seen alive x)) (find (flies_for k) (flights_of alive xs)) ≡ None
    by_test true u ih =
        let parts = both (same_bytes x.1.key k) (alive x.1.key x.0) u in
        let there : alive k x.0 ≡ true = subst (λ (j : StoredKey). alive j x.0 ≡ true) (same_bytes-tells.equal x.1.key k parts.0) parts.1 in
        let gone : alive k x.0 ≡ false = h x.0 in
        absurd cc
    by_test false u ih = ih

-- how many bytes a write in flight has
abbrev pub bytes_written : Option (Flying CacheMeta) → ℕ
bytes_written o = unwrap_or (option_map (λ f. length f.stored.bytes) o) 0

pub written-none : (alive : Alive) (n : ℕ) (es : List (ℕ × Flight)) → None ≡ lookup (is_at (nat_cmp n)) es → 0 ≡ bytes_written (find (has_number n) (flights_of alive es))
written-none alive n es e = sym (ap bytes_written (flying-seen alive n es ∙ ap (option_map (λ (f : Flight). seen alive (n, f))) (sym e)))

pub written-some : (alive : Alive) (n : ℕ) (f : Flight) (es : List (ℕ × Flight)) → Some f ≡ lookup (is_at (nat_cmp n)) es → length f.pieces ≡ bytes_written (find (has_number n) (flights_of alive es))
written-some alive n f es e = sym (ap bytes_written (flying-seen alive n es ∙ ap (option_map (λ (f : Flight). seen alive (n, f))) (sym e)))

-- how many bytes a write in flight has, with those outside
abbrev size_of : Flying CacheMeta → ℕ
size_of f = length f.stored.bytes + f.stored.meta.external

pub size-none : (alive : Alive) (n : ℕ) (es : List (ℕ × Flight)) → None ≡ lookup (is_at (nat_cmp n)) es → None ≡ option_map (λ f. length f.stored.bytes + f.stored.meta.external) (find (has_number n) (flights_of alive es))
size-none alive n es e = sym (ap (option_map size_of) (flying-seen alive n es ∙ ap (option_map (λ (f : Flight). seen alive (n, f))) (sym e)))

pub size-some : (alive : Alive) (n : ℕ) (f : Flight) (es : List (ℕ × Flight)) → Some f ≡ lookup (is_at (nat_cmp n)) es
    → Some (length f.pieces + f.meta.external) ≡ option_map (λ f. length f.stored.bytes + f.stored.meta.external) (find (has_number n) (flights_of alive es))
size-some alive n f es e = sym (ap (option_map size_of) (flying-seen alive n es ∙ ap (option_map (λ (f : Flight). seen alive (n, f))) (sym e)))

-- the head of a write in flight
pub head-none : (alive : Alive) (n : ℕ) (es : List (ℕ × Flight)) → None ≡ lookup (is_at (nat_cmp n)) es → None ≡ option_map (λ f. f.stored.meta.header) (find (has_number n) (flights_of alive es))
head-none alive n es e = sym (ap (option_map (λ (f : Flying CacheMeta). f.stored.meta.header)) (flying-seen alive n es ∙ ap (option_map (λ (f : Flight). seen alive (n, f))) (sym e)))

pub head-some : (alive : Alive) (n : ℕ) (f : Flight) (es : List (ℕ × Flight)) → Some f ≡ lookup (is_at (nat_cmp n)) es → Some f.meta.header ≡ option_map (λ f. f.stored.meta.header) (find (has_number n) (flights_of alive es))
head-some alive n f es e = sym (ap (option_map (λ (f : Flying CacheMeta). f.stored.meta.header)) (flying-seen alive n es ∙ ap (option_map (λ (f : Flight). seen alive (n, f))) (sym e)))
