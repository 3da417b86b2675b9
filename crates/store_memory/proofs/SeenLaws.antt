-- What edits of the writes in flight, and of which are alive, do to what is seen of them.
use Rattle.std.proofs.Common.{arith, ◌≡◌, ℕ, ◌<◌, refl, ap, ◌∙◌, true, false, [], ◌∷◌, ◌++◌}
use Rattle.std.specs.Prelude.{◌==◌, Bool, List, Some, not, ◌||◌, ◌&&◌, map, nat_eq}
use Rattle.std.specs.List.{AllByRecursion}
use Rattle.std.specs.Map.{keys_of, remove_entry}
use Rattle.std.specs.BTreeMap.{is_at}
use Rattle.std.specs.Ordering.{nat_cmp}
use Rattle.std.specs.Cmp.Lexicographic.{pointwise}
use Rattle.std.proofs.lemmas.Bool.Decides.{nat_tests}
use Rattle.cache_heads.specs.declared.meta.CacheMeta.{CacheMeta}
use Rattle.cache_entries.specs.Keys.{same_bytes}
use Rattle.cache_entries.specs.SameEntry.{same_bytes-tells}
use Rattle.cache_changes.specs.Changes.{StoredKey}
use Rattle.cache_changes.specs.Store.{Flying, has_number, landed, begun, marked}
use Rattle.store_memory.specs.declared.flight.Flight.{Flight}
use Rattle.store_memory.specs.Alive.{is_pair}
use Rattle.store_memory.specs.Kept.{seen, flights_of}
use Rattle.store_memory.proofs.RowLaws.{Ascends, above_apart, seen-removed, removed-apart}

abbrev pub Alive : Type 0
Alive = StoredKey → ℕ → Bool

-- seen by what reports the same of each entry
pub seen-same : (a b : Alive) (es : List (ℕ × Flight)) → AllByRecursion (λ e. b e.1.key e.0 ≡ a e.1.key e.0) es → flights_of b es ≡ flights_of a es
seen-same a b [] h = refl
seen-same a b (e ∷ es) h = λ i. record (seen a e) { removed = not (h.0 i) } ∷ seen-same a b es h.1 i

all_same : (a b : Alive) (es : List (ℕ × Flight)) → ((k : StoredKey) (n : ℕ) → b k n ≡ a k n) → AllByRecursion (λ e. b e.1.key e.0 ≡ a e.1.key e.0) es
all_same a b [] h = tt
all_same a b (e ∷ es) h = (h e.1.key e.0, all_same a b es h)

pub seen-alike : (a b : Alive) (es : List (ℕ × Flight)) → ((k : StoredKey) (n : ℕ) → b k n ≡ a k n) → flights_of b es ≡ flights_of a es
seen-alike a b es h = seen-same a b es (all_same a b es h)

or_false : (v : Bool) → (v || false) ≡ v
or_false true = refl
or_false false = refl

and_true : (v : Bool) → (v && true) ≡ v
and_true true = refl
and_true false = refl

and_false : (v : Bool) → (v && false) ≡ false
and_false true = refl
and_false false = refl

not_pair : (k : StoredKey) (n : ℕ) (j : StoredKey) (m : ℕ) → (n == m) ≡ false → is_pair k n j m ≡ false
not_pair k n j m h = rw h (and_false (pointwise nat_eq k j))

-- a write begins
pub seen-begun : (a b : Alive) (k : StoredKey) (n : ℕ) (f : Flight) (es : List (ℕ × Flight)) → ((j : StoredKey) (m : ℕ) → b j m ≡ (a j m || is_pair k n j m))
    → AllByRecursion (λ m. m < n) (keys_of es) → flights_of b es ≡ flights_of a es
seen-begun a b k n f es h below = seen-same a b es (all es below)
  where
    all : (ds : List (ℕ × Flight)) → AllByRecursion (λ m. m < n) (keys_of ds) → AllByRecursion (λ e. b e.1.key e.0 ≡ a e.1.key e.0) ds
    all [] t = tt
    all (d ∷ ds) t = (h d.1.key d.0 ∙ ap (λ (v : Bool). a d.1.key d.0 || v) (not_pair k n d.1.key d.0 (above_apart n d.0 t.0)) ∙ or_false (a d.1.key d.0), all ds t.1)

pair_itself : (k : StoredKey) (n : ℕ) → is_pair k n k n ≡ true
pair_itself k n = rw (same_bytes-tells.itself k, number_itself n) refl
  where
    number_itself : (m : ℕ) → (m == m) ≡ true
    number_itself m = grind (arith, nat_tests)

seen-append : (b : Alive) (x : ℕ × Flight) (es : List (ℕ × Flight)) → flights_of b (es ++ x ∷ []) ≡ flights_of b es ++ seen b x ∷ []
seen-append b x [] = refl
seen-append b x (e ∷ es) = ap (λ (l : List (Flying CacheMeta)). seen b e ∷ l) (seen-append b x es)

or_true : (v : Bool) → (v || true) ≡ true
or_true true = refl
or_true false = refl

pub seen-push : (a b : Alive) (k : StoredKey) (n : ℕ) (meta : CacheMeta) (pieces : List ℕ) (es : List (ℕ × Flight)) → ((j : StoredKey) (m : ℕ) → b j m ≡ (a j m || is_pair k n j m))
    → AllByRecursion (λ m. m < n) (keys_of es) → pieces ≡ []
    → flights_of b (es ++ (n, record { key = k; meta = meta; pieces = pieces; ended = false }) ∷ []) ≡ flights_of a es ++ begun (record { number = n; key = k; meta = meta }) ∷ []
seen-push a b k n meta pieces es h below empty =
    let alive : b k n ≡ true = h k n ∙ ap (λ (v : Bool). a k n || v) (pair_itself k n) ∙ or_true (a k n) in
    seen-append b (n, record { key = k; meta = meta; pieces = pieces; ended = false }) es
    ∙ λ i. seen-begun a b k n (record { key = k; meta = meta; pieces = pieces; ended = false }) es h below i
    ++ record (begun (record { number = n; key = k; meta = meta })) { stored = record { write = record { number = n; key = k; meta = meta }; meta = meta; bytes = empty i }; removed = not (alive i) } ∷ []

-- a write lands
pub seen-landed : (a b : Alive) (k : StoredKey) (n : ℕ) (es : List (ℕ × Flight)) → ((j : StoredKey) (m : ℕ) → b j m ≡ (a j m && not (is_pair k n j m)))
    → Ascends es → flights_of b (remove_entry (is_at (nat_cmp n)) es) ≡ landed n (flights_of a es)
seen-landed a b k n es h asc = seen-same a b (remove_entry (is_at (nat_cmp n)) es) (all (remove_entry (is_at (nat_cmp n)) es) (removed-apart n es asc)) ∙ seen-removed (seen a) n (has_number n) (λ e. refl) es asc
  where
    all : (ds : List (ℕ × Flight)) → AllByRecursion (λ e. (n == e.0) ≡ false) ds → AllByRecursion (λ e. b e.1.key e.0 ≡ a e.1.key e.0) ds
    all [] t = tt
    all (d ∷ ds) t = (h d.1.key d.0 ∙ ap (λ (v : Bool). a d.1.key d.0 && not v) (not_pair k n d.1.key d.0 t.0) ∙ and_true (a d.1.key d.0), all ds t.1)

-- all writes of a key are removed
marks : (x s : Bool) → not (x && not s) ≡ (not x || s)
marks true true = refl
marks true false = refl
marks false s = refl

pub seen-marked : (a b : Alive) (k : StoredKey) (es : List (ℕ × Flight)) → ((j : StoredKey) (m : ℕ) → b j m ≡ (a j m && not (pointwise nat_eq k j))) → flights_of b es ≡ map (marked (Some k)) (flights_of a es)
seen-marked a b k [] h = refl
seen-marked a b k (e ∷ es) h =
    let removed : not (b e.1.key e.0) ≡ (not (a e.1.key e.0) || same_bytes k e.1.key) = ap not (h e.1.key e.0) ∙ marks (a e.1.key e.0) (same_bytes k e.1.key) in
    λ i. record (seen a e) { removed = removed i } ∷ seen-marked a b k es h i
