-- Buckets and the rows that they stand for.
use Rattle.std.proofs.Common.{◌≡◌, ℕ, zero, suc, ◌+◌, ◌≤◌, ◌<◌, ◌⊎◌, inl, inr, ltb, leb, cond, Bool, true, false, List, [], ◌∷◌, map, refl, ap, ap₂, sym, ◌∙◌, arith, length, get_or, set}
use Rattle.std.specs.Prelude.{not}
use Rattle.std.proofs.lemmas.Bool.{lt-ltb, le-ltb, lt-leb, le-leb, cases_lt}
use Rattle.std.proofs.lemmas.List.{length-set, length-map, get_or-map}
use Rattle.curve_sizes.specs.declared.row.CurveRow.{CurveRow}
use Rattle.curve_sizes.specs.Rows.{running, empty_row, found_row, found_at, limits_of, AreRising, last_finds, last_bytes, all_finds, all_bytes}

abbrev pub bumped : ℕ → CurveRow → CurveRow
bumped w r = record r { finds = r.finds + 1; bytes = r.bytes + w }

row-equal : (limit : ℕ) (f f' b b' : ℕ) → f ≡ f' → b ≡ b' → let r : CurveRow = record { limit = limit; finds = f; bytes = b } in let r' : CurveRow = record { limit = limit; finds = f'; bytes = b' } in r ≡ r'
row-equal limit f f' b b' p q = λ i. record { limit = limit; finds = p i; bytes = q i }

found-below : (h w : ℕ) (r : CurveRow) → r.limit < h → found_row h w r ≡ r
found-below h w r l = rw (lt-ltb r.limit h l) refl

found-above : (h w : ℕ) (r : CurveRow) → h ≤ r.limit → found_row h w r ≡ bumped w r
found-above h w r l = rw (le-ltb r.limit h l) refl

pub running-more : (h w f b : ℕ) (bs : List CurveRow) → ((k : ℕ) (d : CurveRow) → k < length bs → h ≤ (get_or bs k d).limit)
    → running (f + 1) (b + w) bs ≡ found_at h w (running f b bs)
running-more h w f b [] a = refl
running-more h w f b (x ∷ bs) a =
    let head : CurveRow = record { limit = x.limit; finds = f + x.finds; bytes = b + x.bytes } in
    let one = row-equal x.limit (f + 1 + x.finds) (f + x.finds + 1) (b + w + x.bytes) (b + x.bytes + w) (omega arith) (omega arith) in
    let e : f + 1 + x.finds ≡ f + x.finds + 1 = omega arith in
    let g : b + w + x.bytes ≡ b + x.bytes + w = omega arith in
    let rest = ap₂ (λ (m n : ℕ). running m n bs) e g ∙ running-more h w (f + x.finds) (b + x.bytes) bs (λ k d l. a (suc k) d (omega (arith, l))) in
    ap₂ (λ (r : CurveRow) (l : List CurveRow). r ∷ l) (one ∙ sym (found-above h w head (a 0 x (omega arith)))) rest

pub running-bumped : (h w f b : ℕ) (bs : List CurveRow) (i : ℕ) (d : CurveRow) → i < length bs
    → ((k : ℕ) (d : CurveRow) → k < i → (get_or bs k d).limit < h) → ((k : ℕ) (d : CurveRow) → i ≤ k → k < length bs → h ≤ (get_or bs k d).limit)
    → running f b (set bs i (bumped w (get_or bs i d))) ≡ found_at h w (running f b bs)
running-bumped h w f b [] i d l below above = absurd (omega (arith, l))
running-bumped h w f b (x ∷ bs) zero d l below above =
    let head : CurveRow = record { limit = x.limit; finds = f + x.finds; bytes = b + x.bytes } in
    let one = row-equal x.limit (f + (x.finds + 1)) (f + x.finds + 1) (b + (x.bytes + w)) (b + x.bytes + w) (omega arith) (omega arith) in
    let e : f + (x.finds + 1) ≡ f + x.finds + 1 = omega arith in
    let g : b + (x.bytes + w) ≡ b + x.bytes + w = omega arith in
    let rest = ap₂ (λ (m n : ℕ). running m n bs) e g ∙ running-more h w (f + x.finds) (b + x.bytes) bs (λ k d l. above (suc k) d (omega arith) (omega (arith, l))) in
    ap₂ (λ (r : CurveRow) (l : List CurveRow). r ∷ l) (one ∙ sym (found-above h w head (above 0 x (omega arith) (omega arith)))) rest
running-bumped h w f b (x ∷ bs) (suc i) d l below above =
    let head : CurveRow = record { limit = x.limit; finds = f + x.finds; bytes = b + x.bytes } in
    let rest = running-bumped h w (f + x.finds) (b + x.bytes) bs i d (omega (arith, l)) (λ k d l. below (suc k) d (omega (arith, l)))
    (λ k d m l. above (suc k) d (omega (arith, m)) (omega (arith, l))) in
    ap₂ (λ (r : CurveRow) (l : List CurveRow). r ∷ l) (sym (found-below h w head (below 0 x (omega arith)))) rest

pub running-same : (h w f b : ℕ) (bs : List CurveRow) → ((k : ℕ) (d : CurveRow) → k < length bs → (get_or bs k d).limit < h) → running f b bs ≡ found_at h w (running f b bs)
running-same h w f b [] below = refl
running-same h w f b (x ∷ bs) below =
    let head : CurveRow = record { limit = x.limit; finds = f + x.finds; bytes = b + x.bytes } in
    let rest = running-same h w (f + x.finds) (b + x.bytes) bs (λ k d l. below (suc k) d (omega (arith, l))) in
    ap₂ (λ (r : CurveRow) (l : List CurveRow). r ∷ l) (sym (found-below h w head (below 0 x (omega arith)))) rest

pub running-empty : (ls : List ℕ) → running 0 0 (map empty_row ls) ≡ map empty_row ls
running-empty [] = refl
running-empty (l ∷ ls) = ap (λ (rows : List CurveRow). empty_row l ∷ rows) (running-empty ls)

pub finds-empty : (ls : List ℕ) → all_finds (map empty_row ls) ≡ 0
finds-empty [] = refl
finds-empty (l ∷ ls) = let h = finds-empty ls in omega (arith, h)

pub bytes-empty : (ls : List ℕ) → all_bytes (map empty_row ls) ≡ 0
bytes-empty [] = refl
bytes-empty (l ∷ ls) = let h = bytes-empty ls in omega (arith, h)

-- the last row has what all buckets have
last-running : (f b : ℕ) (x : CurveRow) (bs : List CurveRow) → (last_finds (running f b (x ∷ bs)) ≡ f + all_finds (x ∷ bs)) × (last_bytes (running f b (x ∷ bs)) ≡ b + all_bytes (x ∷ bs))
last-running f b x [] = (omega arith, omega arith)
last-running f b x (y ∷ bs) = let h = last-running (f + x.finds) (b + x.bytes) y bs in (omega (arith, h.0), omega (arith, h.1))

pub last-is : (bs : List CurveRow) → (last_finds (running 0 0 bs) ≡ all_finds bs) × (last_bytes (running 0 0 bs) ≡ all_bytes bs)
last-is [] = (refl, refl)
last-is (x ∷ bs) = let h = last-running 0 0 x bs in (omega (arith, h.0), omega (arith, h.1))

pub finds-bumped : (w : ℕ) (bs : List CurveRow) (i : ℕ) (d : CurveRow) → i < length bs → all_finds (set bs i (bumped w (get_or bs i d))) ≡ all_finds bs + 1
finds-bumped w [] i d l = absurd (omega (arith, l))
finds-bumped w (x ∷ bs) zero d l = omega arith
finds-bumped w (x ∷ bs) (suc i) d l = let h = finds-bumped w bs i d (omega (arith, l)) in omega (arith, h)

pub bytes-bumped : (w : ℕ) (bs : List CurveRow) (i : ℕ) (d : CurveRow) → i < length bs → all_bytes (set bs i (bumped w (get_or bs i d))) ≡ all_bytes bs + w
bytes-bumped w [] i d l = absurd (omega (arith, l))
bytes-bumped w (x ∷ bs) zero d l = omega arith
bytes-bumped w (x ∷ bs) (suc i) d l = let h = bytes-bumped w bs i d (omega (arith, l)) in omega (arith, h)

pub one-finds : (bs : List CurveRow) (i : ℕ) (d : CurveRow) → i < length bs → (get_or bs i d).finds ≤ all_finds bs
one-finds [] i d l = absurd (omega (arith, l))
one-finds (x ∷ bs) zero d l = omega arith
one-finds (x ∷ bs) (suc i) d l = let h = one-finds bs i d (omega (arith, l)) in omega (arith, h)

pub one-bytes : (bs : List CurveRow) (i : ℕ) (d : CurveRow) → i < length bs → (get_or bs i d).bytes ≤ all_bytes bs
one-bytes [] i d l = absurd (omega (arith, l))
one-bytes (x ∷ bs) zero d l = omega arith
one-bytes (x ∷ bs) (suc i) d l = let h = one-bytes bs i d (omega (arith, l)) in omega (arith, h)

limit-bumped : (w : ℕ) (bs : List CurveRow) (i : ℕ) (d : CurveRow) (k : ℕ) (e : CurveRow) → i < length bs → (get_or (set bs i (bumped w (get_or bs i d))) k e).limit ≡ (get_or bs k e).limit
limit-bumped w [] i d k e l = absurd (omega (arith, l))
limit-bumped w (x ∷ bs) zero d zero e l = refl
limit-bumped w (x ∷ bs) zero d (suc k) e l = refl
limit-bumped w (x ∷ bs) (suc i) d zero e l = refl
limit-bumped w (x ∷ bs) (suc i) d (suc k) e l = limit-bumped w bs i d k e (omega (arith, l))

pub rising-bumped : (w : ℕ) (bs : List CurveRow) (i : ℕ) (d : CurveRow) → i < length bs → AreRising bs → AreRising (set bs i (bumped w (get_or bs i d)))
rising-bumped w bs i d h r = λ a b e le l.
    let n = length-set bs i (bumped w (get_or bs i d)) in
    let p = limit-bumped w bs i d a e h in
    let q = limit-bumped w bs i d b e h in
    let o = r a b e le (omega (arith, l, n)) in
    omega (arith, o, p, q)

pub rising-empty : (ls : List ℕ) → ((i j : ℕ) (d : ℕ) → i ≤ j → j < length ls → get_or ls i d ≤ get_or ls j d) → AreRising (map empty_row ls)
rising-empty ls r = λ a b e le l.
    let n = length-map ls empty_row in
    let h : b < length ls = omega (arith, l, n) in
    let g : a < length ls = omega (arith, h, le) in
    let p = ap (λ (x : CurveRow). x.limit) (get_or-map empty_row ls a 0 e g) in
    let q = ap (λ (x : CurveRow). x.limit) (get_or-map empty_row ls b 0 e h) in
    let o = r a b 0 le h in
    omega (arith, o, p, q)

pub limits-found : (h w : ℕ) (rows : List CurveRow) → limits_of (found_at h w rows) ≡ limits_of rows
limits-found h w [] = refl
limits-found h w (r ∷ rows) = by_test (ltb r.limit h) (limits-found h w rows)
  where
    by_test : (t : Bool) → limits_of (found_at h w rows) ≡ limits_of rows → limits_of (cond t r (bumped w r) ∷ found_at h w rows) ≡ limits_of (r ∷ rows)
    by_test true i = ap (λ (l : List ℕ). r.limit ∷ l) i
    by_test false i = ap (λ (l : List ℕ). r.limit ∷ l) i

pub running-limits : (f b : ℕ) (bs : List CurveRow) → limits_of (running f b bs) ≡ limits_of bs
running-limits f b [] = refl
running-limits f b (x ∷ bs) = ap (λ (l : List ℕ). x.limit ∷ l) (running-limits (f + x.finds) (b + x.bytes) bs)

pub length-running : (f b : ℕ) (bs : List CurveRow) → length (running f b bs) ≡ length bs
length-running f b [] = refl
length-running f b (x ∷ bs) = let h = length-running (f + x.finds) (b + x.bytes) bs in omega (arith, h)

-- which limits are at least a height, by the first of them
pub first-limit : (bs : List CurveRow) (tall first : ℕ) → ((k : ℕ) (d : CurveRow) → k < first → (get_or bs k d).limit < tall)
    → ((k : ℕ) (d : CurveRow) → first ≤ k → k < length bs → tall ≤ (get_or bs k d).limit) → (k : ℕ) → k < length bs → leb first k ≡ not (ltb (get_or (limits_of bs) k 0) tall)
first-limit bs tall first below above k l =
    by_case (cases_lt k first) ∙ sym (ap (λ (n : ℕ). not (ltb n tall)) (get_or-map (λ (r : CurveRow). r.limit) bs k none 0 l))
  where
    none : CurveRow
    none = record { limit = 0; finds = 0; bytes = 0 }

    by_case : (k < first) ⊎ (first ≤ k) → leb first k ≡ not (ltb (get_or bs k none).limit tall)
    by_case (inl m) = lt-leb first k m ∙ sym (ap not (lt-ltb (get_or bs k none).limit tall (below k none m)))
    by_case (inr m) = le-leb first k m ∙ sym (ap not (le-ltb (get_or bs k none).limit tall (above k none m l)))

pub past-limits : (rows : List CurveRow) (first k : ℕ) → first ≡ length rows → k < length rows → leb first k ≡ false
past-limits rows first k e l = lt-leb first k (omega (arith, e, l))
