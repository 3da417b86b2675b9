-- Of changes in order: a write of a key is shown exactly where one is alive.
use Rattle.std.proofs.Common.{◌≡◌, ℕ, refl, ap, sym, ◌∙◌, true, false, subst, cond, [], ◌∷◌, ◌++◌, ◌==◌, inl, inr}
use Rattle.std.specs.Prelude.{◌≢◌, ◌↔◌, ◌⊎◌, ◌&&◌, Bool, List, Option, Some, None, is_some, option_map, not, filter, find}
use Rattle.std.specs.List.{AllByRecursion}
use Rattle.std.specs.Option.{option_or}
use Rattle.std.proofs.lemmas.Bool.{eqb-true, eq-eqb}
use Rattle.cache_entries.specs.Keys.{same_bytes}
use Rattle.cache_entries.specs.SameEntry.{same_bytes-tells}
use Rattle.cache_changes.specs.Changes.{StoredKey, stored_key}
use Rattle.cache_changes.proofs.RowLaws.{find-kept, find-map}
use Rattle.tier_promise.specs.Promise.{Write, Change, Changes, begins, lands, renews, takes, has_number, with_meta, flying, body_of, first_of, shown, ends_life, IsAlive}
use Rattle.tier_promise.proofs.NowShelf.{apart_number}
use Rattle.tier_promise.proofs.NowOrder.{IsOrderly, LivesAs, IsFlightOf, flights-of, body-of, number-kept}

-- ---- what is shown is alive

abbrev LivesAt : StoredKey → Changes → Type 0
LivesAt k c = (w : Write) × (same_bytes (stored_key w.entry) k ≡ true) × IsAlive w c

lives-at : (k : StoredKey) (n : ℕ) (c : Changes) → LivesAs k n c → LivesAt k c
lives-at k n c l = (l.0, subst (λ (j : StoredKey). same_bytes (stored_key (l.0).entry) j ≡ true) l.1 (same_bytes-tells.itself (stored_key (l.0).entry)), l.3)

shown-lives : (k : StoredKey) (c : Changes) → IsOrderly c → shown k c ≢ None → LivesAt k c
shown-lives k c o some = by_flight (flying k c) (flights-of k c o) some
  where
    by_body : (b : Option Write) → body_of k c ≡ b → (b ≡ None → ⊥) → LivesAt k c
    by_body None is some = absurd (some refl)
    by_body (Some w) is some = lives-at k w.number c (body-of k c o w is).alive

    by_flight : (l : List Write) → AllByRecursion (IsFlightOf k c) l → (option_or (first_of l) (body_of k c) ≡ None → ⊥) → LivesAt k c
    by_flight [] all some = by_body (body_of k c) refl some
    by_flight (w ∷ l) all some = lives-at k w.number c all.0.alive

-- ---- what is alive is shown

-- the write of that number is in flight, or there is a body
abbrev IsThere : ℕ → StoredKey → Changes → Type 0
IsThere n k c = (is_some (find (has_number n) (flying k c)) ≡ true) ⊎ (is_some (body_of k c) ≡ true)

found_still : (p : Write → Bool) (xs : List Write) (y : Write) → is_some (find p xs) ≡ true → is_some (find p (xs ++ y ∷ [])) ≡ true
found_still p [] y e = absurd cc
found_still p (x ∷ xs) y e = by_test (p x) (λ f. found_still p xs y f) e
  where
    by_test : (v : Bool) → (is_some (find p xs) ≡ true → is_some (find p (xs ++ y ∷ [])) ≡ true) → is_some (cond v (Some x) (find p xs)) ≡ true → is_some (cond v (Some x) (find p (xs ++ y ∷ []))) ≡ true
    by_test true ih e = refl
    by_test false ih e = ih e

pub found_last : (p : Write → Bool) (xs : List Write) (y : Write) → p y ≡ true → is_some (find p (xs ++ y ∷ [])) ≡ true
found_last p [] y e = ap (λ (v : Bool). is_some (cond v (Some y) None)) e
found_last p (x ∷ xs) y e = by_test (p x) (found_last p xs y e)
  where
    by_test : (v : Bool) → is_some (find p (xs ++ y ∷ [])) ≡ true → is_some (cond v (Some x) (find p (xs ++ y ∷ []))) ≡ true
    by_test true ih = refl
    by_test false ih = ih

or_second : (a b : Option Write) → is_some b ≡ true → is_some (option_or a b) ≡ true
or_second None b e = e
or_second (Some w) b e = refl

or_first : (a b : Option Write) → is_some a ≡ true → is_some (option_or a b) ≡ true
or_first None b e = absurd cc
or_first (Some w) b e = refl

-- another landing leaves it in flight
flies_still : (n m : ℕ) (xs : List Write) → (m == n) ≡ false → find (has_number n) (filter (λ w. not (has_number m w)) xs) ≡ find (has_number n) xs
flies_still n m xs apart = find-kept (has_number n) (λ w. not (has_number m w)) xs
    (λ w e. ap not (apart_number m w.number (λ h. let same : n ≡ w.number = eqb-true n w.number e in let one : (m == n) ≡ true = eq-eqb m n (h ∙ sym same) in absurd cc)))

there-later : (n : ℕ) (k : StoredKey) (x : Change) (c : Changes) → ends_life k n x ≡ false → IsThere n k c → IsThere n k (x ∷ c)
there-later n k (begins w) c e t = by_key (same_bytes (stored_key w.entry) k) t
  where
    by_key : (v : Bool) → IsThere n k c → (is_some (find (has_number n) (cond v (flying k c ++ w ∷ []) (flying k c))) ≡ true) ⊎ (is_some (body_of k c) ≡ true)
    by_key false t = t
    by_key true t = elim t [ inl flies ↦ inl (found_still (has_number n) (flying k c) w flies) | inr body ↦ inr body ]
there-later n k (lands m true) c e t = by_number (m == n) refl t
  where
    by_number : (v : Bool) → (m == n) ≡ v → IsThere n k c → IsThere n k (lands m true ∷ c)
    by_number false v t = elim t [
      | inl flies ↦ inl (ap is_some (flies_still n m (flying k c) v) ∙ flies)
      | inr body ↦ inr (or_second (find (has_number m) (flying k c)) (body_of k c) body)
    ]
    by_number true v t = elim t [
      | inl flies ↦ inr (or_first (find (has_number m) (flying k c)) (body_of k c) (ap (λ (i : ℕ). is_some (find (has_number i) (flying k c))) (eqb-true m n v) ∙ flies))
      | inr body ↦ inr (or_second (find (has_number m) (flying k c)) (body_of k c) body)
    ]
there-later n k (lands m false) c e t = by_number (m == n) refl e
  where
    by_number : (v : Bool) → (m == n) ≡ v → (v && true) ≡ false → IsThere n k (lands m false ∷ c)
    by_number true v e = absurd cc
    by_number false v e = elim t [ inl flies ↦ inl (ap is_some (flies_still n m (flying k c) v) ∙ flies) | inr body ↦ inr body ]
there-later n k (takes x) c e t = elim t [
  | inl flies ↦ inl (ap (λ (v : Bool). is_some (find (has_number n) (cond v [] (flying k c)))) e ∙ flies)
  | inr body ↦ inr (ap (λ (v : Bool). is_some (cond v None (body_of k c))) e ∙ body)
]
there-later n k (renews m y meta) c e t = elim t [
  | inl flies ↦ inl (ap is_some (find-map (has_number n) (with_meta m y meta) (flying k c) (λ w. ap (λ (i : ℕ). n == i) (number-kept m y meta w))) ∙ some_mapped (find (has_number n) (flying k c)) flies)
  | inr body ↦ inr (some_mapped (body_of k c) body)
]
  where
    some_mapped : (o : Option Write) → is_some o ≡ true → is_some (option_map (with_meta m y meta) o) ≡ true
    some_mapped None e = absurd cc
    some_mapped (Some w) e = refl
there-later n k _ c e t = t

alive-there : (w : Write) (since before : Changes) → AllByRecursion (λ x. ends_life (stored_key w.entry) w.number x ≡ false) since → IsThere w.number (stored_key w.entry) (since ++ begins w ∷ before)
alive-there w [] before kept =
    inl (ap (λ (v : Bool). is_some (find (has_number w.number) (cond v (flying (stored_key w.entry) before ++ w ∷ []) (flying (stored_key w.entry) before)))) (same_bytes-tells.itself (stored_key w.entry))
    ∙ found_last (has_number w.number) (flying (stored_key w.entry) before) w (eq-eqb w.number w.number refl))
alive-there w (x ∷ since) before kept = there-later w.number (stored_key w.entry) x (since ++ begins w ∷ before) kept.0 (alive-there w since before kept.1)

first_there : (p : Write → Bool) (xs : List Write) (b : Option Write) → is_some (find p xs) ≡ true → option_or (first_of xs) b ≡ None → ⊥
first_there p [] b e none = absurd cc
first_there p (x ∷ xs) b e none = absurd cc

body_there : (a b : Option Write) → is_some b ≡ true → option_or a b ≡ None → ⊥
body_there None None e none = absurd cc
body_there None (Some w) e none = absurd cc
body_there (Some v) b e none = absurd cc

there-shown : (n : ℕ) (k : StoredKey) (c : Changes) → IsThere n k c → shown k c ≢ None
there-shown n k c t = elim t [ inl flies ↦ first_there (has_number n) (flying k c) (body_of k c) flies | inr body ↦ body_there (first_of (flying k c)) (body_of k c) body ]

lives-shown : (k : StoredKey) (c : Changes) → LivesAt k c → shown k c ≢ None
lives-shown k c l =
    let w : Write = l.0 in
    let a = l.2 in
    let there : IsThere w.number (stored_key w.entry) c = subst (λ (d : Changes). IsThere w.number (stored_key w.entry) d) (sym a.split) (alive-there w a.since a.before a.kept) in
    there-shown w.number k c (subst (λ (j : StoredKey). IsThere w.number j c) (same_bytes-tells.equal (stored_key w.entry) k l.1) there)

pub found-alive : (k : StoredKey) (c : Changes) → IsOrderly c → (shown k c ≢ None) ↔ ((w : Write) × (same_bytes (stored_key w.entry) k ≡ true) × IsAlive w c)
found-alive k c o = (shown-lives k c o, lives-shown k c)
