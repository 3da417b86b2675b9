-- Walks over the numbers at a key.
use Rattle.std.proofs.Common.{rules, ◌≡◌, ◌<◌, ◌+◌, ◌++◌, ◌∷◌, [], ℕ, Bool, true, false, refl, List, length, take, filter, map, ◌||◌, ap, sym, ◌∙◌, length-append}
use Rattle.std.specs.Prelude.{slice_get, unwrap_or, find, Some, None}
use Rattle.std.specs.List.{list_any}
use Rattle.std.specs.Option.{option_or}
use Rattle.std.proofs.Common.{drop}
use Rattle.std.proofs.lemmas.List.{take_more, take-append-drop}
use Rattle.std.proofs.lemmas.List.Elements.{filter-append}
use Rattle.std.proofs.lemmas.List.Folds.{find-append}
use Rattle.std.proofs.lemmas.Option.{unwrap_or-slice_get}
use Rattle.gateway_exchanges.specs.Replies.{Reply, with_wake}
use Rattle.gateway_tier.specs.Roles.{with_wakes}

pub any-map : {X Y : Type 0} (p : Y → Bool) (f : X → Y) (xs : List X) → list_any p (map f xs) ≡ list_any (λ x. p (f x)) xs
any-map p f [] = refl
any-map p f (x ∷ xs) = ap (λ b. p (f x) || b) (any-map p f xs)

-- the number at a place is passed
pub next_number : (xs : List ℕ) (i y : ℕ) → i < length xs → y ≡ unwrap_or (slice_get xs i) 0 → take (i + 1) xs ≡ take i xs ++ (y ∷ [])
next_number xs i y h e = rw (e, unwrap_or-slice_get xs i 0) (take_more xs i 0 h)

pub with_wakes-append : (xs ys : List ℕ) (r : Reply) → with_wakes (xs ++ ys) r ≡ with_wakes ys (with_wakes xs r)
with_wakes-append [] ys r = refl
with_wakes-append (x ∷ xs) ys r = with_wakes-append xs ys (with_wake x r)

filter-one : (p : ℕ → Bool) (y : ℕ) → p y ≡ true → filter p (y ∷ []) ≡ y ∷ []
filter-one p y h = search rules

filter-none : (p : ℕ → Bool) (y : ℕ) → p y ≡ false → filter p (y ∷ []) ≡ []
filter-none p y h = search rules

pub wakes_next : (p : ℕ → Bool) (xs : List ℕ) (i y : ℕ) (r : Reply) → i < length xs → y ≡ unwrap_or (slice_get xs i) 0 → p y ≡ true
    → with_wakes (filter p (take (i + 1) xs)) r ≡ with_wake y (with_wakes (filter p (take i xs)) r)
wakes_next p xs i y r h e t =
    ap (λ ys. with_wakes (filter p ys) r) (next_number xs i y h e)
    ∙ ap (λ ys. with_wakes ys r) (filter-append p (take i xs) (y ∷ []))
    ∙ ap (λ ys. with_wakes (filter p (take i xs) ++ ys) r) (filter-one p y t)
    ∙ with_wakes-append (filter p (take i xs)) (y ∷ []) r

nothing_behind : (xs : List ℕ) → xs ++ [] ≡ xs
nothing_behind [] = refl
nothing_behind (x ∷ xs) = ap (λ ys. x ∷ ys) (nothing_behind xs)

pub passes_next : (p : ℕ → Bool) (xs : List ℕ) (i y : ℕ) → i < length xs → y ≡ unwrap_or (slice_get xs i) 0 → p y ≡ false
    → filter p (take (i + 1) xs) ≡ filter p (take i xs)
passes_next p xs i y h e t =
    ap (filter p) (next_number xs i y h e)
    ∙ filter-append p (take i xs) (y ∷ [])
    ∙ ap (λ ys. filter p (take i xs) ++ ys) (filter-none p y t)
    ∙ nothing_behind (filter p (take i xs))

-- the next is one of those that are kept
pub keeps_next : (p : ℕ → Bool) (xs : List ℕ) (i y : ℕ) → i < length xs → y ≡ unwrap_or (slice_get xs i) 0 → p y ≡ true
    → filter p (take (i + 1) xs) ≡ filter p (take i xs) ++ (y ∷ [])
keeps_next p xs i y h e t =
    ap (filter p) (next_number xs i y h e)
    ∙ filter-append p (take i xs) (y ∷ [])
    ∙ ap (λ ys. filter p (take i xs) ++ ys) (filter-one p y t)

-- the next is one of those that are counted
pub counts_next : (p : ℕ → Bool) (xs : List ℕ) (i y : ℕ) → i < length xs → y ≡ unwrap_or (slice_get xs i) 0 → p y ≡ true
    → length (filter p (take (i + 1) xs)) ≡ length (filter p (take i xs)) + 1
counts_next p xs i y h e t =
    ap (λ ys. length (filter p ys)) (next_number xs i y h e)
    ∙ ap length (filter-append p (take i xs) (y ∷ []))
    ∙ ap (λ ys. length (filter p (take i xs) ++ ys)) (filter-one p y t)
    ∙ length-append (filter p (take i xs)) (y ∷ [])

find-one : (p : ℕ → Bool) (y : ℕ) → p y ≡ true → find p (y ∷ []) ≡ Some y
find-one p y h = search rules

find-none : (p : ℕ → Bool) (y : ℕ) → p y ≡ false → find p (y ∷ []) ≡ None
find-none p y h = search rules

-- none of those so far, nor the next
pub none_next : (p : ℕ → Bool) (xs : List ℕ) (i y : ℕ) → i < length xs → y ≡ unwrap_or (slice_get xs i) 0 → p y ≡ false
    → find p (take i xs) ≡ None → find p (take (i + 1) xs) ≡ None
none_next p xs i y h e t n =
    ap (find p) (next_number xs i y h e)
    ∙ find-append p (take i xs) (y ∷ [])
    ∙ ap (λ o. option_or o (find p (y ∷ []))) n
    ∙ find-none p y t

-- none of those so far, but the next: it is the first of all
pub first_next : (p : ℕ → Bool) (xs : List ℕ) (i y : ℕ) → i < length xs → y ≡ unwrap_or (slice_get xs i) 0 → p y ≡ true
    → find p (take i xs) ≡ None → find p xs ≡ Some y
first_next p xs i y h e t n =
    let so_far : find p (take (i + 1) xs) ≡ Some y =
    ap (find p) (next_number xs i y h e)
    ∙ find-append p (take i xs) (y ∷ [])
    ∙ ap (λ o. option_or o (find p (y ∷ []))) n
    ∙ find-one p y t
    in
    ap (find p) (sym (take-append-drop (i + 1) xs))
    ∙ find-append p (take (i + 1) xs) (drop (i + 1) xs)
    ∙ ap (λ o. option_or o (find p (drop (i + 1) xs))) so_far
