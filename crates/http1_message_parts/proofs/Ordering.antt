-- Parts in order: both halves in order, merged, are the whole in order.
use Rattle.std.proofs.Common.{◌≡◌, ℕ, ◌<◌, List, [], ◌∷◌, ◌++◌, length, take, drop, map, refl, sym, ap, ◌∙◌, Bool, true, false, cond, arith}
use Rattle.std.proofs.lemmas.List.{map-append, take-append-drop, length-map}
use Rattle.std.specs.Ordering.{is_lt, nat_cmp}
use Rattle.std.specs.Cmp.{IsStrictWeakOrder}
use Rattle.std.specs.Cmp.Lexicographic.{slice_cmp, nat_list_cmp_total}
use Rattle.std.proofs.lemmas.List.Sorted.{ranks_by}
use Rattle.http1_message_parts.specs.Query.{part_name, goes_before, in_front, in_order}
use Rattle.http1_message_parts.specs.Merging.{merged}

order : IsStrictWeakOrder (λ x y. is_lt (slice_cmp nat_cmp (part_name x) (part_name y)))
order = ranks_by nat_list_cmp_total part_name

-- before what goes before
chained : (y x p : List ℕ) → goes_before y x ≡ true → goes_before x p ≡ true → goes_before y p ≡ true
chained y x p h k = go (goes_before y p) refl
  where
    go : (t : Bool) → goes_before y p ≡ t → goes_before y p ≡ true
    go true e = e
    go false e = let back : goes_before p x ≡ false = order.one_way x p k in let none : goes_before y x ≡ false = order.chain y p x e back in cc

none_first : (ys : List (List ℕ)) → merged [] ys ≡ ys
none_first [] = refl
none_first (y ∷ ys) = refl

-- a part in front of merged lists goes in front of the first
fronted : (p : List ℕ) (xs ys : List (List ℕ)) → in_front p (merged xs ys) ≡ merged (in_front p xs) ys
fronted p xs [] = refl
fronted p [] (y ∷ ys) = go (goes_before y p) (ap (in_front p) (sym (none_first ys)) ∙ fronted p [] ys)
  where
    go : (t : Bool) → in_front p ys ≡ merged (p ∷ []) ys → cond t (y ∷ in_front p ys) (p ∷ y ∷ ys) ≡ cond t (y ∷ merged (p ∷ []) ys) (p ∷ y ∷ ys)
    go true ih = ap (λ l. y ∷ l) ih
    go false ih = refl
fronted p (x ∷ xs) (y ∷ ys) = go (goes_before y x) (goes_before x p) (goes_before y p) refl refl refl (fronted p xs (y ∷ ys)) (fronted p (x ∷ xs) ys)
  where
    -- y goes before x, x before p, y before p
    go : (a b c : Bool) → goes_before y x ≡ a → goes_before x p ≡ b → goes_before y p ≡ c
        → in_front p (merged xs (y ∷ ys)) ≡ merged (in_front p xs) (y ∷ ys)
        → in_front p (merged (x ∷ xs) ys) ≡ merged (in_front p (x ∷ xs)) ys
        → in_front p (cond a (y ∷ merged (x ∷ xs) ys) (x ∷ merged xs (y ∷ ys))) ≡ merged (cond b (x ∷ in_front p xs) (p ∷ x ∷ xs)) (y ∷ ys)
    go true true true ea eb ec h k = rw (ea, ec) (ap (λ l. y ∷ l) (k ∙ ap (λ (t : Bool). merged (cond t (x ∷ in_front p xs) (p ∷ x ∷ xs)) ys) eb))
    go true true false ea eb ec h k = let there : goes_before y p ≡ true = chained y x p ea eb in cc
    go true false true ea eb ec h k = rw (ec) (ap (λ l. y ∷ l) (k ∙ ap (λ (t : Bool). merged (cond t (x ∷ in_front p xs) (p ∷ x ∷ xs)) ys) eb))
    go true false false ea eb ec h k = rw (ec, ea) refl
    go false true true ea eb ec h k = rw (eb, ea) (ap (λ l. x ∷ l) h)
    go false true false ea eb ec h k = rw (eb, ea) (ap (λ l. x ∷ l) h)
    go false false true ea eb ec h k = let none : goes_before y p ≡ false = order.chain y x p ea eb in cc
    go false false false ea eb ec h k = rw (eb, ec, ea) refl

pub halves : (ps qs : List (List ℕ)) → in_order (ps ++ qs) ≡ merged (in_order ps) (in_order qs)
halves [] qs = sym (none_first (in_order qs))
halves (p ∷ ps) qs = ap (in_front p) (halves ps qs) ∙ fronted p (in_order ps) (in_order qs)

-- two parts of a list, as views of its elements
cut_in : {X : Type 0} (f : X → List ℕ) (n : ℕ) (xs a b : List X) → a ≡ take n xs → b ≡ drop n xs → map f a ++ map f b ≡ map f xs
cut_in f n xs a b p q =
    sym (map-append f a b) ∙ ap (λ l. map f (l ++ b)) p ∙ ap (λ l. map f (take n xs ++ l)) q ∙ ap (map f) (take-append-drop n xs)

pub whole : {X : Type 0} (f : X → List ℕ) (n : ℕ) (xs a b : List X) (first second all : List (List ℕ)) → a ≡ take n xs → b ≡ drop n xs
    → first ≡ in_order (map f a) → second ≡ in_order (map f b) → all ≡ merged first second → all ≡ in_order (map f xs)
whole f n xs a b first second all p q one two e =
    e ∙ ap (λ l. merged l second) one ∙ ap (merged (in_order (map f a))) two ∙ sym (halves (map f a) (map f b)) ∙ ap in_order (cut_in f n xs a b p q)

few : (ps : List (List ℕ)) → length ps < 2 → in_order ps ≡ ps
few [] h = refl
few (p ∷ []) h = refl
few (p ∷ q ∷ ps) h = absurd (omega arith)

pub short : {X : Type 0} (f : X → List ℕ) (xs all : List X) → length xs < 2 → all ≡ xs → map f all ≡ in_order (map f xs)
short f xs all h e =
    let same : length (map f xs) ≡ length xs = length-map xs f in
    ap (map f) e ∙ sym (few (map f xs) (omega (arith, same)))
