-- Names in the order of the alphabet.
use Rattle.std.proofs.Common.{◌≡◌, ℕ, Ordering, Less, Equal, Greater, List, [], ◌∷◌, ◌++◌, refl, sym, ap, ◌∙◌, Bool, true, false, not, ◌&&◌, ◌||◌, ◌==◌, cond, map, drop, ◌+◌, ◌<◌, length, get_or, suc, arith}
use Rattle.std.specs.Prelude.{bytes_eq, nat_lt}
use Rattle.std.specs.List.{fold, insert, position_or_len, list_any}
use Rattle.std.specs.Cmp.Lexicographic.{bytes_decides, slice_cmp, nat_list_cmp_total}
use Rattle.std.specs.Ordering.{match_ordering, is_eq, nat_cmp}
use Rattle.std.specs.BTreeSet.{insert_key}
use Rattle.std.proofs.lemmas.Bool.{ltb-false, eqb-false, eqb-true, eq-eqb, ne_eqb, cond-true, cond-false}
use Rattle.std.proofs.lemmas.List.{drop_more}
use Rattle.rules_fields.specs.Tables.{among}
use Rattle.rules_storage.specs.Selecting.{goes_before, placed, goes_first, ascends}

or_none : (a : Bool) → (a || false) ≡ a
or_none true = refl
or_none false = refl

or_same : (a b : Bool) → (a || b) ≡ (b || a)
or_same true true = refl
or_same true false = refl
or_same false true = refl
or_same false false = refl

or_more : (a b c : Bool) → (a || (b || c)) ≡ ((a || b) || c)
or_more true b c = refl
or_more false b c = refl

or_first : (a b : Bool) → (a || b) ≡ false → a ≡ false
or_first true b h = cc
or_first false b h = refl

or_second : (a b : Bool) → (a || b) ≡ false → b ≡ false
or_second true b h = cc
or_second false b h = h

and_both : (a b : Bool) → a ≡ true → b ≡ true → (a && b) ≡ true
and_both a b p q = rw (p, q) refl

and_first : (a b : Bool) → (a && b) ≡ true → a ≡ true
and_first true b h = refl
and_first false b h = cc

and_second : (a b : Bool) → (a && b) ≡ true → b ≡ true
and_second true b h = h
and_second false b h = cc

and_rest : (a b : Bool) → a ≡ true → (a && b) ≡ false → b ≡ false
and_rest true b p h = h
and_rest false b p h = cc

below : (x y : ℕ) → nat_lt x y ≡ false → (x == y) ≡ false → nat_lt y x ≡ true
below x y h k = grind (arith, ltb-false x y h, eqb-false x y k)

-- of two names that differ one goes before the other
turned : (a b : List ℕ) → goes_before a b ≡ false → bytes_eq a b ≡ false → goes_before b a ≡ true
turned [] [] h e = cc
turned [] (y ∷ b) h e = cc
turned (x ∷ a) [] h e = refl
turned (x ∷ a) (y ∷ b) h e = go (x == y) refl (turned a b)
  where
    go : (t : Bool) → (x == y) ≡ t → (goes_before a b ≡ false → bytes_eq a b ≡ false → goes_before b a ≡ true) → goes_before (y ∷ b) (x ∷ a) ≡ true
    go true k rest =
        cond-true (y == x) (goes_before b a) (nat_lt y x) (eq-eqb y x (sym (eqb-true x y k)))
        ∙ rest (sym (cond-true (x == y) (goes_before a b) (nat_lt x y) k) ∙ h) (and_rest (x == y) (bytes_eq a b) k e)
    go false k rest =
        cond-false (y == x) (goes_before b a) (nat_lt y x) (ne_eqb y x (λ s. eqb-false x y k (sym s)))
        ∙ below x y (sym (cond-false (x == y) (goes_before a b) (nat_lt x y) k) ∙ h) k

-- a name at its place
put : List (List ℕ) → List ℕ → List (List ℕ)
put names name = insert names (position_or_len (goes_before name) names) name

put_none : (name : List ℕ) → put [] name ≡ name ∷ []
unfolding put
put_none name = refl

one_more : (k : ℕ) → 1 + k ≡ suc k
one_more k = omega arith

one_behind : (k : ℕ) (n name : List ℕ) (names : List (List ℕ)) → insert (n ∷ names) (1 + k) name ≡ n ∷ insert names k name
one_behind k n name names = ap (λ (m : ℕ). insert (n ∷ names) m name) (one_more k)

put_step : (name n : List ℕ) (names : List (List ℕ)) → put (n ∷ names) name ≡ cond (goes_before name n) (name ∷ n ∷ names) (n ∷ put names name)
unfolding put
put_step name n names = go (goes_before name n) refl
  where
    go : (t : Bool) → goes_before name n ≡ t → put (n ∷ names) name ≡ cond t (name ∷ n ∷ names) (n ∷ put names name)
    go true e = rw e refl
    go false e = rw e (one_behind (position_or_len (goes_before name) names) n name names)

first_put : (name n : List ℕ) (names : List (List ℕ)) → goes_before n name ≡ true → goes_first n names ≡ true → goes_first n (put names name) ≡ true
first_put name n [] t g = rw (put_none name) t
first_put name n (m ∷ names) t g = rw (put_step name m names) (go (goes_before name m))
  where
    go : (b : Bool) → goes_first n (cond b (name ∷ m ∷ names) (m ∷ put names name)) ≡ true
    go true = t
    go false = g

put_ascends : (name : List ℕ) (names : List (List ℕ)) → among names name ≡ false → ascends names ≡ true → ascends (put names name) ≡ true
put_ascends name [] f a = rw (put_none name) refl
put_ascends name (n ∷ names) f a =
    rw (put_step name n names)
    (go (goes_before name n) refl (put_ascends name names (or_second (bytes_eq name n) (among names name) f) (and_second (goes_first n names) (ascends names) a)))
  where
    go : (t : Bool) → goes_before name n ≡ t → ascends (put names name) ≡ true → ascends (cond t (name ∷ n ∷ names) (n ∷ put names name)) ≡ true
    go true e rest = and_both (goes_before name n) (ascends (n ∷ names)) e a
    go false e rest =
        and_both (goes_first n (put names name)) (ascends (put names name))
        (first_put name n names (turned name n e (or_first (bytes_eq name n) (among names name) f)) (and_first (goes_first n names) (ascends names) a)) rest

placed_is : (names : List (List ℕ)) (name : List ℕ) → placed names name ≡ cond (among names name) names (put names name)
unfolding put
placed_is names name = refl

placed_ascends : (names : List (List ℕ)) (name : List ℕ) → ascends names ≡ true → ascends (placed names name) ≡ true
placed_ascends names name a = rw (placed_is names name) (go (among names name) refl)
  where
    go : (t : Bool) → among names name ≡ t → ascends (cond t names (put names name)) ≡ true
    go true e = a
    go false e = put_ascends name names e a

fold_ascends : (names found : List (List ℕ)) → ascends found ≡ true → ascends (fold placed found names) ≡ true
fold_ascends [] found a = a
fold_ascends (n ∷ names) found a = fold_ascends names (placed found n) (placed_ascends found n a)

pub all_ascend : (names : List (List ℕ)) → ascends (fold placed [] names) ≡ true
all_ascend names = fold_ascends names [] refl

put_there : (n : List ℕ) (names : List (List ℕ)) (name : List ℕ) → among (put names n) name ≡ (among names name || bytes_eq name n)
put_there n [] name = rw (put_none n) (or_none (bytes_eq name n))
put_there n (m ∷ names) name = rw (put_step n m names) (go (goes_before n m) (put_there n names name))
  where
    go : (t : Bool) → among (put names n) name ≡ (among names name || bytes_eq name n) → among (cond t (n ∷ m ∷ names) (m ∷ put names n)) name ≡ (among (m ∷ names) name || bytes_eq name n)
    go true rest = or_same (bytes_eq name n) (among (m ∷ names) name)
    go false rest = ap (λ (b : Bool). bytes_eq name m || b) rest ∙ or_more (bytes_eq name m) (among names name) (bytes_eq name n)

placed_there : (names : List (List ℕ)) (n name : List ℕ) → among (placed names n) name ≡ (among names name || bytes_eq name n)
placed_there names n name = rw (placed_is names n) (go (among names n) refl)
  where
    same : (b : Bool) → bytes_eq name n ≡ b → among names n ≡ true → among names name ≡ (among names name || b)
    same true e h = let at : name ≡ n = (bytes_decides name n).0 e in rw at (rw h refl)
    same false e h = sym (or_none (among names name))

    go : (t : Bool) → among names n ≡ t → among (cond t names (put names n)) name ≡ (among names name || bytes_eq name n)
    go true e = same (bytes_eq name n) refl e
    go false e = put_there n names name

fold_there : (names found : List (List ℕ)) (name : List ℕ) → among (fold placed found names) name ≡ (among found name || among names name)
fold_there [] found name = sym (or_none (among found name))
fold_there (n ∷ names) found name =
    fold_there names (placed found n) name ∙ ap (λ (b : Bool). b || among names name) (placed_there found n name)
    ∙ sym (or_more (among found name) (bytes_eq name n) (among names name))

pub all_there : (names : List (List ℕ)) (name : List ℕ) → among (fold placed [] names) name ≡ among names name
all_there names name = fold_there names [] name

equal_is_not_less : (x y : ℕ) → (x == y) ≡ true → nat_lt x y ≡ false
equal_is_not_less x y h = grind (arith, eqb-true x y h)

-- how names compare
name_cmp : (a b : List ℕ) → slice_cmp nat_cmp a b ≡ cond (goes_before a b) Less (cond (bytes_eq a b) Equal Greater)
name_cmp [] [] = refl
name_cmp [] (y ∷ b) = refl
name_cmp (x ∷ a) [] = refl
name_cmp (x ∷ a) (y ∷ b) = go (x == y) refl (nat_lt x y) refl (name_cmp a b)
  where
    go : (s : Bool) → (x == y) ≡ s → (t : Bool) → nat_lt x y ≡ t → slice_cmp nat_cmp a b ≡ cond (goes_before a b) Less (cond (bytes_eq a b) Equal Greater)
        → slice_cmp nat_cmp (x ∷ a) (y ∷ b) ≡ cond (goes_before (x ∷ a) (y ∷ b)) Less (cond (bytes_eq (x ∷ a) (y ∷ b)) Equal Greater)
    go true e true l h = let never = equal_is_not_less x y e in cc
    go true e false l h = rw (e, l) h
    go false e true l h = rw (e, l) refl
    go false e false l h = rw (e, l) refl

first_is_less : (a b : List ℕ) → goes_before a b ≡ true → slice_cmp nat_cmp a b ≡ Less
first_is_less a b h = name_cmp a b ∙ ap (λ t. cond t Less (cond (bytes_eq a b) Equal Greater)) h

less_is_first : (a b : List ℕ) → slice_cmp nat_cmp a b ≡ Less → goes_before a b ≡ true
less_is_first a b h = go (goes_before a b) (bytes_eq a b) (sym (name_cmp a b) ∙ h)
  where
    go : (s t : Bool) → cond s Less (cond t Equal Greater) ≡ Less → s ≡ true
    go true t e = refl
    go false true e = cc
    go false false e = cc

goes_on : (a b c : List ℕ) → goes_before a b ≡ true → goes_before b c ≡ true → goes_before a c ≡ true
goes_on a b c h k = less_is_first a c (nat_list_cmp_total.trans a b c (first_is_less a b h) (first_is_less b c k))

not_itself : (a : List ℕ) → goes_before a a ≡ false
not_itself [] = refl
not_itself (x ∷ a) = cond-true (x == x) (goes_before a a) (nat_lt x x) (eq-eqb x x refl) ∙ not_itself a

first_is_other : (a b : List ℕ) → goes_before a b ≡ true → bytes_eq a b ≡ false
first_is_other a b h = go (bytes_eq a b) refl
  where
    go : (t : Bool) → bytes_eq a b ≡ t → t ≡ false
    go true e = let same : goes_before a b ≡ false = ap (goes_before a) (sym ((bytes_decides a b).0 e)) ∙ not_itself a in cc
    go false e = refl

-- what goes before all of them isn't one of them
not_there : (n m : List ℕ) (names : List (List ℕ)) → goes_before n m ≡ true → ascends (m ∷ names) ≡ true → among (m ∷ names) n ≡ false
not_there n m [] h a = rw (first_is_other n m h) refl
not_there n m (k ∷ names) h a =
    rw (first_is_other n m h)
    (not_there n k names (goes_on n m k h (and_first (goes_before m k) (ascends (k ∷ names)) a)) (and_second (goes_before m k) (ascends (k ∷ names)) a))

by_bytes : {X : Type 0} → (X → List ℕ) → X → X → Ordering
by_bytes f a b = slice_cmp nat_cmp (f a) (f b)

same_first : (t : Bool) (x : List ℕ) (a b : List (List ℕ)) → cond t (x ∷ a) (x ∷ b) ≡ x ∷ cond t a b
same_first true x a b = refl
same_first false x a b = refl

-- a name at its place behind one that stays first
placed_behind : (n name : List ℕ) (names : List (List ℕ)) → goes_before name n ≡ false → bytes_eq name n ≡ false → placed (n ∷ names) name ≡ n ∷ placed names name
placed_behind n name names s e =
    placed_is (n ∷ names) name ∙ ap (λ t. cond t (n ∷ names) (put (n ∷ names) name)) (ap (λ t. t || among names name) e)
    ∙ ap (λ t. cond (among names name) (n ∷ names) t) (put_step name n names ∙ cond-false (goes_before name n) (name ∷ n ∷ names) (n ∷ put names name) s)
    ∙ same_first (among names name) n names (put names name) ∙ ap (λ t. n ∷ t) (sym (placed_is names name))

placed_in_front : (n name : List ℕ) (names : List (List ℕ)) → goes_before name n ≡ true → ascends (n ∷ names) ≡ true → placed (n ∷ names) name ≡ name ∷ n ∷ names
placed_in_front n name names s a =
    placed_is (n ∷ names) name ∙ cond-false (among (n ∷ names) name) (n ∷ names) (put (n ∷ names) name) (not_there name n names s a)
    ∙ put_step name n names ∙ cond-true (goes_before name n) (name ∷ n ∷ names) (n ∷ put names name) s

placed_twice : (n name : List ℕ) (names : List (List ℕ)) → bytes_eq name n ≡ true → placed (n ∷ names) name ≡ n ∷ names
placed_twice n name names e = placed_is (n ∷ names) name ∙ cond-true (among (n ∷ names) name) (n ∷ names) (put (n ∷ names) name) (ap (λ t. t || among names name) e)

-- a set of texts, seen as their bytes, takes one at its place
set_placed : {X : Type 0} (f : X → List ℕ) (keys : List X) (key : X) → ascends (map f keys) ≡ true → map f (insert_key (by_bytes f) keys key) ≡ placed (map f keys) (f key)
unfolding by_bytes
set_placed f [] key a = sym (placed_is [] (f key) ∙ put_none (f key))
set_placed f (x ∷ xs) key a =
    go (slice_cmp nat_cmp (f key) (f x)) (goes_before (f key) (f x)) refl (bytes_eq (f key) (f x)) refl (name_cmp (f key) (f x))
    (set_placed f xs key (and_second (goes_first (f x) (map f xs)) (ascends (map f xs)) a))
  where
    go : (o : Ordering) (s : Bool) → goes_before (f key) (f x) ≡ s → (t : Bool) → bytes_eq (f key) (f x) ≡ t → o ≡ cond s Less (cond t Equal Greater)
        → map f (insert_key (by_bytes f) xs key) ≡ placed (map f xs) (f key)
        → map f (match_ordering o (key ∷ x ∷ xs) (x ∷ xs) (x ∷ insert_key (by_bytes f) xs key)) ≡ placed (f x ∷ map f xs) (f key)
    go o true s t e is h = rw is (sym (placed_in_front (f x) (f key) (map f xs) s a))
    go o false s true e is h = rw is (sym (placed_twice (f x) (f key) (map f xs) e))
    go o false s false e is h = rw is (ap (λ t. f x ∷ t) h ∙ sym (placed_behind (f x) (f key) (map f xs) s e))

-- one more text of a list is placed
pub more_placed : {X Y : Type 0} (f : X → List ℕ) (text : Y → List ℕ) (texts : List Y → List (List ℕ)) (old new : List X) (key : X) (found : List Y) (i : ℕ) (d : Y) (all : List (List ℕ))
    → ((y : Y) (ys : List Y) → texts (y ∷ ys) ≡ text y ∷ texts ys)
    → new ≡ insert_key (λ a b. slice_cmp nat_cmp (f a) (f b)) old key → f key ≡ text (get_or found i d) → i < length found
    → (fold placed (map f old) (texts (drop i found)) ≡ all) × (ascends (map f old) ≡ true)
    → (fold placed (map f new) (texts (drop (i + 1) found)) ≡ all) × (ascends (map f new) ≡ true)
unfolding by_bytes
more_placed f text texts old new key found i d all next made is within h =
    let at : map f new ≡ placed (map f old) (text (get_or found i d)) = ap (map f) made ∙ set_placed f old key h.1 ∙ ap (placed (map f old)) is in
    let ahead = ap texts (drop_more found i d within) ∙ next (get_or found i d) (drop (i + 1) found) in
    let left = sym (ap (fold placed (map f old)) ahead) ∙ h.0 in
    (ap (λ t. fold placed t (texts (drop (i + 1) found))) at ∙ left, ap ascends at ∙ placed_ascends (map f old) (text (get_or found i d)) h.1)

same_by_cmp : (a b : List ℕ) → is_eq (slice_cmp nat_cmp a b) ≡ bytes_eq a b
same_by_cmp a b = go (goes_before a b) refl (bytes_eq a b) refl (name_cmp a b)
  where
    go : (s : Bool) → goes_before a b ≡ s → (t : Bool) → bytes_eq a b ≡ t → slice_cmp nat_cmp a b ≡ cond s Less (cond t Equal Greater) → is_eq (slice_cmp nat_cmp a b) ≡ t
    go true e t h is = rw is (sym (first_is_other a b e) ∙ h)
    go false e true h is = rw is refl
    go false e false h is = rw is refl

-- a text is in a set of texts, seen as their bytes, if it's among them
pub there_by_cmp : {X : Type 0} (f : X → List ℕ) (name : List ℕ) (keys : List X) → list_any (λ k. is_eq (slice_cmp nat_cmp name (f k))) keys ≡ among (map f keys) name
there_by_cmp f name [] = refl
there_by_cmp f name (x ∷ xs) = λ i. same_by_cmp name (f x) i || there_by_cmp f name xs i
