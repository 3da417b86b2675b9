-- Changes of a table.
use Rattle.std.specs.Prelude.{Box, option_copied, IfSome}
use Rattle.std.specs.Global.{Global}
use Rattle.std.proofs.Common.{◌≡◌, ℕ, ◌<◌, ◌≤◌, List, [], ◌∷◌, refl, ap, sym, ◌∙◌, subst, cond, true, false, Bool, not, filter, length, get_or, Bor, zero, suc, arith, rules}
use Rattle.std.specs.Prelude.{◌==◌, Option, Some, None, Result, Ok, Err, OnOk, OnErr, nat_eq, nat_lt, unwrap_or}
use Rattle.std.specs.List.{insert as insert_at}
use Rattle.std.specs.Ordering.{nat_cmp, eq_by_cmp}
use Rattle.std.specs.Cmp.Lexicographic.{slice_cmp, nat_list_cmp_total}
use Rattle.std.proofs.lemmas.Cmp.{nat_cmp_total}
use Rattle.std.proofs.lemmas.Bool.Decides.{nat_tests}
use Rattle.std.specs.FinMap.{FinMap, empty, get, insert, remove, get-empty, get-insert, get-remove, same_map, nat_cmp-IsAntisymmetric, slice_cmp-IsAntisymmetric}
use Rattle.gateway_exchanges.specs.declared.exchange.Exchange.{Exchange}
use Rattle.gateway_exchanges.specs.Places.{exchange_in}
use Rattle.gateway_exchanges.specs.Tables.{Exchanges, without_exchange, with_exchange, with_numbers, numbers_of, keys_left, added, others, IsAbove, IsRising, AreNumbers, IsIndex, AreNumbered}
use Rattle.gateway_exchanges.proofs.Places.{insert-same, remove-none, is_tie}

abbrev pub Places : Type 0
Places = FinMap nat_cmp (Option Exchange)

abbrev pub Keys : Type 0
Keys = FinMap (slice_cmp nat_cmp) (List ℕ)

pub at-places : (m n : Places) (k : Keys) → m ≡ n → ◌≡◌ {A = Exchanges} (record { places = m; keys = k }) (record { places = n; keys = k })
at-places m n k e = search rules

pub at-keys : (m : Places) (k l : Keys) → k ≡ l → ◌≡◌ {A = Exchanges} (record { places = m; keys = k }) (record { places = m; keys = l })
at-keys m k l e = search rules

-- ==== places

pub taken-out : (m : Places) (k : Keys) (x : ℕ) (o : Option Exchange) → get m x ≡ Some o → ◌≡◌ {A = Exchanges} (record { places = insert m x None; keys = k }) (without_exchange x (record { places = m; keys = k }))
taken-out m k x (Some e) there = rw there refl
taken-out m k x None there = rw there (at-places _ _ k (insert-same nat_cmp_total nat_cmp-IsAntisymmetric m x None there))

pub taken-nowhere : (m : Places) (k : Keys) (x : ℕ) → get m x ≡ None → ◌≡◌ {A = Exchanges} (record { places = m; keys = k }) (without_exchange x (record { places = m; keys = k }))
taken-nowhere m k x none = rw none refl

pub put-in : (m : Places) (k : Keys) (e : Exchange) (o : Option Exchange) → get m e.x ≡ Some o → ◌≡◌ {A = Exchanges} (record { places = insert m e.x (Some e); keys = k }) (with_exchange e (record { places = m; keys = k }))
put-in m k e o there = rw there refl

pub put-nowhere : (m : Places) (k : Keys) (e : Exchange) → get m e.x ≡ None → ◌≡◌ {A = Exchanges} (record { places = m; keys = k }) (with_exchange e (record { places = m; keys = k }))
put-nowhere m k e none = rw none refl

-- ==== numbers

above-more : (x y : ℕ) (ys : List ℕ) → x < y → IsAbove y ys → IsAbove x ys
above-more x y [] h a = tt
above-more x y (z ∷ zs) h a = (omega (arith, a.0), above-more x y zs h a.1)

above-others : (p : ℕ → Bool) (x : ℕ) (ys : List ℕ) → IsAbove x ys → IsAbove x (filter p ys)
above-others p x [] a = tt
above-others p x (y ∷ ys) a = elim (p y) as (λ t. IsAbove x (cond t (y ∷ filter p ys) (filter p ys))) [
  | true ↦ (a.0, above-others p x ys a.1)
  | false ↦ above-others p x ys a.1
]

rising-others : (p : ℕ → Bool) (ys : List ℕ) → IsRising ys → IsRising (filter p ys)
rising-others p [] r = tt
rising-others p (y ∷ ys) r = elim (p y) as (λ t. IsRising (cond t (y ∷ filter p ys) (filter p ys))) [
  | true ↦ (above-others p y ys r.0, rising-others p ys r.1)
  | false ↦ rising-others p ys r.1
]

pub index-without : (p : ℕ → Bool) (ys : List ℕ) → IsRising ys → IsRising (filter p ys)
index-without p ys r = rising-others p ys r

above-added : (x y : ℕ) (ys : List ℕ) → y < x → IsAbove y ys → IsAbove y (added x ys)
above-added x y [] h a = (h, tt)
above-added x y (z ∷ zs) h a = elim (nat_lt x z) as (λ t. IsAbove y (cond t (x ∷ z ∷ zs) (cond (nat_eq x z) (z ∷ zs) (z ∷ added x zs)))) [
  | true ↦ (h, a)
  | false ↦ elim (nat_eq x z) as (λ t. IsAbove y (cond t (z ∷ zs) (z ∷ added x zs))) [
    | true ↦ a
    | false ↦ (a.0, above-added x y zs h a.1)
  ]
]

above_is : (x y : ℕ) → nat_lt x y ≡ true → x < y
above_is x y e = grind (arith, nat_tests)

apart_is : (x y : ℕ) → nat_lt x y ≡ false → nat_eq x y ≡ false → y < x
apart_is x y e f = grind (arith, nat_tests)

rising-added : (x : ℕ) (ys : List ℕ) → IsRising ys → IsRising (added x ys)
rising-added x [] r = (tt, tt)
rising-added x (y ∷ ys) r = elim (nat_lt x y) as (λ t. nat_lt x y ≡ t → IsRising (cond t (x ∷ y ∷ ys) (cond (nat_eq x y) (y ∷ ys) (y ∷ added x ys)))) [
  | true ↦ λ h. ((above_is x y h, above-more x y ys (above_is x y h) r.0), r)
  | false ↦ λ h. elim (nat_eq x y) as (λ t. nat_eq x y ≡ t → IsRising (cond t (y ∷ ys) (y ∷ added x ys))) [
    | true ↦ λ e. r
    | false ↦ λ e. (above-added x y ys (apart_is x y h e) r.0, rising-added x ys r.1)
  ] refl
] refl

-- ==== what a search finds among rising numbers

less : (x y : ℕ) → x < y → nat_lt x y ≡ true
less x y h = grind (arith, nat_tests)

not_less : (x y : ℕ) → y ≤ x → nat_lt x y ≡ false
not_less x y h = grind (arith, nat_tests)

not_same : (x y : ℕ) → y < x → nat_eq x y ≡ false
not_same x y h = grind (arith, nat_tests)

itself : (x : ℕ) → nat_eq x x ≡ true
itself x = grind (arith, nat_tests)

above-at : (y : ℕ) (ys : List ℕ) (i : ℕ) → IsAbove y ys → i < length ys → y < get_or ys i 0
above-at y [] i a h = absurd (omega arith)
above-at y (z ∷ zs) zero a h = a.0
above-at y (z ∷ zs) (suc i) a h = above-at y zs i a.1 (omega arith)

pub rising-order : (ys : List ℕ) → IsRising ys → (i j : ℕ) → i ≤ j → j < length ys → get_or ys i 0 ≤ get_or ys j 0
rising-order [] r i j le h = absurd (omega arith)
rising-order (y ∷ ys) r zero zero le h = omega arith
rising-order (y ∷ ys) r zero (suc j) le h = let a : y < get_or ys j 0 = above-at y ys j r.0 (omega arith) in omega arith
rising-order (y ∷ ys) r (suc i) zero le h = absurd (omega arith)
rising-order (y ∷ ys) r (suc i) (suc j) le h = rising-order ys r.1 i j (omega arith) (omega arith)

pub added-there : (x : ℕ) (ys : List ℕ) (i : ℕ) → IsRising ys → i < length ys → get_or ys i 0 ≡ x → added x ys ≡ ys
added-there x [] i r h e = absurd (omega arith)
added-there x (y ∷ ys) zero r h e = rw (← e, not_less y y (omega arith), itself y) refl
added-there x (y ∷ ys) (suc i) r h e =
    let below : y < x = subst (λ n. y < n) e (above-at y ys i r.0 (omega arith)) in
    rw (not_less x y (omega arith), not_same x y below, added-there x ys i r.1 (omega arith) e) refl

pub added-inserted : (x : ℕ) (ys : List ℕ) (i : ℕ) → i ≤ length ys → ((k : ℕ) → k < i → get_or ys k 0 < x) → ((k : ℕ) → i ≤ k → k < length ys → x < get_or ys k 0) → added x ys ≡ insert_at ys i x
added-inserted x [] zero le below above = refl
added-inserted x [] (suc i) le below above = absurd (omega arith)
added-inserted x (y ∷ ys) zero le below above = rw (less x y (above 0 (omega arith) (omega arith))) refl
added-inserted x (y ∷ ys) (suc i) le below above =
    let first : y < x = below 0 (omega arith) in
    rw (not_less x y (omega arith), not_same x y first, added-inserted x ys i (omega arith) (λ k h. below (suc k) (omega arith)) (λ k h l. above (suc k) (omega arith) (omega arith))) refl

-- ==== an index

empties : (k l : List ℕ) (numbers : List ℕ) (keys : Keys) → IsIndex keys → IsRising numbers → (found : List ℕ) → get (with_numbers k numbers keys) l ≡ Some found → AreNumbers found
empties k l [] keys index r found e = kept (eq_by_cmp (slice_cmp nat_cmp) l k) (sym (get-remove nat_list_cmp_total keys k l) ∙ e)
  where
    kept : (t : Bool) → cond t None (get keys l) ≡ Some found → AreNumbers found
    kept true h = absurd cc
    kept false h = index l found h
empties k l (x ∷ xs) keys index r found e = put (eq_by_cmp (slice_cmp nat_cmp) l k) (sym (get-insert nat_list_cmp_total keys k (x ∷ xs) l) ∙ e)
  where
    put : (t : Bool) → cond t (Some (x ∷ xs)) (get keys l) ≡ Some found → AreNumbers found
    put true h = let same : x ∷ xs ≡ found = cc in subst AreNumbers same r
    put false h = index l found h

pub index-with : (k : List ℕ) (numbers : List ℕ) (keys : Keys) → IsIndex keys → IsRising numbers → IsIndex (with_numbers k numbers keys)
index-with k numbers keys index r = λ l found e. empties k l numbers keys index r found e

rises : (numbers : List ℕ) → AreNumbers numbers → IsRising numbers
rises [] a = absurd a
rises (x ∷ xs) a = a

pub numbers-rise : (keys : Keys) (k : List ℕ) → IsIndex keys → IsRising (numbers_of k keys)
numbers-rise keys k index = by (get keys k) refl
  where
    by : (o : Option (List ℕ)) → get keys k ≡ o → IsRising (unwrap_or o [])
    by None e = tt
    by (Some numbers) e = rises numbers (index k numbers e)

pub index-joined : (keys : Keys) (k : List ℕ) (x : ℕ) → IsIndex keys → IsIndex (with_numbers k (added x (numbers_of k keys)) keys)
index-joined keys k x index = index-with k _ keys index (rising-added x (numbers_of k keys) (numbers-rise keys k index))

pub index-left : (keys : Keys) (k : List ℕ) (x : ℕ) → IsIndex keys → IsIndex (with_numbers k (others x (numbers_of k keys)) keys)
index-left keys k x index = index-with k _ keys index (rising-others (λ y. not (nat_eq y x)) (numbers_of k keys) (numbers-rise keys k index))

pub index-left-if : (keys : Keys) (x : ℕ) (key : Option (List ℕ)) → IsIndex keys → IsIndex (keys_left x key keys)
index-left-if keys x None index = index
index-left-if keys x (Some key) index = index-left keys key x index

pub index-empty : IsIndex empty
index-empty k numbers e = let none : get (empty {X = List ℕ} {R = slice_cmp nat_cmp}) k ≡ None = get-empty (slice_cmp nat_cmp) k in absurd cc

-- ==== numbers that leave a key

removed-again : (keys : Keys) (k v : List ℕ) → remove (insert keys k v) k ≡ remove keys k
removed-again keys k v =
    same_map nat_list_cmp_total (slice_cmp-IsAntisymmetric nat_cmp-IsAntisymmetric) _ _
    (λ q. get-remove nat_list_cmp_total (insert keys k v) k q ∙ ap (cond (eq_by_cmp (slice_cmp nat_cmp) q k) None) (get-insert nat_list_cmp_total keys k v q) ∙ twice (eq_by_cmp (slice_cmp nat_cmp) q k) (Some v) (get keys q)
    ∙ sym (get-remove nat_list_cmp_total keys k q))
  where
    twice : (t : Bool) (a b : Option (List ℕ)) → cond t None (cond t a b) ≡ cond t None b
    twice true a b = refl
    twice false a b = refl

some-left : (l : List ℕ) (k : List ℕ) (keys : Keys) → (length l == 0) ≡ false → with_numbers k l keys ≡ insert keys k l
some-left [] k keys e = absurd cc
some-left (x ∷ xs) k keys e = refl

none-left : (l : List ℕ) (k : List ℕ) (keys : Keys) → (length l == 0) ≡ true → with_numbers k l keys ≡ remove keys k
none-left [] k keys e = refl
none-left (x ∷ xs) k keys e = absurd (grind (arith, nat_tests, e))

pub last-left : (old mid new : Keys) (k ns ms : List ℕ) (x : ℕ) → get old k ≡ Some ns → ms ≡ others x ns → mid ≡ insert old k ms → (length ms == 0) ≡ true → new ≡ remove mid k
    → new ≡ with_numbers k (others x (numbers_of k old)) old
last-left old mid new k ns ms x there is put none gone =
    gone ∙ ap (λ m. remove m k) put ∙ removed-again old k ms ∙ sym (none-left ms k old none) ∙ ap (λ l. with_numbers k l old) (is ∙ sym (ap (λ o. others x (unwrap_or o [])) there))

pub some-stay : (old mid : Keys) (k ns ms : List ℕ) (x : ℕ) → get old k ≡ Some ns → ms ≡ others x ns → mid ≡ insert old k ms → (length ms == 0) ≡ false
    → mid ≡ with_numbers k (others x (numbers_of k old)) old
some-stay old mid k ns ms x there is put some =
    put ∙ sym (some-left ms k old some) ∙ ap (λ l. with_numbers k l old) (is ∙ sym (ap (λ o. others x (unwrap_or o [])) there))

pub none-stay : (old : Keys) (k : List ℕ) (x : ℕ) → get old k ≡ None → old ≡ with_numbers k (others x (numbers_of k old)) old
none-stay old k x none =
    sym (ap (λ o. with_numbers k (others x (unwrap_or o [])) old) none ∙ remove-none nat_list_cmp_total (slice_cmp-IsAntisymmetric nat_cmp-IsAntisymmetric) old k none)

-- ==== numbers that join a key

some-added : (x : ℕ) (l k : List ℕ) (keys : Keys) → with_numbers k (added x l) keys ≡ insert keys k (added x l)
some-added x [] k keys = refl
some-added x (y ∷ ys) k keys = by (nat_lt x y) (nat_eq x y)
  where
    by : (t u : Bool) → with_numbers k (cond t (x ∷ y ∷ ys) (cond u (y ∷ ys) (y ∷ added x ys))) keys ≡ insert keys k (cond t (x ∷ y ∷ ys) (cond u (y ∷ ys) (y ∷ added x ys)))
    by true u = refl
    by false true = refl
    by false false = refl

pub joined-others : (old new : Keys) (k ns ms : List ℕ) (x : ℕ) → get old k ≡ Some ns → new ≡ insert old k ms → ms ≡ added x ns → new ≡ with_numbers k (added x (numbers_of k old)) old
joined-others old new k ns ms x there put is =
    put ∙ ap (insert old k) (is ∙ sym (ap (λ o. added x (unwrap_or o [])) there)) ∙ sym (some-added x (numbers_of k old) k old)

pub not-joined : (old new : Keys) (k ns ms : List ℕ) → get old k ≡ Some ns → new ≡ insert old k ms → ms ≡ ns → new ≡ old
not-joined old new k ns ms there put is = put ∙ ap (insert old k) is ∙ insert-same nat_list_cmp_total (slice_cmp-IsAntisymmetric nat_cmp-IsAntisymmetric) old k ns there

pub joined-first : (old new : Keys) (k : List ℕ) (x : ℕ) → get old k ≡ None → new ≡ insert old k (x ∷ []) → new ≡ with_numbers k (added x (numbers_of k old)) old
joined-first old new k x none put = put ∙ sym (ap (λ o. with_numbers k (added x (unwrap_or o [])) old) none)

pub there-rise : (keys : Keys) (k ns : List ℕ) → IsIndex keys → get keys k ≡ Some ns → IsRising ns
there-rise keys k ns index there = rises ns (index k ns there)

pub ok-map : {A E P Q : Type 0} (r : Result A E) → OnOk r P → (P → Q) → OnOk r Q
ok-map (Ok x) p f = f p
ok-map (Err e) p f = tt

pub err-map : {A E P Q : Type 0} (r : Result A E) → OnErr r P → (P → Q) → OnErr r Q
err-map (Ok x) p f = tt
err-map (Err e) p f = f p

pub index-either : {A E : Type 0} (r : Result A E) (old new joined : Keys) → OnOk r (new ≡ joined) → OnErr r (new ≡ old) → IsIndex joined → IsIndex old → IsIndex new
index-either (Ok x) old new joined is same a b = rw is a
index-either (Err e) old new joined is same a b = rw same b

-- ==== who stands where

same_number : (q k : ℕ) → eq_by_cmp nat_cmp q k ≡ true → q ≡ k
same_number q k e = nat_cmp-IsAntisymmetric q k (is_tie (nat_cmp q k) e)

pub numbered-empty : AreNumbered empty
numbered-empty x e there = let none : get (empty {X = Option Exchange} {R = nat_cmp}) x ≡ None = get-empty nat_cmp x in absurd cc

pub numbered-none : (m : Places) (k : ℕ) → AreNumbered m → AreNumbered (insert m k None)
numbered-none m k h x e there = by (eq_by_cmp nat_cmp x k) (sym (get-insert nat_cmp_total m k None x) ∙ there)
  where
    by : (t : Bool) → cond t (Some None) (get m x) ≡ Some (Some e) → e.x ≡ x
    by true f = absurd (let none : None ≡ Some e = cc in cc)
    by false f = h x e f

inner : {A : Type 0} (a b : A) → Some (Some a) ≡ Some (Some b) → a ≡ b
inner a b e = cc

pub numbered-some : (m : Places) (e : Exchange) → AreNumbered m → AreNumbered (insert m e.x (Some e))
numbered-some m f h x e there = by (eq_by_cmp nat_cmp x f.x) refl (sym (get-insert nat_cmp_total m f.x (Some f) x) ∙ there)
  where
    by : (t : Bool) → eq_by_cmp nat_cmp x f.x ≡ t → cond t (Some (Some f)) (get m x) ≡ Some (Some e) → e.x ≡ x
    by true s g = ap (λ (d : Exchange). d.x) (sym (inner f e g)) ∙ sym (same_number x f.x s)
    by false s g = h x e g

pub numbered-removed : (m : Places) (k : ℕ) → AreNumbered m → AreNumbered (remove m k)
numbered-removed m k h x e there = by (eq_by_cmp nat_cmp x k) (sym (get-remove nat_cmp_total m k x) ∙ there)
  where
    by : (t : Bool) → cond t None (get m x) ≡ Some (Some e) → e.x ≡ x
    by true f = absurd cc
    by false f = h x e f

pub numbered-in : (m : Places) (x : ℕ) (o : Option (Box Exchange Global)) → AreNumbered m → get m x ≡ Some (exchange_in o) → IfSome o (λ b. b.value.x ≡ x)
numbered-in m x None h there = tt
numbered-in m x (Some b) h there = h x b.value there

pub numbered-lent : (m : Places) (x : ℕ) (r : Option (Bor Exchange)) (o : Option Exchange) → AreNumbered m → get m x ≡ Some o → option_copied r ≡ o → IfSome r (λ e. e.now.x ≡ x)
numbered-lent m x None o h there is = tt
numbered-lent m x (Some e) o h there is = h x e.now (there ∙ ap Some (sym is))
