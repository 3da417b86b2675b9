-- What becomes of the places where a slot changes.
use Rattle.std.proofs.Common.{◌≡◌, ◌≢◌, ℕ, zero, suc, ◌+◌, ◌-◌, ◌≤◌, ◌<◌, eqb, Bool, true, false, cond, List, [], ◌∷◌, Some, None, refl, ap, ap₂, sym, ◌∙◌, arith, take, length, get_or, set, sum}
use Rattle.std.specs.Prelude.{option_map}
use Rattle.std.proofs.lemmas.Bool.{eqb-true, eq-eqb, false≢true}
use Rattle.std.proofs.lemmas.List.Sums.{sum_by-cons}
use Rattle.curve_heights.specs.declared.place.Place.{Place}
use Rattle.curve_heights.specs.Places.{height, without, filled}
use Rattle.curve_heights.specs.Slots.{nobody, places_in, gaps_in}

abbrev pub size : ℕ → ℕ
size n = n

abbrev pub at : List ℕ → ℕ → ℕ
at xs q = get_or xs q 0

-- ---- heights

-- an entry that no slot has
pub height-none : (e g : ℕ) (os ws : List ℕ) → ((k : ℕ) → k < length os → at os k ≢ nobody → at os k ≢ e) → height e (places_in g os ws) ≡ None
height-none e g [] ws h = refl
height-none e g (o ∷ os) [] h = refl
height-none e g (o ∷ os) (w ∷ ws) h = by_test (eqb o nobody) (eqb o e) refl refl (λ g. height-none e g os ws (λ k l. h (suc k) (omega (arith, l))))
  where
    by_test : (t u : Bool) → eqb o nobody ≡ t → eqb o e ≡ u → ((g : ℕ) → height e (places_in g os ws) ≡ None)
        → height e (cond t (places_in (g + w) os ws) (record { holes = g; entry = o; weight = w } ∷ places_in 0 os ws)) ≡ None
    by_test true u j i more = more (g + w)
    by_test false true j i more = absurd (h 0 (omega arith) (λ q. false≢true (sym j ∙ eq-eqb o nobody q)) (eqb-true o e i))
    by_test false false j i more = rw i (ap (option_map (λ m. g + w + m)) (more 0))

pub height-slot : (e g : ℕ) (os ws : List ℕ) (q : ℕ) → e ≢ nobody → length ws ≡ length os → q < length os → at os q ≡ e → ((k : ℕ) → k < length os → at os k ≡ e → k ≡ q)
    → height e (places_in g os ws) ≡ Some (g + sum (take (suc q) ws))
height-slot e g [] ws q n s l h u = absurd (omega (arith, l))
height-slot e g (o ∷ os) [] q n s l h u = absurd (omega (arith, s))
height-slot e g (o ∷ os) (w ∷ ws) zero n s l h u = rw (ne, eq-eqb o e h) (ap (λ (m : ℕ). Some m) z)
  where
    ne : eqb o nobody ≡ false
    ne = by (eqb o nobody) refl
      where
        by : (t : Bool) → eqb o nobody ≡ t → t ≡ false
        by true i = absurd (n (sym h ∙ eqb-true o nobody i))
        by false i = refl

    z : g + w ≡ g + sum (w ∷ [])
    z = let c = sum_by-cons size w [] in omega (arith, c)
height-slot e g (o ∷ os) (w ∷ ws) (suc q) n s l h u =
    by_test (eqb o nobody) (eqb o e) refl (λ g. height-slot e g os ws q n (omega (arith, s)) (omega (arith, l)) h (λ k m i. let j = u (suc k) (omega (arith, m)) i in omega (arith, j)))
  where
    c : sum (w ∷ take (suc q) ws) ≡ w + sum (take (suc q) ws)
    c = sum_by-cons size w (take (suc q) ws)

    by_test : (t v : Bool) → eqb o e ≡ v → ((g : ℕ) → height e (places_in g os ws) ≡ Some (g + sum (take (suc q) ws)))
        → height e (cond t (places_in (g + w) os ws) (record { holes = g; entry = o; weight = w } ∷ places_in 0 os ws)) ≡ Some (g + sum (w ∷ take (suc q) ws))
    by_test true v i more = let z : g + w + sum (take (suc q) ws) ≡ g + sum (w ∷ take (suc q) ws) = omega (arith, c) in more (g + w) ∙ ap (λ (m : ℕ). Some m) z
    by_test false true i more = absurd (let j = u 0 (omega arith) (eqb-true o e i) in omega (arith, j))
    by_test false false i more =
        let z : g + w + (0 + sum (take (suc q) ws)) ≡ g + sum (w ∷ take (suc q) ws) = omega (arith, c) in
        rw i (ap (option_map (λ m. g + w + m)) (more 0) ∙ ap (λ (m : ℕ). Some m) z)

-- ---- an entry leaves

pub without-none : (e b g : ℕ) (os ws : List ℕ) → ((k : ℕ) → k < length os → at os k ≢ nobody → at os k ≢ e) → places_in (b + g) os ws ≡ without e b (places_in g os ws)
without-none e b g [] ws h = refl
without-none e b g (o ∷ os) [] h = refl
without-none e b g (o ∷ os) (w ∷ ws) h = by_test (eqb o nobody) (eqb o e) refl refl (λ b g. without-none e b g os ws (λ k l. h (suc k) (omega (arith, l))))
  where
    by_test : (t u : Bool) → eqb o nobody ≡ t → eqb o e ≡ u → ((b g : ℕ) → places_in (b + g) os ws ≡ without e b (places_in g os ws))
        → cond t (places_in (b + g + w) os ws) (record { holes = b + g; entry = o; weight = w } ∷ places_in 0 os ws)
        ≡ without e b (cond t (places_in (g + w) os ws) (record { holes = g; entry = o; weight = w } ∷ places_in 0 os ws))
    by_test true u j i more = let z : b + g + w ≡ b + (g + w) = omega arith in ap (λ (m : ℕ). places_in m os ws) z ∙ more b (g + w)
    by_test false true j i more = absurd (h 0 (omega arith) (λ q. false≢true (sym j ∙ eq-eqb o nobody q)) (eqb-true o e i))
    by_test false false j i more =
        let z : 0 ≡ 0 + 0 = omega arith in
        rw i (ap (λ (l : List Place). record { holes = b + g; entry = o; weight = w } ∷ l) (ap (λ (m : ℕ). places_in m os ws) z ∙ more 0 0))

pub without-slot : (e b g : ℕ) (os ws : List ℕ) (q : ℕ) → e ≢ nobody → length ws ≡ length os → q < length os → at os q ≡ e → ((k : ℕ) → k < length os → at os k ≡ e → k ≡ q)
    → places_in (b + g) (set os q nobody) ws ≡ without e b (places_in g os ws)
without-slot e b g [] ws q n s l h u = absurd (omega (arith, l))
without-slot e b g (o ∷ os) [] q n s l h u = absurd (omega (arith, s))
without-slot e b g (o ∷ os) (w ∷ ws) zero n s l h u = rw (ne, eq-eqb o e h) (z ∙ without-none e (b + g + w) 0 os ws (λ k m _ i. let j = u (suc k) (omega (arith, m)) i in omega (arith, j)))
  where
    ne : eqb o nobody ≡ false
    ne = by (eqb o nobody) refl
      where
        by : (t : Bool) → eqb o nobody ≡ t → t ≡ false
        by true i = absurd (n (sym h ∙ eqb-true o nobody i))
        by false i = refl

    z : places_in (b + g + w) os ws ≡ places_in (b + g + w + 0) os ws
    z = let y : b + g + w ≡ b + g + w + 0 = omega arith in ap (λ (m : ℕ). places_in m os ws) y
without-slot e b g (o ∷ os) (w ∷ ws) (suc q) n s l h u =
    by_test (eqb o nobody) (eqb o e) refl (λ b g. without-slot e b g os ws q n (omega (arith, s)) (omega (arith, l)) h (λ k m i. let j = u (suc k) (omega (arith, m)) i in omega (arith, j)))
  where
    by_test : (t v : Bool) → eqb o e ≡ v → ((b g : ℕ) → places_in (b + g) (set os q nobody) ws ≡ without e b (places_in g os ws))
        → cond t (places_in (b + g + w) (set os q nobody) ws) (record { holes = b + g; entry = o; weight = w } ∷ places_in 0 (set os q nobody) ws)
        ≡ without e b (cond t (places_in (g + w) os ws) (record { holes = g; entry = o; weight = w } ∷ places_in 0 os ws))
    by_test true v i more = let z : b + g + w ≡ b + (g + w) = omega arith in ap (λ (m : ℕ). places_in m (set os q nobody) ws) z ∙ more b (g + w)
    by_test false true i more = absurd (let j = u 0 (omega arith) (eqb-true o e i) in omega (arith, j))
    by_test false false i more =
        let z : 0 ≡ 0 + 0 = omega arith in
        rw i (ap (λ (l : List Place). record { holes = b + g; entry = o; weight = w } ∷ l) (ap (λ (m : ℕ). places_in m (set os q nobody) ws) z ∙ more 0 0))

pub gaps-left : (os ws : List ℕ) (q : ℕ) → length ws ≡ length os → q < length os → gaps_in (set os q nobody) ws ≡ set (gaps_in os ws) q (at ws q)
gaps-left [] ws q s l = absurd (omega (arith, l))
gaps-left (o ∷ os) [] q s l = absurd (omega (arith, s))
gaps-left (o ∷ os) (w ∷ ws) zero s l = refl
gaps-left (o ∷ os) (w ∷ ws) (suc q) s l = ap (λ (g : List ℕ). cond (eqb o nobody) w 0 ∷ g) (gaps-left os ws q (omega (arith, s)) (omega (arith, l)))

-- ---- a weight is taken from a hole

pub filled-none : (places : List Place) → filled 0 places ≡ places
filled-none [] = refl
filled-none (p ∷ places) =
    let a : p.holes - 0 ≡ p.holes = omega arith in
    let b : 0 - p.holes ≡ 0 = omega arith in
    ap₂ (λ (m n : ℕ). record p { holes = m } ∷ filled n places) a b ∙ ap (λ (l : List Place). p ∷ l) (filled-none places)

filled-front : (t g : ℕ) (os ws : List ℕ) → places_in g os ws ≡ filled t (places_in (g + t) os ws)
filled-front t g [] ws = refl
filled-front t g (o ∷ os) [] = refl
filled-front t g (o ∷ os) (w ∷ ws) = by_test (eqb o nobody) (λ g. filled-front t g os ws)
  where
    by_test : (b : Bool) → ((g : ℕ) → places_in g os ws ≡ filled t (places_in (g + t) os ws))
        → cond b (places_in (g + w) os ws) (record { holes = g; entry = o; weight = w } ∷ places_in 0 os ws)
        ≡ filled t (cond b (places_in (g + t + w) os ws) (record { holes = g + t; entry = o; weight = w } ∷ places_in 0 os ws))
    by_test true more = let z : g + w + t ≡ g + t + w = omega arith in more (g + w) ∙ ap (λ (m : ℕ). filled t (places_in m os ws)) z
    by_test false more =
        let a : g ≡ g + t - t = omega arith in
        let b : 0 ≡ t - (g + t) = omega arith in
        let p : ℕ → Place = λ m. record { holes = m; entry = o; weight = w } in
        ap (λ (l : List Place). p g ∷ l) (sym (filled-none (places_in 0 os ws))) ∙ ap₂ (λ (m n : ℕ). p m ∷ filled n (places_in 0 os ws)) a b

pub filled-slot : (t : ℕ) (os ws : List ℕ) (q : ℕ) → length ws ≡ length os → q < length os → sum (take q (gaps_in os ws)) ≡ 0 → 0 < at (gaps_in os ws) q → t ≤ at ws q
    → places_in 0 os (set ws q (at ws q - t)) ≡ filled t (places_in 0 os ws)
filled-slot t [] ws q s l z p m = absurd (omega (arith, l))
filled-slot t (o ∷ os) [] q s l z p m = absurd (omega (arith, s))
filled-slot t (o ∷ os) (w ∷ ws) zero s l z p m = by_test (eqb o nobody) p
  where
    by_test : (b : Bool) → 0 < cond b w 0
        → cond b (places_in (0 + (w - t)) os ws) (record { holes = 0; entry = o; weight = w - t } ∷ places_in 0 os ws)
        ≡ filled t (cond b (places_in (0 + w) os ws) (record { holes = 0; entry = o; weight = w } ∷ places_in 0 os ws))
    by_test true k = let y : 0 + (w - t) + t ≡ 0 + w = omega (arith, m) in filled-front t (0 + (w - t)) os ws ∙ ap (λ (x : ℕ). filled t (places_in x os ws)) y
    by_test false k = absurd (omega (arith, k))
filled-slot t (o ∷ os) (w ∷ ws) (suc q) s l z p m = by_test (eqb o nobody) c (filled-slot t os ws q (omega (arith, s)) (omega (arith, l)))
  where
    c : cond (eqb o nobody) w 0 + sum (take q (gaps_in os ws)) ≡ 0
    c = sym (sum_by-cons size (cond (eqb o nobody) w 0) (take q (gaps_in os ws))) ∙ z

    by_test : (b : Bool) → cond b w 0 + sum (take q (gaps_in os ws)) ≡ 0
        → (sum (take q (gaps_in os ws)) ≡ 0 → 0 < at (gaps_in os ws) q → t ≤ at ws q → places_in 0 os (set ws q (at ws q - t)) ≡ filled t (places_in 0 os ws))
        → cond b (places_in (0 + w) os (set ws q (at ws q - t))) (record { holes = 0; entry = o; weight = w } ∷ places_in 0 os (set ws q (at ws q - t)))
        ≡ filled t (cond b (places_in (0 + w) os ws) (record { holes = 0; entry = o; weight = w } ∷ places_in 0 os ws))
    by_test true k more =
        let y : 0 + w ≡ 0 = omega (arith, k) in
        ap (λ (x : ℕ). places_in x os (set ws q (at ws q - t))) y ∙ more (omega (arith, k)) p m ∙ ap (λ (x : ℕ). filled t (places_in x os ws)) (sym y)
    by_test false k more =
        let a : 0 ≡ 0 - t = omega arith in
        let b : t ≡ t - 0 = omega arith in
        ap (λ (l : List Place). record { holes = 0; entry = o; weight = w } ∷ l) (more (omega (arith, k)) p m)
        ∙ ap₂ (λ (x y : ℕ). record { holes = x; entry = o; weight = w } ∷ filled y (places_in 0 os ws)) a b

pub gaps-filled : (t : ℕ) (os ws : List ℕ) (q : ℕ) → length ws ≡ length os → q < length os → 0 < at (gaps_in os ws) q
    → gaps_in os (set ws q (at ws q - t)) ≡ set (gaps_in os ws) q (at (gaps_in os ws) q - t)
gaps-filled t [] ws q s l p = absurd (omega (arith, l))
gaps-filled t (o ∷ os) [] q s l p = absurd (omega (arith, s))
gaps-filled t (o ∷ os) (w ∷ ws) zero s l p = by_test (eqb o nobody) p
  where
    by_test : (b : Bool) → 0 < cond b w 0 → cond b (w - t) 0 ∷ gaps_in os ws ≡ (cond b w 0 - t) ∷ gaps_in os ws
    by_test true k = refl
    by_test false k = absurd (omega (arith, k))
gaps-filled t (o ∷ os) (w ∷ ws) (suc q) s l p = ap (λ (g : List ℕ). cond (eqb o nobody) w 0 ∷ g) (gaps-filled t os ws q (omega (arith, s)) (omega (arith, l)) p)

-- a hole has the weight of its slot, and nobody in it
pub gap-at : (os ws : List ℕ) (q : ℕ) → length ws ≡ length os → q < length os → 0 < at (gaps_in os ws) q → (at (gaps_in os ws) q ≡ at ws q) × (at os q ≡ nobody)
gap-at [] ws q s l p = absurd (omega (arith, l))
gap-at (o ∷ os) [] q s l p = absurd (omega (arith, s))
gap-at (o ∷ os) (w ∷ ws) zero s l p = by_test (eqb o nobody) refl p
  where
    by_test : (b : Bool) → eqb o nobody ≡ b → 0 < cond b w 0 → (cond b w 0 ≡ w) × (o ≡ nobody)
    by_test true i k = (refl, eqb-true o nobody i)
    by_test false i k = absurd (omega (arith, k))
gap-at (o ∷ os) (w ∷ ws) (suc q) s l p = gap-at os ws q (omega (arith, s)) (omega (arith, l)) p

-- two weights are taken one after another
pub filled-twice : (a b : ℕ) (places : List Place) → filled a (filled b places) ≡ filled (b + a) places
filled-twice a b [] = refl
filled-twice a b (p ∷ places) =
    let x : p.holes - b - a ≡ p.holes - (b + a) = omega arith in
    let y : (b - p.holes) + (a - (p.holes - b)) ≡ b + a - p.holes = omega arith in
    ap (λ (l : List Place). record p { holes = p.holes - b - a } ∷ l) (filled-twice (a - (p.holes - b)) (b - p.holes) places)
    ∙ ap₂ (λ (m n : ℕ). record p { holes = m } ∷ filled n places) x y

-- where no hole has any weight, nothing is taken
pub filled-empty : (w : ℕ) (os ws : List ℕ) → sum (gaps_in os ws) ≡ 0 → filled w (places_in 0 os ws) ≡ places_in 0 os ws
filled-empty w [] ws z = refl
filled-empty w (o ∷ os) [] z = refl
filled-empty w (o ∷ os) (v ∷ ws) z = by_test (eqb o nobody) c (filled-empty w os ws)
  where
    c : cond (eqb o nobody) v 0 + sum (gaps_in os ws) ≡ 0
    c = sym (sum_by-cons size (cond (eqb o nobody) v 0) (gaps_in os ws)) ∙ z

    by_test : (b : Bool) → cond b v 0 + sum (gaps_in os ws) ≡ 0 → (sum (gaps_in os ws) ≡ 0 → filled w (places_in 0 os ws) ≡ places_in 0 os ws)
        → filled w (cond b (places_in (0 + v) os ws) (record { holes = 0; entry = o; weight = v } ∷ places_in 0 os ws))
        ≡ cond b (places_in (0 + v) os ws) (record { holes = 0; entry = o; weight = v } ∷ places_in 0 os ws)
    by_test true k more =
        let y : 0 + v ≡ 0 = omega (arith, k) in
        ap (λ (x : ℕ). filled w (places_in x os ws)) y ∙ more (omega (arith, k)) ∙ ap (λ (x : ℕ). places_in x os ws) (sym y)
    by_test false k more =
        let a : 0 - w ≡ 0 = omega arith in
        let b : w - 0 ≡ w = omega arith in
        ap₂ (λ (x y : ℕ). record { holes = x; entry = o; weight = v } ∷ filled y (places_in 0 os ws)) a b
        ∙ ap (λ (l : List Place). record { holes = 0; entry = o; weight = v } ∷ l) (more (omega (arith, k)))

-- ---- an entry comes first

pub places-entered : (e w : ℕ) (os ws : List ℕ) (k : ℕ) → e ≢ nobody → length ws ≡ length os → k < length os → ((j : ℕ) → j ≤ k → (at os j ≡ nobody) × (at ws j ≡ 0))
    → places_in 0 (set os k e) (set ws k w) ≡ record { holes = 0; entry = e; weight = w } ∷ places_in 0 os ws
places-entered e w [] ws k n s l f = absurd (omega (arith, l))
places-entered e w (o ∷ os) [] k n s l f = absurd (omega (arith, s))
places-entered e w (o ∷ os) (v ∷ ws) zero n s l f =
    rw (ne, eq-eqb o nobody (f 0 (omega arith)).0) (ap (λ (x : ℕ). record { holes = 0; entry = e; weight = w } ∷ places_in x os ws) z)
  where
    ne : eqb e nobody ≡ false
    ne = by (eqb e nobody) refl
      where
        by : (t : Bool) → eqb e nobody ≡ t → t ≡ false
        by true i = absurd (n (eqb-true e nobody i))
        by false i = refl

    z : 0 ≡ 0 + v
    z = let y = (f 0 (omega arith)).1 in omega (arith, y)
places-entered e w (o ∷ os) (v ∷ ws) (suc k) n s l f =
    rw (eq-eqb o nobody (f 0 (omega arith)).0)
    (ap (λ (x : ℕ). places_in x (set os k e) (set ws k w)) (sym z) ∙ places-entered e w os ws k n (omega (arith, s)) (omega (arith, l)) (λ j m. f (suc j) (omega (arith, m)))
    ∙ ap (λ (x : ℕ). record { holes = 0; entry = e; weight = w } ∷ places_in x os ws) z)
  where
    z : 0 ≡ 0 + v
    z = let y = (f 0 (omega arith)).1 in omega (arith, y)

pub gaps-entered : (e w : ℕ) (os ws : List ℕ) (k : ℕ) → e ≢ nobody → length ws ≡ length os → k < length os → at ws k ≡ 0 → gaps_in (set os k e) (set ws k w) ≡ gaps_in os ws
gaps-entered e w [] ws k n s l f = absurd (omega (arith, l))
gaps-entered e w (o ∷ os) [] k n s l f = absurd (omega (arith, s))
gaps-entered e w (o ∷ os) (v ∷ ws) zero n s l f = rw ne (by_test (eqb o nobody))
  where
    ne : eqb e nobody ≡ false
    ne = by (eqb e nobody) refl
      where
        by : (t : Bool) → eqb e nobody ≡ t → t ≡ false
        by true i = absurd (n (eqb-true e nobody i))
        by false i = refl

    by_test : (b : Bool) → 0 ∷ gaps_in os ws ≡ cond b v 0 ∷ gaps_in os ws
    by_test true = ap (λ (x : ℕ). x ∷ gaps_in os ws) (sym f)
    by_test false = refl
gaps-entered e w (o ∷ os) (v ∷ ws) (suc k) n s l f = ap (λ (g : List ℕ). cond (eqb o nobody) v 0 ∷ g) (gaps-entered e w os ws k n (omega (arith, s)) (omega (arith, l)) f)

pub gaps-length : (os ws : List ℕ) → length ws ≡ length os → length (gaps_in os ws) ≡ length os
gaps-length [] ws s = refl
gaps-length (o ∷ os) [] s = absurd (omega (arith, s))
gaps-length (o ∷ os) (w ∷ ws) s = let h = gaps-length os ws (omega (arith, s)) in omega (arith, h)

pub gaps-sum : (os ws : List ℕ) → sum (gaps_in os ws) ≤ sum ws
gaps-sum [] ws = omega arith
gaps-sum (o ∷ os) [] = omega arith
gaps-sum (o ∷ os) (w ∷ ws) =
    let c = sum_by-cons size (cond (eqb o nobody) w 0) (gaps_in os ws) in
    let d = sum_by-cons size w ws in
    let h = gaps-sum os ws in
    let m = least (eqb o nobody) in omega (arith, c, d, h, m)
  where
    least : (b : Bool) → cond b w 0 ≤ w
    least true = omega arith
    least false = omega arith

-- a slot that somebody has is no gap, so its weight isn't among theirs
pub gap-owned : (os ws : List ℕ) (q : ℕ) → length ws ≡ length os → q < length os → at os q ≢ nobody → (at (gaps_in os ws) q ≡ 0) × (sum (gaps_in os ws) + at ws q ≤ sum ws)
gap-owned [] ws q s l p = absurd (omega (arith, l))
gap-owned (o ∷ os) [] q s l p = absurd (omega (arith, s))
gap-owned (o ∷ os) (w ∷ ws) zero s l p = by_test (eqb o nobody) refl
  where
    by_test : (b : Bool) → eqb o nobody ≡ b → (cond b w 0 ≡ 0) × (sum (cond b w 0 ∷ gaps_in os ws) + w ≤ sum (w ∷ ws))
    by_test true i = absurd (p (eqb-true o nobody i))
    by_test false i =
        let c = sum_by-cons size 0 (gaps_in os ws) in
        let d = sum_by-cons size w ws in
        let h = gaps-sum os ws in
        (refl, omega (arith, c, d, h))
gap-owned (o ∷ os) (w ∷ ws) (suc q) s l p =
    let i = gap-owned os ws q (omega (arith, s)) (omega (arith, l)) p in
    (i.0, more (eqb o nobody) i.1)
  where
    more : (b : Bool) → sum (gaps_in os ws) + at ws q ≤ sum ws → sum (cond b w 0 ∷ gaps_in os ws) + at ws q ≤ sum (w ∷ ws)
    more true h = let c = sum_by-cons size w (gaps_in os ws) in let d = sum_by-cons size w ws in omega (arith, c, d, h)
    more false h = let c = sum_by-cons size 0 (gaps_in os ws) in let d = sum_by-cons size w ws in omega (arith, c, d, h)
