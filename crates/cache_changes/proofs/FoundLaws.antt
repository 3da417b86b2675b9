-- A key is found in the state, and shown, exactly as the changes say.
use Rattle.std.proofs.Common.{◌≡◌, ℕ, ◌≤◌, refl, ap, sym, ◌∙◌, true, false, subst, cond, [], ◌∷◌, ◌||◌, ◌&&◌, arith, inl, inr}
use Rattle.std.specs.Prelude.{Bool, ◌↔◌, Option, Some, None, option_map, is_some, not, find}
use Rattle.std.specs.Option.{option_or}
use Rattle.std.proofs.lemmas.Bool.{eqb-true}
use Rattle.cache_entries.specs.Keys.{same_bytes}
use Rattle.cache_entries.specs.SameEntry.{same_bytes-tells}
use Rattle.cache_changes.specs.Changes.{StoredKey, Write, Change, Changes, finishes, leaves}
use Rattle.cache_changes.specs.Writes.{finished_by, body_chosen, body_now, removes_key, lands, leaves_write, IsFound, IsAliveInFlight, IsShown, MayCome, IsOrderly}
use Rattle.cache_changes.specs.Store.{Stored, Flying, IsStateOf, stored_of, has_number, body_at, flying_at, flies_for, shown_at, is_found_at, store_of}
use Rattle.cache_changes.proofs.RowLaws.{find-passes, find-some, was_false}
use Rattle.cache_changes.proofs.WriteLaws.{Life, life, life_by, begun_by, life-flies, life-alive, and_true, both_true, neither}
use Rattle.cache_changes.proofs.FlightLaws.{live, flight, flying_of, flying_at-is}
use Rattle.cache_changes.proofs.BodyLaws.{body_at-is, life-both, one_life, back}
use Rattle.cache_changes.proofs.StateLaws.{flying-tells, flights-are, bodies-are, was_true}
use Rattle.cache_changes.proofs.OrderLaws.{number_of, flights-rise, found_number, found_least}

-- ---- a finished write that is alive leaves its key a body

chosen_some : {M : Type 0} (new old : Option (Write M)) → is_some old ≡ true → is_some (body_chosen false new old) ≡ true
chosen_some None old h = h
chosen_some (Some w) old h = refl

landed_finishes : {M : Type 0} (n : ℕ) (c : Change M) → lands n c ≡ true → leaves_write n c ≡ false → (v : Write M) × (c ≡ finishes v) × (v.number ≡ n)
landed_finishes n (finishes v) e l = (v, refl, eqb-true v.number n e)
landed_finishes n (leaves m) e l = absurd cc
landed_finishes n _ e l = absurd cc

finish_found : {M : Type 0} (k : StoredKey) (y : Life M) (c : Change M) (before : Changes M) → MayCome c before → IsOrderly before → life y.write.number before ≡ Some y
    → same_bytes y.write.key k ≡ true → lands y.write.number c ≡ true → leaves_write y.write.number c ≡ false → is_some (body_chosen false (finished_by k c) (body_now k before)) ≡ true
finish_found {M = M} k y c before may o is key land leave =
    let fin = landed_finishes y.write.number c land leave in
    let flying = life-flies fin.0 before o (subst (λ (d : Change M). MayCome d before) fin.1 may).0 in
    let same = one_life (live fin.0 flying.0) y (sym flying.1 ∙ ap (λ (m : ℕ). life m before) fin.2 ∙ is) in
    let of_key : same_bytes fin.0.key k ≡ true = subst (λ (x : Life M). same_bytes x.write.key k ≡ true) (sym same) key in
    ap (λ (d : Change M). is_some (body_chosen false (finished_by k d) (body_now k before))) fin.1
    ∙ ap (λ (t : Bool). is_some (body_chosen false (cond t (Some fin.0) None) (body_now k before))) of_key

finished_found : {M : Type 0} (k : StoredKey) (n : ℕ) (changes : Changes M) (x : Life M) → IsOrderly changes → n ≡ x.write.number → life n changes ≡ Some x → x.flies ≡ false → x.alive ≡ true
    → same_bytes x.write.key k ≡ true → is_some (body_now k changes) ≡ true
finished_found k n [] x o number e f t key = absurd cc
finished_found {M = M} k n (c ∷ before) x o number e f t key = by_begun (begun_by n c) refl (λ y. finished_found k n before y o.1)
  where
    by_flag : ((y : Life M) → n ≡ y.write.number → life n before ≡ Some y → y.flies ≡ false → y.alive ≡ true → same_bytes y.write.key k ≡ true → is_some (body_now k before) ≡ true)
        → (y : Life M) → n ≡ y.write.number → life n before ≡ Some y → (y.flies && not (lands y.write.number c)) ≡ false → (y.alive && not (removes_key y.write.key c || leaves_write y.write.number c)) ≡ true
        → same_bytes y.write.key k ≡ true → (v : Bool) → y.flies ≡ v → is_some (body_chosen false (finished_by k c) (body_now k before)) ≡ true
    by_flag ih y num is flown alive key false fe = chosen_some (finished_by k c) (body_now k before) (ih y num is fe (and_true y.alive _ alive).0 key)
    by_flag ih y num is flown alive key true fe =
        let land : lands y.write.number c ≡ true = was_true (lands y.write.number c) (ap (λ (v : Bool). v && not (lands y.write.number c)) (sym fe) ∙ flown) in
        let leave : leaves_write y.write.number c ≡ false = (neither (removes_key y.write.key c) _ (and_true y.alive _ alive).1).1 in
        finish_found k y c before o.0 o.1 (ap (λ (m : ℕ). life m before) (sym num) ∙ is) key land leave

    by_begun : (b : Option (Write M)) → begun_by n c ≡ b
        → ((y : Life M) → n ≡ y.write.number → life n before ≡ Some y → y.flies ≡ false → y.alive ≡ true → same_bytes y.write.key k ≡ true → is_some (body_now k before) ≡ true)
        → is_some (body_now k (c ∷ before)) ≡ true
    by_begun (Some w) is ih =
        let same = one_life (record { write = w; flies = true; alive = true }) x (ap (λ (b : Option (Write M)). life_by b c (life n before)) (sym is) ∙ e) in
        let contrary : true ≡ false = ap (λ (z : Life M). z.flies) same ∙ f in
        absurd cc
    by_begun None is ih =
        let was = back n c before x is e in
        let y : Life M = was.0 in
        let alive : (y.alive && not (removes_key y.write.key c || leaves_write y.write.number c)) ≡ true = ap (λ (z : Life M). z.alive) was.2 ∙ t in
        let flown : (y.flies && not (lands y.write.number c)) ≡ false = ap (λ (z : Life M). z.flies) was.2 ∙ f in
        let of_key : same_bytes y.write.key k ≡ true = ap (λ (z : Life M). same_bytes z.write.key k) was.2 ∙ key in
        let stays : removes_key k c ≡ false =
        subst (λ (j : StoredKey). removes_key j c ≡ false) (same_bytes-tells.equal y.write.key k of_key) (neither (removes_key y.write.key c) _ (and_true y.alive _ alive).1).0 in
        ap (λ (r : Bool). is_some (body_chosen r (finished_by k c) (body_now k before))) stays
        ∙ by_flag ih y (number ∙ ap (λ (z : Life M). z.write.number) (sym was.2)) was.1 flown alive of_key y.flies refl

-- ---- what is shown

flying_there : {M : Type 0} (k : StoredKey) (w : Write M) (changes : Changes M) → IsOrderly changes → IsAliveInFlight k w changes → flying_at w.number (store_of changes) ≡ Some (flight w true changes)
flying_there k w changes o h = flying_at-is w.number changes o ∙ ap (flying_of changes) (life-both w changes o h.flies h.alive)

flight_passes : {M : Type 0} (k : StoredKey) (w : Write M) (changes : Changes M) → same_bytes w.key k ≡ true → flies_for k (flight w true changes) ≡ true
flight_passes k w changes t = both_true (same_bytes w.key k) true t refl

first_there : {M : Type 0} (k : StoredKey) (w : Write M) (changes : Changes M) → IsOrderly changes → IsAliveInFlight k w changes → is_some (find (flies_for k) (store_of changes).flying) ≡ true
first_there k w changes o h =
    find-some (has_number w.number) (flies_for k) (store_of changes).flying (flight w true changes) (flying_there k w changes o h) (flight_passes k w changes h.of_key)

first_flies : {M : Type 0} (k : StoredKey) (changes : Changes M) (f : Flying M) → IsOrderly changes → find (flies_for k) (store_of changes).flying ≡ Some f
    → IsAliveInFlight k f.stored.write changes × (f.stored ≡ stored_of f.stored.write changes)
first_flies k changes f o e =
    let there : flying_at (number_of f) (store_of changes) ≡ Some f = found_number 0 (flies_for k) (store_of changes).flying f (flights-rise changes o) e in
    let h = (flying-tells (number_of f) changes f o there).1 in
    let parts = and_true (same_bytes f.stored.write.key k) _ (find-passes (flies_for k) (store_of changes).flying f e) in
    (record { of_key = parts.0; alive = h.alive.0 (was_false f.removed parts.1); flies = h.flies }, h.stored)

first_least : {M : Type 0} (k : StoredKey) (changes : Changes M) (f : Flying M) (v : Write M) → IsOrderly changes → find (flies_for k) (store_of changes).flying ≡ Some f
    → IsAliveInFlight k v changes → number_of f ≤ v.number
first_least k changes f v o e h =
    found_least 0 v.number (flies_for k) (store_of changes).flying f (flight v true changes) (flights-rise changes o) e (flying_there k v changes o h) (flight_passes k v changes h.of_key)

shown-tells : {M : Type 0} (k : StoredKey) (changes : Changes M) (x : Stored M) → IsOrderly changes → shown_at k (store_of changes) ≡ Some x → IsShown k x.write changes × (x ≡ stored_of x.write changes)
shown-tells {M = M} k changes x o e = by_first (find (flies_for k) (store_of changes).flying) refl e
  where
    by_first : (first : Option (Flying M)) → find (flies_for k) (store_of changes).flying ≡ first → option_or (option_map (λ f. f.stored) first) (body_at k (store_of changes)) ≡ Some x
        → IsShown k x.write changes × (x ≡ stored_of x.write changes)
    by_first (Some f) is e =
        let same : f.stored ≡ x = cc in
        let h = first_flies k changes f o is in
        subst (λ (y : Stored M). IsShown k y.write changes × (y ≡ stored_of y.write changes)) same
        (inl (record { flying = h.0; first = λ v t. first_least k changes f v o is t }), h.1)
    by_first None is e =
        let body = (bodies-are changes o k x).0 e in
        (inr (λ v h. let there : is_some (find (flies_for k) (store_of changes).flying) ≡ true = first_there k v changes o h in absurd cc, body.0), body.1)

shown-told : {M : Type 0} (k : StoredKey) (changes : Changes M) (x : Stored M) → IsOrderly changes → IsShown k x.write changes → x ≡ stored_of x.write changes → shown_at k (store_of changes) ≡ Some x
shown-told {M = M} k changes x o s is_stored = by_first (find (flies_for k) (store_of changes).flying) refl s
  where
    by_first : (first : Option (Flying M)) → find (flies_for k) (store_of changes).flying ≡ first → IsShown k x.write changes
        → option_or (option_map (λ f. f.stored) first) (body_at k (store_of changes)) ≡ Some x
    by_first (Some f) is s = elim s [
      | inl h ↦
          let below : number_of f ≤ x.write.number = first_least k changes f x.write o is h.flying in
          let above : x.write.number ≤ number_of f = h.first f.stored.write (first_flies k changes f o is).0 in
          let one : number_of f ≡ x.write.number = omega arith in
          let there : flying_at x.write.number (store_of changes) ≡ Some f =
          subst (λ (m : ℕ). flying_at m (store_of changes) ≡ Some f) one (found_number 0 (flies_for k) (store_of changes).flying f (flights-rise changes o) is) in
          let same : f ≡ flight x.write true changes = let both = sym there ∙ flying_there k x.write changes o h.flying in cc in
          ap (λ (g : Flying M). Some g.stored) same ∙ ap (λ (y : Stored M). Some y) (sym is_stored)
      | inr h ↦ absurd (h.0 f.stored.write (first_flies k changes f o is).0)
    ]
    by_first None is s = elim s [
      | inl h ↦ let there : is_some (find (flies_for k) (store_of changes).flying) ≡ true = first_there k x.write changes o h.flying in absurd cc
      | inr h ↦ (bodies-are changes o k x).1 (h.1, is_stored)
    ]

pub shown-is : {M : Type 0} (changes : Changes M) → IsOrderly changes → (k : StoredKey) (x : Stored M) → (shown_at k (store_of changes) ≡ Some x) ↔ (IsShown k x.write changes × (x ≡ stored_of x.write changes))
shown-is changes o k x = (λ e. shown-tells k changes x o e, λ h. shown-told k changes x o h.0 h.1)

-- ---- what is found

either_first : {X : Type 0} (a b : Option X) → is_some a ≡ true → is_some (option_or a b) ≡ true
either_first None b h = absurd cc
either_first (Some x) b h = refl

either_last : {X : Type 0} (a b : Option X) → is_some b ≡ true → is_some (option_or a b) ≡ true
either_last None b h = h
either_last (Some x) b h = refl

mapped_some : {X Y : Type 0} (f : X → Y) (o : Option X) → is_some o ≡ true → is_some (option_map f o) ≡ true
mapped_some f None h = h
mapped_some f (Some x) h = refl

found-told : {M : Type 0} (k : StoredKey) (changes : Changes M) → IsOrderly changes → IsFound k changes → is_found_at k (store_of changes) ≡ true
found-told {M = M} k changes o f = by_flag known.0 known.1
  where
    known : (t : Bool) × (life f.0.number changes ≡ Some (record { write = f.0; flies = t; alive = true }))
    known = life-alive f.0 changes o f.2

    by_flag : (t : Bool) → life f.0.number changes ≡ Some (record { write = f.0; flies = t; alive = true }) → is_found_at k (store_of changes) ≡ true
    by_flag true e =
        either_first (option_map (λ f. f.stored) (find (flies_for k) (store_of changes).flying)) (body_at k (store_of changes))
        (mapped_some (λ f. f.stored) (find (flies_for k) (store_of changes).flying)
        (find-some (has_number f.0.number) (flies_for k) (store_of changes).flying (flight f.0 true changes) (flying_at-is f.0.number changes o ∙ ap (flying_of changes) e) (flight_passes k f.0 changes f.1)))
    by_flag false e =
        either_last (option_map (λ f. f.stored) (find (flies_for k) (store_of changes).flying)) (body_at k (store_of changes))
        (ap is_some (body_at-is k changes o)
        ∙ mapped_some (λ w. stored_of w changes) (body_now k changes) (finished_found k f.0.number changes (record { write = f.0; flies = false; alive = true }) o refl e refl refl f.1))

shown_found : {M : Type 0} (k : StoredKey) (changes : Changes M) (w : Write M) → IsShown k w changes → IsFound k changes
shown_found k changes w s = elim s [
  | inl h ↦ (w, h.flying.of_key, h.flying.alive)
  | inr h ↦ (w, h.1.of_key, h.1.alive)
]

found-tells : {M : Type 0} (k : StoredKey) (changes : Changes M) → IsOrderly changes → is_found_at k (store_of changes) ≡ true → IsFound k changes
found-tells {M = M} k changes o t = by_shown (shown_at k (store_of changes)) refl t
  where
    by_shown : (x : Option (Stored M)) → shown_at k (store_of changes) ≡ x → is_some x ≡ true → IsFound k changes
    by_shown None e t = absurd cc
    by_shown (Some x) e t = shown_found k changes x.write (shown-tells k changes x o e).0

pub found-is : {M : Type 0} (changes : Changes M) → IsOrderly changes → (k : StoredKey) → (is_found_at k (store_of changes) ≡ true) ↔ IsFound k changes
found-is changes o k = (λ t. found-tells k changes o t, λ f. found-told k changes o f)

-- the state is what the changes say
pub store_of-is : {M : Type 0} (changes : Changes M) → IsOrderly changes → IsStateOf (store_of changes) changes
store_of-is changes o = record { bodies = bodies-are changes o; flights = flights-are changes o; found = found-is changes o; shown = shown-is changes o }
