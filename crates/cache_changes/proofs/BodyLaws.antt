-- The bodies of the state are those of the changes.
use Rattle.std.proofs.Common.{◌≡◌, ℕ, refl, ap, sym, ◌∙◌, true, false, subst, cond, [], ◌∷◌, ◌++◌, ◌||◌, ◌&&◌}
use Rattle.std.specs.Prelude.{Bool, ◌==◌, List, Option, Some, None, option_map, not, find, filter}
use Rattle.std.specs.List.{AllByRecursion}
use Rattle.std.proofs.lemmas.Bool.{eqb-true}
use Rattle.cache_entries.specs.Keys.{same_bytes}
use Rattle.cache_entries.specs.SameEntry.{same_bytes-tells, same-sym}
use Rattle.cache_changes.specs.Changes.{StoredKey, Write, Change, Changes, appends, finishes, leaves, renews, removes, evicts, key_alone, is_key}
use Rattle.cache_changes.specs.Writes.{finished_by, body_chosen, body_now, removes_key, leaves_write, finishes_key, IsInFlight, IsAlive, IsBody, IsNumberInFlight, MayCome, IsOrderly, HasBegun}
use Rattle.cache_changes.specs.Store.{Stored, Flying, stored_of, is_of, body_at, flying_at, renewed, with_body, after, store_of}
use Rattle.cache_changes.proofs.RowLaws.{not_true, not_false, find-map, find-kept, find-gone}
use Rattle.cache_changes.proofs.WriteLaws.{Life, life, life_by, begun_by, lived, flight_began, began_more, began_later, begun_none, life-began, life-flies, life-alive, life-tells, is_alive, and_true, neither, not_either, same_number}
use Rattle.cache_changes.proofs.FlightLaws.{live, flight, flying_of, flying_at-is}

pub one_life : {M : Type 0} (x y : Life M) → Some x ≡ Some y → x ≡ y
one_life x y e = cc

finished_is : {M : Type 0} (k : StoredKey) (c : Change M) (w : Write M) → finished_by k c ≡ Some w → (c ≡ finishes w) × (same_bytes w.key k ≡ true)
finished_is {M = M} k (finishes v) w e = by_test (same_bytes v.key k) refl e
  where
    by_test : (t : Bool) → same_bytes v.key k ≡ t → cond t (Some v) None ≡ Some w → (finishes v ≡ finishes w) × (same_bytes w.key k ≡ true)
    by_test true f e = let same : v ≡ w = cc in (ap (λ (x : Write M). finishes x) same, subst (λ (x : Write M). same_bytes x.key k ≡ true) same f)
    by_test false f e = absurd cc
finished_is k _ w e = absurd cc

not_finished : {M : Type 0} (k : StoredKey) (c : Change M) → finished_by k c ≡ None → finishes_key k c ≡ false
not_finished {M = M} k (finishes v) e = by_test (same_bytes v.key k) e
  where
    by_test : (t : Bool) → cond t (Some v) None ≡ None → t ≡ false
    by_test true e = absurd cc
    by_test false e = refl
not_finished k _ e = refl

none_finished : {M : Type 0} (k : StoredKey) (c : Change M) → finishes_key k c ≡ false → finished_by k c ≡ None
none_finished k (finishes v) e = rw e refl
none_finished k _ e = refl

chosen_old : {M : Type 0} (r : Bool) (new old : Option (Write M)) → r ≡ false → new ≡ None → body_chosen r new old ≡ old
chosen_old r new old e f = rw (e, f) refl

orderly_at : {M : Type 0} (c : Change M) (since before : Changes M) → IsOrderly (since ++ c ∷ before) → MayCome c before × IsOrderly before
orderly_at c [] before o = o
orderly_at c (d ∷ since) before o = orderly_at c since before o.1

-- what was known before a change that begins nothing
pub back : {M : Type 0} (n : ℕ) (c : Change M) (before : Changes M) (x : Life M) → begun_by n c ≡ None → life n (c ∷ before) ≡ Some x
    → (y : Life M) × (life n before ≡ Some y) × (lived c y ≡ x)
back {M = M} n c before x none e = by_old (life n before) refl (ap (λ (b : Option (Write M)). life_by b c (life n before)) (sym none) ∙ e)
  where
    by_old : (old : Option (Life M)) → life n before ≡ old → option_map (lived c) old ≡ Some x → (y : Life M) × (life n before ≡ Some y) × (lived c y ≡ x)
    by_old None is e = absurd cc
    by_old (Some y) is e = (y, is, cc)

-- a flight is of one write
pub flight_life : {M : Type 0} (m : ℕ) (changes : Changes M) → IsOrderly changes → IsNumberInFlight m changes → (v : Write M) × (a : Bool) × (life m changes ≡ Some (live v a))
flight_life m changes o f =
    let found = life-flies f.0 changes o f.2 in
    (f.0, found.0, ap (λ (k : ℕ). life k changes) (sym f.1) ∙ found.1)

pub no_leaving : {M : Type 0} (w : Write M) (a : Bool) (c : Change M) (before : Changes M) → MayCome c before → IsOrderly before
    → life w.number before ≡ Some (record { write = w; flies = false; alive = a }) → leaves_write w.number c ≡ false
no_leaving {M = M} w a (leaves m) before may o h = by_test (m == w.number) refl
  where
    by_test : (t : Bool) → (m == w.number) ≡ t → t ≡ false
    by_test false e = refl
    by_test true e =
        let found = flight_life m before o may in
        let same = one_life (live found.0 found.1) (record { write = w; flies = false; alive = a }) (sym found.2 ∙ ap (λ (k : ℕ). life k before) (eqb-true m w.number e) ∙ h) in
        ap (λ (x : Life M). x.flies) same
no_leaving w a _ before may o h = refl

-- a body that was found: its write finished last, and lives
pub record HasBody {M : Type 0} (k : StoredKey) (w : Write M) (changes : Changes M) : Type 0 where
  pub of_key : same_bytes w.key k ≡ true
  pub lives : life w.number changes ≡ Some (record { write = w; flies = false; alive = true })
  pub since : Changes M
  pub before : Changes M
  pub split : changes ≡ since ++ finishes w ∷ before
  pub last : AllByRecursion (λ c. finishes_key k c ≡ false) since

-- a write that is in flight and alive
pub life-both : {M : Type 0} (w : Write M) (changes : Changes M) → IsOrderly changes → IsInFlight w changes → IsAlive w changes → life w.number changes ≡ Some (live w true)
life-both {M = M} w changes o f a =
    let flying = life-flies w changes o f in
    let alive = life-alive w changes o a in
    let same = one_life (live w flying.0) (record { write = w; flies = alive.0; alive = true }) (sym flying.1 ∙ alive.1) in
    flying.1 ∙ ap (λ (x : Life M). Some (live w x.alive)) same

finish_lives : {M : Type 0} (w : Write M) (before : Changes M) → IsOrderly before → IsInFlight w before × IsAlive w before
    → life w.number (finishes w ∷ before) ≡ Some (record { write = w; flies = false; alive = true })
finish_lives w before o may =
    ap (option_map (lived (finishes w))) (life-both w before o may.0 may.1) ∙ ap (λ (t : Bool). Some (record { write = w; flies = not t; alive = true })) (same_number w.number)

body_begins : {M : Type 0} (k : StoredKey) (w : Write M) (c : Change M) (before : Changes M) → MayCome c before → IsOrderly before → finished_by k c ≡ Some w → HasBody k w (c ∷ before)
body_begins {M = M} k w c before may o e =
    let fin = finished_is k c w e in
    subst (λ (d : Change M). HasBody k w (d ∷ before)) (sym fin.0) (record {
      of_key = fin.1;
      lives = finish_lives w before o (subst (λ (d : Change M). MayCome d before) fin.0 may);
      since = [];
      before = before;
      split = refl;
      last = tt;
    })

body_stays : {M : Type 0} (k : StoredKey) (w : Write M) (c : Change M) (before : Changes M) → MayCome c before → IsOrderly before → removes_key k c ≡ false → finished_by k c ≡ None
    → HasBody k w before → HasBody k w (c ∷ before)
body_stays {M = M} k w c before may o r f h =
    let known = life-tells w.number before (record { write = w; flies = false; alive = true }) h.lives in
    let none : begun_by w.number c ≡ None = begun_none w c before may (record { since = known.since; before = known.before; split = known.split }) in
    let of_key : w.key ≡ k = same_bytes-tells.equal w.key k h.of_key in
    let kept : removes_key w.key c ≡ false = subst (λ (j : StoredKey). removes_key j c ≡ false) (sym of_key) r in
    record {
      of_key = h.of_key;
      lives = ap (λ (b : Option (Write M)). life_by b c (life w.number before)) none ∙ ap (option_map (lived c)) h.lives
          ∙ ap (λ (t : Bool). Some (record { write = w; flies = false; alive = t })) (not_either (removes_key w.key c) (leaves_write w.number c) kept (no_leaving w true c before may o h.lives));
      since = c ∷ h.since;
      before = h.before;
      split = ap (λ (l : Changes M). c ∷ l) h.split;
      last = (not_finished k c f, h.last);
    }

pub body_now-has : {M : Type 0} (k : StoredKey) (changes : Changes M) (w : Write M) → IsOrderly changes → body_now k changes ≡ Some w → HasBody k w changes
body_now-has k [] w o e = absurd cc
body_now-has {M = M} k (c ∷ before) w o e = by_change (removes_key k c) refl (finished_by k c) refl (λ v h. body_now-has k before v o.1 h) e
  where
    by_change : (r : Bool) → removes_key k c ≡ r → (f : Option (Write M)) → finished_by k c ≡ f → ((v : Write M) → body_now k before ≡ Some v → HasBody k v before)
        → body_chosen r f (body_now k before) ≡ Some w → HasBody k w (c ∷ before)
    by_change true r f fe ih e = absurd cc
    by_change false r (Some v) fe ih e = let same : v ≡ w = cc in body_begins k w c before o.0 o.1 (fe ∙ e)
    by_change false r None fe ih e = body_stays k w c before o.0 o.1 r fe (ih w e)

-- what was found is the body
pub body_now-is : {M : Type 0} (k : StoredKey) (changes : Changes M) (w : Write M) → IsOrderly changes → body_now k changes ≡ Some w → IsBody k w changes
body_now-is k changes w o e =
    let h = body_now-has k changes w o e in
    record {
      of_key = h.of_key;
      alive = is_alive w.number changes (record { write = w; flies = false; alive = true }) h.lives refl;
      since = h.since;
      before = h.before;
      split = h.split;
      last = h.last;
    }

-- the body is what is found
body_now-since : {M : Type 0} (k : StoredKey) (w : Write M) (since before : Changes M) (f : Bool) → IsOrderly (since ++ finishes w ∷ before) → same_bytes w.key k ≡ true
    → life w.number (since ++ finishes w ∷ before) ≡ Some (record { write = w; flies = f; alive = true }) → AllByRecursion (λ c. finishes_key k c ≡ false) since
    → body_now k (since ++ finishes w ∷ before) ≡ Some w
body_now-since k w [] before f o t h last = rw t refl
body_now-since {M = M} k w (c ∷ since) before f o t h last =
    let rest : Changes M = since ++ finishes w ∷ before in
    let finish = orderly_at (finishes w) since before o.1 in
    let began : HasBegun w rest = began_later w since (finishes w ∷ before) (began_more w (finishes w) before (flight_began w before finish.0.0)) in
    let found = life-began w rest o.1 began in
    let was = back w.number c rest (record { write = w; flies = f; alive = true }) (begun_none w c rest o.0 began) h in
    let y_is = one_life was.0 (record { write = w; flies = found.flies; alive = found.alive }) (sym was.1 ∙ found.is) in
    let alive : (found.alive && not (removes_key w.key c || leaves_write w.number c)) ≡ true =
    ap (λ (x : Life M). x.alive && not (removes_key x.write.key c || leaves_write x.write.number c)) (sym y_is) ∙ ap (λ (x : Life M). x.alive) was.2 in
    let parts = and_true found.alive _ alive in
    let kept : removes_key k c ≡ false = subst (λ (j : StoredKey). removes_key j c ≡ false) (same_bytes-tells.equal w.key k t) (neither (removes_key w.key c) _ parts.1).0 in
    chosen_old (removes_key k c) (finished_by k c) (body_now k rest) kept (none_finished k c last.0)
    ∙ body_now-since k w since before found.flies o.1 t (subst (λ (x : Bool). life w.number rest ≡ Some (record { write = w; flies = found.flies; alive = x })) parts.0 found.is) last.1

pub body_now-of : {M : Type 0} (k : StoredKey) (changes : Changes M) (w : Write M) → IsOrderly changes → IsBody k w changes → body_now k changes ≡ Some w
body_now-of {M = M} k changes w o b =
    let alive = life-alive w changes o b.alive in
    ap (body_now k) b.split
    ∙ body_now-since k w b.since b.before alive.0 (subst (λ (l : Changes M). IsOrderly l) b.split o) b.of_key
    (subst (λ (l : Changes M). life w.number l ≡ Some (record { write = w; flies = alive.0; alive = true })) b.split alive.1) b.last

-- ---- the state

abbrev pub stored_in : {M : Type 0} → Changes M → Option (Write M) → Option (Stored M)
stored_in changes o = option_map (λ w. stored_of w changes) o

of_key : {M : Type 0} (k : StoredKey) (x : Stored M) → is_of k x ≡ true → x.write.key ≡ k
of_key k x t = same_bytes-tells.equal x.write.key k t

body-removed : {M : Type 0} (k : StoredKey) (o : Option StoredKey) (xs : List (Stored M)) → find (is_of k) (filter (λ x. not (is_key x.write.key o)) xs) ≡ cond (is_key k o) None (find (is_of k) xs)
body-removed {M = M} k o xs = by_test (is_key k o) refl
  where
    by_test : (v : Bool) → is_key k o ≡ v → find (is_of k) (filter (λ x. not (is_key x.write.key o)) xs) ≡ cond v None (find (is_of k) xs)
    by_test true e = find-gone (is_of k) (λ x. not (is_key x.write.key o)) xs (λ x t. not_true (is_key x.write.key o) (subst (λ (j : StoredKey). is_key j o ≡ true) (sym (of_key k x t)) e))
    by_test false e = find-kept (is_of k) (λ x. not (is_key x.write.key o)) xs (λ x t. not_false (is_key x.write.key o) (subst (λ (j : StoredKey). is_key j o ≡ false) (sym (of_key k x t)) e))

body-with : {M : Type 0} (k : StoredKey) (x : Stored M) (xs : List (Stored M)) → find (is_of k) (with_body (Some x) xs) ≡ cond (is_of k x) (Some x) (find (is_of k) xs)
body-with {M = M} k x xs = by_test (is_of k x) refl
  where
    other : is_of k x ≡ false → (y : Stored M) → is_of k y ≡ true → is_of x.write.key y ≡ false
    other e y t = ap (λ (j : StoredKey). same_bytes j x.write.key) (of_key k y t) ∙ same-sym same_bytes same_bytes-tells k x.write.key ∙ e

    by_test : (v : Bool) → is_of k x ≡ v
        → cond v (Some x) (find (is_of k) (filter (λ y. not (is_of x.write.key y)) xs)) ≡ cond v (Some x) (find (is_of k) xs)
    by_test true e = refl
    by_test false e = find-kept (is_of k) (λ y. not (is_of x.write.key y)) xs (λ y t. not_false (is_of x.write.key y) (other e y t))

renewed_key : {M : Type 0} (m : ℕ) (meta : M) (k : StoredKey) (x : Stored M) → is_of k (renewed m meta x) ≡ is_of k x
renewed_key m meta k x = by_test (m == x.write.number)
  where
    by_test : (v : Bool) → is_of k (cond v (record x { meta = meta }) x) ≡ is_of k x
    by_test true = refl
    by_test false = refl

renew_step : {M : Type 0} (m : ℕ) (meta : M) (before : Changes M) (o : Option (Write M)) → option_map (renewed m meta) (stored_in before o) ≡ stored_in (renews m meta ∷ before) o
renew_step m meta before None = refl
renew_step m meta before (Some w) = by_test (m == w.number) refl
  where
    by_test : (v : Bool) → (m == w.number) ≡ v → Some (renewed m meta (stored_of w before)) ≡ Some (stored_of w (renews m meta ∷ before))
    by_test true e = rw e refl
    by_test false e = rw e refl

-- no bytes come to a body
append_step : {M : Type 0} (m : ℕ) (bytes : List ℕ) (before : Changes M) (o : Option (Write M)) → ((w : Write M) → o ≡ Some w → (m == w.number) ≡ false)
    → stored_in before o ≡ stored_in (appends m bytes ∷ before) o
append_step m bytes before None h = refl
append_step m bytes before (Some w) h = rw (h w refl) refl

pub not_appended : {M : Type 0} (k : StoredKey) (m : ℕ) (before : Changes M) → IsOrderly before → IsNumberInFlight m before → (w : Write M) → body_now k before ≡ Some w → (m == w.number) ≡ false
not_appended {M = M} k m before o flies w e =
    no_leaving w true (leaves m) before flies o (body_now-has k before w o e).lives

finish_step : {M : Type 0} (k : StoredKey) (v : Write M) (before : Changes M) (t : Bool) (old : Option (Write M))
    → cond t (Some (stored_of v before)) (stored_in before old) ≡ stored_in (finishes v ∷ before) (body_chosen false (cond t (Some v) None) old)
finish_step k v before true old = refl
finish_step k v before false None = refl
finish_step k v before false (Some w) = refl

remove_step : {M : Type 0} (k : StoredKey) (before : Changes M) (t : Bool) (old : Option (Write M)) → cond t None (stored_in before old) ≡ stored_in before (body_chosen t None old)
remove_step k before true old = refl
remove_step k before false old = refl

body-after : {M : Type 0} (k : StoredKey) (c : Change M) (before : Changes M) → MayCome c before → IsOrderly before → body_at k (store_of before) ≡ stored_in before (body_now k before)
    → body_at k (after c (store_of before)) ≡ stored_in (c ∷ before) (body_now k (c ∷ before))
body-after k (appends m bytes) before may o h = h ∙ append_step m bytes before (body_now k before) (not_appended k m before o may.0)
body-after {M = M} k (finishes v) before may o h =
    let flying = life-flies v before o may.0 in
    let there : flying_at v.number (store_of before) ≡ Some (flight v flying.0 before) = flying_at-is v.number before o ∙ ap (flying_of before) flying.1 in
    ap (λ (f : Option (Flying M)). find (is_of k) (with_body (option_map (λ f. f.stored) f) (store_of before).bodies)) there
    ∙ body-with k (stored_of v before) (store_of before).bodies
    ∙ ap (cond (same_bytes v.key k) (Some (stored_of v before))) h
    ∙ finish_step k v before (same_bytes v.key k) (body_now k before)
body-after k (renews m meta) before may o h =
    find-map (is_of k) (renewed m meta) (store_of before).bodies (renewed_key m meta k) ∙ ap (option_map (renewed m meta)) h ∙ renew_step m meta before (body_now k before)
body-after k (removes j) before may o h =
    body-removed k (Some j) (store_of before).bodies ∙ ap (cond (is_key k (Some j)) None) h ∙ remove_step k before (is_key k (Some j)) (body_now k before)
body-after k (evicts e) before may o h =
    body-removed k (key_alone e) (store_of before).bodies ∙ ap (cond (is_key k (key_alone e)) None) h ∙ remove_step k before (is_key k (key_alone e)) (body_now k before)
body-after k _ before may o h = h

-- the bodies of the state
pub body_at-is : {M : Type 0} (k : StoredKey) (changes : Changes M) → IsOrderly changes → body_at k (store_of changes) ≡ stored_in changes (body_now k changes)
body_at-is k [] o = refl
body_at-is k (c ∷ before) o = body-after k c before o.0 o.1 (body_at-is k before o.1)
