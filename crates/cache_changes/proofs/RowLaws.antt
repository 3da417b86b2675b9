-- Filters and look-ups together, and what a look-up of an entry finds after edits of rows.
use Rattle.std.proofs.Common.{◌≡◌, ℕ, refl, ap, sym, ◌∙◌, true, false, subst, cond, [], ◌∷◌}
use Rattle.std.specs.Prelude.{Bool, List, Option, Some, None, option_map, is_some, not, find, filter, map}
use Rattle.cache_entries.specs.declared.entry.CacheEntryKey.{CacheEntryKey}
use Rattle.cache_entries.specs.declared.rows.Tracked.{Tracked}
use Rattle.cache_entries.specs.Entry.{same_entry}
use Rattle.cache_entries.specs.Rows.{row_of, weight_of, without_row, admitted}
use Rattle.cache_entries.specs.SameEntry.{same_entry-tells, same-sym}
use Rattle.cache_changes.specs.Uses.{with_weight}

pub not_false : (v : Bool) → v ≡ false → not v ≡ true
not_false v e = rw e refl

pub was_false : (v : Bool) → not v ≡ true → v ≡ false
was_false true e = absurd cc
was_false false e = refl

pub not_true : (v : Bool) → v ≡ true → not v ≡ false
not_true v e = rw e refl

-- both filters, in either order
pub filter-swap : {X : Type 0} (p q : X → Bool) (xs : List X) → filter p (filter q xs) ≡ filter q (filter p xs)
filter-swap p q [] = refl
filter-swap {X = X} p q (x ∷ xs) = by_tests (p x) (q x) refl refl (filter-swap p q xs)
  where
    by_tests : (a b : Bool) → p x ≡ a → q x ≡ b → filter p (filter q xs) ≡ filter q (filter p xs)
        → filter p (cond b (x ∷ filter q xs) (filter q xs)) ≡ filter q (cond a (x ∷ filter p xs) (filter p xs))
    by_tests true true e f ih = rw (e, f) (ap (λ (l : List X). x ∷ l) ih)
    by_tests true false e f ih = rw f ih
    by_tests false true e f ih = rw e ih
    by_tests false false e f ih = ih

-- a filter that passes all that is there
pub filter-kept : {X : Type 0} (p q : X → Bool) (xs : List X) → ((x : X) → p x ≡ true → q x ≡ true) → filter q (filter p xs) ≡ filter p xs
filter-kept p q [] h = refl
filter-kept {X = X} p q (x ∷ xs) h = by_test (p x) refl (filter-kept p q xs h)
  where
    by_test : (a : Bool) → p x ≡ a → filter q (filter p xs) ≡ filter p xs → filter q (cond a (x ∷ filter p xs) (filter p xs)) ≡ cond a (x ∷ filter p xs) (filter p xs)
    by_test true e ih = rw (h x e) (ap (λ (l : List X). x ∷ l) ih)
    by_test false e ih = ih

-- a look-up among what a filter keeps, where it keeps each that is looked for, and where it keeps none
pub find-kept : {X : Type 0} (p q : X → Bool) (xs : List X) → ((x : X) → p x ≡ true → q x ≡ true) → find p (filter q xs) ≡ find p xs
find-kept p q [] h = refl
find-kept p q (x ∷ xs) h = by_tests (p x) (q x) refl refl (find-kept p q xs h)
  where
    by_tests : (a b : Bool) → p x ≡ a → q x ≡ b → find p (filter q xs) ≡ find p xs → find p (cond b (x ∷ filter q xs) (filter q xs)) ≡ cond a (Some x) (find p xs)
    by_tests true true e f ih = rw e refl
    by_tests true false e f ih = let kept : q x ≡ true = h x e in absurd cc
    by_tests false true e f ih = rw e ih
    by_tests false false e f ih = ih

pub find-gone : {X : Type 0} (p q : X → Bool) (xs : List X) → ((x : X) → p x ≡ true → q x ≡ false) → find p (filter q xs) ≡ None
find-gone p q [] h = refl
find-gone p q (x ∷ xs) h = by_test (q x) refl (find-gone p q xs h)
  where
    by_test : (b : Bool) → q x ≡ b → find p (filter q xs) ≡ None → find p (cond b (x ∷ filter q xs) (filter q xs)) ≡ None
    by_test false f ih = ih
    by_test true f ih = by_other (p x) refl
      where
        by_other : (a : Bool) → p x ≡ a → cond a (Some x) (find p (filter q xs)) ≡ None
        by_other true e = let gone : q x ≡ false = h x e in absurd cc
        by_other false e = ih

-- a look-up among changed ones, where the change keeps what is asked
pub find-map : {X : Type 0} (p : X → Bool) (f : X → X) (xs : List X) → ((x : X) → p (f x) ≡ p x) → find p (map f xs) ≡ option_map f (find p xs)
find-map p f [] h = refl
find-map p f (x ∷ xs) h = rw (h x) (by_test (p x) (find-map p f xs h))
  where
    by_test : (a : Bool) → find p (map f xs) ≡ option_map f (find p xs) → cond a (Some (f x)) (find p (map f xs)) ≡ option_map f (cond a (Some x) (find p xs))
    by_test true ih = refl
    by_test false ih = ih

-- what is found passes, and where one passes one is found
pub find-passes : {X : Type 0} (p : X → Bool) (xs : List X) (x : X) → find p xs ≡ Some x → p x ≡ true
find-passes p [] x e = absurd cc
find-passes {X = X} p (y ∷ ys) x e = by_test (p y) refl (find-passes p ys x) e
  where
    by_test : (a : Bool) → p y ≡ a → (find p ys ≡ Some x → p x ≡ true) → cond a (Some y) (find p ys) ≡ Some x → p x ≡ true
    by_test true f ih e = let same : y ≡ x = cc in subst (λ (z : X). p z ≡ true) same f
    by_test false f ih e = ih e

pub find-some : {X : Type 0} (p q : X → Bool) (xs : List X) (x : X) → find p xs ≡ Some x → q x ≡ true → is_some (find q xs) ≡ true
find-some p q [] x e t = absurd cc
find-some {X = X} p q (y ∷ ys) x e t = by_tests (p y) (q y) refl refl (λ h. find-some p q ys x h t) e
  where
    by_tests : (a b : Bool) → p y ≡ a → q y ≡ b → (find p ys ≡ Some x → is_some (find q ys) ≡ true) → cond a (Some y) (find p ys) ≡ Some x → is_some (cond b (Some y) (find q ys)) ≡ true
    by_tests a true f g ih e = refl
    by_tests true false f g ih e = let same : y ≡ x = cc in let passes : q y ≡ true = subst (λ (z : X). q z ≡ true) (sym same) t in absurd cc
    by_tests false false f g ih e = ih e

-- rows after edits
pub same_rest : (r k e : CacheEntryKey) → same_entry k e ≡ true → same_entry r k ≡ same_entry r e
same_rest r k e h = ap (same_entry r) (same_entry-tells.equal k e h)

apart : (k e r : CacheEntryKey) → same_entry k e ≡ false → same_entry r e ≡ true → not (same_entry r k) ≡ true
apart k e r h t =
    let same : r ≡ e = same_entry-tells.equal r e t in
    not_false (same_entry r k) (subst (λ (x : CacheEntryKey). same_entry x k ≡ false) (sym same) (same-sym same_entry same_entry-tells e k ∙ h))

pub row_of-without : (e k : CacheEntryKey) (rows : List Tracked) → row_of e (without_row k rows) ≡ cond (same_entry k e) None (row_of e rows)
row_of-without e k rows = by_key (same_entry k e) refl
  where
    by_key : (v : Bool) → same_entry k e ≡ v → row_of e (without_row k rows) ≡ cond v None (row_of e rows)
    by_key true h = find-gone (λ r. same_entry r.entry e) (λ r. not (same_entry r.entry k)) rows (λ r t. not_true (same_entry r.entry k) (same_rest r.entry k e h ∙ t))
    by_key false h = find-kept (λ r. same_entry r.entry e) (λ r. not (same_entry r.entry k)) rows (λ r t. apart k e r.entry h t)

weight_if : (v : Bool) (o x : Option Tracked) → option_map (λ r. r.weight) (cond v x o) ≡ cond v (option_map (λ r. r.weight) x) (option_map (λ r. r.weight) o)
weight_if true o x = refl
weight_if false o x = refl

pub weight_of-without : (e k : CacheEntryKey) (rows : List Tracked) → weight_of e (without_row k rows) ≡ cond (same_entry k e) None (weight_of e rows)
weight_of-without e k rows = ap (option_map (λ r. r.weight)) (row_of-without e k rows) ∙ weight_if (same_entry k e) (row_of e rows) None

placed_once : (t : Bool) (x : ℕ) (o : Option ℕ) → cond t (Some x) (cond t None o) ≡ cond t (Some x) o
placed_once true x o = refl
placed_once false x o = refl

pub weight_of-admitted : (e k : CacheEntryKey) (w : ℕ) (rows : List Tracked) → weight_of e (admitted k w rows) ≡ cond (same_entry k e) (Some w) (weight_of e rows)
weight_of-admitted e k w rows =
    weight_if (same_entry k e) (row_of e (without_row k rows)) (Some (record { entry = k; weight = w }))
    ∙ ap (cond (same_entry k e) (Some w)) (weight_of-without e k rows) ∙ placed_once (same_entry k e) w (weight_of e rows)

-- without an entry that has no row
pub without_none : (e : CacheEntryKey) (rows : List Tracked) → row_of e rows ≡ None → without_row e rows ≡ rows
without_none e [] h = refl
without_none e (r ∷ rows) h = by_test (same_entry r.entry e) (without_none e rows) h
  where
    by_test : (v : Bool) → (row_of e rows ≡ None → without_row e rows ≡ rows) → cond v (Some r) (row_of e rows) ≡ None → cond (not v) (r ∷ without_row e rows) (without_row e rows) ≡ r ∷ rows
    by_test true ih h = absurd cc
    by_test false ih h = ap (λ (l : List Tracked). r ∷ l) (ih h)

-- an entry that is weighed anew at its place keeps its entry
weighed_entry : (e k : CacheEntryKey) (w : ℕ) (r : Tracked) → same_entry (cond (same_entry r.entry k) (record r { weight = w }) r).entry e ≡ same_entry r.entry e
weighed_entry e k w r = by_test (same_entry r.entry k)
  where
    by_test : (v : Bool) → same_entry (cond v (record r { weight = w }) r).entry e ≡ same_entry r.entry e
    by_test true = refl
    by_test false = refl

-- what an entry weighs where k, which has a row, is weighed anew
pub weight_of-with : (e k : CacheEntryKey) (w x : ℕ) (rows : List Tracked) → weight_of k rows ≡ Some x → weight_of e (with_weight k w rows) ≡ cond (same_entry k e) (Some w) (weight_of e rows)
weight_of-with e k w x rows is =
    ap (option_map (λ r. r.weight)) (find-map (λ r. same_entry r.entry e) (λ r. cond (same_entry r.entry k) (record r { weight = w }) r) rows (weighed_entry e k w))
    ∙ by_row (row_of e rows) refl
  where
    by_key : (r : Tracked) → same_entry r.entry e ≡ true → (v : Bool) → same_entry k e ≡ v
        → Some (cond (same_entry r.entry k) (record r { weight = w }) r).weight ≡ cond v (Some w) (Some r.weight)
    by_key r t true h = rw (same_rest r.entry k e h ∙ t) refl
    by_key r t false h = rw (was_false (same_entry r.entry k) (apart k e r.entry h t)) refl

    by_row : (o : Option Tracked) → row_of e rows ≡ o
        → option_map (λ r. r.weight) (option_map (λ r. cond (same_entry r.entry k) (record r { weight = w }) r) o) ≡ cond (same_entry k e) (Some w) (option_map (λ r. r.weight) o)
    by_row (Some r) h = by_key r (find-passes (λ r. same_entry r.entry e) rows r h) (same_entry k e) refl
    by_row None h = ap (λ (v : Bool). cond v (Some w) None) (sym (by_same (same_entry k e) refl))
      where
        by_same : (v : Bool) → same_entry k e ≡ v → v ≡ false
        by_same false t = refl
        by_same true t =
            let none : weight_of k rows ≡ None = ap (λ (j : CacheEntryKey). weight_of j rows) (same_entry-tells.equal k e t) ∙ ap (option_map (λ r. r.weight)) h in
            absurd cc
