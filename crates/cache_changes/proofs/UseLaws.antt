-- The rows that changes leave are the order of use, and nothing else is.
use Rattle.std.proofs.Common.{◌≡◌, ℕ, ◌+◌, ◌≤◌, ◌<◌, refl, ap, sym, ◌∙◌, true, false, subst, cond, [], ◌∷◌, length, arith}
use Rattle.std.specs.Prelude.{Bool, List, Option, Some, None, option_map, unwrap_or, is_some, not, ◌↔◌}
use Rattle.cache_entries.specs.declared.entry.CacheEntryKey.{CacheEntryKey}
use Rattle.cache_entries.specs.declared.rows.Tracked.{Tracked}
use Rattle.cache_entries.specs.Entry.{same_entry}
use Rattle.cache_entries.specs.Rows.{row_of, weight_of, without_row, admitted, used, AreDistinct, is_over}
use Rattle.cache_entries.specs.SameEntry.{same_entry-tells, same-sym}
use Rattle.cache_changes.specs.Changes.{Change, Changes, admits, uses, reweighs, departs, evicts}
use Rattle.cache_changes.specs.Uses.{last_use, last_weight, unless_tracked, with_weight, reweighed, AreInOrder, IsOrderOfUse, IsLast, IsLawfulEviction, shard_of, in_shard, rows_after, rows_of, admissions}
use Rattle.cache_changes.proofs.RowLaws.{weight_of-without, weight_of-admitted, weight_of-with, without_none}

-- rows in an order, over any account of last uses and weights
record Ordered (last weight : CacheEntryKey → Option ℕ) (bound : ℕ) (rows : List Tracked) : Type 0 where
  pub order : AreInOrder last bound rows
  pub weights : (e : CacheEntryKey) → weight_of e rows ≡ weight e

pub earlier : (f : CacheEntryKey → Option ℕ) (m n : ℕ) (rows : List Tracked) → m ≤ n → AreInOrder f m rows → AreInOrder f n rows
earlier f m n [] h o = tt
earlier f m n (r ∷ rows) h o = (o.0, o.1, omega (arith, o.2), o.3)

-- without the rows of an entry, whatever was its last use
others : (f : CacheEntryKey → Option ℕ) (k : CacheEntryKey) (x : Option ℕ) (n : ℕ) (rows : List Tracked) → AreInOrder f n rows
    → AreInOrder (λ e. cond (same_entry k e) x (f e)) n (without_row k rows)
others f k x n [] o = tt
others f k x n (r ∷ rows) o = by_key (same_entry r.entry k) refl (others f k x o.0 rows o.3)
  where
    by_key : (v : Bool) → same_entry r.entry k ≡ v → AreInOrder (λ e. cond (same_entry k e) x (f e)) o.0 (without_row k rows)
        → AreInOrder (λ e. cond (same_entry k e) x (f e)) n (cond (not v) (r ∷ without_row k rows) (without_row k rows))
    by_key true e rest = earlier (λ e. cond (same_entry k e) x (f e)) o.0 n (without_row k rows) (omega (arith, o.2)) rest
    by_key false e rest = (o.0, ap (λ v. cond v x (f r.entry)) (same-sym same_entry same_entry-tells k r.entry ∙ e) ∙ o.1, o.2, rest)

without_ordered : (f g : CacheEntryKey → Option ℕ) (k : CacheEntryKey) (n : ℕ) (rows : List Tracked) → Ordered f g n rows
    → Ordered (λ e. cond (same_entry k e) None (f e)) (λ e. cond (same_entry k e) None (g e)) (n + 1) (without_row k rows)
without_ordered f g k n rows o = record {
  order = earlier (λ e. cond (same_entry k e) None (f e)) n (n + 1) (without_row k rows) (omega arith) (others f k None n rows o.order);
  weights = λ e. weight_of-without e k rows ∙ ap (cond (same_entry k e) None) (o.weights e);
}

admitted_ordered : (f g : CacheEntryKey → Option ℕ) (k : CacheEntryKey) (w n : ℕ) (rows : List Tracked) → Ordered f g n rows
    → Ordered (λ e. cond (same_entry k e) (Some n) (f e)) (λ e. cond (same_entry k e) (Some w) (g e)) (n + 1) (admitted k w rows)
admitted_ordered f g k w n rows o = record {
  order = (n, ap (λ v. cond v (Some n) (f k)) (same_entry-tells.itself k), omega arith, others f k (Some n) n rows o.order);
  weights = λ e. weight_of-admitted e k w rows ∙ ap (cond (same_entry k e) (Some w)) (o.weights e);
}

-- what a use gives an entry, by the weight that this entry had
used_weight : (g : CacheEntryKey → Option ℕ) (k e : CacheEntryKey) (w : ℕ) (v : Bool) → same_entry k e ≡ v
    → cond v (Some (unwrap_or (g k) w)) (g e) ≡ cond v (Some (unwrap_or (g e) w)) (g e)
used_weight g k e w true h = ap (λ (x : CacheEntryKey). Some (unwrap_or (g x) w)) (same_entry-tells.equal k e h)
used_weight g k e w false h = refl

used_ordered : (f g : CacheEntryKey → Option ℕ) (k : CacheEntryKey) (w n : ℕ) (rows : List Tracked) → Ordered f g n rows
    → Ordered (λ e. cond (same_entry k e) (Some n) (f e)) (λ e. cond (same_entry k e) (Some (unwrap_or (g e) w)) (g e)) (n + 1) (used k w rows)
used_ordered f g k w n rows o =
    let done = admitted_ordered f g k (unwrap_or (weight_of k rows) w) n rows o in
    record {
      order = done.order;
      weights = λ e. done.weights e ∙ ap (λ (x : Option ℕ). cond (same_entry k e) (Some (unwrap_or x w)) (g e)) (o.weights k) ∙ used_weight g k e w (same_entry k e) refl;
    }

-- over another account that tells the same
in_order-same : (f g : CacheEntryKey → Option ℕ) (n : ℕ) (rows : List Tracked) → ((e : CacheEntryKey) → g e ≡ f e) → AreInOrder f n rows → AreInOrder g n rows
in_order-same f g n [] h o = tt
in_order-same f g n (r ∷ rows) h o = (o.0, h r.entry ∙ o.1, o.2, in_order-same f g o.0 rows h o.3)

-- each row at its place, with another weight or not
in_order-weights : (f : CacheEntryKey → Option ℕ) (k : CacheEntryKey) (w n : ℕ) (rows : List Tracked) → AreInOrder f n rows → AreInOrder f n (with_weight k w rows)
in_order-weights f k w n [] o = tt
in_order-weights f k w n (r ∷ rows) o = by_key (same_entry r.entry k) (in_order-weights f k w o.0 rows o.3)
  where
    by_key : (v : Bool) → AreInOrder f o.0 (with_weight k w rows) → AreInOrder f n (cond v (record r { weight = w }) r ∷ with_weight k w rows)
    by_key true rest = (o.0, o.1, o.2, rest)
    by_key false rest = (o.0, o.1, o.2, rest)

-- the last use of an entry as k is weighed anew, by what k weighs
weighed_use : (f g : CacheEntryKey → Option ℕ) (k e : CacheEntryKey) (n : ℕ) (x : Option ℕ) → g k ≡ x → (v : Bool) → same_entry k e ≡ v
    → cond v (unless_tracked (g e) (f e) n) (f e) ≡ cond v (unless_tracked x (f e) n) (f e)
weighed_use f g k e n x is true h = ap (λ (y : Option ℕ). unless_tracked y (f e) n) (ap g (sym (same_entry-tells.equal k e h)) ∙ is)
weighed_use f g k e n x is false h = refl

same_use : (v : Bool) (x : Option ℕ) → cond v x x ≡ x
same_use true x = refl
same_use false x = refl

reweighed_ordered : (f g : CacheEntryKey → Option ℕ) (k : CacheEntryKey) (w n : ℕ) (rows : List Tracked) → Ordered f g n rows
    → Ordered (λ e. cond (same_entry k e) (unless_tracked (g e) (f e) n) (f e)) (λ e. cond (same_entry k e) (Some w) (g e)) (n + 1) (reweighed k w rows)
reweighed_ordered f g k w n rows o = by_weight (weight_of k rows) refl
  where
    by_weight : (x : Option ℕ) → weight_of k rows ≡ x
        → Ordered (λ e. cond (same_entry k e) (unless_tracked (g e) (f e) n) (f e)) (λ e. cond (same_entry k e) (Some w) (g e)) (n + 1) (cond (is_some x) (with_weight k w rows) (admitted k w rows))
    by_weight None is =
        let done = admitted_ordered f g k w n rows o in
        record {
          order = in_order-same (λ e. cond (same_entry k e) (Some n) (f e)) (λ e. cond (same_entry k e) (unless_tracked (g e) (f e) n) (f e)) (n + 1) (admitted k w rows)
              (λ e. weighed_use f g k e n None (sym (o.weights k) ∙ is) (same_entry k e) refl) done.order;
          weights = done.weights;
        }
    by_weight (Some x) is = record {
      order = in_order-same f (λ e. cond (same_entry k e) (unless_tracked (g e) (f e) n) (f e)) (n + 1) (with_weight k w rows)
          (λ e. weighed_use f g k e n (Some x) (sym (o.weights k) ∙ is) (same_entry k e) refl ∙ same_use (same_entry k e) (f e))
          (earlier f n (n + 1) (with_weight k w rows) (omega arith) (in_order-weights f k w n rows o.order));
      weights = λ e. weight_of-with e k w x rows is ∙ ap (cond (same_entry k e) (Some w)) (o.weights e);
    }

idle_ordered : (f g : CacheEntryKey → Option ℕ) (n : ℕ) (rows : List Tracked) → Ordered f g n rows → Ordered f g (n + 1) rows
idle_ordered f g n rows o = record { order = earlier f n (n + 1) rows (omega arith) o.order; weights = o.weights }

ordered_after : {M : Type 0} (c : Change M) (before : Changes M) (rows : List Tracked) → Ordered (λ e. last_use e before) (λ e. last_weight e before) (length before) rows
    → Ordered (λ e. last_use e (c ∷ before)) (λ e. last_weight e (c ∷ before)) (length before + 1) (rows_after c rows)
ordered_after (admits x w) before rows o = admitted_ordered (λ e. last_use e before) (λ e. last_weight e before) x w (length before) rows o
ordered_after (uses x w) before rows o = used_ordered (λ e. last_use e before) (λ e. last_weight e before) x w (length before) rows o
ordered_after (reweighs x w) before rows o = reweighed_ordered (λ e. last_use e before) (λ e. last_weight e before) x w (length before) rows o
ordered_after (departs x) before rows o = without_ordered (λ e. last_use e before) (λ e. last_weight e before) x (length before) rows o
ordered_after (evicts x) before rows o = without_ordered (λ e. last_use e before) (λ e. last_weight e before) x (length before) rows o
ordered_after _ before rows o = idle_ordered (λ e. last_use e before) (λ e. last_weight e before) (length before) rows o

-- each change keeps the rows the order of use
pub IsOrderOfUse-after : {M : Type 0} (c : Change M) (before : Changes M) (rows : List Tracked) → IsOrderOfUse rows before → IsOrderOfUse (rows_after c rows) (c ∷ before)
IsOrderOfUse-after c before rows o =
    let done = ordered_after c before rows (record { order = o.order; weights = o.weights }) in
    record { order = earlier (λ e. last_use e (c ∷ before)) (length before + 1) (length (c ∷ before)) (rows_after c rows) (omega arith) done.order; weights = done.weights }

pub IsOrderOfUse-rows_of : {M : Type 0} (changes : Changes M) → IsOrderOfUse (rows_of changes) changes
IsOrderOfUse-rows_of [] = record { order = tt; weights = λ e. refl }
IsOrderOfUse-rows_of (c ∷ before) = IsOrderOfUse-after c before (rows_of before) (IsOrderOfUse-rows_of before)

-- an entry with a row was last used before the bound
before_bound : (f : CacheEntryKey → Option ℕ) (n : ℕ) (rows : List Tracked) (e : CacheEntryKey) → AreInOrder f n rows → is_some (weight_of e rows) ≡ true
    → (m : ℕ) × (f e ≡ Some m) × (m < n)
before_bound f n [] e o h = absurd cc
before_bound f n (r ∷ rows) e o h = by_key (same_entry r.entry e) refl (before_bound f o.0 rows e o.3) h
  where
    by_key : (v : Bool) → same_entry r.entry e ≡ v → (is_some (weight_of e rows) ≡ true → (m : ℕ) × (f e ≡ Some m) × (m < o.0))
        → is_some (option_map (λ r. r.weight) (cond v (Some r) (row_of e rows))) ≡ true → (m : ℕ) × (f e ≡ Some m) × (m < n)
    by_key true t ih h = (o.0, subst (λ (x : CacheEntryKey). f x ≡ Some o.0) (same_entry-tells.equal r.entry e t) o.1, o.2)
    by_key false t ih h = let rest = ih h in (rest.0, rest.1, omega (arith, rest.2, o.2))

-- a row that isn't the first
later_row : (e : CacheEntryKey) (r : Tracked) (rows : List Tracked) → same_entry r.entry e ≡ false → weight_of e (r ∷ rows) ≡ weight_of e rows
later_row e r rows h = ap (λ v. option_map (λ r. r.weight) (cond v (Some r) (row_of e rows))) h

first_row : (e : CacheEntryKey) (r : Tracked) (rows : List Tracked) → same_entry r.entry e ≡ true → weight_of e (r ∷ rows) ≡ Some r.weight
first_row e r rows h = ap (λ v. option_map (λ r. r.weight) (cond v (Some r) (row_of e rows))) h

-- an entry used at the bound or later has no row
none_there : (f : CacheEntryKey → Option ℕ) (n : ℕ) (rows : List Tracked) (e : CacheEntryKey) → AreInOrder f n rows → f e ≡ Some n → weight_of e rows ≡ None
none_there f n rows e o h = by_weight (weight_of e rows) refl
  where
    by_weight : (x : Option ℕ) → weight_of e rows ≡ x → x ≡ None
    by_weight None t = refl
    by_weight (Some w) t =
        let there : (m : ℕ) × (f e ≡ Some m) × (m < n) = before_bound f n rows e o (ap is_some t) in
        let same : there.0 ≡ n = cc (there.1) in
        absurd (omega (arith, same, there.2))

-- the first rows of two orders that report the same are of one entry
one_first : (f : CacheEntryKey → Option ℕ) (a b : ℕ) (r q : Tracked) (xs ys : List Tracked) → AreInOrder f a (r ∷ xs) → AreInOrder f b (q ∷ ys)
    → ((e : CacheEntryKey) → weight_of e (r ∷ xs) ≡ weight_of e (q ∷ ys)) → same_entry r.entry q.entry ≡ true
one_first f a b r q xs ys o p h = by_key (same_entry r.entry q.entry) refl
  where
    by_key : (v : Bool) → same_entry r.entry q.entry ≡ v → v ≡ true
    by_key true t = refl
    by_key false t =
        let turned : same_entry q.entry r.entry ≡ false = same-sym same_entry same_entry-tells q.entry r.entry ∙ t in
        let r_there : weight_of r.entry ys ≡ Some r.weight = sym (later_row r.entry q ys turned) ∙ sym (h r.entry) ∙ first_row r.entry r xs (same_entry-tells.itself r.entry) in
        let q_there : weight_of q.entry xs ≡ Some q.weight = sym (later_row q.entry r xs t) ∙ h q.entry ∙ first_row q.entry q ys (same_entry-tells.itself q.entry) in
        let r_use : (m : ℕ) × (f r.entry ≡ Some m) × (m < p.0) = before_bound f p.0 ys r.entry p.3 (ap is_some r_there) in
        let q_use : (m : ℕ) × (f q.entry ≡ Some m) × (m < o.0) = before_bound f o.0 xs q.entry o.3 (ap is_some q_there) in
        let one : r_use.0 ≡ o.0 = cc (r_use.1, o.1) in
        let two : q_use.0 ≡ p.0 = cc (q_use.1, p.1) in
        absurd (omega (arith, one, two, r_use.2, q_use.2))

one_row : (r q : Tracked) → r.entry ≡ q.entry → r.weight ≡ q.weight → r ≡ q
one_row r q e w = λ i. record { entry = e i; weight = w i }

-- two orders that report the same are one
one_order : (f : CacheEntryKey → Option ℕ) (a b : ℕ) (rows other : List Tracked) → AreInOrder f a rows → AreInOrder f b other
    → ((e : CacheEntryKey) → weight_of e rows ≡ weight_of e other) → rows ≡ other
one_order f a b [] [] o p h = refl
one_order f a b [] (q ∷ ys) o p h = let there = h q.entry ∙ first_row q.entry q ys (same_entry-tells.itself q.entry) in absurd cc
one_order f a b (r ∷ xs) [] o p h = let there = sym (h r.entry) ∙ first_row r.entry r xs (same_entry-tells.itself r.entry) in absurd cc
one_order f a b (r ∷ xs) (q ∷ ys) o p h =
    let same : r.entry ≡ q.entry = same_entry-tells.equal r.entry q.entry (one_first f a b r q xs ys o p h) in
    let weights : Some r.weight ≡ Some q.weight =
    sym (first_row r.entry r xs (same_entry-tells.itself r.entry)) ∙ h r.entry ∙ first_row r.entry q ys (subst (λ (x : CacheEntryKey). same_entry q.entry x ≡ true) (sym same) (same_entry-tells.itself q.entry)) in
    let one_weight : r.weight ≡ q.weight = cc in
    let here : f r.entry ≡ Some p.0 = ap f same ∙ p.1 in
    let one_use : o.0 ≡ p.0 = cc (o.1) in
    let rest : (e : CacheEntryKey) → weight_of e xs ≡ weight_of e ys = λ e. by_key e same here (same_entry r.entry e) refl in
    ap (λ (x : Tracked). x ∷ xs) (one_row r q same one_weight) ∙ ap (λ (l : List Tracked). q ∷ l) (one_order f o.0 p.0 xs ys o.3 p.3 rest)
  where
    by_key : (e : CacheEntryKey) → r.entry ≡ q.entry → f r.entry ≡ Some p.0 → (v : Bool) → same_entry r.entry e ≡ v → weight_of e xs ≡ weight_of e ys
    by_key e same here true t =
        let is : r.entry ≡ e = same_entry-tells.equal r.entry e t in
        none_there f o.0 xs e o.3 (subst (λ (x : CacheEntryKey). f x ≡ Some o.0) is o.1) ∙ sym (none_there f p.0 ys e p.3 (subst (λ (x : CacheEntryKey). f x ≡ Some p.0) is here))
    by_key e same here false t =
        sym (later_row e r xs t) ∙ h e ∙ later_row e q ys (subst (λ (x : CacheEntryKey). same_entry x e ≡ false) same t)

pub IsOrderOfUse-one : {M : Type 0} (rows : List Tracked) (changes : Changes M) → IsOrderOfUse rows changes → rows ≡ rows_of changes
IsOrderOfUse-one rows changes o =
    let made = IsOrderOfUse-rows_of changes in
    one_order (λ e. last_use e changes) (length changes) (length changes) rows (rows_of changes) o.order made.order (λ e. o.weights e ∙ sym (made.weights e))

-- loaded rows
pub rows_of-admissions : (M : Type 0) (rows : List Tracked) → AreDistinct rows → rows_of {M = M} (admissions rows) ≡ rows
rows_of-admissions M [] d = refl
rows_of-admissions M (r ∷ rows) d =
    ap (λ (l : List Tracked). r ∷ without_row r.entry l) (rows_of-admissions M rows d.1) ∙ ap (λ (l : List Tracked). r ∷ l) (without_none r.entry rows d.0)

-- lawful evictions are of the rows that changes leave
pub lawful-is : {M : Type 0} (n limit : ℕ) (watermark : Option ℕ) (e : CacheEntryKey) (before : Changes M)
    → IsLawfulEviction n limit watermark e before ↔ ((is_over limit watermark (rows_of before) ≡ true) × IsLast e (in_shard n (shard_of n e) (rows_of before)))
lawful-is n limit watermark e before = (
  λ h. subst (λ (rows : List Tracked). (is_over limit watermark rows ≡ true) × IsLast e (in_shard n (shard_of n e) rows)) (IsOrderOfUse-one h.rows before h.order) (h.over, h.last),
  λ h. record { rows = rows_of before; order = IsOrderOfUse-rows_of before; over = h.0; last = h.1 },
)
