-- After each change that may come, the state is what the changes say.
use Rattle.std.proofs.Common.{◌≡◌, ℕ, ◌+◌, ◌-◌, ◌<◌, ◌≤◌, Bool, true, false, cond, List, ◌∷◌, refl, ap, sym, ◌∙◌, subst, inl, inr, arith}
use Rattle.std.specs.Prelude.{◌⊎◌, Option, Some, None, nat_le, ◌==◌}
use Rattle.std.specs.Ordering.{nat_cmp}
use Rattle.std.specs.Cmp.{unsigned_tied}
use Rattle.std.specs.Cmp.Lexicographic.{slice_cmp, nat_list_cmp_total, same_text}
use Rattle.std.proofs.lemmas.Cmp.{nat_cmp_total}
use Rattle.std.proofs.lemmas.Bool.{eqb-true}
use borrow.Author.Tests.{leb-true, eq-eqb}
use Rattle.std.specs.FinMap.{FinMap, get, insert, remove, get-insert, get-remove}
use Rattle.cache_words.specs.Time.{MomentValue}
use Rattle.cache_lock.specs.declared.lock_core.HeldCore.{HeldCore}
use Rattle.cache_lock.specs.declared.status.LockStatus.{LockStatus}
use Rattle.cache_lock.specs.declared.status.LockStatus.TheVariants.{Waiting}
use Rattle.cache_lock.specs.Status.{is_waiting, is_replaced}
use Rattle.cache_lock.specs.Changes.{Changes, gives, lends, stores, takes_out, spends}
use Rattle.cache_lock.specs.State.{LockState, named, unnamed, with_status, with_core, without_core, spent, is_number}
use Rattle.cache_lock.specs.Waits.{same_key, names_of, last_status, core_of, IsOfKey, MayCome, IsStateOf}
use Rattle.cache_lock.proofs.Tables.{keys_tie}

-- ---- look-ups after a change

module _ {X : Type 0} (m : FinMap nat_cmp X) (k q : ℕ) where
  pub get-put : (v : X) → get (insert m k v) q ≡ cond (q == k) (Some v) (get m q)
  get-put v = get-insert nat_cmp_total m k v q ∙ ap (λ (t : Bool). cond t (Some v) (get m q)) (unsigned_tied q k)

  pub get-out : get (remove m k) q ≡ cond (q == k) None (get m q)
  get-out = get-remove nat_cmp_total m k q ∙ ap (λ (t : Bool). cond t None (get m q)) (unsigned_tied q k)

module _ (m : FinMap (slice_cmp nat_cmp) ℕ) (k q : List ℕ) where
  pub key-put : (v : ℕ) → get (insert m k v) q ≡ cond (same_key q k) (Some v) (get m q)
  key-put v = get-insert nat_list_cmp_total m k v q ∙ ap (λ (t : Bool). cond t (Some v) (get m q)) (sym (keys_tie q k))

  pub key-out : get (remove m k) q ≡ cond (same_key q k) None (get m q)
  key-out = get-remove nat_list_cmp_total m k q ∙ ap (λ (t : Bool). cond t None (get m q)) (sym (keys_tie q k))

pub number : (a b : ℕ) → (a == b) ≡ true → a ≡ b
number a b e = eqb-true a b e

key : (a b : List ℕ) → same_key a b ≡ true → a ≡ b
key a b e = same_text a b (sym e)

-- ---- a core changed in its place

module _ (n : ℕ) (f : HeldCore → HeldCore) (s : LockState) where
  pub same_current : (o : Option HeldCore) → (with_core n f o s).current ≡ s.current
  same_current None = refl
  same_current (Some b) = refl

  From : ℕ → HeldCore → Type 0
  From q c = (b : HeldCore) × (get s.cores q ≡ Some b) × (c ≡ cond (q == n) (f b) b)

  came_from : (o : Option HeldCore) → get s.cores n ≡ o → (q : ℕ) (c : HeldCore) → get (with_core n f o s).cores q ≡ Some c → (b : HeldCore) × (get s.cores q ≡ Some b) × (c ≡ cond (q == n) (f b) b)
  came_from None is q c e = (c, e, by (q == n) refl)
    where
      by : (t : Bool) → (q == n) ≡ t → c ≡ cond t (f c) c
      by true t =
          let gone : get s.cores q ≡ None = ap (λ (i : ℕ). get s.cores i) (number q n t) ∙ is in
          absurd cc
      by false t = refl
  came_from (Some b) is q c e = by (q == n) refl (sym (get-put s.cores n q (f b)) ∙ e)
    where
      by : (t : Bool) → (q == n) ≡ t → cond t (Some (f b)) (get s.cores q) ≡ Some c → (x : HeldCore) × (get s.cores q ≡ Some x) × (c ≡ cond t (f x) x)
      by true t h =
          let made : c ≡ f b = cc in
          (b, ap (λ (i : ℕ). get s.cores i) (number q n t) ∙ is, made)
      by false t h = (c, h, refl)

  stays : (o : Option HeldCore) → (q : ℕ) (c : HeldCore) → get s.cores q ≡ Some c → (x : HeldCore) × (get (with_core n f o s).cores q ≡ Some x)
  stays None q c e = (c, e)
  stays (Some b) q c e = by (q == n) (get-put s.cores n q (f b))
    where
      by : (t : Bool) → get (insert s.cores n (f b)) q ≡ cond t (Some (f b)) (get s.cores q) → (x : HeldCore) × (get (insert s.cores n (f b)) q ≡ Some x)
      by true h = (f b, h)
      by false h = (c, h ∙ e)

status_kept : (t : Bool) (f : HeldCore → HeldCore) (b : HeldCore) → (f b).core.status ≡ b.core.status → (cond t (f b) b).core.status ≡ b.core.status
status_kept true f b e = e
status_kept false f b e = refl

names_kept : (t : Bool) (f : HeldCore → HeldCore) (b : HeldCore) → (f b).names ≡ b.names → (cond t (f b) b).names ≡ b.names
names_kept true f b e = e
names_kept false f b e = refl

names_now : (t : Bool) (f : HeldCore → HeldCore) (g : ℕ → ℕ) (b : HeldCore) (k : ℕ) → (f b).names ≡ g b.names → b.names ≡ k → (cond t (f b) b).names ≡ cond t (g k) k
names_now true f g b k e is = e ∙ ap g is
names_now false f g b k e is = is

status_now : (t : Bool) (status : LockStatus) (b : HeldCore) (k : LockStatus) → b.core.status ≡ k → (cond t (with_status status b) b).core.status ≡ cond t status k
status_now true status b k is = refl
status_now false status b k is = is

-- ---- each change

pub lent : (n : ℕ) (s : LockState) (before : Changes) → IsStateOf s before → IsStateOf (with_core n named (get s.cores n) s) (lends n ∷ before)
lent n s before r = record {
  names = λ q c e. let b = came_from n named s (get s.cores n) refl q c e in ap (λ (x : HeldCore). x.names) b.2 ∙ names_now (q == n) named (λ k. k + 1) b.0 (names_of q before) refl (r.names q b.0 b.1);
  status = λ q c e. let b = came_from n named s (get s.cores n) refl q c e in ap (λ (x : HeldCore). x.core.status) b.2 ∙ status_kept (q == n) named b.0 refl ∙ r.status q b.0 b.1;
  current = λ k m e. r.current k m (sym (ap (λ (t : FinMap (slice_cmp nat_cmp) ℕ). get t k) (same_current n named s (get s.cores n))) ∙ e);
  waits = λ k m e w. (
    ap (λ (t : FinMap (slice_cmp nat_cmp) ℕ). get t k) (same_current n named s (get s.cores n)) ∙ (r.waits k m e w).0,
    stays n named s (get s.cores n) m (r.waits k m e w).1.0 (r.waits k m e w).1.1,
  );
  replaced = r.replaced;
}

not_waiting : (status : LockStatus) → is_replaced status ≡ true → status ≡ Waiting → ⊥
not_waiting status r e =
    let bad : is_replaced Waiting ≡ true = subst (λ (x : LockStatus). is_replaced x ≡ true) e r in
    absurd cc

pub stored : (n : ℕ) (status : LockStatus) (s : LockState) (before : Changes) → IsStateOf s before → MayCome (stores n status) before
    → IsStateOf (with_core n (with_status status) (get s.cores n) s) (stores n status ∷ before)
stored n status s before r may = record {
  names = λ q c e. let b = came_from n (with_status status) s (get s.cores n) refl q c e in ap (λ (x : HeldCore). x.names) b.2 ∙ names_kept (q == n) (with_status status) b.0 refl ∙ r.names q b.0 b.1;
  status = λ q c e. let b = came_from n (with_status status) s (get s.cores n) refl q c e in ap (λ (x : HeldCore). x.core.status) b.2 ∙ status_now (q == n) status b.0 (last_status q before) (r.status q b.0 b.1);
  current = λ k m e. r.current k m (sym (ap (λ (t : FinMap (slice_cmp nat_cmp) ℕ). get t k) (same_current n (with_status status) s (get s.cores n))) ∙ e);
  waits = λ k m e w. let old = r.waits k m e (was k m e (m == n) refl w) in (
    ap (λ (t : FinMap (slice_cmp nat_cmp) ℕ). get t k) (same_current n (with_status status) s (get s.cores n)) ∙ old.0,
    stays n (with_status status) s (get s.cores n) m old.1.0 old.1.1,
  );
  replaced = λ k m e. now k m e (m == n) refl;
}
  where
    was : (k : List ℕ) (m : ℕ) → core_of k before ≡ Some m → (t : Bool) → (m == n) ≡ t → cond t status (last_status m before) ≡ Waiting → last_status m before ≡ Waiting
    was k m e true t w = absurd (not_waiting status (may (k, e ∙ ap (λ (i : ℕ). Some i) (number m n t))) w)
    was k m e false t w = w

    now : (k : List ℕ) (m : ℕ) → core_of k before ≡ Some m → (t : Bool) → (m == n) ≡ t → (is_waiting (cond t status (last_status m before)) ≡ true) ⊎ (is_replaced (cond t status (last_status m before)) ≡ true)
    now k m e true t = inr (may (k, e ∙ ap (λ (i : ℕ). Some i) (number m n t)))
    now k m e false t = r.replaced k m e

pub taken : (gone : List ℕ) (s : LockState) (before : Changes) → IsStateOf s before → IsStateOf (record s { current = remove s.current gone }) (takes_out gone ∷ before)
taken gone s before r = record {
  names = r.names;
  status = r.status;
  current = λ k m e. here k m (same_key k gone) (sym (key-out s.current gone k) ∙ e);
  waits = λ k m e w. still k m (same_key k gone) (key-out s.current gone k) e w;
  replaced = λ k m e. after_it k m (same_key k gone) e;
}
  where
    here : (k : List ℕ) (m : ℕ) → (t : Bool) → cond t None (get s.current k) ≡ Some m → cond t None (core_of k before) ≡ Some m
    here k m true e = absurd cc
    here k m false e = r.current k m e

    still : (k : List ℕ) (m : ℕ) → (t : Bool) → get (remove s.current gone) k ≡ cond t None (get s.current k) → cond t None (core_of k before) ≡ Some m → last_status m before ≡ Waiting
        → (get (remove s.current gone) k ≡ Some m) × ((c : HeldCore) × (get s.cores m ≡ Some c))
    still k m true g e w = absurd cc
    still k m false g e w = (g ∙ (r.waits k m e w).0, (r.waits k m e w).1)

    after_it : (k : List ℕ) (m : ℕ) → (t : Bool) → cond t None (core_of k before) ≡ Some m → (is_waiting (last_status m before) ≡ true) ⊎ (is_replaced (last_status m before) ≡ true)
    after_it k m true e = absurd cc
    after_it k m false e = r.replaced k m e

pub begun : (n : ℕ) (k : List ℕ) (c : HeldCore) (s : LockState) (stale : Bool) (moment : MomentValue) (before : Changes) → IsStateOf s before → (IsOfKey n before → ⊥) → c.names ≡ 1 → c.core.status ≡ Waiting
    → IsStateOf (record s { cores = insert s.cores n c; current = insert s.current k n; next = n + 1 }) (gives n k stale moment ∷ before)
begun n k c s stale moment before r new one waiting = record {
  names = λ q x e. names_at q x (q == n) (sym (get-put s.cores n q c) ∙ e);
  status = λ q x e. status_at q x (q == n) (sym (get-put s.cores n q c) ∙ e);
  current = λ j m e. current_at j m (same_key j k) (sym (key-put s.current k j n) ∙ e);
  waits = λ j m e w. waits_at j m (same_key j k) (key-put s.current k j n) e (m == n) refl (get-put s.cores n m c) w;
  replaced = λ j m e. replaced_at j m (same_key j k) e (m == n) refl;
}
  where
    other : (j : List ℕ) (m : ℕ) → core_of j before ≡ Some m → (m == n) ≡ true → ⊥
    other j m e is = new (j, e ∙ ap (λ (i : ℕ). Some i) (number m n is))

    names_at : (q : ℕ) (x : HeldCore) → (t : Bool) → cond t (Some c) (get s.cores q) ≡ Some x → x.names ≡ cond t 1 (names_of q before)
    names_at q x true e =
        let same : c ≡ x = cc in
        subst (λ (y : HeldCore). y.names ≡ 1) same one
    names_at q x false e = r.names q x e

    status_at : (q : ℕ) (x : HeldCore) → (t : Bool) → cond t (Some c) (get s.cores q) ≡ Some x → x.core.status ≡ cond t Waiting (last_status q before)
    status_at q x true e =
        let same : c ≡ x = cc in
        subst (λ (y : HeldCore). y.core.status ≡ Waiting) same waiting
    status_at q x false e = r.status q x e

    current_at : (j : List ℕ) (m : ℕ) → (t : Bool) → cond t (Some n) (get s.current j) ≡ Some m → cond t (Some n) (core_of j before) ≡ Some m
    current_at j m true e = e
    current_at j m false e = r.current j m e

    held : (m : ℕ) → (u : Bool) → get (insert s.cores n c) m ≡ cond u (Some c) (get s.cores m) → (x : HeldCore) → get s.cores m ≡ Some x → (y : HeldCore) × (get (insert s.cores n c) m ≡ Some y)
    held m true h x e = (c, h)
    held m false h x e = (x, h ∙ e)

    waits_at : (j : List ℕ) (m : ℕ) → (t : Bool) → get (insert s.current k n) j ≡ cond t (Some n) (get s.current j) → cond t (Some n) (core_of j before) ≡ Some m
        → (u : Bool) → (m == n) ≡ u → get (insert s.cores n c) m ≡ cond u (Some c) (get s.cores m) → cond u Waiting (last_status m before) ≡ Waiting
        → (get (insert s.current k n) j ≡ Some m) × ((x : HeldCore) × (get (insert s.cores n c) m ≡ Some x))
    waits_at j m true g e true is h w = (g ∙ e, (c, h))
    waits_at j m true g e false is h w =
        let same : n ≡ m = cc in
        let here : (n == n) ≡ true = eq-eqb n n refl in
        let not_here : (n == n) ≡ false = subst (λ (i : ℕ). (i == n) ≡ false) (sym same) is in
        absurd cc
    waits_at j m false g e true is h w = absurd (other j m e is)
    waits_at j m false g e false is h w = (g ∙ (r.waits j m e w).0, ((r.waits j m e w).1.0, h ∙ (r.waits j m e w).1.1))

    replaced_at : (j : List ℕ) (m : ℕ) → (t : Bool) → cond t (Some n) (core_of j before) ≡ Some m
        → (u : Bool) → (m == n) ≡ u → (is_waiting (cond u Waiting (last_status m before)) ≡ true) ⊎ (is_replaced (cond u Waiting (last_status m before)) ≡ true)
    replaced_at j m t e true is = inl refl
    replaced_at j m true e false is =
        let same : n ≡ m = cc in
        let here : (n == n) ≡ true = eq-eqb n n refl in
        let not_here : (n == n) ≡ false = subst (λ (i : ℕ). (i == n) ≡ false) (sym same) is in
        absurd cc
    replaced_at j m false e false is = r.replaced j m e

-- ---- a name that is handed back

less : (n : ℕ) (s : LockState) (before : Changes) → IsStateOf s before → IsStateOf (with_core n unnamed (get s.cores n) s) (spends n ∷ before)
less n s before r = record {
  names = λ q c e. let b = came_from n unnamed s (get s.cores n) refl q c e in ap (λ (x : HeldCore). x.names) b.2 ∙ names_now (q == n) unnamed (λ k. k - 1) b.0 (names_of q before) refl (r.names q b.0 b.1);
  status = λ q c e. let b = came_from n unnamed s (get s.cores n) refl q c e in ap (λ (x : HeldCore). x.core.status) b.2 ∙ status_kept (q == n) unnamed b.0 refl ∙ r.status q b.0 b.1;
  current = λ k m e. r.current k m (sym (ap (λ (t : FinMap (slice_cmp nat_cmp) ℕ). get t k) (same_current n unnamed s (get s.cores n))) ∙ e);
  waits = λ k m e w. (
    ap (λ (t : FinMap (slice_cmp nat_cmp) ℕ). get t k) (same_current n unnamed s (get s.cores n)) ∙ (r.waits k m e w).0,
    stays n unnamed s (get s.cores n) m (r.waits k m e w).1.0 (r.waits k m e w).1.1,
  );
  replaced = r.replaced;
}

is_that : (n : ℕ) (o : Option ℕ) → is_number n o ≡ true → o ≡ Some n
is_that n None e = absurd cc
is_that n (Some m) e = ap (λ (i : ℕ). Some i) (sym (number n m e))

gone : (n : ℕ) (b : HeldCore) (s : LockState) (before : Changes) → IsStateOf s before → MayCome (spends n) before → get s.cores n ≡ Some b → nat_le b.names 1 ≡ true
    → IsStateOf (without_core n b.key s) (spends n ∷ before)
gone n b s before r may is few = record {
  names = λ q c e. names_at q c (q == n) (sym (get-out s.cores n q) ∙ e);
  status = λ q c e. status_at q c (q == n) (sym (get-out s.cores n q) ∙ e);
  current = λ k m e. r.current k m (was k m (is_number n (get s.current b.key)) e);
  waits = λ k m e w. (stays_current k m (r.waits k m e w).0 (apart k m e w) (is_number n (get s.current b.key)) refl, stays_core m (m == n) refl (get-out s.cores n m) (apart k m e w) (r.waits k m e w).1);
  replaced = r.replaced;
}
  where
    names_at : (q : ℕ) (c : HeldCore) → (t : Bool) → cond t None (get s.cores q) ≡ Some c → c.names ≡ cond t (names_of q before - 1) (names_of q before)
    names_at q c true e = absurd cc
    names_at q c false e = r.names q c e

    status_at : (q : ℕ) (c : HeldCore) → (t : Bool) → cond t None (get s.cores q) ≡ Some c → c.core.status ≡ last_status q before
    status_at q c true e = absurd cc
    status_at q c false e = r.status q c e

    out : (k : List ℕ) (m : ℕ) → (t : Bool) → cond t None (get s.current k) ≡ Some m → get s.current k ≡ Some m
    out k m true e = absurd cc
    out k m false e = e

    was : (k : List ℕ) (m : ℕ) → (t : Bool) → get (cond t (remove s.current b.key) s.current) k ≡ Some m → get s.current k ≡ Some m
    was k m true e = out k m (same_key k b.key) (sym (key-out s.current b.key k) ∙ e)
    was k m false e = e

    -- a core that waits for its key is not the one that goes
    apart : (k : List ℕ) (m : ℕ) → core_of k before ≡ Some m → last_status m before ≡ Waiting → m ≡ n → ⊥
    apart k m e w same =
        let more : 1 < names_of n before = may (k, e ∙ ap (λ (i : ℕ). Some i) same) (ap (λ (i : ℕ). last_status i before) (sym same) ∙ w) in
        let count : b.names ≡ names_of n before = r.names n b is in
        let at_most : b.names ≤ 1 = leb-true b.names 1 few in
        omega arith

    stays_core : (m : ℕ) → (t : Bool) → (m == n) ≡ t → get (remove s.cores n) m ≡ cond t None (get s.cores m) → (m ≡ n → ⊥) → (x : HeldCore) × (get s.cores m ≡ Some x) → (x : HeldCore) × (get (remove s.cores n) m ≡ Some x)
    stays_core m true t h other x = absurd (other (number m n t))
    stays_core m false t h other x = (x.0, h ∙ x.1)

    stays_current : (k : List ℕ) (m : ℕ) → get s.current k ≡ Some m → (m ≡ n → ⊥) → (t : Bool) → is_number n (get s.current b.key) ≡ t → get (cond t (remove s.current b.key) s.current) k ≡ Some m
    stays_current k m e other false t = e
    stays_current k m e other true t = by (same_key k b.key) refl (key-out s.current b.key k)
      where
        by : (u : Bool) → same_key k b.key ≡ u → get (remove s.current b.key) k ≡ cond u None (get s.current k) → get (remove s.current b.key) k ≡ Some m
        by true u h =
            let there : get s.current k ≡ Some n = ap (λ (i : List ℕ). get s.current i) (key k b.key u) ∙ is_that n (get s.current b.key) t in
            let same : m ≡ n = cc in
            absurd (other same)
        by false u h = h ∙ e

pub handed_back : (n : ℕ) (s : LockState) (before : Changes) → IsStateOf s before → MayCome (spends n) before → (o : Option HeldCore) → get s.cores n ≡ o → IsStateOf (spent n o s) (spends n ∷ before)
handed_back n s before r may None is = subst (λ (o : Option HeldCore). IsStateOf (with_core n unnamed o s) (spends n ∷ before)) is (less n s before r)
handed_back n s before r may (Some b) is = by (nat_le b.names 1) refl
  where
    by : (t : Bool) → nat_le b.names 1 ≡ t → IsStateOf (cond t (without_core n b.key s) (record s { cores = insert s.cores n (unnamed b) })) (spends n ∷ before)
    by true few = gone n b s before r may is few
    by false more = subst (λ (o : Option HeldCore). IsStateOf (with_core n unnamed o s) (spends n ∷ before)) is (less n s before r)
