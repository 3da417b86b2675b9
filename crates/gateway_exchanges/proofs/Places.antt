-- Hash maps whose values are seen through a function, as finite maps.
use Rattle.std.proofs.Common.{◌≡◌, ℕ, List, [], ◌∷◌, refl, ap, sym, ◌∙◌, cond, true, false, Bool, length, suc, subst, Less, Equal, Greater}
use Rattle.std.specs.Prelude.{Option, Some, None, option_map, nat_eq, is_some, ◌||◌}
use Rattle.std.specs.declared.cmp.Ordering.{Ordering}
use Rattle.std.specs.Ordering.{nat_cmp, eq_by_cmp, is_eq}
use Rattle.std.specs.Cmp.{IsTotalOrder, IsEquivalence, unsigned_tied}
use Rattle.std.specs.Cmp.Lexicographic.{pointwise, slice_cmp, nat_list_cmp_total, lists_equiv}
use Rattle.std.proofs.lemmas.Cmp.{nat_cmp_total, nat_eq_equiv}
use Rattle.std.proofs.lemmas.Map.{lookup-set_value}
use Rattle.std.specs.FinMap.{FinMap, IsAntisymmetric, get, insert, remove, from_entries, same_map, get-insert, get-remove, get_tied, len, nat_cmp-IsAntisymmetric, slice_cmp-IsAntisymmetric}
use Rattle.std.specs.List.{IsDistinct, list_any}
use Rattle.std.specs.Map.{keys_of, lookup, set_value}
use Rattle.tier_model.proofs.Tables.{each_of, get-keyed, insert-keyed, remove-keyed, len-keyed, bytes_tied}

pub is_tie : (r : Ordering) → is_eq r ≡ true → r ≡ Equal
is_tie Less e = absurd cc
is_tie Equal e = refl
is_tie Greater e = absurd cc

module _ {K X Y : Type 0} {R : K → K → Ordering} (eq : K → K → Bool) (equiv : IsEquivalence eq) (total : IsTotalOrder R) (apart : IsAntisymmetric R) (ties : (x y : K) → eq_by_cmp R x y ≡ eq x y) (f : X → Y) where
  by_test : (t : Bool) (v : X) (a : Option Y) (b : Option X) → a ≡ option_map f b → cond t (Some (f v)) a ≡ option_map f (cond t (Some v) b)
  by_test true v a b e = refl
  by_test false v a b e = e

  lookup-each : (test : K → Bool) (es : List (K × X)) → lookup test (each_of f es) ≡ option_map f (lookup test es)
  lookup-each test [] = refl
  lookup-each test (e ∷ es) = by_test (test e.0) e.1 _ _ (lookup-each test es)

  pub get-seen : (es : List (K × X)) (q : K) → get (from_entries {R = R} (each_of f es)) q ≡ option_map f (lookup (eq q) es)
  get-seen es q = get-keyed eq total ties (each_of f es) q ∙ lookup-each (eq q) es

  pub insert-seen : (old new : List (K × X)) (k : K) (v : X) → ((q : K) → lookup (eq q) new ≡ cond (eq k q) (Some v) (lookup (eq q) old))
      → from_entries {R = R} (each_of f new) ≡ insert (from_entries (each_of f old)) k (f v)
  insert-seen old new k v h =
      insert-keyed eq total ties apart (each_of f old) (each_of f new) k (f v)
      (λ q. lookup-each (eq q) new ∙ ap (option_map f) (h q) ∙ sym (by_test (eq k q) v _ _ (lookup-each (eq q) old)))

  gone : (t : Bool) (a : Option Y) (b : Option X) → a ≡ option_map f b → cond t None a ≡ option_map f (cond t None b)
  gone true a b e = refl
  gone false a b e = e

  pub remove-seen : (old new : List (K × X)) (k : K) → ((q : K) → lookup (eq q) new ≡ cond (eq k q) None (lookup (eq q) old))
      → from_entries {R = R} (each_of f new) ≡ remove (from_entries (each_of f old)) k
  remove-seen old new k h =
      remove-keyed eq total ties apart (each_of f old) (each_of f new) k
      (λ q. lookup-each (eq q) new ∙ ap (option_map f) (h q) ∙ sym (gone (eq k q) _ _ (lookup-each (eq q) old)))

  -- a value that is written in place of one that is there
  pub set-seen : (es : List (K × X)) (k : K) (v w : X) → lookup (eq k) es ≡ Some v
      → from_entries {R = R} (each_of f (set_value (eq k) es w)) ≡ insert (from_entries (each_of f es)) k (f w)
  set-seen es k v w there = insert-seen es (set_value (eq k) es w) k w (λ q. lookup-set_value equiv (eq k) (equiv.congr k) q w es (rw there refl))

-- ==== exchanges by numbers

pub get-place : {X Y : Type 0} (f : X → Y) (es : List (ℕ × X)) (x : ℕ) → get (from_entries {R = nat_cmp} (each_of f es)) x ≡ option_map f (lookup (nat_eq x) es)
get-place f es x = get-seen nat_eq nat_eq_equiv nat_cmp_total nat_cmp-IsAntisymmetric unsigned_tied f es x

pub insert-place : {X Y : Type 0} (f : X → Y) (old new : List (ℕ × X)) (x : ℕ) (v : X) → ((q : ℕ) → lookup (nat_eq q) new ≡ cond (nat_eq x q) (Some v) (lookup (nat_eq q) old))
    → from_entries {R = nat_cmp} (each_of f new) ≡ insert (from_entries (each_of f old)) x (f v)
insert-place f old new x v h = insert-seen nat_eq nat_eq_equiv nat_cmp_total nat_cmp-IsAntisymmetric unsigned_tied f old new x v h

pub remove-place : {X Y : Type 0} (f : X → Y) (old new : List (ℕ × X)) (x : ℕ) → ((q : ℕ) → lookup (nat_eq q) new ≡ cond (nat_eq x q) None (lookup (nat_eq q) old))
    → from_entries {R = nat_cmp} (each_of f new) ≡ remove (from_entries (each_of f old)) x
remove-place f old new x h = remove-seen nat_eq nat_eq_equiv nat_cmp_total nat_cmp-IsAntisymmetric unsigned_tied f old new x h

pub set-place : {X Y : Type 0} (f : X → Y) (es : List (ℕ × X)) (x : ℕ) (v w : X) → lookup (nat_eq x) es ≡ Some v
    → from_entries {R = nat_cmp} (each_of f (set_value (nat_eq x) es w)) ≡ insert (from_entries (each_of f es)) x (f w)
set-place f es x v w there = set-seen nat_eq nat_eq_equiv nat_cmp_total nat_cmp-IsAntisymmetric unsigned_tied f es x v w there

-- ==== numbers by keys

module _ {X Y : Type 0} (f : X → Y) where
  pub get-key : (es : List (List ℕ × X)) (k : List ℕ) → get (from_entries {R = slice_cmp nat_cmp} (each_of f es)) k ≡ option_map f (lookup (pointwise nat_eq k) es)
  get-key es k = get-seen (pointwise nat_eq) (lists_equiv nat_eq_equiv) nat_list_cmp_total (slice_cmp-IsAntisymmetric nat_cmp-IsAntisymmetric) bytes_tied f es k

  pub insert-key : (old new : List (List ℕ × X)) (k : List ℕ) (v : X) → ((q : List ℕ) → lookup (pointwise nat_eq q) new ≡ cond (pointwise nat_eq k q) (Some v) (lookup (pointwise nat_eq q) old))
      → from_entries {R = slice_cmp nat_cmp} (each_of f new) ≡ insert (from_entries (each_of f old)) k (f v)
  insert-key old new k v h = insert-seen (pointwise nat_eq) (lists_equiv nat_eq_equiv) nat_list_cmp_total (slice_cmp-IsAntisymmetric nat_cmp-IsAntisymmetric) bytes_tied f old new k v h

  pub remove-key : (old new : List (List ℕ × X)) (k : List ℕ) → ((q : List ℕ) → lookup (pointwise nat_eq q) new ≡ cond (pointwise nat_eq k q) None (lookup (pointwise nat_eq q) old))
      → from_entries {R = slice_cmp nat_cmp} (each_of f new) ≡ remove (from_entries (each_of f old)) k
  remove-key old new k h = remove-seen (pointwise nat_eq) (lists_equiv nat_eq_equiv) nat_list_cmp_total (slice_cmp-IsAntisymmetric nat_cmp-IsAntisymmetric) bytes_tied f old new k h

  pub set-key : (es : List (List ℕ × X)) (k : List ℕ) (v w : X) → lookup (pointwise nat_eq k) es ≡ Some v
      → from_entries {R = slice_cmp nat_cmp} (each_of f (set_value (pointwise nat_eq k) es w)) ≡ insert (from_entries (each_of f es)) k (f w)
  set-key es k v w there = set-seen (pointwise nat_eq) (lists_equiv nat_eq_equiv) nat_list_cmp_total (slice_cmp-IsAntisymmetric nat_cmp-IsAntisymmetric) bytes_tied f es k v w there

keys-each : {K X Y : Type 0} (f : X → Y) (es : List (K × X)) → keys_of (each_of f es) ≡ keys_of es
keys-each f [] = refl
keys-each f (e ∷ es) = ap (λ ks. e.0 ∷ ks) (keys-each f es)

length-each : {K X Y : Type 0} (f : X → Y) (es : List (K × X)) → length (each_of f es) ≡ length es
length-each f [] = refl
length-each f (e ∷ es) = ap suc (length-each f es)

pub len-places : {X Y : Type 0} (f : X → Y) (es : List (ℕ × X)) → IsDistinct nat_eq (keys_of es) → len (from_entries {R = nat_cmp} (each_of f es)) ≡ length es
len-places f es d = len-keyed nat_eq nat_cmp_total unsigned_tied (each_of f es) (subst (IsDistinct nat_eq) (sym (keys-each f es)) d) ∙ length-each f es

pub is_some-map : {X Y : Type 0} (f : X → Y) (o : Option X) → is_some (option_map f o) ≡ is_some o
is_some-map f None = refl
is_some-map f (Some x) = refl

-- a number is a key just where something stands under it
pub any-key : {X : Type 0} (x : ℕ) (es : List (ℕ × X)) → list_any (nat_eq x) (keys_of es) ≡ is_some (lookup (nat_eq x) es)
any-key x [] = refl
any-key x (e ∷ es) = by (nat_eq x e.0) (any-key x es)
  where
    by : (t : Bool) → list_any (nat_eq x) (keys_of es) ≡ is_some (lookup (nat_eq x) es) → (t || list_any (nat_eq x) (keys_of es)) ≡ is_some (cond t (Some e.1) (lookup (nat_eq x) es))
    by true ih = refl
    by false ih = ih

-- what is put where it is changes nothing
module _ {K Y : Type 0} {R : K → K → Ordering} (total : IsTotalOrder R) (apart : IsAntisymmetric R) where
  pub insert-same : (m : FinMap R Y) (k : K) (v : Y) → get m k ≡ Some v → insert m k v ≡ m
  insert-same m k v there = same_map total apart (insert m k v) m (λ q. get-insert total m k v q ∙ by_key q (eq_by_cmp R q k) refl)
    where
      by_key : (q : K) (t : Bool) → eq_by_cmp R q k ≡ t → cond t (Some v) (get m q) ≡ get m q
      by_key q true e = sym there ∙ get_tied total m q k (is_tie (R q k) e)
      by_key q false e = refl

  pub remove-none : (m : FinMap R Y) (k : K) → get m k ≡ None → remove m k ≡ m
  remove-none m k none = same_map total apart (remove m k) m (λ q. get-remove total m k q ∙ by_key q (eq_by_cmp R q k) refl)
    where
      by_key : (q : K) (t : Bool) → eq_by_cmp R q k ≡ t → cond t None (get m q) ≡ get m q
      by_key q true e = sym none ∙ get_tied total m q k (is_tie (R q k) e)
      by_key q false e = refl
