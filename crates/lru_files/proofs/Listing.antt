-- The names of a directory, from the paths of a map.
use Rattle.std.proofs.Common.{◌≡◌, ◌⊎◌, inl, inr, ℕ, Bool, true, false, List, [], ◌∷◌, ◌++◌, Option, Some, None, String, sym, ◌∙◌, refl, ap, subst, arith}
use Rattle.std.specs.Prelude.{◌↔◌, ◌||◌, map, string_bytes, Contains, is_some}
use Rattle.std.specs.List.{list_any, AllByRecursion, IsDistinct}
use Rattle.std.proofs.lemmas.Map.Keys.{IsDistinct-head, IsDistinct-tail}
use Rattle.std.specs.Option.{option_map}
use Rattle.std.specs.Str.{bytes_eq}
use Rattle.std.specs.declared.alloc.Global.{Global}
use Rattle.std.proofs.lemmas.List.{append_cancel_left}
use Rattle.std.proofs.lemmas.List.Elements.{Contains-append_left, Contains-append_right, Contains-push, Contains-push_cases, Contains-append_cases}
use Rattle.std.proofs.lemmas.Slice.Eq.{bytes_eq-Decides}
use Rattle.lru_files.specs.Folder.{Files, EachOnce, IsListing, IsName, path_in}

pub same_name : (dir name other : List ℕ) → path_in dir name ≡ path_in dir other → name ≡ other
same_name dir name other e =
    let together : 47 ∷ name ≡ 47 ∷ other = append_cancel_left dir (47 ∷ name) (47 ∷ other) e in
    cc

none_in : (x : List ℕ) → Contains [] x → ⊥
none_in x there = omega (arith, there.1)

cons_cases : (x y : List ℕ) (xs : List (List ℕ)) → Contains (x ∷ xs) y → (x ≡ y) ⊎ Contains xs y
cons_cases x y xs there = first (Contains-append_cases (x ∷ []) xs y there)
  where
    only : Contains [] y ⊎ (x ≡ y) → x ≡ y
    only (inl none) = absurd (none_in y none)
    only (inr same) = same

    first : Contains (x ∷ []) y ⊎ Contains xs y → (x ≡ y) ⊎ Contains xs y
    first (inl here) = inl (only (Contains-push_cases [] x y here))
    first (inr after) = inr after

once-push : (xs : List (List ℕ)) (y : List ℕ) → EachOnce xs → (Contains xs y → ⊥) → EachOnce (xs ++ y ∷ [])
once-push [] y once new = (none_in y, tt)
once-push (x ∷ xs) y once new = (
  (λ there. again (Contains-push_cases xs y x there)),
  once-push xs y once.1 (λ there. new (Contains-append_right (x ∷ []) xs y there)),
)
  where
    again : Contains xs x ⊎ (y ≡ x) → ⊥
    again (inl before) = once.0 before
    again (inr same) = new (subst (λ z. Contains (x ∷ xs) z) (sym same) (Contains-append_left (x ∷ []) xs x (Contains-push [] x)))

once_front : (xs : List (List ℕ)) (y : List ℕ) → EachOnce (xs ++ y ∷ []) → EachOnce xs
once_front [] y once = tt
once_front (x ∷ xs) y once = ((λ there. once.0 (Contains-append_left xs (y ∷ []) x there)), once_front xs y once.1)

once_last : (xs : List (List ℕ)) (y : List ℕ) → EachOnce (xs ++ y ∷ []) → Contains xs y → ⊥
once_last [] y once there = none_in y there
once_last (x ∷ xs) y once there = by (once_last xs y once.1) (cons_cases x y xs there)
  where
    by : (Contains xs y → ⊥) → (x ≡ y) ⊎ Contains xs y → ⊥
    by none (inl same) = once.0 (subst (λ z. Contains (xs ++ y ∷ []) z) (sym same) (Contains-push xs y))
    by none (inr after) = none after

-- the names so far are those of the paths so far, and each is there once if each path is
pub record AreNames (dir : List ℕ) (names paths : List (List ℕ)) : Type 0 where
  pub each : (name : List ℕ) → Contains names name ↔ (IsName name × Contains paths (path_in dir name))
  pub once : EachOnce paths → EachOnce names

found_forth : (dir : List ℕ) (names paths : List (List ℕ)) (path found name : List ℕ) → path ≡ path_in dir found → IsName found → AreNames dir names paths
    → Contains names name ⊎ (found ≡ name) → IsName name × Contains (paths ++ path ∷ []) (path_in dir name)
found_forth dir names paths path found name is_path is_name so_far (inl before) =
    (((so_far.each name).0 before).0, Contains-append_left paths (path ∷ []) (path_in dir name) ((so_far.each name).0 before).1)
found_forth dir names paths path found name is_path is_name so_far (inr same) =
    (subst IsName same is_name, subst (λ p. Contains (paths ++ path ∷ []) p) (is_path ∙ ap (path_in dir) same) (Contains-push paths path))

found_back : (dir : List ℕ) (names paths : List (List ℕ)) (path found name : List ℕ) → path ≡ path_in dir found → IsName name → AreNames dir names paths
    → Contains paths (path_in dir name) ⊎ (path ≡ path_in dir name) → Contains (names ++ found ∷ []) name
found_back dir names paths path found name is_path is_name so_far (inl before) =
    Contains-append_left names (found ∷ []) name ((so_far.each name).1 (is_name, before))
found_back dir names paths path found name is_path is_name so_far (inr same) =
    subst (λ n. Contains (names ++ found ∷ []) n) (same_name dir found name (sym is_path ∙ same)) (Contains-push names found)

pub listed-found : (dir : List ℕ) (names paths : List (List ℕ)) (path found : List ℕ) → path ≡ path_in dir found → IsName found → AreNames dir names paths
    → AreNames dir (names ++ found ∷ []) (paths ++ path ∷ [])
listed-found dir names paths path found is_path is_name so_far = record {
  each = λ name. (
    (λ there. found_forth dir names paths path found name is_path is_name so_far (Contains-push_cases names found name there)),
    (λ both. found_back dir names paths path found name is_path both.0 so_far (Contains-push_cases paths path (path_in dir name) both.1)),
  );
  once = λ once. once-push names found (so_far.once (once_front paths path once))
      (λ there. once_last paths path once (subst (λ p. Contains paths p) (sym is_path) ((so_far.each found).0 there).1));
}

other_back : (dir : List ℕ) (names paths : List (List ℕ)) (path name : List ℕ) → ((n : List ℕ) → path ≡ path_in dir n → IsName n → ⊥) → IsName name → AreNames dir names paths
    → Contains paths (path_in dir name) ⊎ (path ≡ path_in dir name) → Contains names name
other_back dir names paths path name none is_name so_far (inl before) = (so_far.each name).1 (is_name, before)
other_back dir names paths path name none is_name so_far (inr same) = absurd (none name same is_name)

pub listed-other : (dir : List ℕ) (names paths : List (List ℕ)) (path : List ℕ) → ((n : List ℕ) → path ≡ path_in dir n → IsName n → ⊥) → AreNames dir names paths
    → AreNames dir names (paths ++ path ∷ [])
listed-other dir names paths path none so_far = record {
  each = λ name. (
    (λ there. (((so_far.each name).0 there).0, Contains-append_left paths (path ∷ []) (path_in dir name) ((so_far.each name).0 there).1)),
    (λ both. other_back dir names paths path name none both.0 so_far (Contains-push_cases paths path (path_in dir name) both.1)),
  );
  once = λ once. so_far.once (once_front paths path once);
}

any_first : (path : List ℕ) (key : String Global) (keys : List (String Global)) (b rest : Bool) → b ≡ bytes_eq path (string_bytes key) → (b || rest) ≡ true
    → (rest ≡ true → Contains (map string_bytes keys) path) → Contains (string_bytes key ∷ map string_bytes keys) path
any_first path key keys true rest is_test e after =
    let same : path ≡ string_bytes key = (bytes_eq-Decides path (string_bytes key)).0 (sym is_test) in
    subst (λ p. Contains (string_bytes key ∷ map string_bytes keys) p) (sym same)
    (Contains-append_left (string_bytes key ∷ []) (map string_bytes keys) (string_bytes key) (Contains-push [] (string_bytes key)))
any_first path key keys false rest is_test e after = Contains-append_right (string_bytes key ∷ []) (map string_bytes keys) path (after e)

pub any_contains : (path : List ℕ) (keys : List (String Global)) → list_any (λ k. bytes_eq path (string_bytes k)) keys ≡ true → Contains (map string_bytes keys) path
any_contains path [] e = cc
any_contains path (key ∷ keys) e = any_first path key keys (bytes_eq path (string_bytes key)) (list_any (λ k. bytes_eq path (string_bytes k)) keys) refl e (any_contains path keys)

or_left : (a b : Bool) → a ≡ true → (a || b) ≡ true
or_left true b e = refl
or_left false b e = cc

or_right : (a b : Bool) → b ≡ true → (a || b) ≡ true
or_right true b e = refl
or_right false b e = e

only_one : (path text : List ℕ) → Contains [] path ⊎ (text ≡ path) → path ≡ text
only_one path text (inl none) = absurd (none_in path none)
only_one path text (inr same) = sym same

contains_first : (path : List ℕ) (key : String Global) (keys : List (String Global)) → (Contains (map string_bytes keys) path → list_any (λ k. bytes_eq path (string_bytes k)) keys ≡ true)
    → Contains (string_bytes key ∷ []) path ⊎ Contains (map string_bytes keys) path → (bytes_eq path (string_bytes key) || list_any (λ k. bytes_eq path (string_bytes k)) keys) ≡ true
contains_first path key keys after (inr there) = or_right (bytes_eq path (string_bytes key)) (list_any (λ k. bytes_eq path (string_bytes k)) keys) (after there)
contains_first path key keys after (inl here) = or_left (bytes_eq path (string_bytes key)) (list_any (λ k. bytes_eq path (string_bytes k)) keys)
    ((bytes_eq-Decides path (string_bytes key)).1 (only_one path (string_bytes key) (Contains-push_cases [] (string_bytes key) path here)))

pub contains_any : (path : List ℕ) (keys : List (String Global)) → Contains (map string_bytes keys) path → list_any (λ k. bytes_eq path (string_bytes k)) keys ≡ true
contains_any path [] there = absurd (none_in path there)
contains_any path (key ∷ keys) there = contains_first path key keys (contains_any path keys) (Contains-append_cases (string_bytes key ∷ []) (map string_bytes keys) path there)

pub is_some-option_map : {X Y : Type 0} (f : X → Y) (o : Option X) → is_some (option_map f o) ≡ is_some o
is_some-option_map f None = refl
is_some-option_map f (Some x) = refl

no_other : (key : String Global) (keys : List (String Global)) → AllByRecursion (λ y. bytes_eq (string_bytes key) (string_bytes y) ≡ false) keys
    → list_any (λ y. bytes_eq (string_bytes key) (string_bytes y)) keys ≡ true → ⊥
no_other key [] none any = cc
no_other key (other ∷ keys) none any = by (no_other key keys none.1) (bytes_eq (string_bytes key) (string_bytes other)) none.0 any
  where
    by : (list_any (λ y. bytes_eq (string_bytes key) (string_bytes y)) keys ≡ true → ⊥) → (b : Bool) → b ≡ false
        → (b || list_any (λ y. bytes_eq (string_bytes key) (string_bytes y)) keys) ≡ true → ⊥
    by later true is found = cc
    by later false is found = later found

-- keys that differ are each there once
pub once-keys : (keys : List (String Global)) → IsDistinct (λ a b. bytes_eq (string_bytes a) (string_bytes b)) keys → EachOnce (map string_bytes keys)
once-keys [] distinct = tt
once-keys (key ∷ keys) distinct = (
  (λ there. no_other key keys (IsDistinct-head (λ a b. bytes_eq (string_bytes a) (string_bytes b)) key keys distinct) (contains_any (string_bytes key) keys there)),
  once-keys keys (IsDistinct-tail (λ a b. bytes_eq (string_bytes a) (string_bytes b)) key keys distinct),
)

-- the names of all paths are a listing
pub listed-all : (dir : List ℕ) (names : List (List ℕ)) (files : Files) (keys : List (String Global))
    → ((path : List ℕ) → is_some (files path) ≡ list_any (λ k. bytes_eq path (string_bytes k)) keys) → EachOnce (map string_bytes keys)
    → AreNames dir names (map string_bytes keys) → IsListing files dir names
listed-all dir names files keys are once names_are = record {
  each = λ name. (
    (λ there. (((names_are.each name).0 there).0, are (path_in dir name) ∙ contains_any (path_in dir name) keys ((names_are.each name).0 there).1)),
    (λ both. (names_are.each name).1 (both.0, any_contains (path_in dir name) keys (sym (are (path_in dir name)) ∙ both.1))),
  );
  once = names_are.once once;
}
