-- The name of a shard's file isn't that of a temporary file.
use Rattle.std.proofs.Common.{◌≡◌, ◌≢◌, ℕ, ◌+◌, ◌-◌, ◌%◌, ◌<◌, ◌≤◌, ◌^◌, Bool, true, false, cond, List, [], ◌∷◌, ◌++◌, length, take, refl, ap, sym, ◌∙◌, subst, arith}
use Rattle.std.specs.Prelude.{◌&&◌, decimal, codes, nat_eq, filter, map}
use Rattle.std.specs.List.{starts_with, ends_with}
use Rattle.std.proofs.lemmas.Bool.Decides.{Decides-eqb}
use Rattle.std.proofs.lemmas.Fmt.{decimal_by_steps}
use Rattle.std.proofs.lemmas.List.{append_cancel_left}
use Rattle.std.proofs.lemmas.Slice.Eq.{ends_is}
use Rattle.lru_files.specs.Folder.{Files, path_in}
use Rattle.lru_files.specs.Load.{Removes}
use Rattle.lru_files.specs.Load.Removes.{NoPath, Gone, Left}
use Rattle.lru_files.specs.Names.{is_temp_name, shard_name, shard_path}

last_of : ℕ → List ℕ → ℕ
last_of d [] = d
last_of d (x ∷ xs) = last_of x xs

last_of-behind : (d : ℕ) (xs : List ℕ) (y : ℕ) (ys : List ℕ) → last_of d (xs ++ y ∷ ys) ≡ last_of y ys
unfolding last_of
last_of-behind d [] y ys = refl
last_of-behind d (x ∷ xs) y ys = last_of-behind x xs y ys

last_of-decimal : (n : ℕ) → n < 2 ^ 64 → last_of 46 (decimal n) ≤ 57
unfolding last_of
last_of-decimal n small = decimal_by_steps (λ k ds. last_of 46 ds ≤ 57)
    (λ k h. omega arith)
    (λ k ds h before. subst (λ c. c ≤ 57) (sym (last_of-behind 46 ds (48 + k % 10) [])) (omega arith)) n small

last_of-temp : (front : List ℕ) → last_of 0 (front ++ codes ".tmp") ≡ 112
unfolding last_of
last_of-temp front = last_of-behind 0 front 46 (116 ∷ 109 ∷ 112 ∷ [])

second : (a b : Bool) → (a && b) ≡ true → b ≡ true
second true b e = e
second false b e = cc

shard_not_temp : (file_name : List ℕ) (i : ℕ) → i < 2 ^ 64 → is_temp_name file_name (shard_name file_name i) ≡ true → ⊥
shard_not_temp file_name i small test =
    let name : List ℕ = shard_name file_name i in
    let front : List ℕ = take (length name - length (codes ".tmp")) name in
    let ends : ends_with nat_eq name (codes ".tmp") ≡ true = second (starts_with nat_eq name file_name) (ends_with nat_eq name (codes ".tmp")) test in
    let whole : name ≡ front ++ codes ".tmp" = (ends_is Decides-eqb name (codes ".tmp") (ends_with nat_eq name (codes ".tmp")) refl).0 ends in
    let last : last_of 0 name ≡ 112 = ap (last_of 0) whole ∙ last_of-temp front in
    let digit : last_of 0 name ≡ last_of 46 (decimal i) = last_of-behind 0 file_name 46 (decimal i) in
    let low : last_of 46 (decimal i) ≤ 57 = last_of-decimal i small in
    absurd (omega (arith, last, digit, low))

-- none of the paths is this one
abbrev pub NoneIs : List ℕ → List (List ℕ) → Type 0
NoneIs path [] = Unit {0}
NoneIs path (p ∷ paths) = (p ≢ path) × NoneIs path paths

none_front : (path : List ℕ) (paths : List (List ℕ)) (at : List ℕ) → NoneIs path (paths ++ at ∷ []) → NoneIs path paths
none_front path [] at none = tt
none_front path (p ∷ paths) at none = (none.0, none_front path paths at none.1)

none_last : (path : List ℕ) (paths : List (List ℕ)) (at : List ℕ) → NoneIs path (paths ++ at ∷ []) → path ≢ at
none_last path [] at none e = none.0 (sym e)
none_last path (p ∷ paths) at none e = none_last path paths at none.1 e

-- what isn't to be removed stays
removes-other : (path : List ℕ) (paths : List (List ℕ)) (removed : ℕ) (old new : Files) → Removes paths removed old new → NoneIs path paths → new path ≡ old path
removes-other path paths removed old new (NoPath first last same) none = same path
removes-other path paths removed old new (Gone front at count first now last before gone) none =
    gone.others path (none_last path front at none) ∙ removes-other path front count first now before (none_front path front at none)
removes-other path paths removed old new (Left front at count first now last before same) none =
    same path ∙ removes-other path front count first now before (none_front path front at none)

none-cond : (dir path name : List ℕ) (rest : List (List ℕ)) (b : Bool) → (b ≡ true → path_in dir name ≢ path) → NoneIs path (map (path_in dir) rest)
    → NoneIs path (map (path_in dir) (cond b (name ∷ rest) rest))
none-cond dir path name rest true apart none = (apart refl, none)
none-cond dir path name rest false apart none = none

shard_apart : (dir file_name name : List ℕ) (i : ℕ) → i < 2 ^ 64 → is_temp_name file_name name ≡ true → path_in dir name ≢ shard_path dir file_name i
shard_apart dir file_name name i small test e =
    let together : 47 ∷ name ≡ 47 ∷ shard_name file_name i = append_cancel_left dir (47 ∷ name) (47 ∷ shard_name file_name i) e in
    let same : name ≡ shard_name file_name i = cc in
    shard_not_temp file_name i small (ap (is_temp_name file_name) (sym same) ∙ test)

none_shard : (dir file_name : List ℕ) (names : List (List ℕ)) (i : ℕ) → i < 2 ^ 64
    → NoneIs (shard_path dir file_name i) (map (path_in dir) (filter (is_temp_name file_name) names))
none_shard dir file_name [] i small = tt
none_shard dir file_name (name ∷ names) i small =
    none-cond dir (shard_path dir file_name i) name (filter (is_temp_name file_name) names) (is_temp_name file_name name)
    (λ test. shard_apart dir file_name name i small test) (none_shard dir file_name names i small)

-- a shard's file stays
pub shard_stays : (dir file_name : List ℕ) (names : List (List ℕ)) (i : ℕ) {removed : ℕ} {old new : Files} → i < 2 ^ 64
    → Removes (map (path_in dir) (filter (is_temp_name file_name) names)) removed old new → new (shard_path dir file_name i) ≡ old (shard_path dir file_name i)
shard_stays dir file_name names i {removed} {old} {new} small removes =
    removes-other (shard_path dir file_name i) (map (path_in dir) (filter (is_temp_name file_name) names)) removed old new removes (none_shard dir file_name names i small)
