-- No two of the paths of a save are one.
use Rattle.std.proofs.Common.{◌≡◌, ◌≢◌, ℕ, ◌+◌, ◌%◌, ◌<◌, ◌≤◌, ◌^◌, List, [], ◌∷◌, ◌++◌, refl, arith}
use Rattle.std.specs.Prelude.{decimal, codes}
use Rattle.std.proofs.lemmas.Fmt.{decimal_by_steps, decimal_injective}
use Rattle.std.proofs.lemmas.List.{append_cancel_left}
use Rattle.lru_files.specs.Folder.{path_in}
use Rattle.lru_files.specs.Names.{hex_word, shard_path, temp_path}

-- digits alone, so no full stop
abbrev AreDigits : List ℕ → Type 0
AreDigits [] = Unit {0}
AreDigits (c ∷ cs) = (48 ≤ c) × (c ≤ 57) × AreDigits cs

digits-append : (cs : List ℕ) (c : ℕ) → AreDigits cs → 48 ≤ c → c ≤ 57 → AreDigits (cs ++ c ∷ [])
digits-append [] c all low high = (low, high, tt)
digits-append (d ∷ cs) c all low high = (all.0, all.1, digits-append cs c all.2 low high)

decimal_digits : (n : ℕ) → n < 2 ^ 64 → AreDigits (decimal n)
decimal_digits n small = decimal_by_steps (λ k ds. AreDigits ds)
    (λ k h. (omega arith, omega arith, tt))
    (λ k ds h all. digits-append ds (48 + k % 10) all (omega arith) (omega arith)) n small

tail : (c d : ℕ) (cs ds : List ℕ) → c ∷ cs ≡ d ∷ ds → cs ≡ ds
tail c d cs ds e = cc

head : (c d : ℕ) (cs ds : List ℕ) → c ∷ cs ≡ d ∷ ds → c ≡ d
head c d cs ds e = cc

no_stop : (ds es rest : List ℕ) → AreDigits es → ds ++ 46 ∷ rest ≡ es → ⊥
no_stop [] [] rest digits e = cc
no_stop [] (d ∷ es) rest digits e = let h : 46 ≡ d = head 46 d rest es e in absurd (omega (arith, h, digits.0))
no_stop (c ∷ ds) [] rest digits e = cc
no_stop (c ∷ ds) (d ∷ es) rest digits e = no_stop ds es rest digits.2 (tail c d (ds ++ 46 ∷ rest) es e)

same_up_to_stop : (ds es rest more : List ℕ) → AreDigits ds → AreDigits es → ds ++ 46 ∷ rest ≡ es ++ 46 ∷ more → ds ≡ es
same_up_to_stop [] [] rest more some others e = refl
same_up_to_stop [] (d ∷ es) rest more some others e = let h : 46 ≡ d = head 46 d rest (es ++ 46 ∷ more) e in absurd (omega (arith, h, others.0))
same_up_to_stop (c ∷ ds) [] rest more some others e = let h : c ≡ 46 = head c 46 (ds ++ 46 ∷ rest) more e in absurd (omega (arith, h, some.0))
same_up_to_stop (c ∷ ds) (d ∷ es) rest more some others e =
    let first : c ≡ d = head c d (ds ++ 46 ∷ rest) (es ++ 46 ∷ more) e in
    let after : ds ≡ es = same_up_to_stop ds es rest more some.2 others.2 (tail c d (ds ++ 46 ∷ rest) (es ++ 46 ∷ more) e) in
    cc

-- what follows `dir/file_name.`
behind : (dir file_name xs ys : List ℕ) → path_in dir (file_name ++ (46 ∷ xs)) ≡ path_in dir (file_name ++ (46 ∷ ys)) → xs ≡ ys
behind dir file_name xs ys e =
    let names : 47 ∷ (file_name ++ (46 ∷ xs)) ≡ 47 ∷ (file_name ++ (46 ∷ ys)) = append_cancel_left dir (47 ∷ (file_name ++ (46 ∷ xs))) (47 ∷ (file_name ++ (46 ∷ ys))) e in
    let ends : 46 ∷ xs ≡ 46 ∷ ys = append_cancel_left file_name (46 ∷ xs) (46 ∷ ys) (tail 47 47 (file_name ++ (46 ∷ xs)) (file_name ++ (46 ∷ ys)) names) in
    tail 46 46 xs ys ends

pub temp_not_shard : (dir file_name : List ℕ) (i j word : ℕ) → j < 2 ^ 64 → temp_path dir file_name i word ≢ shard_path dir file_name j
temp_not_shard dir file_name i j word small e =
    no_stop (decimal i) (decimal j) (hex_word word ++ codes ".tmp") (decimal_digits j small)
    (behind dir file_name (decimal i ++ 46 ∷ (hex_word word ++ codes ".tmp")) (decimal j) e)

pub same_shard : (dir file_name : List ℕ) (i j : ℕ) → i < 2 ^ 64 → j < 2 ^ 64 → shard_path dir file_name i ≡ shard_path dir file_name j → i ≡ j
same_shard dir file_name i j small_i small_j e = decimal_injective i j small_i small_j (behind dir file_name (decimal i) (decimal j) e)

pub same_temp : (dir file_name : List ℕ) (i j v w : ℕ) → i < 2 ^ 64 → j < 2 ^ 64 → temp_path dir file_name i v ≡ temp_path dir file_name j w → i ≡ j
same_temp dir file_name i j v w small_i small_j e =
    decimal_injective i j small_i small_j (same_up_to_stop (decimal i) (decimal j) (hex_word v ++ codes ".tmp") (hex_word w ++ codes ".tmp")
    (decimal_digits i small_i) (decimal_digits j small_j)
    (behind dir file_name (decimal i ++ 46 ∷ (hex_word v ++ codes ".tmp")) (decimal j ++ 46 ∷ (hex_word w ++ codes ".tmp")) e))
