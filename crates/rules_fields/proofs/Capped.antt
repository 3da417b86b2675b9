-- A number that is read from digits, when it is cut at a greatest one after each.
use Rattle.std.proofs.Common.{◌≡◌, ℕ, ◌+◌, ◌-◌, ◌*◌, ◌≤◌, ◌<◌, List, [], ◌∷◌, refl, arith, Bool, true, false, ap, ◌∙◌, sym, ◌^◌, length, take, drop, get_or}
use Rattle.std.specs.Prelude.{min, nat_lt}
use Rattle.std.proofs.lemmas.Bool.{ltb-true, ltb-false}
use Rattle.std.proofs.lemmas.List.{drop_more, take_all}
use Rattle.std.proofs.Math.ListN.{drop_of_length-le}
use Rattle.std.specs.Prelude.{Some, ◌==◌}
use Rattle.std.specs.List.{list_all}
use Rattle.std.specs.Char.{is_ascii_digit}
use Rattle.rules_fields.specs.Numbers.{number_from, digits}

pub number_grows : (n : ℕ) (text : List ℕ) → n ≤ number_from n text
number_grows n [] = omega arith
number_grows n (b ∷ text) = let h = number_grows (10 * n + (b - 48)) text in omega (arith, h)

-- what is cut in between and what is not are the same in the end
pub capped : (most n m : ℕ) (text : List ℕ) → m ≡ min n most → min most (number_from m text) ≡ min most (number_from n text)
capped most n m text e = go (nat_lt most n) refl
  where
    go : (t : Bool) → nat_lt most n ≡ t → min most (number_from m text) ≡ min most (number_from n text)
    go true h = let l = ltb-true most n h in let a = number_grows m text in let b = number_grows n text in omega (arith, a, b, e)
    go false h = let l = ltb-false most n h in ap (λ k. min most (number_from k text)) (omega (arith, e))

abbrev pub most : ℕ
most = 2 ^ 64 - 1

pub one_more : (text : List ℕ) (i n m r v : ℕ) → i < length text → m ≡ min (n * 10) most → r ≡ min (m + (get_or text i 0 - 48)) most → min most (number_from n (drop i text)) ≡ v → min most (number_from r (drop (i + 1) text)) ≡ v
one_more text i n m r v l em er h =
    let s : r ≡ min (10 * n + (get_or text i 0 - 48)) most = omega (arith, em, er) in
    capped most (10 * n + (get_or text i 0 - 48)) r (drop (i + 1) text) s
    ∙ ap (λ (t : List ℕ). min most (number_from n t)) (sym (drop_more text i 0 l))
    ∙ h

pub read_whole : (text : List ℕ) (i n : ℕ) → (length text == 0) ≡ false → n < 2 ^ 64 → length text ≤ i → min most (number_from n (drop i text)) ≡ min most (number_from 0 text) → list_all is_ascii_digit (take i text) ≡ true → Some n ≡ digits text
read_whole [] i n e f l h d = cc
read_whole (b ∷ text) i n e f l h d =
    let all : list_all is_ascii_digit (b ∷ text) ≡ true = ap (list_all is_ascii_digit) (sym (take_all i (b ∷ text) l)) ∙ d in
    let rest : drop i (b ∷ text) ≡ [] = drop_of_length-le (b ∷ text) l in
    let v : min most n ≡ min most (number_from 0 (b ∷ text)) = ap (λ (t : List ℕ). min most (number_from n t)) (sym rest) ∙ h in
    rw all (ap Some (omega (arith, v)))
