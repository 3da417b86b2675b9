-- The held bytes as a part of their block.
use Rattle.std.proofs.Common.{◌≡◌, ◌∙◌, ℕ, ◌+◌, ◌-◌, ◌≤◌, List, ◌++◌, length, take, drop, ap, sym, arith}
use Rattle.std.proofs.lemmas.List.{drop-take, drop-drop, length-take-le, take-append-le}
use Rattle.std.proofs.Math.Seq.{take-append-add}

part : {X : Type 0} (s e : ℕ) (xs : List X) → s ≤ e → take (e - s) (drop s xs) ≡ drop s (take e xs)
part s e xs le =
    let on : s + (e - s) ≡ e = omega (arith, le) in
    sym (drop-take s (e - s) xs) ∙ ap (λ n. drop s (take n xs)) on

-- where the first n bytes are taken
pub skipped : {X : Type 0} (s n e : ℕ) (xs : List X) → s + n ≤ e → take (e - (s + n)) (drop (s + n) xs) ≡ drop n (take (e - s) (drop s xs))
skipped s n e xs le =
    let less : s ≤ e = omega (arith, le) in
    part (s + n) e xs le ∙ sym (drop-drop n s (take e xs)) ∙ ap (drop n) (sym (part s e xs less))

-- where n bytes more are read after the first e
pub longer : {X : Type 0} (e n : ℕ) (xs more rest : List X) → e ≤ length xs → n ≤ length more → take (e + n) (take e xs ++ (more ++ rest)) ≡ take e xs ++ take n more
longer e n xs more rest within few =
    let long : length (take e xs) ≡ e = length-take-le e xs within in
    ap (λ k. take (k + n) (take e xs ++ (more ++ rest))) (sym long) ∙ take-append-add (take e xs) (more ++ rest) n
    ∙ ap (λ l. take e xs ++ l) (take-append-le n more rest few)
