-- What calls at both ends leave and give.
use Rattle.std.proofs.Common.{◌≡◌, ◌≤◌, List, [], ◌∷◌, ◌++◌, length, reverse, Some, None, sym, refl, ap, ◌∙◌, arith}
use Rattle.std.proofs.lemmas.List.{append-nil, reverse-append, length_push}
use Rattle.lru_list.specs.BothEnds.{Call, next, next_back, Gives, from_front, from_back}

append_inside : {B : Type 0} → (xs ys zs : List B) → (xs ++ ys) ++ zs ≡ xs ++ (ys ++ zs)
append_inside [] ys zs = refl
append_inside (x ∷ xs) ys zs = ap (λ l. x ∷ l) (append_inside xs ys zs)

module _ {A B : Type 0} (view : A → B) where
  pub given_once : (calls : List (Call A)) (xs rest : List B) → Gives view xs calls rest → from_front view calls ++ (rest ++ reverse (from_back view calls)) ≡ xs
  given_once [] xs rest h = append-nil rest ∙ sym h
  given_once (next None ∷ calls) xs rest (mid, step, more) = given_once calls mid rest more ∙ (step.1 ∙ sym step.0)
  given_once (next (Some x) ∷ calls) xs rest (mid, step, more) = ap (λ l. view x ∷ l) (given_once calls mid rest more) ∙ sym step
  given_once (next_back None ∷ calls) xs rest (mid, step, more) = given_once calls mid rest more ∙ (step.1 ∙ sym step.0)
  given_once (next_back (Some x) ∷ calls) xs rest (mid, step, more) =
      let back = from_back view calls in
      let turned : reverse (view x ∷ back) ≡ reverse back ++ view x ∷ [] = reverse-append (view x ∷ []) back in
      let inner : rest ++ reverse (view x ∷ back) ≡ (rest ++ reverse back) ++ view x ∷ [] = ap (λ l. rest ++ l) turned ∙ sym (append_inside rest (reverse back) (view x ∷ [])) in
      let outer = ap (λ l. from_front view calls ++ l) inner ∙ sym (append_inside (from_front view calls) (rest ++ reverse back) (view x ∷ [])) in
      outer ∙ (ap (λ l. l ++ view x ∷ []) (given_once calls mid rest more) ∙ sym step)

  pub given_out : (calls : List (Call A)) (xs rest : List B) → Gives view xs calls rest → length xs ≤ length calls → rest ≡ []
  given_out [] xs rest h l = sym h ∙ none xs l where
    none : (ys : List B) → length ys ≤ 0 → ys ≡ []
    none [] l = refl
    none (y ∷ ys) l = absurd (omega arith)
  given_out (next None ∷ calls) xs rest (mid, step, more) l = given_out calls mid rest more (rw step.1 (omega arith))
  given_out (next (Some x) ∷ calls) xs rest (mid, step, more) l = let e = rw step at l in given_out calls mid rest more (omega (arith, e))
  given_out (next_back None ∷ calls) xs rest (mid, step, more) l = given_out calls mid rest more (rw step.1 (omega arith))
  given_out (next_back (Some x) ∷ calls) xs rest (mid, step, more) l = let e = rw (step, length_push) at l in given_out calls mid rest more (omega (arith, e))
