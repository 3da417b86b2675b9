-- Two names that have a place are the same exactly where their places are.
use Rattle.std.proofs.Common.{◌≡◌, ℕ, true, List, sym, ap, subst, ◌∙◌}
use Rattle.std.specs.Prelude.{Option, Some, nat_eq, slice_get}
use Rattle.std.specs.Option.{unwrap_or}
use Rattle.std.proofs.lemmas.Bool.{eqb-true, eq-eqb}
use Rattle.std.specs.Cmp.{both_ways}
use Rattle.std.specs.Cmp.Lexicographic.{pointwise, same_text, nat_list_eq_equiv}
use Rattle.head_directives.specs.Names.{own_names, place_of}

pub same_place : (a b : ℕ) (x y : List ℕ) → slice_get own_names a ≡ Some x → slice_get own_names b ≡ Some y → place_of x ≡ Some a → place_of y ≡ Some b
    → nat_eq a b ≡ pointwise nat_eq x y
same_place a b x y ax by' px py = both_ways (nat_eq a b) (pointwise nat_eq x y)
    (λ h. subst (λ z. pointwise nat_eq x z ≡ true) (ap (λ (o : Option (List ℕ)). unwrap_or o x) (sym ax ∙ ap (slice_get own_names) (eqb-true a b h) ∙ by')) (nat_list_eq_equiv.refl x))
    (λ h. eq-eqb a b (ap (λ (o : Option ℕ). unwrap_or o a) (sym px ∙ ap place_of (same_text x y (sym h)) ∙ py)))
