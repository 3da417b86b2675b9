-- The parts that a Range names lie in the body.
use Rattle.std.proofs.Common.{◌≡◌, ℕ, ◌+◌, List, [], ◌∷◌, refl, sym, ap, ◌∙◌, Bool, true, false, cond, map, filter, min, arith}
use Rattle.std.specs.Prelude.{Option, Some, None, option_and_then, nat_lt, unwrap_or}
use Rattle.std.specs.List.{list_all}
use Rattle.std.proofs.lemmas.Bool.{le-ltb}
use Rattle.rules_response.specs.Ranges.{Spec, part_at, part_of, is_filled_part, some_overlap, parts_of, is_countable, elements_in, spec_of, every, ranges}
use Rattle.rules_laws.specs.Parts.{lies_in}

-- what a call that may give nothing is of
given : {A B : Type 0} (f : A → Option B) (o : Option A) (b : B) → option_and_then f o ≡ Some b → (a : A) × (f a ≡ Some b)
given f None b h = cc
given f (Some a) b h = (a, h)

if_given : {B : Type 0} (t : Bool) (o : Option B) (b : B) → cond t o None ≡ Some b → o ≡ Some b
if_given true o b h = h
if_given false o b h = cc

else_given : {B : Type 0} (t : Bool) (a b : B) → cond t None (Some a) ≡ Some b → a ≡ b
else_given true a b h = cc
else_given false a b h = ap (λ o. unwrap_or o a) h

-- no part goes past the body
within : (length : ℕ) (first last : Option ℕ) → nat_lt length (part_at length first last).1 ≡ false
within length None last = le-ltb length length (omega arith)
within length (Some a) None = le-ltb length length (omega arith)
within length (Some a) (Some b) = le-ltb length (min (b + 1) length) (omega arith)

all_lie : (length : ℕ) (specs : List Spec) → list_all (lies_in length) (filter is_filled_part (map (part_of length) specs)) ≡ true
all_lie length [] = refl
all_lie length (s ∷ specs) = go (is_filled_part (part_of length s)) refl (all_lie length specs)
  where
    go : (t : Bool) → is_filled_part (part_of length s) ≡ t → list_all (lies_in length) (filter is_filled_part (map (part_of length) specs)) ≡ true
        → list_all (lies_in length) (filter is_filled_part (map (part_of length) (s ∷ specs))) ≡ true
    go true e rest = rw e (rw e (rw (within length s.0 s.1) rest))
    go false e rest = rw e rest

pub lie : (text : List ℕ) (length most : ℕ) (parts : List (ℕ × ℕ)) → ranges text length most ≡ Some parts → list_all (lies_in length) parts ≡ true
lie text length most parts h =
    let found : (specs : List Spec) × (cond (is_countable most specs) (parts_of length specs) None ≡ Some parts) =
    given (λ specs. cond (is_countable most specs) (parts_of length specs) None) (option_and_then (λ elements. every (map spec_of elements)) (elements_in text)) parts h in
    let parts_are : filter is_filled_part (map (part_of length) found.0) ≡ parts =
    else_given (some_overlap (filter is_filled_part (map (part_of length) found.0))) (filter is_filled_part (map (part_of length) found.0)) parts
    (if_given (is_countable most found.0) (parts_of length found.0) parts found.1) in
    ap (list_all (lies_in length)) (sym parts_are) ∙ all_lie length found.0
