-- The steps by which a list's sets are read.
use Rattle.std.proofs.Common.{◌≡◌, ℕ, zero, suc, ◌-◌, ◌==◌, List, [], ◌∷◌, ◌++◌, refl, sym, ap, ◌∙◌, append_assoc, true, false, map, length, arith}
use Rattle.std.proofs.lemmas.List.{map-append}
use Rattle.rules_ffi.specs.Sets.{Set, front, behind_front, sets_within}

-- where no line is left there is no set
pub none_left : (most : ℕ) → sets_within most [] ≡ []
none_left zero = refl
none_left (suc most) = refl

-- an empty line ends them
pub none_behind : (most : ℕ) (token : List ℕ) (rest : List (List ℕ)) → (length token == 0) ≡ true → sets_within most (token ∷ rest) ≡ []
none_behind zero token rest e = refl
none_behind (suc most) token rest e = rw e refl

-- a set, and those behind it
pub one_behind : (most : ℕ) (token : List ℕ) (rest : List (List ℕ)) → (length token == 0) ≡ false
    → sets_within (suc most) (token ∷ rest) ≡ record { token = token; names = front rest } ∷ sets_within most (behind_front rest)
one_behind most token rest e = rw e refl

pub one_more : (most : ℕ) (token : List ℕ) (rest : List (List ℕ)) → (most == 0) ≡ false → (length token == 0) ≡ false
    → sets_within most (token ∷ rest) ≡ record { token = token; names = front rest } ∷ sets_within (most - 1) (behind_front rest)
one_more zero token rest m e = cc
one_more (suc most) token rest m e = let n : suc most - 1 ≡ most = omega arith in rw n (one_behind most token rest e)

-- one more set is read
pub set_read : {X : Type 0} (view : X → Set) (old new : List X) (x : X) (most : ℕ) (token : List ℕ) (rest lines left : List (List ℕ)) (all : List Set)
    → new ≡ old ++ (x ∷ []) → view x ≡ record { token = token; names = front rest } → lines ≡ token ∷ rest → left ≡ behind_front rest
    → (most == 0) ≡ false → (length token == 0) ≡ false
    → map view old ++ sets_within most lines ≡ all → map view new ++ sets_within (most - 1) left ≡ all
set_read view old new x most token rest lines left all made is at behind m e h =
    ap (λ t. map view t ++ sets_within (most - 1) left) made ∙ ap (λ t. t ++ sets_within (most - 1) left) (map-append view old (x ∷ []))
    ∙ append_assoc (map view old) (view x ∷ []) (sets_within (most - 1) left) ∙ ap (λ t. map view old ++ (t ∷ sets_within (most - 1) left)) is
    ∙ ap (λ t. map view old ++ (record { token = token; names = front rest } ∷ sets_within (most - 1) t)) behind
    ∙ ap (λ t. map view old ++ t) (sym (one_more most token rest m e)) ∙ ap (λ t. map view old ++ sets_within most t) (sym at) ∙ h
