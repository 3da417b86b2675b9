-- The runs of entries, as a list grows and one of them is written.
use Rattle.std.proofs.Common.{◌≡◌, ℕ, zero, suc, ◌<◌, eqb, Bool, true, false, List, [], ◌∷◌, ◌++◌, refl, sym, ◌∙◌, arith, length, get_or, set, Vec, Global}
use Rattle.std.proofs.lemmas.Bool.{eq-eqb, eqb-true}
use Rattle.curve_runs.specs.declared.run.Run.{Run}
use Rattle.curve_runs.specs.Runs.{runs_of}

-- a list without runs more says the same
pub runs-push : (vs : List (Vec Run Global)) (v : Vec Run Global) → v.items ≡ [] → (e : ℕ) → runs_of e (vs ++ v ∷ []) ≡ runs_of e vs
runs-push [] v n zero = n
runs-push [] v n (suc e) = refl
runs-push (u ∷ vs) v n zero = refl
runs-push (u ∷ vs) v n (suc e) = runs-push vs v n e

pub runs-get : (vs : List (Vec Run Global)) (e : ℕ) (d : Vec Run Global) → e < length vs → runs_of e vs ≡ (get_or vs e d).items
runs-get [] e d l = absurd (omega (arith, l))
runs-get (v ∷ vs) zero d l = refl
runs-get (v ∷ vs) (suc e) d l = runs-get vs e d (omega (arith, l))

pub runs-here : (vs : List (Vec Run Global)) (e : ℕ) (v : Vec Run Global) → e < length vs → runs_of e (set vs e v) ≡ v.items
runs-here [] e v l = absurd (omega (arith, l))
runs-here (u ∷ vs) zero v l = refl
runs-here (u ∷ vs) (suc e) v l = runs-here vs e v (omega (arith, l))

pub runs-there : (vs : List (Vec Run Global)) (e k : ℕ) (v : Vec Run Global) → eqb e k ≡ false → runs_of e (set vs k v) ≡ runs_of e vs
runs-there [] e k v n = refl
runs-there (u ∷ vs) zero zero v n = absurd (let h = eq-eqb 0 0 refl in let f : true ≡ false = sym h ∙ n in cc)
runs-there (u ∷ vs) zero (suc k) v n = refl
runs-there (u ∷ vs) (suc e) zero v n = refl
runs-there (u ∷ vs) (suc e) (suc k) v n = runs-there vs e k v (by_test (eqb e k) refl)
  where
    by_test : (t : Bool) → eqb e k ≡ t → eqb e k ≡ false
    by_test true p = let q = eqb-true e k p in absurd (let h = eq-eqb (suc e) (suc k) (omega (arith, q)) in let f : true ≡ false = sym h ∙ n in cc)
    by_test false p = p
