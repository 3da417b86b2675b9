-- Copies that are made of pairs one by one.
use Rattle.std.proofs.Common.{ℕ, List, [], ◌∷◌, ◌++◌, subst, sym}
use Rattle.std.specs.List.{AllZip}
use Rattle.std.proofs.lemmas.List.{append_assoc, append-nil}
use Rattle.lru_actors.specs.Looks.{IsCopy}

-- with copies of the pairs that are left, these are copies of all
abbrev pub Copied : {K : Type 0} → (K → K → Type 0) → List (K × ℕ) → List (K × ℕ) → List (K × ℕ) → Type 0
Copied {K} is_clone all left copies = (more : List (K × ℕ)) → AllZip (IsCopy is_clone) left more → AllZip (IsCopy is_clone) all (copies ++ more)

module _ {K : Type 0} where
  pub copied_more : (is_clone : K → K → Type 0) (all left copies : List (K × ℕ)) (x y : K × ℕ) → Copied is_clone all (x ∷ left) copies → IsCopy is_clone x y
      → Copied is_clone all left (copies ++ y ∷ [])
  copied_more is_clone all left copies x y h one more rest =
      subst (λ l. AllZip (IsCopy is_clone) all l) (sym (append_assoc copies (y ∷ []) more)) (h (y ∷ more) (one, rest))

  pub copied_all : (is_clone : K → K → Type 0) (all copies : List (K × ℕ)) → Copied is_clone all [] copies → AllZip (IsCopy is_clone) all copies
  copied_all is_clone all copies h = subst (λ l. AllZip (IsCopy is_clone) all l) (append-nil copies) (h [] tt)
