-- Texts with another between each two, where one more follows.
use Rattle.std.proofs.Common.{◌≡◌, ℕ, List, [], ◌∷◌, ◌++◌, ap, append_assoc, sym, ◌∙◌}
use Rattle.std.proofs.lemmas.List.{append-nil}
use Rattle.std.specs.List.{flat_map}
use Rattle.rules_response.specs.Lines.{joined_by}

-- what stands between goes in front of what follows
between_first : (between : List ℕ) (ts : List (List ℕ)) (last : List ℕ) → flat_map (λ u. between ++ u) (ts ++ (last ∷ [])) ≡ between ++ joined_by between (ts ++ (last ∷ []))
between_first between [] last = append-nil (between ++ last) ∙ ap (λ (x : List ℕ). between ++ x) (sym (append-nil last))
between_first between (t ∷ ts) last = append_assoc between t (flat_map (λ u. between ++ u) (ts ++ (last ∷ [])))

pub joined_by_more : (between t : List ℕ) (ts : List (List ℕ)) (last : List ℕ) → joined_by between (t ∷ ts ++ (last ∷ [])) ≡ (t ++ between) ++ joined_by between (ts ++ (last ∷ []))
joined_by_more between t ts last = ap (λ (x : List ℕ). t ++ x) (between_first between ts last) ∙ sym (append_assoc t between (joined_by between (ts ++ (last ∷ []))))
