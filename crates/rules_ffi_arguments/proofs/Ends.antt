-- Some line stands behind each line end.
use Rattle.std.proofs.Common.{◌≡◌, ℕ, List, [], ◌∷◌, refl, Bool, true, false, cond, ◌==◌}
use Rattle.std.specs.List.{slice_split, onto_first}
use Rattle.http1_message_parts.specs.Lines.{lines_of}
use Rattle.rules_ffi_arguments.specs.Words.{is_end}

joined : (row : List ℕ) (b : ℕ) (t : Bool) (parts : List (List ℕ)) → is_end row (cond t ([] ∷ parts) (onto_first b parts)) ≡ false
joined row b true parts = refl
joined row b false [] = refl
joined row b false (p ∷ ps) = refl

pub no_end : (row text : List ℕ) → is_end row (lines_of text) ≡ false
no_end row [] = refl
no_end row (b ∷ text) = joined row b (b == 10) (slice_split (λ b. b == 10) text)
