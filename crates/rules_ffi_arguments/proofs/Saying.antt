-- Words that were read, in front of those that the rest says.
use Rattle.std.proofs.Common.{◌≡◌, ℕ, List, [], ◌∷◌, ◌++◌, refl, sym, ap, append_assoc, ◌∙◌, Bool}
use Rattle.std.specs.Prelude.{Option, Some, None, option_map}
use Rattle.std.specs.Option.{option_map_or}
use Rattle.http1_message_parts.specs.Lines.{lines_of, row_of}
use Rattle.rules_ffi_arguments.specs.Given.{only_if}
use Rattle.rules_ffi_arguments.specs.Words.{Given, said_in, all_said, is_end}

behind_one : (front : List Given) (s : Given) (rest : Option (List Given)) → option_map (λ ss. front ++ ss) (option_map (λ ss. s ∷ ss) rest) ≡ option_map (λ ss. (front ++ (s ∷ [])) ++ ss) rest
behind_one front s None = refl
behind_one front s (Some ss) = ap Some (sym (append_assoc front (s ∷ []) ss))

rest_says : {A : Type 0} (f : A → List ℕ) (is_prepared : Bool) (rest : Option A) → all_said is_prepared (option_map_or (λ r. lines_of (f r)) rest []) ≡ option_map_or (λ r. all_said is_prepared (lines_of (f r))) rest (Some [])
rest_says f is_prepared None = refl
rest_says f is_prepared (Some r) = refl

abbrev with_first : Bool → List ℕ → List (List ℕ) → Option Given → Option (List Given)
with_first is_prepared line lines first = option_map_or (λ s. option_map (λ ss. s ∷ ss) (all_said is_prepared lines)) first (only_if (is_end (row_of line) lines) [])

pub one_more : {A : Type 0} (f : A → List ℕ) (is_prepared : Bool) (front : List Given) (s : Given) (line : List ℕ) (rest : Option A) → said_in is_prepared line ≡ Some s
    → option_map (λ ss. front ++ ss) (all_said is_prepared (line ∷ option_map_or (λ r. lines_of (f r)) rest [])) ≡ option_map (λ ss. (front ++ (s ∷ [])) ++ ss) (option_map_or (λ r. all_said is_prepared (lines_of (f r))) rest (Some []))
one_more f is_prepared front s line rest e =
    ap (λ o. option_map (λ ss. front ++ ss) (with_first is_prepared line (option_map_or (λ r. lines_of (f r)) rest []) o)) e
    ∙ behind_one front s (all_said is_prepared (option_map_or (λ r. lines_of (f r)) rest []))
    ∙ ap (option_map (λ ss. (front ++ (s ∷ [])) ++ ss)) (rest_says f is_prepared rest)
