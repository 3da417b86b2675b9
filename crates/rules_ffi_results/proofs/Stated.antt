-- The block of lines, and of a line that states a length.
use Rattle.std.proofs.Common.{◌≡◌, refl, ap, ◌∙◌, sym, ℕ, List, [], ◌∷◌, ◌++◌, append_assoc}
use Rattle.std.proofs.lemmas.List.{append-nil}
use Rattle.std.specs.Prelude.{Option, Some, None}
use Rattle.rules_fields.specs.Fields.{Field}
use Rattle.rules_storage.specs.Kept.{with_length}
use Rattle.rules_ffi_arguments.specs.Rooms.{line_text, block}
use Rattle.rules_ffi_results.specs.Heads.{length_line}

-- of lines and more lines
pub block_of_more : (lines more : List Field) → block (lines ++ more) ≡ block lines ++ block more
block_of_more [] more = refl
block_of_more (f ∷ lines) more = ap (λ (t : List ℕ). line_text f ++ t) (block_of_more lines more) ∙ sym (append_assoc (line_text f) (block lines) (block more))

length_block : (n : Option ℕ) → block (with_length n) ≡ length_line n
length_block None = refl
length_block (Some n) = append-nil (length_line (Some n))

-- of lines and the length that is stated
pub block_with_length : (lines : List Field) (n : Option ℕ) → block (lines ++ with_length n) ≡ block lines ++ length_line n
block_with_length lines n = block_of_more lines (with_length n) ∙ ap (λ (t : List ℕ). block lines ++ t) (length_block n)
