use Rattle.std.proofs.Common.{rules, ◌≡◌, ◌++◌, ℕ, List, ap, sym, ◌∙◌, append_assoc}
use Rattle.rules_fields.specs.Fields.{fields}
use Rattle.rules_storage.specs.Kept.{with_length}
use Rattle.rules_ffi_arguments.specs.Rooms.{block}
use Rattle.rules_ffi_results.specs.Heads.{length_line}
use Rattle.rules_ffi_results.proofs.Stated.{block_with_length}
use Rattle.rules_ffi_results.proofs.keeping.add_fields.Goals as goal

-- the lines, then the length, are the block of both
pub returns : goal.returns
returns c =
    let n = c.args.stored.now.length in
    let old = c.args.text.now.items in
    let lines = fields c.as_slice.result.now in
    c.in_ok-add_length.ensures
    ∙ ap (λ (t : List ℕ). t ++ length_line n) c.in_ok-add_lines.ensures
    ∙ append_assoc old (block lines) (length_line n)
    ∙ ap (λ (t : List ℕ). old ++ t) (sym (block_with_length lines n))
    ∙ ap (λ ls. old ++ block (fields ls ++ with_length n)) c.as_slice.ensures.value
