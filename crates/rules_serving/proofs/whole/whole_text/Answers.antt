use Rattle.std.proofs.Common.{ℕ, ◌++◌, ◌<◌, ◌^◌, List, Bool, map, length, sym, ap, ◌∙◌, arith}
use Rattle.std.specs.Prelude.{Option, option_map}
use Rattle.rules_fields.specs.Types.{kept_of, chosen}
use Rattle.rules_ffi_results.specs.Heads.{status_line, length_line}
use Rattle.rules_response.specs.Answering.{accepts_line}
use Rattle.rules_ffi_arguments.specs.Rooms.{block}
use Rattle.rules_serving.specs.Answers.{whole_head}
use Rattle.rules_serving.specs.Whole.{with_text, behind}
use Rattle.rules_serving.proofs.Copied.{all_rows}
use Rattle.rules_serving.proofs.Written.{text_written}
use Rattle.rules_serving.proofs.whole.whole_text.Goals as goal

pub returns : goal.returns
unfolding whole_head
returns c =
    let fits : length c.args.block.now < 2 ^ 64 = omega (arith, c.bytes_of.ensures, c.bytes_of.type_inv) in
    text_written c.add_status.new.text.items c.add_rows.new.text.items c.add_age.new.text.items c.add_accepts.new.text.items c.add_length.new.text.items
    c.add_cache_status.new.text.items c.add_end.new.text.items c.args.block.now (kept_of c.args.kept.now) c.args.length c.args.now (map (λ h. h.now) c.args.how.now) (chosen c.args.options.now) c.args.form c.args.closes c.in-Some.says
    (c.in_ok-add_status.ensures ∙ ap (λ (t : List ℕ). t ++ status_line c.args.kept.now.status) c.in_ok-text.ensures.items) (sym (ap (option_map (with_text c.add_rows.new.text.items)) c.in-Some.is) ∙ c.in_ok-says.ensures ∙ ap (option_map (behind c.add_status.new.text.items)) (all_rows c.args.block.now fits))
    c.in_ok-add_age.ensures
    (c.in_ok-add_accepts.ensures ∙ ap (λ (b : Bool). c.add_age.new.text.items ++ block (accepts_line b)) c.accepts_parts.ensures)
    (c.in_ok-add_length.ensures ∙ ap (λ (l : Option ℕ). c.add_accepts.new.text.items ++ length_line l) c.length_sent.ensures) c.in_ok-add_cache_status.ensures c.in_ok-add_end.ensures
