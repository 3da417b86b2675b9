use Rattle.std.proofs.Common.{◌≡◌, [], ◌∷◌, ◌++◌, map, sym, ap, ◌∙◌, arith}
use Rattle.std.specs.Prelude.{Some, option_map}
use Rattle.std.specs.Option.{option_map_or}
use Rattle.std.proofs.lemmas.Grind.{common_steps}
use Rattle.http1_message_parts.specs.Lines.{lines_of}
use Rattle.rules_ffi_arguments.specs.Words.{said, all_said}
use Rattle.rules_ffi_arguments.proofs.Saying.{one_more}
use Rattle.rules_ffi_arguments.proofs.words.all_said.Goals as goal

pub loop-left-preserved : goal.loop-left-preserved
loop-left-preserved c =
    let p = c.args.is_prepared in
    let front = map said c.loop-left.found.items in
    let rest = c.first_line.result.1 in
    let one = c.in-Some-said_in.said in
    let more : map said c.push.new.self.items ≡ front ++ (said one ∷ []) = ap (map said) c.in_ok-push-in-Some-said_in.ensures.items ∙ grind (arith, common_steps) in
    c.loop-left.invariant
    ∙ ap (λ o. option_map (λ ss. front ++ ss) (option_map_or (λ r. all_said p (lines_of r.now)) o (Some []))) c.in-Some.is
    ∙ ap (λ ls. option_map (λ ss. front ++ ss) (all_said p ls)) c.first_line.ensures.first
    ∙ one_more (λ r. r.now) p front (said one) c.first_line.result.0.now rest (sym c.said_in.ensures ∙ ap (option_map said) c.in-Some-said_in.is)
    ∙ ap (λ items. option_map (λ ss. items ++ ss) (option_map_or (λ r. all_said p (lines_of r.now)) rest (Some []))) (sym more)
