use Rattle.std.proofs.Common.{◌∙◌, ap, sym, []}
use Rattle.std.specs.Option.{option_map_or}
use Rattle.std.proofs.lemmas.Bool.{ne_eqb}
use Rattle.http1_message_parts.specs.Lines.{lines_of}
use Rattle.rules_ffi.specs.SetViews.{set_of}
use Rattle.rules_ffi.proofs.SetSteps.{set_read}
use Rattle.rules_ffi.proofs.sets.sets_of.Goals as goal

pub loop-left-preserved : goal.loop-left-preserved
loop-left-preserved c =
    let rest = option_map_or (λ t. lines_of t.now) c.first_line.result.1 [] in
    set_read set_of c.loop-left.sets.items c.push.new.self.items _ c.loop-left.most c.first_line.result.0.now rest
    (option_map_or (λ t. lines_of t.now) c.loop-left.left []) (option_map_or (λ t. lines_of t.now) c.in_ok-names.behind []) _ c.in_ok-push.ensures.items
    (ap (λ ns. record { token = c.first_line.result.0.now; names = ns }) c.in_ok-names.ensures.lines) (ap (λ t. option_map_or (λ t. lines_of t.now) t []) c.in-Some.is ∙ c.first_line.ensures.first)
    c.in_ok-names.ensures.behind (ne_eqb c.loop-left.most 0 c.if-most-eq0.false) (sym c.is_empty.ensures ∙ c.if-is_empty.false) c.loop-left.invariant
