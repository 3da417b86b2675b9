use Rattle.std.proofs.Common.{rules, ◌≡◌, ◌∙◌, ap, subst, [], ◌∷◌, List, ℕ, map}
use Rattle.head_directives.specs.Keeps.{keep_line, keep_lines}
use Rattle.head_directives.specs.Known.{Knows}
use Rattle.head_directives.proofs.Knowing.{known_nothing}
use Rattle.head_directives.proofs.known.KnownDirectives.from_resp_headers.Goals as goal

pub loop-line-init : goal.loop-line-init
loop-line-init c = ([], known_nothing, search rules)

pub loop-line-preserved : goal.loop-line-preserved
loop-line-preserved c =
    let i = c.loop-line.invariant in
    let left : c.in-Some.line.now.bytes ∷ map (λ line. line.bytes) c.next-in-loop-line.new.self ≡ map (λ line. line.bytes) c.loop-line.line-iterator = search rules in
    (keep_line i.0 c.in-Some.line.now.bytes, subst (λ (l : List ℕ). Knows c.note_line.new.self (keep_line i.0 l)) c.as_bytes.ensures.value (c.note_line.ensures i.0 i.1), ap (keep_lines i.0) left ∙ i.2)
