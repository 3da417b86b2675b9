use Rattle.std.proofs.Common.{rules, ◌≡◌, ◌∙◌, ap, subst, [], ◌∷◌, List}
use Rattle.head_directives.specs.Written.{Written}
use Rattle.head_directives.specs.Found.{written, directives_left}
use Rattle.head_directives.specs.Keeps.{keep, keep_all}
use Rattle.head_directives.specs.Known.{Knows}
use Rattle.head_directives.proofs.known.KnownDirectives.note_line.Goals as goal

pub loop-found-init : goal.loop-found-init
loop-found-init c = λ ds known. (ds, known, search rules)

pub loop-found-preserved : goal.loop-found-preserved
loop-found-preserved c = λ ds known.
    let i = c.loop-found.invariant ds known in
    let left : written c.in-Some.found ∷ directives_left c.next.new.self ≡ directives_left c.loop-found.found-iterator = search rules in
    (keep i.0 (written c.in-Some.found), c.note.ensures i.0 i.1, ap (keep_all i.0) left ∙ i.2)

pub returns : goal.returns
returns c = λ ds known.
    let i = c.loop-found.invariant ds known in
    let left : [] ≡ directives_left c.loop-found.found-iterator = search rules in
    subst (λ (l : List Written). Knows c.loop-found.self l) (ap (keep_all i.0) left ∙ i.2) i.1
