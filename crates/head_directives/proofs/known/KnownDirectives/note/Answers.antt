use Rattle.std.proofs.Common.{◌∙◌, ap, map, refl, sym}
use Rattle.std.specs.Char.{to_ascii_lowercase}
use Rattle.head_directives.specs.Found.{written}
use Rattle.head_directives.specs.Names.{place_of}
use Rattle.head_directives.proofs.Texts.{is_text}
use Rattle.head_directives.proofs.Knowing.{known_unchanged, known_next}
use Rattle.head_directives.proofs.known.KnownDirectives.note.Goals as goal

pub returns-in-Some : goal.returns-in-Some
returns-in-Some c = λ ds known. known_next c.args.self.now.said ds (written c.args.found) c.in-Some.place c.args.found.value
    (is_text c.args.found.name.now c.in-Ok.ensures.cases.1)
    (ap (λ n. place_of (map to_ascii_lowercase n)) (sym c.in-Ok.ensures.cases.0) ∙ sym c.place_in_any_case.ensures.is ∙ c.in-Some.is)
    c.in-Some.ensures.within
    refl
    known

pub returns-in_default-place_in_any_case : goal.returns-in_default-place_in_any_case
returns-in_default-place_in_any_case c = λ ds known. known_unchanged c.args.self.now.said ds (written c.args.found)
    (ap (λ n. place_of (map to_ascii_lowercase n)) (sym c.in-Ok.ensures.cases.0) ∙ sym c.place_in_any_case.ensures.is ∙ c.in_default-place_in_any_case.is)
    known
