use Rattle.std.proofs.Common.{sym, ap, ◌∙◌}
use Rattle.std.specs.Prelude.{Some, option_map}
use Rattle.head_directives.specs.Entries.{value_bytes}
use Rattle.head_directives.proofs.Texts.{seen_lookup}
use Rattle.head_directives.proofs.control.CacheControl.hashed.Goals as goal

pub returns-in-Some-Some : goal.returns-in-Some-Some
returns-in-Some-Some c =
    ap (λ o. Some (value_bytes o)) (sym c.in-Some-Some.field-0-is) ∙ ap (option_map value_bytes) c.in-Some-Some.ensures.value ∙ seen_lookup c.args.self.now.directives.entries c.args.key.now

pub returns-in-Some-None : goal.returns-in-Some-None
returns-in-Some-None c =
    ap (λ o. Some (value_bytes o)) (sym c.in-Some-None.field-0-is) ∙ ap (option_map value_bytes) c.in-Some-None.ensures.value ∙ seen_lookup c.args.self.now.directives.entries c.args.key.now

pub returns-in-None : goal.returns-in-None
returns-in-None c = ap (option_map value_bytes) c.in-None.ensures.value ∙ seen_lookup c.args.self.now.directives.entries c.args.key.now
