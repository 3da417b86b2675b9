use Rattle.std.proofs.Common.{sym}
use Rattle.head_directives.proofs.Texts.{known_text}
use Rattle.head_directives.proofs.key.DirectiveKey.from_any_case.Goals as goal

pub returns-in-Some-clause-text : goal.returns-in-Some-clause-text
returns-in-Some-clause-text c = sym (known_text _ _ c.in-Some.ensures.variant c.in-Some.ensures.name)
