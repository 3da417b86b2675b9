-- What counts of a response's head.
use Rattle.std.specs.Prelude.{ℕ, Bool, true, false, List, codes, Option, Some, None, option_map}
use Rattle.rules_fields.specs.Fields.{Field, first}
use Rattle.rules_fields.specs.Targeted.{preferred}
use Rattle.rules_fields.specs.Types.{Chosen}
use Rattle.rules_fields.specs.Meaning.{Meaning, meanings}
use Rattle.rules_fields.specs.Directives.{directives}
use Rattle.rules_fields.specs.declared.says.Says.{Says}

pub record Said : Type 0 where
  pub directives : List Meaning
  pub expires : Option (List ℕ)
  pub is_targeted : Bool

abbrev pub said : Says → Said
said s = record { directives = meanings s.directives.items; expires = option_map (λ v. v.now) s.expires; is_targeted = s.is_targeted }

-- the directives of a targeted field alone, else those of Cache-Control, and the first Expires (RFC 9213, 2.2)
abbrev pub said_in : List Field → Option (List Meaning) → Said
said_in lines None = record { directives = directives (codes "cache-control") lines; expires = first (codes "expires") lines; is_targeted = false }
said_in lines (Some own) = record { directives = own; expires = None; is_targeted = true }

abbrev pub says : List Field → Chosen → Said
says lines o = said_in lines (preferred o.targeted lines)
