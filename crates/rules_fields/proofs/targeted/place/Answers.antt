use Rattle.std.proofs.Common.{sym, ◌∙◌}
use Rattle.std.specs.Prelude.{option_map}
use Rattle.rules_fields.specs.Texts.{small}
use Rattle.rules_fields.proofs.Members.{place_some}
use Rattle.rules_fields.proofs.targeted.place.Goals as goal

pub returns-in_ok-push : goal.returns-in_ok-push
returns-in_ok-push c =
    place_some c.args.found.now.items c.take_out.new.found.items c.push.new.self.items (small c.args.key.now) (option_map (λ v. v.now) c.args.item) c.in-Some.d c.in_ok-d.field-0
    (sym c.among.ensures ∙ c.if-not-among.false) c.take_out.ensures c.in_ok-d.ensures c.in-Some.is c.in_ok-push.ensures.items
