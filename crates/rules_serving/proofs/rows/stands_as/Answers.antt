use Rattle.std.proofs.Common.{◌==◌, length, sym, ap, ◌∙◌, refl}
use Rattle.std.specs.Prelude.{option_map}
use Rattle.rules_fields.specs.Fields.{field}
use Rattle.rules_serving.proofs.Stored.{name_fits, stands, colon_is}
use Rattle.rules_serving.proofs.rows.stands_as.Goals as goal

pub split_at-requires : goal.split_at-requires
split_at-requires c = name_fits c.args.row.now (field c.args.line.now) c.requires

pub returns-in-Some : goal.returns-in-Some
returns-in-Some c =
    stands c.args.row.now c.in-Some.value.now (field c.args.line.now) (length c.in-Some.value.now == length c.args.line.now.value.now) c.requires
    (sym c.split_at.ensures.back ∙ colon_is c.split_at.result.1.now c.in-Some.value.now (sym (ap (option_map (λ v. v.now)) c.in-Some.is) ∙ c.behind_colon.ensures)) refl
