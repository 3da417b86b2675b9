use Rattle.std.proofs.Common.{◌≡◌, ◌<◌, ◌^◌, [], refl, sym, subst, length, ◌∙◌}
use denote.Param.{layout, number, param}
use mir.Syntax.{Ty}
use prog.Memory.{size}
use Rattle.std.specs.List.{sum_by}
use Rattle.std.proofs.lemmas.Bool.{eqb-true, eq-eqb}
use Rattle.tier_model.specs.Started.{HasOnlyOrder, all_rows}
use Rattle.tier_model.specs.State.{State}
use Rattle.tier_single.specs.contracts.tier.Tier.{the_row}
use Rattle.tier_single.proofs.NewLaws.{untracked, none_counted}
use Rattle.tier_single.proofs.Room.{inner_room}
use Rattle.tier_single.proofs.tier.Tier.is_new.Goals as goal

pub total_items-requires : goal.total_items-requires
total_items-requires g c =
    let tier : Ty = layout (the_row (param 0 (number g.row.N)) (param 1 g.row.S) (param 2 g.row.S-Hasher) g.S.BuildHasher g.S.Hasher.Hasher) in
    let room : size tier < 2 ^ 63 = assumption in
    inner_room tier 2 1 _ _ refl _ _ refl room

pub returns : goal.returns
returns g c =
    let only : HasOnlyOrder c.args.self.now = c.has_only_order.ensures.0 c.if-not-has_only_order.false in
    let count : c.total_items.result ≡ sum_by length c.self.inside.parts.manager.shards = c.total_items.ensures.sum in (
      λ t. record {
        nothing_else = only;
        untracked = subst (λ (x : State). all_rows x.managed.shards ≡ []) c.self.view_is (untracked c.self.inside.parts.manager.shards (sym count ∙ eqb-true c.total_items.result 0 t));
      },
      λ new. eq-eqb c.total_items.result 0 (count ∙ none_counted c.self.inside.parts.manager.shards (subst (λ (x : State). all_rows x.managed.shards ≡ []) (sym c.self.view_is) new.untracked)),
    )
