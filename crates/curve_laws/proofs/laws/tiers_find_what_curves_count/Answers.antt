use Rattle.std.proofs.Common.{[], refl, arith, ◌≡◌, sym, ◌∙◌}
use Rattle.tier_loads.specs.Uniform.{weight_in}
use Rattle.tier_pairs.specs.Two.{all_seen}
use Rattle.curve_loads.proofs.Held.{held-stays}
use Rattle.curve_loads.proofs.Places.{places-of, test-of}
use Rattle.curve_laws.proofs.Finding.{as-many, all-found}
use Rattle.curve_laws.proofs.laws.tiers_find_what_curves_count.Goals as goal

pub returns : goal.returns
returns c = λ a b seen requests pairs l g l' g' s rest served found.
    let weight = weight_in (all_seen seen) in
    let n = all-found weight a.limit a.watermark (λ e before. (
      λ h. places-of weight a.limit a.watermark e before (sym (held-stays weight a.limit a.watermark e before) ∙ h),
      λ o. held-stays weight a.limit a.watermark e before ∙ test-of weight a.limit a.watermark e before o,
    )) a b refl refl [] requests pairs (as-many l g s requests pairs l' g' rest served) found in
    omega (arith, n)
