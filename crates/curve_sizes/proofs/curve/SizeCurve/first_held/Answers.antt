use Rattle.std.proofs.Common.{◌∙◌, ap₂, get_or, Bool, Option, ℕ}
use Rattle.curve_sizes.specs.Numbers.{is_found}
use Rattle.curve_sizes.specs.Rows.{limits_of}
use Rattle.curve_sizes.proofs.Feeding.{first-held}
use Rattle.curve_sizes.proofs.curve.SizeCurve.first_held.Goals as goal

pub returns-clause-first : goal.returns-clause-first
returns-clause-first c = λ requests fed weight agrees k l.
    first-held c.args.self.now c.args.entry c.first_at.result (λ j m.
    c.first_at.ensures.first j m
    ∙ ap₂ (λ (h : Option ℕ) (b : Bool). is_found h b (get_or (limits_of c.args.self.now.table) j 0)) c.height-height.ensures c.is_past_mark-is_past.ensures) requests fed weight agrees k l
