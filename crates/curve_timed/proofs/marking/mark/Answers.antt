use Rattle.std.proofs.Common.{◌≡◌, ◌∙◌, sym, subst, None, rules}
use Rattle.std.specs.Prelude.{is_some}
use Rattle.std.specs.List.{AllByRecursion}
use Rattle.curve_sizes.specs.Rows.{limits_of}
use Rattle.curve_sizes.specs.Numbers.{mark_of}
use Rattle.curve_timed.specs.Marks.{HasMarkRows}
use Rattle.curve_timed.proofs.MarkLaws.{all-one, first-marked, stays-marked, later-marked}
use Rattle.curve_timed.proofs.marking.mark.Goals as goal

pub returns-in_default-span-clause-marked : goal.returns-in_default-span-clause-marked
returns-in_default-span-clause-marked c = λ requests e w t f g k m h.
    let curve = c.args.curve.now in
    let none : c.args.span.now ≡ None = search rules in
    first-marked curve.weights.items (mark_of curve.watermark) c.args.every c.in-Some.every c.args.span.now c.from-at.result c.args.moment c.args.marks.now.items requests e w t
    c.in-Some.is none c.from-at.ensures m h

pub returns-then-has-clause-marked : goal.returns-then-has-clause-marked
returns-then-has-clause-marked c = λ requests e w t f g k m h.
    let curve = c.args.curve.now in
    stays-marked curve.weights.items (mark_of curve.watermark) c.args.every c.in-Some.every c.args.span.now c.in-Some-span.begun c.args.moment c.args.marks.now.items requests e w t
    c.in-Some.is c.in-Some-span.is (sym c.has.ensures ∙ c.if-has.true) m h

pub returns-clause-marked : goal.returns-clause-marked
returns-clause-marked c = λ requests e w t f g k m h.
    let curve = c.args.curve.now in
    later-marked curve.weights.items (mark_of curve.watermark) c.args.every c.in-Some.every c.args.span.now c.in-Some-span.begun c.from-at.result c.args.moment c.args.marks.now.items c.push.new.self.items
    c.in_ok-made.made requests e w t c.in-Some.is c.in-Some-span.is c.in-Some.every.some (sym c.has.ensures ∙ c.if-has.false) c.in_ok-push.ensures.items c.in_ok-made.ensures.at c.from-at.ensures m
    (λ weight a. c.in_ok-made.ensures.found requests f g k weight a) h

pub returns-clause-rows : goal.returns-clause-rows
returns-clause-rows c = λ h.
    let P = HasMarkRows (limits_of c.args.curve.now.table) (is_some c.args.fresh.now) in
    subst (AllByRecursion P) (sym c.in_ok-push.ensures.items) (all-one P c.args.marks.now.items c.in_ok-made.made h c.in_ok-made.ensures.rows)
