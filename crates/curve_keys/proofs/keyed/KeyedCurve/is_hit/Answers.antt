use Rattle.std.proofs.Common.{◌≡◌, ◌∙◌, Some, None, rules, refl}
use Rattle.curve_sizes.specs.Rows.{limits_of}
use Rattle.curve_sizes.specs.Numbers.{mark_of, numbered}
use Rattle.std.specs.Prelude.{slice_index}
use Rattle.curve_loads.specs.Steps.{has_row, held}
use Rattle.curve_sizes.specs.Requests.{steps_of}
use Rattle.curve_keys.specs.Keys.{number_of}
use Rattle.curve_keys.proofs.KeyedLaws.{weight_by}
use Rattle.curve_keys.proofs.HitLaws.{hit-none, hit-some, always-fresh}
use Rattle.curve_keys.proofs.keyed.KeyedCurve.is_hit.Goals as goal

pub is_hit-requires-clause-within : goal.is_hit-requires-clause-within
is_hit-requires-clause-within c =
    let has : number_of c.args.self.now.numbers c.args.key.now ≡ Some c.in-Some.number = search rules in
    c.requires.1.keys.below c.args.key.now c.in-Some.number has

pub is_hit-requires-clause-fed : goal.is_hit-requires-clause-fed
is_hit-requires-clause-fed c = (c.requires.1.numbers, c.requires.1.fed)

pub returns-in-None : goal.returns-in-None
returns-in-None c = λ none requests f weight a l.
    let has : number_of c.args.self.now.numbers c.args.key.now ≡ None = search rules in
    let t = c.args.self.now.curve.curve in
    hit-none c.args.self.now requests weight (slice_index (limits_of t.table) c.args.at) (mark_of t.watermark) c.args.key.now has f a

pub returns-in-Some : goal.returns-in-Some
returns-in-Some c = λ none requests f weight a l.
    let has : number_of c.args.self.now.numbers c.args.key.now ≡ Some c.in-Some.number = search rules in
    let t = c.args.self.now.curve.curve in
    let limit = slice_index (limits_of t.table) c.args.at in
    let n = c.in-Some.number in
    c.is_hit.ensures f.numbers f.fed (weight_by t.weights.items) (λ m b. refl) l
    ∙ always-fresh c.args.self.now.curve.fresh n c.args.at c.args.moment (has_row (numbered n) (held (weight_by t.weights.items) limit (mark_of t.watermark) (steps_of f.numbers))) none
    ∙ hit-some c.args.self.now requests weight limit (mark_of t.watermark) c.args.key.now n has f a
