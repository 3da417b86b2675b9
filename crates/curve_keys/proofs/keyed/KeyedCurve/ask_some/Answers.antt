use Rattle.std.proofs.Common.{◌∙◌, ◌∷◌, subst}
use Rattle.curve_sizes.specs.Requests.{asks}
use Rattle.curve_keys.specs.Keys.{keyed, IsFedKeys}
use Rattle.curve_keys.proofs.FirstWeights.{repeated-first}
use Rattle.curve_keys.proofs.keyed.KeyedCurve.ask_some.Goals as goal

pub ask_number-requires-clause-fed : goal.ask_number-requires-clause-fed
ask_number-requires-clause-fed c =
    let (requests, f) = c.requires.fed in
    (asks (keyed c.args.key.now) c.args.weight c.args.when ∷ requests, c.in_ok-number.ensures.fed requests f)

pub ask_number-requires-clause-within : goal.ask_number-requires-clause-within
ask_number-requires-clause-within c =
    let (requests, f) = c.requires.fed in
    let new = c.in_ok-number.ensures.fed requests f in
    new.keys.below c.args.key.now c.in_ok-number.number c.in_ok-number.ensures.number

pub returns-clause-fed : goal.returns-clause-fed
returns-clause-fed c = λ requests f.
    let r = asks (keyed c.args.key.now) c.args.weight c.args.when in
    subst (IsFedKeys c.ask_number.new.self) (repeated-first c.args.times r requests c.requires.some)
    (c.in_ok-ask_number.ensures.fed c.args.key.now (r ∷ requests) c.in_ok-number.ensures.number (c.in_ok-number.ensures.fed requests f))

pub returns-clause-same : goal.returns-clause-same
returns-clause-same c = (
  c.in_ok-ask_number.ensures.same.0 ∙ c.in_ok-number.ensures.mark,
  c.in_ok-ask_number.ensures.same.1 ∙ c.in_ok-number.ensures.limits,
  c.in_ok-ask_number.ensures.same.2 ∙ c.in_ok-number.ensures.every,
  c.in_ok-ask_number.ensures.same.3 ∙ c.in_ok-number.ensures.timed,
)
