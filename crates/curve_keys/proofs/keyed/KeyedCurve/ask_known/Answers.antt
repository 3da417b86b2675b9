use Rattle.std.proofs.Common.{◌≡◌, Some, None, rules}
use Rattle.curve_keys.specs.Keys.{number_of}
use Rattle.curve_keys.proofs.FirstWeights.{known-none, known-some}
use Rattle.curve_keys.proofs.keyed.KeyedCurve.ask_known.Goals as goal

pub ask_own-requires-clause-fed : goal.ask_own-requires-clause-fed
ask_own-requires-clause-fed c = c.requires

pub ask_own-requires-clause-within : goal.ask_own-requires-clause-within
ask_own-requires-clause-within c =
    let has : number_of c.args.self.now.numbers c.args.key.now ≡ Some c.in-Some.number = search rules in
    c.requires.1.keys.below c.args.key.now c.in-Some.number has

pub returns-in-None-clause-fed : goal.returns-in-None-clause-fed
returns-in-None-clause-fed c = λ requests f.
    let has : number_of c.args.self.now.numbers c.args.key.now ≡ None = search rules in
    known-none c.args.self.now requests c.args.key.now c.args.when c.args.times has f

pub returns-in_ok-ask_own-in-Some-clause-fed : goal.returns-in_ok-ask_own-in-Some-clause-fed
returns-in_ok-ask_own-in-Some-clause-fed c = λ requests f.
    let has : number_of c.args.self.now.numbers c.args.key.now ≡ Some c.in-Some.number = search rules in
    known-some c.args.self.now c.ask_own.new.self requests c.args.key.now c.in-Some.number c.args.when c.args.times has f
    (c.in_ok-ask_own-in-Some.ensures.fed c.args.key.now requests has f)
