use Rattle.std.proofs.Common.{◌≡◌, ◌∷◌, Some, None, rules, sym, subst, List, ℕ}
use Rattle.curve_sizes.specs.Requests.{removes}
use Rattle.curve_sizes.specs.Numbers.{numbered}
use Rattle.curve_keys.specs.Keys.{number_of, AreKeyed, keyed}
use Rattle.curve_keys.specs.Repeats.{AreRepeats}
use Rattle.curve_keys.proofs.KeyedLaws.{keyed-removed, keyed-unknown}
use Rattle.curve_keys.proofs.RepeatLaws.{repeats-removed}
use Rattle.curve_keys.proofs.keyed.KeyedCurve.remove.Goals as goal

pub remove-requires : goal.remove-requires
remove-requires c =
    let has : number_of c.args.self.now.numbers c.args.key.now ≡ Some c.in-Some.number.now = search rules in
    c.requires.1.keys.below c.args.key.now c.in-Some.number.now has

pub returns-in_ok-remove-clause-fed : goal.returns-in_ok-remove-clause-fed
returns-in_ok-remove-clause-fed c = λ requests f.
    let has : number_of c.args.self.now.numbers c.args.key.now ≡ Some c.in-Some.number.now = search rules in
    record {
      whole = f.whole;
      numbers = removes (numbered c.in-Some.number.now) ∷ f.numbers;
      keys = subst (λ (l : List ℕ). AreKeyed (number_of c.args.self.now.numbers) l (removes (keyed c.args.key.now) ∷ requests) (removes (numbered c.in-Some.number.now) ∷ f.numbers)) (sym c.in_ok-remove.ensures.same)
          (keyed-removed (number_of c.args.self.now.numbers) c.args.self.now.curve.curve.weights.items requests f.numbers c.args.key.now c.in-Some.number.now has f.keys);
      fed = c.in_ok-remove.ensures.fed f.numbers f.fed;
      repeats_are = subst (λ (l : List ℕ). AreRepeats l c.args.self.now.repeats (removes (numbered c.in-Some.number.now) ∷ f.numbers)) (sym c.in_ok-remove.ensures.same)
          (repeats-removed c.args.self.now.curve.curve.weights.items c.args.self.now.repeats (numbered c.in-Some.number.now) f.numbers f.repeats_are);
    }

pub returns-in_default-clause-fed : goal.returns-in_default-clause-fed
returns-in_default-clause-fed c = λ requests f.
    let has : number_of c.args.self.now.numbers c.args.key.now ≡ None = search rules in
    record {
      whole = f.whole;
      numbers = f.numbers;
      keys = keyed-unknown (number_of c.args.self.now.numbers) c.args.self.now.curve.curve.weights.items requests f.numbers c.args.key.now has f.keys;
      fed = f.fed;
      repeats_are = f.repeats_are;
    }
