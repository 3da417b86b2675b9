use Rattle.std.proofs.Common.{◌∷◌, ℕ, ◌∙◌, ap, length, subst}
use Rattle.curve_sizes.specs.declared.curve.SizeCurve.{SizeCurve}
use Rattle.curve_sizes.specs.Requests.{asks}
use Rattle.curve_sizes.specs.Numbers.{numbered}
use Rattle.curve_keys.specs.Keys.{number_of, IsNumbered}
use Rattle.curve_keys.proofs.KeyedLaws.{keyed-asked}
use Rattle.curve_keys.proofs.keyed.KeyedCurve.ask.Goals as goal

pub returns-clause-fed : goal.returns-clause-fed
returns-clause-fed c = λ requests f. record {
  whole = f.whole;
  numbers = asks (numbered c.in_ok-number.number) c.args.weight c.args.when ∷ f.numbers;
  keys = keyed-asked (number_of c.args.self.now.numbers) (number_of c.number_for.new.numbers) c.args.self.now.curve.curve.weights.items c.ask_entry.new.curve.curve.weights.items requests f.numbers c.args.key.now c.args.weight c.in_ok-number.number c.args.when
      (subst (λ (x : ℕ). IsNumbered (number_of c.args.self.now.numbers) (number_of c.number_for.new.numbers) c.args.key.now x c.in_ok-number.number) (c.entries.ensures.value ∙ ap (λ (s : SizeCurve). length s.weights.items) c.curve.ensures) c.in_ok-number.ensures)
      c.in_ok-ask_entry.ensures.known c.in_ok-ask_entry.ensures.next f.keys;
  fed = c.in_ok-ask_entry.ensures.fed f.numbers f.fed;
  repeats_are = c.in_ok-ask_entry.ensures.repeats f.numbers f.fed f.repeats_are;
}

pub ask_entry-requires-clause-fed : goal.ask_entry-requires-clause-fed
ask_entry-requires-clause-fed c = let f = c.requires.1 in (f.numbers, f.fed, f.repeats_are)
