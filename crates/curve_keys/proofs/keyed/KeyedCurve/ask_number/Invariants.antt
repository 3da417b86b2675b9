use Rattle.std.proofs.Common.{◌≡◌, ℕ, ◌<◌, List, length, Some}
use Rattle.curve_sizes.specs.Requests.{Request, asks}
use Rattle.curve_timed.specs.Counting.{IsFedTimed}
use Rattle.curve_keys.specs.Keys.{keyed, number_of, IsFedKeys, AreSameLimits}
use Rattle.curve_keys.specs.Pasts.{repeated}
use Rattle.curve_keys.specs.Repeats.{AreRepeats}
use Rattle.curve_keys.proofs.keyed.KeyedCurve.ask_number.Given as goal

abbrev pub invariant-loop : goal.invariant-loop
invariant-loop l = record {
  fed : (numbers : List Request) × IsFedTimed l.self.curve numbers × AreRepeats l.self.curve.curve.weights.items l.self.repeats numbers;
  within : l.number < length l.self.curve.curve.weights.items;
  more : (key : List ℕ) (requests : List Request) → number_of l.fn.self.numbers key ≡ Some l.number → IsFedKeys l.fn.self requests
      → IsFedKeys l.self (repeated l.counter (asks (keyed key) l.weight l.when) requests);
  numbers : l.self.numbers ≡ l.fn.self.numbers;
  same : AreSameLimits l.fn.self l.self;
}
