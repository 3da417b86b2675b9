use Rattle.std.proofs.Common.{◌≡◌, ◌∙◌, ℕ, [], List, None, rules, refl, sym, arith}
use Rattle.curve_keys.specs.Keys.{number_of, none}
use Rattle.curve_keys.proofs.KeyedLaws.{none-some}
use Rattle.curve_keys.proofs.keyed.KeyedCurve.new.Goals as goal

pub returns-clause-fed : goal.returns-clause-fed
returns-clause-fed c =
    let empty : (key : List ℕ) → number_of c.with_hasher-numbers.result key ≡ None = λ key. search rules in
    record {
      whole = refl;
      numbers = [];
      keys = record {
        renamed = none;
        apart = λ a b n p q. absurd (none-some n (number_of c.with_hasher-numbers.result a) (empty a) p);
        below = λ a n p. absurd (none-some n (number_of c.with_hasher-numbers.result a) (empty a) p);
        first = λ weight f a n p. absurd (none-some n (number_of c.with_hasher-numbers.result a) (empty a) p);
        others = λ key h. refl;
      };
      fed = c.in_ok-curve.ensures.fed;
      repeats_are =
          let r = c.new-repeats.ensures in
          record {
            entries = r.entries ∙ sym c.in_ok-curve.ensures.fed.fed.entries;
            again_are = r.again_are;
            keys_are = r.keys_are;
            bytes_are = λ weight a. r.bytes_are weight (λ n l. absurd (omega (arith, l)));
          };
    }
