use Rattle.std.proofs.Common.{◌∙◌, ℕ, ◌∷◌, List, length, ap, refl, arith, Vec, Global}
use Rattle.std.specs.HashMap.{HashMap}
use Rattle.seeded_hashing.specs.declared.seeded_state.SeededState.{SeededState}
use Rattle.curve_sizes.specs.Requests.{asks}
use Rattle.curve_sizes.specs.Numbers.{numbered}
use Rattle.curve_keys.specs.Keys.{number_of}
use Rattle.curve_keys.proofs.FirstWeights.{fed-again}
use Rattle.curve_keys.proofs.keyed.KeyedCurve.ask_number.Goals as goal

pub loop-init : goal.loop-init
loop-init c = record {
  fed = let f = c.requires.fed.1 in (f.numbers, f.fed, f.repeats_are);
  within = c.requires.within;
  more = λ key requests has f. f;
  numbers = refl;
  same = (refl, refl, refl, refl);
}

pub ask_entry-requires-clause-within : goal.ask_entry-requires-clause-within
ask_entry-requires-clause-within c = let w = c.loop.invariant.within in omega (arith, w)

pub ask_entry-requires-clause-fed : goal.ask_entry-requires-clause-fed
ask_entry-requires-clause-fed c = c.loop.invariant.fed

pub loop-preserved : goal.loop-preserved
loop-preserved c =
    let i = c.loop.invariant in
    let e = c.in_ok-ask_entry.ensures in
    let kept = e.known i.within in
    let long = ap (λ (l : List ℕ). length l) kept in
    let w = i.within in
    record {
      fed = (asks (numbered c.args.number) c.args.weight c.args.when ∷ i.fed.0, e.fed i.fed.0 i.fed.1, e.repeats i.fed.0 i.fed.1 i.fed.2);
      within = omega (arith, w, long);
      more = λ key requests has f.
          fed-again c.loop.self (record { curve = c.ask_entry.new.curve; numbers = c.loop.self.numbers; repeats = c.ask_entry.new.repeats; is_broken = c.loop.self.is_broken }) requests key c.loop.counter c.args.weight c.args.number c.args.when refl refl kept
          (ap (λ (t : HashMap (Vec ℕ Global) ℕ SeededState). number_of t key) i.numbers ∙ has) e.fed e.repeats (i.more key requests has f);
      numbers = i.numbers;
      same = (e.mark ∙ i.same.0, e.limits ∙ i.same.1, e.every ∙ i.same.2, e.timed ∙ i.same.3);
    }
