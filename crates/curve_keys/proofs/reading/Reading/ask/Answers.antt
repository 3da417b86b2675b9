use Rattle.std.proofs.Common.{◌∙◌, subst}
use Rattle.curve_sizes.specs.declared.when.When.{When}
use Rattle.curve_sizes.specs.Requests.{asks}
use Rattle.curve_keys.specs.Keys.{keyed, IsFedKeys}
use Rattle.curve_keys.specs.Pasts.{repeated}
use Rattle.curve_keys.specs.declared.said.Said.TheVariants.{Weight}
use Rattle.curve_keys.proofs.ReadLaws.{when-same}
use Rattle.curve_keys.proofs.reading.Reading.ask.Goals as goal

pub ask_times-requires : goal.ask_times-requires
ask_times-requires c = (c.requires.0.requests, c.requires.1.fed)

pub returns-clause-read : goal.returns-clause-read
returns-clause-read c = λ past h.
    record {
      fed = subst (λ (w : When). IsFedKeys c.ask_times.new.self (repeated c.args.times (asks (keyed c.args.key.now) c.args.weight w) past.requests))
          (c.when_of-when.ensures ∙ when-same c.args.self.now past (record { key = c.args.key.now; said = Weight c.args.weight; when = c.args.when; times = c.args.times }) h)
          (c.in_ok-ask_times.ensures.fed past.requests h.fed);
      told = h.told;
      unweighed = h.unweighed;
    }
