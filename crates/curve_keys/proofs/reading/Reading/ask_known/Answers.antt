use Rattle.std.proofs.Common.{◌∙◌, ℕ, ◌+◌, Bool, cond, ap₂, subst}
use Rattle.curve_sizes.specs.declared.when.When.{When}
use Rattle.curve_keys.specs.Keys.{IsFedKeys}
use Rattle.curve_keys.specs.Pasts.{asked_known}
use Rattle.curve_keys.specs.declared.said.Said.TheVariants.{Known}
use Rattle.curve_keys.proofs.ReadLaws.{when-same}
use Rattle.curve_keys.proofs.reading.Reading.ask_known.Goals as goal

pub ask_known-requires : goal.ask_known-requires
ask_known-requires c = (c.requires.0.requests, c.requires.1.fed)

pub returns-clause-read : goal.returns-clause-read
returns-clause-read c = λ past h.
    let done = c.in_ok-yes.ensures.fed past.requests h.fed in
    record {
      fed = subst (λ (w : When). IsFedKeys c.ask_known.new.self (asked_known c.args.key.now w c.args.times past.requests))
          (c.when_of-when.ensures ∙ when-same c.args.self.now past (record { key = c.args.key.now; said = Known; when = c.args.when; times = c.args.times }) h)
          done.1;
      told = h.told;
      unweighed = c.in_ok-unweighed.ensures.more ∙ ap₂ (λ (n : ℕ) (b : Bool). n + cond b 0 1) h.unweighed done.0;
    }
