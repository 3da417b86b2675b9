use Rattle.curve_keys.proofs.ReadLaws.{told-more}
use Rattle.curve_keys.proofs.reading.Reading.tell.Goals as goal

pub returns-clause-read : goal.returns-clause-read
returns-clause-read c = λ past h.
    record {
      fed = h.fed;
      told = told-more c.args.self.now.told c.tell.new.self c.args.key.now c.args.when.lifetime past.told h.told c.in_ok-tell.ensures.told;
      unweighed = h.unweighed;
    }
