use Rattle.std.proofs.Common.{rules, ◌≡◌, []}
use Rattle.gateway_tier.specs.Seeks.{lookup_of}
use Rattle.gateway_tier.proofs.at_tier.look_held.Goals as goal

pub returns-clause-looked : goal.returns-clause-looked
returns-clause-looked c = λ some.
    let seen : c.lookup_of-fresh.result ≡ lookup_of c.args.lock c.in-Some.answer = c.lookup_of-fresh.ensures in
    let same : c.if-lock.e.x ≡ c.args.e.now.x = search rules in
    let empty : c.new.result ≡ [] = c.new.ensures in
    record {
      behind = c.look_at.new.self;
      between = c.if-lock.g;
      middle = c.look_at.new.out;
      later = c.if-lock.out;
      answer = c.in-Some.answer;
      found = c.in-Some.found;
      looks = search rules;
      reads = rw (seen, same, empty) at (c.in_ok-with_body.ensures.read some);
    }
