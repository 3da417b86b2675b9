use Rattle.std.proofs.Common.{refl, sym, ◌∙◌, arith}
use Rattle.test_requests.proofs.OneBodyLaws.{landed}
use Rattle.test_requests.proofs.one_body.OneBody.land.Goals as goal

pub returns-clause-landed : goal.returns-clause-landed
returns-clause-landed c = landed c.args.number c.len-size.result c.args.self.now c.in-Some.flight c.take.new.self (sym c.take.ensures.value ∙ c.in-Some.is) c.take.ensures.after c.requires (c.has_room.ensures c.if-not-has_room.false) (omega (arith, c.len-size.ensures, c.in-Some.flight.row.bytes.ok))
