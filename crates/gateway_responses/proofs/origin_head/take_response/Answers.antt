use Rattle.std.proofs.Common.{arith, refl, rules}
use Rattle.std.proofs.lemmas.Bool.{le-ltb}
use Rattle.std.specs.Prelude.{Some}
use Rattle.gateway_exchanges.specs.declared.exchange.Exchange.{Exchange}
use Rattle.gateway_responses.proofs.Finals.{final_taken}
use Rattle.gateway_responses.proofs.origin_head.take_response.Goals as goal

pub returns : goal.returns
returns c =
    let headed : Exchange = record c.args.e.now { asks = record c.args.e.now.asks { body = Some c.decoder.result }; steps = c.take_head.new.self } in
    final_taken c.take_final.result c.args.g.now c.args.response.now c.args.times c.args.e.now headed c.take_final.new.e
    (le-ltb _ 200 (omega (arith, c.if-status_code-lt200.false, c.status_code.ensures))) c.take_final.ensures (record { state = search rules; rest = refl })
