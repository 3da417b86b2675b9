use Rattle.std.proofs.Common.{rules}
use Rattle.gateway_rules.specs.Options.{options_of}
use Rattle.gateway_responses.proofs.Finals.{head_heard}
use Rattle.gateway_responses.proofs.origin_head.receive_head.Goals as goal

pub returns-in-Head : goal.returns-in-Head
returns-in-Head c =
    head_heard (options_of c.args.g.now.rules) c.args.g.now c.args.e.now c.take_response.new.e c.args.now c.came_at-came.result
    (record { asked = c.moment_at-asked.result; came = c.came_at-came.result }) c.args.bytes.now c.parse_response.result c.in-Head.response
    (search rules) (search rules) (search rules) c.parse_response.ensures c.take_response.result c.take_response.ensures
