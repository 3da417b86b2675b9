use Rattle.std.proofs.Common.{Some}
use Rattle.rules_ffi_arguments.specs.Moments.{moment_in}
use Rattle.rules_ffi_results.specs.Numbers.{mark}
use Rattle.rules_ffi.specs.Responses.{answered_in}
use Rattle.gateway_rules.specs.Responses.{heard}
use Rattle.gateway_rules.specs.Values.{response_of, read_of}
use Rattle.gateway_rules.proofs.Dating.{map_dated, fail_dated}
use Rattle.gateway_rules.proofs.Rules.parse_response.Goals as goal

pub returns-in-Err : goal.returns-in-Err
returns-in-Err c =
    let r = c.args.self.now in
    fail_dated response_of heard read_of (moment_in c.args.came.seconds c.args.came.nanoseconds)
    (answered_in r.numbers r.words.items (mark c.args.head_sent 1) c.args.bytes.now) c.in-Err.bad c.in-Err.ensures

pub returns-in-Ok : goal.returns-in-Ok
returns-in-Ok c =
    let r = c.args.self.now in
    rw c.heard.ensures (map_dated heard (moment_in c.args.came.seconds c.args.came.nanoseconds)
    (answered_in r.numbers r.words.items (mark c.args.head_sent 1) c.args.bytes.now) (Some (response_of c.in-Ok.head)) c.in-Ok.ensures)
