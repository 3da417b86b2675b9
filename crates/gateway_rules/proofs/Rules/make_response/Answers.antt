use Rattle.std.proofs.Common.{Some}
use Rattle.rules_ffi_arguments.specs.Moments.{moment_in}
use Rattle.rules_ffi.specs.Plains.{plain_in}
use Rattle.gateway_rules.specs.Messages.{message_of, own_message}
use Rattle.gateway_rules.specs.Requests.{known_reason}
use Rattle.gateway_rules.specs.Texts.{text_told}
use Rattle.gateway_rules.proofs.Dating.{map_dated, fail_dated}
use Rattle.gateway_rules.proofs.Rules.make_response.Goals as goal

pub returns-in-Err : goal.returns-in-Err
returns-in-Err c =
    let r = c.args.self.now in
    fail_dated text_told (own_message c.args.closes) message_of (moment_in c.args.now.seconds c.args.now.nanoseconds)
    (plain_in r.numbers r.words.items c.args.request.now.shape c.args.code (known_reason c.args.reason)) c.in-Err.bad (rw c.known_reason.ensures at c.in-Err.ensures)

pub returns-in_ok-own_message-in-Ok : goal.returns-in_ok-own_message-in-Ok
returns-in_ok-own_message-in-Ok c =
    let r = c.args.self.now in
    rw c.in_ok-own_message-in-Ok.ensures (map_dated (own_message c.args.closes) (moment_in c.args.now.seconds c.args.now.nanoseconds)
    (plain_in r.numbers r.words.items c.args.request.now.shape c.args.code (known_reason c.args.reason)) (Some (text_told c.in-Ok.told)) (rw c.known_reason.ensures at c.in-Ok.ensures))
