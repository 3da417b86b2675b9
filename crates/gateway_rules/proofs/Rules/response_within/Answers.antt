use Rattle.std.proofs.Common.{Ok, Err, arith}
use Rattle.rules_ffi_arguments.specs.Moments.{moment_in}
use Rattle.rules_ffi_results.specs.Numbers.{mark}
use Rattle.rules_ffi.specs.Responses.{answered_in}
use Rattle.gateway_rules.specs.Values.{response_of}
use Rattle.gateway_rules.proofs.Dating.{gives_dated, dated_error}
use Rattle.gateway_rules.proofs.Told.{responses, answered_is_told}
use Rattle.gateway_rules.proofs.Rules.response_within.Goals as goal

pub returns-in-Err : goal.returns-in-Err
returns-in-Err c =
    let n = c.args.self.now.numbers in
    let words = c.args.self.now.words.items in
    let w = rw (c.mark.ensures.is, c.as_slice.ensures.value, c.as_mut_slice.ensures.value) at c.read_response.ensures in
    dated_error response_of c.in-Err.bad c.read_response.new.out (moment_in c.args.came.seconds c.args.came.nanoseconds) (answered_in n words (mark c.args.head_sent 1) c.args.bytes.now) (gives_dated responses (moment_in c.args.came.seconds c.args.came.nanoseconds) (answered_in n words (mark c.args.head_sent 1) c.args.bytes.now) c.in_ok-room.room.items c.read_response.new.room c.read_response.new.out c.in_ok-room.room.len (Err c.in-Err.bad) (λ date. answered_is_told n words (mark c.args.head_sent 1) c.args.bytes.now date) w (omega arith) c.if-shape-eq-NO_ROOM.false
    (rw (c.in-Err.is) at c.text_in.ensures))

pub returns-in-Ok : goal.returns-in-Ok
returns-in-Ok c =
    let n = c.args.self.now.numbers in
    let words = c.args.self.now.words.items in
    let w = rw (c.mark.ensures.is, c.as_slice.ensures.value, c.as_mut_slice.ensures.value) at c.read_response.ensures in
    gives_dated responses (moment_in c.args.came.seconds c.args.came.nanoseconds) (answered_in n words (mark c.args.head_sent 1) c.args.bytes.now) c.in_ok-room.room.items c.read_response.new.room c.read_response.new.out c.in_ok-room.room.len (Ok c.in-Ok.text.items) (λ date. answered_is_told n words (mark c.args.head_sent 1) c.args.bytes.now date) w (omega arith) c.if-shape-eq-NO_ROOM.false
    (rw (c.in-Ok.is) at c.text_in.ensures)
