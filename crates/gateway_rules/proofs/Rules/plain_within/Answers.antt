use Rattle.std.proofs.Common.{Ok, Err, arith}
use Rattle.std.specs.Prelude.{max}
use Rattle.rules_ffi_arguments.specs.Moments.{moment_in}
use Rattle.rules_ffi.specs.Plains.{plain_in}
use Rattle.gateway_rules.specs.Texts.{text_told}
use Rattle.gateway_rules.proofs.Dating.{gives_dated, dated_error}
use Rattle.gateway_rules.proofs.Told.{outs, plain_is_told}
use Rattle.gateway_rules.proofs.Rules.plain_within.Goals as goal

pub returns-in-Err : goal.returns-in-Err
returns-in-Err c =
    let n = c.args.self.now.numbers in
    let words = c.args.self.now.words.items in
    let w = rw (c.as_slice.ensures.value, c.as_mut_slice.ensures.value) at c.plain.ensures in
    dated_error text_told c.in-Err.bad c.plain.new.out (moment_in c.args.now.seconds c.args.now.nanoseconds) (plain_in n words c.args.request.now.shape c.args.code c.args.reason) (gives_dated (outs (λ o. max o.head.to o.more.to)) (moment_in c.args.now.seconds c.args.now.nanoseconds) (plain_in n words c.args.request.now.shape c.args.code c.args.reason) c.in_ok-room.room.items c.plain.new.room c.plain.new.out c.in_ok-room.room.len (Err c.in-Err.bad) (λ date. plain_is_told n words c.args.request.now.shape c.args.code c.args.reason date) w (omega arith) c.if-out-eq-NO_ROOM.false
    (rw (c.in-Err.is, c.max.ensures) at c.text_in.ensures))

pub returns-in-Ok : goal.returns-in-Ok
returns-in-Ok c =
    let n = c.args.self.now.numbers in
    let words = c.args.self.now.words.items in
    let w = rw (c.as_slice.ensures.value, c.as_mut_slice.ensures.value) at c.plain.ensures in
    gives_dated (outs (λ o. max o.head.to o.more.to)) (moment_in c.args.now.seconds c.args.now.nanoseconds) (plain_in n words c.args.request.now.shape c.args.code c.args.reason) c.in_ok-room.room.items c.plain.new.room c.plain.new.out c.in_ok-room.room.len (Ok c.in-Ok.text.items) (λ date. plain_is_told n words c.args.request.now.shape c.args.code c.args.reason date) w (omega arith) c.if-out-eq-NO_ROOM.false
    (rw (c.in-Ok.is, c.max.ensures) at c.text_in.ensures)
