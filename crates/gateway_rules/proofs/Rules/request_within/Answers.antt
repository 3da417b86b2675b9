use Rattle.std.proofs.Common.{Ok, Err, arith}
use Rattle.rules_ffi.specs.Requests.{asked_in}
use Rattle.gateway_rules.proofs.Within.{wants, gives}
use Rattle.gateway_rules.proofs.Told.{requests, asked_is_told}
use Rattle.gateway_rules.proofs.Rules.request_within.Goals as goal

pub returns-then-shape-eq-NO_ROOM : goal.returns-then-shape-eq-NO_ROOM
returns-then-shape-eq-NO_ROOM c =
    let n = c.args.self.now.numbers in
    let words = c.args.self.now.words.items in
    let w = rw (c.as_slice.ensures.value, c.as_mut_slice.ensures.value) at c.read_request.ensures in
    wants requests (asked_in n words c.args.bytes.now) c.args.size c.in_ok-room.room.items c.read_request.new.room c.read_request.new.out (asked_is_told n words c.args.bytes.now) (omega arith) w c.if-shape-eq-NO_ROOM.true

pub returns-in-Err : goal.returns-in-Err
returns-in-Err c =
    let n = c.args.self.now.numbers in
    let words = c.args.self.now.words.items in
    let w = rw (c.as_slice.ensures.value, c.as_mut_slice.ensures.value) at c.read_request.ensures in
    gives requests (asked_in n words c.args.bytes.now) c.in_ok-room.room.items c.read_request.new.room c.read_request.new.out c.in_ok-room.room.len (Err c.in-Err.bad) (asked_is_told n words c.args.bytes.now) w (omega arith) c.if-shape-eq-NO_ROOM.false
    (rw c.in-Err.is at c.text_in.ensures)

pub returns-in-Ok : goal.returns-in-Ok
returns-in-Ok c =
    let n = c.args.self.now.numbers in
    let words = c.args.self.now.words.items in
    let w = rw (c.as_slice.ensures.value, c.as_mut_slice.ensures.value) at c.read_request.ensures in
    gives requests (asked_in n words c.args.bytes.now) c.in_ok-room.room.items c.read_request.new.room c.read_request.new.out c.in_ok-room.room.len (Ok c.in-Ok.text.items) (asked_is_told n words c.args.bytes.now) w (omega arith) c.if-shape-eq-NO_ROOM.false
    (rw c.in-Ok.is at c.text_in.ensures)
