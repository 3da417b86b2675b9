use Rattle.std.proofs.Common.{Ok, Err, arith}
use Rattle.rules_ffi_results.specs.Bodies.{decoded}
use Rattle.gateway_rules.proofs.Within.{wants, gives}
use Rattle.gateway_rules.proofs.Pieces.{steps, decoded_is_told}
use Rattle.gateway_rules.proofs.Rules.piece_within.Goals as goal

pub returns-then-told-eq-NO_ROOM : goal.returns-then-told-eq-NO_ROOM
returns-then-told-eq-NO_ROOM c =
    let b = c.args.body.now in
    let bytes = c.args.bytes.now in
    let w = rw c.as_mut_slice.ensures.value at c.decode.ensures in
    wants (steps b) (decoded b bytes) c.args.size c.in_ok-room.room.items c.decode.new.room (c.decode.new.out, c.decode.new.body) (decoded_is_told b bytes)
    (omega (arith, c.in_ok-room.ensures.len)) w
    c.if-told-eq-NO_ROOM.true

pub returns-in-Err : goal.returns-in-Err
returns-in-Err c =
    let b = c.args.body.now in
    let bytes = c.args.bytes.now in
    let w = rw c.as_mut_slice.ensures.value at c.decode.ensures in
    gives (steps b) (decoded b bytes) c.in_ok-room.room.items c.decode.new.room (c.decode.new.out, c.decode.new.body) c.in_ok-room.room.len (Err c.in-Err.bad)
    (decoded_is_told b bytes) w (omega arith) c.if-told-eq-NO_ROOM.false (rw c.in-Err.is at c.text_in.ensures)

pub returns-in-Ok : goal.returns-in-Ok
returns-in-Ok c =
    let b = c.args.body.now in
    let bytes = c.args.bytes.now in
    let w = rw c.as_mut_slice.ensures.value at c.decode.ensures in
    gives (steps b) (decoded b bytes) c.in_ok-room.room.items c.decode.new.room (c.decode.new.out, c.decode.new.body) c.in_ok-room.room.len (Ok c.in-Ok.text.items)
    (decoded_is_told b bytes) w (omega arith) c.if-told-eq-NO_ROOM.false (rw c.in-Ok.is at c.text_in.ensures)
