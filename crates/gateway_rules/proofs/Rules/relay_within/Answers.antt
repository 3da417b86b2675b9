use Rattle.std.proofs.Common.{Ok, Err, arith}
use Rattle.rules_serving.specs.Answers.{told_in}
use Rattle.gateway_rules.specs.Responses.{pair}
use Rattle.gateway_rules.proofs.Relaying.{relayed_is_one, wants_one, gives_one}
use Rattle.gateway_rules.proofs.Rules.relay_within.Goals as goal

pub returns-then-out-eq-NO_ROOM : goal.returns-then-out-eq-NO_ROOM
returns-then-out-eq-NO_ROOM c =
    let r = c.args.self.now in
    let q = c.args.request.now in
    let p = c.args.response.now in
    let asked = pair c.args.times.asked in
    let came = pair c.args.times.came in
    let w = rw (c.as_slice.ensures.value, c.as_slice-2.ensures.value, c.as_slice-3.ensures.value, c.pair.ensures, c.pair-2.ensures, c.as_mut_slice.ensures.value) at c.told.ensures in
    wants_one (told_in r.numbers r.words.items q.shape q.text.items p.shape p.text.items asked came c.args.how.now) c.args.size c.in_ok-room.room.items c.told.new.room c.args.table.now c.told.new.parts c.told.new.out
    (relayed_is_one r.numbers r.words.items q.shape q.text.items p.shape p.text.items asked came c.args.how.now) (omega arith) c.requires w c.if-out-eq-NO_ROOM.true

pub returns-in-Err : goal.returns-in-Err
returns-in-Err c =
    let r = c.args.self.now in
    let q = c.args.request.now in
    let p = c.args.response.now in
    let asked = pair c.args.times.asked in
    let came = pair c.args.times.came in
    let w = rw (c.as_slice.ensures.value, c.as_slice-2.ensures.value, c.as_slice-3.ensures.value, c.pair.ensures, c.pair-2.ensures, c.as_mut_slice.ensures.value) at c.told.ensures in
    gives_one (told_in r.numbers r.words.items q.shape q.text.items p.shape p.text.items asked came c.args.how.now) c.in_ok-room.room.items c.told.new.room c.args.table.now c.told.new.parts c.told.new.out
    c.in_ok-room.room.len (Err c.in-Err.bad) (relayed_is_one r.numbers r.words.items q.shape q.text.items p.shape p.text.items asked came c.args.how.now) w (omega arith) c.if-out-eq-NO_ROOM.false
    (rw c.in-Err.is at c.text_in.ensures)

pub returns-in_ok-parts_in-in-Ok : goal.returns-in_ok-parts_in-in-Ok
returns-in_ok-parts_in-in-Ok c =
    let r = c.args.self.now in
    let q = c.args.request.now in
    let p = c.args.response.now in
    let asked = pair c.args.times.asked in
    let came = pair c.args.times.came in
    let w = rw (c.as_slice.ensures.value, c.as_slice-2.ensures.value, c.as_slice-3.ensures.value, c.pair.ensures, c.pair-2.ensures, c.as_mut_slice.ensures.value) at c.told.ensures in
    let told = gives_one (told_in r.numbers r.words.items q.shape q.text.items p.shape p.text.items asked came c.args.how.now) c.in_ok-room.room.items c.told.new.room c.args.table.now c.told.new.parts c.told.new.out
    c.in_ok-room.room.len (Ok c.in-Ok.text.items) (relayed_is_one r.numbers r.words.items q.shape q.text.items p.shape p.text.items asked came c.args.how.now) w (omega arith) c.if-out-eq-NO_ROOM.false
    (rw c.in-Ok.is at c.text_in.ensures) in
    (_, told, rw c.in_ok-parts_in-in-Ok.ensures at c.message_of.ensures)
