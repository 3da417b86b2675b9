use Rattle.std.proofs.Common.{Ok, Err, arith}
use Rattle.std.specs.Prelude.{option_map}
use Rattle.gateway_rules.specs.Stored.{found_of}
use Rattle.rules_ffi.specs.Sends.{sent_in}
use Rattle.gateway_rules.proofs.Within.{wants, gives}
use Rattle.gateway_rules.proofs.Told.{outs, sent_is_told}
use Rattle.gateway_rules.proofs.Rules.forward_within.Goals as goal

pub returns-then-out-eq-NO_ROOM : goal.returns-then-out-eq-NO_ROOM
returns-then-out-eq-NO_ROOM c =
    let n = c.args.self.now.numbers in
    let words = c.args.self.now.words.items in
    let q = c.args.request.now in
    let found = found_of (option_map (λ s. s.now) c.args.stored) in
    let w = rw (c.as_slice.ensures.value, c.as_slice-2.ensures.value, c.shape_of.ensures, c.block_of.ensures, c.as_mut_slice.ensures.value) at c.forward.ensures in
    wants (outs (λ o. o.head.to)) (sent_in n words q.shape q.text.items c.args.what found.0 found.1 c.args.peer.now) c.args.size c.in_ok-room.room.items c.forward.new.room c.forward.new.out (sent_is_told n words q.shape q.text.items c.args.what found.0 found.1 c.args.peer.now) (omega arith) w c.if-out-eq-NO_ROOM.true

pub returns-in-Err : goal.returns-in-Err
returns-in-Err c =
    let n = c.args.self.now.numbers in
    let words = c.args.self.now.words.items in
    let q = c.args.request.now in
    let found = found_of (option_map (λ s. s.now) c.args.stored) in
    let w = rw (c.as_slice.ensures.value, c.as_slice-2.ensures.value, c.shape_of.ensures, c.block_of.ensures, c.as_mut_slice.ensures.value) at c.forward.ensures in
    gives (outs (λ o. o.head.to)) (sent_in n words q.shape q.text.items c.args.what found.0 found.1 c.args.peer.now) c.in_ok-room.room.items c.forward.new.room c.forward.new.out c.in_ok-room.room.len (Err c.in-Err.bad) (sent_is_told n words q.shape q.text.items c.args.what found.0 found.1 c.args.peer.now) w (omega arith) c.if-out-eq-NO_ROOM.false
    (rw c.in-Err.is at c.text_in.ensures)

pub returns-in-Ok : goal.returns-in-Ok
returns-in-Ok c =
    let n = c.args.self.now.numbers in
    let words = c.args.self.now.words.items in
    let q = c.args.request.now in
    let found = found_of (option_map (λ s. s.now) c.args.stored) in
    let w = rw (c.as_slice.ensures.value, c.as_slice-2.ensures.value, c.shape_of.ensures, c.block_of.ensures, c.as_mut_slice.ensures.value) at c.forward.ensures in
    gives (outs (λ o. o.head.to)) (sent_in n words q.shape q.text.items c.args.what found.0 found.1 c.args.peer.now) c.in_ok-room.room.items c.forward.new.room c.forward.new.out c.in_ok-room.room.len (Ok c.in-Ok.text.items) (sent_is_told n words q.shape q.text.items c.args.what found.0 found.1 c.args.peer.now) w (omega arith) c.if-out-eq-NO_ROOM.false
    (rw c.in-Ok.is at c.text_in.ensures)
