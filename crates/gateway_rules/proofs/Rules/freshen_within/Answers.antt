use Rattle.std.proofs.Common.{Ok, Err, arith}
use Rattle.std.specs.Prelude.{option_map}
use Rattle.rules_ffi.specs.Judgements.{renewed_in}
use Rattle.gateway_rules.specs.Stored.{found_of}
use Rattle.gateway_rules.specs.Responses.{pair}
use Rattle.gateway_rules.proofs.Within.{wants, gives}
use Rattle.gateway_rules.proofs.Told.{decisions, renewed_is_told}
use Rattle.gateway_rules.proofs.Rules.freshen_within.Goals as goal

pub returns-then-out-eq-NO_ROOM : goal.returns-then-out-eq-NO_ROOM
returns-then-out-eq-NO_ROOM c =
    let n = c.args.self.now.numbers in
    let words = c.args.self.now.words.items in
    let q = c.args.request.now in
    let r = c.args.response.now in
    let asked = pair c.args.times.asked in
    let came = pair c.args.times.came in
    let found = found_of (option_map (λ s. s.now) c.args.stored) in
    let w = rw (c.as_slice.ensures.value, c.as_slice-2.ensures.value, c.shape_of.ensures, c.block_of.ensures, c.as_slice-3.ensures.value, c.pair.ensures, c.pair-2.ensures, c.as_mut_slice.ensures.value) at c.freshen.ensures in
    wants decisions (renewed_in n words q.shape q.text.items found.0 found.1 c.args.length r.shape r.text.items asked came) c.args.size c.in_ok-room.room.items c.freshen.new.room c.freshen.new.out (renewed_is_told n words q.shape q.text.items found.0 found.1 c.args.length r.shape r.text.items asked came) (omega arith) w c.if-out-eq-NO_ROOM.true

pub returns-in-Err : goal.returns-in-Err
returns-in-Err c =
    let n = c.args.self.now.numbers in
    let words = c.args.self.now.words.items in
    let q = c.args.request.now in
    let r = c.args.response.now in
    let asked = pair c.args.times.asked in
    let came = pair c.args.times.came in
    let found = found_of (option_map (λ s. s.now) c.args.stored) in
    let w = rw (c.as_slice.ensures.value, c.as_slice-2.ensures.value, c.shape_of.ensures, c.block_of.ensures, c.as_slice-3.ensures.value, c.pair.ensures, c.pair-2.ensures, c.as_mut_slice.ensures.value) at c.freshen.ensures in
    gives decisions (renewed_in n words q.shape q.text.items found.0 found.1 c.args.length r.shape r.text.items asked came) c.in_ok-room.room.items c.freshen.new.room c.freshen.new.out c.in_ok-room.room.len (Err c.in-Err.bad) (renewed_is_told n words q.shape q.text.items found.0 found.1 c.args.length r.shape r.text.items asked came) w (omega arith) c.if-out-eq-NO_ROOM.false
    (rw c.in-Err.is at c.text_in.ensures)

pub returns-in-Ok : goal.returns-in-Ok
returns-in-Ok c =
    let n = c.args.self.now.numbers in
    let words = c.args.self.now.words.items in
    let q = c.args.request.now in
    let r = c.args.response.now in
    let asked = pair c.args.times.asked in
    let came = pair c.args.times.came in
    let found = found_of (option_map (λ s. s.now) c.args.stored) in
    let w = rw (c.as_slice.ensures.value, c.as_slice-2.ensures.value, c.shape_of.ensures, c.block_of.ensures, c.as_slice-3.ensures.value, c.pair.ensures, c.pair-2.ensures, c.as_mut_slice.ensures.value) at c.freshen.ensures in
    gives decisions (renewed_in n words q.shape q.text.items found.0 found.1 c.args.length r.shape r.text.items asked came) c.in_ok-room.room.items c.freshen.new.room c.freshen.new.out c.in_ok-room.room.len (Ok c.in-Ok.text.items) (renewed_is_told n words q.shape q.text.items found.0 found.1 c.args.length r.shape r.text.items asked came) w (omega arith) c.if-out-eq-NO_ROOM.false
    (rw c.in-Ok.is at c.text_in.ensures)
