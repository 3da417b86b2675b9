use Rattle.std.proofs.Common.{Ok, Err, arith}
use Rattle.std.specs.Prelude.{option_map}
use Rattle.rules_ffi_results.specs.Numbers.{mark}
use Rattle.rules_ffi.specs.Judgements.{judged_in}
use Rattle.gateway_rules.specs.Stored.{found_of}
use Rattle.gateway_rules.specs.Responses.{pair}
use Rattle.gateway_rules.proofs.Within.{wants, gives}
use Rattle.gateway_rules.proofs.Told.{decisions, judged_is_told}
use Rattle.gateway_rules.proofs.Rules.judge_within.Goals as goal

pub returns-then-out-eq-NO_ROOM : goal.returns-then-out-eq-NO_ROOM
returns-then-out-eq-NO_ROOM c =
    let n = c.args.self.now.numbers in
    let words = c.args.self.now.words.items in
    let q = c.args.request.now in
    let r = c.args.response.now in
    let asked = pair c.args.times.asked in
    let came = pair c.args.times.came in
    let found = found_of (option_map (λ s. s.now) c.args.found) in
    let w = rw (c.as_slice.ensures.value, c.as_slice-2.ensures.value, c.mark.ensures.is, c.as_slice-3.ensures.value, c.pair.ensures, c.pair-2.ensures, c.shape_of.ensures, c.block_of.ensures, c.as_mut_slice.ensures.value) at c.judge.ensures in
    wants decisions (judged_in n words q.shape q.text.items (mark c.args.head_sent 1) r.shape r.text.items asked came c.args.index.now found.0 found.1) c.args.size c.in_ok-room.room.items c.judge.new.room c.judge.new.out (judged_is_told n words q.shape q.text.items (mark c.args.head_sent 1) r.shape r.text.items asked came c.args.index.now found.0 found.1) (omega arith) w c.if-out-eq-NO_ROOM.true

pub returns-in-Err : goal.returns-in-Err
returns-in-Err c =
    let n = c.args.self.now.numbers in
    let words = c.args.self.now.words.items in
    let q = c.args.request.now in
    let r = c.args.response.now in
    let asked = pair c.args.times.asked in
    let came = pair c.args.times.came in
    let found = found_of (option_map (λ s. s.now) c.args.found) in
    let w = rw (c.as_slice.ensures.value, c.as_slice-2.ensures.value, c.mark.ensures.is, c.as_slice-3.ensures.value, c.pair.ensures, c.pair-2.ensures, c.shape_of.ensures, c.block_of.ensures, c.as_mut_slice.ensures.value) at c.judge.ensures in
    gives decisions (judged_in n words q.shape q.text.items (mark c.args.head_sent 1) r.shape r.text.items asked came c.args.index.now found.0 found.1) c.in_ok-room.room.items c.judge.new.room c.judge.new.out c.in_ok-room.room.len (Err c.in-Err.bad) (judged_is_told n words q.shape q.text.items (mark c.args.head_sent 1) r.shape r.text.items asked came c.args.index.now found.0 found.1) w (omega arith) c.if-out-eq-NO_ROOM.false
    (rw c.in-Err.is at c.text_in.ensures)

pub returns-in-Ok : goal.returns-in-Ok
returns-in-Ok c =
    let n = c.args.self.now.numbers in
    let words = c.args.self.now.words.items in
    let q = c.args.request.now in
    let r = c.args.response.now in
    let asked = pair c.args.times.asked in
    let came = pair c.args.times.came in
    let found = found_of (option_map (λ s. s.now) c.args.found) in
    let w = rw (c.as_slice.ensures.value, c.as_slice-2.ensures.value, c.mark.ensures.is, c.as_slice-3.ensures.value, c.pair.ensures, c.pair-2.ensures, c.shape_of.ensures, c.block_of.ensures, c.as_mut_slice.ensures.value) at c.judge.ensures in
    gives decisions (judged_in n words q.shape q.text.items (mark c.args.head_sent 1) r.shape r.text.items asked came c.args.index.now found.0 found.1) c.in_ok-room.room.items c.judge.new.room c.judge.new.out c.in_ok-room.room.len (Ok c.in-Ok.text.items) (judged_is_told n words q.shape q.text.items (mark c.args.head_sent 1) r.shape r.text.items asked came c.args.index.now found.0 found.1) w (omega arith) c.if-out-eq-NO_ROOM.false
    (rw c.in-Ok.is at c.text_in.ensures)
