use Rattle.std.proofs.Common.{◌-◌, ◌^◌, ◌<◌, subst, arith}
use Rattle.std.proofs.lemmas.Result.{on_ok_weaker}
use Rattle.std.specs.Io.KnownBytes.{prepend_known}
use Rattle.trace_replay.specs.Words.{pcg_words}
use Rattle.trace_replay.specs.Outputs.{HasBegun}
use Rattle.trace_replay.proofs.OutputLemmas.{begun_whole, on_err, on_err_weaker, not_err}
use Rattle.trace_replay.proofs.Progress.{Halfway, halfway_start, cut_at_start, halfway_read, halfway_more, halfway_done, halfway_cut, halfway_cut_last, halfway_counted}
use Rattle.trace_replay.proofs.replay.answer_trace.Goals as goal

pub returns-in_err-input-clause-begun : goal.returns-in_err-input-clause-begun
returns-in_err-input-clause-begun g c = λ start past words.
    on_err c.from_residual.result (cut_at_start start (g.R.Read.remaining c.args.reader.now) (g.W.Write.contents c.args.writer.now) past.lawful)

pub loop-init : goal.loop-init
loop-init g c = λ start past words.
    halfway_start start (g.R.Read.remaining c.args.reader.now) (g.W.Write.contents c.args.writer.now) (record { state = c.args.tier.now; words = pcg_words c.args.rng.now })
    c.in_ok-input.input c.new-waiting.result.items past words c.in_ok-input.ensures c.new-waiting.ensures.items

pub returns-in_err-len-clause-begun : goal.returns-in_err-len-clause-begun
returns-in_err-len-clause-begun g c = λ start past words.
    on_err c.from_residual-in_err-len.result
    (halfway_cut start c.loop.counter (g.R.Read.remaining c.args.reader.now) (prepend_known c.loop.input (g.R.Read.remaining c.loop.reader)) (g.W.Write.contents c.args.writer.now) (g.W.Write.contents c.loop.writer) (g.W.Write.contents c.next_line.new.writer)
    c.loop.waiting.items (record { state = c.loop.tier; words = pcg_words c.loop.rng }) (c.loop.invariant start past words) c.in_err-len.ensures.begun)

pub returns-then-len-eq0-clause-answered : goal.returns-then-len-eq0-clause-answered
returns-then-len-eq0-clause-answered g c = λ start past words.
    let half : Halfway start c.loop.counter (g.R.Read.remaining c.args.reader.now) (prepend_known c.next_line.new.input (g.R.Read.remaining c.next_line.new.reader)) (g.W.Write.contents c.args.writer.now) (g.W.Write.contents c.next_line.new.writer) c.next_line.new.waiting.items (record { state = c.loop.tier; words = pcg_words c.loop.rng }) =
    halfway_read start c.loop.counter (g.R.Read.remaining c.args.reader.now) (prepend_known c.loop.input (g.R.Read.remaining c.loop.reader)) (g.W.Write.contents c.args.writer.now) (g.W.Write.contents c.loop.writer) (g.W.Write.contents c.next_line.new.writer)
    (g.R.Read.remaining c.next_line.new.reader) c.loop.waiting.items c.next_line.new.waiting.items c.next_line.new.input (record { state = c.loop.tier; words = pcg_words c.loop.rng }) (c.loop.invariant start past words) c.in_ok-len.ensures.kept c.in_ok-len.ensures.passed in
    on_ok_weaker c.finish.result
    (halfway_done start c.loop.counter c.in_ok-len.len (g.R.Read.remaining c.args.reader.now) (g.R.Read.remaining c.next_line.new.reader) (g.W.Write.contents c.args.writer.now) (g.W.Write.contents c.next_line.new.writer) (g.W.Write.contents c.finish.new.writer)
    c.next_line.new.input c.next_line.new.waiting.items (record { state = c.loop.tier; words = pcg_words c.loop.rng }) half c.in_ok-len.ensures.line c.if-len-eq0.true)
    c.finish.ensures.written

pub returns-then-len-eq0-clause-begun : goal.returns-then-len-eq0-clause-begun
returns-then-len-eq0-clause-begun g c = λ start past words.
    let half : Halfway start c.loop.counter (g.R.Read.remaining c.args.reader.now) (prepend_known c.next_line.new.input (g.R.Read.remaining c.next_line.new.reader)) (g.W.Write.contents c.args.writer.now) (g.W.Write.contents c.next_line.new.writer) c.next_line.new.waiting.items (record { state = c.loop.tier; words = pcg_words c.loop.rng }) =
    halfway_read start c.loop.counter (g.R.Read.remaining c.args.reader.now) (prepend_known c.loop.input (g.R.Read.remaining c.loop.reader)) (g.W.Write.contents c.args.writer.now) (g.W.Write.contents c.loop.writer) (g.W.Write.contents c.next_line.new.writer)
    (g.R.Read.remaining c.next_line.new.reader) c.loop.waiting.items c.next_line.new.waiting.items c.next_line.new.input (record { state = c.loop.tier; words = pcg_words c.loop.rng }) (c.loop.invariant start past words) c.in_ok-len.ensures.kept c.in_ok-len.ensures.passed in
    on_err_weaker c.finish.result
    (halfway_cut_last start c.loop.counter c.in_ok-len.len (g.R.Read.remaining c.args.reader.now) (g.R.Read.remaining c.next_line.new.reader) (g.W.Write.contents c.args.writer.now) (g.W.Write.contents c.next_line.new.writer) (g.W.Write.contents c.finish.new.writer)
    c.next_line.new.input c.next_line.new.waiting.items (record { state = c.loop.tier; words = pcg_words c.loop.rng }) half c.in_ok-len.ensures.line c.if-len-eq0.true)
    c.finish.ensures.begun

pub returns-in_err-hand_on-clause-begun : goal.returns-in_err-hand_on-clause-begun
returns-in_err-hand_on-clause-begun g c = λ start past words.
    let half : Halfway start c.loop.counter (g.R.Read.remaining c.args.reader.now) (prepend_known c.next_line.new.input (g.R.Read.remaining c.next_line.new.reader)) (g.W.Write.contents c.args.writer.now) (g.W.Write.contents c.next_line.new.writer) c.next_line.new.waiting.items (record { state = c.loop.tier; words = pcg_words c.loop.rng }) =
    halfway_read start c.loop.counter (g.R.Read.remaining c.args.reader.now) (prepend_known c.loop.input (g.R.Read.remaining c.loop.reader)) (g.W.Write.contents c.args.writer.now) (g.W.Write.contents c.loop.writer) (g.W.Write.contents c.next_line.new.writer)
    (g.R.Read.remaining c.next_line.new.reader) c.loop.waiting.items c.next_line.new.waiting.items c.next_line.new.input (record { state = c.loop.tier; words = pcg_words c.loop.rng }) (c.loop.invariant start past words) c.in_ok-len.ensures.kept c.in_ok-len.ensures.passed in
    on_err c.from_residual-in_err-hand_on.result
    (halfway_cut start c.loop.counter (g.R.Read.remaining c.args.reader.now) (prepend_known c.next_line.new.input (g.R.Read.remaining c.next_line.new.reader)) (g.W.Write.contents c.args.writer.now) (g.W.Write.contents c.next_line.new.writer) (g.W.Write.contents c.hand_on.new.writer)
    c.next_line.new.waiting.items (record { state = c.loop.tier; words = pcg_words c.loop.rng }) half
    (subst (HasBegun (g.W.Write.contents c.next_line.new.writer) (g.W.Write.contents c.hand_on.new.writer)) c.in-Err.ensures.err c.in_err-hand_on.ensures.begun))

pub returns-in-Err-clause-begun : goal.returns-in-Err-clause-begun
returns-in-Err-clause-begun g c = λ start past words.
    let half : Halfway start c.loop.counter (g.R.Read.remaining c.args.reader.now) (prepend_known c.next_line.new.input (g.R.Read.remaining c.next_line.new.reader)) (g.W.Write.contents c.args.writer.now) (g.W.Write.contents c.next_line.new.writer) c.next_line.new.waiting.items (record { state = c.loop.tier; words = pcg_words c.loop.rng }) =
    halfway_read start c.loop.counter (g.R.Read.remaining c.args.reader.now) (prepend_known c.loop.input (g.R.Read.remaining c.loop.reader)) (g.W.Write.contents c.args.writer.now) (g.W.Write.contents c.loop.writer) (g.W.Write.contents c.next_line.new.writer)
    (g.R.Read.remaining c.next_line.new.reader) c.loop.waiting.items c.next_line.new.waiting.items c.next_line.new.input (record { state = c.loop.tier; words = pcg_words c.loop.rng }) (c.loop.invariant start past words) c.in_ok-len.ensures.kept c.in_ok-len.ensures.passed in
    halfway_cut start c.loop.counter (g.R.Read.remaining c.args.reader.now) (prepend_known c.next_line.new.input (g.R.Read.remaining c.next_line.new.reader)) (g.W.Write.contents c.args.writer.now) (g.W.Write.contents c.next_line.new.writer) (g.W.Write.contents c.hand_on.new.writer)
    c.next_line.new.waiting.items (record { state = c.loop.tier; words = pcg_words c.loop.rng }) half
    (subst (HasBegun (g.W.Write.contents c.next_line.new.writer) (g.W.Write.contents c.hand_on.new.writer)) c.in-Err.ensures.err
    (begun_whole (g.W.Write.contents c.next_line.new.writer) (g.W.Write.contents c.hand_on.new.writer) c.add_answer.new.waiting.items c.in_ok-hand_on.ensures.written.0))

pub loop-preserved : goal.loop-preserved
loop-preserved g c = λ start past words.
    let half : Halfway start c.loop.counter (g.R.Read.remaining c.args.reader.now) (prepend_known c.next_line.new.input (g.R.Read.remaining c.next_line.new.reader)) (g.W.Write.contents c.args.writer.now) (g.W.Write.contents c.next_line.new.writer) c.next_line.new.waiting.items (record { state = c.loop.tier; words = pcg_words c.loop.rng }) =
    halfway_read start c.loop.counter (g.R.Read.remaining c.args.reader.now) (prepend_known c.loop.input (g.R.Read.remaining c.loop.reader)) (g.W.Write.contents c.args.writer.now) (g.W.Write.contents c.loop.writer) (g.W.Write.contents c.next_line.new.writer)
    (g.R.Read.remaining c.next_line.new.reader) c.loop.waiting.items c.next_line.new.waiting.items c.next_line.new.input (record { state = c.loop.tier; words = pcg_words c.loop.rng }) (c.loop.invariant start past words) c.in_ok-len.ensures.kept c.in_ok-len.ensures.passed in
    let some : 0 < c.in_ok-len.len = omega (arith, c.if-len-eq0.false) in
    let (text, grows, answers) = not_err c.add_answer.result c.in_default.not-Err c.add_answer.ensures.answered in
    halfway_more start c.loop.counter c.in_ok-len.len (g.R.Read.remaining c.args.reader.now) (g.R.Read.remaining c.next_line.new.reader) (g.W.Write.contents c.args.writer.now) (g.W.Write.contents c.next_line.new.writer)
    (record { state = c.loop.tier; words = pcg_words c.loop.rng }) (record { state = c.add_answer.new.tier; words = pcg_words c.add_answer.new.rng }) c.next_line.new.input c.skip.new.self c.next_line.new.waiting.items c.front.result.now c.without_line_feed-line.result.now text c.add_answer.new.waiting.items
    half c.in_ok-len.ensures.line some c.in_ok-len.ensures.within c.front.ensures c.without_line_feed-line.ensures answers grows c.skip.ensures

pub returns-in_err-hand_on-2-clause-begun : goal.returns-in_err-hand_on-2-clause-begun
returns-in_err-hand_on-2-clause-begun g c = λ start past words.
    on_err c.from_residual-in_err-hand_on-2.result
    (halfway_cut start c.loop.counter (g.R.Read.remaining c.args.reader.now) (prepend_known c.loop.input (g.R.Read.remaining c.loop.reader)) (g.W.Write.contents c.args.writer.now) (g.W.Write.contents c.loop.writer) (g.W.Write.contents c.hand_on-2.new.writer)
    c.loop.waiting.items (record { state = c.loop.tier; words = pcg_words c.loop.rng }) (c.loop.invariant start past words) c.in_err-hand_on-2.ensures.begun)

pub returns-clause-begun : goal.returns-clause-begun
returns-clause-begun g c = λ start past words.
    halfway_cut start c.loop.counter (g.R.Read.remaining c.args.reader.now) (prepend_known c.loop.input (g.R.Read.remaining c.loop.reader)) (g.W.Write.contents c.args.writer.now) (g.W.Write.contents c.loop.writer) (g.W.Write.contents c.hand_on-2.new.writer)
    c.loop.waiting.items (record { state = c.loop.tier; words = pcg_words c.loop.rng }) (c.loop.invariant start past words)
    (begun_whole (g.W.Write.contents c.loop.writer) (g.W.Write.contents c.hand_on-2.new.writer) c.loop.waiting.items c.in_ok-hand_on-2.ensures.written.0)

pub returns-clause-too_many : goal.returns-clause-too_many
returns-clause-too_many g c = λ start past words never.
    halfway_counted start (2 ^ 64 - 1) c.loop.counter (g.R.Read.remaining c.args.reader.now) (prepend_known c.loop.input (g.R.Read.remaining c.loop.reader)) (g.W.Write.contents c.args.writer.now) (g.W.Write.contents c.loop.writer)
    c.loop.waiting.items (record { state = c.loop.tier; words = pcg_words c.loop.rng }) (omega (arith, c.loop-test.false)) (c.loop.invariant start past words)
