use Rattle.std.proofs.Common.{ap}
use Rattle.std.proofs.lemmas.Result.{on_ok_weaker}
use Rattle.trace_replay.specs.Starts.{start_over}
use Rattle.trace_replay.specs.Words.{pcg_words}
use Rattle.trace_replay.proofs.OutputLemmas.{on_err}
use Rattle.trace_replay.proofs.Progress.{cut_at_start, done_is_replay}
use Rattle.trace_replay.proofs.replay.run_over.Goals as goal

pub returns-in_err-tier-clause-begun : goal.returns-in_err-tier-clause-begun
returns-in_err-tier-clause-begun g c =
    on_err c.from_residual.result (cut_at_start (start_over g.row.N c.args.options.now) (g.R.Read.remaining c.args.reader.now) (g.W.Write.contents c.args.writer.now) (c.requires, tt))

pub returns-clause-answered : goal.returns-clause-answered
returns-clause-answered g c =
    on_ok_weaker c.answer_trace.result
    (done_is_replay (start_over g.row.N c.args.options.now) (g.R.Read.remaining c.args.reader.now) (g.W.Write.contents c.args.writer.now) (g.W.Write.contents c.answer_trace.new.writer) (record { state = c.answer_trace.new.tier; words = pcg_words c.answer_trace.new.rng }))
    (c.answer_trace.ensures.answered (start_over g.row.N c.args.options.now) c.in_ok-tier.ensures.past (ap pcg_words c.seed_from_u64-rng.ensures))

pub returns-clause-begun : goal.returns-clause-begun
returns-clause-begun g c = c.answer_trace.ensures.begun (start_over g.row.N c.args.options.now) c.in_ok-tier.ensures.past (ap pcg_words c.seed_from_u64-rng.ensures)

pub returns-clause-too_many : goal.returns-clause-too_many
returns-clause-too_many g c = c.answer_trace.ensures.too_many (start_over g.row.N c.args.options.now) c.in_ok-tier.ensures.past (ap pcg_words c.seed_from_u64-rng.ensures)
