use Rattle.std.proofs.Common.{◌∙◌, ap}
use Rattle.clap.specs.Simple.{app_of, with_rule}
use Rattle.trace_replay.proofs.RowLemmas.{with_next_row}
use Rattle.trace_replay.proofs.command.with_options.Goals as goal

pub loop-row-preserved : goal.loop-row-preserved
loop-row-preserved c =
    with_next_row c.args.rows.now c.loop-row.row-index _ (app_of c.loop-row.command) (app_of c.in_ok-command.command) c.loop-row-test.true
    (c.in_ok-command.ensures.shape c.option.ensures.local ∙ ap (with_rule (app_of c.loop-row.command)) c.option.ensures.rule) ∙ c.loop-row.invariant
