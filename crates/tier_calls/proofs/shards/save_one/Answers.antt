use Rattle.std.proofs.Common.{◌≡◌, length, ap, arith, rules, Ok, Err}
use Rattle.tier_model.specs.State.{Settings}
use Rattle.tier_calls.proofs.RestartLaws.{saves-of, saved-counted}
use Rattle.tier_calls.proofs.shards.save_one.Goals as goal

pub returns-in-Ok : goal.returns-in-Ok
returns-in-Ok g c =
    let count : c.len.result ≡ length c.in-Ok.report.failed.items = first_of (omega (arith, c.len.ensures, c.in-Ok.report.failed.ok), search rules) in (
      c.in-Ok.report,
      saved-counted c.in-Ok.report c.len.result count,
      saves-of g.row.N c.args.tier.now c.args.words.now c.args.folder.now c.save.new.folder (Ok c.in-Ok.report)
          (ap (λ (s : Settings). s.shards) c.options-options.ensures) c.requires c.in-Ok.ensures.saved,
    )

pub returns-in-Err : goal.returns-in-Err
returns-in-Err g c =
    saves-of g.row.N c.args.tier.now c.args.words.now c.args.folder.now c.save.new.folder (Err c.in-Err.fault)
    (ap (λ (s : Settings). s.shards) c.options-options.ensures) c.requires c.in-Err.ensures.saved
