use Rattle.std.proofs.Common.{◌≡◌, length, ap, arith, rules, Ok, Err}
use Rattle.tier_model.specs.State.{Settings}
use Rattle.tier_model.specs.Started.{IsNew}
use Rattle.tier_calls.proofs.RestartLaws.{loads-of, loaded-counted, not-loaded}
use Rattle.tier_calls.proofs.shards.start_one.Goals as goal

pub returns-in-Ok : goal.returns-in-Ok
returns-in-Ok g c =
    let count : c.len.result ≡ length c.in-Ok.report.errored.items = first_of (omega (arith, c.len.ensures, c.in-Ok.report.errored.ok), search rules) in
    let new : IsNew c.args.tier.now = search rules in (
      (new, c.start.ensures.only_order, c.start.ensures.settings, c.start.ensures.others, c.start.ensures.past),
      (
        c.in-Ok.report,
        loaded-counted c.in-Ok.report c.len.result count,
        loads-of g.row.N c.args.tier.now c.start.new.self c.args.folder.now c.start.new.folder (Ok c.in-Ok.report)
            (ap (λ (s : Settings). s.shards) c.options-options.ensures) c.in-Ok.ensures.loads,
      ),
    )

pub returns : goal.returns
returns g c =
    let new : IsNew c.args.tier.now = search rules in
    let kept = not-loaded c.args.tier.now c.start.new.self c.args.folder.now c.start.new.folder new c.start.ensures.others c.in-Err.field-0
    (loads-of g.row.N c.args.tier.now c.start.new.self c.args.folder.now c.start.new.folder (Err c.in-Err.field-0)
    (ap (λ (s : Settings). s.shards) c.options-options.ensures) c.in-Err.ensures.loads) in
    (new, kept.0, kept.1)
