use Rattle.std.proofs.Common.{ap, sym, ◌∙◌, Vec, Global}
use Rattle.curve_runs.specs.declared.run.Run.{Run}
use Rattle.curve_runs.specs.Runs.{at}
use Rattle.curve_runs.proofs.EntryRuns.{runs-get}
use Rattle.curve_runs.proofs.table.FreshTable.since.Goals as goal

pub returns : goal.returns
returns c =
    let d = c.index-runs.result.now in
    c.since_at.ensures
    ∙ ap (at c.args.size) (c.as_slice.ensures.value ∙ ap (λ (v : Vec Run Global). v.items) c.index-runs.ensures ∙ sym (runs-get c.args.self.now.runs.items c.args.entry d c.requires))
