use Rattle.std.proofs.Common.{[], ◌∷◌, ◌++◌, sym, ap, ◌∙◌}
use Rattle.std.specs.Prelude.{Ok, Bool}
use Rattle.std.proofs.lemmas.Bool.{false≢true}
use Rattle.lru_core.specs.Rows.{a_row}
use Rattle.lru_core.specs.Cores.{shard_of}
use Rattle.cache_evict.proofs.RowLaws.{refused_last, promoted-last, own_there, weightless_there}
use Rattle.cache_evict.proofs.tracker.rows.weigh_nothing.Goals as goal

pub returns-in-Ok-true-clause-ok : goal.returns-in-Ok-true-clause-ok
returns-in-Ok-true-clause-ok g c =
    let rows = shard_of g.row.N c.args.core.now c.args.number in
    let new = c.in-Ok-true.field-0-test in (
      rows ++ a_row c.args.number c.args.number 0 ∷ [],
      c.in-Ok-true.ensures.after (ap (λ (b : Bool). Ok b) new),
      promoted-last c.args.number 0 rows (c.in-Ok-true.ensures.added.0 new),
    )

pub returns-in-Ok-clause-ok : goal.returns-in-Ok-clause-ok
returns-in-Ok-clause-ok g c =
    let old = c.in-Ok-false.field-0-test in
    let own = own_there c.args.number (shard_of g.row.N c.args.core.now c.args.number) c.requires (λ none. false≢true (sym old ∙ c.in-Ok-false.ensures.added.1 none)) in
    weightless_there g.row.N c.args.number own.0 c.args.core.now c.insert_tail.new.self c.set_weight.new.self (c.in-Ok-false.ensures.same (λ e. let o = old in cc)) c.in-Ok.ensures.after own.1

pub returns-in-Err-clause-why : goal.returns-in-Err-clause-why
returns-in-Err-clause-why g c =
    refused_last g.row.N c.args.number 0 c.args.core.now c.in-Err.fault c.row_refusal.result c.row_refusal.ensures c.in-Err.ensures.memory c.in-Err.ensures.heavy c.in-Err.ensures.long
