use Rattle.std.proofs.Common.{arith}
use Rattle.cache_evict.specs.declared.tracker.loading.Again.TheVariants.{MovedFirst}
use Rattle.cache_evict.proofs.LoadLaws.{loads-spelled, loads_text}
use Rattle.cache_evict.proofs.simple_lru.OneList.deserialize.Goals as goal

pub returns-clause-spelled : goal.returns-clause-spelled
returns-clause-spelled g c rows text rest spelled is =
    rw (← c.self.view_is) (loads-spelled MovedFirst g.row.N c.args.bytes.now c.self.inside.tracker c.load.new.self rows text rest c.load.result spelled is c.load.ensures)

pub returns-clause-text : goal.returns-clause-text
returns-clause-text g c =
    rw (← c.self.view_is) (loads_text MovedFirst g.row.N c.args.bytes.now c.self.inside.tracker c.load.new.self c.load.result (λ i. let f = c.type_inv.bytes i in omega arith) c.load.ensures)
