use Rattle.std.proofs.Common.{◌==◌, ap, sym, ◌∙◌}
use Rattle.std.specs.Cmp.Lexicographic.{pointwise}
use Rattle.std.specs.HashMap.{get}
use Rattle.cache_changes.specs.Changes.{stored_key}
use Rattle.tier_served.proofs.Alike.{noted-one}
use Rattle.tier_served.proofs.seen.note.Goals as goal

-- src/seen.rt:76:1
pub returns : goal.returns
returns g c = λ p known same knows.
    let n = noted-one p known c.args.seen c.combined_bin-stored.result (λ k. get (pointwise ◌==◌) c.args.table.now k) (λ k. get (pointwise ◌==◌) c.insert.new.self k) c.in-Some.weight same knows (c.combined_bin-stored.ensures ∙ ap stored_key c.key.ensures)
    (sym c.fitting.ensures ∙ c.in-Some.is) (λ k. c.in_ok-insert.ensures.updates.0 k) in
    (n.0, λ yes. n.1)
