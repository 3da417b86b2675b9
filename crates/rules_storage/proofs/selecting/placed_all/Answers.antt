use Rattle.std.proofs.Common.{◌≡◌, refl, map}
use Rattle.rules_fields.specs.Texts.{small}
use Rattle.rules_storage.proofs.Ascending.{more_placed}
use Rattle.rules_storage.proofs.selecting.placed_all.Goals as goal

pub loop-name-preserved : goal.loop-name-preserved
loop-name-preserved c =
    more_placed (λ n. n.items) (λ e. small e.now) (λ found. map small (map (λ e. e.now) found)) c.loop-name.names.keys c.insert.new.self.keys c.in_ok-to_small.field-0
    c.args.found.now c.loop-name.name-index _ _ (λ y ys. refl) c.in-Ok.ensures.keys c.in_ok-to_small.ensures c.loop-name-test.true c.loop-name.invariant
