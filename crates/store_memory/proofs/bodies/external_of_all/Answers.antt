use Rattle.std.proofs.Common.{◌≡◌, ◌∙◌, ◌-◌, ◌^◌, List, ap, rules, map}
use Rattle.std.specs.Prelude.{min}
use Rattle.std.specs.List.{sum_by}
use Rattle.std.specs.HashMap as hash
use Rattle.std.specs.Map.Iter.{deref}
use Rattle.std.proofs.lemmas.Map.Iter.{iter_end}
use Rattle.store_memory.specs.declared.flight.Body.{Body}
use Rattle.store_memory.proofs.bodies.external_of_all.Goals as goal

pub returns : goal.returns
returns g c =
    let all : map deref c.loop-body.yielded ≡ hash.values c.args.bodies.now = search (rules, iter_end) in
    c.loop-body.invariant ∙ ap (λ (bs : List Body). min (sum_by (λ b. b.meta.external) bs) (2 ^ 64 - 1)) all
