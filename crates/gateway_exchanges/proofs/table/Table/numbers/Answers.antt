use Rattle.std.proofs.Common.{◌≡◌, ◌==◌, ◌∙◌, List, ℕ, ap, sym, rules, map, is_some}
use Rattle.std.specs.List.{list_any}
use Rattle.std.specs.HashMap.{keys}
use Rattle.std.specs.Map.Iter.{deref}
use Rattle.std.proofs.lemmas.Map.Iter.{iter_end}
use Rattle.gateway_exchanges.specs.Places.{exchange_in}
use Rattle.gateway_exchanges.proofs.Places.{get-place, is_some-map, any-key}
use Rattle.gateway_exchanges.proofs.table.Table.numbers.Goals as goal

pub returns : goal.returns
returns c =
    let all : map deref c.loop-x.yielded ≡ keys c.self.inside.open = search (rules, iter_end) in
    rw (← c.self.view_is)
    (λ x. ap (λ (l : List ℕ). list_any (λ y. x == y) l) (c.loop-x.invariant ∙ all) ∙ any-key x c.self.inside.open.entries ∙ sym (is_some-map exchange_in _)
    ∙ sym (ap is_some (get-place exchange_in c.self.inside.open.entries x)))
