-- Who is changed in a walk over all who are open.
use Rattle.std.proofs.Common.{◌≡◌, ℕ, List, Bool, true, false, ◌==◌}
use Rattle.std.specs.Prelude.{Option, Some, None, is_some}
use Rattle.std.specs.List.{list_any}
use Rattle.std.specs.FinMap.{get}
use Rattle.gateway_exchanges.specs.declared.exchange.Exchange.{Exchange}
use Rattle.gateway_exchanges.specs.Tables.{Exchanges, has_place}
use Rattle.gateway_tier.specs.Purges.{IsPurged}
use Rattle.gateway_tier.specs.Walks.{AreChanged, IsChangedInPlace}
use Rattle.gateway.specs.Purges.{AreAllPurged}

-- who isn't among the numbers has no place
in_place : (how : Exchange → Exchange → Type 0) (b : Bool) (p q : Option (Option Exchange)) → b ≡ is_some p → IsChangedInPlace how b p q → IsChangedInPlace how true p q
in_place how b None q e h = none b h
  where
    none : (c : Bool) → IsChangedInPlace how c None q → q ≡ None
    none true k = k
    none false k = k
in_place how b (Some o) q e h = rw e at h

pub all_purged : (numbers : List ℕ) (old new : Exchanges) → ((x : ℕ) → list_any (λ y. x == y) numbers ≡ has_place x old)
    → AreChanged (IsPurged None None) numbers old new → AreAllPurged old new
all_purged numbers old new all changed = record {
  keys = changed.keys;
  each = λ y. in_place (IsPurged None None) (list_any (λ x. y == x) numbers) (get old.places y) (get new.places y) (all y) (changed.each y);
}
