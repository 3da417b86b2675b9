use Rattle.std.proofs.Common.{refl, sym, ap, ◌∙◌}
use Rattle.tier_calls.specs.Tiers.{state_of}
use Rattle.tier_calls.specs.declared.shards.Shards.TheVariants.{One, Four, Sixteen}
use Rattle.tier_calls.proofs.StaleLaws.{stale-of}
use Rattle.tier_calls.proofs.shards.Shards.lookup_stale.Goals as goal

pub returns-in-One-clause-some : goal.returns-in-One-clause-some
returns-in-One-clause-some c =
    let e = c.lookup_stale.ensures in
    stale-of c.args.self.now (One c.lookup_stale.new.self) c.in-One.tier c.lookup_stale.new.self c.args.id c.lookup_stale.result (ap state_of c.in-One.is) refl
    (λ same. ap One same ∙ sym c.in-One.is) e.locked e.takes e.head

pub returns-in-Four-clause-some : goal.returns-in-Four-clause-some
returns-in-Four-clause-some c =
    let e = c.lookup_stale-in-Four.ensures in
    stale-of c.args.self.now (Four c.lookup_stale-in-Four.new.self) c.in-Four.tier c.lookup_stale-in-Four.new.self c.args.id c.lookup_stale-in-Four.result (ap state_of c.in-Four.is) refl
    (λ same. ap Four same ∙ sym c.in-Four.is) e.locked e.takes e.head

pub returns-in-Sixteen-clause-some : goal.returns-in-Sixteen-clause-some
returns-in-Sixteen-clause-some c =
    let e = c.lookup_stale-in-Sixteen.ensures in
    stale-of c.args.self.now (Sixteen c.lookup_stale-in-Sixteen.new.self) c.in-Sixteen.tier c.lookup_stale-in-Sixteen.new.self c.args.id c.lookup_stale-in-Sixteen.result (ap state_of c.in-Sixteen.is) refl
    (λ same. ap Sixteen same ∙ sym c.in-Sixteen.is) e.locked e.takes e.head
