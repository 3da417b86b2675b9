use Rattle.std.proofs.Common.{◌∙◌, ap, sym, nat_eq}
use Rattle.std.specs.Prelude.{Bool, ◌||◌, is_some}
use Rattle.std.specs.Cmp.Lexicographic.{pointwise}
use Rattle.store_memory.specs.Alive.{has}
use Rattle.cache_store.proofs.BodyLaws.{agree-by}
use Rattle.store_memory.proofs.BodyLaws.{kept-removed}
use Rattle.store_memory.proofs.SeenLaws.{seen-marked}
use Rattle.store_memory.proofs.FoundLaws.{found}
use Rattle.store_memory.proofs.SoundLaws.{sound-fewer}
use Rattle.store_memory.proofs.cache.MemCache.remove.Goals as goal
use Rattle.store_memory.proofs.cache.MemCache.remove.Goals.{then-stored, else-stored}

pub invariant_of-self : goal.invariant_of-self
invariant_of-self g c = sound-fewer (has c.self.inside.alive) (has c.take_all-flying.new.alive) c.self.inside.flights c.self.inside.next (λ k n. pointwise nat_eq c.args.key.now k) c.take_all-flying.ensures.after c.self.invariant

pub returns-clause-found : goal.returns-clause-found
returns-clause-found g c =
    let here = found (has c.self.inside.alive) c.self.inside.flights c.self.inside.next c.args.key.now c.self.invariant c.self.inside.bodies.entries c.remove-stored.result c.take_all-flying.result c.remove-stored.ensures.found
    c.take_all-flying.ensures.some c.take_all-flying.ensures.none in
    let or_flying : Bool → Bool = λ b. b || is_some c.take_all-flying.result in
    rw (← c.self.view_is) (elim c.if-stored.branch [
      | then-stored w ↦ w.result-is ∙ w.if-stored.true ∙ sym (ap or_flying w.if-stored.true) ∙ here
      | else-stored w ↦ w.result-is ∙ w.is_some.ensures ∙ sym (ap or_flying w.if-stored.false) ∙ here
    ])

pub returns-clause-store : goal.returns-clause-store
returns-clause-store g c =
    rw (← c.self.view_is) (agree-by _ _ (kept-removed c.self.inside.bodies.entries c.remove-stored.new.bodies.entries c.args.key.now c.remove-stored.ensures.after)
    (seen-marked (has c.self.inside.alive) (has c.take_all-flying.new.alive) c.args.key.now c.self.inside.flights.entries c.take_all-flying.ensures.after))
