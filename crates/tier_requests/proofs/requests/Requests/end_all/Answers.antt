use Rattle.std.proofs.Common.{◌≡◌, [], refl, sym, ◌∙◌, rules, arith}
use Rattle.std.proofs.lemmas.Grind.{common_steps}
use Rattle.tier_requests.specs.Shelves.{shelf_of}
use Rattle.tier_requests.proofs.TableLaws.{map_of}
use Rattle.tier_requests.proofs.EndAllLaws.{ends-taken, ends-left}
use Rattle.tier_requests.proofs.requests.Requests.end_all.Goals as goal

pub loop-id-preserved : goal.loop-id-preserved
loop-id-preserved g c = record {
  ended = ends-taken (map_of c.self.inside.table.entries) (shelf_of c.args.parts.now.store) c.args.parts.now.lock c.loop-id.table.entries c.remove.new.self.entries (shelf_of c.loop-id.parts.store)
      (shelf_of c.end.new.parts.store) c.loop-id.parts.lock c.end.new.parts.lock _ c.in-Some-remove.request (sym c.remove.ensures.value ∙ c.in-Some-remove.is) c.remove.ensures.updates.0 c.end.ensures.shelf c.end.ensures.lock
      c.loop-id.invariant.ended;
  parts = rw c.end.ensures.parts (rw c.loop-id.invariant.parts refl);
}

pub returns-clause-ends : goal.returns-clause-ends
returns-clause-ends g c =
    let none : c.loop-id.table.entries ≡ [] = first_of (search rules, grind (arith, common_steps)) in
    rw (← c.self.view_is)
    (ends-left (map_of c.self.inside.table.entries) (shelf_of c.args.parts.now.store) c.args.parts.now.lock c.loop-id.table.entries (shelf_of c.loop-id.parts.store) c.loop-id.parts.lock none c.loop-id.invariant.ended)
