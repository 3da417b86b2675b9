use Rattle.std.proofs.Common.{rules, ◌≡◌, ◌∷◌, ◌∙◌, refl, ap}
use Rattle.lru_core.specs.Rows.{a_row}
use Rattle.lru_actors.specs.Messages.{weighing}
use Rattle.pingora_lru.proofs.Present.{raised_reply, weighed_after}
use Rattle.pingora_lru.proofs.edits.increment_weight.Goals as goal

pub returns-in-Ok-clause-reply : goal.returns-in-Ok-clause-reply
returns-in-Ok-clause-reply g c =
    let v = raised_reply c.args.key c.args.delta c.args.cap c.args.unit.now.rows c.in-Ok.old c.in-Ok.new c.in-Ok.absent c.in-Ok.ensures.raised c.in-Ok.ensures.new in
    rw (v.0, v.1, v.2) refl

pub returns-in-Ok-clause-after : goal.returns-in-Ok-clause-after
returns-in-Ok-clause-after g c =
    let v = raised_reply c.args.key c.args.delta c.args.cap c.args.unit.now.rows c.in-Ok.old c.in-Ok.new c.in-Ok.absent c.in-Ok.ensures.raised c.in-Ok.ensures.new in
    let rows : c.increment_weight.new.self.rows ≡ weighing c.args.key c.args.item c.in-Ok.new c.args.unit.now.rows =
    weighed_after c.args.key c.args.item c.in-Ok.new c.args.unit.now.rows c.increment_weight.new.self.rows (λ n. ap (λ u. u.rows) (c.in-Ok.ensures.moved n))
    (λ n.
    let p = c.in-Ok.ensures.admitted n in
    let same : p.0 ≡ c.args.item = (let made = p.1 in search rules) in
    ap (λ u. u.rows) p.2 ∙ ap (λ d. a_row c.args.key d c.in-Ok.new ∷ c.args.unit.now.rows) same) in
    rw (← v.1, ← rows, ← c.in-Ok.ensures.bound) refl
