use Rattle.std.proofs.Common.{inl, inr, refl}
use Rattle.pingora_lru.proofs.Updated.{by_presence}
use Rattle.pingora_lru.proofs.locked.Lru.update_or_admit.Goals as goal

pub returns-in-Ok-clause-called : goal.returns-in-Ok-clause-called
returns-in-Ok-clause-called g c = by_presence _
    (λ n. let u = c.in-Ok.ensures.updated n in rw (u.1, u.2.4) (u.2.0.«data», u.2.1, u.2.2, u.2.3.1))
    (λ e. let q = c.in-Ok.ensures.admitted e in rw (c.in-Ok.ensures.new e) (q.0, q.1, q.2))

pub returns-clause-back : goal.returns-clause-back
returns-clause-back g c = by_presence _
    (λ n. let r = c.in-Err.ensures.update_refused n in rw r.0 (refl, (r.1.0.weight, (r.1.0.«data», r.1.1, r.1.2, r.1.3.1))))
    (λ e. let q = c.in-Err.ensures.refused e in elim q.3 [
      | inl m ↦ rw m.0 (q.1, q.2)
      | inr l ↦ elim l [ inl w ↦ rw w.0 (q.1, q.2) | inr s ↦ rw s.0 (q.1, q.2) ]
    ])
