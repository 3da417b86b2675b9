use Rattle.std.proofs.Common.{◌≡◌, None, inl, inr, refl, rules, arith}
use Rattle.std.proofs.lemmas.Grind.{common_steps}
use Rattle.pingora_lru.proofs.Updated.{by_presence}
use Rattle.pingora_lru.proofs.recorded_lru.RecordedLru.update_or_admit.Goals as goal

pub returns-in-Ok-clause-called : goal.returns-in-Ok-clause-called
returns-in-Ok-clause-called g c = by_presence _
    (λ n. let u = c.in-Ok.ensures.updated n in rw (u.1, u.2.4) (u.2.0.«data», u.2.1, u.2.2, u.2.3.1))
    (λ e.
    let q = c.in-Ok.ensures.admitted e in
    let before = c.in-Ok.ensures.reply in
    let none : c.in-Ok.now.0 ≡ None = rw e at before in
    rw none (q.0, q.1, q.2))

pub returns-clause-back : goal.returns-clause-back
returns-clause-back g c = by_presence _
    (λ n. elim (c.in-Err.ensures.update_refused n) [
      | inl m ↦ rw m (inl refl)
      | inr r ↦ rw r.0 (inr (refl, (r.1.0.weight, (r.1.0.«data», r.1.1, r.1.2, r.1.3.1))))
    ])
    (λ e. elim (c.in-Err.ensures.refused e) [
      | inl m ↦ rw m (inl refl)
      | inr q ↦ elim q.3 [
        | inl m ↦ rw m.0 (q.1, q.2)
        | inr l ↦ elim l [ inl w ↦ rw w.0 (q.1, q.2) | inr s ↦ rw s.0 (q.1, q.2) ]
      ]
    ])

pub returns-in-Ok-clause-old : goal.returns-in-Ok-clause-old
returns-in-Ok-clause-old g c = first_of (search rules, grind (arith, common_steps))
