use Rattle.std.proofs.Common.{◌≤◌, ◌+◌, ◌-◌, ℕ, Ok, Err, arith, vec_len, vec_capacity}
use Rattle.std.specs.Prelude.{OnOk, Result}
use Rattle.tier_recorded.proofs.recorded.Recorded.reserve.Goals as goal

on-ok : {T E : Type 0} (r : Result T E) (P Q : Type 0) → (P → Q) → OnOk r P → OnOk r Q
on-ok (Ok x) P Q f p = f p
on-ok (Err y) P Q f p = p

pub invariant_of-self : goal.invariant_of-self
invariant_of-self g c = rw c.reserve.ensures.items c.self.invariant

pub returns-clause-room : goal.returns-clause-room
returns-clause-room g c =
    on-ok c.reserve.result _ (c.args.more ≤ vec_capacity c.reserve.new.self - vec_len c.reserve.new.self) (λ fits. omega (arith, fits)) c.reserve.ensures.ok
