use Rattle.std.proofs.Common.{◌≡◌, [], sym, refl}
use Rattle.std.proofs.lemmas.Bool.{false≢true}
use Rattle.lru_core.specs.Rows.{only}
use Rattle.lru_core.proofs.Filters.{others_all}
use Rattle.lru_core.proofs.Tabled.{found_only, absent_only, front_rows, to_front}
use Rattle.lru_core.proofs.rows.Rows.promote.Goals as goal

pub invariant_of-self : goal.invariant_of-self
invariant_of-self g c =
    let w = c.self.invariant in
    rw c.promote.ensures (to_front _ _ _ w c.in-Some.i (w.known c.args.key c.in-Some.i (sym c.in-Some.ensures)).0)

pub returns-in-Some-clause-found : goal.returns-in-Some-clause-found
returns-in-Some-clause-found g c =
    let f = found_only _ _ _ c.self.invariant c.args.key c.in-Some.i (sym c.in-Some.ensures) in
    rw (← c.self.view_is, f.3) (λ t e. cc, λ n. refl)

pub returns-in-Some-clause-after : goal.returns-in-Some-clause-after
returns-in-Some-clause-after g c = rw (c.promote.ensures, ← c.self.view_is) (front_rows _ _ _ c.self.invariant c.args.key c.in-Some.i (sym c.in-Some.ensures))

pub returns-in-None-clause-found : goal.returns-in-None-clause-found
returns-in-None-clause-found g c =
    let e = absent_only _ _ _ c.self.invariant c.args.key (sym c.in-None.ensures) in
    (λ t. absurd (false≢true t), λ n. absurd (n (rw (← c.self.view_is) e)))

pub returns-in-None-clause-after : goal.returns-in-None-clause-after
returns-in-None-clause-after g c =
    let e : only c.args.key c.args.self.now ≡ [] = rw (← c.self.view_is) (absent_only _ _ _ c.self.invariant c.args.key (sym c.in-None.ensures)) in
    rw e (sym (others_all c.args.key c.args.self.now e))
