use Rattle.std.proofs.Common.{◌≡◌, [], ◌∙◌, sym, refl, inl, inr}
use Rattle.std.proofs.lemmas.Bool.{cases_eq}
use Rattle.lru_core.specs.Rows.{only}
use Rattle.lru_core.proofs.Filters.{others_all}
use Rattle.lru_core.proofs.Tabled.{found_only, absent_only, removed, removed_rows, relooked, slot_row}
use Rattle.lru_core.proofs.rows.Rows.remove.Goals as goal

pub invariant_of-self : goal.invariant_of-self
invariant_of-self g c =
    relooked _ _ _ _
    (λ q. elim (cases_eq q c.args.key) [
      | inl e ↦ rw e (c.take_key.ensures.gone ∙ c.in_err-i.ensures.value)
      | inr n ↦ c.take_key.ensures.kept q n
    ])
    c.self.invariant

pub returns-in_err-i-clause-value : goal.returns-in_err-i-clause-value
returns-in_err-i-clause-value g c = rw (c.from_residual.ensures, ← c.self.view_is) (sym (absent_only _ _ _ c.self.invariant c.args.key (sym c.in_err-i.ensures.value)))

pub returns-in_err-i-clause-after : goal.returns-in_err-i-clause-after
returns-in_err-i-clause-after g c =
    let e : only c.args.key c.args.self.now ≡ [] = rw (← c.self.view_is) (absent_only _ _ _ c.self.invariant c.args.key (sym c.in_err-i.ensures.value)) in
    rw (others_all c.args.key c.args.self.now e) c.self.view_is

pub invariant_of-self-2 : goal.invariant_of-self-2
invariant_of-self-2 g c =
    let a = c.remove.ensures.after in
    rw a.2 (removed _ _ _ c.self.invariant _ c.args.key c.in_ok-i.i a.0 (sym c.in_ok-i.ensures.value) c.take_key.ensures.gone c.take_key.ensures.kept)

pub returns-clause-value : goal.returns-clause-value
returns-clause-value g c =
    let f = found_only _ _ _ c.self.invariant c.args.key c.in_ok-i.i (sym c.in_ok-i.ensures.value) in
    rw (slot_row c.self.inside.list.items c.in_ok-i.i _ _ c.remove.ensures.value f.1, ← c.self.view_is, f.3) refl

pub returns-clause-after : goal.returns-clause-after
returns-clause-after g c =
    let a = c.remove.ensures.after in
    rw (a.2, ← c.self.view_is) (removed_rows _ _ _ c.self.invariant c.args.key c.in_ok-i.i a.0 (sym c.in_ok-i.ensures.value))
