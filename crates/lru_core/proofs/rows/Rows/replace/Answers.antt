use Rattle.std.proofs.Common.{◌≡◌, ◌∙◌, sym, refl}
use Rattle.lru_core.proofs.Tabled.{found_only, exchanged, exchanged_rows, present, slot_row}
use Rattle.lru_core.proofs.rows.Rows.replace.Goals as goal

pub unwrap-i-requires : goal.unwrap-i-requires
unwrap-i-requires g c = rw c.index_of.ensures (present _ _ _ c.self.invariant c.args.row.key (rw (← c.self.view_is) at c.requires))

pub unwrap-requires : goal.unwrap-requires
unwrap-requires g c =
    let f = found_only _ _ _ c.self.invariant c.args.row.key c.unwrap-i.result (sym c.index_of.ensures ∙ c.unwrap-i.ensures) in
    rw (slot_row c.self.inside.list.items c.unwrap-i.result _ _ c.replace.ensures.value f.1) refl

pub invariant_of-self : goal.invariant_of-self
invariant_of-self g c = rw c.replace.ensures.after (exchanged _ _ _ c.self.invariant c.unwrap-i.result c.args.row (sym c.index_of.ensures ∙ c.unwrap-i.ensures))

pub returns-clause-value : goal.returns-clause-value
returns-clause-value g c =
    let f = found_only _ _ _ c.self.invariant c.args.row.key c.unwrap-i.result (sym c.index_of.ensures ∙ c.unwrap-i.ensures) in
    let s : f.0 ≡ c.unwrap.result = let u = slot_row c.self.inside.list.items c.unwrap-i.result _ _ c.replace.ensures.value f.1 in let v = c.unwrap.ensures in cc in
    rw (← c.self.view_is, f.3, s) refl

pub returns-clause-after : goal.returns-clause-after
returns-clause-after g c = rw (c.replace.ensures.after, ← c.self.view_is) (exchanged_rows _ _ _ c.self.invariant c.unwrap-i.result c.args.row (sym c.index_of.ensures ∙ c.unwrap-i.ensures))
