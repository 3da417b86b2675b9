use Rattle.std.proofs.Common.{◌≡◌, ◌∷◌, ap, ◌∙◌, sym, refl, nat_eq}
use Rattle.std.specs.HashMap.{get}
use Rattle.lru_list.specs.Slots.{without}
use Rattle.lru_core.specs.Rows.{others}
use Rattle.lru_core.specs.Tables.{rows_of}
use Rattle.lru_core.proofs.Tabled.{found_only, to_front, exchanged, present, slot_row, replaced_first}
use Rattle.lru_core.proofs.rows.Rows.replace_first.Goals as goal

pub unwrap-i-requires : goal.unwrap-i-requires
unwrap-i-requires g c = rw c.index_of.ensures (present _ _ _ c.self.invariant c.args.row.key (rw (← c.self.view_is) at c.requires))

pub unwrap-old-requires : goal.unwrap-old-requires
unwrap-old-requires g c =
    let f = found_only _ _ _ c.self.invariant c.args.row.key c.unwrap-i.result (sym c.index_of.ensures ∙ c.unwrap-i.ensures) in
    rw (slot_row c.self.inside.list.items c.unwrap-i.result _ _ c.replace.ensures.value f.1) refl

pub invariant_of-self : goal.invariant_of-self
invariant_of-self g c =
    let e = sym c.index_of.ensures ∙ c.unwrap-i.ensures in
    let w = c.self.invariant in
    rw (c.promote.ensures, c.replace.ensures.after) (to_front _ _ _ (exchanged _ _ _ w c.unwrap-i.result c.args.row e) c.unwrap-i.result (w.known c.args.row.key c.unwrap-i.result e).0)

pub returns-clause-value : goal.returns-clause-value
returns-clause-value g c =
    let f = found_only _ _ _ c.self.invariant c.args.row.key c.unwrap-i.result (sym c.index_of.ensures ∙ c.unwrap-i.ensures) in
    let s : f.0 ≡ c.unwrap-old.result = let u = slot_row c.self.inside.list.items c.unwrap-i.result _ _ c.replace.ensures.value f.1 in let v = c.unwrap-old.ensures in cc in
    rw (← c.self.view_is, f.3, s) refl

pub returns-clause-after : goal.returns-clause-after
returns-clause-after g c =
    let e = sym c.index_of.ensures ∙ c.unwrap-i.ensures in
    ap (λ v. rows_of v.items v.order) c.promote.ensures
    ∙ (ap (λ v. rows_of v.items (c.unwrap-i.result ∷ without c.unwrap-i.result v.order)) c.replace.ensures.after
    ∙ (replaced_first (get nat_eq c.self.inside.table) c.self.inside.list.items c.self.inside.list.order c.self.invariant c.unwrap-i.result c.args.row e
    ∙ ap (λ rows. c.args.row ∷ others c.args.row.key rows) c.self.view_is))
