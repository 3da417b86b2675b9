use Rattle.std.proofs.Common.{◌≡◌, ℕ, Some, None, ap, ◌∙◌, sym, refl, nat_eq, set}
use Rattle.std.specs.HashMap.{get}
use Rattle.std.proofs.lemmas.List.{set-set}
use Rattle.lru_core.specs.declared.rows.Row.{Row}
use Rattle.lru_core.specs.Rows.{put, a_row}
use Rattle.lru_core.specs.Tables.{rows_of}
use Rattle.lru_core.specs.Updates.{Updates}
use Rattle.lru_core.proofs.Tabled.{found_only, exchanged, exchanged_rows, present, slot_row}
use Rattle.lru_core.proofs.rows.Rows.update.Goals as goal

pub unwrap-i-requires : goal.unwrap-i-requires
unwrap-i-requires g c = rw c.index_of.ensures (present _ _ _ c.self.invariant c.args.key (rw (← c.self.view_is) at c.requires.present))

pub unwrap-key-requires : goal.unwrap-key-requires
unwrap-key-requires g c =
    let f = found_only _ _ _ c.self.invariant c.args.key c.unwrap-i.result (sym c.index_of.ensures ∙ c.unwrap-i.ensures) in
    rw (slot_row c.self.inside.list.items c.unwrap-i.result _ _ c.replace.ensures.value f.1) refl

pub invariant_of-self : goal.invariant_of-self
invariant_of-self g c =
    let e = sym c.index_of.ensures ∙ c.unwrap-i.ensures in
    let f = found_only _ _ _ c.self.invariant c.args.key c.unwrap-i.result e in
    let s : f.0 ≡ c.unwrap-key.result = let u = slot_row c.self.inside.list.items c.unwrap-i.result _ _ c.replace.ensures.value f.1 in let v = c.unwrap-key.ensures in cc in
    let k : c.unwrap-key.result.key ≡ c.args.key = ap (λ r. r.key) (sym s) ∙ f.2 in
    rw (c.replace-hole.ensures.after, c.replace.ensures.after, set-set)
    (exchanged _ _ _ c.self.invariant c.unwrap-i.result (a_row c.unwrap-key.result.key c.update-wanted.new.arg2 c.unwrap-key.result.weight) (ap (get nat_eq c.self.inside.table) k ∙ e))

pub returns : goal.returns
returns g c =
    let e = sym c.index_of.ensures ∙ c.unwrap-i.ensures in
    let f = found_only _ _ _ c.self.invariant c.args.key c.unwrap-i.result e in
    let s : f.0 ≡ c.unwrap-key.result = let u = slot_row c.self.inside.list.items c.unwrap-i.result _ _ c.replace.ensures.value f.1 in let v = c.unwrap-key.ensures in cc in
    let k : c.unwrap-key.result.key ≡ c.args.key = ap (λ r. r.key) (sym s) ∙ f.2 in
    let d : g.row.T.Denot = c.update-wanted.new.arg2 in
    let w : ℕ = c.unwrap-key.result.weight in
    let row : Row g.row.T.Denot = a_row c.unwrap-key.result.key d w in
    let i : ℕ = c.unwrap-i.result in
    let met : Updates g.U.FnOnce c.args.update c.unwrap-key.result.data w d c.update-wanted.result = record { shown = _; shows = refl; left = _; met = c.update-wanted.ensures; leaves = refl } in
    let after = ap (λ v. rows_of v.items v.order) c.replace-hole.ensures.after
    ∙ (ap (λ v. rows_of (set v.items i (Some row)) v.order) c.replace.ensures.after
    ∙ (ap (λ items. rows_of items c.self.inside.list.order) (set-set c.self.inside.list.items i None (Some row))
    ∙ (exchanged_rows (get nat_eq c.self.inside.table) c.self.inside.list.items c.self.inside.list.order c.self.invariant i row (ap (get nat_eq c.self.inside.table) k ∙ e)
    ∙ (ap (λ k. put (a_row k d w) (rows_of c.self.inside.list.items c.self.inside.list.order)) k
    ∙ ap (put (a_row c.args.key d w)) c.self.view_is)))) in
    (c.unwrap-key.result, d, rw (← c.self.view_is, f.3, s) refl, met, after)
