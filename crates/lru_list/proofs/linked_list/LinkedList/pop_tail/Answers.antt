use Rattle.std.proofs.Common.{◌≡◌, ◌≢◌, ◌++◌, [], ◌∷◌, arith, ap, ◌∙◌, sym, refl, slice_index}
use Rattle.lru_list.specs.Slots.{without}
use Rattle.lru_list.specs.Columns.{prevs}
use Rattle.lru_list.proofs.Chains.{alone, without_tail}
use Rattle.lru_list.proofs.Linked.{order_high}
use Rattle.lru_list.proofs.linked_list.LinkedList.pop_tail.Goals as goal

pub returns-then-last-eq-HEAD-clause-none : goal.returns-then-last-eq-HEAD-clause-none
returns-then-last-eq-HEAD-clause-none g c =
    let w = c.self.invariant.0 in
    let e = alone _ _ _ 0 1 w.linked (order_high _ _ _ _ _ 0 w (omega arith), w.apart) (sym c.prev_at-last.ensures ∙ c.if-last-eq-HEAD.true) in
    (ap (λ v. v.order) (sym c.self.view_is) ∙ e, refl)

pub remove-requires : goal.remove-requires
remove-requires g c =
    let w = c.self.invariant.0 in
    let n : slice_index (prevs c.self.inside.links.items) 1 ≢ 0 = λ e. c.if-last-eq-HEAD.false (c.prev_at-last.ensures ∙ e) in
    rw (c.prev_at-last.ensures, ← c.self.view_is) (without_tail _ _ _ 0 1 w.linked (order_high _ _ _ _ _ 0 w (omega arith), w.apart) n).0

pub returns-clause-some : goal.returns-clause-some
returns-clause-some g c =
    let w = c.self.invariant.0 in
    let n : slice_index (prevs c.self.inside.links.items) 1 ≢ 0 = λ e. c.if-last-eq-HEAD.false (c.prev_at-last.ensures ∙ e) in
    let k : without c.prev_at-last.result c.args.self.now.order ++ c.prev_at-last.result ∷ [] ≡ c.args.self.now.order =
    rw (c.prev_at-last.ensures, ← c.self.view_is) (without_tail _ _ _ 0 1 w.linked (order_high _ _ _ _ _ 0 w (omega arith), w.apart) n).1 in
    let a = c.remove.ensures.after in
    (c.prev_at-last.result, a.0, a.1, (c.remove.ensures.value, sym k ∙ ap (λ v. v.order ++ c.prev_at-last.result ∷ []) (sym a.2), ap (λ v. v.items) a.2, ap (λ v. v.free) a.2))
