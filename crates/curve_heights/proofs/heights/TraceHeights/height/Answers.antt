use Rattle.std.proofs.Common.{◌≡◌, ◌+◌, suc, Some, ◌∙◌, sym, ap, ℕ, sum, take, arith}
use Rattle.curve_heights.proofs.KeptLaws.{height-there, height-gone, stands}
use Rattle.curve_heights.proofs.heights.TraceHeights.height.Goals as goal

pub returns-in-None : goal.returns-in-None
returns-in-None c =
    let h = c.self.inside in
    let none = rw c.as_slice.ensures.value at (c.slot_of.ensures.none c.in-None.is) in
    rw (← c.self.view_is) (sym (height-gone h.owners.items h.sums h.gaps h.slots.items h.next c.self.invariant c.args.entry none))

pub returns-in-Some : goal.returns-in-Some
returns-in-Some c =
    let h = c.self.inside in
    let s = rw c.as_slice.ensures.value at c.in-Some.ensures.some in
    let p = stands h.owners.items h.sums h.gaps h.slots.items h.next c.self.invariant c.args.entry c.in-Some.slot s.0 s.1 s.2 in
    let z : c.in-Some.slot + 1 ≡ suc c.in-Some.slot = omega arith in
    let sums : ℕ → ℕ = λ n. sum (take n h.sums) in
    let some = c.through.ensures ∙ ap sums z in
    rw (← c.self.view_is) (ap (λ (m : ℕ). Some m) some ∙ sym (height-there h.owners.items h.sums h.gaps h.slots.items h.next c.self.invariant c.args.entry c.in-Some.slot s.0 p.0 p.1))
