use Rattle.std.proofs.Common.{arith, sym, ap, ap₂, ◌∙◌, ◌+◌, ◌-◌, ◌<◌, suc, List, ℕ, ◌≤◌, length, get_or}
use Rattle.std.proofs.lemmas.List.{length-set}
use Rattle.curve_runs.specs.Sums.{front}
use Rattle.curve_runs.proofs.CountLaws.{front-one, all-added, within-one, within-both, counted-one, counted-both}
use Rattle.curve_runs.proofs.spans.Spans.add.Goals as goal

pub add_at-requires-clause-fits : goal.add_at-requires-clause-fits
add_at-requires-clause-fits c =
    let s = c.args.self.now in
    let one = front-one s.begun.items c.args.from (omega (arith, c.if-from-len.false, c.len.ensures, s.begun.ok.0)) in
    omega (arith, one, s.all (suc c.args.from), c.if-from-self.false, c.from.ensures)

pub add_at-requires-then-to-len-clause-fits : goal.add_at-requires-then-to-len-clause-fits
add_at-requires-then-to-len-clause-fits c =
    let s = c.args.self.now in
    let one = front-one s.ended.items c.args.to (omega (arith, c.if-to-len.true, c.len-2.ensures, s.ended.ok.0)) in
    omega (arith, one, s.within (suc c.args.to), s.all (suc c.args.to), c.if-from-self.false, c.from.ensures)

pub invariant_of-self : goal.invariant_of-self
invariant_of-self c =
    let s = c.args.self.now in
    let b = s.begun.items in
    let e = s.ended.items in
    let from = c.args.from in
    let to = c.args.to in
    let v = c.args.value in
    let starts : from < length b = omega (arith, c.if-from-len.false, c.len.ensures, s.begun.ok.0) in
    let ends : to < length e = omega (arith, c.if-to-len.true, c.len-2.ensures, s.ended.ok.0) in
    let p = c.add_at.ensures in
    let q = c.add_at-then-to-len.ensures in
    record {
      even = ap (λ (l : List ℕ). length l) q ∙ length-set e to (get_or e to 0 + v) ∙ s.even ∙ sym (length-set b from (get_or b from 0 + v)) ∙ sym (ap (λ (l : List ℕ). length l) p);
      within = λ n.
          let h = within-both b e from to v s.even c.requires starts s.within ends n in
          let x = ap (front n) p in
          let y = ap (front n) q in
          omega (arith, h, x, y);
      all = λ n.
          let h = all-added b e from to v s.even c.requires starts s.within s.total s.all n in
          let x = ap (front n) p in
          omega (arith, h, x, c.from-2.ensures);
    }

pub invariant_of-self-else-to-len : goal.invariant_of-self-else-to-len
invariant_of-self-else-to-len c =
    let s = c.args.self.now in
    let b = s.begun.items in
    let e = s.ended.items in
    let from = c.args.from in
    let to = c.args.to in
    let v = c.args.value in
    let starts : from < length b = omega (arith, c.if-from-len.false, c.len.ensures, s.begun.ok.0) in
    let p = c.add_at.ensures in
    record {
      even = s.even ∙ sym (length-set b from (get_or b from 0 + v)) ∙ sym (ap (λ (l : List ℕ). length l) p);
      within = λ n.
          let h = within-one b e from to v s.even c.requires starts s.within n in
          let x = ap (front n) p in
          omega (arith, h, x);
      all = λ n.
          let h = all-added b e from to v s.even c.requires starts s.within s.total s.all n in
          let x = ap (front n) p in
          omega (arith, h, x, c.from-2.ensures);
    }

pub returns-then-to-len-clause-added : goal.returns-then-to-len-clause-added
returns-then-to-len-clause-added c = λ i l.
    let s = c.args.self.now in
    let b = s.begun.items in
    let e = s.ended.items in
    let starts : c.args.from < length b = omega (arith, c.if-from-len.false, c.len.ensures, s.begun.ok.0) in
    let ends : c.args.to < length e = omega (arith, c.if-to-len.true, c.len-2.ensures, s.ended.ok.0) in
    ap₂ (λ (x y : List ℕ). front (suc i) x - front (suc i) y) c.add_at.ensures c.add_at-then-to-len.ensures
    ∙ counted-both b e c.args.from c.args.to c.args.value s.even c.requires starts s.within ends i

pub returns-else-to-len-clause-added : goal.returns-else-to-len-clause-added
returns-else-to-len-clause-added c = λ i l.
    let s = c.args.self.now in
    let b = s.begun.items in
    let e = s.ended.items in
    let starts : c.args.from < length b = omega (arith, c.if-from-len.false, c.len.ensures, s.begun.ok.0) in
    let ends : length e ≤ c.args.to = omega (arith, c.if-to-len.false, c.len-2.ensures, s.ended.ok.0) in
    ap (λ (x : List ℕ). front (suc i) x - front (suc i) e) c.add_at.ensures
    ∙ counted-one b e c.args.from c.args.to c.args.value s.even c.requires starts s.within ends i l
