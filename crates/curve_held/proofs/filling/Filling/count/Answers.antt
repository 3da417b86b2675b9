use Rattle.std.proofs.Common.{◌∙◌, ◌+◌, ap, sym, subst, cond, Bool, ℕ, List, Option, length, get_or, false}
use Rattle.curve_held.specs.declared.row.Full.{Full}
use Rattle.curve_held.specs.declared.filling.Filling.{Filling}
use Rattle.curve_held.specs.State.{IsNoted}
use Rattle.curve_held.proofs.Filled.{asked-filled}
use Rattle.curve_held.proofs.filling.Filling.count.Goals as goal

pub returns-clause-filled : goal.returns-clause-filled
returns-clause-filled c = λ ws ws' limits mark w requests g o f.
    let e = c.in_ok-was_there.ensures in
    let a = c.in_ok-add.ensures.added in
    let old = c.args.self.now in
    let new = c.add.new.self in
    let full = c.note_full.new.full.items in
    let asks = ap (λ (x : Filling). x.asks) a in
    let now : ℕ → Full = λ n. record { asks = n; moment = c.args.when.moment } in
    asked-filled c.args.self.now _ c.args.entry c.args.weight c.args.when (record {
      whole = ap (λ (x : Filling). x.is_broken) a;
      limits = ap (λ (x : Filling). x.limits) a;
      most = ap (λ (x : Filling). x.most) a;
      there = λ n. ap (λ (x : Filling). get_or x.there.items n false) a ∙ e.there n;
      latest = λ n. ap (λ (x : Filling). get_or x.latest.items n 0) a ∙ e.latest n;
      known = λ l. ap (λ (x : Filling). length x.there.items) a ∙ e.known l;
      next = λ q. ap (λ (x : Filling). length x.there.items) a ∙ e.next q;
      even = ap (λ (x : Filling). length x.latest.items) a ∙ e.even ∙ sym (ap (λ (x : Filling). length x.there.items) a);
      weighs = ap (λ (x : Filling). x.weight) a ∙ ap (λ (b : Bool). old.weight + cond b 0 c.args.weight) e.was;
      counts = ap (λ (x : Filling). x.number) a ∙ ap (λ (b : Bool). old.number + cond b 0 1) e.was;
      asks_are = c.in_ok-asks.ensures.more ∙ ap (λ (n : ℕ). n + 1) asks;
      noted =
          subst (λ (l : List ℕ). IsNoted l old.most new.weight new.number (now (old.asks + 1)) old.full.items full) (c.as_slice.ensures.value ∙ ap (λ (x : Filling). x.limits.items) a)
          (subst (λ (m : Option ℕ). IsNoted c.as_slice.result.now m new.weight new.number (now (old.asks + 1)) old.full.items full) (ap (λ (x : Filling). x.most) a)
          (subst (λ (n : ℕ). IsNoted c.as_slice.result.now new.most new.weight new.number (now n) old.full.items full) (c.in_ok-asks.ensures.more ∙ ap (λ (n : ℕ). n + 1) asks)
          (subst (λ (l : List Full). IsNoted c.as_slice.result.now new.most new.weight new.number (now c.in_ok-asks.asks) l full) (ap (λ (x : Filling). x.full.items) a)
          c.in_ok-note_full.ensures)));
    }) ws ws' limits mark w requests g o f
