use Rattle.std.proofs.Common.{◌∙◌, ap, sym, refl, ◌-◌, ◌<◌, length, get_or, false, cond, Bool, List, arith}
use Rattle.std.proofs.lemmas.List.{length-set}
use Rattle.curve_held.proofs.Filled.{removed-filled, put-at, none-at}
use Rattle.curve_held.proofs.filling.Filling.remove.Goals as goal

pub returns-then-is_there : goal.returns-then-is_there
returns-then-is_there c = λ ws limits mark requests l o f.
    let old = c.args.self.now in
    let slice = c.as_slice.ensures.value in
    let was = sym (ap (λ (xs : List Bool). get_or xs c.args.entry false) slice) ∙ sym c.is_there.ensures.value ∙ c.if-is_there.true in
    let k = ap (λ (xs : List Bool). length xs) slice in
    let i = c.is_there.ensures.within c.if-is_there.true in
    let within : c.args.entry < length old.there.items = omega (arith, i, k) in
    removed-filled c.args.self.now _ c.args.entry c.args.weight (record {
      whole = refl;
      limits = refl;
      most = refl;
      there = λ n. put-at old.there.items c.args.entry n false within;
      entries = length-set old.there.items c.args.entry false;
      latest = refl;
      weighs = c.saturating_sub-self.ensures ∙ sym (ap (λ (b : Bool). cond b (old.weight - c.args.weight) old.weight) was);
      counts = c.saturating_sub-self-then-is_there.ensures ∙ sym (ap (λ (b : Bool). cond b (old.number - 1) old.number) was);
      asks_are = refl;
      full = refl;
    }) ws limits mark requests l o f

pub returns-else-is_there : goal.returns-else-is_there
returns-else-is_there c = λ ws limits mark requests l o f.
    let old = c.args.self.now in
    let was = sym (ap (λ (xs : List Bool). get_or xs c.args.entry false) c.as_slice.ensures.value) ∙ sym c.is_there.ensures.value ∙ c.if-is_there.false in
    removed-filled c.args.self.now _ c.args.entry c.args.weight (record {
      whole = refl;
      limits = refl;
      most = refl;
      there = λ n. none-at old.there.items c.args.entry n was;
      entries = refl;
      latest = refl;
      weighs = sym (ap (λ (b : Bool). cond b (old.weight - c.args.weight) old.weight) was);
      counts = sym (ap (λ (b : Bool). cond b (old.number - 1) old.number) was);
      asks_are = refl;
      full = refl;
    }) ws limits mark requests l o f
