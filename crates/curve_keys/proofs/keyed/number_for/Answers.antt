use Rattle.std.proofs.Common.{◌≡◌, ℕ, subst, rules, None}
use Rattle.curve_keys.specs.Keys.{number_of, IsNumbered}
use Rattle.curve_keys.proofs.Numbering.{numbered-next}
use Rattle.curve_keys.proofs.keyed.number_for.Goals as goal

pub returns : goal.returns
returns c =
    let items : c.extend_from_slice.new.self.items ≡ c.args.key.now = search rules in
    let none : number_of c.args.numbers.now c.args.key.now ≡ None = search rules in
    let same : c.in-Ok.number ≡ c.args.next = search rules in
    subst (λ (x : ℕ). IsNumbered (number_of c.args.numbers.now) (number_of c.insert.new.self) c.args.key.now x c.in-Ok.number) same
    (numbered-next c.args.numbers.now c.insert.new.self c.extend_from_slice.new.self c.args.key.now c.in-Ok.number items none c.in_ok-insert.ensures.updates)
