use Rattle.std.proofs.Common.{◌≡◌, ◌∙◌, ℕ, List, ap, arith, length, inl, inr}
use Rattle.std.specs.Prelude.{slice_index}
use Rattle.std.proofs.lemmas.Bool.{cases_lt}
use Rattle.std.proofs.lemmas.List.{length_push}
use Rattle.curve_sizes.specs.declared.curve.SizeCurve.{SizeCurve}
use Rattle.curve_keys.proofs.RepeatLaws.{repeats-asked}
use Rattle.curve_keys.proofs.keyed.ask_entry.Goals as goal

pub weight-own-requires : goal.weight-own-requires
weight-own-requires c =
    let ws = c.args.curve.now.curve.weights.items in
    let n = c.args.entry in
    let le = c.requires.within in
    let e = c.in_ok-ask.ensures in
    let same = ap (λ (s : SizeCurve). length s.weights.items) c.curve.ensures in
    elim (cases_lt n (length ws)) [
      | inl l ↦ let long = ap (λ (xs : List ℕ). length xs) (e.known l) in omega (arith, l, long, same)
      | inr l ↦
          let q : n ≡ length ws = omega (arith, l, le) in
          let long = ap (λ (xs : List ℕ). length xs) (e.next q) in
          let p = length_push ws c.args.weight in
          omega (arith, q, long, p, same)
    ]

pub ask-requires-2 : goal.ask-requires-2
ask-requires-2 c = let r = c.requires.fed.2.entries in let le = c.requires.within in omega (arith, r, le)

pub returns-clause-repeats : goal.returns-clause-repeats
returns-clause-repeats c = λ numbers f r.
    let e = c.in_ok-ask.ensures in
    repeats-asked c.args.curve.now.curve.weights.items c.ask.new.self.curve.weights.items c.args.repeats.now c.ask-2.new.self c.args.entry c.args.weight c.weight-own.result c.args.when numbers
    c.requires.within e.known e.next (c.weight-own.ensures ∙ ap (λ (s : SizeCurve). slice_index s.weights.items c.args.entry) c.curve.ensures) f.fed.numbers f.fed.known c.in_ok-ask-2.ensures.counted r
