use Rattle.std.proofs.Common.{arith, sym, ap, ◌∙◌, ℕ, List, ◌≡◌, replicate, length}
use Rattle.curve_runs.specs.Sums.{front}
use Rattle.curve_runs.proofs.CountLaws.{front-none}
use Rattle.curve_runs.proofs.spans.Spans.new.Goals as goal

pub invariant_of-result : goal.invariant_of-result
invariant_of-result c =
    let a = c.in_ok-vec.ensures in
    let b = c.in_ok-vec-2.ensures in
    let p : c.in_ok-vec.field-0.items ≡ replicate c.args.sizes 0 = a.items_if_clones_equal (λ y e. e) in
    let q : c.in_ok-vec-2.field-0.items ≡ replicate c.args.sizes 0 = b.items_if_clones_equal (λ y e. e) in
    record {
      even = ap (λ (l : List ℕ). length l) (q ∙ sym p);
      within = λ n. let e = ap (front n) (q ∙ sym p) in omega (arith, e);
      all = λ n. let e = ap (front n) p in let z = front-none c.args.sizes n in omega (arith, e, z);
    }
