use Rattle.std.proofs.Common.{◌∙◌, arith, ap, refl, List, ℕ}
use Rattle.cache_words.specs.Blake.{fold_state, compress, rounds, block_words}
use Rattle.cache_words.proofs.Compressing.{words_are}
use Rattle.cache_words.proofs.blake.compress.compressed.Goals as goal

pub returns : goal.returns
unfolding compress rounds
returns c =
    let start = c.working-v.result in
    let words = words_are c.args.block.now c.load.m c.load.invariant.0 (λ k lt. c.load.invariant.1 k (omega arith)) in
    let s1 = c.step.ensures start refl in
    let s2 = c.step-2.ensures start s1 in
    let s3 = c.step-3.ensures start s2 in
    let s4 = c.step-4.ensures start s3 in
    let s5 = c.step-5.ensures start s4 in
    let s6 = c.step-6.ensures start s5 in
    let s7 = c.step-7.ensures start s6 in
    let s8 = c.step-8.ensures start s7 in
    let s9 = c.step-9.ensures start s8 in
    let s10 = c.step-10.ensures start s9 in
    let s11 = c.step-11.ensures start s10 in
    let s12 = c.step-12.ensures start s11 in
    ap (fold_state c.args.h.now)
    (s12 ∙ ap (λ (m : List ℕ). rounds start m 12) words
    ∙ ap (λ (v : List ℕ). rounds v (block_words c.args.block.now 16) 12) c.working-v.ensures)
