use Rattle.std.proofs.Common.{arith, sym, ap, ◌∙◌, ◌+◌, ◌-◌, ◌<◌, ◌⊎◌, inl, inr, suc, List, ℕ, ◌≡◌, ◌≤◌, ◌++◌, ◌∷◌, [], length, get_or}
use Rattle.std.proofs.lemmas.Bool.{cases_lt}
use Rattle.std.proofs.lemmas.List.{get_or_read, length_push, get_or_push, get_or_append_left}
use Rattle.curve_runs.specs.Sums.{front}
use Rattle.curve_runs.proofs.CountLaws.{front-zero, front-next}
use Rattle.curve_runs.proofs.spans.Spans.rows.Goals as goal

pub loop-i-init : goal.loop-i-init
loop-i-init c =
    let s = c.args.self.now in
    let a = front-zero s.begun.items in
    let b = front-zero s.ended.items in
    let e = ap (λ (l : List ℕ). length l) c.in_ok-rows.ensures.items in
    (omega (arith, e), omega (arith, a, b), λ j l. absurd (omega (arith, l)))

pub overflow_add-more : goal.overflow_add-more
overflow_add-more c =
    let s = c.args.self.now in
    let l : c.loop-i.i < length s.begun.items = omega (arith, c.loop-i-test.true, c.len-i-end.ensures, s.begun.ok.0) in
    let r = get_or_read s.begun.items c.loop-i.i c.index.result.now l c.index.ensures 0 in
    let n = front-next s.begun.items c.loop-i.i l in
    omega (arith, r, n, c.loop-i.invariant.1, s.all (suc c.loop-i.i))

pub overflow_sub-more : goal.overflow_sub-more
overflow_sub-more c =
    let s = c.args.self.now in
    let l : c.loop-i.i < length s.begun.items = omega (arith, c.loop-i-test.true, c.len-i-end.ensures, s.begun.ok.0) in
    let m : c.loop-i.i < length s.ended.items = omega (arith, l, s.even) in
    let r = get_or_read s.begun.items c.loop-i.i c.index.result.now l c.index.ensures 0 in
    let q = get_or_read s.ended.items c.loop-i.i c.index-in-loop-i.result.now m c.index-in-loop-i.ensures 0 in
    let n = front-next s.begun.items c.loop-i.i l in
    let o = front-next s.ended.items c.loop-i.i m in
    omega (arith, r, q, n, o, c.loop-i.invariant.1, s.within (suc c.loop-i.i))

pub loop-i-preserved : goal.loop-i-preserved
loop-i-preserved c =
    let s = c.args.self.now in
    let i = c.loop-i.i in
    let rows = c.loop-i.rows.items in
    let next = c.loop-i.more + c.index.result.now - c.index-in-loop-i.result.now in
    let l : i < length s.begun.items = omega (arith, c.loop-i-test.true, c.len-i-end.ensures, s.begun.ok.0) in
    let m : i < length s.ended.items = omega (arith, l, s.even) in
    let r = get_or_read s.begun.items i c.index.result.now l c.index.ensures 0 in
    let q = get_or_read s.ended.items i c.index-in-loop-i.result.now m c.index-in-loop-i.ensures 0 in
    let n = front-next s.begun.items i l in
    let o = front-next s.ended.items i m in
    let v = c.loop-i.invariant in
    let w = s.within (suc i) in
    let z : suc i ≡ i + 1 = omega arith in
    let zb = ap (λ (k : ℕ). front k s.begun.items) z in
    let ze = ap (λ (k : ℕ). front k s.ended.items) z in
    let pushed = c.in_ok-push.ensures.items in
    let len = ap (λ (x : List ℕ). length x) pushed in
    let more = length_push rows next in
    let is : next ≡ front (suc i) s.begun.items - front (suc i) s.ended.items = omega (arith, r, q, n, o, v.1, w) in (
      omega (arith, len, more, v.0),
      omega (arith, r, q, n, o, v.1, w, zb, ze),
      λ j h. ap (λ (x : List ℕ). get_or x j 0) pushed ∙ by_case rows next s.begun.items s.ended.items i v.0 v.2 is j h (cases_lt j i),
    )
  where
    by_case : (rows : List ℕ) (next : ℕ) (b e : List ℕ) (i : ℕ) → length rows ≡ i → ((j : ℕ) → j < i → get_or rows j 0 ≡ front (suc j) b - front (suc j) e)
        → next ≡ front (suc i) b - front (suc i) e → (j : ℕ) → j < i + 1 → (j < i) ⊎ (i ≤ j) → get_or (rows ++ next ∷ []) j 0 ≡ front (suc j) b - front (suc j) e
    by_case rows next b e i n v is j h (inl l) = get_or_append_left rows (next ∷ []) 0 j (omega (arith, l, n)) ∙ v j l
    by_case rows next b e i n v is j h (inr l) =
        let q : j ≡ i = omega (arith, h, l) in
        get_or_push rows next 0 j (omega (arith, n, q)) ∙ is ∙ ap (λ (k : ℕ). front (suc k) b - front (suc k) e) (sym q)
