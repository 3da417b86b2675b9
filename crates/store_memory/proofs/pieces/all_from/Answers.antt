use Rattle.std.proofs.Common.{arith, ◌∙◌}
use Rattle.std.proofs.lemmas.Result.{IfOk-weaker}
use Rattle.std.proofs.lemmas.Option.{slice_get-get_or}
use Rattle.store_memory.proofs.PieceLaws.{ends_at, ends_last, length_more, here, inner_place, last_place, tail_is}
use Rattle.store_memory.proofs.pieces.all_from.Goals as goal

pub overflow_sub-left : goal.overflow_sub-left
overflow_sub-left c =
    let s = c.index_at-i.ensures in
    let e = ends_at c.args.pieces.now 0 c.index_at-i.result c.index-pieces-i.result c.requires.ends (here _ _ _ s.0 c.index-pieces-i.is) in
    omega (arith, e, s.2)

pub overflow_sub-from : goal.overflow_sub-from
overflow_sub-from c =
    let s = c.index_at-i.ensures in
    let g = here _ _ _ s.0 c.index-pieces-i.is in
    let e = ends_at c.args.pieces.now 0 c.index_at-i.result c.index-pieces-i.result c.requires.ends g in
    let m = length_more c.args.pieces.now c.index_at-i.result c.index-pieces-i.result g in
    let n = c.len.ensures.value in
    omega (arith, e, m, n, s.1)

pub returns-then-i-pieces : goal.returns-then-i-pieces
returns-then-i-pieces c =
    let s = c.index_at-i.ensures in
    let n = c.len.ensures.value in
    let e = last_place c.args.pieces.now c.index_at-i.result c.args.place c.index-pieces-i.result c.requires.ends (here _ _ _ s.0 c.index-pieces-i.is) s.1 s.2 c.if-i-pieces.true in
    IfOk-weaker c.slice.result _ _ (λ b h. (rw (tail_is, n) at h) ∙ e) c.slice.ensures.ok

pub overflow_sub-more-2 : goal.overflow_sub-more-2
overflow_sub-more-2 c =
    let s = c.index_at-i.ensures in
    let w = c.requires.within in
    let e = ends_last c.args.pieces.now _ c.requires.ends (slice_get-get_or c.args.pieces.now _ c.index-pieces-pieces.result (omega (arith, s.0))) in
    omega (arith, e, w)

pub returns : goal.returns
returns c =
    let s = c.index_at-i.ensures in
    let n = c.len.ensures.value in
    let e = inner_place c.args.pieces.now c.index_at-i.result c.args.place c.index-pieces-i.result c.requires.ends (here _ _ _ s.0 c.index-pieces-i.is) s.1 s.2 in
    IfOk-weaker c.joined.result _ _ (λ b h. (rw (tail_is, tail_is, c.as_slice.ensures, n) at h) ∙ e) c.joined.ensures
