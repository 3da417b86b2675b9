use Rattle.std.proofs.Common.{◌≡◌, ◌<◌, ◌≤◌, length, get_or, arith, rules, ap, sym, ℕ, List, nat_lt, ◌∙◌}
use Rattle.std.specs.Prelude.{not}
use Rattle.curve_sizes.specs.declared.row.CurveRow.{CurveRow}
use Rattle.curve_sizes.specs.Rows.{limits_of, last_finds, last_bytes}
use Rattle.curve_sizes.proofs.TableLaws.{bumped, last-is, running-bumped, running-same, finds-bumped, bytes-bumped, one-finds, one-bytes, rising-bumped, limits-found, running-limits, length-running, first-limit}
use Rattle.curve_sizes.proofs.table.Table.count.Goals as goal

pub add_to-requires-clause-finds : goal.add_to-requires-clause-finds
add_to-requires-clause-finds c =
    let bs = c.self.inside.buckets.items in
    let i = c.bucket_of-at.result in
    let d = c.index_mut.result.now in
    let l : i < length bs = search rules in
    let one = one-finds bs i d l in
    let e = ap (λ (r : CurveRow). r.finds) c.index_mut.ensures.value in
    let last = last-is bs in
    let seen = ap last_finds c.self.view_is in
    let heard = ap last_bytes c.self.view_is in
    omega (arith, one, e, last.0, seen, c.requires.0)

pub add_to-requires-clause-bytes : goal.add_to-requires-clause-bytes
add_to-requires-clause-bytes c =
    let bs = c.self.inside.buckets.items in
    let i = c.bucket_of-at.result in
    let d = c.index_mut.result.now in
    let l : i < length bs = search rules in
    let one = one-bytes bs i d l in
    let e = ap (λ (r : CurveRow). r.bytes) c.index_mut.ensures.value in
    let last = last-is bs in
    let seen = ap last_finds c.self.view_is in
    let heard = ap last_bytes c.self.view_is in
    omega (arith, one, e, last.1, heard, c.requires.1)

pub overflow_add-self : goal.overflow_add-self
overflow_add-self c =
    let last = last-is c.self.inside.buckets.items in
    let seen = ap last_finds c.self.view_is in
    let heard = ap last_bytes c.self.view_is in
    omega (arith, last.0, seen, c.requires.0, c.self.invariant.1)

pub overflow_add-self-then-at-len : goal.overflow_add-self-then-at-len
overflow_add-self-then-at-len c =
    let last = last-is c.self.inside.buckets.items in
    let seen = ap last_finds c.self.view_is in
    let heard = ap last_bytes c.self.view_is in
    omega (arith, last.1, heard, c.requires.1, c.self.invariant.2, c.from.ensures)

pub invariant_of-self : goal.invariant_of-self
invariant_of-self c =
    let bs = c.self.inside.buckets.items in
    let i = c.bucket_of-at.result in
    let d = c.index_mut.result.now in
    let l : i < length bs = search rules in
    let e : c.add_to.new.bucket ≡ bumped c.args.weight (get_or bs i d) = c.add_to.ensures ∙ ap (bumped c.args.weight) c.index_mut.ensures.value in
    let f = finds-bumped c.args.weight bs i d l in
    let b = bytes-bumped c.args.weight bs i d l in
    let v = c.self.invariant in
    let last = last-is bs in
    let seen = ap last_finds c.self.view_is in
    let heard = ap last_bytes c.self.view_is in
    rw e (
      rising-bumped c.args.weight bs i d l v.0,
      omega (arith, f, v.1),
      omega (arith, b, v.2, c.from.ensures),
      omega (arith, last.0, seen, c.requires.0, v.1),
      omega (arith, last.1, heard, c.requires.1, v.2, c.from.ensures),
    )

pub returns-then-at-len-clause-ok : goal.returns-then-at-len-clause-ok
returns-then-at-len-clause-ok c =
    let bs = c.self.inside.buckets.items in
    let i = c.bucket_of-at.result in
    let d = c.index_mut.result.now in
    let l : i < length bs = search rules in
    let e : c.add_to.new.bucket ≡ bumped c.args.weight (get_or bs i d) = c.add_to.ensures ∙ ap (bumped c.args.weight) c.index_mut.ensures.value in
    let o = c.bucket_of-at.ensures in
    let r = rw c.as_slice.ensures.value at o in
    rw (e, ← c.self.view_is) (running-bumped c.args.height c.args.weight 0 0 bs i d l r.lesser r.others)

pub returns-else-at-len-clause-ok : goal.returns-else-at-len-clause-ok
returns-else-at-len-clause-ok c =
    let bs = c.self.inside.buckets.items in
    let i = c.bucket_of-at.result in
    let r = rw c.as_slice.ensures.value at c.bucket_of-at.ensures in
    let l : length bs ≤ i = search rules in
    rw (← c.self.view_is) (running-same c.args.height c.args.weight 0 0 bs (λ k d h. r.lesser k d (omega (arith, h, l))))

pub returns-then-at-len-clause-limits : goal.returns-then-at-len-clause-limits
returns-then-at-len-clause-limits c = ap limits_of (returns-then-at-len-clause-ok c) ∙ limits-found c.args.height c.args.weight c.args.self.now

pub returns-then-at-len-clause-first : goal.returns-then-at-len-clause-first
returns-then-at-len-clause-first c =
    let bs = c.self.inside.buckets.items in
    let r = rw c.as_slice.ensures.value at c.bucket_of-at.ensures in
    rw (← c.self.view_is) (λ k l.
    let n = length-running 0 0 bs in
    first-limit bs c.args.height c.bucket_of-at.result r.lesser r.others k (omega (arith, l, n)) ∙ ap (λ (ls : List ℕ). not (nat_lt (get_or ls k 0) c.args.height)) (sym (running-limits 0 0 bs)))

pub returns-else-at-len-clause-first : goal.returns-else-at-len-clause-first
returns-else-at-len-clause-first c =
    let bs = c.self.inside.buckets.items in
    let r = rw c.as_slice.ensures.value at c.bucket_of-at.ensures in
    rw (← c.self.view_is) (λ k l.
    let n = length-running 0 0 bs in
    first-limit bs c.args.height c.bucket_of-at.result r.lesser r.others k (omega (arith, l, n)) ∙ ap (λ (ls : List ℕ). not (nat_lt (get_or ls k 0) c.args.height)) (sym (running-limits 0 0 bs)))
