use Rattle.std.proofs.Common.{arith, ap, inl, inr}
use Rattle.curve_sizes.specs.Rows.{last_finds, last_bytes}
use Rattle.curve_sizes.proofs.TableLaws.{last-is}
use Rattle.curve_sizes.proofs.table.Table.has_room.Goals as goal

pub returns-then-self-clause-no : goal.returns-then-self-clause-no
returns-then-self-clause-no c = λ _.
    let last = last-is c.self.inside.buckets.items in
    let seen = ap last_finds c.self.view_is in
    let heard = ap last_bytes c.self.view_is in
    inl (omega (arith, last.0, seen, c.self.invariant.1, c.if-self.true))

pub returns-then-from-self-clause-no : goal.returns-then-from-self-clause-no
returns-then-from-self-clause-no c = λ _.
    let last = last-is c.self.inside.buckets.items in
    let seen = ap last_finds c.self.view_is in
    let heard = ap last_bytes c.self.view_is in
    inr (omega (arith, last.1, heard, c.self.invariant.2, c.if-from-self.true, c.from.ensures, c.ranges.weight))

pub returns-clause-yes : goal.returns-clause-yes
returns-clause-yes c = λ _.
    let last = last-is c.self.inside.buckets.items in
    let seen = ap last_finds c.self.view_is in
    let heard = ap last_bytes c.self.view_is in
    (omega (arith, last.0, seen, c.self.invariant.1, c.self.invariant.3, c.if-self.false), omega (arith, last.1, heard, c.self.invariant.2, c.if-from-self.false, c.from.ensures, c.ranges.weight))
