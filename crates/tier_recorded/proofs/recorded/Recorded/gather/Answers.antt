use Rattle.std.proofs.Common.{◌≡◌, ℕ, ◌+◌, ◌++◌, length, arith, ◌∙◌}
use Rattle.std.proofs.lemmas.List.{length-append}
use Rattle.tier_recorded.specs.declared.gather.GatherFault.TheVariants.{PassDiffers}
use Rattle.tier_recorded.specs.Seats.{AreSeated, Marks, OneDiffers, total}
use Rattle.tier_recorded.proofs.MarkLaws.{gathered-most, total-append}
use Rattle.tier_recorded.proofs.recorded.Recorded.gather.Goals as goal

pub overflow_sub-result : goal.overflow_sub-result
overflow_sub-result g c =
    let marks : Marks c.self.inside.seats.items c.args.passes.items c.self.inside.history.items c.in-Ok.seats.items =
    rw (c.as_slice.ensures.value, c.as_slice-2.ensures.value, c.as_slice-3.ensures.value) at c.in-Ok.ensures.marks
    in
    let seated : AreSeated c.in-Ok.seats.items c.spend_all.new.gathered.items c.self.inside.history.items =
    rw (c.spend_all.ensures.gathered, c.in-Ok-reserve.ensures.items) (marks.1 c.self.inside.gathered.items c.self.invariant.2)
    in
    let most = gathered-most c.in-Ok.seats.items c.spend_all.new.gathered.items c.self.inside.history.items seated in
    omega (arith, most, c.len-2.ensures, c.len-3.ensures, c.in-Ok.seats.ok.0, c.spend_all.new.gathered.ok.0)

pub invariant_of-self : goal.invariant_of-self
invariant_of-self g c = rw c.in_default.ensures.items c.self.invariant

pub invariant_of-self-2 : goal.invariant_of-self-2
invariant_of-self-2 g c =
    let marks : Marks c.self.inside.seats.items c.args.passes.items c.self.inside.history.items c.in-Ok.seats.items =
    rw (c.as_slice.ensures.value, c.as_slice-2.ensures.value, c.as_slice-3.ensures.value) at c.in-Ok.ensures.marks
    in
    let same = marks.0 in
    let long = length-append c.self.inside.gathered.items c.args.passes.items in
    let all = total-append c.self.inside.gathered.items c.args.passes.items in
    rw (c.spend_all.ensures.gathered, c.in-Ok-reserve.ensures.items) (
      c.self.invariant.0,
      c.self.invariant.1,
      marks.1 c.self.inside.gathered.items c.self.invariant.2,
      c.audit.ensures.total ∙ c.self.invariant.3,
      omega (arith, same, long, c.audit.ensures.parts, c.spend_all.ensures.parts, c.self.invariant.4),
      omega (arith, all, c.audit.ensures.amount, c.spend_all.ensures.amount, c.self.invariant.5),
      c.self.invariant.6,
    )

pub returns-clause-counts : goal.returns-clause-counts
returns-clause-counts g c =
    let marks : Marks c.self.inside.seats.items c.args.passes.items c.self.inside.history.items c.in-Ok.seats.items =
    rw (c.as_slice.ensures.value, c.as_slice-2.ensures.value, c.as_slice-3.ensures.value) at c.in-Ok.ensures.marks
    in
    let seated : AreSeated c.in-Ok.seats.items c.spend_all.new.gathered.items c.self.inside.history.items =
    rw (c.spend_all.ensures.gathered, c.in-Ok-reserve.ensures.items) (marks.1 c.self.inside.gathered.items c.self.invariant.2)
    in
    let most = gathered-most c.in-Ok.seats.items c.spend_all.new.gathered.items c.self.inside.history.items seated in (
      omega (arith, most, c.len-2.ensures, c.len-3.ensures, c.in-Ok.seats.ok.0, c.spend_all.new.gathered.ok.0),
      omega (arith, c.len-4.ensures, c.self.inside.history.ok.0),
    )

pub returns-clause-held : goal.returns-clause-held
returns-clause-held g c = omega (arith, c.spend_all.ensures.amount, c.audit.ensures.bound, c.self.invariant.3, c.len-4.ensures, c.self.inside.history.ok.0)

pub returns-in-Err-clause-differs : goal.returns-in-Err-clause-differs
returns-in-Err-clause-differs g c =
    let differs : (c' turn : ℕ) → c.in-Err.fault ≡ PassDiffers c' turn → OneDiffers c.self.inside.seats.items c.self.inside.history.items c.args.passes.items c' turn =
    rw (c.as_slice.ensures.value, c.as_slice-2.ensures.value, c.as_slice-3.ensures.value) at c.in-Err.ensures.differs
    in
    rw (← c.self.view_is) differs
