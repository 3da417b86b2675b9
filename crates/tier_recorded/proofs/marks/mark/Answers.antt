use Rattle.std.proofs.Common.{◌≡◌, ◌<◌, List, [], length, false, true, refl, rules}
use Rattle.tier_recorded.specs.declared.history.Seat.{Seat}
use Rattle.tier_recorded.specs.Histories.{records_of, AreSame}
use Rattle.tier_recorded.specs.Seats.{PassState, IsOpen, seat_of}
use Rattle.tier_recorded.proofs.MarkLaws.{marks-none, marks-more, only-mark}
use Rattle.tier_recorded.proofs.marks.mark.Goals as goal

pub returns-clause-marks : goal.returns-clause-marks
returns-clause-marks g c =
    let seats : List Seat = c.args.seats.now.items in
    let p : PassState = c.args.pass.now in
    let free : IsOpen seats p.caller = rw c.caller-caller.ensures at c.is_open.ensures.0 c.if-not-is_open.false in
    let same : AreSame p.records (records_of p.caller c.args.history.now) = rw (c.records.ensures, c.caller-caller.ensures) at c.in_default.ensures.same in
    rw (c.close_seat.ensures, c.caller-caller.ensures)
    (marks-more seats [] c.args.history.now seats p (record (seat_of p.caller seats) { is_gathered = true }) (marks-none seats c.args.history.now) free.0 free.1 same refl refl)

pub returns-clause-only : goal.returns-clause-only
returns-clause-only g c =
    let seats : List Seat = c.args.seats.now.items in
    let p : PassState = c.args.pass.now in
    rw (c.close_seat.ensures, c.caller-caller.ensures) (only-mark seats p (record (seat_of p.caller seats) { is_gathered = true }))
