use Rattle.std.proofs.Common.{◌≡◌, ℕ, suc, ◌+◌, ◌<◌, ◌≤◌, length, set, arith, subst, sym}
use Rattle.curve_keys.specs.declared.readings.PartReading.{PartReading}
use Rattle.curve_keys.specs.Shares.{IsReady, AddsTo}
use Rattle.curve_keys.proofs.Passes.{Reached, reached-length, reached-next, reached-more, reached-all, written-one}
use Rattle.curve_keys.proofs.ShareLaws.{on_err, broken-unready}
use Rattle.curve_keys.proofs.readings.feed_parts.Goals as goal

pub feed-requires-clause-ready : goal.feed-requires-clause-ready
feed-requires-clause-ready c =
    let R = (AddsTo (record { key = c.args.key.now; said = c.args.said; when = c.args.when; times = c.args.times })) in
    let old = c.args.parts.now.items in
    let new = c.loop-i.parts.items in
    let d = c.index_mut.result.now in
    let same = reached-length R c.loop-i.i old new c.loop-i.invariant in
    let within : c.loop-i.i < length new = omega (arith, c.loop-i-test.true, c.len-i-end.ensures, c.args.parts.now.ok.0, same) in
    subst IsReady (sym c.index_mut.ensures.value) (reached-next R IsReady c.loop-i.i old new d c.loop-i.invariant within c.requires.ready)

pub loop-i-preserved : goal.loop-i-preserved
loop-i-preserved c =
    let R = (AddsTo (record { key = c.args.key.now; said = c.args.said; when = c.args.when; times = c.args.times })) in
    let old = c.args.parts.now.items in
    let new = c.loop-i.parts.items in
    let d = c.index_mut.result.now in
    let x = c.feed.new.self in
    let same = reached-length R c.loop-i.i old new c.loop-i.invariant in
    let within : c.loop-i.i < length new = omega (arith, c.loop-i-test.true, c.len-i-end.ensures, c.args.parts.now.ok.0, same) in
    let more = reached-more R c.loop-i.i old new d x c.loop-i.invariant within (subst (λ (y : PartReading). R y x) c.index_mut.ensures.value c.in_ok-feed.ensures.added) in
    let next : suc c.loop-i.i ≡ c.loop-i.i + 1 = omega arith in
    subst (λ (n : ℕ). Reached R n old (set new c.loop-i.i x)) next more

pub returns-clause-added : goal.returns-clause-added
returns-clause-added c =
    let R = (AddsTo (record { key = c.args.key.now; said = c.args.said; when = c.args.when; times = c.args.times })) in
    let old = c.args.parts.now.items in
    let past : length old ≤ c.loop-i.i = omega (arith, c.loop-i-test.false, c.len-i-end.ensures, c.args.parts.now.ok.0) in
    reached-all R c.loop-i.i old c.loop-i.parts.items past c.loop-i.invariant

pub returns-in_err-feed-clause-err : goal.returns-in_err-feed-clause-err
returns-in_err-feed-clause-err c =
    let R = (AddsTo (record { key = c.args.key.now; said = c.args.said; when = c.args.when; times = c.args.times })) in
    let old = c.args.parts.now.items in
    let new = c.loop-i.parts.items in
    let same = reached-length R c.loop-i.i old new c.loop-i.invariant in
    let within : c.loop-i.i < length new = omega (arith, c.loop-i-test.true, c.len-i-end.ensures, c.args.parts.now.ok.0, same) in
    on_err c.from_residual.result (λ all. broken-unready c.feed.new.self c.in_err-feed.ensures.err (written-one IsReady c.loop-i.i new c.feed.new.self within all))
