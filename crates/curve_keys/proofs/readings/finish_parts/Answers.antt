use Rattle.std.proofs.Common.{◌≡◌, ℕ, suc, ◌+◌, ◌<◌, ◌≤◌, length, set, arith, subst, sym}
use Rattle.curve_keys.specs.declared.readings.PartReading.{PartReading}
use Rattle.curve_keys.specs.Shares.{IsReady, IsFinished}
use Rattle.curve_keys.proofs.Passes.{Reached, reached-length, reached-next, reached-more, reached-all}
use Rattle.curve_keys.proofs.readings.finish_parts.Goals as goal

pub finish-requires : goal.finish-requires
finish-requires c =
    let R = IsFinished in
    let old = c.args.parts.now.items in
    let new = c.loop-i.parts.items in
    let d = c.index_mut.result.now in
    let same = reached-length R c.loop-i.i old new c.loop-i.invariant in
    let within : c.loop-i.i < length new = omega (arith, c.loop-i-test.true, c.len-i-end.ensures, c.args.parts.now.ok.0, same) in
    subst IsReady (sym c.index_mut.ensures.value) (reached-next R IsReady c.loop-i.i old new d c.loop-i.invariant within c.requires)

pub loop-i-preserved : goal.loop-i-preserved
loop-i-preserved c =
    let R = IsFinished in
    let old = c.args.parts.now.items in
    let new = c.loop-i.parts.items in
    let d = c.index_mut.result.now in
    let x = c.finish.new.self in
    let same = reached-length R c.loop-i.i old new c.loop-i.invariant in
    let within : c.loop-i.i < length new = omega (arith, c.loop-i-test.true, c.len-i-end.ensures, c.args.parts.now.ok.0, same) in
    let more = reached-more R c.loop-i.i old new d x c.loop-i.invariant within (subst (λ (y : PartReading). R y x) c.index_mut.ensures.value c.in_ok-finish.ensures) in
    let next : suc c.loop-i.i ≡ c.loop-i.i + 1 = omega arith in
    subst (λ (n : ℕ). Reached R n old (set new c.loop-i.i x)) next more

pub returns : goal.returns
returns c =
    let R = IsFinished in
    let old = c.args.parts.now.items in
    let past : length old ≤ c.loop-i.i = omega (arith, c.loop-i-test.false, c.len-i-end.ensures, c.args.parts.now.ok.0) in
    reached-all R c.loop-i.i old c.loop-i.parts.items past c.loop-i.invariant
