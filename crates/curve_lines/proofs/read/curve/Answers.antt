use Rattle.std.proofs.Common.{◌≡◌, ◌∙◌, ◌+◌, List, ℕ, Bool, ap, arith, cond, sym, subst}
use Rattle.std.specs.Prelude.{Option}
use Rattle.std.specs.List.{AllZip, AllByRecursion}
use Rattle.std.specs.Io.KnownBytes.{prepend_known}
use Rattle.curve_keys.specs.declared.part.Part.{Part}
use Rattle.curve_keys.specs.declared.readings.PartReading.{PartReading}
use Rattle.curve_keys.specs.Pasts.{nothing_read, IsRead}
use Rattle.curve_keys.specs.Shares.{IsNew}
use Rattle.curve_lines.specs.Runs.{IsHalfway, IsPartHalfway}
use Rattle.curve_lines.proofs.Halfway.{IsNewBy, halfway-none, kept-first, parts-first, kept-ready, kept-on, finished-limits, step-all, step-more, parts-more, known-none}
use Rattle.curve_lines.proofs.Copying.{IsCopying, first-copied, new-read, step-copied, last-copied}
use Rattle.curve_lines.proofs.read.curve.Goals as goal

pub loop-read-init : goal.loop-read-init
loop-read-init g c =
    let rest = g.R.Read.remaining c.args.reader.now in
    let by = c.args.rules.now in
    let limits = c.args.limits.now.all.items in
    let readings = c.in_ok-readings.readings in
    let start : prepend_known c.in_ok-input.input rest ≡ rest = ap (λ (l : List ℕ). prepend_known l rest) c.in_ok-input.ensures ∙ known-none rest in
    let new : AllZip (IsNewBy by limits c.args.watermark) by.parts.items readings.parts.items =
    subst (λ (b : Bool). AllZip (IsNew limits c.args.watermark b by.by) by.parts.items readings.parts.items) c.is_timed.ensures
    (subst (λ (ls : List ℕ). AllZip (IsNew ls c.args.watermark c.is_timed.result by.by) by.parts.items readings.parts.items) c.as_slice-2.ensures.value
    (subst (λ (ps : List (Option Part)). AllZip (IsNew c.as_slice-2.result.now c.args.watermark c.is_timed.result by.by) ps readings.parts.items) c.as_slice.ensures.value c.in_ok-readings.ensures.parts)) in
    record {
      kept = kept-first by limits c.args.watermark readings new;
      halfway = subst (λ (o : Option (List ℕ)). IsHalfway by rest o readings 0 0) (sym start) (halfway-none by rest readings c.in_ok-readings.ensures.asked c.in_ok-readings.ensures.said c.in_ok-readings.ensures.others);
      parts = subst (λ (o : Option (List ℕ)). AllByRecursion (IsPartHalfway by rest o) readings.parts.items) (sym start) (parts-first by limits c.args.watermark rest by.parts.items readings.parts.items new);
      copied = subst (λ (o : Option (List ℕ)). IsCopying by limits c.args.watermark (g.W.Write.contents c.args.copy.now) rest o (g.W.Write.contents c.args.copy.now) readings) (sym start)
          (first-copied by limits c.args.watermark (g.W.Write.contents c.args.copy.now) rest readings c.in_ok-readings.ensures.misses
          (new-read (λ (r : PartReading). IsRead r.reading nothing_read) (IsNewBy by limits c.args.watermark) (λ p r n. n.read) by.parts.items readings.parts.items new));
      few = omega arith;
    }

pub feed-requires : goal.feed-requires
feed-requires g c = kept-ready c.args.rules.now c.args.watermark c.args.limits.now.all.items c.loop-read.readings c.loop-read.invariant.kept

pub finish-requires : goal.finish-requires
finish-requires g c =
    let by = c.args.rules.now in
    let limits = c.args.limits.now.all.items in
    let rest = prepend_known c.loop-read.input (g.R.Read.remaining c.loop-read.reader) in
    let next = prepend_known c.feed.new.input (g.R.Read.remaining c.feed.new.reader) in
    kept-ready by c.args.watermark limits c.feed.new.readings
    (kept-on by c.args.watermark limits rest next c.loop-read.readings c.feed.new.readings c.in_ok-step.step c.in_ok-step.ensures.fed c.loop-read.invariant.kept)

pub returns-then-not-is_more-clause-found : goal.returns-then-not-is_more-clause-found
returns-then-not-is_more-clause-found g c =
    let i = c.loop-read.invariant in
    step-all c.args.rules.now c.args.watermark c.args.limits.now.all.items (g.R.Read.remaining c.args.reader.now) (prepend_known c.loop-read.input (g.R.Read.remaining c.loop-read.reader))
    (prepend_known c.feed.new.input (g.R.Read.remaining c.feed.new.reader)) c.loop-read.readings c.feed.new.readings c.finish.new.self c.loop-read.wrong c.loop-read.read c.in_ok-step.step
    i.kept i.halfway i.parts c.in_ok-step.ensures.fed (sym c.is_more.ensures ∙ c.if-not-is_more.true) c.in_ok-finish.ensures.parts c.in_ok-finish.ensures.asked c.in_ok-finish.ensures.said c.in_ok-finish.ensures.others

pub returns-then-not-is_more-clause-limits : goal.returns-then-not-is_more-clause-limits
returns-then-not-is_more-clause-limits g c =
    let by = c.args.rules.now in
    let limits = c.args.limits.now.all.items in
    let rest = prepend_known c.loop-read.input (g.R.Read.remaining c.loop-read.reader) in
    let next = prepend_known c.feed.new.input (g.R.Read.remaining c.feed.new.reader) in
    finished-limits by c.args.watermark limits c.feed.new.readings c.finish.new.self.parts.items
    (kept-on by c.args.watermark limits rest next c.loop-read.readings c.feed.new.readings c.in_ok-step.step c.in_ok-step.ensures.fed c.loop-read.invariant.kept)
    c.in_ok-finish.ensures.parts

pub returns-then-not-is_more-clause-copy : goal.returns-then-not-is_more-clause-copy
returns-then-not-is_more-clause-copy g c =
    last-copied c.args.rules.now c.args.limits.now.all.items c.args.watermark (g.W.Write.contents c.args.copy.now) (g.R.Read.remaining c.args.reader.now)
    (prepend_known c.loop-read.input (g.R.Read.remaining c.loop-read.reader)) (prepend_known c.feed.new.input (g.R.Read.remaining c.feed.new.reader)) (g.W.Write.contents c.loop-read.copy)
    (g.W.Write.contents c.feed.new.copy) c.loop-read.readings c.feed.new.readings c.in_ok-step.step c.loop-read.invariant.kept c.loop-read.invariant.copied c.in_ok-step.ensures.fed
    (sym c.is_more.ensures ∙ c.if-not-is_more.true) c.in_ok-step.ensures.copied

pub loop-read-preserved : goal.loop-read-preserved
loop-read-preserved g c =
    let i = c.loop-read.invariant in
    let by = c.args.rules.now in
    let input = g.R.Read.remaining c.args.reader.now in
    let rest = prepend_known c.loop-read.input (g.R.Read.remaining c.loop-read.reader) in
    let next = prepend_known c.feed.new.input (g.R.Read.remaining c.feed.new.reader) in
    let more : Bool → ℕ = λ b. c.loop-read.wrong + cond b 0 1 in
    let is = sym c.is_more.ensures ∙ c.if-not-is_more.false in
    record {
      kept = kept-on by c.args.watermark c.args.limits.now.all.items rest next c.loop-read.readings c.feed.new.readings c.in_ok-step.step c.in_ok-step.ensures.fed i.kept;
      halfway = step-more by input rest next c.loop-read.readings c.feed.new.readings c.loop-read.wrong c.counted-wrong.result c.loop-read.read c.in_ok-step.step
          i.halfway c.in_ok-step.ensures.fed is (c.counted-wrong.ensures.value ∙ ap more c.has_request.ensures);
      parts = parts-more by input rest next c.loop-read.readings c.feed.new.readings c.in_ok-step.step c.in_ok-step.ensures.fed is i.parts;
      copied = step-copied by c.args.limits.now.all.items c.args.watermark (g.W.Write.contents c.args.copy.now) input rest next (g.W.Write.contents c.loop-read.copy)
          (g.W.Write.contents c.feed.new.copy) c.loop-read.readings c.feed.new.readings c.in_ok-step.step i.kept i.copied c.in_ok-step.ensures.fed is c.in_ok-step.ensures.copied;
      few = omega (arith, c.counted-wrong.ensures.most, i.few);
    }
