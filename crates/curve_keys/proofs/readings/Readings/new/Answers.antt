use Rattle.std.proofs.Common.{◌∙◌, List, [], ◌∷◌, ◌++◌, Option, refl, ap, sym, subst, take}
use Rattle.std.proofs.lemmas.List.{take_more}
use Rattle.std.proofs.lemmas.Slice.Zip.{all_zipped_more}
use Rattle.std.specs.List.{AllZip}
use Rattle.curve_keys.specs.declared.part.Part.{Part}
use Rattle.curve_keys.specs.declared.readings.PartReading.{PartReading}
use Rattle.curve_keys.specs.Shares.{IsNew}
use Rattle.curve_keys.proofs.readings.Readings.new.Goals as goal

pub loop-part-preserved : goal.loop-part-preserved
loop-part-preserved c =
    let ps = c.args.parts.now in
    let i = c.loop-part.part-index in
    let p = c.part-item.result in
    let before = c.loop-part.all.items in
    let made : PartReading = record { part = p; reading = c.in_ok-reading.reading; fresh = c.new-in-loop-part.result; held = c.new-in-loop-part-2.result } in
    let own : IsNew c.args.limits.now c.args.watermark c.args.is_timed c.args.every p made = record { part_is = refl; read = c.in_ok-reading.ensures.read; table = c.in_ok-reading.ensures.table; mark = c.in_ok-reading.ensures.mark; every_is = c.in_ok-reading.ensures.every; timed = c.in_ok-reading.ensures.timed } in
    let more = all_zipped_more (IsNew c.args.limits.now c.args.watermark c.args.is_timed c.args.every) (take i ps) before p made c.loop-part.invariant own in
    let front = take_more ps i p c.loop-part-test.true ∙ ap (λ (x : Option Part). take i ps ++ x ∷ []) (sym c.part-item.is) in
    subst (λ (xs : List (Option Part)). AllZip (IsNew c.args.limits.now c.args.watermark c.args.is_timed c.args.every) xs c.push.new.self.items) (sym front)
    (subst (λ (ys : List PartReading). AllZip (IsNew c.args.limits.now c.args.watermark c.args.is_timed c.args.every) (take i ps ++ p ∷ []) ys) (sym c.in_ok-push.ensures.items) more)
