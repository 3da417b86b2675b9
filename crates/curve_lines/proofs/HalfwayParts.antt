-- What is read of each part, as a stream is read.
use Rattle.std.proofs.Common.{◌≡◌, ℕ, Bool, true, false, List, [], ◌∷◌, Option, Some, None, refl, ap, ap₂, sym, ◌∙◌, subst}
use Rattle.std.specs.Prelude.{IfSome, is_some, map}
use Rattle.std.specs.List.{AllZip, AllByRecursion}
use Rattle.curve_sizes.specs.Requests.{steps_of, AreFound}
use Rattle.curve_held.specs.Held.{AreHeld}
use Rattle.curve_timed.specs.declared.every.Every.{Every}
use Rattle.curve_timed.specs.Timed.{timed_of}
use Rattle.curve_timed.specs.Marks.{AreMarks, HasMarkRows}
use Rattle.curve_timed.specs.Rows.{AreFresh}
use Rattle.curve_sizes.specs.Numbers.{mark_of}
use Rattle.curve_sizes.specs.Rows.{limits_of}
use Rattle.curve_keys.specs.declared.part.Part.{Part}
use Rattle.curve_keys.specs.declared.reading.Reading.{Reading}
use Rattle.curve_keys.specs.declared.readings.PartReading.{PartReading}
use Rattle.curve_keys.specs.declared.readings.Readings.{Readings}
use Rattle.curve_keys.specs.Keys.{AreSameLimits}
use Rattle.curve_keys.specs.Parts.{kept}
use Rattle.curve_keys.specs.Pasts.{Line, Past, IsRead, onto}
use Rattle.curve_keys.specs.Shares.{AddsTo, AddsLine, IsReady, IsFinished}
use Rattle.curve_keys.proofs.KeyedLaws.{keyed-found, keyed-counts}
use Rattle.curve_keys.proofs.MarkRenaming.{keyed-marks}
use Rattle.curve_keys.proofs.RepeatLaws.{keyed-entries, keyed-repeats}
use Rattle.curve_lines.specs.declared.format.Rules.{Rules}
use Rattle.curve_lines.specs.ColumnLines.{is_timed}
use Rattle.curve_lines.specs.Formats.{units_in, line_of, after_unit, TakesUnit}
use Rattle.curve_lines.specs.Runs.{read_after, read_in, requests_in, IsPartHalfway, IsFoundOf}
use Rattle.curve_lines.proofs.UnitLaws.{more-text, none-left}

-- one part after a line, which may say nothing
pub record AddsPart (line : Option Line) (old new : PartReading) : Type 0 where
  pub part_is : new.part ≡ old.part
  pub limits : AreSameLimits old.reading.curve new.reading.curve
  pub read : (past : Past) → IsRead old.reading past → IsRead new.reading (onto (kept old.part line) past)

adds-nothing : (rs : List PartReading) → AllZip (AddsPart None) rs rs
adds-nothing [] = tt
adds-nothing (r ∷ rs) = (record { part_is = refl; limits = (refl, refl, refl, refl); read = λ past h. h }, adds-nothing rs)

adds-some : (l : Line) (os ns : List PartReading) → AllZip (AddsTo l) os ns → AllZip (AddsPart (Some l)) os ns
adds-some l [] [] h = tt
adds-some l [] (n ∷ ns) h = absurd h
adds-some l (o ∷ os) [] h = absurd h
adds-some l (o ∷ os) (n ∷ ns) h = (record { part_is = h.0.part_is; limits = h.0.limits; read = h.0.read }, adds-some l os ns h.1)

pub adds-parts : (line : Option Line) (old new : Readings) → AddsLine line old new → AllZip (AddsPart line) old.parts.items new.parts.items
adds-parts None old new e = subst (λ (r : Readings). AllZip (AddsPart None) old.parts.items r.parts.items) (sym e) (adds-nothing old.parts.items)
adds-parts (Some l) old new e = adds-some l old.parts.items new.parts.items e.parts

-- what holds of each part is carried over
pub each-more : (R : PartReading → PartReading → Type 0) (P Q : PartReading → Type 0) → ((o n : PartReading) → P o → R o n → Q n) → (os ns : List PartReading)
    → AllByRecursion P os → AllZip R os ns → AllByRecursion Q ns
each-more R P Q f [] [] a z = tt
each-more R P Q f [] (n ∷ ns) a z = absurd z
each-more R P Q f (o ∷ os) [] a z = absurd z
each-more R P Q f (o ∷ os) (n ∷ ns) a z = (f o n a.0 z.0, each-more R P Q f os ns a.1 z.1)

pub parts-same : (R : PartReading → PartReading → Type 0) → ((o n : PartReading) → R o n → n.part ≡ o.part) → (os ns : List PartReading) → AllZip R os ns
    → map (λ (r : PartReading). r.part) ns ≡ map (λ (r : PartReading). r.part) os
parts-same R f [] [] z = refl
parts-same R f [] (n ∷ ns) z = absurd z
parts-same R f (o ∷ os) [] z = absurd z
parts-same R f (o ∷ os) (n ∷ ns) z = ap₂ (λ (p : Option Part) (ps : List (Option Part)). p ∷ ps) (f o n z.0) (parts-same R f os ns z.1)

-- what a run keeps of each part
pub record IsKeptOf (by : Rules) (watermark : Option ℕ) (limits : List ℕ) (r : PartReading) : Type 0 where
  pub ready : IsReady r
  pub every_is : r.reading.curve.curve.every ≡ by.by
  pub timed : is_some r.reading.curve.curve.fresh ≡ is_timed by.lifetime by.columns
  pub mark : mark_of r.reading.curve.curve.curve.watermark ≡ watermark
  pub limits_are : limits_of r.reading.curve.curve.curve.table ≡ limits

pub kept-more : (line : Option Line) (by : Rules) (watermark : Option ℕ) (limits : List ℕ) (o n : PartReading) → IsKeptOf by watermark limits o → AddsPart line o n → IsKeptOf by watermark limits n
kept-more line by watermark limits o n k a = record {
  ready = (onto (kept o.part line) k.ready.0, a.read k.ready.0 k.ready.1);
  every_is = a.limits.2 ∙ k.every_is;
  timed = a.limits.3 ∙ k.timed;
  mark = a.limits.0 ∙ k.mark;
  limits_are = a.limits.1 ∙ k.limits_are;
}

pub part-more : (by : Rules) (input rest next : Option (List ℕ)) (part : List ℕ) → TakesUnit by.format rest next part true → (o n : PartReading) → IsPartHalfway by input rest o → AddsPart (line_of by part) o n
    → IsPartHalfway by input next n
part-more by None rest next part t o n h f = tt
part-more by (Some xs) rest next part t o n (ys, done, e, fed, q) f =
    let takes : TakesUnit by.format (Some ys) next part true = subst (λ (x : Option (List ℕ)). TakesUnit by.format x next part true) e t in
    let own : read_after by o.part (onto (kept o.part (line_of by part)) done) (units_in by.format (after_unit by.format ys)) ≡ read_in by o.part xs =
    ap (λ (x : List ℕ). read_after by o.part (onto (kept o.part (line_of by x)) done) (units_in by.format (after_unit by.format ys))) takes.1 ∙ sym (more-text by o.part done ys takes.0) ∙ q in (
      after_unit by.format ys,
      onto (kept o.part (line_of by part)) done,
      takes.2,
      f.read done fed,
      subst (λ (p : Option Part). read_after by p (onto (kept o.part (line_of by part)) done) (units_in by.format (after_unit by.format ys)) ≡ read_in by p xs) (sym f.part_is) own,
    )

pub part-all : (by : Rules) (input rest next : Option (List ℕ)) (part : List ℕ) → TakesUnit by.format rest next part false → (r : PartReading) → IsPartHalfway by input rest r
    → IfSome input (λ xs. IsRead r.reading (read_in by r.part xs))
part-all by None rest next part t r h = tt
part-all by (Some xs) rest next part t r (ys, done, e, fed, q) =
    let none : ys ≡ [] = subst (λ (o : Option (List ℕ)). TakesUnit by.format o next part false) e t in
    let p = ap (λ (x : List ℕ). read_after by r.part done (units_in by.format x)) none in
    let v = ap (read_after by r.part done) (none-left by.format) in
    subst (IsRead r.reading) (sym v ∙ sym p ∙ q) fed

pub part-found : (by : Rules) (watermark : Option ℕ) (limits : List ℕ) (text : List ℕ) (o n : PartReading) → IsRead o.reading (read_in by o.part text) → IsKeptOf by watermark limits o → IsFinished o n → IsFoundOf by watermark text n
part-found by watermark limits text o n h k f =
    let mark : mark_of n.reading.curve.curve.curve.watermark ≡ watermark = ap (λ (r : Reading). mark_of r.curve.curve.curve.watermark) f.reading_is ∙ k.mark in
    let own : IsRead n.reading (read_in by n.part text) = subst (λ (p : Option Part). IsRead n.reading (read_in by p text)) (sym f.part_is) (subst (λ (r : Reading). IsRead r (read_in by o.part text)) (sym f.reading_is) h) in
    record {
      rows = λ weight a. subst (λ (m : Option ℕ). AreFound weight m (steps_of (requests_in by n.part text)) n.reading.curve.curve.curve.table) mark (keyed-found n.reading.curve (requests_in by n.part text) weight own.fed a);
      counts = λ weight a. keyed-counts n.reading.curve (requests_in by n.part text) weight own.fed a;
      fresh = λ weight a. subst (λ (m : Option ℕ). AreFresh weight m (timed_of (requests_in by n.part text)) n.fresh.items) mark (f.fresh (requests_in by n.part text) own.fed weight a);
      fresh_limits = λ yes. f.rows (ap (λ (r : Reading). is_some r.curve.curve.fresh) f.reading_is ∙ k.timed ∙ yes);
      held = λ weight a.
          subst (λ (m : Option ℕ). AreHeld weight m (requests_in by n.part text) (limits_of n.reading.curve.curve.curve.table) n.held.items) mark (f.held (requests_in by n.part text) own.fed weight a);
      marks = λ weight a.
          subst (λ (m : Option ℕ). AreMarks weight m by.by (requests_in by n.part text) n.reading.curve.curve.marks.items) mark
          (subst (λ (x : Option Every). AreMarks weight (mark_of n.reading.curve.curve.curve.watermark) x (requests_in by n.part text) n.reading.curve.curve.marks.items)
          (ap (λ (r : Reading). r.curve.curve.every) f.reading_is ∙ k.every_is) (keyed-marks n.reading.curve (requests_in by n.part text) own.fed weight a));
      mark_rows = subst (λ (b : Bool). AllByRecursion (HasMarkRows (limits_of n.reading.curve.curve.curve.table) b) n.reading.curve.curve.marks.items)
          (ap (λ (r : Reading). is_some r.curve.curve.fresh) f.reading_is ∙ k.timed) own.fed.fed.mark_rows;
      unweighed = own.unweighed;
      keys = keyed-entries n.reading.curve (requests_in by n.part text) own.fed;
      repeats_are = λ weight a. keyed-repeats n.reading.curve (requests_in by n.part text) weight own.fed a;
    }
