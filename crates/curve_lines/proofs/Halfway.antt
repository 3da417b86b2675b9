-- A stream is read by its lines or records.
use Rattle.std.proofs.Common.{◌≡◌, ℕ, ◌+◌, ◌<◌, true, false, cond, List, [], ◌∷◌, Bool, Option, Some, None, refl, ap, ap₂, sym, ◌∙◌, subst, arith, length}
use Rattle.std.specs.Prelude.{IfSome, is_some, map}
use Rattle.std.specs.List.{AllZip, AllByRecursion}
use Rattle.curve_sizes.specs.Rows.{limits_of, empty_row}
use Rattle.curve_keys.specs.declared.part.Part.{Part}
use Rattle.curve_keys.specs.declared.reading.Reading.{Reading}
use Rattle.curve_keys.specs.declared.readings.PartReading.{PartReading}
use Rattle.curve_keys.specs.declared.readings.Readings.{Readings}
use Rattle.curve_keys.specs.Pasts.{Line, nothing_read, IsRead}
use Rattle.curve_keys.specs.Shares.{AddsLine, IsReady, IsNew, IsFinished, asks_of, says_of, others_of}
use Rattle.curve_lines.specs.declared.format.Rules.{Rules}
use Rattle.curve_lines.specs.ColumnLines.{is_timed}
use Rattle.curve_lines.specs.Formats.{units_in, line_of, first_unit, after_unit, TakesUnit}
use Rattle.std.specs.Bool.{MatchBool}
use Rattle.std.specs.Io.KnownBytes.{prepend_known}
use Rattle.curve_lines.specs.declared.step.Step.{Step}
use Rattle.curve_lines.specs.declared.step.Step.TheVariants.{End, Fed, Wrong, TooLong}
use Rattle.curve_lines.specs.Runs.{is_more, has_request, read_in, wrong_units, asks_in, says_in, others_in, Feeds, IsHalfway, IsPartHalfway, IsFoundOf, IsFound}
use Rattle.curve_lines.proofs.UnitLaws.{units_in-first, none-left}
use Rattle.curve_lines.proofs.HalfwayParts.{AddsPart, adds-parts, each-more, parts-same, kept-more, part-more, part-all, part-found, IsKeptOf}

-- ---- what is left begins with a line or record

more-wrong : (by : Rules) (ys : List ℕ) → 0 < length ys
    → wrong_units by (units_in by.format ys) ≡ cond (is_some (line_of by (first_unit by.format ys))) 0 1 + wrong_units by (units_in by.format (after_unit by.format ys))
more-wrong by [] l = absurd (omega (arith, l))
more-wrong by (y ∷ ys) l = ap (wrong_units by) (units_in-first by.format y ys)

more-read : (by : Rules) (ys : List ℕ) → 0 < length ys → length (units_in by.format ys) ≡ 1 + length (units_in by.format (after_unit by.format ys))
more-read by [] l = absurd (omega (arith, l))
more-read by (y ∷ ys) l = let e = ap (λ (x : List (List ℕ)). length x) (units_in-first by.format y ys) in omega (arith, e)

more-asks : (by : Rules) (ys : List ℕ) → 0 < length ys
    → asks_in by (units_in by.format ys) ≡ asks_of (line_of by (first_unit by.format ys)) + asks_in by (units_in by.format (after_unit by.format ys))
more-asks by [] l = absurd (omega (arith, l))
more-asks by (y ∷ ys) l = ap (asks_in by) (units_in-first by.format y ys)

more-says : (by : Rules) (ys : List ℕ) → 0 < length ys
    → says_in by (units_in by.format ys) ≡ says_of (line_of by (first_unit by.format ys)) + says_in by (units_in by.format (after_unit by.format ys))
more-says by [] l = absurd (omega (arith, l))
more-says by (y ∷ ys) l = ap (says_in by) (units_in-first by.format y ys)

more-others : (by : Rules) (ys : List ℕ) → 0 < length ys
    → others_in by (units_in by.format ys) ≡ others_of (line_of by (first_unit by.format ys)) + others_in by (units_in by.format (after_unit by.format ys))
more-others by [] l = absurd (omega (arith, l))
more-others by (y ∷ ys) l = ap (others_in by) (units_in-first by.format y ys)

-- no unit is left where no byte is
-- ---- counts

pub halfway-none : (by : Rules) (input : Option (List ℕ)) (readings : Readings) → readings.asked ≡ 0 → readings.said ≡ 0 → readings.others ≡ 0 → IsHalfway by input input readings 0 0
halfway-none by None readings a s o = tt
halfway-none by (Some xs) readings a s o = (xs, refl, omega arith, omega arith, omega (arith, a), omega (arith, s), omega (arith, o))

-- what a line counts for
counted-line : (line : Option Line) (old new : Readings) → AddsLine line old new → (new.asked ≡ old.asked + asks_of line) × (new.said ≡ old.said + says_of line) × (new.others ≡ old.others + others_of line)
counted-line None old new e =
    let a = ap (λ (r : Readings). r.asked) e in
    let s = ap (λ (r : Readings). r.said) e in
    let o = ap (λ (r : Readings). r.others) e in
    (omega (arith, a), omega (arith, s), omega (arith, o))
counted-line (Some l) old new e = (e.asked, e.said, e.others)

halfway-more : (by : Rules) (input rest next : Option (List ℕ)) (old new : Readings) (wrong wrong' read : ℕ) (part : List ℕ) → IsHalfway by input rest old wrong read
    → TakesUnit by.format rest next part true
    → AddsLine (line_of by part) old new
    → wrong' ≡ wrong + cond (is_some (line_of by part)) 0 1
    → IsHalfway by input next new wrong' (read + 1)
halfway-more by None rest next old new wrong wrong' read part h t f w = tt
halfway-more by (Some xs) rest next old new wrong wrong' read part (ys, e, n, k, a, s, o) t f w =
    let takes : TakesUnit by.format (Some ys) next part true = subst (λ (x : Option (List ℕ)). TakesUnit by.format x next part true) e t in
    let m = more-wrong by ys takes.0 in
    let v = more-read by ys takes.0 in
    let u = more-asks by ys takes.0 in
    let y = more-says by ys takes.0 in
    let j = more-others by ys takes.0 in
    let count : List ℕ → ℕ = λ x. cond (is_some (line_of by x)) 0 1 in
    let z = ap count takes.1 in
    let c = counted-line (line_of by part) old new f in
    let p = ap (λ (x : List ℕ). asks_of (line_of by x)) takes.1 in
    let q = ap (λ (x : List ℕ). says_of (line_of by x)) takes.1 in
    let i = ap (λ (x : List ℕ). others_of (line_of by x)) takes.1 in (
      after_unit by.format ys,
      takes.2,
      omega (arith, n, m, w, z),
      omega (arith, k, v),
      omega (arith, a, u, c.0, p),
      omega (arith, s, y, c.1, q),
      omega (arith, o, j, c.2, i),
    )

-- what was counted of a stream that was read whole
pub record AreCounted (by : Rules) (text : List ℕ) (readings : Readings) (wrong read : ℕ) : Type 0 where
  pub wrong_are : wrong ≡ wrong_units by (units_in by.format text)
  pub read_are : read ≡ length (units_in by.format text)
  pub asked_are : readings.asked ≡ asks_in by (units_in by.format text)
  pub said_are : readings.said ≡ says_in by (units_in by.format text)
  pub others_are : readings.others ≡ others_in by (units_in by.format text)

halfway-all : (by : Rules) (input rest next : Option (List ℕ)) (readings : Readings) (wrong read : ℕ) (part : List ℕ) → IsHalfway by input rest readings wrong read
    → TakesUnit by.format rest next part false
    → IfSome input (λ xs. AreCounted by xs readings wrong read)
halfway-all by None rest next readings wrong read part h t = tt
halfway-all by (Some xs) rest next readings wrong read part (ys, e, n, k, a, s, i) t =
    let none : ys ≡ [] = subst (λ (x : Option (List ℕ)). TakesUnit by.format x next part false) e t in
    let m = ap (λ (x : List ℕ). wrong_units by (units_in by.format x)) none in
    let z = ap (wrong_units by) (none-left by.format) in
    let u = ap (λ (x : List ℕ). length (units_in by.format x)) none in
    let o = ap (λ (x : List (List ℕ)). length x) (none-left by.format) in
    let p = ap (λ (x : List ℕ). asks_in by (units_in by.format x)) none in
    let p' = ap (asks_in by) (none-left by.format) in
    let q = ap (λ (x : List ℕ). says_in by (units_in by.format x)) none in
    let q' = ap (says_in by) (none-left by.format) in
    let j = ap (λ (x : List ℕ). others_in by (units_in by.format x)) none in
    let j' = ap (others_in by) (none-left by.format) in
    record {
      wrong_are = omega (arith, n, m, z);
      read_are = omega (arith, k, u, o);
      asked_are = omega (arith, a, p, p');
      said_are = omega (arith, s, q, q');
      others_are = omega (arith, i, j, j');
    }

-- ---- by steps

false-true : false ≡ true → ⊥
false-true e = subst (λ (b : Bool). MatchBool b ⊥ (⊥ → ⊥)) e (λ x. x)

no-line : (o : Option Line) → false ≡ is_some o → o ≡ None
no-line None e = refl
no-line (Some l) e = absurd (false-true e)

-- the last step feeds nothing
pub last-asks : (step : Step) → is_more step ≡ false → has_request step ≡ false
last-asks End e = refl
last-asks Fed e = absurd (false-true (sym e))
last-asks Wrong e = absurd (false-true (sym e))
last-asks TooLong e = absurd (false-true (sym e))

last-same : (by : Rules) (rest next : Option (List ℕ)) (old new : Readings) (step : Step) → Feeds by rest next old new step → is_more step ≡ false → new ≡ old
last-same by rest next old new step (part, takes, told, fed) last =
    subst (λ (o : Option Line). AddsLine o old new) (no-line (line_of by part) (sym (last-asks step last) ∙ told)) fed

-- what holds all along of readings
pub record IsKept (by : Rules) (watermark : Option ℕ) (limits : List ℕ) (readings : Readings) : Type 0 where
  pub parts : map (λ (r : PartReading). r.part) readings.parts.items ≡ by.parts.items
  pub each : AllByRecursion (IsKeptOf by watermark limits) readings.parts.items

ready-of : (by : Rules) (watermark : Option ℕ) (limits : List ℕ) (rs : List PartReading) → AllByRecursion (IsKeptOf by watermark limits) rs → AllByRecursion IsReady rs
ready-of by watermark limits [] a = tt
ready-of by watermark limits (r ∷ rs) a = (a.0.ready, ready-of by watermark limits rs a.1)

pub kept-ready : (by : Rules) (watermark : Option ℕ) (limits : List ℕ) (readings : Readings) → IsKept by watermark limits readings → AllByRecursion IsReady readings.parts.items
kept-ready by watermark limits readings k = ready-of by watermark limits readings.parts.items k.each

pub kept-on : (by : Rules) (watermark : Option ℕ) (limits : List ℕ) (rest next : Option (List ℕ)) (old new : Readings) (step : Step) → Feeds by rest next old new step
    → IsKept by watermark limits old → IsKept by watermark limits new
kept-on by watermark limits rest next old new step (part, takes, told, fed) k =
    let z = adds-parts (line_of by part) old new fed in
    record {
      parts = parts-same (AddsPart (line_of by part)) (λ o n a. a.part_is) old.parts.items new.parts.items z ∙ k.parts;
      each = each-more (AddsPart (line_of by part)) (IsKeptOf by watermark limits) (IsKeptOf by watermark limits) (kept-more (line_of by part) by watermark limits) old.parts.items new.parts.items k.each z;
    }

pub step-more : (by : Rules) (input rest next : Option (List ℕ)) (old new : Readings) (wrong wrong' read : ℕ) (step : Step)
    → IsHalfway by input rest old wrong read → Feeds by rest next old new step → is_more step ≡ true → wrong' ≡ wrong + cond (has_request step) 0 1
    → IsHalfway by input next new wrong' (read + 1)
step-more by input rest next old new wrong wrong' read step h (part, takes, told, fed) more w =
    let t = subst (λ (b : Bool). TakesUnit by.format rest next part b) more takes in
    let count : Bool → ℕ = λ b. wrong + cond b 0 1 in
    halfway-more by input rest next old new wrong wrong' read part h t fed (w ∙ ap count told)

pub parts-more : (by : Rules) (input rest next : Option (List ℕ)) (old new : Readings) (step : Step) → Feeds by rest next old new step → is_more step ≡ true
    → AllByRecursion (IsPartHalfway by input rest) old.parts.items → AllByRecursion (IsPartHalfway by input next) new.parts.items
parts-more by input rest next old new step (part, takes, told, fed) more a =
    let t = subst (λ (b : Bool). TakesUnit by.format rest next part b) more takes in
    each-more (AddsPart (line_of by part)) (IsPartHalfway by input rest) (IsPartHalfway by input next) (part-more by input rest next part t) old.parts.items new.parts.items a (adds-parts (line_of by part) old new fed)

-- ---- at the end

limits-finished : (by : Rules) (watermark : Option ℕ) (limits : List ℕ) (o n : PartReading) → IsKeptOf by watermark limits o → IsFinished o n → limits_of n.reading.curve.curve.curve.table ≡ limits
limits-finished by watermark limits o n k f = ap (λ (r : Reading). limits_of r.curve.curve.curve.table) f.reading_is ∙ k.limits_are

-- the limits are those that were asked for
pub finished-limits : (by : Rules) (watermark : Option ℕ) (limits : List ℕ) (readings : Readings) (ns : List PartReading) → IsKept by watermark limits readings → AllZip IsFinished readings.parts.items ns
    → AllByRecursion (λ (r : PartReading). limits_of r.reading.curve.curve.curve.table ≡ limits) ns
finished-limits by watermark limits readings ns k z =
    each-more IsFinished (IsKeptOf by watermark limits) (λ (r : PartReading). limits_of r.reading.curve.curve.curve.table ≡ limits) (limits-finished by watermark limits) readings.parts.items ns k.each z

finished-found : (by : Rules) (watermark : Option ℕ) (limits : List ℕ) (xs : List ℕ) (os ns : List PartReading) → AllByRecursion (λ (r : PartReading). IsRead r.reading (read_in by r.part xs)) os
    → AllByRecursion (IsKeptOf by watermark limits) os → AllZip IsFinished os ns → AllByRecursion (IsFoundOf by watermark xs) ns
finished-found by watermark limits xs [] [] a k z = tt
finished-found by watermark limits xs [] (n ∷ ns) a k z = absurd z
finished-found by watermark limits xs (o ∷ os) [] a k z = absurd z
finished-found by watermark limits xs (o ∷ os) (n ∷ ns) a k z = (part-found by watermark limits xs o n a.0 k.0 z.0, finished-found by watermark limits xs os ns a.1 k.1 z.1)

all-parts : (by : Rules) (xs : List ℕ) (rest next : Option (List ℕ)) (part : List ℕ) → TakesUnit by.format rest next part false → (rs : List PartReading) → AllByRecursion (IsPartHalfway by (Some xs) rest) rs
    → AllByRecursion (λ (r : PartReading). IsRead r.reading (read_in by r.part xs)) rs
all-parts by xs rest next part t [] a = tt
all-parts by xs rest next part t (r ∷ rs) a = (part-all by (Some xs) rest next part t r a.0, all-parts by xs rest next part t rs a.1)

-- the last step, and what was found then
pub step-all : (by : Rules) (watermark : Option ℕ) (limits : List ℕ) (input rest next : Option (List ℕ)) (old new done : Readings) (wrong read : ℕ) (step : Step)
    → IsKept by watermark limits old → IsHalfway by input rest old wrong read → AllByRecursion (IsPartHalfway by input rest) old.parts.items
    → Feeds by rest next old new step → is_more step ≡ false
    → AllZip IsFinished new.parts.items done.parts.items → done.asked ≡ new.asked → done.said ≡ new.said → done.others ≡ new.others
    → IfSome input (λ xs. IsFound by watermark xs (record { readings = done; wrong = wrong; read = read }))
step-all by watermark limits None rest next old new done wrong read step k h p f last z a s o = tt
step-all by watermark limits (Some xs) rest next old new done wrong read step k h p f last z a s o =
    let same = last-same by rest next old new step f last in
    let t = subst (λ (b : Bool). TakesUnit by.format rest next f.0 b) last f.1 in
    let c = halfway-all by (Some xs) rest next old wrong read f.0 h t in
    let zipped : AllZip IsFinished old.parts.items done.parts.items = subst (λ (r : Readings). AllZip IsFinished r.parts.items done.parts.items) same z in
    let asked = ap (λ (r : Readings). r.asked) same in
    let said = ap (λ (r : Readings). r.said) same in
    let others = ap (λ (r : Readings). r.others) same in
    record {
      parts = parts-same IsFinished (λ o n e. e.part_is) old.parts.items done.parts.items zipped ∙ k.parts;
      found = finished-found by watermark limits xs old.parts.items done.parts.items (all-parts by xs rest next f.0 t old.parts.items p) k.each zipped;
      wrong = c.wrong_are;
      read = c.read_are;
      asked = a ∙ asked ∙ c.asked_are;
      said = s ∙ said ∙ c.said_are;
      others = o ∙ others ∙ c.others_are;
    }

-- ---- at first

pub limits-empty : (ls : List ℕ) → limits_of (map empty_row ls) ≡ ls
limits-empty [] = refl
limits-empty (l ∷ ls) = ap (λ (xs : List ℕ). l ∷ xs) (limits-empty ls)

-- a part of which nothing was read, by these rules
abbrev pub IsNewBy : Rules → List ℕ → Option ℕ → Option Part → PartReading → Type 0
IsNewBy by limits watermark = IsNew limits watermark (is_timed by.lifetime by.columns) by.by

new-kept : (by : Rules) (limits : List ℕ) (watermark : Option ℕ) (ps : List (Option Part)) (rs : List PartReading) → AllZip (IsNewBy by limits watermark) ps rs
    → (map (λ (r : PartReading). r.part) rs ≡ ps) × AllByRecursion (IsKeptOf by watermark limits) rs
new-kept by limits watermark [] [] z = (refl, tt)
new-kept by limits watermark [] (r ∷ rs) z = absurd z
new-kept by limits watermark (p ∷ ps) [] z = absurd z
new-kept by limits watermark (p ∷ ps) (r ∷ rs) z =
    let more = new-kept by limits watermark ps rs z.1 in (
      ap₂ (λ (x : Option Part) (xs : List (Option Part)). x ∷ xs) z.0.part_is more.0,
      (record { ready = (nothing_read, z.0.read); every_is = z.0.every_is; timed = z.0.timed; mark = z.0.mark; limits_are = ap limits_of z.0.table ∙ limits-empty limits }, more.1),
    )

pub kept-first : (by : Rules) (limits : List ℕ) (watermark : Option ℕ) (readings : Readings) → AllZip (IsNewBy by limits watermark) by.parts.items readings.parts.items → IsKept by watermark limits readings
kept-first by limits watermark readings z =
    let k = new-kept by limits watermark by.parts.items readings.parts.items z in
    record { parts = k.0; each = k.1 }

part-none : (by : Rules) (limits : List ℕ) (watermark : Option ℕ) (input : Option (List ℕ)) (p : Option Part) (r : PartReading) → IsNewBy by limits watermark p r → IsPartHalfway by input input r
part-none by limits watermark None p r n = tt
part-none by limits watermark (Some xs) p r n = (xs, nothing_read, refl, n.read, refl)

pub parts-first : (by : Rules) (limits : List ℕ) (watermark : Option ℕ) (input : Option (List ℕ)) (ps : List (Option Part)) (rs : List PartReading) → AllZip (IsNewBy by limits watermark) ps rs
    → AllByRecursion (IsPartHalfway by input input) rs
parts-first by limits watermark input [] [] z = tt
parts-first by limits watermark input [] (r ∷ rs) z = absurd z
parts-first by limits watermark input (p ∷ ps) [] z = absurd z
parts-first by limits watermark input (p ∷ ps) (r ∷ rs) z = (part-none by limits watermark input p r z.0, parts-first by limits watermark input ps rs z.1)

-- nothing is held at first
pub known-none : (rest : Option (List ℕ)) → prepend_known [] rest ≡ rest
known-none None = refl
known-none (Some xs) = refl
