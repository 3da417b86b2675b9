-- The first record or line of a stream, and those after it.
use Rattle.std.proofs.Common.{◌≡◌, ◌<◌, ℕ, zero, suc, List, [], ◌∷◌, Option, take, drop, length, refl, ap, arith}
use Rattle.curve_keys.specs.declared.part.Part.{Part}
use Rattle.curve_keys.specs.Parts.{kept}
use Rattle.curve_keys.specs.Pasts.{Past, onto}
use Rattle.curve_lines.specs.declared.format.Rules.{Rules}
use Rattle.curve_lines.specs.declared.format.Format.{Format}
use Rattle.curve_lines.specs.declared.format.Format.TheVariants.{Text, Records, OracleGeneral}
use Rattle.curve_lines.specs.Formats.{onto_first, records_in, units_in, line_of, first_unit, after_unit}
use Rattle.curve_lines.specs.Runs.{read_after}
use Rattle.curve_lines.proofs.LineLaws.{lines_in-first}

pub records_in-first : (others more x : ℕ) (xs : List ℕ) → records_in others more (x ∷ xs) ≡ take (suc more) (x ∷ xs) ∷ records_in others others (drop (suc more) (x ∷ xs))
records_in-first others zero x xs = refl
records_in-first others (suc more) x [] = refl
records_in-first others (suc more) x (y ∷ ys) = ap (onto_first x) (records_in-first others more y ys)

pub units_in-first : (format : Format) (x : ℕ) (xs : List ℕ) → units_in format (x ∷ xs) ≡ first_unit format (x ∷ xs) ∷ units_in format (after_unit format (x ∷ xs))
units_in-first Text x xs = lines_in-first x xs
units_in-first Records x xs = records_in-first 15 15 x xs
units_in-first OracleGeneral x xs = records_in-first 23 23 x xs

pub none-left : (format : Format) → units_in format [] ≡ []
none-left Text = refl
none-left Records = refl
none-left OracleGeneral = refl

pub more-text : (by : Rules) (part : Option Part) (done : Past) (ys : List ℕ) → 0 < length ys
    → read_after by part done (units_in by.format ys) ≡ read_after by part (onto (kept part (line_of by (first_unit by.format ys))) done) (units_in by.format (after_unit by.format ys))
more-text by part done [] l = absurd (omega (arith, l))
more-text by part done (y ∷ ys) l = ap (read_after by part done) (units_in-first by.format y ys)
