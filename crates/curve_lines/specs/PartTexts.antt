-- The text of what was found of each part.
use Rattle.std.specs.Prelude.{List, ℕ, ◌++◌, length, Bool, true, false}
use Rattle.std.specs.List.{flat_map}
use Rattle.curve_keys.specs.declared.readings.PartReading.{PartReading}
use Rattle.curve_lines.specs.declared.format.Rules.{Rules}
use Rattle.curve_lines.specs.declared.read.Found.{Found}
use Rattle.curve_lines.specs.declared.text.LineCounts.{LineCounts}
use Rattle.curve_lines.specs.ColumnLines.{is_timed}
use Rattle.curve_lines.specs.Texts.{caches_of, curve_text}
use Rattle.curve_lines.specs.TimedTexts.{timed_text}
use Rattle.curve_lines.specs.MarkTexts.{marks_text}

abbrev pub lines_of : Found → PartReading → LineCounts
lines_of f r = record {
  wrong = f.wrong;
  unweighed = r.reading.unweighed;
  others = f.readings.others;
  read = f.read;
  asked = f.readings.asked;
  said = f.readings.said;
  repeated = r.reading.curve.repeats.keys;
  repeated_bytes = r.reading.curve.repeats.bytes;
}

abbrev pub text_by : Bool → Rules → Found → PartReading → List ℕ
text_by false by f r = curve_text by r.part r.reading.curve.curve.curve.table r.held.items r.reading.curve.curve.curve.totals (length r.reading.curve.curve.curve.weights.items) (lines_of f r)
text_by true by f r =
    timed_text by r.part r.reading.curve.curve.curve.table r.fresh.items r.held.items r.reading.curve.curve.curve.totals (length r.reading.curve.curve.curve.weights.items) (lines_of f r)
    ++ marks_text by.by (caches_of r.part) r.reading.curve.curve.marks.items

-- the text of what was found by these rules, one part after another
abbrev pub found_text : Rules → Found → List ℕ
found_text by f = flat_map (text_by (is_timed by.lifetime by.columns) by f) f.readings.parts.items
