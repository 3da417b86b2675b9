-- The lines that go on to the next cache.
use Rattle.std.specs.Prelude.{◌≡◌, ℕ, ◌<◌, ◌==◌, ◌&&◌, Bool, false, if◌then◌else◌, List, [], ◌∷◌, ◌++◌, length, take, slice_index, Option, Some, None, IfSome}
use Rattle.std.specs.Io.KnownBytes.{Appends}
use Rattle.std.specs.Io.BufRead.{take_through}
use Rattle.cache_entries.specs.declared.entry.CacheEntryKey.{CacheEntryKey}
use Rattle.curve_sizes.specs.Requests.{AreFirst}
use Rattle.curve_keys.specs.Misses.{goes_on}
use Rattle.curve_keys.specs.Pasts.{Past, nothing_read, onto}
use Rattle.curve_lines.specs.declared.format.Format.{Format}
use Rattle.curve_lines.specs.declared.format.Format.TheVariants.{Text, Records, OracleGeneral}
use Rattle.curve_lines.specs.declared.format.Rules.{Rules}
use Rattle.curve_lines.specs.ColumnLines.{is_timed}
use Rattle.curve_lines.specs.Formats.{onto_first, records_in, line_of}
use Rattle.curve_lines.specs.Inputs.{bare}
use Rattle.curve_lines.specs.declared.step.Step.{Step}
use Rattle.curve_lines.specs.Runs.{requests_in, has_request}

-- each line with the line feed that ends it
abbrev pub whole_lines : List ℕ → List (List ℕ)
whole_lines [] = []
whole_lines (x ∷ xs) = if x == 10 then (x ∷ []) ∷ whole_lines xs else onto_first x (whole_lines xs)

-- the lines or records of a stream, with all their bytes
abbrev pub whole_units : Format → List ℕ → List (List ℕ)
whole_units Text text = whole_lines text
whole_units Records text = records_in 15 15 text
whole_units OracleGeneral text = records_in 23 23 text

-- those that a cache of this limit lets go on, after others
abbrev pub misses_after : Rules → (CacheEntryKey → ℕ) → ℕ → Option ℕ → Past → List (List ℕ) → List ℕ
misses_after by weight limit watermark past [] = []
misses_after by weight limit watermark past (l ∷ ls) =
    (if goes_on weight limit watermark (line_of by (bare by.format l)) past.requests then l else [])
    ++ misses_after by weight limit watermark (onto (line_of by (bare by.format l)) past) ls

abbrev pub misses_in : Rules → (CacheEntryKey → ℕ) → ℕ → Option ℕ → List ℕ → List ℕ
misses_in by weight limit watermark text = misses_after by weight limit watermark nothing_read (whole_units by.format text)

-- These bytes are the copy that is asked for: byte for byte and in order the lines whose request isn't among the hits of the limit, and those that
-- remove. Where lifetimes count, or keys have parts, nothing is said.
abbrev pub IsCopyAt : Rules → List ℕ → Option ℕ → List ℕ → List ℕ → Option ℕ → Type 0
IsCopyAt by limits watermark text bytes None = bytes ≡ []
IsCopyAt by limits watermark text bytes (Some at) =
    at < length limits → is_timed by.lifetime by.columns ≡ false → by.parts.items ≡ None ∷ [] → (weight : CacheEntryKey → ℕ) → AreFirst weight (requests_in by None text)
    → bytes ≡ misses_in by weight (slice_index limits at) watermark text

abbrev pub IsCopy : Rules → List ℕ → Option ℕ → List ℕ → List ℕ → Type 0
IsCopy by limits watermark text bytes = IsCopyAt by limits watermark text bytes by.misses

-- the first line or record, with all its bytes
abbrev pub first_whole : Format → List ℕ → List ℕ
first_whole Text text = take_through 10 text
first_whole Records text = take 16 text
first_whole OracleGeneral text = take 24 text

-- a step appends the first line or record that was left, if it goes on
abbrev pub piece : Format → Step → Bool → List ℕ → List ℕ
piece format step missed text = if has_request step && missed then first_whole format text else []

abbrev pub Copies : Format → Option (List ℕ) → Step → Bool → (old new : Option (List ℕ)) → Type 0
Copies format left step missed old new = IfSome left (λ text. Appends old new (piece format step missed text))
