-- Spans of a fixed length, which begin at its multiples.
use Rattle.std.specs.Prelude.{ℕ, ◌*◌, ◌/◌}

-- where the span begins in which a moment lies
abbrev pub span_from : (seconds moment : ℕ) → ℕ
span_from seconds moment = moment / seconds * seconds
