-- Two lists in order as one.
use Rattle.std.specs.Prelude.{ℕ, if◌then◌else◌, List, [], ◌∷◌}
use Rattle.http1_message_parts.specs.Query.{goes_before}

-- of parts with one name those of the first list come first
abbrev pub merged : List (List ℕ) → List (List ℕ) → List (List ℕ)
merged ps [] = ps
merged [] (q ∷ qs) = q ∷ qs
merged (p ∷ ps) (q ∷ qs) = if goes_before q p then q ∷ merged (p ∷ ps) qs else p ∷ merged ps (q ∷ qs)
