-- What the next row of options adds to a command.
use Rattle.std.proofs.Common.{◌≡◌, ◌∙◌, ℕ, ◌+◌, ◌<◌, List, length, drop, get_or, ap, sym}
use Rattle.std.proofs.lemmas.List.{at_drop_more}
use Rattle.clap.specs.Simple.{App, with_rule}
use Rattle.trace_replay.specs.CommandLine.{option_rule}
use Rattle.trace_replay.specs.Rows.{with_rows}
use Rattle.trace_replay.specs.declared.command.Described.{Described}

pub with_next_row : (rows : List Described) (i : ℕ) (d : Described) (old new : App) → i < length rows
    → new ≡ with_rule old (option_rule (get_or rows i d).name.now (get_or rows i d).required) → with_rows new (drop (i + 1) rows) ≡ with_rows old (drop i rows)
with_next_row rows i d old new inside is = ap (λ (a : App). with_rows a (drop (i + 1) rows)) is ∙ sym (at_drop_more (λ (l : List Described). with_rows old l) rows i d inside)
