use Rattle.std.proofs.Common.{◌≡◌, ◌∙◌, ap}
use Rattle.std.specs.List.{fold}
use Rattle.cache_entries.specs.Entry.{owned_of}
use Rattle.cache_entries.specs.BorrowedEntry.{borrowed_entry}
use Rattle.lru_numbers.specs.Hashed.{table_writes}
use Rattle.lru_numbers.proofs.numbers.Numbers.hash_of.Goals as goal

pub returns : goal.returns
returns g c =
    let same : borrowed_entry c.of.result.entry ≡ owned_of c.args.entry = c.of.ensures in
    let write = g.S.Hasher.Hasher.write in
    let written = c.hash.ensures ∙ ap (λ e. fold write c.build_hasher-state.result (table_writes e)) same
    ∙ ap (λ s. fold write s (table_writes (owned_of c.args.entry))) c.build_hasher-state.ensures in
    (c.hasher.result.now, c.finish.ensures ∙ ap g.S.Hasher.Hasher.finish written)
