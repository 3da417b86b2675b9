use Rattle.std.proofs.Common.{◌∙◌, ap, ◌++◌, ◌∷◌, []}
use Rattle.cache_entries.specs.declared.entry.CacheEntryKey.{CacheEntryKey}
use Rattle.cache_entries.specs.Entry.{same_entry}
use Rattle.indexmap.proofs.CallerLemmas.{insert_entry-new}
use Rattle.lru_numbers.proofs.numbers.table.put_entry.Goals as goal

pub returns : goal.returns
returns g c =
    let done = rw c.unwrap-old.ensures at c.insert-inserted.ensures.entries in
    done ∙ insert_entry-new same_entry c.args.entries.now c.new.result c.args.number (rw c.new.ensures c.requires.new)
    ∙ ap (λ (e : CacheEntryKey). c.args.entries.now.entries ++ (e, c.args.number) ∷ []) c.new.ensures
