use Rattle.std.proofs.Common.{◌∙◌, ◌++◌, ap, sym, subst, inr, rules, List, ℕ, map}
use Rattle.std.specs.Prelude.{◌≡◌, flat_map, Err}
use Rattle.cache_words.specs.declared.pack.fault.PackWriteFault.{PackWriteFault}
use Rattle.cache_words.specs.declared.pack.fault.PackWriteFault.TheVariants.{TooLong}
use Rattle.cache_words.specs.Forms.{shortest, arrays}
use Rattle.cache_entries.specs.RowText.{row_text}
use Rattle.cache_evict.specs.Loads.{HasLongTag}
use Rattle.lru_numbers.specs.Names.{name_at}
use Rattle.cache_evict.specs.Numbered.{row_of_pair}
use Rattle.cache_evict.proofs.TextLaws.{shown, named, text_shown, text_spelled}
use Rattle.cache_evict.proofs.tracker.Tracker.text_of.Goals as goal

pub put_rows-requires : goal.put_rows-requires
put_rows-requires g c =
    let all = named g.row.N (name_at c.self.inside.numbers) c.self.inside.core c.self.inside.evicted_size c.self.inside.evicted_items c.args.shard c.self.invariant c.requires in
    let same = c.iter.ensures in
    search rules

pub returns-in-Err-clause-long : goal.returns-in-Err-clause-long
returns-in-Err-clause-long g c t =
    let names = name_at c.self.inside.numbers in
    rw (← c.self.view_is) (inr (subst HasLongTag (
    ap (λ (l : List (ℕ × ℕ)). map (row_of_pair names) l) c.iter.ensures
    ∙ sym (shown g.row.N names c.self.inside.core c.self.inside.evicted_size c.self.inside.evicted_items c.args.shard c.self.invariant c.requires)) (c.in-Err.ensures.long (let same : c.in-Err.fault ≡ TooLong = cc in ap (λ (x : PackWriteFault). Err x) same))))

pub returns-in-Ok-clause-ok : goal.returns-in-Ok-clause-ok
returns-in-Ok-clause-ok g c =
    let names = name_at c.self.inside.numbers in
    rw (← c.self.view_is) (text_shown g.row.N names c.self.inside.core c.self.inside.evicted_size c.self.inside.evicted_items c.args.shard c.self.invariant c.requires c.put_rows.new.out.items c.in_ok-out.out.items
    (c.in_ok-out.ensures.ok ∙ ap (shortest arrays) c.shard_len.ensures)
    (c.in-Ok.ensures.ok ∙ ap (λ (l : List (ℕ × ℕ)). c.in_ok-out.out.items ++ flat_map row_text (map (row_of_pair names) l)) c.iter.ensures))

pub returns-in-Ok-clause-spelled : goal.returns-in-Ok-clause-spelled
returns-in-Ok-clause-spelled g c =
    rw (← c.self.view_is) (text_spelled g.row.N (name_at c.self.inside.numbers) c.self.inside.core c.self.inside.evicted_size c.self.inside.evicted_items c.args.shard c.self.invariant c.requires c.put_rows.new.out.items c.in_ok-out.out.items c.iter.result c.shard_len.result
    c.in_ok-out.ensures.ok c.shard_len.ensures c.in_ok-out.ensures.short c.iter.ensures c.in-Ok.ensures.ok c.in-Ok.ensures.fits)
