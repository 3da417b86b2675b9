use Rattle.std.proofs.Common.{inr, ◌++◌, map}
use Rattle.std.specs.Prelude.{flat_map}
use Rattle.cache_entries.specs.RowText.{row_text}
use Rattle.lru_numbers.specs.Names.{name_at}
use Rattle.cache_evict.specs.Numbered.{row_of_pair}
use Rattle.cache_evict.proofs.TextLaws.{text_more}
use Rattle.cache_evict.proofs.tracker.writing.put_rows.Goals as goal

pub rows-preserved : goal.rows-preserved
rows-preserved g c =
    let names = name_at c.args.numbers.now in
    let one = c.in-Some.ensures.steps in
    let named = rw one at c.rows.invariant.named in
    record {
      text = text_more names c.rows.out.items c.put_numbered.new.out.items (c.args.out.now.items ++ flat_map row_text (map (row_of_pair names) c.args.rows)) (c.in-Some.number.now, c.in-Some.weight) c.rows.left c.next.new.self
          c.rows.invariant.text one c.in_ok-put_numbered.ensures.ok;
      named = named.1;
      fits = λ f. c.rows.invariant.fits (rw one (c.in_ok-put_numbered.ensures.fits, f));
      long = λ t. c.rows.invariant.long (rw one (inr t));
    }
