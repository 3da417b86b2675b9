use Rattle.cache_entries.proofs.pack.writing.put_row.Goals as goal

pub returns-clause-ok : goal.returns-clause-ok
returns-clause-ok g c =
    let s = g.met.S.Sink in
    s.follows_same _ _ _ _ c.reserve.ensures.same
    (s.joins _ _ _ _ _ c.add_array.ensures.adds (s.joins _ _ _ _ _ c.add_entry.ensures.adds c.add_number.ensures.adds))
