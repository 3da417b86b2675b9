use Rattle.cache_words.proofs.pack.writing.add_key.Goals as goal

pub returns-clause-adds : goal.returns-clause-adds
returns-clause-adds g c =
    let s = g.met.S.Sink in
    rw (← c.as_str.ensures.value)
    (s.joins _ _ _ _ _ c.add_array.ensures.adds (s.joins _ _ _ _ _ c.add_hash.ensures.adds (s.joins _ _ _ _ _ c.add_optional_hash.ensures.adds c.add_text.ensures.adds)))
