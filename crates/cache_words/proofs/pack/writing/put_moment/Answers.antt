use Rattle.cache_words.proofs.pack.writing.put_moment.Goals as goal

pub returns-clause-ok : goal.returns-clause-ok
returns-clause-ok g c =
    let s = g.met.S.Sink in
    rw (← c.seconds_of.ensures, ← c.nanoseconds.ensures.value)
    (s.follows_same _ _ _ _ c.reserve.ensures.same
    (s.joins _ _ _ _ _ c.add_array.ensures.adds (s.joins _ _ _ _ _ c.add_number.ensures.adds c.add_number-2.ensures.adds)))
