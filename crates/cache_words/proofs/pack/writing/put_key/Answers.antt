use Rattle.cache_words.proofs.pack.writing.put_key.Goals as goal

pub returns-clause-ok : goal.returns-clause-ok
returns-clause-ok g c = g.met.S.Sink.follows_same _ _ _ _ c.reserve.ensures.same c.add_key.ensures.adds
