use Rattle.cache_words.proofs.pack.writing.put_byte_string.Goals as goal

pub returns-then-bytes-clause-err : goal.returns-then-bytes-clause-err
returns-then-bytes-clause-err g c = g.met.S.Sink.same_self c.args.out.now

pub returns-clause-ok : goal.returns-clause-ok
returns-clause-ok g c =
    let s = g.met.S.Sink in
    s.follows_same _ _ _ _ c.reserve.ensures.same (s.joins _ _ _ _ _ c.add_bytes_head.ensures.adds c.put.ensures.adds)
