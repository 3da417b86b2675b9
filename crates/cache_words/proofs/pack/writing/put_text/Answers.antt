use Rattle.cache_words.proofs.pack.writing.put_text.Goals as goal

pub returns-then-text-clause-err : goal.returns-then-text-clause-err
returns-then-text-clause-err g c = g.met.S.Sink.same_self c.args.out.now
