use Rattle.cache_words.proofs.key.display.show.Goals as goal

pub returns-in-Some : goal.returns-in-Some
returns-in-Some g c = rw (← c.in-Some.ensures, ← c.primary_bin.ensures, ← c.user_tag-user_tag.ensures) c.write.ensures.writes

pub returns-in-None : goal.returns-in-None
returns-in-None g c = rw (← c.in-None.ensures, ← c.primary_bin.ensures, ← c.user_tag-user_tag.ensures) c.write-in-None.ensures.writes
