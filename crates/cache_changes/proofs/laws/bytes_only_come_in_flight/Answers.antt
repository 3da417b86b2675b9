use Rattle.cache_changes.proofs.LaterLaws.{bytes-later, bytes-stay}
use Rattle.cache_changes.proofs.laws.bytes_only_come_in_flight.Goals as goal

pub returns-clause-more : goal.returns-clause-more
returns-clause-more g c = λ n since before. bytes-later n since before

pub returns-clause-same : goal.returns-clause-same
returns-clause-same g c = λ w since before o b landed. bytes-stay w since before o b landed
