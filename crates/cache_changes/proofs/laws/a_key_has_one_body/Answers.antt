use Rattle.cache_changes.proofs.BodyLaws.{body_now-is, body_now-of}
use Rattle.cache_changes.proofs.LaterLaws.{one_body, one_shown}
use Rattle.cache_changes.proofs.laws.a_key_has_one_body.Goals as goal

pub returns-clause-body : goal.returns-clause-body
returns-clause-body g c = λ k v w changes o a b. one_body k v w changes o a b

pub returns-clause-shown : goal.returns-clause-shown
returns-clause-shown g c = λ k v w changes o a b. one_shown k v w changes o a b

pub returns-clause-now : goal.returns-clause-now
returns-clause-now g c = λ k w changes o. (body_now-of k changes w o, body_now-is k changes w o)
