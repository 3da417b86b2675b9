use Rattle.cache_store.proofs.LookLaws.{look-shown, body-shown, shows-body}
use Rattle.cache_store.proofs.laws.a_look_up_shows_what_it_is_to.Goals as goal

pub returns-clause-shown : goal.returns-clause-shown
returns-clause-shown c = λ k s. look-shown k s

pub returns-clause-whole : goal.returns-clause-whole
returns-clause-whole c = λ k s x. (body-shown k s x, λ p. shows-body k s x p.0 p.1)
