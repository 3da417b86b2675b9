use Rattle.gateway_rules.specs.Options.{with_secret}
use Rattle.gateway_rules.proofs.Chosen.{are_prepared}
use Rattle.gateway_rules.proofs.laws.options_say_what_words_say.Goals as goal

pub returns-clause-all : goal.returns-clause-all
returns-clause-all c = λ n words secret o e. c.prepared_words_say_the_same.ensures.say_the_same (with_secret words secret) o.words (are_prepared n words secret o e).all

pub returns-clause-in_flight : goal.returns-clause-in_flight
returns-clause-in_flight c = λ n words secret o e. c.prepared_words_say_the_same.ensures.say_the_same words o.one_words (are_prepared n words secret o e).one
