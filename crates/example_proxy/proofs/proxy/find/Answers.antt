use Rattle.example_proxy.proofs.Found.{finds-some, finds-none, finds-fault, no_words}
use Rattle.example_proxy.proofs.proxy.find.Goals as goal

pub returns-in-Ok-Some : goal.returns-in-Ok-Some
returns-in-Ok-Some c = finds-some c.args.tier.now c.hit.new.self no_words c.args.moment _ c.args.key.now _ c.in-Ok-Some.hit c.in-Ok-Some.field-0-is (c.in-Ok-Some.ensures.takes no_words) c.in-Ok-Some.ensures.hit

pub returns-in-Ok-None : goal.returns-in-Ok-None
returns-in-Ok-None c = finds-none c.args.tier.now c.hit.new.self no_words c.args.moment _ c.args.key.now _ c.in-Ok-None.field-0-is (c.in-Ok-None.ensures.takes no_words) c.in-Ok-None.ensures.hit

pub returns-in-Err : goal.returns-in-Err
returns-in-Err c = finds-fault c.args.tier.now c.hit.new.self no_words c.args.moment _ c.args.key.now _ (c.in-Err.ensures.takes no_words)
