use Rattle.std.proofs.Common.{◌≡◌, ap, ◌∙◌, inl}
use Rattle.cache_words.specs.Blake.{blake2b_128}
use Rattle.gateway_exchanges.specs.Replies.{reply_of, with_event, Reply}
use Rattle.gateway_exchanges.specs.declared.outs.Event.{Event}
use Rattle.gateway.proofs.purges.purge_key.Goals as goal

pub returns-in-Ok : goal.returns-in-Ok
returns-in-Ok c =
    let told : reply_of c.remove.new.out ≡ record (with_event (Event.Purged (blake2b_128 c.args.key.now)) (reply_of c.answer-out.result)) { wakes = (reply_of c.remove.new.out).wakes } =
    rw c.hash_key.ensures at c.in-Ok.ensures.told
    in
    record {
      each = rw c.hash_key.ensures at c.in-Ok.ensures.purged;
      told = inl (
        rw c.hash_key.ensures at c.in-Ok.ensures.found,
        ap (λ (r : Reply). record r { found = c.in-Ok.found })
            (told ∙ ap (λ (r : Reply). record (with_event (Event.Purged (blake2b_128 c.args.key.now)) r) { wakes = (reply_of c.remove.new.out).wakes }) c.answer-out.ensures),
      );
    }
