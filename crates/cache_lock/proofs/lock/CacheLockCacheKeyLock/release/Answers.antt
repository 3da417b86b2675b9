use Rattle.std.proofs.Common.{◌≡◌, true, false, arith, rules}
use Rattle.std.specs.Prelude.{nat_le}
use Rattle.cache_words.specs.Key.{key_of, combined}
use Rattle.cache_lock.proofs.ReleaseLaws.{last_told, shared_told}
use Rattle.cache_lock.proofs.lock.CacheLockCacheKeyLock.release.Goals as goal

pub returns-in-Some : goal.returns-in-Some
returns-in-Some g c =
    let few : nat_le c.in-Some.held.names 1 ≡ true = search (rules, arith) in
    last_told c.args.permit.number (combined (key_of c.args.key.now)) c.args.reason c.args.self.now c.combined_bin-key.result c.in-Some.held c.take_last.new.self c.release_last.new.self c.combined_bin-key.ensures
    c.in-Some.ensures.was few c.take_last.ensures.left c.release_last.ensures

pub returns-in-Some-2 : goal.returns-in-Some-2
returns-in-Some-2 g c =
    let more : nat_le c.in-Some.held.names 1 ≡ false = search (rules, arith) in
    shared_told c.args.permit.number (combined (key_of c.args.key.now)) c.args.reason c.args.self.now c.combined_bin-key.result c.in-Some.held c.take_last.new.self c.release_shared.new.self c.combined_bin-key.ensures
    c.in-Some.ensures.was more c.take_last.ensures.left c.release_shared.ensures
