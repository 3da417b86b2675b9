use Rattle.std.proofs.Common.{◌≡◌, rules}
use Rattle.curve_keys.proofs.ReadLaws.{told-inserted}
use Rattle.curve_keys.proofs.told.Lifetimes.tell.Goals as goal

pub returns-clause-told : goal.returns-clause-told
returns-clause-told c =
    let items : c.extend_from_slice.new.self.items ≡ c.args.key.now = search rules in
    told-inserted c.args.self.now (record { table = c.insert.new.self }) c.extend_from_slice.new.self c.args.key.now c.args.lifetime items c.in_ok-insert.ensures.updates
