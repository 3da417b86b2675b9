use Rattle.std.proofs.Common.{◌≡◌, ◌∙◌, rules}
use Rattle.cache_lock.proofs.Taken.{once}
use Rattle.cache_lock.proofs.table.by_key.ByKey.remove_both.Goals as goal

pub returns-else-ne : goal.returns-else-ne
returns-else-ne g c =
    let same : c.args.key.now ≡ c.args.other.now = search rules in
    c.remove_if.ensures.left ∙ once c.args.number c.args.key.now c.args.other.now c.args.self.now same
