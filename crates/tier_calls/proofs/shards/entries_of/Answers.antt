use Rattle.std.proofs.Common.{◌≡◌, ap, subst}
use Rattle.std.specs.Prelude.{map, IfOk}
use Rattle.cache_evict.specs.Managed.{Managed, rows_at}
use Rattle.tier_model.specs.State.{Settings}
use Rattle.tier_calls.proofs.EntryLaws.{entries_in, entries-there}
use Rattle.tier_calls.proofs.shards.entries_of.Goals as goal

pub returns-then-shard-clause-some : goal.returns-then-shard-clause-some
returns-then-shard-clause-some g c = (
  entries_in c.args.shard c.args.tier.now,
  entries-there g.row.N c.args.shard c.args.tier.now (ap (λ (s : Settings). s.shards) c.options-options.ensures) c.if-shard.true,
  subst (λ (m : Managed). IfOk c.entries.result (λ v. v.items ≡ map (λ r. r.entry) (rows_at m.shards c.args.shard))) c.manager.ensures.same c.entries.ensures,
)
