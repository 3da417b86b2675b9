use Rattle.std.proofs.Common.{◌∙◌, sym, ap, ◌+◌, ℕ}
use Rattle.lru_core.proofs.Evictions.{step_gives}
use Rattle.lru_numbers.specs.Names.{name_at}
use Rattle.cache_evict.proofs.GoneLaws.{over, IsNumbered-gone, goes_last, entry_gone, if_none, is_there, if_some, on_some, not_there}
use Rattle.cache_evict.proofs.CountLaws.{counts}
use Rattle.cache_evict.proofs.tracker.Tracker.evict_step.Goals as goal

pub returns-in_err-number-clause-there : goal.returns-in_err-number-clause-there
returns-in_err-number-clause-there g c t =
    absurd (not_there c.evict_step.result (step_gives c.evict_step.result c.self.inside.core _ c.evict_step.ensures.none (sym (over (name_at c.self.inside.numbers) c.self.inside.core c.self.inside.evicted_size c.self.inside.evicted_items) ∙ rw (← c.self.view_is) at t)) c.in_err-number.was)

pub invariant_of-self-2 : goal.invariant_of-self-2
invariant_of-self-2 g c =
    IsNumbered-gone g.row.N (name_at c.self.inside.numbers) (name_at c.give_back.new.self) c.self.inside.core c.evict_step.new.self c.args.a c.args.b (c.in_ok-number.number, c.in_ok-number.weight) 0 0 c.self.invariant c.in_ok-number.ensures.some c.give_back.ensures.after

pub returns-clause-none : goal.returns-clause-none
returns-clause-none g c =
    let e = entry_gone g.row.N (name_at c.self.inside.numbers) (name_at c.give_back.new.self) c.self.inside.core c.evict_step.new.self c.args.a c.args.b (c.in_ok-number.number, c.in_ok-number.weight) 0 0 c.self.invariant c.in_ok-number.ensures.some c.give_back.ensures.after in
    if_none c.give_back.result e.0 _ (c.give_back.ensures.value ∙ e.1)

pub returns-clause-there : goal.returns-clause-there
returns-clause-there g c t =
    let e = entry_gone g.row.N (name_at c.self.inside.numbers) (name_at c.give_back.new.self) c.self.inside.core c.evict_step.new.self c.args.a c.args.b (c.in_ok-number.number, c.in_ok-number.weight) 0 0 c.self.invariant c.in_ok-number.ensures.some c.give_back.ensures.after in
    is_there c.give_back.result e.0 (c.give_back.ensures.value ∙ e.1)

pub returns-clause-some : goal.returns-clause-some
returns-clause-some g c =
    rw (← c.self.view_is) (if_some c.give_back.result _ (λ x p. (
      over (name_at c.self.inside.numbers) c.self.inside.core c.self.inside.evicted_size c.self.inside.evicted_items ∙ c.in_ok-number.ensures.some.0,
      goes_last g.row.N (name_at c.self.inside.numbers) (name_at c.give_back.new.self) c.self.inside.core c.evict_step.new.self c.args.a c.args.b (c.in_ok-number.number, c.in_ok-number.weight) c.self.inside.evicted_size c.self.inside.evicted_items
          c.self.invariant c.in_ok-number.ensures.some c.give_back.ensures.after x c.saturating_add-self-inside.result c.saturating_add-self-inside-2.result (sym c.give_back.ensures.value ∙ p) c.saturating_add-self-inside.ensures c.saturating_add-self-inside-2.ensures,
    )))

pub returns-clause-less : goal.returns-clause-less
returns-clause-less g c =
    rw (← c.self.view_is) (on_some c.give_back.result _ (
    ap (λ (m : ℕ). m + 1) (counts (name_at c.give_back.new.self) c.evict_step.new.self.shards) ∙ c.in_ok-number.ensures.less ∙ sym (counts (name_at c.self.inside.numbers) c.self.inside.core.shards)))
