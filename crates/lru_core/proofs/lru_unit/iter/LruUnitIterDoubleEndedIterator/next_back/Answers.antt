use Rattle.std.proofs.Common.{◌≡◌, ◌+◌, length, rules, sym, ap, ◌∙◌}
use Rattle.std.specs.Option.{option_copied}
use Rattle.std.proofs.lemmas.List.{length_push}
use Rattle.lru_core.specs.Rows.{pairs_in, pair_of}
use Rattle.lru_core.proofs.Pairs.{last_pair}
use Rattle.lru_core.proofs.lru_unit.iter.LruUnitIterDoubleEndedIterator.next_back.Goals as goal

pub returns-clause-steps : goal.returns-clause-steps
returns-clause-steps g c = rw (← c.self.view_is, c.in_ok-slot.ensures.steps) (last_pair c.in_ok-slot.slot.now c.next_back.new.self c.unwrap-row.result.now (sym c.as_ref.ensures.value ∙ ap option_copied c.unwrap-row.ensures))

pub returns-clause-goes : goal.returns-clause-goes
returns-clause-goes g c =
    let s : length c.args.self.now ≡ length (pairs_in c.next_back.new.self) + 1 =
    rw (← c.self.view_is, c.in_ok-slot.ensures.steps) (ap length (last_pair c.in_ok-slot.slot.now c.next_back.new.self c.unwrap-row.result.now (sym c.as_ref.ensures.value ∙ ap option_copied c.unwrap-row.ensures)) ∙ length_push (pairs_in c.next_back.new.self) (pair_of c.unwrap-row.result.now)) in
    search rules
