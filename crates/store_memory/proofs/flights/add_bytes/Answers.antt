use Rattle.std.proofs.Common.{rules, sym, ◌∙◌, ap}
use Rattle.std.specs.Option.{option_copied_mut}
use Rattle.std.specs.Map.{set_value}
use Rattle.std.specs.BTreeMap.{is_at}
use Rattle.std.specs.Ordering.{nat_cmp}
use Rattle.std.proofs.lemmas.Result.{on_ok_weaker, on_err_weaker}
use Rattle.store_memory.proofs.FlightLaws.{put_back, appended}
use Rattle.store_memory.proofs.flights.add_bytes.Goals as goal

pub returns-clause-err : goal.returns-clause-err
returns-clause-err c = on_err_weaker c.append.result
    (λ h. put_back c.args.number c.args.flights.now (c.get_mut.follows.lender _) c.unwrap.result.now c.get_mut.ensures.ordered
    (sym c.get_mut.ensures.value ∙ ap option_copied_mut c.unwrap.ensures)
    ((c.get_mut.follows.holds _).0 ∙ ap (set_value (is_at (nat_cmp c.args.number)) c.args.flights.now.entries) h))
    c.append.ensures.err

pub returns-clause-ok : goal.returns-clause-ok
returns-clause-ok c = on_ok_weaker c.append.result
    (λ h. appended c.args.number c.args.more c.args.eof c.args.flights.now (c.get_mut.follows.lender _) c.unwrap.result.now c.get_mut.ensures.ordered
    (sym c.get_mut.ensures.value ∙ ap option_copied_mut c.unwrap.ensures) (search rules)
    ((c.get_mut.follows.holds _).0 ∙ ap (set_value (is_at (nat_cmp c.args.number)) c.args.flights.now.entries) h))
    c.append.ensures.ok
