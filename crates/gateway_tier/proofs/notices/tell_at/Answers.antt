use Rattle.std.proofs.Common.{sym, ◌∙◌}
use Rattle.std.specs.Prelude.{option_copied}
use Rattle.gateway_tier.specs.Notices.{IsToldAt}
use Rattle.gateway_tier.proofs.Changed.{changed_at}
use Rattle.gateway_tier.proofs.Told.{same_number}
use Rattle.gateway_tier.proofs.notices.tell_at.Goals as goal

pub returns-in-Some-clause-told : goal.returns-in-Some-clause-told
returns-in-Some-clause-told c =
    let told : IsToldAt (option_copied c.args.key) c.args.notice.now c.in-Some.e.value c.tell_if.new.e = rw c.deref_mut.ensures.value at c.tell_if.ensures in
    changed_at (IsToldAt (option_copied c.args.key) c.args.notice.now) c.args.y c.args.g.now.table c.take.new.self _ c.in-Some.e.value c.tell_if.new.e (sym c.in-Some.ensures.taken)
    (same_number (option_copied c.args.key) c.args.notice.now c.in-Some.e.value c.tell_if.new.e told ∙ c.in-Some.ensures.numbered) c.take.ensures.left told c.put_back.ensures
