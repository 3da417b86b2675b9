use Rattle.std.proofs.Common.{ap, ◌∙◌, not, ◌==◌}
use Rattle.rules_storage.specs.Judge.{reason_of}
use Rattle.rules_storage.proofs.Clean.{same_table}
use Rattle.rules_storage.proofs.judging.reason_of.Goals as goal

pub returns : goal.returns
unfolding reason_of
returns c =
    c.first_true.ensures
    ∙ same_table (c.args.response.now.status == 206) (c.args.response.now.status == 304)
    (ap not c.is_get.ensures) c.is_out_of_range.ensures c.is_never_stored.ensures c.in_ok-forbidden.ensures c.lacks_understanding.ensures c.forbids_store.ensures
    c.is_private.ensures c.in_ok-unkeyed.ensures c.is_closed.ensures c.has_too_many_lines.ensures c.has_cookie.ensures (ap not c.has_freshness.ensures) (ap not c.in_ok-usable.ensures)
