use Rattle.std.proofs.Common.{sym, ◌∙◌, Some, None}
use Rattle.tier_served.proofs.Seeing.{seen-purge, seen-get}
use Rattle.tier_served.proofs.seen.see.Goals as goal

-- src/seen.rt:28:1
pub returns-in-Purge : goal.returns-in-Purge
returns-in-Purge c = seen-purge c.args.request.now c.in_ok-to_compact.field-0 c.key_only-entry.result c.in_ok-to_compact.ensures c.key_only-entry.ensures c.in-Purge.is

-- src/seen.rt:28:1
pub returns-in-Some : goal.returns-in-Some
returns-in-Some c =
    let s = c.in_ok-weight-in-Get.ensures in
    seen-get c.args.request.now c.in_ok-to_compact.field-0 c.key_only-entry.result c.in_ok-to_compact.ensures c.key_only-entry.ensures c.in-Get.response (Some c.in-Some.weight) c.in-Get.is
    (s.0, s.1, sym c.in-Some.is ∙ s.2)

-- src/seen.rt:28:1
pub returns-in-None : goal.returns-in-None
returns-in-None c =
    let s = c.in_ok-weight-in-Get.ensures in
    seen-get c.args.request.now c.in_ok-to_compact.field-0 c.key_only-entry.result c.in_ok-to_compact.ensures c.key_only-entry.ensures c.in-Get.response None c.in-Get.is (s.0, s.1, sym c.in-None.is ∙ s.2)
