use Rattle.std.proofs.Common.{sym, ap, ◌∙◌, ◌-◌, List, map}
use Rattle.std.proofs.lemmas.List.{map_push}
use Rattle.rules_fields.specs.Tags.{TagValue, behind_comma, tags_within}
use Rattle.rules_fields.specs.TagValues.{tag_value}
use Rattle.rules_fields.proofs.TagLists.{goes_on}
use Rattle.rules_fields.proofs.tags.more_tags.Goals as goal

pub loop-n-preserved : goal.loop-n-preserved
loop-n-preserved c =
    ap (λ (ts : List TagValue). tags_within (c.loop-n.n - 1) ts c.in-Some-behind_comma.rest.now) (ap (map tag_value) c.in_ok-push.ensures.items ∙ map_push tag_value c.loop-n.found.items c.in-Some.tag)
    ∙ sym (goes_on c.loop-n.n (map tag_value c.loop-n.found.items) c.loop-n.left.now (c.in-Some.tag, c.in-Some.rest) c.tag_at.result c.in-Some-behind_comma.rest c.behind_comma.result c.loop-n-test.true (sym c.is_empty.ensures ∙ c.if-is_empty.false) c.tag_at.ensures c.in-Some.is (c.behind_comma.ensures ∙ ap behind_comma c.skip_blanks.ensures) c.in-Some-behind_comma.is)
    ∙ c.loop-n.invariant
