-- A tag as a value.
use Rattle.rules_fields.specs.Tags.{TagValue}
use Rattle.rules_fields.specs.declared.tags.Tag.{Tag}

abbrev pub tag_value : Tag → TagValue
tag_value t = (t.is_weak, t.text.now)
