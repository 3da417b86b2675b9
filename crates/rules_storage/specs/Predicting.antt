-- What a response that isn't stored says of the next one of its key.
use Rattle.std.specs.Prelude.{Bool, true, false, not, ◌&&◌, ◌||◌, codes}
use Rattle.rules_fields.specs.Fields.{has_line}
use Rattle.rules_fields.specs.Types.{Asked}
use Rattle.rules_storage.specs.declared.reason.Reason.{Reason}
use Rattle.rules_storage.specs.declared.reason.Reason.TheVariants.{NoStore, Private, VaryAny, TooManyLines}

-- a reason that an origin has for each response of a page
abbrev pub is_lasting : Reason → Bool
is_lasting NoStore = true
is_lasting Private = true
is_lasting VaryAny = true
is_lasting TooManyLines = true
is_lasting _ = false

-- the request says who asks, which may be why
abbrev pub is_personal : Asked → Bool
is_personal r = has_line (codes "authorization") r.lines || has_line (codes "cookie") r.lines

-- the next response of this key won't be stored either: it isn't worth waiting for
abbrev pub predicts_uncacheable : Reason → Asked → Bool
predicts_uncacheable why r = is_lasting why && not (is_personal r)
