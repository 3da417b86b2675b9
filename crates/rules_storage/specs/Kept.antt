-- What of a response is stored.
use Rattle.std.specs.Prelude.{ℕ, Bool, List, [], ◌∷◌, ◌++◌, codes, Option, Some, None, Result, Ok, Err}
use Rattle.std.specs.Fmt.{decimal}
use Rattle.rules_fields.specs.Fields.{Field, fields}
use Rattle.rules_fields.specs.Types.{KeptHead}
use Rattle.rules_storage.specs.declared.reason.Reason.{Reason}
use Rattle.rules_storage.specs.declared.kept.Stored.{Stored}
use Rattle.rules_storage.specs.declared.kept.Judged.{Judged}
use Rattle.rules_storage.specs.declared.kept.Judged.TheVariants.{Kept, Refused}

-- a stated length, as a line
abbrev pub with_length : Option ℕ → List Field
with_length None = []
with_length (Some n) = (codes "Content-Length", decimal n) ∷ []

-- what is stored, with its length as a line
abbrev pub stored_head : Stored → KeptHead
stored_head k = record {
  status = k.status;
  lines = fields k.lines.items ++ with_length k.length;
  arrival = k.arrival;
  lifetime = k.lifetime;
  stale_while_revalidate = k.stale_while_revalidate;
  stale_if_error = k.stale_if_error;
}

-- a judgement: what is stored, or why not, and whether what was found goes
abbrev pub judged : Judged → Result KeptHead (Reason × Bool)
judged (Kept k) = Ok (stored_head k)
judged (Refused why removes) = Err (why, removes)
