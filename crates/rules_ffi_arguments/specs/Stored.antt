-- What is stored of a response, as its head tells it.
use Rattle.std.specs.Prelude.{ℕ, ℤ, pos, int_lt, unsigned_abs, Bool, ◌+◌, ◌-◌, ◌^◌, ◌/◌, ◌==◌, min, nat_lt, if◌then◌else◌, List, Option, Some, None}
use Rattle.rules_fields.specs.Fields.{Field}
use Rattle.rules_fields.specs.Types.{KeptHead}
use Rattle.rules_ffi_arguments.specs.Given.{◌>>=◌}
use Rattle.rules_ffi_arguments.specs.Moments.{moment_at, nanoseconds_of}
use Rattle.rules_ffi_arguments.specs.Responses.{code_in}
use Rattle.rules_ffi_arguments.specs.declared.shapes.HeadShape.{HeadShape}
use Rattle.rules_ffi_arguments.specs.declared.shapes.MetaShape.{MetaShape}
use Rattle.rules_ffi_arguments.specs.declared.shapes.Moment.{Moment}

-- the whole seconds from the arrival on in which it is fresh, the last moment among them
abbrev pub lifetime_of : ℕ → ℕ → ℕ
lifetime_of arrival fresh_until = (min (fresh_until + 1) (2 ^ 64 - 1) - arrival) / 1000000000

abbrev pub kept_from : HeadShape → List Field → ℕ → KeptHead
kept_from h lines status = record {
  status = status;
  lines = lines;
  arrival = pos (nanoseconds_of h.updated);
  lifetime = lifetime_of (nanoseconds_of h.updated) (nanoseconds_of h.fresh_until);
  stale_while_revalidate = h.stale_while_revalidate;
  stale_if_error = h.stale_if_error;
}

-- none of a status that isn't one; its last word, by which a tier tells the length of a body, isn't looked at
unfoldable pub kept_by : HeadShape → List Field → Option KeptHead
kept_by h lines = code_in h.status >>= λ status. Some (kept_from h lines status)

-- until when it is fresh: second 0 of no lifetime, so that it is stale at every moment from second 1 on
abbrev pub later : Moment → ℕ → Moment
later m seconds = record { seconds = m.seconds + seconds; nanoseconds = m.nanoseconds }

abbrev pub fresh_until : ℕ → ℕ → Moment
fresh_until arrival lifetime = if lifetime == 0 then moment_at 0 else later (moment_at (arrival - 1)) (min lifetime (2 ^ 32))

abbrev pub meta_from : ℕ → ℕ → ℕ → ℕ → MetaShape
meta_from arrival lifetime stale_while_revalidate stale_if_error = record {
  fresh_until = fresh_until arrival lifetime;
  created = moment_at arrival;
  updated = moment_at arrival;
  provenance = moment_at arrival;
  stale_while_revalidate = min stale_while_revalidate (2 ^ 32 - 1);
  stale_if_error = min stale_if_error (2 ^ 32 - 1);
  external = 0;
  reserved = 0;
}

-- an arrival before second 1 is that one, and its lifetime 0
abbrev pub is_cut : ℤ → Bool
is_cut arrival = int_lt arrival (pos 1000000000)

abbrev pub arrived : ℤ → ℕ
arrived arrival = if nat_lt (unsigned_abs arrival) (2 ^ 64) then unsigned_abs arrival else 2 ^ 64 - 1

abbrev pub meta_of : ℤ → ℕ → ℕ → ℕ → MetaShape
meta_of arrival lifetime stale_while_revalidate stale_if_error =
    if is_cut arrival then meta_from 1000000000 0 stale_while_revalidate stale_if_error
    else meta_from (arrived arrival) lifetime stale_while_revalidate stale_if_error

-- the head that these times and a status make; its block is the caller's to set
abbrev pub head_of : ℕ → ℕ → MetaShape → HeadShape
head_of status lines meta = record {
  status = status;
  lines = lines;
  fresh_until = meta.fresh_until;
  created = meta.created;
  updated = meta.updated;
  provenance = meta.provenance;
  stale_while_revalidate = meta.stale_while_revalidate;
  stale_if_error = meta.stale_if_error;
  external = 0;
  block = record { at = 0; len = 0 };
  reserved = 0;
}
