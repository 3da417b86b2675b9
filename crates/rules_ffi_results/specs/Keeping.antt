-- What is told of what is stored of a response, or isn't. Bytes are numbers: 13 and 10 end a line.
use Rattle.std.specs.Prelude.{ℕ, ◌+◌, ◌-◌, ◌^◌, ℤ, Bool, min, List, ◌++◌, length, is_some}
use Rattle.rules_fields.specs.Types.{Answered, KeptHead, stated}
use Rattle.rules_storage.specs.declared.reason.Reason.{Reason}
use Rattle.rules_ffi_arguments.specs.Stored.{meta_of, head_of}
use Rattle.rules_ffi_arguments.specs.Rooms.{block, behind}
use Rattle.rules_ffi_arguments.specs.declared.shapes.Moment.{Moment}
use Rattle.rules_ffi_arguments.specs.declared.shapes.HeadShape.{HeadShape}
use Rattle.rules_ffi_arguments.specs.declared.shapes.MetaShape.{MetaShape}
use Rattle.rules_ffi_arguments.specs.declared.shapes.KeptShape.{KeptShape}
use Rattle.rules_ffi_results.specs.Numbers.{mark, nowhere}
use Rattle.rules_ffi_results.specs.Heads.{line_end, status_line, length_line}
use Rattle.rules_ffi_results.specs.Reasons.{reason_number}

abbrev pub no_moment : Moment
no_moment = record { seconds = 0; nanoseconds = 0 }

abbrev pub no_meta : MetaShape
no_meta = record {
  fresh_until = no_moment;
  created = no_moment;
  updated = no_moment;
  provenance = no_moment;
  stale_while_revalidate = 0;
  stale_if_error = 0;
  external = 0;
  reserved = 0;
}

abbrev pub no_head : HeadShape
no_head = head_of 0 0 no_meta

abbrev pub unkept : ℕ → ℕ → KeptShape
unkept status needed = record {
  status = status;
  needed = needed;
  reason = 0;
  removes = 0;
  predicts_uncacheable = 0;
  varies = 0;
  place = 0;
  meta = no_meta;
  shown = no_head;
  head = nowhere;
  block = nowhere;
  body = nowhere;
  reserved = 0;
}

-- the head that is stored
unfoldable pub stored_text : KeptHead → List ℕ
stored_text k = status_line k.status ++ block k.lines ++ line_end

-- the lines as they came, with the length that is stated
unfoldable pub shown_text : Answered → List ℕ
shown_text p = block p.lines ++ length_line (stated p.framing)

abbrev pub shown_count : Answered → ℕ
shown_count p = min (length p.lines + mark (is_some (stated p.framing)) 1) (2 ^ 64 - 1)

abbrev pub meta_from : KeptHead → MetaShape
meta_from k = meta_of k.arrival k.lifetime k.stale_while_revalidate k.stale_if_error

-- what is stored, and shown as it came; and whether what was found goes
abbrev pub keeping : KeptHead → Answered → Bool → Bool → List ℕ × KeptShape
keeping k p varies goes = (
  stored_text k ++ shown_text p,
  record (unkept 68 0) {
    varies = mark varies 1;
    removes = mark goes 1;
    meta = meta_from k;
    shown = head_of k.status (shown_count p) (meta_from k);
    head = behind 0 (stored_text k);
    block = behind (length (stored_text k)) (shown_text p);
  },
)

-- what isn't, and is shown as it came, stale from its arrival on
abbrev pub leaving : KeptShape → ℤ → Answered → List ℕ × KeptShape
leaving told arrived p =
    (shown_text p, record told { shown = head_of p.status (shown_count p) (meta_of arrived 0 0 0); block = behind 0 (shown_text p) })

-- it isn't stored, and why; whether what was found goes, and whether the next one won't be stored either
abbrev pub not_kept : Reason → Bool → Bool → KeptShape
not_kept reason removes predicts =
    record (unkept 69 0) { reason = reason_number reason; removes = mark removes 1; predicts_uncacheable = mark predicts 1 }
