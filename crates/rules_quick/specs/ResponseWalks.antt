-- The lines of a plain response that were read so far.
use Rattle.std.specs.Prelude.{◌≡◌, ℕ, ◌+◌, ◌≤◌, ◌-◌, true, List, [], ◌∷◌, ◌++◌, length, take, codes, Some}
use Rattle.std.specs.List.{list_all}
use Rattle.std.specs.Option.{option_map_or}
use Rattle.rules_fields.specs.Fields.{Field, all}
use Rattle.rules_fields.specs.Types.{Chosen}
use Rattle.rules_fields.specs.declared.types.Framing.{Framing}
use Rattle.rules_ffi_arguments.specs.Rooms.{block}
use Rattle.rules_ffi_arguments.specs.declared.shapes.ResponseShape.{ResponseShape}
use Rattle.rules_quick.specs.Plain.{is_plain_line, is_plain_connection, says_close}
use Rattle.rules_quick.specs.PlainResponses.{watched, staying, plain_framing, added, has_any, ends, plain_shape}
use Rattle.rules_quick.specs.declared.response_walk.Lines.{Lines}

-- a text that grows, a run of lines that weren't added yet with what follows it, what is left, the values of four fields, and how many lines may still come
pub record Stand : Type 0 where
  pub text : List ℕ
  pub run : List ℕ
  pub left : List ℕ
  pub connection : List (List ℕ)
  pub lengths : List (List ℕ)
  pub codings : List (List ℕ)
  pub dates : List (List ℕ)
  pub room : ℕ

abbrev pub stand : List ℕ → Lines → Stand
stand text at = record {
  text = text;
  run = at.run.now;
  left = at.left.now;
  connection = option_map_or (λ v. v.now ∷ []) at.connection [];
  lengths = option_map_or (λ v. v.now ∷ []) at.length [];
  codings = option_map_or (λ v. v.now ∷ []) at.coding [];
  dates = option_map_or (λ v. v.now ∷ []) at.date [];
  room = at.room;
}

-- lines stand in front of what is left: those that go on are in the text, or stand at the front of the run
pub record Walked (behind : List ℕ) (most : ℕ) (s : Stand) : Type 0 where
  pub lines : List Field
  pub come : behind ≡ block lines ++ s.left
  pub plain : list_all (is_plain_line watched) lines ≡ true
  pub connection_is : all (codes "connection") lines ≡ s.connection
  pub lengths_are : all (codes "content-length") lines ≡ s.lengths
  pub codings_are : all (codes "transfer-encoding") lines ≡ s.codings
  pub dates_are : all (codes "date") lines ≡ s.dates
  pub one_date : length s.dates ≤ 1
  pub counted : length lines + s.room ≡ most
  pub kept : s.text ++ s.run ≡ block (staying lines) ++ s.left

-- whatever stood in front, there is more of it
abbrev pub GoesOn : Stand → Stand → Type 0
GoesOn s t = (behind : List ℕ) (most : ℕ) → Walked behind most s → Walked behind most t

-- at the empty line the rest is told
pub record IsEnd (bytes : List ℕ) (minor status : ℕ) (date : List ℕ) (s : Stand) (o : Chosen) (new : List ℕ) (shape : ResponseShape) : Type 0 where
  pub used : ℕ
  pub framing : Framing
  pub used_is : used + length s.left ≡ length bytes + 2
  pub head_within : used ≤ o.most_head
  pub connection_is : is_plain_connection s.connection ≡ true
  pub framing_is : plain_framing minor status s.lengths s.codings ≡ Some framing
  pub text_is : new ≡ (s.text ++ take (length s.run - length s.left) s.run) ++ block (added minor o.name date s.dates)
  pub shape_is : shape ≡ plain_shape minor status framing (ends minor (says_close s.connection) framing) (has_any s.dates) (length new) used
