-- The lines of a plain request that were read so far, behind Host's.
use Rattle.std.specs.Prelude.{◌≡◌, ℕ, ◌+◌, true, List, [], ◌∷◌, ◌++◌, length, codes}
use Rattle.std.specs.List.{list_all}
use Rattle.std.specs.Option.{option_map_or}
use Rattle.rules_fields.specs.Tables.{hop}
use Rattle.rules_fields.specs.Fields.{Field, all, without}
use Rattle.rules_ffi_arguments.specs.Rooms.{block}
use Rattle.rules_quick.specs.Plain.{watched, is_plain_line, is_passed}
use Rattle.rules_quick.specs.Requests.{asked_lines}
use Rattle.rules_quick.specs.declared.walk.Reading.{Reading}

-- two texts that grow, a run of lines that weren't added yet with what follows it, what is left, what Connection said, and how many lines may still come
pub record Stand : Type 0 where
  pub text : List ℕ
  pub asked : List ℕ
  pub run : List ℕ
  pub left : List ℕ
  pub connection : List (List ℕ)
  pub room : ℕ

abbrev pub stand : List ℕ → List ℕ → Reading → Stand
stand text asked at = record {
  text = text;
  asked = asked;
  run = at.run.now;
  left = at.left.now;
  connection = option_map_or (λ v. v.now ∷ []) at.connection [];
  room = at.room;
}

-- lines stand in front of what is left: those that go on are in the text, behind what was there, or stand at the front of the run
pub record Walked (drops : List (List ℕ)) (behind : List ℕ) (most : ℕ) (old old_asked : List ℕ) (s : Stand) : Type 0 where
  pub lines : List Field
  pub come : behind ≡ block lines ++ s.left
  pub plain : list_all (is_plain_line watched) lines ≡ true
  pub passed : list_all (is_passed drops) lines ≡ true
  pub no_host : all (codes "host") lines ≡ []
  pub connection_is : all (codes "connection") lines ≡ s.connection
  pub counted : length lines + s.room ≡ most
  pub kept : s.text ++ s.run ≡ (old ++ block (without hop lines)) ++ s.left
  pub asked_are : s.asked ≡ old_asked ++ block (asked_lines (without hop lines))

-- whatever stood in front, there is more of it
abbrev pub GoesOn : List (List ℕ) → Stand → Stand → Type 0
GoesOn drops s t = (behind : List ℕ) (most : ℕ) (old old_asked : List ℕ) → Walked drops behind most old old_asked s → Walked drops behind most old old_asked t
