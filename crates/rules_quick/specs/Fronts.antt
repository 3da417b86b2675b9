-- What is told before the lines of a plain request, and behind them.
use Rattle.std.specs.Prelude.{◌≡◌, ℕ, ◌+◌, ◌-◌, ◌≤◌, true, false, List, [], ◌∷◌, ◌++◌, length, take, codes, bytes_eq}
use Rattle.std.specs.Option.{option_map_or}
use Rattle.rules_fields.specs.Texts.{small}
use Rattle.rules_fields.specs.Tables.{among}
use Rattle.rules_fields.specs.Fields.{field}
use Rattle.rules_fields.specs.Types.{Chosen}
use Rattle.rules_ffi_arguments.specs.Rooms.{line_text}
use Rattle.rules_ffi_results.specs.Numbers.{mark}
use Rattle.rules_ffi_arguments.specs.declared.shapes.RequestShape.{RequestShape}
use Rattle.http1_message_parts.specs.Target.{names_host}
use Rattle.rules_quick.specs.Plain.{start_text, is_passed, is_plain_method, is_plain_target, is_plain_connection, is_plain_choice, IsPlainBut, says_close}
use Rattle.rules_quick.specs.Requests.{plain_shape}
use Rattle.rules_quick.specs.declared.walk.Reading.{Reading}
use Rattle.http1_message_parts.specs.Host.{is_host, normal_host}
use Rattle.rules_quick.specs.declared.front.Front.{Front}
use Rattle.rules_quick.specs.declared.plain.Ends.{Ends}

abbrev pub front_text : List ℕ → Front → List ℕ
front_text scheme f =
    let host = normal_host scheme f.host.value.now in
    f.start.method.now ++ host ++ f.start.target.now ++ (scheme ++ codes "://" ++ host ++ f.start.target.now)

pub record AreEnds (scheme : List ℕ) (f : Front) (e : Ends) : Type 0 where
  pub of_method : e.method ≡ length f.start.method.now
  pub of_host : e.host ≡ length f.start.method.now + length (normal_host scheme f.host.value.now)
  pub of_target : e.target ≡ length f.start.method.now + length (normal_host scheme f.host.value.now) + length f.start.target.now
  pub of_key : e.key ≡ length (front_text scheme f)

-- what Connection said
abbrev pub connection_of : Reading → List (List ℕ)
connection_of at = option_map_or (λ v. v.now ∷ []) at.connection []

-- a text with the last run
abbrev pub lines_text : List ℕ → Reading → List ℕ
lines_text text at = text ++ take (length at.run.now - length at.left.now) at.run.now

-- at the empty line the rest is told
pub record IsEnd (text asked bytes method : List ℕ) (e : Ends) (at : Reading) (o : Chosen) (new : List ℕ) (shape : RequestShape) : Type 0 where
  pub used : ℕ
  pub used_is : used + length at.left.now ≡ length bytes + 2
  pub head_within : used ≤ o.most_head
  pub line_within : used ≤ o.most_line
  pub connection_is : is_plain_connection (connection_of at) ≡ true
  pub text_is : new ≡ lines_text text at ++ asked
  pub shape_is : shape
      ≡ plain_shape e.method e.host e.target e.key (length (lines_text text at)) (length (lines_text text at) + length asked)
      (mark (says_close (connection_of at)) 1 + mark (bytes_eq method (codes "HEAD")) 8) used

-- what comes first in bytes is as in a plain request, within the operator's bounds
pub record IsFront (bytes : List ℕ) (f : Front) (o : Chosen) : Type 0 where
  pub come : bytes ≡ start_text f.start.method.now f.start.target.now ++ (13 ∷ 10 ∷ f.lines.now)
  pub lines_are : f.lines.now ≡ line_text (field f.host) ++ f.behind.now
  pub behind_within : length f.behind.now ≤ length f.lines.now
  pub lines_within : length f.lines.now ≤ length bytes
  pub method_is : is_plain_method f.start.method.now ≡ true
  pub target_is : is_plain_target f.start.target.now ≡ true
  pub host_line : IsPlainBut (field f.host)
  pub named_host : small f.host.name.now ≡ codes "host"
  pub host_is : is_host f.host.value.now ≡ true
  pub served : names_host o.hosts o.scheme (normal_host o.scheme f.host.value.now) ≡ true
  pub host_passed : is_passed o.drops (field f.host) ≡ true
  pub choice : is_plain_choice o ≡ true
  pub unrefused : among o.refuses f.start.method.now ≡ false
  pub start_within : length (start_text f.start.method.now f.start.target.now) ≤ o.most_target
