-- What the reader tells is what the rules say.
use Rattle.std.proofs.Common.{◌≡◌, ℕ, ◌+◌, ◌-◌, ◌<◌, ◌≤◌, true, List, [], ◌∷◌, ◌++◌, drop, length, refl, sym, ap, ◌∙◌, arith}
use Rattle.rules_fields.specs.Fields.{field}
use Rattle.rules_fields.specs.Types.{Chosen}
use Rattle.http1_message.specs.Request.{read_request}
use Rattle.rules_ffi_arguments.specs.Rooms.{line_text}
use Rattle.rules_ffi_arguments.specs.declared.shapes.RequestShape.{RequestShape}
use Rattle.std.specs.Prelude.{bytes_eq, codes}
use Rattle.http1_message_parts.specs.Host.{normal_host}
use Rattle.rules_ffi_results.specs.Numbers.{mark}
use Rattle.rules_quick.specs.Plain.{start_text, says_close, is_over}
use Rattle.rules_quick.specs.Requests.{plain_shape, told_heard}
use Rattle.rules_quick.specs.Walked.{stand, Walked, GoesOn}
use Rattle.rules_quick.specs.Fronts.{front_text, AreEnds, lines_text, connection_of, IsEnd, IsFront}
use Rattle.rules_quick.specs.declared.front.Front.{Front}
use Rattle.rules_quick.specs.declared.plain.Ends.{Ends}
use Rattle.rules_quick.specs.declared.walk.Reading.{Reading}
use Rattle.rules_quick.proofs.Ending.{ending, over_is, begun}

same : (a b c d lines asked marks used a' b' c' d' : ℕ) → a' ≡ a → b' ≡ b → c' ≡ c → d' ≡ d → plain_shape a b c d lines asked marks used ≡ plain_shape a' b' c' d' lines asked marks used
same a b c d lines asked marks used a' b' c' d' e f g h = rw (e, f, g, h) refl

left_len : (used : ℕ) (bytes left : List ℕ) → used + length left ≡ length bytes + 2 → left ≡ 13 ∷ 10 ∷ drop 2 left → used + length (drop 2 left) ≡ length bytes
left_len used bytes left e l = omega (arith, e, ap (λ (x : List ℕ). length x) l)

by_end : (bytes : List ℕ) (f : Front) (o : Chosen) (e : Ends) (text asked : List ℕ) (at : Reading) (new : List ℕ) (shape : RequestShape) (most : ℕ) → IsFront bytes f o → AreEnds o.scheme f e
    → Walked o.drops f.behind.now most (front_text o.scheme f ++ line_text (field f.host)) [] (stand text asked at) → is_over at.left.now ≡ true → length at.left.now ≤ length at.run.now
    → IsEnd text asked bytes f.start.method.now e at o new shape → most + 1 ≤ o.most_lines → told_heard (read_request bytes o) o ≡ (new, shape)
by_end bytes f o e text asked at new shape most p ends w over within d count =
    let left = over_is at.left.now over in
    let m = length f.start.method.now in
    let h = length (normal_host o.scheme f.host.value.now) in
    let t = length f.start.target.now in
    let key = length (front_text o.scheme f) in
    let lines = length (lines_text text at) in
    let marks = mark (says_close (connection_of at)) 1 + mark (bytes_eq f.start.method.now (codes "HEAD")) 8 in
    ending f.start.method.now f.start.target.now bytes f.behind.now (drop 2 at.left.now) (field f.host) o d.used most (stand text asked at) (record {
      method_is = p.method_is;
      target_is = p.target_is;
      host_line = p.host_line;
      named_host = p.named_host;
      host_is = p.host_is;
      served = p.served;
      host_passed = p.host_passed;
      choice = p.choice;
      unrefused = p.unrefused;
      start_within = p.start_within;
      head_within = d.head_within;
      line_within = d.line_within;
    }) (p.come ∙ ap (λ (x : List ℕ). start_text f.start.method.now f.start.target.now ++ (13 ∷ 10 ∷ x)) p.lines_are) w left within (left_len d.used bytes at.left.now d.used_is left) count d.connection_is (lines_text text at) refl
    ∙ ap (λ (x : List ℕ). (x, plain_shape m (m + h) (m + h + t) key lines (lines + length asked) marks d.used)) (sym d.text_is)
    ∙ ap (λ (x : RequestShape). (new, x)) (same m (m + h) (m + h + t) key lines (lines + length asked) marks d.used e.method e.host e.target e.key ends.of_method ends.of_host ends.of_target ends.of_key ∙ sym d.shape_is)

pub law : (bytes : List ℕ) (f : Front) (o : Chosen) (e : Ends) (text old_asked new_text asked slice : List ℕ) (at : Reading) (new : List ℕ) (shape : RequestShape) → IsFront bytes f o
    → AreEnds o.scheme f e → text ≡ front_text o.scheme f → old_asked ≡ [] → GoesOn o.drops (record { text = text; asked = old_asked; run = f.lines.now; left = f.behind.now; connection = []; room = o.most_lines - 1 }) (stand new_text asked at)
    → is_over at.left.now ≡ true → length at.left.now ≤ length at.run.now → slice ≡ asked → IsEnd new_text slice bytes f.start.method.now e at o new shape → 0 < o.most_lines
    → told_heard (read_request bytes o) o ≡ (new, shape)
law bytes f o e text old_asked new_text asked slice at new shape p ends t a goes over within sl d room =
    by_end bytes f o e new_text asked at new shape (o.most_lines - 1) p ends
    (goes f.behind.now (o.most_lines - 1) (front_text o.scheme f ++ line_text (field f.host)) []
    (rw (t, a) (begun o.drops f.behind.now (front_text o.scheme f) f.lines.now (field f.host) (o.most_lines - 1) p.lines_are))) over within (rw sl at d) (omega arith)
