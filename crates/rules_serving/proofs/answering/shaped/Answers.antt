use Rattle.std.proofs.Common.{◌≡◌, ℕ, suc, ◌+◌, ◌==◌, if◌then◌else◌, Bool, List, [], ◌∷◌, ◌++◌, refl, ap, ◌∙◌, map, length, length-append, arith}
use Rattle.rules_response.specs.Reply.{Piece, Reply, piece_of, reply_of}
use Rattle.rules_ffi_arguments.specs.Options.{has_mark}
use Rattle.rules_ffi_arguments.specs.Rooms.{behind}
use Rattle.rules_ffi_arguments.specs.declared.shapes.Span.{Span}
use Rattle.rules_ffi_arguments.specs.declared.shapes.PartShape.{PartShape}
use Rattle.rules_ffi_arguments.specs.declared.shapes.RequestShape.{RequestShape}
use Rattle.rules_ffi_arguments.specs.declared.shapes.How.{How}
use Rattle.rules_ffi_arguments.specs.declared.shapes.Out.{Out}
use Rattle.rules_ffi_results.specs.Numbers.{blank, mark}
use Rattle.rules_ffi_results.specs.Parts.{befores, part_shapes}
use Rattle.rules_ffi_results.specs.Sending.{Answered}
use Rattle.rules_serving.specs.Answers.{whole_head, pieces_of, reply_framing, closes, shaped}
use Rattle.rules_serving.proofs.answering.shaped.Goals as goal

length_shapes : (at : ℕ) (ps : List Piece) → length (part_shapes at ps) ≡ length ps
length_shapes at [] = refl
length_shapes at (p ∷ ps) = ap suc (length_shapes (at + length p.before) ps)

from_front : (n : ℕ) → n ≡ 0 + n
from_front n = omega arith

abbrev told_of : Reply → Out → ℕ → ℕ → ℕ → ℕ → ℕ → Out
told_of a b form len marks count to = record b { code = a.status; framing = form; length = len; marks = marks; parts = count; head = record { from = 0; to = to } }

-- from what each step gave, the text, what is told and the parts
made : (a : Reply) (q : RequestShape) (way : How) (b : Out) (form len count to m n : ℕ) (closing h : Bool) (ps : List Piece) (head front text after last : List ℕ) (shapes : List PartShape) (more : Span) (told : Out)
    → told ≡ (if length last == 0 then told_of a b form len (m + n) count to else record (told_of a b form len (m + n) count to) { more = more })
    → b ≡ blank 67 0 → more ≡ behind (length front) after → text ≡ front ++ after → shapes ≡ part_shapes (length head) ps → count ≡ length ps
    → m ≡ mark closing 1 → n ≡ mark h 8 → h ≡ has_mark q.marks 8 → to ≡ 0 + length head → front ≡ head ++ befores ps → ps ≡ pieces_of a
    → head ≡ whole_head a.status a.lines form closing → form ≡ (reply_framing a q.minor).0 → len ≡ (reply_framing a q.minor).1
    → closing ≡ closes q way → after ≡ a.after → last ≡ a.after
    → (let r : Answered = record { text = text; told = told; parts = shapes } in r) ≡ shaped a q way
made a q way b form len count to m n closing h ps head front text after last shapes more told e1 e2 e3 e4 e5 e6 e7 e8 e9 e10 e11 e12 e13 e14 e15 e16 e17 e18 =
    rw (e1, e2, e3, e4, e5, e6, e7, e8, e9, e10, e11)
    (rw (length-append head (befores ps)) (rw (e12, e13, e14, e15, e16, e17, e18) refl))

pub returns : goal.returns
returns c =
    let ps = map piece_of c.parts_of.result.now in
    let head = c.in_ok-text.text.items in
    made (reply_of c.args.answer.now) c.args.shape.now c.args.how.now c.blank.result c.framing_of-form.result.0 c.framing_of-form.result.1 c.len.result c.len-to.result
    c.mark.result c.mark-2.result c.ends-closes.result c.has_mark.result ps head c.add_parts.new.text.items c.add_text.new.text.items
    c.as_slice.result.now c.as_slice-2.result.now c.in_ok-parts.parts.items c.in_ok-more.more c.with_after-told.result
    c.with_after-told.ensures c.blank.ensures c.in_ok-more.ensures.span c.in_ok-more.ensures.text c.in_ok-parts.ensures.shapes
    (c.len.ensures ∙ c.in_ok-parts.parts.ok.0 ∙ ap length c.in_ok-parts.ensures.shapes ∙ length_shapes (length head) ps)
    c.mark.ensures.is c.mark-2.ensures.is c.has_mark.ensures (c.len-to.ensures ∙ c.in_ok-text.text.ok.0 ∙ from_front (length head)) c.in_ok-parts.ensures.text c.parts_of.ensures
    c.in_ok-text.ensures (ap (λ (p : ℕ × ℕ). p.0) c.framing_of-form.ensures) (ap (λ (p : ℕ × ℕ). p.1) c.framing_of-form.ensures)
    c.ends-closes.ensures c.as_slice.ensures.value c.as_slice-2.ensures.value
