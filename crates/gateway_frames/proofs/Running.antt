-- A part of a body, sent call by call.
use Rattle.std.proofs.Common.{◌≡◌, refl, sym, ap, ◌∙◌, subst, ℕ, ◌-◌, ◌^◌, ◌<◌, ◌≤◌, Bool, true, false, not, ◌&&◌, cond, nat_lt, is_none, List, [], ◌∷◌, ◌++◌, length, drop, slice_range, arith, length-take, length-drop}
use Rattle.std.proofs.lemmas.Bool.{ltb-true, ltb-false, leb-true}
use Rattle.std.specs.Prelude.{Option, Some, None}
use Rattle.std.specs.List.{list_all, concat}
use Rattle.gateway_frames.specs.declared.chunks.Framing.{Framing}
use Rattle.gateway_frames.specs.declared.pieces.NextPiece.{NextPiece}
use Rattle.gateway_frames.specs.Chunked.{is_line, trailer_section}
use Rattle.gateway_frames.specs.Frames.{end_text, sent_trailers}
use Rattle.gateway_frames.specs.Pieces.{is_complete, goes_on, is_sent, end_there, has_bytes, next_bytes, next_piece}
use Rattle.gateway_frames.specs.Runs.{View, IsOf, AreOf, BreaksOff, Run, goes_on_by, sending_at, run, bytes_in}
use Rattle.gateway_frames.specs.Sent.{sent, IsWhole, AreCounted, part_end}
use Rattle.gateway_frames.proofs.Ranges.{join, nothing}
use Rattle.gateway_frames.proofs.Reading.{left, right}
use Rattle.gateway_frames.proofs.Sending.{whole_reads}

-- what a call says of where it stands
abbrev Says : List ℕ → Option ℕ → ℕ → NextPiece → Type 0
Says body to place (NextPiece.Bytes from next) = (from ≡ place) × (place ≤ next) × (next ≤ part_end to body) × (next ≤ length body)
Says body to place NextPiece.End = part_end to body ≤ place
Says body to place NextPiece.Wait = Unit {0}
Says body to place NextPiece.Truncate = Unit {0}

sent_is : (body : List ℕ) (to : Option ℕ) (place : ℕ) (v : View) → is_sent (sending_at place to v) ≡ true → part_end to body ≤ place
sent_is body None place v h = absurd cc
sent_is body (Some t) place v h = leb-true t place h

there_is : (body : List ℕ) (to : Option ℕ) (place : ℕ) (v : View) → IsOf body v
    → (end_there (sending_at place to v) ≤ part_end to body) × (end_there (sending_at place to v) ≤ length body)
there_is body None place v h = (h.within, h.within)
there_is body (Some t) place v h = let k = h.within in (omega arith, omega arith)

all_is : (body : List ℕ) (to : Option ℕ) (place : ℕ) (v : View) → IsOf body v → has_bytes (sending_at place to v) ≡ false
    → is_complete v.came ≡ true → is_none to ≡ true → part_end to body ≤ place
all_is body (Some t) place v h b c n = absurd cc
all_is body None place v h b c n = let past = ltb-false place v.there b in let all = h.all c in omega arith

says : (body : List ℕ) (to : Option ℕ) (place : ℕ) (v : View) → IsOf body v → Says body to place (next_piece (sending_at place to v))
says body to place v h =
    go (is_sent s) (has_bytes s) (nat_lt 0 v.most) (goes_on v.came) (is_complete v.came) (is_none to) refl refl refl refl
  where
    s : Rattle.gateway_frames.specs.declared.pieces.Sending.Sending
    s = sending_at place to v

    go : (a b m g c n : Bool) → is_sent s ≡ a → has_bytes s ≡ b → is_complete v.came ≡ c → is_none to ≡ n
        → Says body to place (cond a NextPiece.End (cond (b && m) (next_bytes s) (cond b NextPiece.Wait (cond g NextPiece.Wait (cond (c && n) NextPiece.End NextPiece.Truncate)))))
    go true b m g c n e f i j = sent_is body to place v e
    go false true true g c n e f i j =
        let there = there_is body to place v h in
        let some = ltb-true place (end_there s) f in
        (refl, omega arith, omega (arith, there.0), omega (arith, there.1))
    go false true false g c n e f i j = tt
    go false false m true c n e f i j = tt
    go false false m false true true e f i j = all_is body to place v h f i j
    go false false m false true false e f i j = tt
    go false false m false false n e f i j = tt

-- what a run says
abbrev RunSays : List ℕ → Option ℕ → ℕ → Run → Type 0
RunSays body to place r = (concat (bytes_in body r.ranges) ≡ slice_range body place r.place) × (place ≤ r.place) × (r.place ≤ part_end to body)
    × (place ≤ length body → r.place ≤ length body) × (r.last ≡ NextPiece.End → r.place ≡ part_end to body)

stays : (body : List ℕ) (to : Option ℕ) (place : ℕ) (last : NextPiece) → place ≤ part_end to body
    → (last ≡ NextPiece.End → part_end to body ≤ place) → RunSays body to place (record { ranges = []; place = place; last = last })
stays body to place last h k = (sym (nothing body place), omega arith, h, λ w. w, λ e. let past = k e in omega arith)

by_piece : (body : List ℕ) (to : Option ℕ) (place : ℕ) (piece : NextPiece) (on : ℕ → Run) → place ≤ part_end to body → Says body to place piece
    → ((next : ℕ) → next ≤ part_end to body → RunSays body to next (on next)) → RunSays body to place (goes_on_by piece place on)
by_piece body to place (NextPiece.Bytes from next) on h s k =
    let rest = k next s.2 in (
      ap (λ t. t ++ concat (bytes_in body (on next).ranges)) (ap (λ i. slice_range body i next) s.0)
          ∙ ap (λ t. slice_range body place next ++ t) rest.0 ∙ join body place next (on next).place s.1 rest.1,
      omega (arith, s.1, rest.1),
      rest.2,
      λ w. rest.3 s.3,
      rest.4,
    )
by_piece body to place NextPiece.End on h s k = stays body to place NextPiece.End h (λ e. s)
by_piece body to place NextPiece.Wait on h s k = k place h
by_piece body to place NextPiece.Truncate on h s k = stays body to place NextPiece.Truncate h (λ e. cc)

pub run_says : (views : List View) (body : List ℕ) (to : Option ℕ) (place : ℕ) → AreOf body views → place ≤ part_end to body
    → RunSays body to place (run to place views)
run_says [] body to place are h = stays body to place NextPiece.Wait h (λ e. cc)
run_says (v ∷ views) body to place are h =
    by_piece body to place (next_piece (sending_at place to v)) (λ next. run to next views) h (says body to place v are.0)
    (λ next k. run_says views body to next are.1 k)

counted : (body : List ℕ) (ranges : List (ℕ × ℕ)) → length body < 2 ^ 64 → AreCounted (bytes_in body ranges)
counted body [] h = tt
counted body (range ∷ ranges) h =
    let part = drop range.0 body in
    (omega (arith, h, length-take (range.1 - range.0) part, length-drop range.0 body), counted body ranges h)

pub so_far : (body : List ℕ) (to : Option ℕ) (from : ℕ) (views : List View) → AreOf body views → from ≤ part_end to body
    → concat (bytes_in body (run to from views).ranges) ≡ slice_range body from (run to from views).place
so_far body to from views are h = (run_says views body to from are h).0

slice_counts : (body : List ℕ) (i j : ℕ) → j ≤ length body → length (slice_range body i j) ≡ j - i
slice_counts body i j h = omega (arith, length-take (j - i) (drop i body), length-drop i body)

pub whole : (framing : Framing) (accepts : Bool) (body : List ℕ) (to : Option ℕ) (from : ℕ) (views : List View) (lines : List (List ℕ))
    → length body < 2 ^ 64 → AreOf body views → from ≤ part_end to body → from ≤ length body → list_all is_line lines ≡ true
    → (run to from views).last ≡ NextPiece.End
    → (let trailers = sent_trailers framing accepts (trailer_section lines)
    in IsWhole framing (part_end to body - from) (sent framing (bytes_in body (run to from views).ranges) ++ end_text framing trailers)
    (slice_range body from (part_end to body)) trailers)
whole framing accepts body to from views lines fits are h within k e =
    let r = run to from views in
    let trailers = sent_trailers framing accepts (trailer_section lines) in
    let told = run_says views body to from are h in
    let end : r.place ≡ part_end to body = told.4 e in
    let inside : part_end to body ≤ length body = subst (λ n. n ≤ length body) end (told.3 within) in
    let content : concat (bytes_in body r.ranges) ≡ slice_range body from (part_end to body) =
    told.0 ∙ ap (λ n. slice_range body from n) end in
    let size : length (concat (bytes_in body r.ranges)) ≡ part_end to body - from =
    ap length content ∙ slice_counts body from (part_end to body) inside in
    let text = sent framing (bytes_in body r.ranges) ++ end_text framing trailers in
    subst (λ n. IsWhole framing n text (slice_range body from (part_end to body)) trailers) size
    (subst (λ c. IsWhole framing (length (concat (bytes_in body r.ranges))) text c trailers) content
    (whole_reads framing accepts (bytes_in body r.ranges) lines (counted body r.ranges fits) k))

-- ==== what breaks off

abbrev IsNoEnd : NextPiece → Type 0
IsNoEnd NextPiece.End = ⊥
IsNoEnd piece = Unit {0}

goes_on_or_breaks : (place : ℕ) (v : View) → not (is_complete v.came) ≡ true → IsNoEnd (next_piece (sending_at place None v))
goes_on_or_breaks place v h = go (has_bytes s) (nat_lt 0 v.most) (goes_on v.came) (is_complete v.came) h
  where
    s : Rattle.gateway_frames.specs.declared.pieces.Sending.Sending
    s = sending_at place None v

    go : (b m g c : Bool) → not c ≡ true
        → IsNoEnd (cond (b && m) (next_bytes s) (cond b NextPiece.Wait (cond g NextPiece.Wait (cond (c && true) NextPiece.End NextPiece.Truncate))))
    go true true g c h = tt
    go true false g c h = tt
    go false m true c h = tt
    go false m false true h = cc
    go false m false false h = tt

no_end_by : (piece : NextPiece) (place : ℕ) (on : ℕ → Run) → IsNoEnd piece → ((next : ℕ) → (on next).last ≡ NextPiece.End → ⊥)
    → (goes_on_by piece place on).last ≡ NextPiece.End → ⊥
no_end_by (NextPiece.Bytes from next) place on h k e = k next e
no_end_by NextPiece.End place on h k e = h
no_end_by NextPiece.Wait place on h k e = k place e
no_end_by NextPiece.Truncate place on h k e = cc

never_ends : (views : List View) (place : ℕ) → list_all (λ (v : View). not (is_complete v.came)) views ≡ true
    → (run None place views).last ≡ NextPiece.End → ⊥
never_ends [] place h e = cc
never_ends (v ∷ views) place h e =
    no_end_by (next_piece (sending_at place None v)) place (λ next. run None next views)
    (goes_on_or_breaks place v (left (not (is_complete v.came)) (list_all (λ (w : View). not (is_complete w.came)) views) h))
    (λ next k. never_ends views next (right (not (is_complete v.came)) (list_all (λ (w : View). not (is_complete w.came)) views) h) k) e

pub broken : (body : List ℕ) (to : Option ℕ) (from : ℕ) (views : List View) → AreOf body views → from ≤ length body → BreaksOff body to views
    → (run to from views).last ≡ NextPiece.End → ⊥
broken body None from views are h b e = never_ends views from b e
broken body (Some t) from views are h b e =
    let told = run_says views body (Some t) from are (omega arith) in
    let end = told.4 e in
    let inside = told.3 h in
    omega (arith, b, end, inside)
