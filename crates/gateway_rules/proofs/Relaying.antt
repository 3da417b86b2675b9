-- What a response that isn't stored is handed on as: a head, and one part of its body at most.
use Rattle.std.proofs.Common.{◌≡◌, ◌≢◌, ℕ, ◌+◌, ◌<◌, ◌≤◌, suc, inl, inr, Bool, true, false, List, [], ◌∷◌, ◌++◌, length, take, drop, refl, ap, sym, append_assoc, ◌∙◌, Option, Some, None, Result, Ok, Err, length-append, arith}
use Rattle.std.proofs.lemmas.Grind.{common_steps}
use Rattle.std.specs.Prelude.{bytes_eq, codes, not, nat_lt, if◌then◌else◌}
use Rattle.std.specs.Option.{option_map_or}
use Rattle.rules_fields.specs.Types.{Asked, Answered as Came, Chosen}
use Rattle.rules_fields.specs.declared.types.Framing.{Framing}
use Rattle.rules_fields.specs.declared.types.Framing.TheVariants.{Length, Chunked, Close, HeadLength}
use Rattle.rules_response.specs.Reply.{Piece, Reply}
use Rattle.rules_response.specs.Matching.{matches}
use Rattle.rules_response.specs.Told.{is_cut, as_kept, told_parts, told_304, told_pieces, told_whole, told_by, told_reply}
use Rattle.rules_response.specs.declared.telling.Fetch.{Fetch}
use Rattle.rules_ffi_arguments.specs.Given.{Fails}
use Rattle.rules_ffi_arguments.specs.declared.bad.Bad.{Bad}
use Rattle.rules_ffi_arguments.specs.declared.shapes.OptionNumbers.{OptionNumbers}
use Rattle.rules_ffi_arguments.specs.declared.shapes.RequestShape.{RequestShape}
use Rattle.rules_ffi_arguments.specs.declared.shapes.ResponseShape.{ResponseShape}
use Rattle.rules_ffi_arguments.specs.declared.shapes.PartShape.{PartShape}
use Rattle.rules_ffi_arguments.specs.declared.shapes.How.{How}
use Rattle.rules_ffi_arguments.specs.declared.shapes.Out.{Out}
use Rattle.rules_ffi_arguments.specs.Options.{lists_in, chosen_by}
use Rattle.rules_ffi_arguments.specs.Spans.{lines_in}
use Rattle.rules_ffi_arguments.specs.Moments.{moment_in}
use Rattle.rules_ffi_arguments.specs.Requests.{asked_by}
use Rattle.rules_ffi_arguments.specs.Responses.{answered_by}
use Rattle.rules_ffi_results.specs.Numbers.{blank}
use Rattle.rules_ffi_results.specs.Parts.{befores, part_shapes}
use Rattle.rules_ffi_results.specs.Sending.{Answered, Answers}
use Rattle.rules_ffi_results.specs.Shown.{dropped}
use Rattle.rules_ffi_results.specs.Hows.{how_in, fetch_of, said}
use Rattle.rules_serving.specs.Answers.{after_span, shaped, pieces_of, reply_head, told_interim_answer, is_whole, reply, relay_of, relay_by, told_in}
use Rattle.gateway_rules.specs.Rooms.{told_by as told_where}
use Rattle.gateway_rules.proofs.Within.{told_without_memory, told_of_a_bad_call, told_where_done, taken}
use Rattle.gateway_rules.proofs.Told.{some_of, of_the_given}

-- an answer's text is its head, and it has one part at most
pub record IsOne (a : Answered) : Type 0 where
  pub status : 63 < a.told.status
  pub long : a.told.head.to ≡ length a.text
  pub count : a.told.parts ≡ length a.parts
  pub few : length a.parts ≤ 1

-- no text stands in front of a piece, and there is one at most
abbrev pub AreBare : Option (List Piece) → Type 0
AreBare None = Unit {0}
AreBare (Some []) = Unit {0}
AreBare (Some (p ∷ [])) = p.before ≡ []
AreBare (Some (p ∷ q ∷ ps)) = ⊥

pub record IsBare (r : Reply) : Type 0 where
  pub pieces : AreBare r.pieces
  pub after : r.after ≡ []

either : {A : Type 0} (P : A → Type 0) (b : Bool) (x y : A) → P x → P y → P (if b then x else y)
either P true x y h k = h
either P false x y h k = k

bare_pieces : (method : List ℕ) (f : Framing) → AreBare (told_pieces method f)
bare_pieces method Framing.None = tt
bare_pieces method (HeadLength n) = tt
bare_pieces method (Length n) = either AreBare (bytes_eq method (codes "HEAD")) None (Some (record { before = []; from = 0; to = Some n } ∷ [])) tt refl
bare_pieces method Chunked = either AreBare (bytes_eq method (codes "HEAD")) None (Some (record { before = []; from = 0; to = None } ∷ [])) tt refl
bare_pieces method Close = either AreBare (bytes_eq method (codes "HEAD")) None (Some (record { before = []; from = 0; to = None } ∷ [])) tt refl

whole_is_bare : (q : Asked) (p : Came) (asked came : ℕ) (how : List (List ℕ)) (o : Chosen) → IsBare (told_whole q p asked came how o)
whole_is_bare q p asked came how o = record { pieces = bare_pieces q.method p.framing; after = refl }

parts_are_bare : (ps : Option (List (ℕ × ℕ))) (q : Asked) (p : Came) (asked came : ℕ) (how : List (List ℕ)) (o : Chosen) → IsBare (told_by ps q p asked came how o)
parts_are_bare None q p asked came how o = whole_is_bare q p asked came how o
parts_are_bare (Some []) q p asked came how o = record { pieces = tt; after = refl }
parts_are_bare (Some (part ∷ [])) q p asked came how o = record { pieces = refl; after = refl }
parts_are_bare (Some (part ∷ next ∷ parts)) q p asked came how o = whole_is_bare q p asked came how o

reply_is_bare : (fetch : Fetch) (q : Asked) (p : Came) (asked came : ℕ) (how : List (List ℕ)) (o : Chosen) → IsBare (told_reply fetch q p asked came how o)
reply_is_bare fetch q p asked came how o =
    either IsBare (not (is_cut fetch q p o)) (told_whole q p asked came how o)
    (if matches q (as_kept p) then told_304 p asked came how o else told_by (told_parts q p o) q p asked came how o) (whole_is_bare q p asked came how o)
    (either IsBare (matches q (as_kept p)) (told_304 p asked came how o) (told_by (told_parts q p o) q p asked came how o) (record { pieces = tt; after = refl })
    (parts_are_bare (told_parts q p o) q p asked came how o))

abbrev pub pieces_in : Option (List Piece) → List Piece
pieces_in ps = option_map_or (λ ps. ps) ps []

no_text : (ps : Option (List Piece)) → AreBare ps → length (befores (pieces_in ps)) ≡ 0
no_text None h = refl
no_text (Some []) h = refl
no_text (Some (p ∷ [])) h = rw h refl
no_text (Some (p ∷ q ∷ ps)) h = absurd h

few_pieces : (ps : Option (List Piece)) → AreBare ps → length (pieces_in ps) ≤ 1
few_pieces None h = omega arith
few_pieces (Some []) h = omega arith
few_pieces (Some (p ∷ [])) h = omega arith
few_pieces (Some (p ∷ q ∷ ps)) h = absurd h

shapes_of : (ps : List Piece) (at : ℕ) → length (part_shapes at ps) ≡ length ps
shapes_of [] at = refl
shapes_of (p ∷ ps) at = ap suc (shapes_of ps (at + length p.before))

with_after : (head : List ℕ) (ps : List Piece) (after : List ℕ) (out : Out) → after ≡ [] → length (befores ps) ≡ 0 → length ps ≤ 1 → 63 < out.status
    → out.head.to ≡ length head → out.parts ≡ length ps
    → IsOne (record { text = head ++ befores ps ++ after; told = after_span (length head + length (befores ps)) after out; parts = part_shapes (length head) ps })
with_after head ps [] out e none few done long count = record {
  status = done;
  long = simp length-append (omega arith);
  count = count ∙ sym (shapes_of ps (length head));
  few = rw (shapes_of ps (length head)) few;
}
with_after head ps (b ∷ after) out e none few done long count = absurd (cc)

shaped_is_one : (a : Reply) (q : RequestShape) (h : How) → IsBare a → IsOne (shaped a q h)
shaped_is_one a q h bare =
    with_after (reply_head a q h) (pieces_of a) a.after _ bare.after (no_text a.pieces bare.pieces) (few_pieces a.pieces bare.pieces) (omega arith) (omega arith) refl

interim_is_one : (p : Came) (marks : ℕ) → IsOne (told_interim_answer p marks)
interim_is_one p marks = record { status = omega arith; long = omega arith; count = refl; few = omega arith }

replied_is_one : (q : RequestShape) (request : Asked) (p : Came) (asked came : ℕ) (way : How) (o : Chosen) → IsOne (reply q request p asked came way o)
replied_is_one q request p asked came way o =
    shaped_is_one (told_reply (fetch_of way) request p asked came (said way None) o) q way (reply_is_bare (fetch_of way) request p asked came (said way None) o)

relay_is_one : (q : RequestShape) (request : Asked) (p : Came) (marks asked came : ℕ) (way : How) (o : Chosen) → IsOne (relay_of q request p marks asked came way o)
unfolding relay_of
relay_is_one q request p marks asked came way o =
    either IsOne (nat_lt p.status 200) (told_interim_answer p marks)
    (if is_whole (fetch_of way) o then reply q request p asked came way o else reply q request (dropped o p) asked came way o) (interim_is_one p marks)
    (either IsOne (is_whole (fetch_of way) o) (reply q request p asked came way o) (reply q request (dropped o p) asked came way o)
    (replied_is_one q request p asked came way o) (replied_is_one q request (dropped o p) asked came way o))

abbrev pub AllOne : Option Answered → Type 0
AllOne given = (a : Answered) → given ≡ Some a → IsOne a

relayed_by : (q : RequestShape) (request : Asked) (r : ResponseShape) (came_text : List ℕ) (asked came : ℕ × ℕ) (way : How) (o : Chosen)
    → AllOne (relay_by q request r came_text asked came way o)
unfolding relay_by
relayed_by q request r came_text asked came way o t e =
    some_of IsOne (lines_in came_text r.lines) _ (λ fields t f.
    some_of IsOne (answered_by r fields) _ (λ response t f.
    some_of IsOne (moment_in asked.0 asked.1) _ (λ a t f.
    some_of IsOne (moment_in came.0 came.1) _ (λ c t f.
    of_the_given IsOne (relay_of q request response r.marks a c way o) t f (relay_is_one q request response r.marks a c way o))
    t f) t f) t f) t e

pub relayed_is_one : (n : OptionNumbers) (words : List ℕ) (q : RequestShape) (text : List ℕ) (r : ResponseShape) (came_text : List ℕ) (asked came : ℕ × ℕ) (how : How)
    → AllOne (told_in n words q text r came_text asked came how)
unfolding told_in
relayed_is_one n words q text r came_text asked came how t e =
    some_of IsOne (lists_in words) _ (λ lists t f.
    some_of IsOne (chosen_by n lists) _ (λ o t f.
    some_of IsOne (how_in how) _ (λ way t f.
    some_of IsOne (lines_in text q.asked) _ (λ lines t f.
    some_of IsOne (asked_by q text lines o.scheme) _ (λ request t f. relayed_by q request r came_text asked came way o t f)
    t f) t f) t f) t f) t e

-- without room the text is longer than the room
pub wants_one : (given : Option Answered) (size : ℕ) (old new : List ℕ) (table written : List PartShape) (out : Out)
    → AllOne given → size ≤ length old → length table ≡ 1 → Answers blank given old new table written out → out.status ≡ 23
    → (a : Answered) × (given ≡ Some a) × (out.needed ≡ length a.text) × (size < out.needed)
wants_one given size old new table written out all within one (inl h) un = absurd (let e = ap (λ (o : Out). o.status) h.2 in omega (arith, e, un))
wants_one None size old new table written out all within one (inr h) un = absurd (let e = ap (λ (o : Out). o.status) h.2 in omega (arith, e, un))
wants_one (Some a) size old new table written out all within one (inr (inl h)) un =
    absurd (let t = all a refl in let e = ap (λ (o : Out). o.status) h.2 in omega (arith, t.status, e, un))
wants_one (Some a) size old new table written out all within one (inr (inr (inl l, h, k, m))) un =
    let e : out.needed ≡ length a.text = ap (λ (o : Out). o.needed) m in
    (a, refl, e, omega (arith, l, within, e))
wants_one (Some a) size old new table written out all within one (inr (inr (inr l, h, k, m))) un = absurd (let t = all a refl in omega (arith, t.few, l, one))

-- what was taken out of the room and the table, or why there is nothing
abbrev pub GivesOne : Result (List ℕ) Bad → List PartShape → Out → Option Answered → Type 0
GivesOne (Ok text) parts out given = given ≡ Some (record { text = text; told = out; parts = parts })
GivesOne (Err e) parts out given = Fails e given

parts_taken : (parts rest : List PartShape) → take (length parts) (parts ++ rest) ≡ parts
parts_taken parts rest = grind (arith, common_steps)

one_at : (a : Answered) (new more : List ℕ) (out : Out) (size : ℕ) (rest : List ℕ) (written others : List PartShape)
    → out ≡ a.told → IsOne a → new ≡ a.text ++ rest → length a.text ≤ size → written ≡ a.parts ++ others
    → ◌≡◌ {A = Option Answered} (Some a) (Some (record { text = take out.head.to (take size (new ++ more)); told = out; parts = take out.parts written }))
one_at a new more out size rest written others same one front within parts =
    let e : take out.head.to (take size (new ++ more)) ≡ a.text = rw (same, one.long, front, append_assoc) (taken a.text (rest ++ more) size within) in
    let f : take out.parts written ≡ a.parts = rw (same, one.count, parts) (parts_taken a.parts others) in
    rw (e, f, same) refl

-- else all of it was told
pub gives_one : (given : Option Answered) (old new : List ℕ) (table written : List PartShape) (out : Out) (size : ℕ) (r : Result (List ℕ) Bad)
    → AllOne given → Answers blank given old new table written out → length old ≤ size → out.status ≢ 23
    → r ≡ told_where out.status (take out.head.to (take size (new ++ drop (length new) old))) → GivesOne r (take out.parts written) out given
gives_one given old new table written out size r all (inl h) within un e =
    rw (e ∙ told_without_memory out.status (take out.head.to (take size (new ++ drop (length new) old))) (ap (λ (o : Out). o.status) h.2)) tt
gives_one None old new table written out size r all (inr h) within un e =
    rw (e ∙ told_of_a_bad_call out.status (take out.head.to (take size (new ++ drop (length new) old))) (ap (λ (o : Out). o.status) h.2)) refl
gives_one (Some a) old new table written out size r all (inr (inl h)) within un e =
    let t = all a refl in
    let done : 63 < out.status = (let same = ap (λ (o : Out). o.status) h.2 in omega (arith, t.status, same)) in
    let fits : length a.text ≤ size = (let l = h.0.0 in omega (arith, l, within)) in
    rw (e ∙ told_where_done out.status (take out.head.to (take size (new ++ drop (length new) old))) done)
    (one_at a new (drop (length new) old) out size (drop (length a.text) old) written (drop (length a.parts) table) h.2 t h.0.1 fits h.1)
gives_one (Some a) old new table written out size r all (inr (inr h)) within un e = absurd (un (ap (λ (o : Out). o.status) h.3))
