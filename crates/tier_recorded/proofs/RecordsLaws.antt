-- A history with the records of some calls of one caller more.
use Rattle.std.proofs.Common.{◌≡◌, ◌<◌, arith, ℕ, ◌+◌, false, List, [], ◌∷◌, ◌++◌, length, map, set, subst, sym, refl, ap, ◌∙◌}
use Rattle.std.proofs.lemmas.List.{append-nil, append_assoc, length-set, length_push, map-append, set-set, set-get_or, get_or-set_same}
use Rattle.rand_core.specs.Stream.{Stream}
use Rattle.tier_model.specs.declared.event.Event.{Event}
use Rattle.tier_model.specs.Calls.{Call, Outcome, AreCallsOf}
use Rattle.tier_model.specs.State.{State}
use Rattle.tier_single.specs.Takes.{Takes}
use Rattle.tier_single.proofs.RunLaws.{Takes-join}
use Rattle.tier_recorded.specs.declared.history.CallerRecord.{CallerRecord}
use Rattle.tier_recorded.specs.declared.history.Record.{Record}
use Rattle.tier_recorded.specs.declared.history.Seat.{Seat}
use Rattle.tier_recorded.specs.declared.note.Note.{Note}
use Rattle.tier_recorded.specs.Notes.{note_of}
use Rattle.tier_recorded.specs.Histories.{own_of, owns, records_of, HasTurns, IsReplay}
use Rattle.tier_recorded.specs.Seats.{PassState, stranger, IsTurn, AreSeated}
use Rattle.tier_recorded.specs.Recorded.{records_by}
use Rattle.tier_recorded.proofs.HistoryLaws.{records-same, turns-more}
use Rattle.tier_recorded.proofs.SeatLaws.{seated-call}

-- as many as the caller's own
pub records_by-length : (c turn : ℕ) (xs : List CallerRecord) → length (records_by c turn xs) ≡ length xs
records_by-length c turn [] = refl
records_by-length c turn (x ∷ xs) = (let more = records_by-length c (turn + 1) xs in omega (arith, more))

abbrev first_of : ℕ → ℕ → CallerRecord → Record
first_of c turn x = record { caller = c; turn = turn; event = x.event; note = x.note }

pub turns-all : (h : List Record) (c turn : ℕ) (xs : List CallerRecord) → HasTurns [] h → turn ≡ length (records_of c h) → HasTurns [] (h ++ records_by c turn xs)
turns-all h c turn [] has is = subst (HasTurns []) (sym (append-nil h)) has
turns-all h c turn (x ∷ xs) has is =
    let r = first_of c turn x in
    let longer = length_push (records_of c h) (own_of r) in
    let same : length (records_of c (h ++ r ∷ [])) ≡ length (records_of c h ++ own_of r ∷ []) = ap length (records-same c h r refl) in
    let next : turn + 1 ≡ length (records_of c (h ++ r ∷ [])) = omega (arith, is, same, longer) in
    subst (HasTurns []) (append_assoc h (r ∷ []) (records_by c (turn + 1) xs)) (turns-all (h ++ r ∷ []) c (turn + 1) xs (turns-more [] h r has is) next)

-- the seat of a caller that made so many calls
abbrev seat_at : ℕ → Seat
seat_at n = record { records = n; is_gathered = false }

pub seated-all : (seats : List Seat) (ps : List PassState) (h : List Record) (c turn : ℕ) (xs : List CallerRecord) → IsTurn seats c turn → AreSeated seats ps h
    → AreSeated (set seats c (seat_at (turn + length xs))) ps (h ++ records_by c turn xs)
seated-all seats ps h c turn [] is seated =
    let none : turn + 0 ≡ turn = omega arith in
    let same : set seats c (seat_at (turn + 0)) ≡ seats = ap (λ (n : ℕ). set seats c (seat_at n)) none ∙ ap (λ (x : Seat). set seats c x) (sym is.1) ∙ set-get_or seats c stranger in
    subst (λ (l : List Record). AreSeated (set seats c (seat_at (turn + 0))) ps l) (sym (append-nil h)) (subst (λ (l : List Seat). AreSeated l ps h) (sym same) seated)
seated-all seats ps h c turn (x ∷ xs) is seated =
    let r = first_of c turn x in
    let after = set seats c (seat_at (turn + 1)) in
    let here : c < length after = subst (λ (n : ℕ). c < n) (sym (length-set seats c (seat_at (turn + 1)))) is.0 in
    let more = seated-all after ps (h ++ r ∷ []) c (turn + 1) xs (here, get_or-set_same seats c (seat_at (turn + 1)) stranger is.0) (seated-call seats ps h r is seated) in
    let sum : turn + 1 + length xs ≡ turn + length (x ∷ xs) = omega arith in
    let same : set after c (seat_at (turn + 1 + length xs)) ≡ set seats c (seat_at (turn + length (x ∷ xs))) =
    set-set seats c (seat_at (turn + 1)) (seat_at (turn + 1 + length xs)) ∙ ap (λ (n : ℕ). set seats c (seat_at n)) sum
    in
    subst (λ (l : List Record). AreSeated (set seats c (seat_at (turn + length (x ∷ xs)))) ps l) (append_assoc h (r ∷ []) (records_by c (turn + 1) xs))
    (subst (λ (l : List Seat). AreSeated l ps (h ++ r ∷ [] ++ records_by c (turn + 1) xs)) same more)

-- ---- of events with their outcomes

events-by : (c turn : ℕ) (es : List Event) (os : List Outcome) (cs : List Call) → AreCallsOf es os cs → map (λ (r : Record). r.event) (records_by c turn (owns es os)) ≡ es
events-by c turn [] [] [] are = refl
events-by c turn (e ∷ es) (o ∷ os) (b ∷ cs) are = λ i. e ∷ events-by c (turn + 1) es os cs are.2 i
events-by c turn [] [] (b ∷ cs) are = absurd are
events-by c turn [] (o ∷ os) cs are = absurd are
events-by c turn (e ∷ es) [] cs are = absurd are
events-by c turn (e ∷ es) (o ∷ os) [] are = absurd are

notes-by : (c turn : ℕ) (es : List Event) (os : List Outcome) (cs : List Call) → AreCallsOf es os cs → map (λ (r : Record). r.note) (records_by c turn (owns es os)) ≡ map note_of os
notes-by c turn [] [] [] are = refl
notes-by c turn (e ∷ es) (o ∷ os) (b ∷ cs) are = λ i. note_of o ∷ notes-by c (turn + 1) es os cs are.2 i
notes-by c turn [] [] (b ∷ cs) are = absurd are
notes-by c turn [] (o ∷ os) cs are = absurd are
notes-by c turn (e ∷ es) [] cs are = absurd are
notes-by c turn (e ∷ es) (o ∷ os) [] are = absurd are

pub replay-all : (old : State) (s : Stream) (h : List Record) (mid : State) (left : Stream) (c turn : ℕ) (es : List Event) (os : List Outcome) (new : State) (rest : Stream)
    → IsReplay old s h mid left → Takes mid left es os new rest → IsReplay old s (h ++ records_by c turn (owns es os)) new rest
replay-all old s h mid left c turn es os new rest p takes =
    let rs = records_by c turn (owns es os) in
    let before = map (λ (r : Record). r.event) h in
    let noted = map (λ (r : Record). r.note) h in
    let events : map (λ (r : Record). r.event) (h ++ rs) ≡ before ++ es =
    map-append (λ (r : Record). r.event) h rs ∙ ap (λ (l : List Event). before ++ l) (events-by c turn es os takes.calls takes.are_of)
    in
    let notes : map (λ (r : Record). r.note) (h ++ rs) ≡ map note_of (p.0 ++ os) =
    map-append (λ (r : Record). r.note) h rs ∙ ap (λ (l : List Note). noted ++ l) (notes-by c turn es os takes.calls takes.are_of) ∙ ap (λ (l : List Note). l ++ map note_of os) p.2 ∙ sym (map-append note_of p.0 os)
    in
    (p.0 ++ os, subst (λ (l : List Event). Takes old s l (p.0 ++ os) new rest) (sym events) (Takes-join old s before p.0 mid left es os new rest p.1 takes), notes)
