-- How far a replay has come, and what a line more makes of it.
use Rattle.std.proofs.Common.{◌≡◌, ◌∙◌, ℕ, ◌+◌, ◌-◌, ◌^◌, ◌≤◌, ◌<◌, List, [], ◌∷◌, ◌++◌, length, map, take, drop, length-take-le, refl, ap, sym, subst, append_assoc, append-nil, arith}
use Rattle.std.specs.Prelude.{Option, Some, None, IfSome}
use Rattle.std.specs.Io.KnownBytes.{Appends, Keeps, prepend_known}
use Rattle.std.specs.Io.BufRead.{take_through, drop_through, strip_last}
use Rattle.tier_model.specs.declared.event.Event.{Event}
use Rattle.tier_model.specs.Calls.{Call, History, Outcome, extended}
use Rattle.tier_model.specs.Past.{HasPast, IsLawful, AreTaken, CarriesPast, state_of}
use Rattle.tier_model.specs.Reports.{report_of}
use Rattle.tier_model.proofs.Carried.{HasPast-lawful, CarriesPast-taken}
use Rattle.tier_single.specs.Draws.{AreAllDrawn}
use Rattle.tier_single.specs.Takes.{Takes}
use Rattle.tier_single.proofs.RunLaws.{StepsBy-takes, taken-more, drawn-more}
use Rattle.trace_lines.specs.Lines.{line_of}
use Rattle.trace_lines.specs.Texts.{outcome_text, refusal_text, report_text}
use Rattle.trace_lines.specs.declared.line.Line.{Line}
use Rattle.trace_lines.specs.declared.line.Line.TheVariants.{Refused, Accepted}
use Rattle.trace_replay.specs.Inputs.{IsLineBefore}
use Rattle.trace_replay.specs.Outputs.{Passes, HasBegun}
use Rattle.trace_replay.specs.Replays.{requests_in, lines_in, ended, last_text, Start, AreFromWords, Replays, EndsReplay, IsReplay, IsBegun}
use Rattle.trace_replay.specs.Steps.{Place, Answers}
use Rattle.std.proofs.BufReadLemmas.{take_through-nil}
use Rattle.std.proofs.KnownBytes.{Appends-nil, Appends-trans}
use Rattle.trace_replay.proofs.OutputLemmas.{begun_longer}
use Rattle.trace_replay.proofs.LineLemmas.{lines_in-first}

-- one line more after those that are answered
replays_more : (lines : List Line) (line : Line) (past h new : History) (answers text : List ℕ)
    → Replays lines past h answers → Replays (line ∷ []) h new text → Replays (lines ++ line ∷ []) past new (answers ++ text)
replays_more [] line past h new answers text before one =
    subst (λ p. Replays (line ∷ []) p new (answers ++ text)) before.0
    (subst (λ a. Replays (line ∷ []) h new (a ++ text)) (sym before.1) one)
replays_more (Refused refusal ∷ lines) line past h new answers text before one =
    (before.0 ++ text, ap (λ a. a ++ text) before.1 ∙ append_assoc (ended (refusal_text refusal)) before.0 text, replays_more lines line past h new before.0 text before.2 one)
replays_more (Accepted event ∷ lines) line past h new answers text before one =
    (before.0, before.1 ++ text, before.2, ap (λ a. a ++ text) before.3 ∙ append_assoc (ended (outcome_text before.0.outcome)) before.1 text, replays_more lines line (before.0 ∷ past) h new before.1 text before.4 one)

-- the calls of a history led there, and the words picked what they evicted
pub record HasTaken (start : Start) (history : History) (place : Place) : Type 0 where
  pub calls : List Call
  pub are : extended [] calls ≡ history
  pub taken : AreTaken (state_of start.opening []) calls place.state
  pub drawn : AreAllDrawn (state_of start.opening []) calls start.words place.words

extended-more : (past : History) (calls : List Call) (c : Call) → extended past (calls ++ c ∷ []) ≡ c ∷ extended past calls
extended-more past [] c = refl
extended-more past (x ∷ calls) c = extended-more (x ∷ past) calls c

-- one call more
record OneMore (start : Start) (history : History) (old new : Place) (event : Event) (outcome : Outcome) : Type 0 where
  call : Call
  event_is : call.event ≡ event
  outcome_is : call.outcome ≡ outcome
  took : HasTaken start (call ∷ history) new
  carries : CarriesPast old.state (call ∷ []) new.state

taken_more : (start : Start) (history : History) (old new : Place) (event : Event) (outcome : Outcome) → HasTaken start history old
    → Takes old.state old.words (event ∷ []) (outcome ∷ []) new.state new.words → OneMore start history old new event outcome
taken_more start history old new event outcome before takes =
    let step = StepsBy-takes old.state old.words event outcome new.state new.words takes in
    record {
      call = step.0;
      event_is = step.1;
      outcome_is = step.2;
      took = record {
        calls = before.calls ++ step.0 ∷ [];
        are = extended-more [] before.calls step.0 ∙ ap (λ (h : History). step.0 ∷ h) before.are;
        taken = taken-more (state_of start.opening []) before.calls old.state step.0 new.state before.taken step.3 step.4;
        drawn = drawn-more (state_of start.opening []) before.calls old.state step.0 start.words old.words new.words before.taken before.drawn step.5;
      };
      carries = CarriesPast-taken old.state (step.0 ∷ []) new.state (step.3, step.4);
    }

-- some lines are answered by a history, and `left` are to come
pub record Answered (start : Start) (lines left : List Line) (answers : List ℕ) (place : Place) : Type 0 where
  pub answered : List Line
  pub history : History
  pub split : lines ≡ answered ++ left
  pub replays : Replays answered [] history answers
  pub past : HasPast start.opening place.state history
  pub took : HasTaken start history place

-- of the answers, `sent` are written and the others are waiting
pub record Progress (start : Start) (trace : List ℕ) (reads : ℕ) (rest held written : Option (List ℕ)) (waiting : List ℕ) (place : Place) : Type 0 where
  pub left : List ℕ
  pub sent : List ℕ
  pub unread : rest ≡ Some left
  pub counted : length (lines_in trace) ≡ reads + length (lines_in left)
  pub appended : Appends held written sent
  pub so_far : Answered start (requests_in trace) (requests_in left) (sent ++ waiting) place

-- the same where the bytes of the trace are known
abbrev pub Halfway : Start → ℕ → Option (List ℕ) → Option (List ℕ) → Option (List ℕ) → Option (List ℕ) → List ℕ → Place → Type 0
Halfway start reads input rest held written waiting place = IfSome input (λ trace. Progress start trace reads rest held written waiting place)

answered_none : (start : Start) (lines : List Line) (place : Place) → HasPast start.opening place.state [] → HasTaken start [] place → Answered start lines lines [] place
answered_none start lines place past took = record {
  answered = [];
  history = [];
  split = refl;
  replays = (refl, refl);
  past = past;
  took = took;
}

pub halfway_start : (start : Start) (input held : Option (List ℕ)) (place : Place) (front waiting : List ℕ) → HasPast start.opening place.state []
    → place.words ≡ start.words → front ≡ [] → waiting ≡ [] → Halfway start 0 input (prepend_known front input) held held waiting place
halfway_start start None held place front waiting past words none empty = tt
halfway_start start (Some trace) held place front waiting past words none empty = record {
  left = trace;
  sent = [];
  unread = ap (λ f. prepend_known f (Some trace)) none;
  counted = omega arith;
  appended = Appends-nil held;
  so_far = subst (λ w. Answered start (requests_in trace) (requests_in trace) w place) (sym empty)
      (answered_none start (requests_in trace) place past (record { calls = []; are = refl; taken = past.state; drawn = words }));
}

answered_more : (start : Start) (old new : Place) (lines : List Line) (line : Line) (left : List Line) (answers text : List ℕ)
    → Answered start lines (line ∷ left) answers old → Answers old new line text → Answered start lines left (answers ++ text) new
answered_more start old new lines (Refused refusal) left answers text so_far answer = record {
  answered = so_far.answered ++ Refused refusal ∷ [];
  history = so_far.history;
  split = so_far.split ∙ sym (append_assoc so_far.answered (Refused refusal ∷ []) left);
  replays = replays_more so_far.answered (Refused refusal) [] so_far.history so_far.history answers text so_far.replays ([], answer.2 ∙ (ap ended answer.1.2 ∙ sym (append-nil (ended (refusal_text refusal)))), (refl, refl));
  past = subst (λ s. HasPast start.opening s so_far.history) (sym answer.1.0) so_far.past;
  took = record {
    calls = so_far.took.calls;
    are = so_far.took.are;
    taken = subst (λ s. AreTaken (state_of start.opening []) so_far.took.calls s) (sym answer.1.0) so_far.took.taken;
    drawn = subst (λ s. AreAllDrawn (state_of start.opening []) so_far.took.calls start.words s) (sym answer.1.1) so_far.took.drawn;
  };
}
answered_more start old new lines (Accepted event) left answers text so_far answer =
    let more : OneMore start so_far.history old new event answer.1.0 = taken_more start so_far.history old new event answer.1.0 so_far.took answer.1.1 in
    let call : Call = more.call in
    record {
      answered = so_far.answered ++ Accepted event ∷ [];
      history = call ∷ so_far.history;
      split = so_far.split ∙ sym (append_assoc so_far.answered (Accepted event ∷ []) left);
      replays = replays_more so_far.answered (Accepted event) [] so_far.history (call ∷ so_far.history) answers text so_far.replays
          (call, [], more.event_is, answer.2 ∙ (ap ended (answer.1.2 ∙ ap outcome_text (sym more.outcome_is)) ∙ sym (append-nil (ended (outcome_text call.outcome)))), (refl, refl));
      past = more.carries start.opening so_far.history so_far.past;
      took = more.took;
    }

-- the bytes that are left, after reading ahead
left_known : (left front : List ℕ) (before next : Option (List ℕ)) → before ≡ Some left → Keeps before (prepend_known front next)
    → (rest : List ℕ) × (next ≡ Some rest) × (front ++ rest ≡ left)
left_known left front before None is keeps = absurd (subst (λ b. Keeps b None) is keeps)
left_known left front before (Some rest) is keeps = (rest, refl, subst (λ b. Keeps b (Some (front ++ rest))) is keeps)

-- part of what waited is written
passed : (held written new : Option (List ℕ)) (sent before after : List ℕ) → Appends held written sent → Passes written new before after
    → (now : List ℕ) × Appends held new now × (now ++ after ≡ sent ++ before)
passed held written new sent before after appended passes =
    (sent ++ passes.0, Appends-trans held written new sent passes.0 appended passes.2, append_assoc sent passes.0 after ∙ ap (λ l. sent ++ l) (sym passes.1))

progress_more : (start : Start) (trace left : List ℕ) (reads : ℕ) (rest held written : Option (List ℕ)) (old after : Place) (sent waiting line text more : List ℕ)
    → length (lines_in trace) ≡ reads + length (lines_in left) → rest ≡ Some (drop_through 10 left) → line ≡ take_through 10 left → 0 < length line
    → Appends held written sent → Answered start (requests_in trace) (requests_in left) (sent ++ waiting) old
    → Answers old after (line_of (strip_last 10 line)) text → more ≡ waiting ++ text → Progress start trace (reads + 1) rest held written more after
progress_more start trace [] reads rest held written old after sent waiting line text more counted rest_is line_is some appended so_far answer more_is =
    let none : length line ≡ 0 = ap length line_is in absurd (omega arith)
progress_more start trace (x ∷ xs) reads rest held written old after sent waiting line text more counted rest_is line_is some appended so_far answer more_is =
    let later : List Line = requests_in (drop_through 10 (x ∷ xs)) in
    let first : requests_in (x ∷ xs) ≡ line_of (strip_last 10 line) ∷ later =
    ap (map line_of) (lines_in-first x xs) ∙ ap (λ l. line_of (strip_last 10 l) ∷ later) (sym line_is) in
    let one = answered_more start old after (requests_in trace) (line_of (strip_last 10 line)) later (sent ++ waiting) text
    (subst (λ l. Answered start (requests_in trace) l (sent ++ waiting) old) first so_far) answer in
    record {
      left = drop_through 10 (x ∷ xs);
      sent = sent;
      unread = rest_is;
      counted = omega (arith, counted, ap length (lines_in-first x xs));
      appended = appended;
      so_far = subst (λ l. Answered start (requests_in trace) later l after) (append_assoc sent waiting text ∙ ap (λ l. sent ++ l) (sym more_is)) one;
    }

-- the facts at a turn after its read: the bytes and what waits
pub halfway_read : (start : Start) (reads : ℕ) (input rest held written new next : Option (List ℕ)) (waiting after front : List ℕ) (place : Place)
    → Halfway start reads input rest held written waiting place → Keeps rest (prepend_known front next) → Passes written new waiting after
    → Halfway start reads input (prepend_known front next) held new after place
halfway_read start reads None rest held written new next waiting after front place half keeps passes = tt
halfway_read start reads (Some trace) rest held written new next waiting after front place half keeps passes =
    let known = left_known half.left front rest next half.unread keeps in
    let now = passed held written new half.sent waiting after half.appended passes in
    record {
      left = half.left;
      sent = now.0;
      unread = ap (prepend_known front) known.1 ∙ ap Some known.2;
      counted = half.counted;
      appended = now.1;
      so_far = subst (λ l. Answered start (requests_in trace) (requests_in half.left) l place) (sym now.2) half.so_far;
    }

known_left : (left front : List ℕ) (next : Option (List ℕ)) → prepend_known front next ≡ Some left → (rest : List ℕ) × (next ≡ Some rest) × (front ++ rest ≡ left)
known_left left front None is = cc
known_left left front (Some rest) is =
    let same : front ++ rest ≡ left = cc in
    (rest, refl, same)

-- one line more: the bytes that were read, without their line feed, asked for the text that waits now
pub halfway_more : (start : Start) (reads n : ℕ) (input next held new : Option (List ℕ)) (old after : Place) (front skipped waiting line content text more : List ℕ)
    → Halfway start reads input (prepend_known front next) held new waiting old → IfSome next (λ rest. IsLineBefore n front rest) → 0 < n → n ≤ length front
    → line ≡ take n front → content ≡ strip_last 10 line → Answers old after (line_of content) text → more ≡ waiting ++ text → skipped ≡ drop n front
    → Halfway start (reads + 1) input (prepend_known skipped next) held new more after
halfway_more start reads n None next held new old after front skipped waiting line content text more half first some within line_is stripped answer more_is skipped_is = tt
halfway_more start reads n (Some trace) next held new old after front skipped waiting line content text more half first some within line_is stripped answer more_is skipped_is =
    let known = known_left half.left front next half.unread in
    let at = subst (λ o. IfSome o (λ rest. IsLineBefore n front rest)) known.1 first in
    let taken : take n front ≡ take_through 10 half.left = sym at.0 ∙ ap (take_through 10) known.2 in
    let behind : drop n front ++ known.0 ≡ drop_through 10 half.left = sym at.1 ∙ ap (drop_through 10) known.2 in
    let rest_is : prepend_known skipped next ≡ Some (drop_through 10 half.left) =
    ap (λ s. prepend_known s next) skipped_is ∙ (ap (prepend_known (drop n front)) known.1 ∙ ap Some behind) in
    let long : 0 < length line = rw line_is (omega (arith, length-take-le n front within)) in
    progress_more start trace half.left reads (prepend_known skipped next) held new old after half.sent waiting line text more half.counted rest_is
    (line_is ∙ taken) long half.appended half.so_far
    (subst (λ l. Answers old after (line_of l) text) stripped answer) more_is

-- what is written after the last line
abbrev pub IsDone : Start → Option (List ℕ) → Option (List ℕ) → Option (List ℕ) → Place → Type 0
IsDone start input held new place =
    IfSome input (λ trace. (text : List ℕ) × Appends held new text × EndsReplay start (requests_in trace) text place.state place.words)

-- whatever is left then
pub done_is_replay : (start : Start) (input held new : Option (List ℕ)) (place : Place) → IsDone start input held new place
    → IfSome input (λ trace. (text : List ℕ) × Appends held new text × IsReplay start (requests_in trace) text)
done_is_replay start None held new place done = tt
done_is_replay start (Some trace) held new place done = (done.0, done.1, record { state = place.state; words = place.words; ends = done.2 })

-- what is written at an early end
abbrev pub IsCutShort : Start → Option (List ℕ) → Option (List ℕ) → Option (List ℕ) → Type 0
IsCutShort start input held new =
    IfSome input (λ trace. (text : List ℕ) × Appends held new text × IsBegun start (requests_in trace) text)

no_line : (front rest left : List ℕ) (n : ℕ) → n ≡ 0 → IsLineBefore n front rest → front ++ rest ≡ left → left ≡ []
no_line front rest [] n zero line is = refl
no_line front rest (x ∷ xs) n zero line is =
    let none : take_through 10 (x ∷ xs) ≡ [] = ap (take_through 10) (sym is) ∙ (line.0 ∙ ap (λ k. take k front) zero) in
    take_through-nil 10 (x ∷ xs) (ap length none)

nothing_left : (start : Start) (reads n : ℕ) (trace : List ℕ) (next held new : Option (List ℕ)) (front waiting : List ℕ) (place : Place)
    → (half : Progress start trace reads (prepend_known front next) held new waiting place) → IfSome next (λ rest. IsLineBefore n front rest) → n ≡ 0 → half.left ≡ []
nothing_left start reads n trace next held new front waiting place half first zero =
    let known = known_left half.left front next half.unread in
    no_line front known.0 half.left n zero (subst (λ o. IfSome o (λ rest. IsLineBefore n front rest)) known.1 first) known.2

-- the words are those of the calls
from_words : (start : Start) (history : History) (place : Place) → HasTaken start history place → AreFromWords start history place.words
from_words start history place took = (took.calls, took.are, took.drawn)

all_answered : (start : Start) (lines : List Line) (answers : List ℕ) (place : Place) → Answered start lines [] answers place
    → (history : History) × Replays lines [] history answers × HasPast start.opening place.state history × AreFromWords start history place.words
all_answered start lines answers place so_far =
    (so_far.history, subst (λ l. Replays l [] so_far.history answers) (sym (so_far.split ∙ append-nil so_far.answered)) so_far.replays, so_far.past, from_words start so_far.history place so_far.took)

pub halfway_done : (start : Start) (reads n : ℕ) (input next held written new : Option (List ℕ)) (front waiting : List ℕ) (place : Place)
    → Halfway start reads input (prepend_known front next) held written waiting place → IfSome next (λ rest. IsLineBefore n front rest) → n ≡ 0
    → Appends written new (waiting ++ ended (report_text (report_of place.state))) → IsDone start input held new place
halfway_done start reads n None next held written new front waiting place half first zero writes = tt
halfway_done start reads n (Some trace) next held written new front waiting place half first zero writes =
    let report : List ℕ = ended (report_text (report_of place.state)) in
    let none : half.left ≡ [] = nothing_left start reads n trace next held written front waiting place half first zero in
    let all = all_answered start (requests_in trace) (half.sent ++ waiting) place
    (subst (λ l. Answered start (requests_in trace) (requests_in l) (half.sent ++ waiting) place) none half.so_far) in (
      half.sent ++ (waiting ++ report),
      Appends-trans held written new half.sent (waiting ++ report) half.appended writes,
      record {
        history = all.0;
        answers = half.sent ++ waiting;
        replays = all.1;
        past = all.2;
        drawn = all.3;
        reported = sym (append_assoc half.sent waiting report);
      },
    )

-- an early end after a beginning of what waits and this text
cut_short : (start : Start) (trace : List ℕ) (reads : ℕ) (rest held written new : Option (List ℕ)) (waiting later : List ℕ) (place : Place)
    → (half : Progress start trace reads rest held written waiting place) → (last_text (requests_in half.left) place.state ≡ later) → HasBegun written new (waiting ++ later)
    → IsCutShort start (Some trace) held new
cut_short start trace reads rest held written new waiting later place half last begun = (
  half.sent ++ begun.1.0,
  Appends-trans held written new half.sent begun.1.0 half.appended begun.1.2,
  record {
    answered = half.so_far.answered;
    left = requests_in half.left;
    history = half.so_far.history;
    answers = half.sent ++ waiting;
    state = place.state;
    rest = begun.0;
    split = half.so_far.split;
    replays = half.so_far.replays;
    past = half.so_far.past;
    drawn = (place.words, from_words start half.so_far.history place half.so_far.took);
    begins = ap (λ l. (half.sent ++ waiting) ++ l) last ∙ (append_assoc half.sent waiting later ∙ (ap (λ l. half.sent ++ l) begun.1.1 ∙ sym (append_assoc half.sent begun.1.0 begun.0)));
  },
)

-- an early end in the midst of the lines
pub halfway_cut : (start : Start) (reads : ℕ) (input rest held written new : Option (List ℕ)) (waiting : List ℕ) (place : Place)
    → Halfway start reads input rest held written waiting place → HasBegun written new waiting → IsCutShort start input held new
halfway_cut start reads None rest held written new waiting place half begun = tt
halfway_cut start reads (Some trace) rest held written new waiting place half begun =
    cut_short start trace reads rest held written new waiting (last_text (requests_in half.left) place.state) place half refl
    (begun_longer written new waiting (last_text (requests_in half.left) place.state) begun)

-- an early end in the report
pub halfway_cut_last : (start : Start) (reads n : ℕ) (input next held written new : Option (List ℕ)) (front waiting : List ℕ) (place : Place)
    → Halfway start reads input (prepend_known front next) held written waiting place → IfSome next (λ rest. IsLineBefore n front rest) → n ≡ 0
    → HasBegun written new (waiting ++ ended (report_text (report_of place.state))) → IsCutShort start input held new
halfway_cut_last start reads n None next held written new front waiting place half first zero begun = tt
halfway_cut_last start reads n (Some trace) next held written new front waiting place half first zero begun =
    let none : half.left ≡ [] = nothing_left start reads n trace next held written front waiting place half first zero in
    cut_short start trace reads (prepend_known front next) held written new waiting (ended (report_text (report_of place.state))) place half
    (ap (λ l. last_text (requests_in l) place.state) none) begun

-- an early end before the first line
pub cut_at_start : (start : Start) (input held : Option (List ℕ)) → IsLawful start.opening [] → IsCutShort start input held held
cut_at_start start None held lawful = tt
cut_at_start start (Some trace) held lawful = (
  [],
  Appends-nil held,
  record {
    answered = [];
    left = requests_in trace;
    history = [];
    answers = [];
    state = state_of start.opening [];
    rest = last_text (requests_in trace) (state_of start.opening []);
    split = refl;
    replays = (refl, refl);
    past = HasPast-lawful start.opening (state_of start.opening []) [] lawful refl;
    drawn = (start.words, ([], refl, refl));
    begins = refl;
  },
)

-- a trace with so many lines that each of 2^64 - 1 turns found one
pub halfway_spent : (start : Start) (reads : ℕ) (input rest held written : Option (List ℕ)) (waiting : List ℕ) (place : Place)
    → Halfway start reads input rest held written waiting place → 2 ^ 64 - 1 ≤ reads → IfSome input (λ trace. 2 ^ 64 - 1 ≤ length (lines_in trace))
halfway_spent start reads None rest held written waiting place half many = tt
halfway_spent start reads (Some trace) rest held written waiting place half many = omega (arith, half.counted)

-- at least as many lines as reads
pub halfway_counted : (start : Start) (most reads : ℕ) (input rest held written : Option (List ℕ)) (waiting : List ℕ) (place : Place)
    → most ≤ reads → Halfway start reads input rest held written waiting place → IfSome input (λ trace. most ≤ length (lines_in trace))
halfway_counted start most reads None rest held written waiting place enough half = tt
halfway_counted start most reads (Some trace) rest held written waiting place enough half = omega (arith, enough, half.counted)
