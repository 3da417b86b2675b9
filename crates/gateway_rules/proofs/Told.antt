-- What the calls tell: a status above 63, and how long the text is.
use Rattle.std.proofs.Common.{◌≡◌, ℕ, ◌+◌, ◌<◌, Bool, true, false, List, [], ◌∷◌, ◌++◌, length, refl, subst, Option, Some, None, Result, Ok, Err, length-append, arith}
use Rattle.rules_ffi_arguments.specs.Given.{◌>>=◌}
use Rattle.rules_ffi_arguments.specs.declared.shapes.RequestShape.{RequestShape}
use Rattle.rules_ffi_arguments.specs.declared.shapes.ResponseShape.{ResponseShape}
use Rattle.rules_ffi_arguments.specs.declared.shapes.KeptShape.{KeptShape}
use Rattle.rules_ffi_arguments.specs.declared.shapes.OptionNumbers.{OptionNumbers}
use Rattle.rules_ffi_arguments.specs.declared.shapes.Out.{Out}
use Rattle.rules_ffi_results.specs.Numbers.{blank}
use Rattle.rules_ffi_results.specs.Keeping.{unkept}
use Rattle.std.specs.Prelude.{ℤ, ◌-◌, ◌^◌, if◌then◌else◌, not, nat_lt, codes, max}
use Rattle.rules_fields.specs.Types.{Asked, Answered, KeptHead, Chosen}
use Rattle.rules_storage.specs.Ages.{arrival}
use Rattle.rules_storage.specs.Judge.{judgement}
use Rattle.rules_storage.specs.Good.{is_good}
use Rattle.rules_storage.specs.Predicting.{predicts_uncacheable}
use Rattle.rules_storage.specs.declared.reason.Reason.{Reason as Why}
use Rattle.rules_response.specs.Confirm.{stored_from}
use Rattle.http1_message.specs.Response.{ReadResponse, read_response}
use Rattle.rules_ffi_arguments.specs.Given.{only_if}
use Rattle.rules_ffi_arguments.specs.Rooms.{behind}
use Rattle.rules_ffi_arguments.specs.Spans.{lines_in, block_lines, value_in}
use Rattle.rules_ffi_arguments.specs.Moments.{moment_in}
use Rattle.rules_ffi_arguments.specs.Requests.{asked_by}
use Rattle.rules_ffi_arguments.specs.Responses.{answered_by, code_in}
use Rattle.rules_ffi_arguments.specs.Stored.{kept_by}
use Rattle.rules_ffi_arguments.specs.declared.shapes.HeadShape.{HeadShape}
use Rattle.rules_ffi_results.specs.Numbers.{mark, nowhere}
use Rattle.rules_ffi_results.specs.Keeping.{keeping, leaving, not_kept}
use Rattle.rules_ffi_results.specs.Reasons.{reason_name}
use Rattle.rules_ffi_results.specs.Shown.{shown}
use Rattle.rules_ffi.specs.Sends.{Goes, going, written, told_sent, sent_in}
use Rattle.rules_ffi.specs.Plains.{is_head, closes, has_body, plain_head, told_plain, plain_in}
use Rattle.rules_ffi.specs.Sets.{varies, vary_alike}
use Rattle.rules_ffi.specs.Judgements.{judged_method, found_of, moves, told_judged, judge_told, judged_in, renewing, told_renewed, told_merged, merged, renewed_in}
use Rattle.http1_message_parts.specs.declared.reason.Reason.{Reason}
use Rattle.http1_message.specs.Request.{ReadRequest, read_request}
use Rattle.rules_reuse.specs.Keys.{key_of}
use Rattle.rules_reuse.specs.Planning.{plan_of}
use Rattle.rules_ffi_arguments.specs.Options.{lists_in, chosen_by}
use Rattle.rules_ffi.specs.Requests.{blank_request, asked_in, told_heard, request_told, plan_numbers, marks_of}
use Rattle.rules_ffi.specs.Responses.{blank_response, sent_method, answered_in, told_heard as response_heard}
use Rattle.gateway_rules.proofs.Within.{Kind, IsTold, AllTold}

-- what holds of each value that a step gives holds of what the steps give
pub some_of : {A B : Type 0} (P : B → Type 0) (x : Option A) (f : A → Option B) → ((a : A) (b : B) → f a ≡ Some b → P b) → (b : B) → (x >>= f) ≡ Some b → P b
some_of P None f h b e = cc
some_of P (Some a) f h b e = h a b e

abbrev pub requests : Kind RequestShape
requests = record {
  blank = blank_request;
  status = λ s. s.status;
  needed = λ s. s.needed;
  len = λ s. s.whole.to;
  blank_status = λ s n. refl;
  blank_needed = λ s n. refl;
}

abbrev pub responses : Kind ResponseShape
responses = record {
  blank = blank_response;
  status = λ s. s.status;
  needed = λ s. s.needed;
  len = λ s. s.whole.to;
  blank_status = λ s n. refl;
  blank_needed = λ s n. refl;
}

abbrev pub decisions : Kind KeptShape
decisions = record {
  blank = unkept;
  status = λ s. s.status;
  needed = λ s. s.needed;
  len = λ s. s.block.to;
  blank_status = λ s n. refl;
  blank_needed = λ s n. refl;
}

abbrev pub outs : (Out → ℕ) → Kind Out
outs len = record {
  blank = blank;
  status = λ s. s.status;
  needed = λ s. s.needed;
  len = len;
  blank_status = λ s n. refl;
  blank_needed = λ s n. refl;
}

-- what holds of a value holds of the one that is given
pub of_the_given : {A : Type 0} (P : A → Type 0) (x y : A) → ◌≡◌ {A = Option A} (Some x) (Some y) → P x → P y
of_the_given P x y e h = subst P (let k : x ≡ y = cc in k) h

abbrev pub Tells : {S : Type 0} → Kind S → List ℕ × S → Type 0
Tells k t = IsTold k t.0 t.1

shaped_is_told : (a : Asked) (key : List ℕ) (plan : ℕ × ℕ × ℕ) (marks used : ℕ) → Tells requests (request_told a key plan marks used)
shaped_is_told a key plan marks used = record { status = omega arith; long = simp length-append (omega arith) }

heard_is_told : (r : Option (Result (ReadRequest × ℕ) Reason)) (o : Chosen) → Tells requests (told_heard r o)
heard_is_told None o = record { status = omega arith; long = refl }
heard_is_told (Some (Err reason)) o = record { status = omega arith; long = refl }
heard_is_told (Some (Ok r)) o =
    shaped_is_told r.0.0 (key_of r.0.0.scheme r.0.0.host r.0.0.target o) (plan_numbers (plan_of r.0.0 o)) (marks_of r.0.0 r.0.1 r.0.2 o) r.1

pub asked_is_told : (n : OptionNumbers) (words bytes : List ℕ) → AllTold requests (asked_in n words bytes)
unfolding asked_in
asked_is_told n words bytes text s e =
    let P : List ℕ × RequestShape → Type 0 = Tells requests in
    some_of P (lists_in words) _ (λ lists t f. some_of P (chosen_by n lists) _ (λ o u g. of_the_given P (told_heard (read_request bytes o) o) u g (heard_is_told (read_request bytes o) o)) t f) (text, s) e

-- the head of a request to the origin
sent_told : (g : Goes) (a : Asked) (text : List ℕ) → Tells (outs (λ o. o.head.to)) (told_sent g a text)
sent_told g a text = record { status = omega arith; long = omega arith }

pub sent_is_told : (n : OptionNumbers) (words : List ℕ) (q : RequestShape) (text : List ℕ) (what : ℕ) (h : HeadShape) (block peer : List ℕ)
    → AllTold (outs (λ o. o.head.to)) (sent_in n words q text what h block peer)
unfolding sent_in
sent_is_told n words q text what h block peer found s e =
    let P : List ℕ × Out → Type 0 = Tells (outs (λ o. o.head.to)) in
    some_of P (lists_in words) _ (λ lists t f.
    some_of P (chosen_by n lists) _ (λ o t f.
    some_of P (lines_in text q.lines) _ (λ lines t f.
    some_of P (asked_by q text lines o.scheme) _ (λ request t f.
    some_of P (block_lines block) _ (λ stored t f.
    some_of P (kept_by h stored) _ (λ kept t f.
    some_of P (value_in peer) _ (λ client t f.
    some_of P (going what request kept o) _ (λ g t f.
    of_the_given P (told_sent g request (written g request client o)) t f (sent_told g request (written g request client o)))
    t f) t f) t f) t f) t f) t f) t f) (found, s) e

-- an answer of its own: its body stands behind its head
own_told : (q : RequestShape) (status : ℕ) (name date : List ℕ) (o : Chosen) → Tells (outs (λ o. max o.head.to o.more.to)) (told_plain q status name date o)
own_told q status name date o = elim (has_body q status) as (λ b. IsTold (outs (λ o. max o.head.to o.more.to))
    (plain_head q status name date o ++ (if b then name ++ (10 ∷ []) else []))
    (record (blank 67 0) {
      code = status;
      framing = mark b 1;
      length = if b then length name + 1 else 2 ^ 64 - 1;
      marks = mark (closes q) 1 + mark (is_head q) 8;
      head = behind 0 (plain_head q status name date o);
      more = if b then behind (length (plain_head q status name date o)) (if b then name ++ (10 ∷ []) else []) else nowhere;
    })) [
      | true ↦ record { status = omega arith; long = simp length-append (omega arith) }
      | false ↦ record { status = omega arith; long = simp length-append (omega arith) }
    ]

pub plain_is_told : (n : OptionNumbers) (words : List ℕ) (q : RequestShape) (code reason : ℕ) (date : List ℕ)
    → AllTold (outs (λ o. max o.head.to o.more.to)) (plain_in n words q code reason date)
unfolding plain_in
plain_is_told n words q code reason date found s e =
    let P : List ℕ × Out → Type 0 = Tells (outs (λ o. max o.head.to o.more.to)) in
    some_of P (lists_in words) _ (λ lists t f.
    some_of P (chosen_by n lists) _ (λ o t f.
    some_of P (only_if (not (nat_lt code 100)) code) _ (λ three t f.
    some_of P (code_in three) _ (λ status t f.
    of_the_given P (told_plain q status (reason_name reason) date o) t f (own_told q status (reason_name reason) date o))
    t f) t f) t f) (found, s) e

-- a response that was read
answer_told : (r : Option (Result (ReadResponse × ℕ) Reason)) → Tells responses (response_heard r)
answer_told None = record { status = omega arith; long = refl }
answer_told (Some (Err reason)) = record { status = omega arith; long = refl }
answer_told (Some (Ok r)) = record { status = omega arith; long = omega arith }

pub answered_is_told : (n : OptionNumbers) (words : List ℕ) (head_sent : ℕ) (bytes date : List ℕ) → AllTold responses (answered_in n words head_sent bytes date)
unfolding answered_in
answered_is_told n words head_sent bytes date found s e =
    let P : List ℕ × ResponseShape → Type 0 = Tells responses in
    some_of P (lists_in words) _ (λ lists t f.
    some_of P (chosen_by n lists) _ (λ o t f.
    of_the_given P (response_heard (read_response bytes (sent_method head_sent) date o)) t f (answer_told (read_response bytes (sent_method head_sent) date o)))
    t f) (found, s) e

-- what is stored, and what isn't
keeping_told : (k : KeptHead) (p : Answered) (varies goes : Bool) → Tells decisions (keeping k p varies goes)
keeping_told k p varies goes = record { status = omega arith; long = simp length-append refl }

leaving_told : (told : KeptShape) (arrived : ℤ) (p : Answered) → 63 < told.status → Tells decisions (leaving told arrived p)
leaving_told told arrived p h = record { status = h; long = omega arith }

judged_told : (r : Result KeptHead (Why × Bool)) (q : Asked) (arrived : ℤ) (p : Answered) (varies goes : Bool) → Tells decisions (told_judged r q arrived p varies goes)
judged_told (Ok k) q arrived p varies goes = keeping_told k p varies goes
judged_told (Err why) q arrived p varies goes = leaving_told (not_kept why.0 why.1 (predicts_uncacheable why.0 q)) arrived p (omega arith)

renewing_told : (k : KeptHead) (p : Answered) (alike goes : Bool) → Tells decisions (renewing k p alike goes)
renewing_told k p true goes = keeping_told k p false false
renewing_told k p false goes = leaving_told (record (unkept 69 0) { removes = mark goes 1 }) k.arrival p (omega arith)

renewed_told : (r : Result KeptHead (Why × Bool)) (q : Asked) (arrived : ℤ) (p : Answered) (alike goes : Bool) → Tells decisions (told_renewed r q arrived p alike goes)
renewed_told (Ok k) q arrived p alike goes = renewing_told k p alike goes
renewed_told (Err why) q arrived p alike goes = leaving_told (not_kept why.0 why.1 (predicts_uncacheable why.0 q)) arrived p (omega arith)

merged_told : (m : Option Answered) (kept : KeptHead) (p : Answered) (q : Asked) (a c : ℕ) (o : Chosen) → Tells decisions (told_merged m kept p q a c o)
merged_told None kept p q a c o = record { status = omega arith; long = refl }
merged_told (Some m) kept p q a c o =
    renewed_told (judgement q (codes "GET") (stored_from kept p m o) a c (Some kept) p.status o) q (arrival m.lines a c o) (shown o m) (vary_alike kept.lines m.lines) (not (is_good kept c))

pub judged_is_told : (n : OptionNumbers) (words : List ℕ) (q : RequestShape) (text : List ℕ) (head_sent : ℕ) (r : ResponseShape) (came_text : List ℕ)
    (asked came : ℕ × ℕ) (list : List ℕ) (h : HeadShape) (found_text : List ℕ) → AllTold decisions (judged_in n words q text head_sent r came_text asked came list h found_text)
unfolding judged_in
judged_is_told n words q text head_sent r came_text asked came list h found_text found s e =
    let P : List ℕ × KeptShape → Type 0 = Tells decisions in
    some_of P (lists_in words) _ (λ lists t f.
    some_of P (chosen_by n lists) _ (λ o t f.
    some_of P (lines_in text q.lines) _ (λ lines t f.
    some_of P (asked_by q text lines o.scheme) _ (λ request t f.
    some_of P (lines_in came_text r.lines) _ (λ fields t f.
    some_of P (answered_by r fields) _ (λ response t f.
    some_of P (moment_in asked.0 asked.1) _ (λ a t f.
    some_of P (moment_in came.0 came.1) _ (λ c t f.
    some_of P (block_lines found_text) _ (λ stored t f.
    some_of P (kept_by h stored) _ (λ kept t f.
    of_the_given P (judge_told request (judged_method head_sent request.method) response a c list (found_of kept) o) t f
    (judged_told (judgement request (judged_method head_sent request.method) response a c (found_of kept) response.status o) request (arrival response.lines a c o)
    (shown o response) (varies list response.lines) (moves list (found_of kept) response c)))
    t f) t f) t f) t f) t f) t f) t f) t f) t f) (found, s) e

pub renewed_is_told : (n : OptionNumbers) (words : List ℕ) (q : RequestShape) (text : List ℕ) (h : HeadShape) (lines_text : List ℕ) (len : ℕ) (r : ResponseShape)
    (came_text : List ℕ) (asked came : ℕ × ℕ) → AllTold decisions (renewed_in n words q text h lines_text len r came_text asked came)
unfolding renewed_in
renewed_is_told n words q text h lines_text len r came_text asked came found s e =
    let P : List ℕ × KeptShape → Type 0 = Tells decisions in
    some_of P (lists_in words) _ (λ lists t f.
    some_of P (chosen_by n lists) _ (λ o t f.
    some_of P (lines_in text q.lines) _ (λ lines t f.
    some_of P (asked_by q text lines o.scheme) _ (λ request t f.
    some_of P (block_lines lines_text) _ (λ stored t f.
    some_of P (kept_by h stored) _ (λ kept t f.
    some_of P (lines_in came_text r.lines) _ (λ fields t f.
    some_of P (answered_by r fields) _ (λ response t f.
    some_of P (moment_in asked.0 asked.1) _ (λ a t f.
    some_of P (moment_in came.0 came.1) _ (λ c t f.
    of_the_given P (told_merged (merged kept len response) kept response request a c o) t f (merged_told (merged kept len response) kept response request a c o))
    t f) t f) t f) t f) t f) t f) t f) t f) t f) (found, s) e
