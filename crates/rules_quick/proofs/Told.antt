-- What is told of a plain request.
use Rattle.std.proofs.Common.{◌≡◌, ℕ, ◌+◌, ◌≤◌, ◌||◌, ◌&&◌, not, cond, Bool, true, false, List, [], ◌∷◌, ◌++◌, length, refl, ap, ◌∙◌, arith, length-append}
use Rattle.std.specs.Prelude.{map, bytes_eq, codes, Option, Result}
use Rattle.std.specs.List.{list_all, list_any, flat_map}
use Rattle.rules_fields.specs.Texts.{small}
use Rattle.rules_fields.specs.Tables.{among, hop}
use Rattle.rules_fields.specs.Fields.{Field, all, has_line, elements, elements_of, tokens}
use Rattle.rules_fields.specs.Directives.{directives, directives_of}
use Rattle.rules_fields.specs.Meaning.{Meaning}
use Rattle.rules_fields.specs.Types.{Asked, Chosen}
use Rattle.http1_message_parts.specs.declared.reason.Reason.{Reason}
use Rattle.http1_message_parts.specs.Host.{is_host, normal_host}
use Rattle.http1_message.specs.Request.{ReadRequest, read_request}
use Rattle.rules_reuse.specs.Keys.{key_of}
use Rattle.rules_reuse.specs.Planning.{asked_directives, reloads, plan_of, is_reload, only_if_cached}
use Rattle.rules_fields.specs.Asking.{has}
use Rattle.rules_reuse.specs.declared.planning.Plan.{Plan}
use Rattle.rules_reuse.specs.declared.planning.Plan.TheVariants.{Look}
use Rattle.rules_ffi_results.specs.Numbers.{mark}
use Rattle.rules_ffi_arguments.specs.Rooms.{block}
use Rattle.rules_quick.specs.Plain.{watched, is_passed, is_plain_method, is_plain_connection, is_plain_choice, plain_asked, says_close, plain_key, plain_marks, start_text, head_then}
use Rattle.rules_quick.specs.Requests.{marks_of, plan_numbers, request_told, shaped, told_heard}
use Rattle.rules_quick.proofs.FirstLine.{by_method}
use Rattle.rules_quick.proofs.Head.{IsPlain, reads}
use Rattle.rules_quick.proofs.Placed.{Serves, choice_parts, plain_read, framed_is}
use Rattle.rules_quick.proofs.Saying.{unnamed, all_unnamed, still, no_values, no_line, none_long, connection_is, Connection, nothing, stays, ends}

-- nothing is asked of a cache
record Unasked (a : Asked) (o : Chosen) : Type 0 where
  directives_are : asked_directives a o ≡ []
  if_match : has_line (codes "if-match") a.lines ≡ false
  if_unmodified : has_line (codes "if-unmodified-since") a.lines ≡ false
  pragmas : tokens (codes "pragma") a.lines ≡ []

unasked : (a : Asked) (o : Chosen) → list_all (unnamed watched) a.lines ≡ true → Unasked a o
unasked a o h = record {
  directives_are = go o.heeds_requests (ap (flat_map directives_of) (no_values watched (codes "cache-control") a.lines refl h));
  if_match = no_line watched (codes "if-match") a.lines refl h;
  if_unmodified = no_line watched (codes "if-unmodified-since") a.lines refl h;
  pragmas = ap (λ (vs : List (List ℕ)). map small (flat_map elements_of vs)) (no_values watched (codes "pragma") a.lines refl h);
}
  where
    go : (t : Bool) → directives (codes "cache-control") a.lines ≡ [] → cond t (directives (codes "cache-control") a.lines) [] ≡ []
    go true e = e
    go false e = refl

only_not : (a : Asked) (o : Chosen) → Unasked a o → only_if_cached a o ≡ false
only_not a o u = ap (has (codes "only-if-cached")) u.directives_are

reload_not : (a : Asked) (o : Chosen) → Unasked a o → is_reload a o ≡ false
reload_not a o u = ap (λ (ds : List Meaning). o.heeds_requests && reloads ds a.lines) u.directives_are
    ∙ ap (λ (ts : List (List ℕ)). o.heeds_requests && (false || (true && list_any (λ t. bytes_eq t (codes "no-cache")) ts))) u.pragmas ∙ go o.heeds_requests
  where
    go : (t : Bool) → (t && false) ≡ false
    go true = refl
    go false = refl

-- a plain request is looked up
looks : (o : Chosen) (method target host : List ℕ) (lines : List Field) → is_plain_method method ≡ true → Unasked (plain_asked o method target host lines) o
    → plan_of (plain_asked o method target host lines) o ≡ Look
looks o method target host lines m u =
    by_method (λ x. plan_of (plain_asked o x target host lines) o ≡ Look) method m (rw (u.if_match, u.if_unmodified, u.directives_are) refl)
    (rw (u.if_match, u.if_unmodified, u.directives_are) refl)

marks_are : (o : Chosen) (method target host : List ℕ) (lines : List Field) (listed : List (List ℕ)) → Unasked (plain_asked o method target host lines) o
    → marks_of (plain_asked o method target host lines) listed false o ≡ mark (list_any (λ e. bytes_eq (small e) (codes "close")) listed) 1 + mark (bytes_eq method (codes "HEAD")) 8
marks_are o method target host lines listed u =
    ap (λ (t : Bool). mark (list_any (λ e. bytes_eq (small e) (codes "close")) listed) 1 + 0 + 0 + mark (bytes_eq method (codes "HEAD")) 8 + mark t 16 + mark (is_reload (plain_asked o method target host lines) o) 32)
    (only_not (plain_asked o method target host lines) o u)
    ∙ ap (λ (t : Bool). mark (list_any (λ e. bytes_eq (small e) (codes "close")) listed) 1 + 0 + 0 + mark (bytes_eq method (codes "HEAD")) 8 + 0 + mark t 32)
    (reload_not (plain_asked o method target host lines) o u)
    ∙ omega arith

closes_by : (values : List (List ℕ)) → Connection values → list_any (λ e. bytes_eq (small e) (codes "close")) (flat_map elements_of values) ≡ says_close values
closes_by values (nothing n) = rw n refl
closes_by values (stays v n c l s) = rw n (rw (c, l) (rw s refl))
closes_by values (ends n l) = rw n (rw l refl)

key_is : (o : Chosen) (host target : List ℕ) → o.folds_percent ≡ false → key_of o.scheme host target o ≡ o.scheme ++ codes "://" ++ host ++ target
key_is o host target e = rw e refl

shaped_is : (o : Chosen) (method target host : List ℕ) (lines : List Field) (used : ℕ) → is_plain_method method ≡ true → list_all (unnamed watched) lines ≡ true → o.folds_percent ≡ false
    → is_plain_connection (all (codes "connection") lines) ≡ true
    → shaped (plain_read o method target host lines) used o ≡ request_told (plain_asked o method target host lines) (plain_key o host target) (1, 0, 0) (plain_marks method lines) used
shaped_is o method target host lines used m h f c =
    let a = plain_asked o method target host lines in
    let u = unasked a o (still (λ f. not (among hop (small f.0))) (unnamed watched) lines h) in
    let listed = elements (codes "connection") lines in
    let key = key_of o.scheme (normal_host o.scheme host) target o in
    ap (λ (k : List ℕ). request_told a k (plan_numbers (plan_of a o)) (marks_of a listed false o) used) (key_is o (normal_host o.scheme host) target f)
    ∙ ap (λ (p : Plan). request_told a (plain_key o host target) (plan_numbers p) (marks_of a listed false o) used) (looks o method target host lines m u)
    ∙ ap (λ (n : ℕ). request_told a (plain_key o host target) (1, 0, 0) n used)
    (marks_are o method target host lines listed u
    ∙ ap (λ (t : Bool). mark t 1 + mark (bytes_eq method (codes "HEAD")) 8) (closes_by (all (codes "connection") lines) (connection_is (all (codes "connection") lines) c)))

block_within : (method target : List ℕ) (lines : List Field) → length (block lines) ≤ length (head_then method target lines [])
block_within method target lines =
    let start = start_text method target in
    let text = block lines ++ (13 ∷ 10 ∷ []) in
    omega (arith, length-append start (13 ∷ 10 ∷ text), length-append (block lines) (13 ∷ 10 ∷ []))

-- what is told of a plain request
pub told : (method target host : List ℕ) (lines : List Field) (rest : List ℕ) (o : Chosen) → IsPlain method target lines o → is_plain_choice o ≡ true → list_all (is_passed o.drops) lines ≡ true → Serves o host
    → all (codes "host") lines ≡ host ∷ [] → is_host host ≡ true → is_plain_connection (all (codes "connection") lines) ≡ true
    → told_heard (read_request (head_then method target lines rest) o) o
    ≡ request_told (plain_asked o method target host lines) (plain_key o host target) (1, 0, 0) (plain_marks method lines) (length (head_then method target lines []))
told method target host lines rest o p choice d s hosts good c =
    let h = all_unnamed watched lines p.lines_are in
    let q = choice_parts o choice in
    let long = none_long o.most_line lines (omega (arith, block_within method target lines, p.line_within)) in
    ap (λ (r : Option (Result (ReadRequest × ℕ) Reason)). told_heard r o)
    (reads method target lines o rest (plain_read o method target host lines) p (framed_is method target host lines o p.target_is h d s q long hosts good c))
    ∙ shaped_is o method target host lines (length (head_then method target lines [])) p.method_is h q.folds c
