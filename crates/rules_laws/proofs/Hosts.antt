-- The host of a request that is read.
use Rattle.std.proofs.Common.{◌≡◌, ◌≤◌, ℕ, List, [], ◌∷◌, refl, ap, Bool, true, false, not, cond, length, codes, subst, drop, arith}
use Rattle.std.specs.Prelude.{Option, Some, None, Result, Ok, Err, IfOk, nat_lt, take}
use Rattle.std.proofs.lemmas.Bool.{ltb-false}
use Rattle.rules_fields.specs.Rows.{first_true}
use Rattle.rules_fields.specs.Fields.{Field, all, tokens}
use Rattle.rules_fields.specs.Types.{Chosen}
use Rattle.rules_fields.specs.declared.types.Framing.{Framing}
use Rattle.http1_message_parts.specs.declared.reason.Reason.{Reason}
use Rattle.http1_message_parts.specs.declared.reason.Reason.TheVariants.{BadCoding, FieldTooLong, SeveralHosts}
use Rattle.http1_message_parts.specs.Results.{on_ok, map_ok}
use Rattle.http1_message_parts.specs.Body.{framing}
use Rattle.http1_message_parts.specs.Start.{RequestLine, skip_empty, start_len, request_start}
use Rattle.http1_message_parts.specs.Target.{Absolute, absolute, place_rows, place_refusal}
use Rattle.http1_message_parts.specs.Lines.{lines_of, rows_of, fields_within}
use Rattle.http1_message_parts.specs.EndToEnd.{is_hop_name, end_to_end}
use Rattle.http1_message_parts.specs.End.{head_end}
use Rattle.http1_message.proofs.OneHost.{own_hosts}
use Rattle.http1_message.specs.Request.{ReadRequest, unless, own_lines, placed, has_long_line, framed, request_of, too_long, read_until, read_request}
use Rattle.rules_laws.proofs.Named.{all_passing}

HasOne : ReadRequest → Type 0
HasOne read = length (all (codes "host") read.0.lines) ≤ 1

each_ok : {A B : Type 0} (P : B → Type 0) (r : Result A Reason) (f : A → Result B Reason) → ((a : A) → IfOk (f a) P) → IfOk (on_ok r f) P
each_ok P (Ok a) f h = h a
each_ok P (Err e) f h = tt

if_none : {A : Type 0} (P : A → Type 0) (r : Option Reason) (a : A) → (r ≡ None → P a) → IfOk (unless r a) P
if_none P None a h = h refl
if_none P (Some e) a h = tt

none_first : (b : Bool) (r : Reason) (rows : List (Reason × Bool)) → first_true ((r, b) ∷ rows) ≡ None → b ≡ false
none_first true r rows h = cc
none_first false r rows h = refl

-- the lines that are for all recipients have no more hosts than all
fewer : (lines : List Field) → nat_lt 1 (length (all (codes "host") lines)) ≡ false → length (all (codes "host") (end_to_end lines)) ≤ 1
fewer lines h = go (not (is_hop_name (tokens (codes "connection") lines) (codes "host"))) (all_passing (λ n. not (is_hop_name (tokens (codes "connection") lines) n)) (codes "host") lines)
  where
    go : (t : Bool) → all (codes "host") (end_to_end lines) ≡ cond t (all (codes "host") lines) [] → length (all (codes "host") (end_to_end lines)) ≤ 1
    go true e = rw e (ltb-false 1 (length (all (codes "host") lines)) h)
    go false e = rw e (omega arith)

-- nor have those that are left of them
fewer_own : (o : Chosen) (lines : List Field) → length (all (codes "host") (end_to_end lines)) ≤ 1 → length (all (codes "host") (own_lines o lines)) ≤ 1
fewer_own o lines h = omega (arith, own_hosts o lines, h)

one_listed : (method target : List ℕ) (minor : ℕ) (hosts : List (List ℕ)) (form : Option Absolute) (o : Chosen) → place_refusal method target minor hosts form o ≡ None → nat_lt 1 (length hosts) ≡ false
unfolding place_refusal
one_listed method target minor hosts form o e = none_first (nat_lt 1 (length hosts)) SeveralHosts (drop 1 (place_rows method target minor hosts form o)) e

placed_one : (line : RequestLine) (lines : List Field) (o : Chosen) (f : Framing) → IfOk (placed line lines o f) HasOne
unfolding HasOne placed
placed_one line lines o f =
    let hosts = all (codes "host") lines in
    if_none HasOne (place_refusal line.method line.target line.minor hosts (absolute line.target) o) _ (λ e. fewer_own o lines (fewer lines (one_listed line.method line.target line.minor hosts (absolute line.target) o e)))

framed_one : (line : RequestLine) (o : Chosen) (lines : List Field) → IfOk (framed line o lines) HasOne
framed_one line o lines = go (has_long_line lines o)
  where
    go : (t : Bool) → IfOk (cond t (Err FieldTooLong) (on_ok (framing line.minor lines Framing.None BadCoding) (placed line lines o))) HasOne
    go true = tt
    go false = each_ok HasOne (framing line.minor lines Framing.None BadCoding) (placed line lines o) (λ f. placed_one line lines o f)

request_one : (head : List ℕ) (o : Chosen) → IfOk (request_of head o) HasOne
unfolding request_of
request_one head o =
    each_ok HasOne (request_start head o) _ (λ line. each_ok HasOne (fields_within o.most_lines (rows_of (lines_of (drop 2 (drop (start_len head) head))))) (framed line o)
    (λ lines. framed_one line o lines))

read_in : ReadRequest → Option (Result (ReadRequest × ℕ) Reason) → ReadRequest
read_in other (Some (Ok read)) = read.0
read_in other _ = other

taken_ok : (r : Result ReadRequest Reason) (n : ℕ) (read : ReadRequest) (taken : ℕ) → IfOk r HasOne → Some (map_ok {B = ReadRequest × ℕ} (λ head. (head, n)) r) ≡ Some (Ok (read, taken)) → HasOne read
unfolding read_in
taken_ok (Ok head) n read taken h e = subst HasOne (ap (read_in read) e) h
taken_ok (Err r) n read taken h e = cc

until_one : (bytes : List ℕ) (o : Chosen) (at : Option ℕ) (read : ReadRequest) (taken : ℕ) → read_until bytes o at ≡ Some (Ok (read, taken)) → HasOne read
until_one bytes o None read taken e = go (nat_lt o.most_head (length bytes)) (too_long (skip_empty bytes) o) e
  where
    go : (t : Bool) (r : Reason) → cond {A = Option (Result (ReadRequest × ℕ) Reason)} t (Some (Err r)) None ≡ Some (Ok (read, taken)) → HasOne read
    go true r e = cc
    go false r e = cc
until_one bytes o (Some n) read taken e = taken_ok (request_of (skip_empty (take n bytes)) o) n read taken (request_one (skip_empty (take n bytes)) o) e

pub one_host : (bytes : List ℕ) (o : Chosen) (read : ReadRequest) (taken : ℕ) → read_request bytes o ≡ Some (Ok (read, taken)) → length (all (codes "host") read.0.lines) ≤ 1
unfolding HasOne read_request
one_host bytes o read taken e = until_one bytes o (head_end bytes) read taken e
