-- What is read of a plain request.
use Rattle.std.proofs.Common.{cond, ◌≡◌, ℕ, suc, ◌+◌, ◌==◌, ◌&&◌, not, Bool, true, false, List, [], ◌∷◌, take, drop, length, refl, ap, ◌∙◌, arith}
use Rattle.std.specs.Prelude.{bytes_eq, codes, Option, Some, None, is_some, Ok}
use Rattle.std.specs.List.{list_all, list_any, position_or_len}
use Rattle.std.proofs.lemmas.Grind.{common_steps}
use Rattle.std.proofs.lemmas.Bool.{and_parts, eqb-true, not-true}
use Rattle.rules_fields.specs.Texts.{small}
use Rattle.rules_fields.specs.Tables.{hop}
use Rattle.rules_fields.specs.Fields.{Field, all, has_line, without, elements, tokens}
use Rattle.rules_fields.specs.Types.{Chosen}
use Rattle.rules_fields.specs.declared.types.Framing.{Framing}
use Rattle.http1_message_parts.specs.declared.reason.Reason.TheVariants.{BadCoding}
use Rattle.http1_message_parts.specs.Body.{framing}
use Rattle.http1_message_parts.specs.EndToEnd.{is_hop_name, end_to_end}
use Rattle.http1_message_parts.specs.Host.{is_host, normal_host}
use Rattle.http1_message_parts.specs.Query.{chosen_target}
use Rattle.http1_message_parts.specs.Start.{RequestLine}
use Rattle.http1_message_parts.specs.Target.{absolute, with_scheme, place_refusal, names_host}
use Rattle.http1_message.specs.Request.{ReadRequest, own_lines, placed, has_long_line, framed}
use Rattle.rules_quick.specs.Plain.{watched, is_passed, is_plain_target, is_plain_connection, is_plain_choice, plain_asked}
use Rattle.rules_quick.proofs.FirstLine.{target_parts}
use Rattle.rules_quick.proofs.Head.{the_line}
use Rattle.rules_quick.proofs.Saying.{still, unnamed, no_values, no_line, kept_are}

-- what an operator didn't choose
pub record PlainChoice (o : Chosen) : Type 0 where
  pub folds : o.folds_percent ≡ false
  pub query : (length o.query_drops == 0) ≡ true
  pub sorts : o.query_sorts ≡ false
  pub encodings : o.encodings ≡ []
  pub cookies : o.cookie_keeps ≡ None

empty : {A : Type 0} (xs : List A) → (length xs == 0) ≡ true → xs ≡ []
empty [] h = refl
empty (x ∷ xs) h = absurd (omega (arith, eqb-true (length (x ∷ xs)) 0 h))

nothing : {A : Type 0} (x : Option A) → is_some x ≡ false → x ≡ None
nothing None h = refl
nothing (Some a) h = cc

pub choice_parts : (o : Chosen) → is_plain_choice o ≡ true → PlainChoice o
choice_parts o h =
    let c4 = and_parts (not o.folds_percent && length o.query_drops == 0 && not o.query_sorts && length o.encodings == 0) (not (is_some o.cookie_keeps)) h in
    let c3 = and_parts (not o.folds_percent && length o.query_drops == 0 && not o.query_sorts) (length o.encodings == 0) c4.0 in
    let c2 = and_parts (not o.folds_percent && length o.query_drops == 0) (not o.query_sorts) c3.0 in
    let c1 = and_parts (not o.folds_percent) (length o.query_drops == 0) c2.0 in
    record {
      folds = not-true o.folds_percent c1.0;
      query = c1.1;
      sorts = not-true o.query_sorts c2.1;
      encodings = empty o.encodings c3.1;
      cookies = nothing o.cookie_keeps (not-true (is_some o.cookie_keeps) c4.1);
    }

-- a path is no absolute target
pub no_absolute : (target : List ℕ) → is_plain_target target ≡ true → absolute target ≡ None
no_absolute [] h = cc
no_absolute (b ∷ path) h = rw (eqb-true b 47 (and_parts (b == 47) _ h).0) (go (position_or_len (λ c. c == 58) path))
  where
    go : (n : ℕ) → with_scheme (take (1 + n) (47 ∷ path)) (drop (1 + n) (47 ∷ path)) ≡ None
    go n = ap (λ (m : ℕ). with_scheme (take m (47 ∷ path)) (drop m (47 ∷ path))) (one_more n)
      where
        one_more : (n : ℕ) → 1 + n ≡ suc n
        one_more n = omega arith

no_mark : (target : List ℕ) → list_all (λ b. not (b == 35)) target ≡ true → list_any (λ b. b == 35) target ≡ false
no_mark [] h = refl
no_mark (b ∷ target) h = let p = and_parts (not (b == 35)) (list_all (λ b. not (b == 35)) target) h in rw (not-true (b == 35) p.0) (no_mark target p.1)

-- a host is one that the operator serves
abbrev pub Serves : Chosen → List ℕ → Type 0
Serves o host = names_host o.hosts o.scheme (normal_host o.scheme host) ≡ true

-- nothing is wrong with its place
unrefused : (method target host : List ℕ) (o : Chosen) → is_plain_target target ≡ true → is_host host ≡ true → Serves o host → place_refusal method target 1 (host ∷ []) None o ≡ None
unfolding place_refusal
unrefused method [] host o t h s = cc
unrefused method (b ∷ path) host o t h s =
    let e = eqb-true b 47 (and_parts (b == 47) _ t).0 in
    let m = no_mark (b ∷ path) (target_parts (b ∷ path) t).unmarked in
    rw (h, s, m) (rw e refl)

pub drops_nothing : (unwanted : List (List ℕ)) (lines : List Field) → list_all (is_passed unwanted) lines ≡ true → without unwanted lines ≡ lines
drops_nothing unwanted [] h = refl
drops_nothing unwanted (f ∷ lines) h =
    let p = and_parts (is_passed unwanted f) (list_all (is_passed unwanted) lines) h in
    ap (λ (t : Bool). cond t (f ∷ without unwanted lines) (without unwanted lines)) p.0 ∙ ap (λ rest. f ∷ rest) (drops_nothing unwanted lines p.1)

own_by : (o : Chosen) (lines : List Field) → PlainChoice o → list_all (is_passed o.drops) lines ≡ true → own_lines o lines ≡ end_to_end lines
own_by o lines p h =
    rw (p.encodings, p.cookies, drops_nothing o.drops (end_to_end lines) (still (λ f. not (is_hop_name (tokens (codes "connection") lines) (small f.0))) (is_passed o.drops) lines h))
    (grind (arith, common_steps))

target_by : (o : Chosen) (target : List ℕ) → PlainChoice o → chosen_target o target ≡ target
target_by o target p = rw (p.query, p.sorts) refl

-- what is read, what Connection lists, and no Expect
abbrev pub plain_read : Chosen → List ℕ → List ℕ → List ℕ → List Field → ReadRequest
plain_read o method target host lines = (plain_asked o method target host lines, elements (codes "connection") lines, false)

-- what is asked of it, as its parts
abbrev said : Chosen → List ℕ → List ℕ → List ℕ → List Field → Bool → List (List ℕ) → Bool → ReadRequest
said o method target host lines trailers listed expects = (
  record {
    method = method;
    scheme = o.scheme;
    host = normal_host o.scheme host;
    target = target;
    minor = 1;
    lines = lines;
    framing = Framing.None;
    takes_trailers = trailers;
  },
  listed,
  expects,
)

-- by the form of its target and the values of its Host lines
placed_by : (method target host : List ℕ) (lines : List Field) (o : Chosen) → absolute target ≡ None → all (codes "host") lines ≡ host ∷ []
    → place_refusal method target 1 (host ∷ []) None o ≡ None → chosen_target o target ≡ target
    → placed (the_line method target) lines o Framing.None
    ≡ Ok (said o method target host (own_lines o lines) (list_any (λ t. bytes_eq t (codes "trailers")) (tokens (codes "te") lines)) (elements (codes "connection") lines) (has_line (codes "expect") lines))
unfolding placed
placed_by method target host lines o a hs r t = rw (a, hs, r, t) refl

no_tokens : (name : List ℕ) (lines : List Field) → all name lines ≡ [] → tokens name lines ≡ []
no_tokens name lines e = rw e refl

placed_is : (method target host : List ℕ) (lines : List Field) (o : Chosen) → is_plain_target target ≡ true → list_all (unnamed watched) lines ≡ true → list_all (is_passed o.drops) lines ≡ true → Serves o host → PlainChoice o
    → all (codes "host") lines ≡ host ∷ [] → is_host host ≡ true → is_plain_connection (all (codes "connection") lines) ≡ true
    → placed (the_line method target) lines o Framing.None ≡ Ok (plain_read o method target host lines)
placed_is method target host lines o t h d s p hs good c =
    placed_by method target host lines o (no_absolute target t) hs (unrefused method target host o t good s) (target_by o target p)
    ∙ ap (λ (ls : List Field). Ok (said o method target host ls (list_any (λ t. bytes_eq t (codes "trailers")) (tokens (codes "te") lines)) (elements (codes "connection") lines) (has_line (codes "expect") lines)))
    (own_by o lines p d ∙ kept_are watched lines refl h c)
    ∙ ap (λ (ts : List (List ℕ)). Ok (said o method target host (without hop lines) (list_any (λ t. bytes_eq t (codes "trailers")) ts) (elements (codes "connection") lines) (has_line (codes "expect") lines)))
    (no_tokens (codes "te") lines (no_values watched (codes "te") lines refl h))
    ∙ ap (λ (b : Bool). Ok (said o method target host (without hop lines) false (elements (codes "connection") lines) b)) (no_line watched (codes "expect") lines refl h)

framing_by : (lines : List Field) → has_line (codes "transfer-encoding") lines ≡ false → all (codes "content-length") lines ≡ [] → framing 1 lines Framing.None BadCoding ≡ Ok Framing.None
framing_by lines c l = rw (c, l) refl

framed_by : (line : RequestLine) (o : Chosen) (lines : List Field) (f : Framing) → has_long_line lines o ≡ false → framing line.minor lines Framing.None BadCoding ≡ Ok f
    → framed line o lines ≡ placed line lines o f
framed_by line o lines f l e = rw (l, e) refl

pub framed_is : (method target host : List ℕ) (lines : List Field) (o : Chosen) → is_plain_target target ≡ true → list_all (unnamed watched) lines ≡ true → list_all (is_passed o.drops) lines ≡ true → Serves o host → PlainChoice o
    → has_long_line lines o ≡ false → all (codes "host") lines ≡ host ∷ [] → is_host host ≡ true → is_plain_connection (all (codes "connection") lines) ≡ true
    → framed (the_line method target) o lines ≡ Ok (plain_read o method target host lines)
framed_is method target host lines o t h d s p long hs good c =
    framed_by (the_line method target) o lines Framing.None long
    (framing_by lines (no_line watched (codes "transfer-encoding") lines refl h) (no_values watched (codes "content-length") lines refl h))
    ∙ placed_is method target host lines o t h d s p hs good c
