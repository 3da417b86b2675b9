-- What a fetch sends of each name.
use Rattle.std.proofs.Common.{◌≡◌, ℕ, List, [], ◌∷◌, ◌++◌, refl, sym, ap, ◌∙◌, subst, Bool, true, false, not, ◌&&◌, ◌||◌, cond, map, codes, ◌⊎◌, inl, inr}
use Rattle.std.specs.Prelude.{Option, Some, None, bytes_eq, is_some, nat_lt, length}
use Rattle.std.specs.List.{list_any}
use Rattle.std.specs.Cmp.Lexicographic.{bytes_decides}
use Rattle.std.proofs.lemmas.List.{append-nil}
use Rattle.rules_fields.specs.Texts.{small}
use Rattle.rules_fields.specs.Fields.{Field, is_named, all, first, has_line, without}
use Rattle.rules_fields.specs.Tables.{among, frames, range_fields, whole_conditions}
use Rattle.rules_fields.specs.Types.{Asked, Chosen}
use Rattle.http1_message_parts.specs.Via.{via_value}
use Rattle.rules_storage.specs.Judge.{names, names_any, is_let_along, is_unkeyed}
use Rattle.rules_storage.specs.Selecting.{counting}
use Rattle.rules_reuse.specs.Planning.{plan_of}
use Rattle.rules_reuse.specs.declared.planning.Plan.TheVariants.{Look}
use Rattle.rules_reuse.specs.Variants.{cased, value_of, goes_along, value_in}
use Rattle.rules_reuse.proofs.Looking.{looks}
use Rattle.rules_forward.specs.Forward.{is_counted, counted, rewritten, for_line, trailers_lines, passed, forward}
use Rattle.rules_forward.specs.Send.{without_if, fill}
use Rattle.rules_laws.specs.Fetched.{fetched, value_sent}
use Rattle.rules_laws.proofs.Named.{all_joined, all_passing}
use Rattle.rules_laws.proofs.Same.{head, first_is}

or_first : (a b : Bool) → (a || b) ≡ false → a ≡ false
or_first true b h = cc
or_first false b h = refl

or_second : (a b : Bool) → (a || b) ≡ false → b ≡ false
or_second true b h = cc
or_second false b h = h

-- names that aren't one
differ : (n name : List ℕ) → (n ≡ name → ⊥) → bytes_eq n name ≡ false
differ n name h = go (bytes_eq n name) refl
  where
    go : (t : Bool) → bytes_eq n name ≡ t → bytes_eq n name ≡ false
    go true e = absurd (h ((bytes_decides n name).0 e))
    go false e = e

differ_turned : (n name : List ℕ) → (n ≡ name → ⊥) → bytes_eq name n ≡ false
differ_turned n name h = differ name n (λ e. h (sym e))

-- what Vary names isn't what it doesn't name
unnamed : (n name : List ℕ) (lines : List Field) → names name lines ≡ true → names n lines ≡ false → n ≡ name → ⊥
unnamed n name lines there none e = let same : names n lines ≡ true = subst (λ (x : List ℕ). names x lines ≡ true) (sym e) there in cc

listed_not : (n name : List ℕ) → bytes_eq n n ≡ true → bytes_eq name n ≡ false → n ≡ name → ⊥
listed_not n name same none e = let other : bytes_eq n n ≡ false = subst (λ (x : List ℕ). bytes_eq x n ≡ false) (sym e) none in cc

flipped : (b : Bool) (vs : List (List ℕ)) → cond (not b) vs [] ≡ cond b [] vs
flipped true vs = refl
flipped false vs = refl

-- the values of a name in lines of which some were left off
left_by : (t : Bool) (ns : List (List ℕ)) (name : List ℕ) (lines : List Field) → all name (without_if t ns lines) ≡ cond (t && among ns name) [] (all name lines)
left_by true ns name lines = all_passing (λ n. not (among ns n)) name lines ∙ flipped (among ns name) (all name lines)
left_by false ns name lines = refl

uncounted : (lines : List Field) → map (counted false) lines ≡ lines
uncounted [] = refl
uncounted (f ∷ lines) = ap (λ (l : List Field). f ∷ l) (uncounted lines)

-- a line of another name
other_front : (n v name : List ℕ) (lines : List Field) → bytes_eq (small n) name ≡ false → all name ((n, v) ∷ lines) ≡ all name lines
other_front n v name lines e = rw e refl

-- what is written anew is of other names
trailers_are_other : (takes : Bool) (name : List ℕ) → bytes_eq (codes "te") name ≡ false → bytes_eq (codes "connection") name ≡ false → all name (trailers_lines takes) ≡ []
trailers_are_other true name t c =
    other_front (codes "TE") (codes "trailers") name ((codes "Connection", codes "TE") ∷ []) t ∙ other_front (codes "Connection") (codes "TE") name [] c
trailers_are_other false name t c = refl

for_is_other : (ff : Bool) (peer name : List ℕ) (lines : List Field) → (ff ≡ true → bytes_eq (codes "x-forwarded-for") name ≡ false) → all name (for_line ff peer lines) ≡ []
for_is_other true peer name lines x = other_front (codes "X-Forwarded-For") _ name [] (x refl)
for_is_other false peer name lines x = refl

none_behind : (name : List ℕ) (lines more : List Field) → all name more ≡ [] → all name (lines ++ more) ≡ all name lines
none_behind name lines more e = all_joined name lines more ∙ ap (λ (vs : List (List ℕ)). all name lines ++ vs) e ∙ append-nil (all name lines)

-- nor is it left out of the others
not_rewritten : (ff : Bool) (name : List ℕ) → bytes_eq name (codes "via") ≡ false → (ff ≡ true → bytes_eq name (codes "x-forwarded-for") ≡ false) → among (rewritten ff) name ≡ false
not_rewritten true name v x = let y : bytes_eq name (codes "x-forwarded-for") ≡ false = x refl in rw (v, y) refl
not_rewritten false name v x = rw v refl

-- the values of a name that is no proxy's own are those of what is passed on
forwards : (r : Asked) (peer name : List ℕ) (o : Chosen) → is_counted r.method ≡ false → (codes "host" ≡ name → ⊥) → (codes "connection" ≡ name → ⊥) → (codes "via" ≡ name → ⊥)
    → (codes "te" ≡ name → ⊥) → (o.forwards_for ≡ true → codes "x-forwarded-for" ≡ name → ⊥)
    → all name (forward r peer o) ≡ all name (passed o r.lines)
unfolding forward
forwards r peer name o uncounts h c v t x =
    let lines = passed o r.lines in
    let kept = without (rewritten o.forwards_for) lines in
    let made = map (counted (is_counted r.method)) kept in
    let via : List Field = (codes "Via", via_value r.minor o.name lines) ∷ [] in
    let with_host = (codes "Host", r.host) ∷ made in
    let with_for = with_host ++ for_line o.forwards_for peer lines in
    let rest : all name kept ≡ all name lines =
    all_passing (λ n. not (among (rewritten o.forwards_for) n)) name lines ∙ flipped (among (rewritten o.forwards_for) name) (all name lines)
    ∙ ap (λ (b : Bool). cond b [] (all name lines)) (not_rewritten o.forwards_for name (differ_turned (codes "via") name v) (λ on. differ_turned (codes "x-forwarded-for") name (x on))) in
    none_behind name (with_for ++ via) (trailers_lines r.takes_trailers) (trailers_are_other r.takes_trailers name (differ (codes "te") name t) (differ (codes "connection") name c))
    ∙ none_behind name with_for via (other_front (codes "Via") (via_value r.minor o.name lines) name [] (differ (codes "via") name v))
    ∙ none_behind name with_host (for_line o.forwards_for peer lines) (for_is_other o.forwards_for peer name lines (λ on. differ (codes "x-forwarded-for") name (x on)))
    ∙ other_front (codes "Host") r.host name made (differ (codes "host") name h)
    ∙ ap (λ (b : Bool). all name (map (counted b) kept)) uncounts
    ∙ ap (all name) (uncounted kept)
    ∙ rest

-- of names that are left off one that Vary names is named there
among_named : (ns : List (List ℕ)) (name : List ℕ) (lines : List Field) → names name lines ≡ true → among ns name ≡ true → names_any ns lines ≡ true
among_named [] name lines there h = cc
among_named (n ∷ ns) name lines there h = go (bytes_eq name n) refl h (among_named ns name lines there)
  where
    either : (a b : Bool) → b ≡ true → (a || b) ≡ true
    either true b k = refl
    either false b k = k

    go : (t : Bool) → bytes_eq name n ≡ t → (t || among ns name) ≡ true → (among ns name ≡ true → names_any ns lines ≡ true) → (names n lines || names_any ns lines) ≡ true
    go true e k ih = let same : names n lines ≡ true = subst (λ (m : List ℕ). names m lines ≡ true) ((bytes_decides name n).0 e) there in rw same refl
    go false e k ih = either (names n lines) (names_any ns lines) (ih k)

-- then it is left off, as the operator chose
is_left_off : (t : Bool) (ns : List (List ℕ)) (name : List ℕ) (lines : List Field) → names name lines ≡ true → (not t && names_any ns lines) ≡ false → (t && among ns name) ≡ among ns name
is_left_off true ns name lines there h = refl
is_left_off false ns name lines there h = go (among ns name) refl
  where
    go : (t : Bool) → among ns name ≡ t → false ≡ t
    go true e = let any : names_any ns lines ≡ true = among_named ns name lines there e in cc
    go false e = refl

emptied : (b : Bool) (vs : List (List ℕ)) → vs ≡ [] → cond b vs [] ≡ []
emptied true vs e = e
emptied false vs e = refl

last_cases : (d f w g : Bool) (vs : List (List ℕ)) → vs ≡ cond d [] vs → cond d [] (cond f [] (cond w [] (cond g [] vs))) ≡ cond (not (g || w || f)) vs []
last_cases true f w g vs e = sym (emptied (not (g || w || f)) vs e)
last_cases false true true true vs e = refl
last_cases false true true false vs e = refl
last_cases false true false true vs e = refl
last_cases false true false false vs e = refl
last_cases false false true true vs e = refl
last_cases false false true false vs e = refl
last_cases false false false true vs e = refl
last_cases false false false false vs e = refl

-- the values of a name that are passed on of a fetch
fills : (r : Asked) (o : Chosen) (name : List ℕ) (lines : List Field) → without o.drops r.lines ≡ r.lines → names name lines ≡ true → is_let_along lines o ≡ false
    → all name (passed o (fill r o).1) ≡ cond (goes_along name) (all name r.lines) []
fills r o name lines left there along =
    let first = without_if o.fills_ranges range_fields r.lines in
    let ranges : (o.fills_ranges && among range_fields name) ≡ among range_fields name = is_left_off o.fills_ranges range_fields name lines there (or_first (not o.fills_ranges && names_any range_fields lines) (not o.fills_conditions && names_any whole_conditions lines) along) in
    let conditions : (o.fills_conditions && among whole_conditions name) ≡ among whole_conditions name = is_left_off o.fills_conditions whole_conditions name lines there (or_second (not o.fills_ranges && names_any range_fields lines) (not o.fills_conditions && names_any whole_conditions lines) along) in
    let of_first : all name first ≡ cond (among range_fields name) [] (all name r.lines) =
    left_by o.fills_ranges range_fields name r.lines ∙ ap (λ (b : Bool). cond b [] (all name r.lines)) ranges in
    let of_fill : all name (fill r o).1 ≡ cond (among whole_conditions name) [] (cond (among range_fields name) [] (all name r.lines)) =
    left_by o.fills_conditions whole_conditions name first ∙ ap (λ (b : Bool). cond b [] (all name first)) conditions
    ∙ ap (λ (vs : List (List ℕ)). cond (among whole_conditions name) [] vs) of_first in
    let of_frames : all name (without frames (fill r o).1) ≡ cond (among frames name) [] (cond (among whole_conditions name) [] (cond (among range_fields name) [] (all name r.lines))) =
    left_by true frames name (fill r o).1 ∙ ap (λ (vs : List (List ℕ)). cond (among frames name) [] vs) of_fill in
    let of_drops : all name r.lines ≡ cond (among o.drops name) [] (all name r.lines) = ap (all name) (sym left) ∙ left_by true o.drops name r.lines in
    left_by true o.drops name (without frames (fill r o).1)
    ∙ ap (λ (vs : List (List ℕ)). cond (among o.drops name) [] vs) of_frames
    ∙ last_cases (among o.drops name) (among frames name) (among whole_conditions name) (among range_fields name) (all name r.lines) of_drops

-- as a second key has them
as_keyed_value : (g : Bool) (name : List ℕ) (vs own : List (List ℕ)) → vs ≡ cond g own []
    → cond (is_some (head vs)) (Some (cased name (value_of name vs))) None ≡ cond (is_some (head own) && g) (Some (cased name (value_of name own))) None
as_keyed_value true name vs own e = ap (λ (l : List (List ℕ)). cond (is_some (head l)) (Some (cased name (value_of name l))) None) e ∙ go (is_some (head own))
  where
    go : (b : Bool) → cond b (Some (cased name (value_of name own))) None ≡ cond (b && true) (Some (cased name (value_of name own))) None
    go true = refl
    go false = refl
as_keyed_value false name vs own e = ap (λ (l : List (List ℕ)). cond (is_some (head l)) (Some (cased name (value_of name l))) None) e ∙ go (is_some (head own))
  where
    go : (b : Bool) → None ≡ cond (b && false) (Some (cased name (value_of name own))) None
    go true = refl
    go false = refl

sent_is : (name : List ℕ) (lines : List Field) → value_sent lines name ≡ cond (is_some (head (all name lines))) (Some (cased name (value_of name (all name lines)))) None
sent_is name lines = ap (λ (v : Option (List ℕ)). cond (is_some v) (Some (cased name (value_of name (all name lines)))) None) (first_is name lines)

in_is : (name : List ℕ) (lines : List Field) → cond (is_some (head (all name lines)) && goes_along name) (Some (cased name (value_of name (all name lines)))) None ≡ value_in lines name
in_is name lines = ap (λ (v : Option (List ℕ)). cond (is_some v && goes_along name) (Some (cased name (value_of name (all name lines)))) None) (sym (first_is name lines))

filled_method : (r : Asked) (o : Chosen) → plan_of r o ≡ Look → is_counted (fill r o).0 ≡ false
filled_method r o h = go o.fills_heads (looks r o h)
  where
    read : (r.method ≡ codes "GET") ⊎ (r.method ≡ codes "HEAD") → is_counted r.method ≡ false
    read (inl e) = ap is_counted e
    read (inr e) = ap is_counted e

    go : (t : Bool) → (r.method ≡ codes "GET") ⊎ (r.method ≡ codes "HEAD") → is_counted (cond t (codes "GET") r.method) ≡ false
    go true m = refl
    go false m = read m

pub sent_as_keyed : (r : Asked) (host peer : List ℕ) (o : Chosen) (lines : List Field) (name : List ℕ) → plan_of r o ≡ Look → without o.drops r.lines ≡ r.lines
    → names name lines ≡ true → is_unkeyed lines o ≡ false → among (codes "host" ∷ codes "connection" ∷ []) name ≡ false
    → value_sent (forward (fetched r host o) peer o) name ≡ value_in r.lines name
sent_as_keyed r host peer o lines name look left there keyed other =
    let star = nat_lt 16 (length (counting lines)) || names (codes "*") lines in
    let via = names (codes "via") lines in
    let te = names (codes "te") lines in
    let peers = o.forwards_for && names (codes "x-forwarded-for") lines in
    let along : is_let_along lines o ≡ false = or_second (star || via || te || peers) (is_let_along lines o) keyed in
    let fors : (star || via || te || peers) ≡ false = or_first (star || via || te || peers) (is_let_along lines o) keyed in
    let ffor : peers ≡ false = or_second (star || via || te) peers fors in
    let tes : (star || via || te) ≡ false = or_first (star || via || te) peers fors in
    let no_te : te ≡ false = or_second (star || via) te tes in
    let no_via : via ≡ false = or_second star via (or_first (star || via) te tes) in
    let host_named = bytes_eq name (codes "host") in
    let connection_named = bytes_eq name (codes "connection") in
    let no_host : host_named ≡ false = or_first host_named (connection_named || false) other in
    let no_connection : connection_named ≡ false = or_first connection_named false (or_second host_named (connection_named || false) other) in
    let same : all name (forward (fetched r host o) peer o) ≡ cond (goes_along name) (all name r.lines) [] =
    forwards (fetched r host o) peer name o (filled_method r o look) (listed_not (codes "host") name refl no_host) (listed_not (codes "connection") name refl no_connection)
    (unnamed (codes "via") name lines there no_via) (unnamed (codes "te") name lines there no_te)
    (λ on. unnamed (codes "x-forwarded-for") name lines there (forwarding o.forwards_for (names (codes "x-forwarded-for") lines) on ffor))
    ∙ fills r o name lines left there along in
    sent_is name (forward (fetched r host o) peer o)
    ∙ as_keyed_value (goes_along name) name (all name (forward (fetched r host o) peer o)) (all name r.lines) same
    ∙ in_is name r.lines
  where
    forwarding : (a b : Bool) → a ≡ true → (a && b) ≡ false → b ≡ false
    forwarding true b e h = h
    forwarding false b e h = cc
