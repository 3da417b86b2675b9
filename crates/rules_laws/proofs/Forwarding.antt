-- What is sent on can be written.
use Rattle.std.proofs.Common.{◌≡◌, ℕ, List, [], ◌∷◌, ◌++◌, refl, ap, ◌∙◌, Bool, true, false, not, ◌&&◌, ◌||◌, ◌==◌, cond, map, filter, reverse, codes, arith}
use Rattle.std.specs.List.{list_all}
use Rattle.std.proofs.lemmas.Bool.{eqb-true}
use Rattle.std.proofs.lemmas.Fmt.{decimal_digit}
use Rattle.std.proofs.lemmas.List.{reverse-append}
use Rattle.std.proofs.lemmas.List.Folds.{list_all-append}
use Rattle.httparse.specs.Grammar.{is_token, is_token_byte, is_value_byte}
use Rattle.rules_fields.specs.Texts.{small, is_filled}
use Rattle.rules_fields.specs.Tables.{among, frames}
use Rattle.rules_fields.specs.Fields.{Field, is_named, all, without}
use Rattle.rules_fields.specs.Types.{Asked, Chosen}
use Rattle.http1_message_parts.specs.Via.{listed, own_via, via_value}
use Rattle.rules_forward.specs.Forward.{is_counted, counted, rewritten, for_line, trailers_lines, passed, forward}
use Rattle.rules_laws.specs.Written.{begins_filled, can_be_value, is_writable}
use Rattle.rules_laws.proofs.Writing.{and_first, and_second}

both : (a b : Bool) → a ≡ true → b ≡ true → (a && b) ≡ true
both a b p q = rw (p, q) refl

fewer : {X : Type 0} (p q : X → Bool) (xs : List X) → list_all p xs ≡ true → list_all p (filter q xs) ≡ true
fewer p q [] h = refl
fewer p q (x ∷ xs) h = go (q x) (fewer p q xs (and_second (p x) (list_all p xs) h))
  where
    go : (t : Bool) → list_all p (filter q xs) ≡ true → list_all p (cond t (x ∷ filter q xs) (filter q xs)) ≡ true
    go true rest = both (p x) (list_all p (filter q xs)) (and_first (p x) (list_all p xs) h) rest
    go false rest = rest

-- the values of a name
values_can : (name : List ℕ) (lines : List Field) → list_all is_writable lines ≡ true → list_all can_be_value (all name lines) ≡ true
values_can name [] h = refl
values_can name (f ∷ lines) h = go (is_named name f) (values_can name lines (and_second (is_writable f) (list_all is_writable lines) h))
  where
    go : (t : Bool) → list_all can_be_value (all name lines) ≡ true → list_all can_be_value (map (λ g. g.1) (cond t (f ∷ filter (is_named name) lines) (filter (is_named name) lines))) ≡ true
    go true rest =
        both (can_be_value f.1) (list_all can_be_value (all name lines))
        (and_second (is_token f.0) (can_be_value f.1) (and_first (is_writable f) (list_all is_writable lines) h)) rest
    go false rest = rest

bytes_can : (v : List ℕ) → can_be_value v ≡ true → list_all is_value_byte v ≡ true
bytes_can v h = and_first (list_all is_value_byte v) (begins_filled v && begins_filled (reverse v)) h

begin_can : (v : List ℕ) → can_be_value v ≡ true → begins_filled v ≡ true
begin_can v h = and_first (begins_filled v) (begins_filled (reverse v)) (and_second (list_all is_value_byte v) (begins_filled v && begins_filled (reverse v)) h)

end_can : (v : List ℕ) → can_be_value v ≡ true → begins_filled (reverse v) ≡ true
end_can v h = and_second (begins_filled v) (begins_filled (reverse v)) (and_second (list_all is_value_byte v) (begins_filled v && begins_filled (reverse v)) h)

begins_more : (front more : List ℕ) → is_filled front ≡ true → begins_filled front ≡ true → begins_filled (front ++ more) ≡ true
begins_more [] more f h = cc
begins_more (b ∷ front) more f h = h

begins_any : (front more : List ℕ) → begins_filled front ≡ true → begins_filled more ≡ true → begins_filled (front ++ more) ≡ true
begins_any [] more h k = k
begins_any (b ∷ front) more h k = h

filled_end : (front : List ℕ) (b : ℕ) → is_filled (front ++ (b ∷ [])) ≡ true
filled_end [] b = refl
filled_end (c ∷ front) b = refl

filled_turned : (v : List ℕ) → is_filled v ≡ true → is_filled (reverse v) ≡ true
filled_turned [] h = cc
filled_turned (b ∷ v) h = ap is_filled (reverse-append (b ∷ []) v) ∙ filled_end (reverse v) b

-- a value behind bytes of values, of which the first is no blank
join_can : (front v : List ℕ) → list_all is_value_byte front ≡ true → begins_filled front ≡ true → is_filled v ≡ true → can_be_value v ≡ true → can_be_value (front ++ v) ≡ true
join_can front v bytes begin filled h =
    let all_bytes : list_all is_value_byte (front ++ v) ≡ true =
    list_all-append is_value_byte front v ∙ both (list_all is_value_byte front) (list_all is_value_byte v) bytes (bytes_can v h) in
    let end : begins_filled (reverse (front ++ v)) ≡ true =
    ap begins_filled (reverse-append front v) ∙ begins_more (reverse v) (reverse front) (filled_turned v filled) (end_can v h) in
    both (list_all is_value_byte (front ++ v)) (begins_filled (front ++ v) && begins_filled (reverse (front ++ v))) all_bytes
    (both (begins_filled (front ++ v)) (begins_filled (reverse (front ++ v))) (begins_any front v begin (begin_can v h)) end)

listed_bytes : (vs : List (List ℕ)) → list_all can_be_value vs ≡ true → list_all is_value_byte (listed vs) ≡ true
listed_bytes [] h = refl
listed_bytes (v ∷ vs) h =
    let rest : list_all is_value_byte (listed vs) ≡ true = listed_bytes vs (and_second (can_be_value v) (list_all can_be_value vs) h) in
    let one : list_all is_value_byte (v ++ codes ", ") ≡ true =
    list_all-append is_value_byte v (codes ", ") ∙ both (list_all is_value_byte v) (list_all is_value_byte (codes ", ")) (bytes_can v (and_first (can_be_value v) (list_all can_be_value vs) h)) refl in
    list_all-append is_value_byte (v ++ codes ", ") (listed vs) ∙ both (list_all is_value_byte (v ++ codes ", ")) (list_all is_value_byte (listed vs)) one rest

listed_begins : (vs : List (List ℕ)) → list_all can_be_value vs ≡ true → begins_filled (listed vs) ≡ true
listed_begins [] h = refl
listed_begins ([] ∷ vs) h = refl
listed_begins ((b ∷ v) ∷ vs) h = begin_can (b ∷ v) (and_first (can_be_value (b ∷ v)) (list_all can_be_value vs) h)

listed_can : (vs : List (List ℕ)) (last : List ℕ) → list_all can_be_value vs ≡ true → is_filled last ≡ true → can_be_value last ≡ true → can_be_value (listed vs ++ last) ≡ true
listed_can vs last h filled k = join_can (listed vs) last (listed_bytes vs h) (listed_begins vs h) filled k

-- the own element of Via
via_can : (minor : ℕ) (name : List ℕ) → (minor == 0 || minor == 1) ≡ true → is_filled name ≡ true → can_be_value name ≡ true → can_be_value (own_via minor name) ≡ true
via_can minor name m filled h = go (minor == 0) refl m
  where
    go : (t : Bool) → (minor == 0) ≡ t → (t || minor == 1) ≡ true → can_be_value (own_via minor name) ≡ true
    go true e k =
        ap (λ (n : ℕ). can_be_value (own_via n name)) (eqb-true minor 0 e)
        ∙ ap (λ (d : List ℕ). can_be_value (codes "1." ++ d ++ 32 ∷ name)) (decimal_digit 0 (omega arith)) ∙ join_can (49 ∷ 46 ∷ 48 ∷ 32 ∷ []) name refl refl filled h
    go false e k =
        ap (λ (n : ℕ). can_be_value (own_via n name)) (eqb-true minor 1 k)
        ∙ ap (λ (d : List ℕ). can_be_value (codes "1." ++ d ++ 32 ∷ name)) (decimal_digit 1 (omega arith)) ∙ join_can (49 ∷ 46 ∷ 49 ∷ 32 ∷ []) name refl refl filled h

via_filled : (minor : ℕ) (name : List ℕ) → is_filled (own_via minor name) ≡ true
via_filled minor name = refl

as_they_were : (lines : List Field) → map (counted false) lines ≡ lines
as_they_were [] = refl
as_they_were (f ∷ lines) = ap (λ (rest : List Field). f ∷ rest) (as_they_were lines)

name_can : (name : List ℕ) → is_token name ≡ true → (value : List ℕ) → can_be_value value ≡ true → is_writable (name, value) ≡ true
name_can name t value h = both (is_token name) (can_be_value value) t h

token_host : is_token (codes "Host") ≡ true
unfolding is_token_byte
token_host = refl

token_via : is_token (codes "Via") ≡ true
unfolding is_token_byte
token_via = refl

token_for : is_token (codes "X-Forwarded-For") ≡ true
unfolding is_token_byte
token_for = refl

trailers_can : (takes : Bool) → list_all is_writable (trailers_lines takes) ≡ true
unfolding is_token_byte
trailers_can true = refl
trailers_can false = refl

for_can : (adds : Bool) (peer : List ℕ) (lines : List Field) → list_all is_writable lines ≡ true → is_filled peer ≡ true → can_be_value peer ≡ true → list_all is_writable (for_line adds peer lines) ≡ true
for_can false peer lines h filled k = refl
for_can true peer lines h filled k =
    both (is_writable (codes "X-Forwarded-For", listed (all (codes "x-forwarded-for") lines) ++ peer)) true
    (name_can (codes "X-Forwarded-For") token_for (listed (all (codes "x-forwarded-for") lines) ++ peer)
    (listed_can (all (codes "x-forwarded-for") lines) peer (values_can (codes "x-forwarded-for") lines h) filled k)) refl

joined : (xs ys : List Field) → list_all is_writable xs ≡ true → list_all is_writable ys ≡ true → list_all is_writable (xs ++ ys) ≡ true
joined xs ys p q = list_all-append is_writable xs ys ∙ both (list_all is_writable xs) (list_all is_writable ys) p q

pub forward_can : (r : Asked) (peer : List ℕ) (o : Chosen) → is_counted r.method ≡ false → (r.minor == 0 || r.minor == 1) ≡ true → list_all is_writable r.lines ≡ true
    → can_be_value r.host ≡ true → is_filled peer ≡ true → can_be_value peer ≡ true → is_filled o.name ≡ true → can_be_value o.name ≡ true
    → list_all is_writable (forward r peer o) ≡ true
unfolding forward
forward_can r peer o method minor lines host peer_filled peer_can name_filled name_can_be =
    let passed_can : list_all is_writable (passed o r.lines) ≡ true =
    fewer is_writable (λ f. not (among o.drops (small f.0))) (without frames r.lines) (fewer is_writable (λ f. not (among frames (small f.0))) r.lines lines) in
    let kept_can : list_all is_writable (map (counted (is_counted r.method)) (without (rewritten o.forwards_for) (passed o r.lines))) ≡ true =
    ap (λ (c : Bool). list_all is_writable (map (counted c) (without (rewritten o.forwards_for) (passed o r.lines)))) method
    ∙ ap (list_all is_writable) (as_they_were (without (rewritten o.forwards_for) (passed o r.lines)))
    ∙ fewer is_writable (λ f. not (among (rewritten o.forwards_for) (small f.0))) (passed o r.lines) passed_can in
    let via : is_writable (codes "Via", via_value r.minor o.name (passed o r.lines)) ≡ true =
    name_can (codes "Via") token_via (via_value r.minor o.name (passed o r.lines))
    (listed_can (all (codes "via") (passed o r.lines)) (own_via r.minor o.name) (values_can (codes "via") (passed o r.lines) passed_can) (via_filled r.minor o.name)
    (via_can r.minor o.name minor name_filled name_can_be)) in
    let front : list_all is_writable ((codes "Host", r.host) ∷ map (counted (is_counted r.method)) (without (rewritten o.forwards_for) (passed o r.lines))) ≡ true =
    both (is_writable (codes "Host", r.host)) (list_all is_writable (map (counted (is_counted r.method)) (without (rewritten o.forwards_for) (passed o r.lines))))
    (name_can (codes "Host") token_host r.host host) kept_can in
    let with_for : list_all is_writable ((codes "Host", r.host) ∷ map (counted (is_counted r.method)) (without (rewritten o.forwards_for) (passed o r.lines)) ++ for_line o.forwards_for peer (passed o r.lines)) ≡ true =
    joined ((codes "Host", r.host) ∷ map (counted (is_counted r.method)) (without (rewritten o.forwards_for) (passed o r.lines))) (for_line o.forwards_for peer (passed o r.lines))
    front (for_can o.forwards_for peer (passed o r.lines) passed_can peer_filled peer_can) in
    let with_via : list_all is_writable (((codes "Host", r.host) ∷ map (counted (is_counted r.method)) (without (rewritten o.forwards_for) (passed o r.lines)) ++ for_line o.forwards_for peer (passed o r.lines)) ++ ((codes "Via", via_value r.minor o.name (passed o r.lines)) ∷ [])) ≡ true =
    joined ((codes "Host", r.host) ∷ map (counted (is_counted r.method)) (without (rewritten o.forwards_for) (passed o r.lines)) ++ for_line o.forwards_for peer (passed o r.lines)) ((codes "Via", via_value r.minor o.name (passed o r.lines)) ∷ [])
    with_for (both (is_writable (codes "Via", via_value r.minor o.name (passed o r.lines))) true via refl) in
    joined (((codes "Host", r.host) ∷ map (counted (is_counted r.method)) (without (rewritten o.forwards_for) (passed o r.lines)) ++ for_line o.forwards_for peer (passed o r.lines)) ++ ((codes "Via", via_value r.minor o.name (passed o r.lines)) ∷ [])) (trailers_lines r.takes_trailers)
    with_via (trailers_can r.takes_trailers)
