-- What the lines of a plain request say, and what they don't.
use Rattle.std.proofs.Common.{◌≡◌, ℕ, ◌+◌, ◌≤◌, ◌||◌, ◌&&◌, not, cond, Bool, true, false, List, [], ◌∷◌, ◌++◌, length, refl, sym, ap, ◌∙◌, arith, ◌⊎◌, inl, inr, length-append}
use Rattle.std.specs.Prelude.{map, filter, find, nat_lt, codes, bytes_eq, None}
use Rattle.std.specs.List.{list_all, list_any}
use Rattle.std.proofs.lemmas.Bool.{and_parts, and_from, or_cases, le-ltb, not-true}
use Rattle.std.proofs.lemmas.Slice.Eq.{bytes_eq-Decides}
use Rattle.rules_fields.specs.Texts.{small, trimmed}
use Rattle.rules_fields.specs.Tables.{among, hop, needed}
use Rattle.rules_fields.specs.Fields.{Field, is_named, all, has_line, without, elements_of, tokens}
use Rattle.http1_message_parts.specs.EndToEnd.{is_hop_name, kept_lines, end_to_end}
use Rattle.rules_ffi_arguments.specs.Rooms.{line_text, block}
use Rattle.rules_quick.specs.Plain.{is_plain_line, is_plain_connection}
use Rattle.rules_quick.proofs.Written.{parts_of}

-- a line under another name than these
abbrev pub unnamed : List (List ℕ) → Field → Bool
unnamed names f = not (among names (small f.0))

pub all_unnamed : (names : List (List ℕ)) (lines : List Field) → list_all (is_plain_line names) lines ≡ true → list_all (unnamed names) lines ≡ true
all_unnamed names [] h = refl
all_unnamed names (f ∷ lines) h =
    let p = and_parts (is_plain_line names f) (list_all (is_plain_line names) lines) h in
    and_from (unnamed names f) (list_all (unnamed names) lines) (ap not (parts_of names f p.0).unnamed) (all_unnamed names lines p.1)

pub still : (keep test : Field → Bool) (lines : List Field) → list_all test lines ≡ true → list_all test (filter keep lines) ≡ true
still keep test [] h = refl
still keep test (f ∷ lines) h = let p = and_parts (test f) (list_all test lines) h in go (keep f) p.0 (still keep test lines p.1)
  where
    go : (t : Bool) → test f ≡ true → list_all test (filter keep lines) ≡ true → list_all test (cond t (f ∷ filter keep lines) (filter keep lines)) ≡ true
    go true a b = and_from (test f) (list_all test (filter keep lines)) a b
    go false a b = b

-- a name of a table is no name that isn't in it
pub other_name : (table : List (List ℕ)) (name wanted : List ℕ) → among table name ≡ false → among table wanted ≡ true → bytes_eq name wanted ≡ false
other_name table name wanted out within = go (bytes_eq name wanted) refl
  where
    contrary : false ≡ true → ⊥
    contrary e = cc

    go : (t : Bool) → bytes_eq name wanted ≡ t → t ≡ false
    go true e = absurd (contrary (sym out ∙ ap (among table) ((bytes_eq-Decides name wanted).0 e) ∙ within))
    go false e = refl

pub none_named : (names : List (List ℕ)) (name : List ℕ) (lines : List Field) → among names name ≡ true → list_all (unnamed names) lines ≡ true → filter (is_named name) lines ≡ []
none_named names name [] w h = refl
none_named names name (f ∷ lines) w h =
    let p = and_parts (unnamed names f) (list_all (unnamed names) lines) h in
    rw (other_name names (small f.0) name (not-true (among names (small f.0)) p.0) w) (none_named names name lines w p.1)

pub none_found : (names : List (List ℕ)) (name : List ℕ) (lines : List Field) → among names name ≡ true → list_all (unnamed names) lines ≡ true → find (is_named name) lines ≡ None
none_found names name [] w h = refl
none_found names name (f ∷ lines) w h =
    let p = and_parts (unnamed names f) (list_all (unnamed names) lines) h in
    rw (other_name names (small f.0) name (not-true (among names (small f.0)) p.0) w) (none_found names name lines w p.1)

pub no_values : (names : List (List ℕ)) (name : List ℕ) (lines : List Field) → among names name ≡ true → list_all (unnamed names) lines ≡ true → all name lines ≡ []
no_values names name lines w h = ap (map (λ f. f.1)) (none_named names name lines w h)

pub no_line : (names : List (List ℕ)) (name : List ℕ) (lines : List Field) → among names name ≡ true → list_all (unnamed names) lines ≡ true → has_line name lines ≡ false
no_line names name lines w h = rw (none_found names name lines w h) refl

-- no line is longer than all of them
pub none_long : (most : ℕ) (lines : List Field) → length (block lines) ≤ most → list_any (λ f. nat_lt most (length f.0 + 1 + length f.1)) lines ≡ false
none_long most [] h = refl
none_long most (f ∷ lines) h =
    let e = length-append (line_text f) (block lines) in
    let a = length-append (f.0 ++ (58 ∷ 32 ∷ []) ++ f.1) (13 ∷ 10 ∷ []) in
    let b = length-append (f.0 ++ (58 ∷ 32 ∷ [])) f.1 in
    let c = length-append f.0 (58 ∷ 32 ∷ []) in
    rw (le-ltb most (length f.0 + 1 + length f.1) (omega (arith, e, a, b, c))) (none_long most lines (omega (arith, e, a, b, c)))

-- what Connection lists
keep_alive : elements_of (codes "keep-alive") ≡ codes "keep-alive" ∷ []
unfolding trimmed
keep_alive = refl

large_keep_alive : elements_of (codes "Keep-Alive") ≡ codes "Keep-Alive" ∷ []
unfolding trimmed
large_keep_alive = refl

close : elements_of (codes "close") ≡ codes "close" ∷ []
unfolding trimmed
close = refl

-- the values of Connection, what they list, and whether one of them ends the connection
pub data Connection (values : List (List ℕ)) : Type 0 where
  nothing : values ≡ [] → Connection values
  stays : (v : List ℕ) → values ≡ v ∷ [] → bytes_eq v (codes "close") ≡ false → elements_of v ≡ v ∷ [] → small v ≡ codes "keep-alive" → Connection values
  ends : values ≡ codes "close" ∷ [] → elements_of (codes "close") ≡ codes "close" ∷ [] → Connection values

pub connection_is : (values : List (List ℕ)) → is_plain_connection values ≡ true → Connection values
connection_is [] h = nothing refl
connection_is (v ∷ []) h = go (or_cases (bytes_eq v (codes "keep-alive")) (bytes_eq v (codes "Keep-Alive") || (bytes_eq v (codes "close") || false)) h)
  where
    last : (bytes_eq v (codes "close") ≡ true) ⊎ (false ≡ true) → Connection (v ∷ [])
    last (inl e) = rw ((bytes_eq-Decides v (codes "close")).0 e) (ends refl close)
    last (inr e) = cc

    more : (bytes_eq v (codes "Keep-Alive") ≡ true) ⊎ ((bytes_eq v (codes "close") || false) ≡ true) → Connection (v ∷ [])
    more (inl e) = rw ((bytes_eq-Decides v (codes "Keep-Alive")).0 e) (stays (codes "Keep-Alive") refl refl large_keep_alive refl)
    more (inr e) = last (or_cases (bytes_eq v (codes "close")) false e)

    go : (bytes_eq v (codes "keep-alive") ≡ true) ⊎ ((bytes_eq v (codes "Keep-Alive") || (bytes_eq v (codes "close") || false)) ≡ true) → Connection (v ∷ [])
    go (inl e) = rw ((bytes_eq-Decides v (codes "keep-alive")).0 e) (stays (codes "keep-alive") refl refl keep_alive refl)
    go (inr e) = more (or_cases (bytes_eq v (codes "Keep-Alive")) (bytes_eq v (codes "close") || false) e)
connection_is (v ∷ w ∷ values) h = cc

-- a name that Connection doesn't say is of this hop by the table alone
hop_by_table : (options : List (List ℕ)) (name : List ℕ) → (options ≡ []) ⊎ ((options ≡ codes "keep-alive" ∷ []) ⊎ (options ≡ codes "close" ∷ []))
    → bytes_eq name (codes "close") ≡ false → is_hop_name options name ≡ among hop name
hop_by_table options name (inl e) w = ap (λ (os : List (List ℕ)). is_hop_name os name) e ∙ go (among hop name)
  where
    go : (t : Bool) → (t || false) ≡ t
    go true = refl
    go false = refl
hop_by_table options name (inr (inl e)) w = ap (λ (os : List (List ℕ)). is_hop_name os name) e ∙ go (bytes_eq name (codes "keep-alive")) refl
  where
    alone : (t : Bool) → (t || false) ≡ t
    alone true = refl
    alone false = refl

    go : (t : Bool) → bytes_eq name (codes "keep-alive") ≡ t → is_hop_name (codes "keep-alive" ∷ []) name ≡ among hop name
    go true k = rw ((bytes_eq-Decides name (codes "keep-alive")).0 k) refl
    go false k = ap (λ (t : Bool). among hop name || ((t || false) && not (among needed name || bytes_eq name (codes "set-cookie")))) k ∙ alone (among hop name)
hop_by_table options name (inr (inr e)) w =
    ap (λ (os : List (List ℕ)). is_hop_name os name) e
    ∙ ap (λ (t : Bool). among hop name || ((t || false) && not (among needed name || bytes_eq name (codes "set-cookie")))) w
    ∙ alone (among hop name)
  where
    alone : (t : Bool) → (t || false) ≡ t
    alone true = refl
    alone false = refl

kept_by_table : (names options : List (List ℕ)) (lines : List Field) → among names (codes "close") ≡ true → (options ≡ []) ⊎ ((options ≡ codes "keep-alive" ∷ []) ⊎ (options ≡ codes "close" ∷ []))
    → list_all (unnamed names) lines ≡ true → kept_lines options lines ≡ without hop lines
kept_by_table names options [] c o h = refl
kept_by_table names options (f ∷ lines) c o h =
    let p = and_parts (unnamed names f) (list_all (unnamed names) lines) h in
    ap (λ (t : Bool). cond (not t) (f ∷ kept_lines options lines) (kept_lines options lines)) (hop_by_table options (small f.0) o (other_name names (small f.0) (codes "close") (not-true (among names (small f.0)) p.0) c))
    ∙ ap (λ (rest : List Field). cond (not (among hop (small f.0))) (f ∷ rest) rest) (kept_by_table names options lines c o p.1)

listed : (values : List (List ℕ)) (lines : List Field) → all (codes "connection") lines ≡ values → Connection values
    → (tokens (codes "connection") lines ≡ []) ⊎ ((tokens (codes "connection") lines ≡ codes "keep-alive" ∷ []) ⊎ (tokens (codes "connection") lines ≡ codes "close" ∷ []))
listed values lines e (nothing n) = inl (rw (e, n) refl)
listed values lines e (stays v n c l s) = inr (inl (rw (e, n, l, s) refl))
listed values lines e (ends n l) = inr (inr (rw (e, n, l) refl))

pub kept_are : (names : List (List ℕ)) (lines : List Field) → among names (codes "close") ≡ true → list_all (unnamed names) lines ≡ true → is_plain_connection (all (codes "connection") lines) ≡ true → end_to_end lines ≡ without hop lines
kept_are names lines n h c =
    kept_by_table names (tokens (codes "connection") lines) lines n (listed (all (codes "connection") lines) lines refl (connection_is (all (codes "connection") lines) c)) h
