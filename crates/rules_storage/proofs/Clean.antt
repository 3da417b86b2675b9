-- What a filter of lines leaves out, and that a table without an answer has no row that holds.
use Rattle.std.proofs.Common.{◌≡◌, ℕ, Bool, true, false, cond, not, ◌&&◌, ◌||◌, ◌==◌, List, [], ◌∷◌, ◌++◌, refl, sym, ap, ◌∙◌}
use Rattle.std.specs.Prelude.{Option, Some, None, filter, find, bytes_eq, codes, is_some, option_map}
use Rattle.std.specs.List.{AllByRecursion}
use Rattle.std.specs.Cmp.Lexicographic.{bytes_decides}
use Rattle.rules_fields.specs.Texts.{small}
use Rattle.rules_fields.specs.Fields.{Field, is_named, has_line}
use Rattle.rules_fields.specs.Meaning.{Meaning}
use Rattle.rules_fields.specs.Asking.{lists_field}
use Rattle.rules_fields.specs.Says.{Said}
use Rattle.rules_storage.specs.Lifetime.{is_explicit}
use Rattle.rules_fields.specs.Types.{Chosen, Asked, Answered, KeptHead, stated}
use Rattle.rules_fields.specs.Tables.{among, needed}
use Rattle.rules_fields.specs.Rows.{first_true}
use Rattle.rules_storage.specs.declared.reason.Reason.{Reason}
use Rattle.rules_storage.specs.declared.reason.Reason.TheVariants.{Method, Status, Partial, NotModified, NeverStore, RequestNoStore, NotUnderstood, NoStore, Private, VaryAny, Authorization, TooManyLines, SetCookie, NoFreshness, NeverUsable}
use Rattle.rules_storage.specs.Judge.{is_listed, stays, stored_lines, rows_of, reason_of}
use Rattle.rules_storage.specs.Kept.{with_length}

abbrev pub kept_by : (List ℕ → Bool) → List Field → List Field
kept_by keep lines = filter (λ f. keep (small f.0)) lines

-- a field in front of others, by whether it has the name
abbrev pub in_front : Bool → Bool → Bool
in_front t rest = cond t true rest

front : (name : List ℕ) (f : Field) (lines : List Field) → has_line name (f ∷ lines) ≡ in_front (is_named name f) (has_line name lines)
front name f lines = go (is_named name f)
  where
    go : (t : Bool) → is_some (option_map (λ (f : Field). f.1) (cond t (Some f) (find (is_named name) lines))) ≡ in_front t (has_line name lines)
    go true = refl
    go false = refl

drops_step : (name : List ℕ) (keep : List ℕ → Bool) (f : Field) (rest : List Field) (t u : Bool) → keep name ≡ false → keep (small f.0) ≡ t → is_named name f ≡ u → has_line name rest ≡ false → has_line name (cond t (f ∷ rest) rest) ≡ false
drops_step name keep f rest false u k ek eu h = h
drops_step name keep f rest true false k ek eu h = front name f rest ∙ ap (λ t. in_front t (has_line name rest)) eu ∙ h
drops_step name keep f rest true true k ek eu h =
    let same : small f.0 ≡ name = (bytes_decides (small f.0) name).0 eu in
    let there : keep (small f.0) ≡ false = ap keep same ∙ k in
    cc

-- a name that isn't kept is gone
pub drops : (name : List ℕ) (keep : List ℕ → Bool) (lines : List Field) → keep name ≡ false → has_line name (kept_by keep lines) ≡ false
drops name keep [] k = refl
drops name keep (f ∷ lines) k = drops_step name keep f (kept_by keep lines) (keep (small f.0)) (is_named name f) k refl refl (drops name keep lines k)

adds_step : (name : List ℕ) (f : Field) (rest lines : List Field) (t u : Bool) → is_named name f ≡ u → in_front u (has_line name lines) ≡ false → (has_line name lines ≡ false → has_line name rest ≡ false) → has_line name (cond t (f ∷ rest) rest) ≡ false
adds_step name f rest lines t true eu h ih = cc
adds_step name f rest lines false false eu h ih = ih h
adds_step name f rest lines true false eu h ih = front name f rest ∙ ap (λ t. in_front t (has_line name rest)) eu ∙ ih h

-- a filter adds nothing
pub adds_nothing : (name : List ℕ) (keep : List ℕ → Bool) (lines : List Field) → has_line name lines ≡ false → has_line name (kept_by keep lines) ≡ false
adds_nothing name keep [] h = refl
adds_nothing name keep (f ∷ lines) h =
    adds_step name f (kept_by keep lines) lines (keep (small f.0)) (is_named name f) refl (sym (front name f lines) ∙ h) (adds_nothing name keep lines)

length_only : (name : List ℕ) (n : Option ℕ) → bytes_eq (codes "content-length") name ≡ false → has_line name (with_length n) ≡ false
length_only name None e = refl
length_only name (Some n) e = rw e refl

-- a stated length adds no line of another name
pub behind_lines : (name : List ℕ) (lines : List Field) (n : Option ℕ) → bytes_eq (codes "content-length") name ≡ false → has_line name lines ≡ false → has_line name (lines ++ with_length n) ≡ false
behind_lines name [] n e h = length_only name n e
behind_lines name (f ∷ lines) n e h = go (is_named name f) refl (sym (front name f lines) ∙ h) (behind_lines name lines n e)
  where
    go : (u : Bool) → is_named name f ≡ u → in_front u (has_line name lines) ≡ false → (has_line name lines ≡ false → has_line name (lines ++ with_length n) ≡ false) → has_line name (f ∷ (lines ++ with_length n)) ≡ false
    go true eu k ih = cc
    go false eu k ih = front name f (lines ++ with_length n) ∙ ap (λ t. in_front t (has_line name (lines ++ with_length n))) eu ∙ ih k

-- no row of a table without an answer holds
pub none_holds : (rows : List (Reason × Bool)) → first_true rows ≡ None → AllByRecursion (λ row. row.1 ≡ false) rows
none_holds [] h = tt
none_holds (row ∷ rows) h = go row.1 refl h (none_holds rows)
  where
    go : (t : Bool) → row.1 ≡ t → cond t (Some row.0) (first_true rows) ≡ None → (first_true rows ≡ None → AllByRecursion (λ row. row.1 ≡ false) rows) → (row.1 ≡ false) × AllByRecursion (λ row. row.1 ≡ false) rows
    go true e k ih = cc
    go false e k ih = (e, ih k)

-- the length's line is of no other name
pub has_behind : (name : List ℕ) (lines : List Field) (n : Option ℕ) → bytes_eq (codes "content-length") name ≡ false → has_line name (lines ++ with_length n) ≡ has_line name lines
has_behind name [] n e = length_only name n e
has_behind name (f ∷ lines) n e =
    front name f (lines ++ with_length n)
    ∙ ap (in_front (is_named name f)) (has_behind name lines n e)
    ∙ sym (front name f lines)

pub listed_leaves : (a n c d e : Bool) → a ≡ true → n ≡ false → not ((a && not n) || c || d || e) ≡ false
listed_leaves true false c d e h k = refl
listed_leaves true true c d e h k = cc
listed_leaves false n c d e h k = cc

pub without_leave : (there may explicit : Bool) → may ≡ false → (there && not (may && explicit)) ≡ false → there ≡ false
without_leave false may explicit m h = refl
without_leave true true explicit m h = cc
without_leave true false explicit m h = h

-- Age, Trailer and what the operator drops are left out
pub left_out : (a c d e : Bool) → (c || d || e) ≡ true → not (a || c || d || e) ≡ false
left_out true c d e h = refl
left_out false true d e h = refl
left_out false false true e h = refl
left_out false false false true h = refl
left_out false false false false h = cc

pub no_age : (ds : List Meaning) (o : Chosen) → stays ds o (codes "age") ≡ false
no_age ds o = left_out (is_listed ds (codes "age") && not (among needed (codes "age"))) true false (among o.response_drops (codes "age")) refl

pub no_trailer : (ds : List Meaning) (o : Chosen) → stays ds o (codes "trailer") ≡ false
no_trailer ds o = left_out (is_listed ds (codes "trailer") && not (among needed (codes "trailer"))) false true (among o.response_drops (codes "trailer")) refl

last_holds : (c d e : Bool) → e ≡ true → (c || d || e) ≡ true
last_holds true d e h = refl
last_holds false true e h = refl
last_holds false false e h = h

pub no_dropped : (ds : List Meaning) (o : Chosen) (name : List ℕ) → among o.response_drops name ≡ true → stays ds o name ≡ false
no_dropped ds o name h =
    let c = bytes_eq name (codes "age") in
    let d = bytes_eq name (codes "trailer") in
    let e = among o.response_drops name in
    left_out (is_listed ds name && not (among needed name)) c d e (last_holds c d e h)

pub no_listed : (ds : List Meaning) (o : Chosen) (name : List ℕ) → is_listed ds name ≡ true → among needed name ≡ false → stays ds o name ≡ false
no_listed ds o name h k = listed_leaves (is_listed ds name) (among needed name) (bytes_eq name (codes "age")) (bytes_eq name (codes "trailer")) (among o.response_drops name) h k

pub no_cookie : (request : Asked) (method : List ℕ) (p : Answered) (s : Said) (kept : KeptHead) (o : Chosen) → o.stores_cookies ≡ false → reason_of request method p s kept o ≡ None → has_line (codes "set-cookie") kept.lines ≡ false
unfolding reason_of
no_cookie request method p s kept o off h =
    let rows : AllByRecursion (λ row. row.1 ≡ false) (rows_of request method p s kept o) = none_holds (rows_of request method p s kept o) h in
    without_leave (has_line (codes "set-cookie") kept.lines) o.stores_cookies (is_explicit s) off rows.1.1.1.1.1.1.1.1.1.1.1.1.0

-- a table by its answers, of which two have no test of their own
abbrev pub table : Bool → Bool → Bool → Bool → Bool → Bool → Bool → Bool → Bool → Bool → Bool → Bool → Bool → Bool → Bool → List (Reason × Bool)
table a b c d o e f g h i j k l m n =
    (Method, a) ∷ (Status, b) ∷ (Partial, c) ∷ (NotModified, d) ∷ (NeverStore, o) ∷ (RequestNoStore, e) ∷ (NotUnderstood, f) ∷ (NoStore, g) ∷ (Private, h)
    ∷ (VaryAny, i) ∷ (Authorization, j) ∷ (TooManyLines, k) ∷ (SetCookie, l) ∷ (NoFreshness, m) ∷ (NeverUsable, n) ∷ []

pub same_table : {a a' b b' o o' e e' f f' g g' h h' i i' j j' k k' l l' m m' n n' : Bool} (c d : Bool) → a ≡ a' → b ≡ b' → o ≡ o' → e ≡ e' → f ≡ f' → g ≡ g' → h ≡ h' → i ≡ i' → j ≡ j' → k ≡ k' → l ≡ l' → m ≡ m' → n ≡ n' → first_true (table a b c d o e f g h i j k l m n) ≡ first_true (table a' b' c d o' e' f' g' h' i' j' k' l' m' n')
same_table c d pa pb po pe pf pg ph pi pj pk pl pm pn = rw (pa, pb, po, pe, pf, pg, ph, pi, pj, pk, pl, pm, pn) refl

length_named : (name : List ℕ) (t : Bool) → bytes_eq (codes "content-length") name ≡ t → among needed name ≡ false → t ≡ false
length_named name false e h = refl
length_named name true e h =
    let same : codes "content-length" ≡ name = (bytes_decides (codes "content-length") name).0 e in
    let there : among needed name ≡ true = ap (among needed) (sym same) in
    cc

-- a name that the cache doesn't read isn't Content-Length
pub not_length : (name : List ℕ) → among needed name ≡ false → bytes_eq (codes "content-length") name ≡ false
not_length name h = length_named name (bytes_eq (codes "content-length") name) refl h

not_false : (b : Bool) → not b ≡ false → b ≡ true
not_false true h = refl
not_false false h = cc

pub is_a_get : (request : Asked) (method : List ℕ) (p : Answered) (s : Said) (kept : KeptHead) (o : Chosen) → reason_of request method p s kept o ≡ None → bytes_eq method (codes "GET") ≡ true
unfolding reason_of
is_a_get request method p s kept o h =
    let rows : AllByRecursion (λ row. row.1 ≡ false) (rows_of request method p s kept o) = none_holds (rows_of request method p s kept o) h in
    not_false (bytes_eq method (codes "GET")) rows.0

pub is_no_304 : (request : Asked) (method : List ℕ) (p : Answered) (s : Said) (kept : KeptHead) (o : Chosen) → reason_of request method p s kept o ≡ None → (p.status == 304) ≡ false
unfolding reason_of
is_no_304 request method p s kept o h =
    let rows : AllByRecursion (λ row. row.1 ≡ false) (rows_of request method p s kept o) = none_holds (rows_of request method p s kept o) h in
    rows.1.1.1.0
