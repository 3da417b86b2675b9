-- One line more of a response.
use Rattle.std.proofs.Common.{◌≡◌, ℕ, ◌-◌, ◌<◌, ◌≤◌, not, cond, Bool, true, false, List, [], ◌∷◌, ◌++◌, take, length, refl, sym, ap, ◌∙◌, arith}
use Rattle.std.specs.Prelude.{bytes_eq, codes}
use Rattle.std.proofs.lemmas.List.Elements.{filter-append}
use Rattle.std.proofs.lemmas.Slice.Eq.{bytes_eq-Decides}
use Rattle.rules_fields.specs.Texts.{small}
use Rattle.rules_fields.specs.Tables.{among, hop}
use Rattle.rules_fields.specs.Fields.{Field, all, without}
use Rattle.rules_ffi_arguments.specs.Rooms.{line_text, block}
use Rattle.rules_quick.specs.Plain.{is_plain_line}
use Rattle.rules_quick.specs.PlainResponses.{watched, staying}
use Rattle.rules_quick.specs.ResponseKinds.{kind_of}
use Rattle.rules_quick.specs.ResponseWalks.{GoesOn}
use Rattle.rules_quick.specs.declared.response_names.Kind.{Kind}
use Rattle.rules_quick.specs.declared.response_names.Kind.TheVariants.{Kept, Date, Length, Coding, Connection, Hop, Watched}
use Rattle.rules_quick.proofs.Walking.{all_snoc, block_snoc, come_more, come_on, cut_run, nothing_behind, one_more, plain_more}

-- a kind, by what holds of its name
abbrev pick : Bool → Bool → Bool → Bool → Bool → Bool → Kind
pick w d l t c p = cond w Watched (cond d Date (cond l Length (cond t Coding (cond c Connection (cond p Hop Kept)))))

-- what a line says, and what of it goes on
pub record Facts (f : Field) (d l t c : Bool) (on : List Field) : Type 0 where
  pub unnamed : among watched (small f.0) ≡ false
  pub date : bytes_eq (small f.0) (codes "date") ≡ d
  pub sized : bytes_eq (small f.0) (codes "content-length") ≡ l
  pub coded : bytes_eq (small f.0) (codes "transfer-encoding") ≡ t
  pub connection : bytes_eq (small f.0) (codes "connection") ≡ c
  pub goes_on : staying (f ∷ []) ≡ on

none_hold : (w d l t c p : Bool) → pick w d l t c p ≡ Kept → (w ≡ false) × ((d ≡ false) × ((l ≡ false) × ((t ≡ false) × ((c ≡ false) × (p ≡ false)))))
none_hold true d l t c p e = cc
none_hold false true l t c p e = cc
none_hold false false true t c p e = cc
none_hold false false false true c p e = cc
none_hold false false false false true p e = cc
none_hold false false false false false true e = cc
none_hold false false false false false false e = (refl, (refl, (refl, (refl, (refl, refl)))))

hop_holds : (w d l t c p : Bool) → pick w d l t c p ≡ Hop → (w ≡ false) × ((d ≡ false) × ((l ≡ false) × ((t ≡ false) × ((c ≡ false) × (p ≡ true)))))
hop_holds true d l t c p e = cc
hop_holds false true l t c p e = cc
hop_holds false false true t c p e = cc
hop_holds false false false true c p e = cc
hop_holds false false false false true p e = cc
hop_holds false false false false false true e = (refl, (refl, (refl, (refl, (refl, refl)))))
hop_holds false false false false false false e = cc

date_holds : (w d l t c p : Bool) → pick w d l t c p ≡ Date → d ≡ true
date_holds true d l t c p e = cc
date_holds false true l t c p e = refl
date_holds false false true t c p e = cc
date_holds false false false true c p e = cc
date_holds false false false false true p e = cc
date_holds false false false false false true e = cc
date_holds false false false false false false e = cc

length_holds : (w d l t c p : Bool) → pick w d l t c p ≡ Length → l ≡ true
length_holds true d l t c p e = cc
length_holds false true l t c p e = cc
length_holds false false true t c p e = refl
length_holds false false false true c p e = cc
length_holds false false false false true p e = cc
length_holds false false false false false true e = cc
length_holds false false false false false false e = cc

coding_holds : (w d l t c p : Bool) → pick w d l t c p ≡ Coding → t ≡ true
coding_holds true d l t c p e = cc
coding_holds false true l t c p e = cc
coding_holds false false true t c p e = cc
coding_holds false false false true c p e = refl
coding_holds false false false false true p e = cc
coding_holds false false false false false true e = cc
coding_holds false false false false false false e = cc

connection_holds : (w d l t c p : Bool) → pick w d l t c p ≡ Connection → c ≡ true
connection_holds true d l t c p e = cc
connection_holds false true l t c p e = cc
connection_holds false false true t c p e = cc
connection_holds false false false true c p e = cc
connection_holds false false false false true p e = refl
connection_holds false false false false false true e = cc
connection_holds false false false false false false e = cc

-- a kind is picked by these
abbrev is_hop : List ℕ → Bool
is_hop n = among hop n

abbrev is_date : List ℕ → Bool
is_date n = bytes_eq n (codes "date")

abbrev is_length : List ℕ → Bool
is_length n = bytes_eq n (codes "content-length")

abbrev is_coding : List ℕ → Bool
is_coding n = bytes_eq n (codes "transfer-encoding")

abbrev is_connection : List ℕ → Bool
is_connection n = bytes_eq n (codes "connection")

stays_one : (f : Field) → among hop (small f.0) ≡ false → bytes_eq (small f.0) (codes "content-length") ≡ false → staying (f ∷ []) ≡ f ∷ []
stays_one f a b = ap (λ (t : Bool). without (codes "content-length" ∷ []) (cond (not t) (f ∷ []) [])) a ∙ rw b refl

pub kept_facts : (f : Field) → kind_of (small f.0) ≡ Kept → Facts f false false false false (f ∷ [])
kept_facts f e =
    let n = small f.0 in
    let h = none_hold (among watched n) (is_date n) (is_length n) (is_coding n) (is_connection n) (is_hop n) e in
    record { unnamed = h.0; date = h.1.0; sized = h.1.1.0; coded = h.1.1.1.0; connection = h.1.1.1.1.0; goes_on = stays_one f h.1.1.1.1.1 h.1.1.0 }

pub hop_facts : (f : Field) → kind_of (small f.0) ≡ Hop → Facts f false false false false []
hop_facts f e =
    let n = small f.0 in
    let h = hop_holds (among watched n) (is_date n) (is_length n) (is_coding n) (is_connection n) (is_hop n) e in
    record {
      unnamed = h.0;
      date = h.1.0;
      sized = h.1.1.0;
      coded = h.1.1.1.0;
      connection = h.1.1.1.1.0;
      goes_on = ap (λ (t : Bool). without (codes "content-length" ∷ []) (cond (not t) (f ∷ []) [])) h.1.1.1.1.1;
    }

-- all that is asked of a line is asked of its name
by_name : (f : Field) (name : List ℕ) (d l t c p : Bool) → small f.0 ≡ name → among watched name ≡ false → bytes_eq name (codes "date") ≡ d → bytes_eq name (codes "content-length") ≡ l
    → bytes_eq name (codes "transfer-encoding") ≡ t → bytes_eq name (codes "connection") ≡ c → among hop name ≡ p
    → Facts f d l t c (without (codes "content-length" ∷ []) (cond (not p) (f ∷ []) []))
by_name f name d l t c p e w h i j k m = record {
  unnamed = ap (among watched) e ∙ w;
  date = ap is_date e ∙ h;
  sized = ap is_length e ∙ i;
  coded = ap is_coding e ∙ j;
  connection = ap is_connection e ∙ k;
  goes_on = ap (λ (t : Bool). without (codes "content-length" ∷ []) (cond (not t) (f ∷ []) [])) (ap is_hop e ∙ m);
}

-- with what goes on as it is
as_on : (f : Field) (d l t c : Bool) (on other : List Field) → Facts f d l t c on → on ≡ other → Facts f d l t c other
as_on f d l t c on other h e = record { unnamed = h.unnamed; date = h.date; sized = h.sized; coded = h.coded; connection = h.connection; goes_on = h.goes_on ∙ e }

pub date_facts : (f : Field) → kind_of (small f.0) ≡ Date → Facts f true false false false (f ∷ [])
date_facts f e =
    let n = small f.0 in
    let is = (bytes_eq-Decides n (codes "date")).0 (date_holds (among watched n) (is_date n) (is_length n) (is_coding n) (is_connection n) (is_hop n) e) in
    as_on f true false false false (without (codes "content-length" ∷ []) (f ∷ [])) (f ∷ [])
    (by_name f (codes "date") true false false false false is refl refl refl refl refl refl)
    (ap (λ (x : List ℕ). cond (not (among (codes "content-length" ∷ []) x)) (f ∷ []) []) is)

pub length_facts : (f : Field) → kind_of (small f.0) ≡ Length → Facts f false true false false []
length_facts f e =
    let n = small f.0 in
    let is = (bytes_eq-Decides n (codes "content-length")).0 (length_holds (among watched n) (is_date n) (is_length n) (is_coding n) (is_connection n) (is_hop n) e) in
    as_on f false true false false (without (codes "content-length" ∷ []) (f ∷ [])) []
    (by_name f (codes "content-length") false true false false false is refl refl refl refl refl refl)
    (ap (λ (x : List ℕ). cond (not (among (codes "content-length" ∷ []) x)) (f ∷ []) []) is)

pub coding_facts : (f : Field) → kind_of (small f.0) ≡ Coding → Facts f false false true false []
coding_facts f e =
    let n = small f.0 in
    let is = (bytes_eq-Decides n (codes "transfer-encoding")).0 (coding_holds (among watched n) (is_date n) (is_length n) (is_coding n) (is_connection n) (is_hop n) e) in
    by_name f (codes "transfer-encoding") false false true false true is refl refl refl refl refl refl

pub connection_facts : (f : Field) → kind_of (small f.0) ≡ Connection → Facts f false false false true []
connection_facts f e =
    let n = small f.0 in
    let is = (bytes_eq-Decides n (codes "connection")).0 (connection_holds (among watched n) (is_date n) (is_length n) (is_coding n) (is_connection n) (is_hop n) e) in
    by_name f (codes "connection") false false false true true is refl refl refl refl refl refl

staying_snoc : (lines : List Field) (f : Field) (on : List Field) → staying (f ∷ []) ≡ on → staying (lines ++ f ∷ []) ≡ staying lines ++ on
staying_snoc lines f on e =
    ap (without (codes "content-length" ∷ [])) (filter-append (λ g. not (among hop (small g.0))) lines (f ∷ []))
    ∙ filter-append (λ g. not (among (codes "content-length" ∷ []) (small g.0))) (without hop lines) (without hop (f ∷ []))
    ∙ ap (λ (fs : List Field). staying lines ++ fs) e

-- the line in front of what is left
pub record Next (f : Field) (left rest : List ℕ) (room : ℕ) : Type 0 where
  pub is : left ≡ line_text f ++ rest
  pub plain : is_plain_line watched f ≡ true
  pub has_room : 0 < room

-- what four fields say, with what a line says
pub record Says (value : List ℕ) (d l t c : Bool) (connection lengths codings dates new_connection new_lengths new_codings new_dates : List (List ℕ)) : Type 0 where
  pub of_connection : new_connection ≡ connection ++ cond c (value ∷ []) []
  pub of_lengths : new_lengths ≡ lengths ++ cond l (value ∷ []) []
  pub of_codings : new_codings ≡ codings ++ cond t (value ∷ []) []
  pub of_dates : new_dates ≡ dates ++ cond d (value ∷ []) []
  pub one_date : length dates ≤ 1 → length new_dates ≤ 1

says : (name : List ℕ) (lines : List Field) (f : Field) (t : Bool) (values new : List (List ℕ)) → bytes_eq (small f.0) name ≡ t → all name lines ≡ values → new ≡ values ++ cond t (f.1 ∷ []) [] → all name (lines ++ f ∷ []) ≡ new
says name lines f t values new b e n = all_snoc name lines f t b ∙ ap (λ (vs : List (List ℕ)). vs ++ cond t (f.1 ∷ []) []) e ∙ sym n

pub stays : (text run left rest : List ℕ) (a b c d a' b' c' d' : List (List ℕ)) (room : ℕ) (f : Field) (p q r s : Bool) → Facts f p q r s (f ∷ []) → Says f.1 p q r s a b c d a' b' c' d' → Next f left rest room
    → GoesOn (record { text = text; run = run; left = left; connection = a; lengths = b; codings = c; dates = d; room = room }) (record { text = text; run = run; left = rest; connection = a'; lengths = b'; codings = c'; dates = d'; room = room - 1 })
stays text run left rest a b c d a' b' c' d' room f p q r s h v n behind most w = record {
  lines = w.lines ++ f ∷ [];
  come = come_more behind w.lines f left rest w.come n.is;
  plain = plain_more (is_plain_line watched) w.lines f w.plain n.plain;
  connection_is = says (codes "connection") w.lines f s a a' h.connection w.connection_is v.of_connection;
  lengths_are = says (codes "content-length") w.lines f q b b' h.sized w.lengths_are v.of_lengths;
  codings_are = says (codes "transfer-encoding") w.lines f r c c' h.coded w.codings_are v.of_codings;
  dates_are = says (codes "date") w.lines f p d d' h.date w.dates_are v.of_dates;
  one_date = v.one_date w.one_date;
  counted = one_more w.lines f room most w.counted n.has_room;
  kept =
      come_on (text ++ run) (block (staying w.lines)) (line_text f) rest left w.kept n.is
      ∙ ap (λ (t : List ℕ). t ++ rest) (sym (block_snoc (staying w.lines) f) ∙ ap block (sym (staying_snoc w.lines f (f ∷ []) h.goes_on)));
}

-- the run ends in front of a line that goes no further
pub leaves : (text run left rest : List ℕ) (a b c d a' b' c' d' : List (List ℕ)) (room : ℕ) (f : Field) (p q r s : Bool) → Facts f p q r s [] → Says f.1 p q r s a b c d a' b' c' d' → Next f left rest room → length left ≤ length run
    → GoesOn (record { text = text; run = run; left = left; connection = a; lengths = b; codings = c; dates = d; room = room }) (record { text = text ++ take (length run - length left) run; run = rest; left = rest; connection = a'; lengths = b'; codings = c'; dates = d'; room = room - 1 })
leaves text run left rest a b c d a' b' c' d' room f p q r s h v n le behind most w = record {
  lines = w.lines ++ f ∷ [];
  come = come_more behind w.lines f left rest w.come n.is;
  plain = plain_more (is_plain_line watched) w.lines f w.plain n.plain;
  connection_is = says (codes "connection") w.lines f s a a' h.connection w.connection_is v.of_connection;
  lengths_are = says (codes "content-length") w.lines f q b b' h.sized w.lengths_are v.of_lengths;
  codings_are = says (codes "transfer-encoding") w.lines f r c c' h.coded w.codings_are v.of_codings;
  dates_are = says (codes "date") w.lines f p d d' h.date w.dates_are v.of_dates;
  one_date = v.one_date w.one_date;
  counted = one_more w.lines f room most w.counted n.has_room;
  kept =
      ap (λ (t : List ℕ). t ++ rest)
      (cut_run text run (block (staying w.lines)) left w.kept le ∙ ap block (sym (staying_snoc w.lines f [] h.goes_on ∙ nothing_behind (staying w.lines))));
}

-- a line that says nothing of the four
pub silent : (value : List ℕ) (a b c d : List (List ℕ)) → Says value false false false false a b c d a b c d
silent value a b c d = record { of_connection = sym (nothing_behind a); of_lengths = sym (nothing_behind b); of_codings = sym (nothing_behind c); of_dates = sym (nothing_behind d); one_date = λ e. e }

-- or of one
pub dated : (value : List ℕ) (a b c : List (List ℕ)) → Says value true false false false a b c [] a b c (value ∷ [])
dated value a b c = record { of_connection = sym (nothing_behind a); of_lengths = sym (nothing_behind b); of_codings = sym (nothing_behind c); of_dates = refl; one_date = λ e. omega arith }

pub sized : (value : List ℕ) (a c d : List (List ℕ)) → Says value false true false false a [] c d a (value ∷ []) c d
sized value a c d = record { of_connection = sym (nothing_behind a); of_lengths = refl; of_codings = sym (nothing_behind c); of_dates = sym (nothing_behind d); one_date = λ e. e }

pub coded : (value : List ℕ) (a b d : List (List ℕ)) → Says value false false true false a b [] d a b (value ∷ []) d
coded value a b d = record { of_connection = sym (nothing_behind a); of_lengths = sym (nothing_behind b); of_codings = refl; of_dates = sym (nothing_behind d); one_date = λ e. e }

pub connected : (value : List ℕ) (b c d : List (List ℕ)) → Says value false false false true [] b c d (value ∷ []) b c d
connected value b c d = record { of_connection = refl; of_lengths = sym (nothing_behind b); of_codings = sym (nothing_behind c); of_dates = sym (nothing_behind d); one_date = λ e. e }
