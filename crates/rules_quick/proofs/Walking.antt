-- One line more.
use Rattle.std.proofs.Common.{◌≡◌, ℕ, ◌+◌, ◌-◌, ◌<◌, ◌≤◌, ◌&&◌, not, cond, Bool, true, false, List, [], ◌∷◌, ◌++◌, take, length, refl, sym, ap, ◌∙◌, append_assoc, arith, length-append}
use Rattle.std.specs.Prelude.{map, filter, bytes_eq, codes}
use Rattle.std.specs.List.{list_all}
use Rattle.std.proofs.lemmas.Grind.{common_steps}
use Rattle.std.proofs.lemmas.Bool.{and_from}
use Rattle.std.proofs.lemmas.List.Folds.{list_all-append}
use Rattle.std.proofs.lemmas.List.Elements.{filter-append}
use Rattle.std.proofs.lemmas.Slice.Eq.{bytes_eq-Decides}
use Rattle.std.proofs.Math.Seq.{take-append_seam, take-append-add}
use Rattle.rules_fields.specs.Texts.{small}
use Rattle.rules_fields.specs.Tables.{among, hop, asked}
use Rattle.rules_fields.specs.Fields.{Field, is_named, all, without}
use Rattle.rules_ffi_arguments.specs.Rooms.{line_text, block}
use Rattle.httparse.specs.Grammar.{is_token, is_value_byte}
use Rattle.rules_fields.specs.Texts.{trimmed}
use Rattle.rules_quick.specs.Plain.{watched, is_plain_line, is_passed, IsPlainBut}
use Rattle.rules_quick.specs.Kinds.{kind_of}
use Rattle.rules_quick.specs.Requests.{asked_lines}
use Rattle.rules_quick.specs.Walked.{GoesOn}
use Rattle.rules_quick.specs.declared.names.Kind.{Kind}
use Rattle.rules_quick.specs.declared.names.Kind.TheVariants.{Kept, Asked, Hop, Connection, Host, Watched}

-- a kind, by what holds of its name
abbrev pick : Bool → Bool → Bool → Bool → Bool → Kind
pick w h c p q = cond w Watched (cond h Host (cond c Connection (cond p Hop (cond q Asked Kept))))

pub record Facts (name : List ℕ) (c p q : Bool) : Type 0 where
  pub unwatched : among watched name ≡ false
  pub no_host : bytes_eq name (codes "host") ≡ false
  pub connection : bytes_eq name (codes "connection") ≡ c
  pub of_hop : among hop name ≡ p
  pub of_asked : among asked name ≡ q

none_hold : (w h c p q : Bool) → pick w h c p q ≡ Kept → (w ≡ false) × ((h ≡ false) × ((c ≡ false) × ((p ≡ false) × (q ≡ false))))
none_hold true h c p q e = cc
none_hold false true c p q e = cc
none_hold false false true p q e = cc
none_hold false false false true q e = cc
none_hold false false false false true e = cc
none_hold false false false false false e = (refl, (refl, (refl, (refl, refl))))

asked_holds : (w h c p q : Bool) → pick w h c p q ≡ Asked → (w ≡ false) × ((h ≡ false) × ((c ≡ false) × ((p ≡ false) × (q ≡ true))))
asked_holds true h c p q e = cc
asked_holds false true c p q e = cc
asked_holds false false true p q e = cc
asked_holds false false false true q e = cc
asked_holds false false false false false e = cc
asked_holds false false false false true e = (refl, (refl, (refl, (refl, refl))))

hop_holds : (w h c p q : Bool) → pick w h c p q ≡ Hop → (w ≡ false) × ((h ≡ false) × ((c ≡ false) × (p ≡ true)))
hop_holds true h c p q e = cc
hop_holds false true c p q e = cc
hop_holds false false true p q e = cc
hop_holds false false false true q e = (refl, (refl, (refl, refl)))
hop_holds false false false false true e = cc
hop_holds false false false false false e = cc

connection_holds : (w h c p q : Bool) → pick w h c p q ≡ Connection → (w ≡ false) × ((h ≡ false) × (c ≡ true))
connection_holds true h c p q e = cc
connection_holds false true c p q e = cc
connection_holds false false true p q e = (refl, (refl, refl))
connection_holds false false false true q e = cc
connection_holds false false false false true e = cc
connection_holds false false false false false e = cc

pub kept_facts : (n : List ℕ) → kind_of n ≡ Kept → Facts n false false false
kept_facts n e = let h = none_hold (among watched n) (bytes_eq n (codes "host")) (bytes_eq n (codes "connection")) (among hop n) (among asked n) e in
    record { unwatched = h.0; no_host = h.1.0; connection = h.1.1.0; of_hop = h.1.1.1.0; of_asked = h.1.1.1.1 }

pub asked_facts : (n : List ℕ) → kind_of n ≡ Asked → Facts n false false true
asked_facts n e = let h = asked_holds (among watched n) (bytes_eq n (codes "host")) (bytes_eq n (codes "connection")) (among hop n) (among asked n) e in
    record { unwatched = h.0; no_host = h.1.0; connection = h.1.1.0; of_hop = h.1.1.1.0; of_asked = h.1.1.1.1 }

pub hop_facts : (n : List ℕ) → kind_of n ≡ Hop → Facts n false true (among asked n)
hop_facts n e = let h = hop_holds (among watched n) (bytes_eq n (codes "host")) (bytes_eq n (codes "connection")) (among hop n) (among asked n) e in
    record { unwatched = h.0; no_host = h.1.0; connection = h.1.1.0; of_hop = h.1.1.1; of_asked = refl }

pub connection_facts : (n : List ℕ) → kind_of n ≡ Connection → Facts n true true (among asked n)
connection_facts n e = let h = connection_holds (among watched n) (bytes_eq n (codes "host")) (bytes_eq n (codes "connection")) (among hop n) (among asked n) e in
    record { unwatched = h.0; no_host = h.1.0; connection = h.1.1; of_hop = ap (among hop) ((bytes_eq-Decides n (codes "connection")).0 h.1.1); of_asked = refl }

-- lists with one line behind
pub block_snoc : (lines : List Field) (f : Field) → block (lines ++ f ∷ []) ≡ block lines ++ line_text f
block_snoc [] f = grind (arith, common_steps)
block_snoc (g ∷ lines) f = ap (λ (t : List ℕ). line_text g ++ t) (block_snoc lines f) ∙ sym (append_assoc (line_text g) (block lines) (line_text f))

-- a line that stays behind those that stay
abbrev if_not : Bool → Field → List Field
if_not p f = cond (not p) (f ∷ []) []

without_snoc : (lines : List Field) (f : Field) (p : Bool) → among hop (small f.0) ≡ p → without hop (lines ++ f ∷ []) ≡ without hop lines ++ if_not p f
without_snoc lines f p e = filter-append (λ g. not (among hop (small g.0))) lines (f ∷ []) ∙ ap (λ (t : Bool). without hop lines ++ cond (not t) (f ∷ []) []) e

asked_snoc : (lines : List Field) (f : Field) (q : Bool) → among asked (small f.0) ≡ q → asked_lines (lines ++ f ∷ []) ≡ asked_lines lines ++ cond q (f ∷ []) []
asked_snoc lines f q e = filter-append (λ g. among asked (small g.0)) lines (f ∷ []) ∙ ap (λ (t : Bool). asked_lines lines ++ cond t (f ∷ []) []) e

pub all_snoc : (name : List ℕ) (lines : List Field) (f : Field) (t : Bool) → bytes_eq (small f.0) name ≡ t → all name (lines ++ f ∷ []) ≡ all name lines ++ cond t (f.1 ∷ []) []
all_snoc name [] f t e = ap (λ (b : Bool). map (λ g. g.1) (cond b (f ∷ []) [])) e ∙ go t
  where
    go : (t : Bool) → map (λ g. g.1) (cond t (f ∷ []) []) ≡ cond t (f.1 ∷ []) []
    go true = refl
    go false = refl
all_snoc name (g ∷ lines) f t e = go (is_named name g) (all_snoc name lines f t e)
  where
    go : (b : Bool) → all name (lines ++ f ∷ []) ≡ all name lines ++ cond t (f.1 ∷ []) []
        → map (λ g. g.1) (cond b (g ∷ filter (is_named name) (lines ++ f ∷ [])) (filter (is_named name) (lines ++ f ∷ []))) ≡ map (λ g. g.1) (cond b (g ∷ filter (is_named name) lines) (filter (is_named name) lines)) ++ cond t (f.1 ∷ []) []
    go true h = ap (λ (vs : List (List ℕ)). g.1 ∷ vs) h
    go false h = h

pub nothing_behind : {A : Type 0} (xs : List A) → xs ++ [] ≡ xs
nothing_behind [] = refl
nothing_behind (x ∷ xs) = ap (λ ys. x ∷ ys) (nothing_behind xs)

-- what was come through, with one line more
pub come_on : (behind before line rest left : List ℕ) → behind ≡ before ++ left → left ≡ line ++ rest → behind ≡ (before ++ line) ++ rest
come_on behind before line rest left e l = e ∙ ap (λ (t : List ℕ). before ++ t) l ∙ sym (append_assoc before line rest)

-- a text and a run, without what is left
pub cut_run : (text run whole left : List ℕ) → text ++ run ≡ whole ++ left → length left ≤ length run → text ++ take (length run - length left) run ≡ whole
cut_run text run whole left e le =
    sym (take-append-add text run (length run - length left))
    ∙ ap (λ (n : ℕ). take n (text ++ run)) (lens (ap (λ (t : List ℕ). length t) e))
    ∙ ap (take (length whole)) e ∙ take-append_seam whole left
  where
    lens : length (text ++ run) ≡ length (whole ++ left) → length text + (length run - length left) ≡ length whole
    lens h = omega (arith, h, length-append text run, length-append whole left, le)

-- what a line adds to those that stay
stays_by : (old : List ℕ) (lines : List Field) (f : Field) → among hop (small f.0) ≡ false → (old ++ block (without hop lines)) ++ line_text f ≡ old ++ block (without hop (lines ++ f ∷ []))
stays_by old lines f p =
    append_assoc old (block (without hop lines)) (line_text f)
    ∙ ap (λ (t : List ℕ). old ++ t) (sym (block_snoc (without hop lines) f) ∙ ap block (sym (without_snoc lines f false p)))

gone : (lines : List Field) (f : Field) → among hop (small f.0) ≡ true → without hop (lines ++ f ∷ []) ≡ without hop lines
gone lines f p = without_snoc lines f true p ∙ nothing_behind (without hop lines)

not_asked : (lines : List Field) (f : Field) → among hop (small f.0) ≡ false → among asked (small f.0) ≡ false → asked_lines (without hop (lines ++ f ∷ [])) ≡ asked_lines (without hop lines)
not_asked lines f p q = ap asked_lines (without_snoc lines f false p) ∙ asked_snoc (without hop lines) f false q ∙ nothing_behind (asked_lines (without hop lines))

one_asked : (old : List ℕ) (lines : List Field) (f : Field) → among hop (small f.0) ≡ false → among asked (small f.0) ≡ true
    → (old ++ block (asked_lines (without hop lines))) ++ line_text f ≡ old ++ block (asked_lines (without hop (lines ++ f ∷ [])))
one_asked old lines f p q =
    append_assoc old (block (asked_lines (without hop lines))) (line_text f)
    ∙ ap (λ (t : List ℕ). old ++ t) (sym (block_snoc (asked_lines (without hop lines)) f)
    ∙ ap block (sym (ap asked_lines (without_snoc lines f false p) ∙ asked_snoc (without hop lines) f true q)))

pub one_more : (lines : List Field) (f : Field) (room most : ℕ) → length lines + room ≡ most → 0 < room → length (lines ++ f ∷ []) + (room - 1) ≡ most
one_more lines f room most e lt = omega (arith, e, length-append lines (f ∷ []))

pub plain_more : (test : Field → Bool) (lines : List Field) (f : Field) → list_all test lines ≡ true → test f ≡ true → list_all test (lines ++ f ∷ []) ≡ true
plain_more test lines f h k = list_all-append test lines (f ∷ []) ∙ and_from (list_all test lines) (test f && true) h (and_from (test f) true k refl)

pub come_more : (behind : List ℕ) (lines : List Field) (f : Field) (left rest : List ℕ) → behind ≡ block lines ++ left → left ≡ line_text f ++ rest → behind ≡ block (lines ++ f ∷ []) ++ rest
come_more behind lines f left rest e l = come_on behind (block lines) (line_text f) rest left e l ∙ ap (λ (t : List ℕ). t ++ rest) (sym (block_snoc lines f))

no_value : (name : List ℕ) (lines : List Field) (f : Field) (values : List (List ℕ)) → all name lines ≡ values → bytes_eq (small f.0) name ≡ false → all name (lines ++ f ∷ []) ≡ values
no_value name lines f values e b = all_snoc name lines f false b ∙ nothing_behind (all name lines) ∙ e

-- the line in front of what is left
pub record Next (unwanted : List (List ℕ)) (f : Field) (left rest : List ℕ) (room : ℕ) : Type 0 where
  pub is : left ≡ line_text f ++ rest
  pub plain : is_plain_line watched f ≡ true
  pub passed : is_passed unwanted f ≡ true
  pub has_room : 0 < room

pub keeps : (unwanted : List (List ℕ)) (text asked_text run left rest : List ℕ) (connection : List (List ℕ)) (room : ℕ) (f : Field) → Next unwanted f left rest room → kind_of (small f.0) ≡ Kept
    → GoesOn unwanted (record { text = text; asked = asked_text; run = run; left = left; connection = connection; room = room }) (record { text = text; asked = asked_text; run = run; left = rest; connection = connection; room = room - 1 })
keeps unwanted text asked_text run left rest connection room f n k behind most old old_asked w =
    let h = kept_facts (small f.0) k in
    record {
      lines = w.lines ++ f ∷ [];
      come = come_more behind w.lines f left rest w.come n.is;
      plain = plain_more (is_plain_line watched) w.lines f w.plain n.plain;
      passed = plain_more (is_passed unwanted) w.lines f w.passed n.passed;
      no_host = no_value (codes "host") w.lines f [] w.no_host h.no_host;
      connection_is = no_value (codes "connection") w.lines f connection w.connection_is h.connection;
      counted = one_more w.lines f room most w.counted n.has_room;
      kept = come_on (text ++ run) (old ++ block (without hop w.lines)) (line_text f) rest left w.kept n.is ∙ ap (λ (t : List ℕ). t ++ rest) (stays_by old w.lines f h.of_hop);
      asked_are = w.asked_are ∙ ap (λ (ls : List Field). old_asked ++ block ls) (sym (not_asked w.lines f h.of_hop h.of_asked));
    }

pub asks : (unwanted : List (List ℕ)) (text asked_text run left rest : List ℕ) (connection : List (List ℕ)) (room : ℕ) (f : Field) → Next unwanted f left rest room → kind_of (small f.0) ≡ Asked
    → GoesOn unwanted (record { text = text; asked = asked_text; run = run; left = left; connection = connection; room = room }) (record { text = text; asked = asked_text ++ take (length left - length rest) left; run = run; left = rest; connection = connection; room = room - 1 })
asks unwanted text asked_text run left rest connection room f n k behind most old old_asked w =
    let h = asked_facts (small f.0) k in
    record {
      lines = w.lines ++ f ∷ [];
      come = come_more behind w.lines f left rest w.come n.is;
      plain = plain_more (is_plain_line watched) w.lines f w.plain n.plain;
      passed = plain_more (is_passed unwanted) w.lines f w.passed n.passed;
      no_host = no_value (codes "host") w.lines f [] w.no_host h.no_host;
      connection_is = no_value (codes "connection") w.lines f connection w.connection_is h.connection;
      counted = one_more w.lines f room most w.counted n.has_room;
      kept = come_on (text ++ run) (old ++ block (without hop w.lines)) (line_text f) rest left w.kept n.is ∙ ap (λ (t : List ℕ). t ++ rest) (stays_by old w.lines f h.of_hop);
      asked_are =
          ap (λ (t : List ℕ). asked_text ++ t) (cut_run [] left (line_text f) rest n.is (omega (arith, ap (λ (t : List ℕ). length t) n.is, length-append (line_text f) rest)))
          ∙ ap (λ (t : List ℕ). t ++ line_text f) w.asked_are ∙ one_asked old_asked w.lines f h.of_hop h.of_asked;
    }

-- the run ends in front of a line that goes no further
pub drops : (unwanted : List (List ℕ)) (text asked_text run left rest : List ℕ) (connection : List (List ℕ)) (room : ℕ) (f : Field) → Next unwanted f left rest room → kind_of (small f.0) ≡ Hop → length left ≤ length run
    → GoesOn unwanted (record { text = text; asked = asked_text; run = run; left = left; connection = connection; room = room }) (record { text = text ++ take (length run - length left) run; asked = asked_text; run = rest; left = rest; connection = connection; room = room - 1 })
drops unwanted text asked_text run left rest connection room f n k le behind most old old_asked w =
    let h = hop_facts (small f.0) k in
    record {
      lines = w.lines ++ f ∷ [];
      come = come_more behind w.lines f left rest w.come n.is;
      plain = plain_more (is_plain_line watched) w.lines f w.plain n.plain;
      passed = plain_more (is_passed unwanted) w.lines f w.passed n.passed;
      no_host = no_value (codes "host") w.lines f [] w.no_host h.no_host;
      connection_is = no_value (codes "connection") w.lines f connection w.connection_is h.connection;
      counted = one_more w.lines f room most w.counted n.has_room;
      kept = ap (λ (t : List ℕ). t ++ rest) (cut_run text run (old ++ block (without hop w.lines)) left w.kept le ∙ ap (λ (ls : List Field). old ++ block ls) (sym (gone w.lines f h.of_hop)));
      asked_are = w.asked_are ∙ ap (λ (ls : List Field). old_asked ++ block (asked_lines ls)) (sym (gone w.lines f h.of_hop));
    }

pub connects : (unwanted : List (List ℕ)) (text asked_text run left rest : List ℕ) (room : ℕ) (f : Field) → Next unwanted f left rest room → kind_of (small f.0) ≡ Connection → length left ≤ length run
    → GoesOn unwanted (record { text = text; asked = asked_text; run = run; left = left; connection = []; room = room }) (record { text = text ++ take (length run - length left) run; asked = asked_text; run = rest; left = rest; connection = f.1 ∷ []; room = room - 1 })
connects unwanted text asked_text run left rest room f n k le behind most old old_asked w =
    let h = connection_facts (small f.0) k in
    record {
      lines = w.lines ++ f ∷ [];
      come = come_more behind w.lines f left rest w.come n.is;
      plain = plain_more (is_plain_line watched) w.lines f w.plain n.plain;
      passed = plain_more (is_passed unwanted) w.lines f w.passed n.passed;
      no_host = no_value (codes "host") w.lines f [] w.no_host h.no_host;
      connection_is = all_snoc (codes "connection") w.lines f true h.connection ∙ ap (λ (vs : List (List ℕ)). vs ++ f.1 ∷ []) w.connection_is;
      counted = one_more w.lines f room most w.counted n.has_room;
      kept = ap (λ (t : List ℕ). t ++ rest) (cut_run text run (old ++ block (without hop w.lines)) left w.kept le ∙ ap (λ (ls : List Field). old ++ block ls) (sym (gone w.lines f h.of_hop)));
      asked_are = w.asked_are ∙ ap (λ (ls : List Field). old_asked ++ block (asked_lines ls)) (sym (gone w.lines f h.of_hop));
    }

-- a plain line under another name than these
pub plain_by : (names : List (List ℕ)) (f : Field) → IsPlainBut f → among names (small f.0) ≡ false → is_plain_line names f ≡ true
plain_by names f p w =
    and_from (is_token f.0 && list_all is_value_byte f.1 && bytes_eq (trimmed f.1) f.1) (not (among names (small f.0)))
    (and_from (is_token f.0 && list_all is_value_byte f.1) (bytes_eq (trimmed f.1) f.1) (and_from (is_token f.0) (list_all is_value_byte f.1) p.name p.value)
    ((bytes_eq-Decides (trimmed f.1) f.1).1 p.bare)) (ap not w)
