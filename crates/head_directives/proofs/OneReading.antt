-- A line holds at most one list of directives: that of the search.
use Rattle.std.proofs.Common.{◌≡◌, ℕ, inl, inr, Bool, true, false, ◌&&◌, ◌||◌, List, [], ◌∷◌, ◌++◌, length, drop, refl, sym, ◌∙◌, ap, subst, arith, append_assoc}
use Rattle.std.specs.List.{AllByRecursion}
use Rattle.std.proofs.lemmas.List.{append-nil}
use Rattle.head_directives.specs.Kinds.{is_space, is_separator, is_token}
use Rattle.head_directives.specs.Written.{Written}
use Rattle.head_directives.specs.Reads.{IsDirective, IsBlank, IsLead, Begins, IsGap, is_none_yet, Reads, HoldsDirectives}
use Rattle.head_directives.specs.Walk.{written_at, written_len, walk, begins_token, directives}
use Rattle.head_directives.proofs.Scanning.{walk_token}
use Rattle.head_directives.proofs.Matches.{space_no_token, separator_no_token, separator_no_space, directive_is}

-- gaps and leads

-- no token follows white space alone: what holds inside a gap where a name may begin
abbrev pub Stuck : List ℕ → Type 0
Stuck bytes = (blank : List ℕ) (b : ℕ) (rest : List ℕ) → IsBlank blank → is_token b ≡ true → bytes ≡ blank ++ b ∷ rest → ⊥

stuck_next : (b : ℕ) (text : List ℕ) (ready sep space : Bool) → is_separator b ≡ sep → is_space b ≡ space → (Begins false (b ∷ text) → ⊥) → (ready ≡ true → Stuck (b ∷ text)) → (sep || (ready && space)) ≡ true → Stuck text
stuck_next b text ready true space es ew none stuck e =
    λ blank c rest h t is. none (b ∷ blank, c, rest, inr ([], b, blank, refl, tt, es, h), t, ap (λ l. b ∷ l) is)
stuck_next b text true false true es ew none stuck e =
    λ blank c rest h t is. stuck refl (b ∷ blank) c rest (ew, h) t (ap (λ l. b ∷ l) is)
stuck_next b text true false false es ew none stuck e = cc
stuck_next b text false false space es ew none stuck e = cc

not_token : (b : ℕ) (text : List ℕ) (ready : Bool) (t : Bool) → is_token b ≡ t → (ready ≡ true → Stuck (b ∷ text)) → (ready && t) ≡ false
not_token b text true true e stuck = absurd (stuck refl [] b text tt e refl)
not_token b text true false e stuck = refl
not_token b text false t e stuck = refl

pass : (gap rest : List ℕ) (ready : Bool) → IsGap false gap rest → (ready ≡ true → Stuck (gap ++ rest)) → (r : Bool) × (walk 0 ready (gap ++ rest) ≡ walk 0 r rest) × (r ≡ true → Stuck rest)
pass [] rest ready g s = (ready, refl, s)
pass (b ∷ gap) rest ready g s =
    let p = pass gap rest (is_separator b || (ready && is_space b)) g.1 (stuck_next b (gap ++ rest) ready (is_separator b) (is_space b) refl refl g.0 s) in
    (p.0, rw (not_token b (gap ++ rest) ready (is_token b) refl s) p.1, p.2)

step_blank : (b : ℕ) (bytes : List ℕ) (ready : Bool) → is_space b ≡ true → walk 0 ready (b ∷ bytes) ≡ walk 0 ready bytes
step_blank b bytes ready h = go ready
  where
    no_separator : (t : Bool) → is_separator b ≡ t → t ≡ false
    no_separator false e = refl
    no_separator true e = let f = separator_no_space b e in cc

    go : (ready : Bool) → walk 0 ready (b ∷ bytes) ≡ walk 0 ready bytes
    go true = rw (space_no_token b h, no_separator (is_separator b) refl, h) refl
    go false = rw (no_separator (is_separator b) refl) refl

blank_pass : (blank body : List ℕ) (ready : Bool) → IsBlank blank → walk 0 ready (blank ++ body) ≡ walk 0 ready body
blank_pass [] body ready h = refl
blank_pass (b ∷ blank) body ready h = step_blank b (blank ++ body) ready h.0 ∙ blank_pass blank body ready h.1

step_separator : (b : ℕ) (bytes : List ℕ) (ready : Bool) → is_separator b ≡ true → walk 0 ready (b ∷ bytes) ≡ walk 0 true bytes
step_separator b bytes true h = rw (separator_no_token b h, h) refl
step_separator b bytes false h = rw h refl

lead_pass : (lead body : List ℕ) (ready : Bool) → IsLead false lead → walk 0 ready (lead ++ body) ≡ walk 0 true body
lead_pass lead body ready (inl (e, h)) = cc
lead_pass lead body ready (inr (before, s, blank, is, hb, hs, ha)) =
    ap (λ l. walk 0 ready (l ++ body)) is
    ∙ ap (walk 0 ready) (append_assoc before (s ∷ blank) body)
    ∙ blank_pass before (s ∷ (blank ++ body)) ready hb
    ∙ step_separator s (blank ++ body) ready hs
    ∙ blank_pass blank body true ha

walk_directive : (body : List ℕ) (d : Written) (rest : List ℕ) → IsDirective body d rest → walk 0 true body ≡ d ∷ walk 0 false rest
walk_directive body d rest k = go d.0 refl
  where
    whole : (b : ℕ) (run : List ℕ) → d.0 ≡ b ∷ run → is_token b ≡ true
    whole b run e = (let P : List ℕ → Type 0 = λ l. AllByRecursion (λ c. is_token c ≡ true) l in subst P e k.name.tokens).0

    go : (name : List ℕ) → d.0 ≡ name → walk 0 true body ≡ d ∷ walk 0 false rest
    go [] e = absurd (omega (arith, k.name.some, ap length e))
    go (b ∷ run) e =
        let t : body ≡ b ∷ (run ++ k.after) = k.is ∙ ap (λ l. l ++ k.after) e in
        let w : walk 0 true body ≡ written_at body ∷ walk 0 false (drop (written_len (written_at body)) body) =
        (let P : List ℕ → Type 0 = λ l. walk 0 true l ≡ written_at l ∷ walk 0 false (drop (written_len (written_at l)) l) in subst P (sym t) (walk_token b (run ++ k.after) (whole b run e))) in
        let i = directive_is body d rest k in
        w ∙ ap (λ x. x ∷ walk 0 false (drop (written_len x) body)) i.0 ∙ ap (λ l. d ∷ walk 0 false l) i.1

-- uniqueness

unique_later : (ds : List Written) (bytes : List ℕ) → Reads false bytes ds → walk 0 false bytes ≡ ds
unique_later [] bytes g =
    let p = pass bytes [] false g (λ e. cc) in
    ap (walk 0 false) (sym (append-nil bytes)) ∙ p.1
unique_later (d ∷ ds) bytes (gap, lead, body, rest, is, g, l, k, more) =
    let p = pass gap (lead ++ body) false g (λ e. cc) in
    ap (walk 0 false) is ∙ p.1 ∙ lead_pass lead body p.0 l ∙ walk_directive body d rest k ∙ ap (λ x. d ∷ x) (unique_later ds rest more)

first_gap : (b : ℕ) (gap rest : List ℕ) → IsGap true (b ∷ gap) rest → (is_token b ≡ false) × IsGap false (b ∷ gap) rest
first_gap b gap rest g = (go (is_token b) refl, ((λ (lead, c, more, l, t, is). g.0 (lead, c, more, inr (later lead l), t, is)), g.1))
  where
    go : (t : Bool) → is_token b ≡ t → t ≡ false
    go false e = refl
    go true e = absurd (g.0 ([], b, gap ++ rest, inl (refl, refl), e, refl))

    later : (lead : List ℕ) → IsLead false lead → (before : List ℕ) × (s : ℕ) × (blank : List ℕ) × (lead ≡ before ++ s ∷ blank) × IsBlank before × (is_separator s ≡ true) × IsBlank blank
    later lead (inl (e, h)) = cc
    later lead (inr k) = k

begins_body : (body : List ℕ) (d : Written) (rest : List ℕ) → IsDirective body d rest → begins_token body ≡ true
begins_body body d rest k = go d.0 refl
  where
    go : (name : List ℕ) → d.0 ≡ name → begins_token body ≡ true
    go [] e = absurd (omega (arith, k.name.some, ap length e))
    go (b ∷ run) e =
        let P : List ℕ → Type 0 = λ l. AllByRecursion (λ c. is_token c ≡ true) l in
        ap begins_token (k.is ∙ ap (λ l. l ++ k.after) e) ∙ (subst P e k.name.tokens).0

unique_first : (d : Written) (ds : List Written) (line gap lead body rest : List ℕ) → line ≡ gap ++ (lead ++ body) → IsGap true gap (lead ++ body) → IsLead (true && is_none_yet gap) lead → IsDirective body d rest → Reads false rest ds → directives line ≡ d ∷ ds
unique_first d ds line [] lead body rest is g (inl (e, h)) k more =
    let t : line ≡ body = is ∙ ap (λ l. l ++ body) h in
    ap directives t
    ∙ ap (λ r. walk 0 r body) (begins_body body d rest k)
    ∙ walk_directive body d rest k
    ∙ ap (λ x. d ∷ x) (unique_later ds rest more)
unique_first d ds line [] lead body rest is g (inr l) k more =
    ap (walk 0 (begins_token line)) is
    ∙ lead_pass lead body (begins_token line) (inr l)
    ∙ walk_directive body d rest k
    ∙ ap (λ x. d ∷ x) (unique_later ds rest more)
unique_first d ds line (b ∷ gap) lead body rest is g l k more =
    let f = first_gap b gap (lead ++ body) g in
    ap directives is
    ∙ ap (λ r. walk 0 r ((b ∷ gap) ++ (lead ++ body))) f.0
    ∙ unique_later (d ∷ ds) ((b ∷ gap) ++ (lead ++ body)) (b ∷ gap, lead, body, rest, refl, f.1, l, k, more)

pub holds_unique : (line : List ℕ) (ds : List Written) → HoldsDirectives line ds → directives line ≡ ds
holds_unique [] [] g = refl
holds_unique (b ∷ line) [] g =
    let f = first_gap b line [] g in
    ap (λ r. walk 0 r (b ∷ line)) f.0 ∙ unique_later [] (b ∷ line) f.1
holds_unique line (d ∷ ds) (gap, lead, body, rest, is, g, l, k, more) = unique_first d ds line gap lead body rest is g l k more
