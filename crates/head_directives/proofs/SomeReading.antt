-- A line holds the list of directives that the search finds.
use Rattle.std.proofs.Common.{◌≡◌, ℕ, ◌-◌, zero, suc, ◌⊎◌, inl, inr, Bool, true, false, ◌&&◌, ◌||◌, List, [], ◌∷◌, ◌++◌, drop, refl, sym, ◌∙◌, ap, subst}
use Rattle.std.specs.Prelude.{cond}
use Rattle.std.proofs.lemmas.List.{append-nil}
use Rattle.head_directives.specs.Kinds.{is_space, is_separator, is_token}
use Rattle.head_directives.specs.Written.{Written}
use Rattle.head_directives.specs.Reads.{IsDirective, IsBlank, Begins, IsGap, Reads, HoldsDirectives}
use Rattle.head_directives.specs.Walk.{written_at, written_len, walk, directives}
use Rattle.head_directives.proofs.Scanning.{drop_written, walk_token}
use Rattle.head_directives.proofs.Matches.{first, tail, differ, space_no_token, separator_no_token, separator_no_space, directive_at}
use Rattle.head_directives.proofs.OneReading.{Stuck}

-- existence. What the state `ready` means: a directive follows after more white space, or none can

abbrev Opens : List ℕ → List Written → Type 0
Opens bytes [] = ⊥
Opens bytes (d ∷ ds) = (blank : List ℕ) × (body : List ℕ) × (rest : List ℕ) × (bytes ≡ blank ++ body) × IsBlank blank × IsDirective body d rest × Reads false rest ds

abbrev ReadsIn : Bool → List ℕ → List Written → Type 0
ReadsIn false bytes ds = Reads false bytes ds
ReadsIn true bytes ds = Opens bytes ds ⊎ (Stuck bytes × Reads false bytes ds)

gap_more : (b : ℕ) (bytes : List ℕ) (ds : List Written) → (Begins false (b ∷ bytes) → ⊥) → Reads false bytes ds → Reads false (b ∷ bytes) ds
gap_more b bytes [] none g =
    ((let P : List ℕ → Type 0 = λ l. Begins false (b ∷ l) → ⊥ in subst P (sym (append-nil bytes)) none), g)
gap_more b bytes (d ∷ ds) none (gap, lead, body, rest, is, g, l, k, more) =
    (b ∷ gap, lead, body, rest, ap (λ t. b ∷ t) is, ((let P : List ℕ → Type 0 = λ t. Begins false (b ∷ t) → ⊥ in subst P is none), g), l, k, more)

-- a match after a blank begins at the next byte too
begins_next : (b : ℕ) (bytes : List ℕ) → is_separator b ≡ false → Begins false (b ∷ bytes) → Begins false bytes
begins_next b bytes no_sep (lead, c, rest, inl (e, h), t, is) = cc
begins_next b bytes no_sep (lead, c, rest, inr ([], s, blank, e, hb, hs, ha), t, is) =
    let f : b ≡ s = ap first (is ∙ ap (λ l. l ++ c ∷ rest) e) in absurd (let g = ap is_separator f in differ (sym no_sep ∙ g ∙ hs))
begins_next b bytes no_sep (lead, c, rest, inr (x ∷ before, s, blank, e, hb, hs, ha), t, is) =
    (before ++ s ∷ blank, c, rest, inr (before, s, blank, refl, hb.1, hs, ha), t, tail_is)
  where
    tail_is : bytes ≡ (before ++ s ∷ blank) ++ c ∷ rest
    tail_is = ap tail (is ∙ ap (λ l. l ++ c ∷ rest) e)

no_begin : (text : List ℕ) (gap rest : List ℕ) → text ≡ gap ++ rest → IsGap false gap rest → ((gap ≡ []) → Begins false rest → ⊥) → Begins false text → ⊥
no_begin text [] rest is g h b = h refl (let P : List ℕ → Type 0 = Begins false in subst P is b)
no_begin text (x ∷ gap) rest is g h b = g.0 (let P : List ℕ → Type 0 = Begins false in subst P is b)

space_more : (b : ℕ) (bytes : List ℕ) (ds : List Written) → is_separator b ≡ false → is_space b ≡ true → Reads false bytes ds → Reads false (b ∷ bytes) ds
space_more b bytes [] no_sep h g = ((λ m. end bytes g (begins_next b (bytes ++ []) no_sep m)), g)
  where
    end : (bytes : List ℕ) → IsGap false bytes [] → Begins false (bytes ++ []) → ⊥
    end [] g (lead, c, rest, l, t, is) = nothing lead is
      where
        nothing : (lead : List ℕ) → [] ≡ lead ++ c ∷ rest → ⊥
        nothing [] e = cc
        nothing (x ∷ lead) e = cc
    end (x ∷ bytes) g m = g.0 m
space_more b bytes (d ∷ ds) no_sep h ([], lead, body, rest, is, g, inl (e, i), k, more) = cc
space_more b bytes (d ∷ ds) no_sep h ([], lead, body, rest, is, g, inr (before, s, blank, e, hb, hs, ha), k, more) =
    ([], b ∷ lead, body, rest, ap (λ t. b ∷ t) is, tt, inr (b ∷ before, s, blank, ap (λ t. b ∷ t) e, (h, hb), hs, ha), k, more)
space_more b bytes (d ∷ ds) no_sep h (x ∷ gap, lead, body, rest, is, g, l, k, more) =
    let P : List ℕ → Type 0 = Begins false in
    (b ∷ (x ∷ gap), lead, body, rest, ap (λ t. b ∷ t) is, ((λ m. g.0 (begins_next b ((x ∷ gap) ++ (lead ++ body)) no_sep m)), g), l, k, more)

-- no token follows a byte that is neither white space nor a token
stuck_at : (b : ℕ) (bytes : List ℕ) → is_space b ≡ false → is_token b ≡ false → Stuck (b ∷ bytes)
stuck_at b bytes no_space no_token [] c rest hb t is = differ (sym no_token ∙ ap is_token (ap first is) ∙ t)
stuck_at b bytes no_space no_token (x ∷ blank) c rest hb t is = differ (sym no_space ∙ ap is_space (ap first is) ∙ hb.0)

stuck_blank : (b : ℕ) (bytes : List ℕ) → is_token b ≡ false → Stuck bytes → Stuck (b ∷ bytes)
stuck_blank b bytes no_token stuck [] c rest hb t is = differ (sym no_token ∙ ap is_token (ap first is) ∙ t)
stuck_blank b bytes no_token stuck (x ∷ blank) c rest hb t is = stuck blank c rest hb.1 t (ap tail is)

-- at a separator that white space alone follows no match begins
no_begin_stuck : (b : ℕ) (bytes : List ℕ) → is_space b ≡ false → Stuck bytes → Begins false (b ∷ bytes) → ⊥
no_begin_stuck b bytes no_space stuck (lead, c, rest, inl (e, h), t, is) = cc
no_begin_stuck b bytes no_space stuck (lead, c, rest, inr ([], s, blank, e, hb, hs, ha), t, is) =
    stuck blank c rest ha t (ap tail (is ∙ ap (λ l. l ++ c ∷ rest) e))
no_begin_stuck b bytes no_space stuck (lead, c, rest, inr (x ∷ before, s, blank, e, hb, hs, ha), t, is) =
    differ (sym no_space ∙ ap is_space (ap first (is ∙ ap (λ l. l ++ c ∷ rest) e)) ∙ hb.0)

-- no match begins at a byte that is neither white space nor a separator
no_begin_other : (b : ℕ) (bytes : List ℕ) → is_space b ≡ false → is_separator b ≡ false → Begins false (b ∷ bytes) → ⊥
no_begin_other b bytes no_space no_sep (lead, c, rest, inl (e, h), t, is) = cc
no_begin_other b bytes no_space no_sep (lead, c, rest, inr ([], s, blank, e, hb, hs, ha), t, is) =
    differ (sym no_sep ∙ ap is_separator (ap first (is ∙ ap (λ l. l ++ c ∷ rest) e)) ∙ hs)
no_begin_other b bytes no_space no_sep (lead, c, rest, inr (x ∷ before, s, blank, e, hb, hs, ha), t, is) =
    differ (sym no_space ∙ ap is_space (ap first (is ∙ ap (λ l. l ++ c ∷ rest) e)) ∙ hb.0)

separator_more : (b : ℕ) (bytes : List ℕ) (ds : List Written) → is_separator b ≡ true → ReadsIn true bytes ds → Reads false (b ∷ bytes) ds
separator_more b bytes [] h (inl o) = absurd o
separator_more b bytes (d ∷ ds) h (inl (blank, body, rest, is, hb, k, more)) =
    ([], b ∷ blank, body, rest, ap (λ t. b ∷ t) is, tt, inr ([], b, blank, refl, tt, h, hb), k, more)
separator_more b bytes ds h (inr (stuck, r)) = gap_more b bytes ds (no_begin_stuck b bytes (separator_no_space b h) stuck) r

space_opens : (b : ℕ) (bytes : List ℕ) (ds : List Written) → is_space b ≡ true → Opens bytes ds → Opens (b ∷ bytes) ds
space_opens b bytes [] h o = o
space_opens b bytes (d ∷ ds) h (blank, body, rest, is, hb, k, more) = (b ∷ blank, body, rest, ap (λ t. b ∷ t) is, (h, hb), k, more)

step_on : (ready : Bool) (b : ℕ) (bytes : List ℕ) (ds : List Written) (sep space token : Bool) → is_separator b ≡ sep → is_space b ≡ space → is_token b ≡ token → (ready && token) ≡ false → ReadsIn (sep || (ready && space)) bytes ds → ReadsIn ready (b ∷ bytes) ds
step_on false b bytes ds true space token es ew et e h = separator_more b bytes ds es h
step_on true b bytes ds true space token es ew et e h =
    inr (stuck_at b bytes (separator_no_space b es) (separator_no_token b es), separator_more b bytes ds es h)
step_on false b bytes ds false true token es ew et e h = space_more b bytes ds es ew h
step_on true b bytes ds false true token es ew et e (inl o) = inl (space_opens b bytes ds ew o)
step_on true b bytes ds false true token es ew et e (inr (stuck, r)) =
    inr (stuck_blank b bytes (space_no_token b ew) stuck, space_more b bytes ds es ew r)
step_on false b bytes ds false false token es ew et e h = gap_more b bytes ds (no_begin_other b bytes ew es) h
step_on true b bytes ds false false true es ew et e h = cc
step_on true b bytes ds false false false es ew et e h =
    inr (stuck_at b bytes ew et, gap_more b bytes ds (no_begin_other b bytes ew es) h)

token_reads : (b : ℕ) (bytes : List ℕ) → is_token b ≡ true → ((k : ℕ) → Reads false (drop k bytes) (walk k false bytes)) → Reads false (drop (written_len (written_at (b ∷ bytes))) (b ∷ bytes)) (walk (written_len (written_at (b ∷ bytes)) - 1) false bytes)
token_reads b bytes h ih =
    let k : ℕ = written_len (written_at (b ∷ bytes)) - 1 in
    let P : List ℕ → Type 0 = λ l. Reads false l (walk k false bytes) in
    subst P (sym (drop_written b bytes h)) (ih k)

walk_step : (ready : Bool) (b : ℕ) (bytes : List ℕ) (t : Bool) → is_token b ≡ t → ((r : Bool) → ReadsIn r bytes (walk 0 r bytes)) → ((k : ℕ) → Reads false (drop k bytes) (walk k false bytes)) → ReadsIn ready (b ∷ bytes) (cond (ready && t) (written_at (b ∷ bytes) ∷ walk (written_len (written_at (b ∷ bytes)) - 1) false bytes) (walk 0 (is_separator b || (ready && is_space b)) bytes))
walk_step true b bytes true e here later =
    inl ([], b ∷ bytes, drop (written_len (written_at (b ∷ bytes))) (b ∷ bytes), refl, tt, directive_at b bytes e, token_reads b bytes e later)
walk_step true b bytes false e here later =
    step_on true b bytes (walk 0 (is_separator b || (true && is_space b)) bytes) (is_separator b) (is_space b) false refl refl e refl (here (is_separator b || (true && is_space b)))
walk_step false b bytes t e here later =
    step_on false b bytes (walk 0 (is_separator b || (false && is_space b)) bytes) (is_separator b) (is_space b) t refl refl e refl (here (is_separator b || (false && is_space b)))

-- one induction gives both, since a directive skips bytes
walk_reads : (bytes : List ℕ) → ((ready : Bool) → ReadsIn ready bytes (walk 0 ready bytes)) × ((k : ℕ) → Reads false (drop k bytes) (walk k false bytes))
walk_reads [] = (at_end, after_end)
  where
    nothing : (lead : List ℕ) (c : ℕ) (rest : List ℕ) → [] ≡ lead ++ c ∷ rest → ⊥
    nothing [] c rest e = cc
    nothing (x ∷ lead) c rest e = cc

    at_end : (ready : Bool) → ReadsIn ready [] (walk 0 ready [])
    at_end false = tt
    at_end true = inr ((λ blank c rest h t is. nothing blank c rest is), tt)

    after_end : (k : ℕ) → Reads false (drop k []) (walk k false [])
    after_end zero = tt
    after_end (suc k) = tt
walk_reads (b ∷ bytes) = both (walk_reads bytes)
  where
    both : ((r : Bool) → ReadsIn r bytes (walk 0 r bytes)) × ((k : ℕ) → Reads false (drop k bytes) (walk k false bytes)) → ((ready : Bool) → ReadsIn ready (b ∷ bytes) (walk 0 ready (b ∷ bytes))) × ((k : ℕ) → Reads false (drop k (b ∷ bytes)) (walk k false (b ∷ bytes)))
    both ih = (here, after)
      where
        here : (ready : Bool) → ReadsIn ready (b ∷ bytes) (walk 0 ready (b ∷ bytes))
        here ready = walk_step ready b bytes (is_token b) refl ih.0 ih.1

        after : (k : ℕ) → Reads false (drop k (b ∷ bytes)) (walk k false (b ∷ bytes))
        after zero = here false
        after (suc k) = ih.1 k

-- at a line's very beginning

first_more : (b : ℕ) (bytes : List ℕ) (ds : List Written) → is_token b ≡ false → Reads false (b ∷ bytes) ds → Reads true (b ∷ bytes) ds
first_more b bytes [] no_token g = (first_none b (bytes ++ []) no_token g.0, g.1)
  where
    first_none : (b : ℕ) (text : List ℕ) → is_token b ≡ false → (Begins false (b ∷ text) → ⊥) → Begins true (b ∷ text) → ⊥
    first_none b text no_token none (lead, c, rest, inr l, t, is) = none (lead, c, rest, inr l, t, is)
    first_none b text no_token none (lead, c, rest, inl (e, h), t, is) = differ (sym no_token ∙ ap is_token (ap first (is ∙ ap (λ l. l ++ c ∷ rest) h)) ∙ t)
first_more b bytes (d ∷ ds) no_token ([], lead, body, rest, is, g, inl (e, i), k, more) = cc
first_more b bytes (d ∷ ds) no_token ([], lead, body, rest, is, g, inr l, k, more) = ([], lead, body, rest, is, tt, inr l, k, more)
first_more b bytes (d ∷ ds) no_token (x ∷ gap, lead, body, rest, is, g, l, k, more) =
    (x ∷ gap, lead, body, rest, is, ((λ m. first_none m), g.1), l, k, more)
  where
    first_none : Begins true (x ∷ (gap ++ (lead ++ body))) → ⊥
    first_none (begin, c, tail, inr m, t, e) = g.0 (begin, c, tail, inr m, t, e)
    first_none (begin, c, tail, inl (r, h), t, e) = differ (sym no_token ∙ ap is_token (ap first (is ∙ e ∙ ap (λ l. l ++ c ∷ tail) h)) ∙ t)

line_holds : (b : ℕ) (bytes : List ℕ) (t : Bool) → is_token b ≡ t → HoldsDirectives (b ∷ bytes) (walk 0 t (b ∷ bytes))
line_holds b bytes true e =
    let P : List Written → Type 0 = λ ds. HoldsDirectives (b ∷ bytes) ds in
    subst P (sym (walk_token b bytes e))
    ([], [], b ∷ bytes, drop (written_len (written_at (b ∷ bytes))) (b ∷ bytes), refl, tt, inl (refl, refl), directive_at b bytes e, rest_reads)
  where
    rest_reads : Reads false (drop (written_len (written_at (b ∷ bytes))) (b ∷ bytes)) (walk 0 false (drop (written_len (written_at (b ∷ bytes))) (b ∷ bytes)))
    rest_reads = (walk_reads (drop (written_len (written_at (b ∷ bytes))) (b ∷ bytes))).0 false
line_holds b bytes false e = first_more b bytes (walk 0 false (b ∷ bytes)) e ((walk_reads (b ∷ bytes)).0 false)

pub directives_hold : (line : List ℕ) → HoldsDirectives line (directives line)
directives_hold [] = tt
directives_hold (b ∷ bytes) = line_holds b bytes (is_token b) refl

pub found_holds : (line : List ℕ) (ds : List Written) → ds ≡ directives line → HoldsDirectives line ds
found_holds line ds e = subst (HoldsDirectives line) (sym e) (directives_hold line)
