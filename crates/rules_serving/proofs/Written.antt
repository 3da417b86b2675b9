-- The text that is written at once is the head of the answer with the whole.
use Rattle.std.proofs.Common.{◌≡◌, ℕ, ◌==◌, List, [], ◌∷◌, ◌++◌, refl, ap, ◌∙◌, append_assoc, Bool, true, false, not, ◌&&◌, cond, codes, map}
use Rattle.std.specs.Prelude.{Option, Some, None, option_map, is_some, find, filter}
use Rattle.std.proofs.lemmas.List.{append-nil}
use Rattle.rules_fields.specs.Fields.{Field, is_named, all, has_line, without}
use Rattle.rules_fields.specs.Types.{KeptHead, Chosen}
use Rattle.rules_storage.specs.Kept.{with_length}
use Rattle.rules_response.specs.Lines.{cache_status, age_seconds, age_line, sent}
use Rattle.rules_response.specs.Answering.{own, accepts, accepts_line, length_sent}
use Rattle.rules_ffi_arguments.specs.Given.{◌>>=◌}
use Rattle.rules_ffi_arguments.specs.Rooms.{line_text, block}
use Rattle.rules_ffi_arguments.specs.Spans.{block_lines}
use Rattle.rules_ffi_results.specs.Heads.{status_line, counted, length_line, ending}
use Rattle.rules_ffi_results.proofs.Stated.{block_of_more, block_with_length}
use Rattle.rules_serving.proofs.Copied.{said_of}
use Rattle.rules_serving.specs.Whole.{plain, plain_lines, with_text, behind, copied_of, over, told_each, whole_lines}

-- a Cache-Status of the own element alone
pub status_written : (t0 t1 t2 t3 t4 : List ℕ) (how : List (List ℕ)) (o : Chosen) → t1 ≡ t0 ++ codes "Cache-Status: " → t2 ≡ t1 ++ o.name → t3 ≡ t2 ++ told_each how → t4 ≡ t3 ++ (13 ∷ 10 ∷ [])
    → t4 ≡ t0 ++ line_text (cache_status [] how o)
status_written t0 t1 t2 t3 t4 how o e1 e2 e3 e4 =
    rw (e4, e3, e2, e1) (simp (append-nil, append_assoc) refl)

-- a name without a line has no value
pub none_named : (name : List ℕ) (lines : List Field) → has_line name lines ≡ false → all name lines ≡ []
none_named name [] h = refl
none_named name (f ∷ lines) h = go (is_named name f) h (λ k. none_named name lines k)
  where
    go : (t : Bool) → is_some (option_map (λ (g : Field). g.1) (cond t (Some f) (find (is_named name) lines))) ≡ false → (has_line name lines ≡ false → all name lines ≡ [])
        → map (λ (g : Field). g.1) (cond t (f ∷ filter (is_named name) lines) (filter (is_named name) lines)) ≡ []
    go true k ih = cc
    go false k ih = ih k

-- the own lines behind the stored ones
own_block : (rest : List Field) (age status : Field) (says : List Field) (n : Option ℕ)
    → block ((rest ++ (age ∷ says ++ with_length n)) ++ (status ∷ [])) ≡ (((block rest ++ line_text age) ++ block says) ++ length_line n) ++ line_text status
own_block rest age status says n =
    block_of_more (rest ++ (age ∷ says ++ with_length n)) (status ∷ [])
    ∙ ap (λ (t : List ℕ). block (rest ++ (age ∷ says ++ with_length n)) ++ t) (append-nil (line_text status))
    ∙ ap (λ (t : List ℕ). t ++ line_text status)
    (block_of_more rest (age ∷ says ++ with_length n) ∙ ap (λ (t : List ℕ). block rest ++ (line_text age ++ t)) (block_with_length says n)
    ∙ four (block rest) (line_text age) (block says) (length_line n))
  where
    four : (a b c d : List ℕ) → a ++ (b ++ (c ++ d)) ≡ ((a ++ b) ++ c) ++ d
    four a b c d = simp append_assoc refl

-- a head that is written at once
head_is : (status rest end age says length cs whole : List ℕ) → whole ≡ (((rest ++ age) ++ says) ++ length) ++ cs
    → (((((status ++ rest) ++ age) ++ says) ++ length) ++ cs) ++ end ≡ status ++ whole ++ end
head_is status rest end age says length cs whole e = rw e (simp append_assoc refl)

-- the same, by each text
head_written : (t1 t2 t3 t4 t5 t6 t7 : List ℕ) (kept : KeptHead) (length now : ℕ) (how : List (List ℕ)) (o : Chosen) (form : ℕ) (closes : Bool)
    → t1 ≡ status_line kept.status → t2 ≡ t1 ++ block (without own kept.lines) → t3 ≡ t2 ++ counted (codes "Age") (age_seconds kept.arrival now)
    → t4 ≡ t3 ++ block (accepts kept (Some length))
    → t5 ≡ t4 ++ length_line (length_sent kept.status (Some length)) → t6 ≡ t5 ++ line_text (cache_status [] how o) → t7 ≡ t6 ++ ending form closes
    → has_line (codes "cache-status") kept.lines ≡ false
    → t7 ≡ status_line kept.status ++ block (sent own kept.lines (whole_lines kept length now) how o) ++ ending form closes
head_written t1 t2 t3 t4 t5 t6 t7 kept length now how o form closes e1 e2 e3 e4 e5 e6 e7 none =
    let rest = without own kept.lines in
    let age = age_line kept.arrival now in
    let says = accepts kept (Some length) in
    let n = length_sent kept.status (Some length) in
    let cs = cache_status [] how o in
    rw (e7, e6, e5, e4, e3, e2, e1)
    (head_is (status_line kept.status) (block rest) (ending form closes) (line_text age) (block says) (length_line n) (line_text cs)
    (block (sent own kept.lines (whole_lines kept length now) how o))
    (ap (λ (vs : List (List ℕ)). block ((rest ++ whole_lines kept length now) ++ (cache_status vs how o ∷ []))) (none_named (codes "cache-status") kept.lines none)
    ∙ own_block rest age cs says n))

and_known : (a b : Bool) → (a && b) ≡ (a && true && b)
and_known true b = refl
and_known false b = refl

-- the whole text, where the stored rows were written
pub text_written : (t1 t2 t3 t4 t5 t6 t7 lines : List ℕ) (kept : KeptHead) (length now : ℕ) (how : List (List ℕ)) (o : Chosen) (form : ℕ) (closes says : Bool)
    → t1 ≡ status_line kept.status → Some (with_text t2 says) ≡ option_map (behind t1) (option_map copied_of (plain_lines lines))
    → t3 ≡ t2 ++ counted (codes "Age") (age_seconds kept.arrival now) → t4 ≡ t3 ++ block (accepts_line (kept.status == 200 && not says))
    → t5 ≡ t4 ++ length_line (length_sent kept.status (Some length)) → t6 ≡ t5 ++ line_text (cache_status [] how o) → t7 ≡ t6 ++ ending form closes
    → Some t7 ≡ option_map (λ (fs : List Field). status_line kept.status ++ block (sent own fs (whole_lines (over kept fs) length now) how o) ++ ending form closes) (plain_lines lines)
text_written t1 t2 t3 t4 t5 t6 t7 lines kept length now how o form closes says e1 e2 e3 e4 e5 e6 e7 = go (block_lines lines) e2
  where
    go : (b : Option (List Field)) → Some (with_text t2 says) ≡ option_map (behind t1) (option_map copied_of (b >>= plain))
        → Some t7 ≡ option_map (λ (fs : List Field). status_line kept.status ++ block (sent own fs (whole_lines (over kept fs) length now) how o) ++ ending form closes) (b >>= plain)
    go None h = cc
    go (Some fs) h = by (has_line (codes "cache-status") fs) refl h
      where
        by : (t : Bool) → has_line (codes "cache-status") fs ≡ t → Some (with_text t2 says) ≡ option_map (behind t1) (option_map copied_of (cond t None (Some fs)))
            → Some t7 ≡ option_map (λ (fs : List Field). status_line kept.status ++ block (sent own fs (whole_lines (over kept fs) length now) how o) ++ ending form closes) (cond t None (Some fs))
        by true k h = cc
        by false k h =
            let both = said_of t2 says (behind t1 (copied_of fs)) h in
            ap Some (head_written t1 t2 t3 t4 t5 t6 t7 (over kept fs) length now how o form closes e1 both.0 e3
            (e4 ∙ ap (λ (b : Bool). t3 ++ block (accepts_line b)) (ap (λ (b : Bool). kept.status == 200 && not b) both.1 ∙ and_known (kept.status == 200) _)) e5 e6 e7 k)

-- no text, where they weren't
pub text_unwritten : (t1 lines : List ℕ) (f : List Field → List ℕ) → None ≡ option_map (behind t1) (option_map copied_of (plain_lines lines)) → None ≡ option_map f (plain_lines lines)
text_unwritten t1 lines f h = go (plain_lines lines) h
  where
    go : (p : Option (List Field)) → None ≡ option_map (behind t1) (option_map copied_of p) → None ≡ option_map f p
    go None h = refl
    go (Some fs) h = cc
