-- Uses of what is stored, and answers from it.
use Rattle.std.proofs.Common.{◌≡◌, ℕ, List, [], ◌∷◌, refl, Bool, true, false, not, ◌&&◌, ◌||◌, ◌==◌, ◌+◌, cond, codes, arith}
use Rattle.std.specs.Prelude.{ℤ, pos, negsuc, ◌+ℤ◌, int_lt, Option, Some, None, is_some, unwrap_or}
use Rattle.std.specs.Option.{option_map_or}
use Rattle.std.proofs.lemmas.Bool.{lt-ltb, ltb-true}
use Rattle.rules_fields.specs.Rows.{first_true}
use Rattle.rules_fields.specs.Types.{Asked, KeptHead, Chosen}
use Rattle.rules_reuse.specs.declared.using.Use.TheVariants.{Pass, Validate, Fresh, Stale, Meanwhile}
use Rattle.rules_fields.specs.Asking.{seconds_under}
use Rattle.rules_reuse.specs.Planning.{asked_directives, is_reload}
use Rattle.rules_storage.specs.Good.{is_late_by}
use Rattle.rules_reuse.specs.Using.{is_closed, must_validate, is_older, is_fresh_for, most_late, use_of}
use Rattle.rules_response.specs.Matching.{matches}
use Rattle.rules_response.specs.Reply.{Reply}
use Rattle.rules_response.specs.Answering.{known_length, chosen_parts, not_modified, answer_with, by_parts, answer_of}

pub fresh_row : (a b c d e f : Bool) → unwrap_or (first_true ((Pass, a) ∷ (Validate, b) ∷ (Fresh, c) ∷ (Validate, d) ∷ (Stale, e) ∷ (Meanwhile, f) ∷ [])) Validate ≡ Fresh → c ≡ true
fresh_row true b c d e f h = cc
fresh_row false true c d e f h = cc
fresh_row false false true d e f h = refl
fresh_row false false false true e f h = cc
fresh_row false false false false true f h = cc
fresh_row false false false false false true h = cc
fresh_row false false false false false false h = cc

pub stale_row : (a b c d e f : Bool) → unwrap_or (first_true ((Pass, a) ∷ (Validate, b) ∷ (Fresh, c) ∷ (Validate, d) ∷ (Stale, e) ∷ (Meanwhile, f) ∷ [])) Validate ≡ Stale → e ≡ true
stale_row true b c d e f h = cc
stale_row false true c d e f h = cc
stale_row false false true d e f h = cc
stale_row false false false true e f h = cc
stale_row false false false false true f h = refl
stale_row false false false false false true h = cc
stale_row false false false false false false h = cc

pub allowed : (a b : Bool) → (a && not b) ≡ true → b ≡ false
allowed true true h = cc
allowed false true h = cc
allowed a false h = refl

-- what is used though it's stale need not be validated
pub stale_use : (request : Asked) (kept : KeptHead) (now : ℕ) (o : Chosen) → use_of request kept now o ≡ Stale → must_validate kept o ≡ false
stale_use request kept now o h =
    let ds = asked_directives request o in
    let late = option_map_or (λ n. is_late_by kept now n) (most_late ds) false in
    allowed late (must_validate kept o)
    (stale_row (is_closed request kept o) (is_reload request o || is_older kept now (seconds_under (codes "max-age") ds))
    (is_fresh_for kept now (unwrap_or (seconds_under (codes "min-fresh") ds) 0)) (is_some (seconds_under (codes "min-fresh") ds))
    (late && not (must_validate kept o)) (is_late_by kept now kept.stale_while_revalidate && not (kept.stale_while_revalidate == 0)) h)

-- what is fresh for some more seconds is fresh
pub fresh_now : (a : ℤ) (more most : ℕ) → int_lt (a +ℤ pos more) (pos most) ≡ true → int_lt a (pos most) ≡ true
fresh_now (pos a) more most h = lt-ltb a most (omega (arith, ltb-true (a + more) most h))
fresh_now (negsuc a) more most h = refl

-- no part and no whole is told as 304, unless that is what is stored
pub parts_status : (ps : List (ℕ × ℕ)) (kept : KeptHead) (n now : ℕ) (boundary : List ℕ) (how : List (List ℕ)) (o : Chosen) → (by_parts ps kept n now boundary how o).status ≡ 304 → kept.status ≡ 304
parts_status [] kept n now boundary how o h = let never : 416 ≡ 304 = h in grind (arith, never)
parts_status (p ∷ []) kept n now boundary how o h = let never : 206 ≡ 304 = h in grind (arith, never)
parts_status (p ∷ q ∷ ps) kept n now boundary how o h = let never : 206 ≡ 304 = h in grind (arith, never)

pub other_status : (parts : Option (List (ℕ × ℕ))) (request : Asked) (kept : KeptHead) (n : Option ℕ) (now : ℕ) (boundary : Option (List ℕ)) (how : List (List ℕ)) (o : Chosen)
    → (answer_with parts request kept n now boundary how o).status ≡ 304 → kept.status ≡ 304
other_status None request kept n now boundary how o h = h
other_status (Some ps) request kept n now boundary how o h = parts_status ps kept (unwrap_or n 0) now (unwrap_or boundary []) how o h

not_first : (m : Bool) (a b : Reply) → m ≡ false → (cond m a b).status ≡ 304 → b.status ≡ 304
not_first true a b h e = cc
not_first false a b h e = e

-- what doesn't match isn't told as 304, unless that is what is stored
pub unmatched_status : (request : Asked) (kept : KeptHead) (length : Option ℕ) (now : ℕ) (boundary : Option (List ℕ)) (how : List (List ℕ)) (o : Chosen) → matches request kept ≡ false
    → (answer_of request kept length now boundary how o).status ≡ 304 → kept.status ≡ 304
unmatched_status request kept length now boundary how o h e =
    let n = known_length length kept in
    let parts = chosen_parts request kept n (is_some boundary) o in
    other_status parts request kept n now boundary how o (not_first (matches request kept) (not_modified kept now how o) (answer_with parts request kept n now boundary how o) h e)
