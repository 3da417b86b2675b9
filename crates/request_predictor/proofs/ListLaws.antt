-- A key's list, as it was read and as it was written back.
use Rattle.std.proofs.Common.{◌≡◌, ◌<◌, ◌∙◌, ℕ, List, length, get_or, set, Option, Some, None, IfSome, ap, sym, refl, Bool, true, false}
use Rattle.std.specs.Prelude.{slice_get, not, is_some, is_none}
use Rattle.std.specs.Map.{lookup}
use Rattle.std.proofs.lemmas.Option.{slice_get_read}
use Rattle.cache_heads.specs.declared.reason.NoCacheReason.{NoCacheReason}
use Rattle.request_predictor.specs.Reasons.{Marked, Predictions, same_key, list_number, reason_in, changed_at, changed, listed_reason}

abbrev pub of_lists : {P : Type 0} → List Marked → Option P → Predictions P
of_lists lists skipped = record { lists = lists; skipped = skipped }

pub told_reason : (told kept : Option NoCacheReason) → told ≡ kept → IfSome told (λ r. kept ≡ Some r)
told_reason None kept e = tt
told_reason (Some r) kept e = sym e

pub none_if : {X : Type 0} (o : Option X) (b : Bool) → is_some o ≡ not b → b ≡ is_none o
none_if None true e = refl
none_if None false e = absurd cc
none_if (Some x) true e = absurd cc
none_if (Some x) false e = refl

-- a key's list, by its number
list_there : (n i : ℕ) (key : List ℕ) (lists : List Marked) (list : Marked) → i ≡ list_number n key → i < n → length lists ≡ n → list ≡ get_or lists i list
    → slice_get lists (list_number n key) ≡ Some list
list_there n i key lists list e l c r = ap (λ j. slice_get lists j) (sym e) ∙ slice_get_read lists n i list (sym c) l r

-- what is looked up in the list is the key's reason
pub looked_up : {P : Type 0} (n i : ℕ) (found key : List ℕ) (lists : List Marked) (skipped : Option P) (list : Marked)
    → found ≡ key → i ≡ list_number n found → i < n → length lists ≡ n → list ≡ get_or lists i list
    → lookup (same_key found) list.entries ≡ listed_reason n key (of_lists lists skipped)
looked_up n i found key lists skipped list k e l c r =
    sym (ap (reason_in found) (list_there n i found lists list e l c r)) ∙ ap (λ x. listed_reason n x (of_lists lists skipped)) k

-- the list is written back, changed
pub written_back : {P : Type 0} (n i : ℕ) (found key : List ℕ) (lists : List Marked) (skipped : Option P) (list now : Marked) (change : List ℕ → Marked → Marked)
    → found ≡ key → i ≡ list_number n found → i < n → length lists ≡ n → list ≡ get_or lists i list → now ≡ change found list
    → of_lists (set lists i now) skipped ≡ of_lists (changed (change key) (list_number n key) lists) skipped
written_back n i found key lists skipped list now change k e l c r w =
    let there : slice_get lists (list_number n found) ≡ Some list = list_there n i found lists list e l c r in
    ap (λ x. of_lists x skipped) (ap (λ x. set lists i x) w ∙ ap (λ j. set lists j (change found list)) e ∙ sym (ap (changed_at (change found) (list_number n found) lists) there))
    ∙ ap (λ x. of_lists (changed (change x) (list_number n x) lists) skipped) k
