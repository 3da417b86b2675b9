-- The table of the open requests, as a finite map.
use Rattle.std.proofs.Common.{◌≡◌, ◌↔◌, ◌∙◌, ℕ, List, [], ◌∷◌, length, Some, None, Bool, true, false, cond, sym, refl, ap, arith}
use Rattle.std.specs.Prelude.{◌==◌, nat_eq, option_map, Result, Ok, Err, OnOk, OnErr}
use Rattle.std.specs.FinMap.{FinMap, from_entries, empty_of_len, get, insert, get-empty, get-insert, len, len-empty, same_map, nat_cmp-IsAntisymmetric}
use Rattle.std.specs.Ordering.{nat_cmp}
use Rattle.std.specs.Cmp.{unsigned_tied}
use Rattle.std.proofs.lemmas.Cmp.{nat_cmp_total, eq_by_cmp_equiv}
use Rattle.std.proofs.lemmas.Bool.{eqb-true}
use Rattle.std.proofs.lemmas.Bool.Decides.{nat_tests}
use Rattle.std.specs.Map.{lookup, set_value}
use Rattle.tier_model.specs.State.{Request}
use Rattle.tier_model.specs.Checks.{can_begin, can_revalidate}
use Rattle.tier_model.proofs.Tables.{get-table, set-table}
use Rattle.tier_requests.specs.Rows.{OnOpen}

abbrev pub map_of : List (ℕ × Request) → FinMap nat_cmp Request
map_of es = from_entries es

itself : (n : ℕ) → nat_eq n n ≡ true
itself n = grind (arith, nat_tests)

-- a map of entries is empty where there are none
pub same-none : (es : List (ℕ × Request)) → (length es ≡ 0) ↔ (len (map_of es) ≡ 0)
same-none [] = ((λ e. len-empty nat_cmp Request), (λ e. refl))
same-none (x ∷ xs) = (
  (λ e. absurd (omega (arith, e))),
  λ e.
      let found : get (map_of (x ∷ xs)) x.0 ≡ Some x.1 = get-table (x ∷ xs) x.0 ∙ ap (λ (v : Bool). cond v (Some x.1) (lookup (nat_eq x.0) xs)) (itself x.0) in
      let none : get (map_of (x ∷ xs)) x.0 ≡ None = ap (λ m. get m x.0) (empty_of_len (map_of (x ∷ xs)) e) ∙ get-empty nat_cmp x.0 in
      absurd (let never : Some x.1 ≡ None = sym found ∙ none in cc),
)

-- an event of a request that is open, which is written back in its place
pub on-open : (es new : List (ℕ × Request)) (id : ℕ) (q left : Request) (none : Type 0) (row : Request → Request → Type 0)
    → lookup (nat_eq id) es ≡ Some q → new ≡ set_value (nat_eq id) es left → row q left → OnOpen id (map_of es) none row (map_of new)
on-open es new id q left none row there wrote h = rw (get-table es id, there) (left, h, ap map_of wrote ∙ set-table es id q left there)

-- an event of a request that isn't open
pub on-none : (es : List (ℕ × Request)) (id : ℕ) (none : Type 0) (row : Request → Request → Type 0) → lookup (nat_eq id) es ≡ None → none → OnOpen id (map_of es) none row (map_of es)
on-none es id none row absent h = rw (get-table es id, absent) (h, refl)

-- an open request passes a test
abbrev pub Passes : (Request → Bool) → List (ℕ × Request) → ℕ → Type 0
Passes test es id = option_map test (get (map_of es) id) ≡ Some true

pub open-passes : (test : Request → Bool) (es : List (ℕ × Request)) (id : ℕ) (q : Request) → lookup (nat_eq id) es ≡ Some q → Passes test es id → test q ≡ true
open-passes test es id q there may =
    let is : Some (test q) ≡ Some true = sym (ap (option_map test) (get-table es id ∙ there)) ∙ may in
    cc

pub none-passes : (test : Request → Bool) (es : List (ℕ × Request)) (id : ℕ) → lookup (nat_eq id) es ≡ None → Passes test es id → ⊥
none-passes test es id absent may =
    let is : None ≡ Some true = sym (ap (option_map test) (get-table es id ∙ absent)) ∙ may in
    absurd cc

-- it may begin a write, or give it up; what it found may be confirmed
abbrev pub begins_now : Request → Bool
begins_now q = can_begin q.phase q.gave_read

abbrev pub renews_now : Request → Bool
renews_now q = can_revalidate q.phase q.gave_read

pub ok-map : {A E P Q : Type 0} (r : Result A E) → OnOk r P → (P → Q) → OnOk r Q
ok-map (Ok x) p f = f p
ok-map (Err e) p f = tt

pub err-map : {A E P Q : Type 0} (r : Result A E) → OnErr r P → (P → Q) → OnErr r Q
err-map (Ok x) p f = tt
err-map (Err e) p f = f p

-- what is put where it is changes nothing
insert_same : (m : FinMap nat_cmp Request) (k : ℕ) (q : Request) → get m k ≡ Some q → insert m k q ≡ m
insert_same m k q there =
    same_map nat_cmp_total nat_cmp-IsAntisymmetric (insert m k q) m
    (λ j. get-insert nat_cmp_total m k q j ∙ ap (λ t. cond t (Some q) (get m j)) ((eq_by_cmp_equiv nat_cmp_total).symm j k ∙ unsigned_tied k j) ∙ by_key j (k == j) refl)
  where
    by_key : (j : ℕ) (t : Bool) → (k == j) ≡ t → cond t (Some q) (get m j) ≡ get m j
    by_key j true e = sym there ∙ ap (get m) (eqb-true k j e)
    by_key j false e = refl

-- a request that is written back as it was
pub put-same : (es new : List (ℕ × Request)) (id : ℕ) (q left : Request) → lookup (nat_eq id) es ≡ Some q → new ≡ set_value (nat_eq id) es left → left ≡ q → map_of new ≡ map_of es
put-same es new id q left there wrote same = ap map_of wrote ∙ set-table es id q left there ∙ ap (insert (map_of es) id) same ∙ insert_same (map_of es) id q (get-table es id ∙ there)
