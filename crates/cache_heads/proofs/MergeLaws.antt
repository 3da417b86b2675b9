-- Values that are appended one by one.
use Rattle.std.proofs.Common.{rules, ◌≡◌, ℕ, ◌+◌, ◌≤◌, ◌<◌, ◌^◌, ◌⊎◌, inl, inr, refl, ap, sym, subst, ◌∙◌, List, [], ◌∷◌, ◌++◌, length, Option, Some, None, MatchOption, true, false, arith, length-append}
use Rattle.std.specs.Prelude.{Bool, bytes_eq, if◌then◌else◌}
use Rattle.std.proofs.lemmas.Bool.{cases_Bool}
use Rattle.std.proofs.lemmas.List.Sums.{sum_by-cons, sum_by-append}
use Rattle.http_header.specs.HeaderMap.{Entry, Entries, update, append, get_all, index_of, value_count, RefusesInsert, RefusesAppend}
use Rattle.http_header.specs.Places.{IsAt, IsAbsent}
use Rattle.http_header.proofs.HeaderMapLemmas.{get_all-update_same}
use Rattle.http_header.proofs.PlacesLemmas.{index_of_cases}
use Rattle.cache_heads.specs.Merged.{PassesCount, with_values}

itself : (name : List ℕ) → bytes_eq name name ≡ true
itself name = search rules

-- one more behind those that were put
pub append-more : {X : Type 0} (name : List ℕ) (xs : List X) (v : X) (m : Entries X) → append (update m name (λ _. xs)) name v ≡ update m name (λ _. xs ++ v ∷ [])
append-more {X} name xs v [] = ap (λ (b : Bool). if b then (name, xs ++ v ∷ []) ∷ [] else (name, xs) ∷ (name, v ∷ []) ∷ []) (itself name)
append-more {X} name xs v (e ∷ m) = by_test (bytes_eq e.0 name) refl (append-more name xs v m)
  where
    by_test : (b : Bool) → bytes_eq e.0 name ≡ b → append (update m name (λ _. xs)) name v ≡ update m name (λ _. xs ++ v ∷ [])
        → append (if b then (e.0, xs) ∷ m else e ∷ update m name (λ _. xs)) name v ≡ (if b then (e.0, xs ++ v ∷ []) ∷ m else e ∷ update m name (λ _. xs ++ v ∷ []))
    by_test true t ih = ap (λ (c : Bool). if c then (e.0, xs ++ v ∷ []) ∷ m else (e.0, xs) ∷ append m name v) t
    by_test false t ih = ap (λ (c : Bool). if c then (e.0, e.1 ++ v ∷ []) ∷ update m name (λ _. xs) else e ∷ append (update m name (λ _. xs)) name v) t ∙ ap (λ (l : Entries X). e ∷ l) ih

-- what comes next goes behind what was put
pub more-behind : {X : Type 0} (xs : List X) (v : X) (ys zs : List X) → zs ≡ v ∷ ys → xs ++ zs ≡ (xs ++ v ∷ []) ++ ys
more-behind [] v ys zs e = e
more-behind (x ∷ xs) v ys zs e = ap (λ l. x ∷ l) (more-behind xs v ys zs e)

pub none-behind : {X : Type 0} (xs zs : List X) → zs ≡ [] → xs ++ zs ≡ xs
none-behind [] zs e = e
none-behind (x ∷ xs) zs e = ap (λ l. x ∷ l) (none-behind xs zs e)

-- ---- what a map can count

-- other values in the place of those that were put
more-values : {X : Type 0} (name : List ℕ) (xs ys : List X) (m : Entries X) → value_count (update m name (λ _. ys)) + length xs ≡ value_count (update m name (λ _. xs)) + length ys
more-values {X} name xs ys [] =
    let values : Entry X → ℕ = λ e. length e.1 in
    omega (arith, sum_by-cons values (name, ys) [], sum_by-cons values (name, xs) [])
more-values {X} name xs ys (e ∷ m) =
    let values : Entry X → ℕ = λ x. length x.1 in
    elim (cases_Bool (bytes_eq e.0 name)) [
      | inl t ↦ rw t (omega (arith, sum_by-cons values (e.0, ys) m, sum_by-cons values (e.0, xs) m))
      | inr n ↦ rw n (omega (arith, sum_by-cons values e (update m name (λ _. ys)), sum_by-cons values e (update m name (λ _. xs)), more-values name xs ys m))
    ]

-- a new name for which there is no room
no-room-for : {X : Type 0} (m : Entries X) (name : List ℕ) (v : X) (vs : List X) → RefusesInsert m name → PassesCount (update m name (λ _. v ∷ vs))
no-room-for {X} m name v vs refused = by (index_of m name) (index_of_cases m name)
  where
    by : (o : Option ℕ) → MatchOption o (IsAbsent m name) (IsAt m name) → PassesCount (update m name (λ _. v ∷ vs))
    by (Some i) x = absurd (refused.0 x.contains)
    by None x =
        let values : Entry X → ℕ = λ e. length e.1 in
        let last : Entries X = (name, v ∷ vs) ∷ [] in
        let passes : PassesCount (m ++ last) = elim refused.1 [
          | inl names ↦ inl (omega (arith, length-append m last))
          | inr full ↦ inr (omega (arith, sum_by-append values m last, sum_by-cons values (name, v ∷ vs) []))
        ] in
        subst (λ (l : Entries X). PassesCount l) (sym (x.updates (λ _. v ∷ vs))) passes

-- one more value for which there is no room behind those that were put
no-room-behind : {X : Type 0} (m : Entries X) (name : List ℕ) (x : X) (xs : List X) (v : X) (vs : List X)
    → RefusesAppend (update m name (λ _. x ∷ xs)) name → PassesCount (update m name (λ _. x ∷ xs ++ v ∷ vs))
no-room-behind {X} m name x xs v vs (inl full) =
    inr (omega (arith, full, more-values name (x ∷ xs) (x ∷ xs ++ v ∷ vs) m, length-append (x ∷ xs) (v ∷ vs)))
no-room-behind {X} m name x xs v vs (inr new) = by (index_of (update m name (λ _. x ∷ xs)) name) (index_of_cases (update m name (λ _. x ∷ xs)) name)
  where
    put : Entries X
    put = update m name (λ _. x ∷ xs)

    by : (o : Option ℕ) → MatchOption o (IsAbsent put name) (IsAt put name) → PassesCount (update m name (λ _. x ∷ xs ++ v ∷ vs))
    by (Some i) at = absurd (new.0 at.contains)
    by None gone =
        let none : x ∷ xs ≡ [] = sym (get_all-update_same m name (λ _. x ∷ xs)) ∙ gone.values in
        absurd cc

-- the same of what was sent, whose first value doesn't fit, or one more
pub first-passes : {X : Type 0} (m : Entries X) (name : List ℕ) (v : X) (vs all : List X) → all ≡ v ∷ vs → RefusesInsert m name → PassesCount (with_values name all m)
first-passes {X} m name v vs all e refused = subst (λ (l : List X). PassesCount (with_values name l m)) (sym e) (no-room-for m name v vs refused)

pub more-passes : {X : Type 0} (m h : Entries X) (name : List ℕ) (x : X) (xs : List X) (v : X) (vs all : List X) → all ≡ x ∷ xs ++ v ∷ vs → h ≡ update m name (λ _. x ∷ xs)
    → RefusesAppend h name → PassesCount (with_values name all m)
more-passes {X} m h name x xs v vs all e put refused =
    subst (λ (l : List X). PassesCount (with_values name l m)) (sym e) (no-room-behind m name x xs v vs (subst (λ (k : Entries X). RefusesAppend k name) put refused))

-- the same of an equal map
pub passes-as : {X : Type 0} (name : List ℕ) (vs : List X) (a b : Entries X) → a ≡ b → PassesCount (with_values name vs a) → PassesCount (with_values name vs b)
passes-as {X} name vs a b e passes = subst (λ (m : Entries X). PassesCount (with_values name vs m)) e passes
