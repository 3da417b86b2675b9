-- What an iterator over the slots of rows shows, and calls at each pair in turn.
use Rattle.std.proofs.Common.{◌≡◌, ℕ, zero, suc, true, List, [], ◌∷◌, ◌++◌, ◌<◌, length, map, get_or, Option, Some, None, IsSome, sym, refl, ap, ◌∙◌, arith, slice_get}
use Rattle.std.specs.List.{All}
use Rattle.std.specs.Option.{option_and_then, option_map}
use Rattle.std.proofs.lemmas.Bool.{false≢true}
use Rattle.std.proofs.lemmas.List.{get_or-map}
use Rattle.std.proofs.lemmas.List.Elements.{filter_map-append}
use Rattle.lru_list.specs.Slots.{has, listed}
use Rattle.lru_list.proofs.Indexes.{has_here, has_rest}
use Rattle.lru_core.specs.declared.rows.Row.{Row}
use Rattle.lru_core.specs.Rows.{Shard, pair_of, pairs_of, pairs_in}
use Rattle.lru_core.specs.Cores.{rows_at}
use Rattle.lru_core.specs.Tables.{row_at, rows_of}

module _ {T : Type 0} where
  full_slot : (items : List (Option (Row T))) (i : ℕ) (r : Row T) → row_at items i ≡ Some r → slice_get items i ≡ Some (Some r)
  full_slot items i r e = elim (slice_get items i) as (λ o. option_and_then (λ o. o) o ≡ Some r → o ≡ Some (Some r)) [
    | None ↦ λ f. absurd (cc f)
    | Some o ↦ λ f. ap Some f
  ] e

  -- where each index has a row, the slots of an order are its rows
  pub slots_full : (items : List (Option (Row T))) (is : List ℕ) → ((j : ℕ) → has is j ≡ true → (r : Row T) × (row_at items j ≡ Some r))
      → listed items is ≡ map (λ r. Some r) (rows_of items is)
  slots_full items [] a = refl
  slots_full items (x ∷ is) a =
      let r = a x (has_here x is) in
      rw (full_slot items x r.0 r.1) (ap (λ l. Some r.0 ∷ l) (slots_full items is (λ j h. a j (has_rest x is j h))))

  pub all_full : (rows : List (Row T)) → All IsSome (map {A = Row T} {B = Option (Row T)} (λ r. Some r) rows)
  all_full [] k d l = absurd (omega arith)
  all_full (r ∷ rows) zero d l = refl
  all_full (r ∷ rows) (suc k) d l = all_full rows k d (omega arith)

  pub rest_full : (s : Option (Row T)) (slots : List (Option (Row T))) → All IsSome (s ∷ slots) → All IsSome slots
  rest_full s slots a k d l = a (suc k) d (omega arith)

  pub pairs_full : (rows : List (Row T)) → pairs_in (map {A = Row T} {B = Option (Row T)} (λ r. Some r) rows) ≡ pairs_of rows
  pairs_full [] = refl
  pairs_full (r ∷ rows) = ap (λ l. pair_of r ∷ l) (pairs_full rows)

  pub length-pairs_in : (slots : List (Option (Row T))) → All IsSome slots → length (pairs_in slots) ≡ length slots
  length-pairs_in [] a = refl
  length-pairs_in (None ∷ slots) a = absurd (false≢true (a 0 None (omega arith)))
  length-pairs_in (Some r ∷ slots) a = ap suc (length-pairs_in slots (rest_full (Some r) slots a))

  pub first_pair : (s : Option (Row T)) (slots : List (Option (Row T))) (r : Row T) → s ≡ Some r → pairs_in (s ∷ slots) ≡ pair_of r ∷ pairs_in slots
  first_pair s slots r e = rw e refl

  pub last_pair : (s : Option (Row T)) (slots : List (Option (Row T))) (r : Row T) → s ≡ Some r → pairs_in (slots ++ s ∷ []) ≡ pairs_in slots ++ pair_of r ∷ []
  last_pair s slots r e = filter_map-append (option_map pair_of) slots (s ∷ []) ∙ ap (λ l. pairs_in slots ++ l) (first_pair s [] r e)

  -- the rows of a shard that was read
  pub rows_there : (units : List (Shard T)) (i : ℕ) (u : Shard T) → i < length units → u ≡ get_or units i u → rows_at (map (λ v. v.rows) units) i ≡ u.rows
  rows_there units i u l e = get_or-map (λ v. v.rows) units i u [] l ∙ ap (λ v. v.rows) (sym e)
