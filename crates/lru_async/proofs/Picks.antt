-- Numbers of rows, and the shards that they count.
use Rattle.std.proofs.Common.{◌≡◌, ◌≢◌, ℕ, suc, List, [], length, map, sym, ap, refl, ◌∙◌}
use Rattle.std.specs.Prelude.{slice_index}
use Rattle.std.proofs.Math.ListN.{get_or-map}
use Rattle.std.proofs.lemmas.Bool.{ne_eqb}
use Rattle.lru_core.specs.declared.rows.Row.{Row}
use Rattle.lru_core.specs.Cores.{rows_at, next_of, first_nonempty_from}
use Rattle.lru_core.proofs.Circles.{first_nonempty_more}

-- the number of rows of shard i
pub counted : (lens : List ℕ) (i : ℕ) (shards : List (List (Row ℕ))) → map length shards ≡ lens → length (rows_at shards i) ≡ slice_index lens i
counted lens i shards e = sym (get_or-map length shards i []) ∙ ap (λ l. slice_index l i) e

-- a shard with rows is the first non-empty one from itself on
pub stops_here : (lens : List ℕ) (n m i k : ℕ) → k ≡ suc m → slice_index lens i ≢ 0 → (shards : List (List (Row ℕ))) → map length shards ≡ lens → first_nonempty_from n shards k i ≡ i
stops_here lens n m i k s d shards e = rw (s, ne_eqb (length (rows_at shards i)) 0 (λ z. d (sym (counted lens i shards e) ∙ z))) refl

-- an empty shard is passed over
pub passes_on : (lens : List ℕ) (n m i k : ℕ) → k ≡ suc m → slice_index lens i ≡ 0 → (shards : List (List (Row ℕ))) → map length shards ≡ lens → first_nonempty_from n shards m (next_of n i) ≡ first_nonempty_from n shards k i
passes_on lens n m i k s z shards e = first_nonempty_more n m i k shards s (counted lens i shards e ∙ z)
