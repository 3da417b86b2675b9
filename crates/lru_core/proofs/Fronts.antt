-- What evictions over one shard leave.
use Rattle.std.proofs.Common.{◌≡◌, ℕ, ◌+◌, ◌%◌, cond, Bool, true, false, inl, inr, List, [], ◌∷◌, ◌++◌, length, take, set, Option, sym, refl, ap, ◌∙◌, subst, arith}
use Rattle.std.proofs.lemmas.Bool.{cases_lt}
use Rattle.std.proofs.lemmas.List.{take_all, take-append-le, length_push}
use Rattle.std.proofs.lemmas.List.Sums.{sum_by-cons}
use Rattle.rand_core.specs.Stream.{Stream, next_u64}
use Rattle.lru_core.specs.declared.rows.Row.{Row}
use Rattle.lru_core.specs.Rows.{total_weight, a_row}
use Rattle.lru_core.specs.Cores.{Core, rows_at, core_weight, core_len, is_over, longer_of_two, first_nonempty_from, IsTail, IsStep, Evicts}
use Rattle.lru_core.specs.Fronts.{exceeds, IsLongestFront}

either_way : (b : Bool) (n : ℕ) → cond b n n ≡ n
either_way true n = refl
either_way false n = refl

pub modulo_one : (k : ℕ) → k % 1 ≡ 0
modulo_one k = omega arith

module _ {T : Type 0} where
  -- every draw names the one shard
  pub one_place : (shards : List (List (Row T))) (a b : ℕ) → first_nonempty_from 1 shards 1 (longer_of_two shards (a % 1) (b % 1)) ≡ 0
  one_place shards a b =
      let first : longer_of_two shards (a % 1) (b % 1) ≡ 0 = rw (modulo_one a, modulo_one b) (either_way _ 0) in
      ap (first_nonempty_from 1 shards 1) first ∙ either_way _ 0

  -- the sums of one shard
  single_weight : (shards : List (List (Row T))) → shards ≡ rows_at shards 0 ∷ [] → core_weight shards ≡ total_weight (rows_at shards 0)
  single_weight shards e = ap core_weight e ∙ (sum_by-cons total_weight (rows_at shards 0) [] ∙ omega arith)

  single_len : (shards : List (List (Row T))) → shards ≡ rows_at shards 0 ∷ [] → core_len shards ≡ length (rows_at shards 0)
  single_len shards e = ap core_len e ∙ (sum_by-cons length (rows_at shards 0) [] ∙ omega arith)

  single_over : (core : Core T) → core.shards ≡ rows_at core.shards 0 ∷ [] → is_over core ≡ exceeds core.limit core.watermark (rows_at core.shards 0)
  single_over core e = rw (single_weight core.shards e, single_len core.shards e) refl

  -- a list of length 1 is its first
  pub single : (shards : List (List (Row T))) → length shards ≡ 1 → shards ≡ rows_at shards 0 ∷ []
  single [] e = absurd (omega arith)
  single (rows ∷ []) e = refl
  single (rows ∷ (more ∷ rest)) e = absurd (omega arith)

  -- what one step leaves
  record IsGone (old new : Core T) : Type 0 where
    single : new.shards ≡ rows_at new.shards 0 ∷ []
    limit : new.limit ≡ old.limit
    marked : new.watermark ≡ old.watermark
    row : Row T
    last : rows_at old.shards 0 ≡ rows_at new.shards 0 ++ row ∷ []
    over : exceeds old.limit old.watermark (rows_at old.shards 0) ≡ true

  gone : (old new : Core T) (a b : ℕ) (pair : T × ℕ) → old.shards ≡ rows_at old.shards 0 ∷ [] → IsStep 1 old a b pair new → IsGone old new
  gone old new a b pair one step =
      let tail : IsTail old.shards new.shards 0 pair = subst (λ (j : ℕ). IsTail old.shards new.shards j pair) (one_place old.shards a b) step.1.0 in
      let shards : new.shards ≡ tail.0 ∷ [] = tail.3 ∙ ap (λ (l : List (List (Row T))). set l 0 tail.0) one in
      let front : rows_at new.shards 0 ≡ tail.0 = ap (λ (l : List (List (Row T))). rows_at l 0) shards in
      record {
        single = shards ∙ ap (λ (l : List (Row T)). l ∷ []) (sym front);
        limit = step.1.1;
        marked = step.1.2;
        row = a_row tail.1 pair.0 pair.1;
        last = tail.2 ∙ ap (λ (l : List (Row T)). l ++ a_row tail.1 pair.0 pair.1 ∷ []) (sym front);
        over = sym (single_over old one) ∙ step.0;
      }

  -- one more row at the back, where the rows then exceed the limits
  with_one_more : (limit : ℕ) (mark : Option ℕ) (rows front whole : List (Row T)) (r : Row T) → IsLongestFront limit mark rows front → whole ≡ rows ++ r ∷ []
      → exceeds limit mark whole ≡ true → IsLongestFront limit mark whole front
  with_one_more limit mark rows front whole r w e o =
      let l : length whole ≡ length rows + 1 = ap length e ∙ length_push rows r in
      let s = w.shorter in
      record {
        shorter = omega (arith, l, s);
        is_front = w.is_front ∙ sym (ap (take (length front)) e ∙ take-append-le (length front) rows (r ∷ []) s);
        within = w.within;
        longest = λ n a b. elim (cases_lt (length rows) n) [
          | inl k ↦ let all : take n whole ≡ whole = take_all n whole (omega (arith, l, k)) in rw all o
          | inr k ↦ let some : take n whole ≡ take n rows = ap (take n) e ∙ take-append-le n rows (r ∷ []) k in rw some (w.longest n a k)
        ];
      }

  pub longest_left : (old new : Core T) (pairs : List (T × ℕ)) (s rest : Stream) → old.shards ≡ rows_at old.shards 0 ∷ [] → Evicts 1 old pairs s new rest → is_over new ≡ false
      → IsLongestFront old.limit old.watermark (rows_at old.shards 0) (rows_at new.shards 0)
  longest_left old new [] s rest one e h =
      let rows : List (Row T) = rows_at old.shards 0 in
      let P : Core T → Type 0 = λ c. IsLongestFront old.limit old.watermark rows (rows_at c.shards 0) in
      subst P (sym e.0) (record {
        shorter = omega arith;
        is_front = sym (take_all (length rows) rows (omega arith));
        within = sym (single_over old one) ∙ (ap is_over (sym e.0) ∙ h);
        longest = λ n a b. absurd (omega arith);
      })
  longest_left old new (pair ∷ pairs) s rest one e h =
      let g = gone old e.0 (next_u64 s).0 (next_u64 (next_u64 s).1).0 pair one e.1 in
      let more = longest_left e.0 new pairs (next_u64 (next_u64 s).1).1 rest g.single e.2 h in
      with_one_more old.limit old.watermark (rows_at e.0.shards 0) (rows_at new.shards 0) (rows_at old.shards 0) g.row (rw (g.limit, g.marked) at more) g.last g.over
