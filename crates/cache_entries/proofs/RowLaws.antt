-- Rows that are read are those that the bytes spell, and each spelling is read.
use Rattle.std.proofs.Common.{◌≡◌, ℕ, zero, suc, List, [], ◌∷◌, ◌++◌, Result, Ok, Err, refl, sym, ap, subst, ◌∙◌}
use Rattle.std.specs.Prelude.{None}
use Rattle.cache_words.specs.declared.pack.fault.PackFault.{PackFault}
use Rattle.cache_words.specs.Forms.{Stands, numbers, arrays}
use Rattle.cache_words.specs.Items.{list_at, array_at}
use Rattle.cache_words.specs.Reading.{◌>>=◌, number_at, array_of_at}
use Rattle.cache_words.proofs.ItemLaws.{agrees_with, SpellThen, then_agrees, SpellAs, seen_agrees, SpellAfter, after_agrees, array_agrees}
use Rattle.cache_words.proofs.ReadingLaws.{IsBytes, Agrees, bind_ok, ok_is}
use Rattle.cache_words.proofs.FormLaws.{number_agrees, are_numbers}
use Rattle.cache_words.proofs.ValueLaws.{array_skips}
use Rattle.cache_entries.specs.declared.entry.CacheEntryKey.{CacheEntryKey}
use Rattle.cache_entries.specs.declared.rows.Tracked.{Tracked}
use Rattle.cache_entries.specs.EntryText.{SpellsEntry, entry_at}
use Rattle.cache_entries.specs.RowText.{SpellsRow, SpellsRecency, row_at, then_rows, rows_until, counted_rows, recency_at}
use Rattle.cache_entries.proofs.EntryLaws.{entry_agrees}

abbrev row_made : CacheEntryKey → ℕ → Tracked
row_made e w = record { entry = e; weight = w }

abbrev RowSteps : Tracked → List ℕ → Type 0
RowSteps = SpellAfter (Stands arrays 2) (SpellThen SpellsEntry (λ e. SpellAs (row_made e) (Stands numbers)))

row_steps : Agrees row_at RowSteps
unfolding row_at
row_steps =
    after_agrees (array_of_at 2) (Stands arrays 2) _ _ (array_skips 2) (
    then_agrees entry_at SpellsEntry _ _ entry_agrees (λ e.
    seen_agrees (row_made e) (number_at numbers) (Stands numbers) (number_agrees numbers are_numbers)))

row_to : (v : Tracked) (text : List ℕ) → RowSteps v text → SpellsRow v text
row_to v text s =
    let t = s.3 in
    let is : v ≡ row_made t.0 t.4.0 = t.4.2 in (
      s.0,
      s.1,
      s.2,
      (
        t.1,
        t.2,
        subst (λ (r : Tracked). SpellsEntry r.entry t.1) (sym is) t.3,
        subst (λ (r : Tracked). Stands numbers r.weight t.2) (sym is) t.4.1,
        t.5,
      ),
      s.4,
    )

row_from : (v : Tracked) (text : List ℕ) → SpellsRow v text → RowSteps v text
row_from v text s = let t = s.3 in (s.0, s.1, s.2, (v.entry, t.0, t.1, t.2, (v.weight, t.3, refl), t.4), s.4)

pub row_agrees : Agrees row_at SpellsRow
row_agrees = agrees_with row_at RowSteps SpellsRow row_steps row_to row_from

recency_agrees : Agrees (array_at row_at) SpellsRecency
recency_agrees = array_agrees row_at SpellsRow row_agrees

-- ---- rows until one can't be read, and all rows of an array

abbrev whole : List Tracked × List ℕ → Result (List Tracked × List ℕ) PackFault
whole x = Ok x

pub until_all : (n : ℕ) (bytes : List ℕ) (x : List Tracked × List ℕ) → list_at row_at n bytes ≡ whole x → rows_until n bytes ≡ (x.0, None)
unfolding list_at rows_until
until_all zero bytes x e = ap (λ (y : List Tracked × List ℕ). (y.0, None)) (ok_is ([], bytes) x e)
until_all (suc n) bytes x e =
    let a = bind_ok (row_at bytes) (λ r. list_at row_at n r.1 >>= λ others. Ok (r.0 ∷ others.0, others.1)) x e in
    let b = bind_ok (list_at row_at n a.0.1) (λ others. Ok (a.0.0 ∷ others.0, others.1)) x a.2 in
    let rest = until_all n a.0.1 b.0 b.1 in
    let same : (a.0.0 ∷ b.0.0, b.0.1) ≡ x = ok_is (a.0.0 ∷ b.0.0, b.0.1) x b.2 in
    rw (a.1, rest) (ap (λ (y : List Tracked × List ℕ). (y.0, None)) same)

-- what is left after rows that were all read
pub record IsWhole (n : ℕ) (bytes : List ℕ) : Type 0 where
  pub rest : List ℕ
  pub all : list_at row_at n bytes ≡ whole ((rows_until n bytes).0, rest)

pub whole_until : (n : ℕ) (bytes : List ℕ) → (rows_until n bytes).1 ≡ None → IsWhole n bytes
unfolding list_at rows_until
whole_until zero bytes e = record { rest = bytes; all = refl }
whole_until (suc n) bytes e = step (whole_until n) (row_at bytes) refl e
  where
    step : ((b : List ℕ) → (rows_until n b).1 ≡ None → IsWhole n b) → (r : Result (Tracked × List ℕ) PackFault) → row_at bytes ≡ r
        → (then_rows r (rows_until n)).1 ≡ None → IsWhole (suc n) bytes
    step more (Ok x) is h = let w = more x.1 h in record { rest = w.rest; all = rw (is, w.all) refl }
    step more (Err f) is h = absurd cc

-- a spelling of rows is read, whatever follows
pub recency_again : (rows : List Tracked) (text rest : List ℕ) → SpellsRecency rows text → recency_at (text ++ rest) ≡ (rows, None)
unfolding array_at
recency_again rows text rest s =
    let a = bind_ok (number_at arrays (text ++ rest)) (λ n. list_at row_at n.0 n.1) (rows, rest) (recency_agrees.again rows text rest s) in
    ap counted_rows a.1 ∙ until_all a.0.0 a.0.1 (rows, rest) a.2

-- rows that are read without a fault are spelled
pub recency_takes : (bytes : List ℕ) → IsBytes bytes → (recency_at bytes).1 ≡ None
    → (text : List ℕ) × (rest : List ℕ) × SpellsRecency (recency_at bytes).0 text × (bytes ≡ text ++ rest)
unfolding array_at
recency_takes bytes fits e = step (number_at arrays bytes) refl e
  where
    step : (r : Result (ℕ × List ℕ) PackFault) → number_at arrays bytes ≡ r → (counted_rows r).1 ≡ None
        → (text : List ℕ) × (rest : List ℕ) × SpellsRecency (counted_rows r).0 text × (bytes ≡ text ++ rest)
    step (Ok n) is h =
        let w = whole_until n.0 n.1 h in
        let all : array_at row_at bytes ≡ Ok ((rows_until n.0 n.1).0, w.rest) = rw is w.all in
        let t = recency_agrees.takes bytes ((rows_until n.0 n.1).0, w.rest) fits all in
        (t.text, w.rest, t.spelled, t.parts)
    step (Err f) is h = absurd cc
