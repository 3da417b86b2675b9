-- The readers of a write are the requests that stream it, and they are left with its bytes.
use Rattle.std.proofs.Common.{◌≡◌, ℕ, ◌+◌, ◌<◌, ◌≤◌, refl, ap, sym, ◌∙◌, true, false, subst, cond, [], ◌∷◌, ◌++◌, ◌==◌, arith}
use Rattle.std.specs.Prelude.{◌-◌, ◌&&◌, ◌||◌, Bool, List, Option, Some, None, option_map, not, nat_le, map}
use Rattle.std.specs.List.{AllByRecursion, sum_by}
use Rattle.std.specs.FinMap.{FinMap, entries, get, insert, remove, values, same_map, get-entries, entries-insert, nat_cmp-IsAntisymmetric}
use Rattle.std.specs.Ordering.{nat_cmp}
use Rattle.std.specs.Cmp.{unsigned_tied}
use Rattle.std.specs.Prelude.{nat_eq}
use Rattle.std.proofs.lemmas.Cmp.{nat_cmp_total}
use Rattle.std.proofs.lemmas.Bool.{eqb-true, leb-true, leb-false}
use Rattle.cache_changes.specs.Changes.{Write, Change, Changes, appends, leaves}
use Rattle.cache_changes.specs.Writes.{bytes_of, lands, MayCome, IsOrderly}
use Rattle.cache_changes.proofs.WriteLaws.{Life, life, life_by, lived, begun_by, begun_none, life-tells}
use Rattle.cache_changes.proofs.BodyLaws.{no_leaving}
use Rattle.tier_model.specs.Calls.{extended}
use Rattle.tier_model.specs.Histories.{Kept}
use Rattle.tier_model.specs.Shelf.{InFlight, Readers, one_more, one_less, left_with, readers_left}
use Rattle.tier_model.specs.State.{Reader, closed, unread, spent, streaming}
use Rattle.tier_model.specs.After.{with_reader, without_reader}
use Rattle.tier_model.specs.Past.{streams_by}
use Rattle.tier_model.proofs.Tables.{sum-put}
use Rattle.tier_model.proofs.CallLaws.{itself, at-insert, at-remove}
use Rattle.tier_model.proofs.LandLaws.{Spares}
use Rattle.tier_model.proofs.WholeLaws.{all_came, came-step}

-- ---- sums over the requests

module _ {X : Type 0} (f : X → ℕ) where
  -- what one adds
  abbrev pub share : Option X → ℕ
  share None = 0
  share (Some x) = f x

  put_back : (m : FinMap nat_cmp X) (k : ℕ) (v : X) → insert m k v ≡ insert (remove m k) k v
  put_back m k v = same_map nat_cmp_total nat_cmp-IsAntisymmetric (insert m k v) (insert (remove m k) k v)
      (λ q. at-insert m k v q ∙ by_test (k == q) (get m q) ∙ sym (at-insert (remove m k) k v q ∙ ap (cond (k == q) (Some v)) (at-remove m k q)))
    where
      by_test : (t : Bool) (o : Option X) → cond t (Some v) o ≡ cond t (Some v) (cond t None o)
      by_test true o = refl
      by_test false o = refl

  pub sum-insert : (m : FinMap nat_cmp X) (k : ℕ) (v : X) → sum_by f (values (insert m k v)) ≡ f v + sum_by f (values (remove m k))
  sum-insert m k v =
      ap (λ (n : FinMap nat_cmp X). sum_by f (values n)) (put_back m k v)
      ∙ ap (λ (l : List (ℕ × X)). sum_by f (map (λ e. e.1) l)) (entries-insert nat_cmp_total (remove m k) k v)
      ∙ sum-put nat_eq nat_cmp_total unsigned_tied f k v (entries (remove m k)) (sym (get-entries (remove m k) k) ∙ at-remove m k k ∙ ap (λ t. cond t None (get m k)) (itself k))

  pub sum-taken : (m : FinMap nat_cmp X) (k : ℕ) (o : Option X) → get m k ≡ o → sum_by f (values m) ≡ share o + sum_by f (values (remove m k))
  sum-taken m k None e =
      let same : sum_by f (values m) ≡ sum_by f (values (remove m k)) =
      ap (λ (n : FinMap nat_cmp X). sum_by f (values n)) (same_map nat_cmp_total nat_cmp-IsAntisymmetric m (remove m k) (λ q. by_test q (k == q) refl ∙ sym (at-remove m k q))) in
      omega (arith, same)
    where
      by_test : (q : ℕ) (t : Bool) → (k == q) ≡ t → get m q ≡ cond t None (get m q)
      by_test q true is = ap (get m) (sym (eqb-true k q is)) ∙ e
      by_test q false is = refl
  sum-taken m k (Some v) e = ap (λ (n : FinMap nat_cmp X). sum_by f (values n)) (same_map nat_cmp_total nat_cmp-IsAntisymmetric m (insert m k v) (λ q. by_test q (k == q) refl ∙ sym (at-insert m k v q))) ∙ sum-insert m k v
    where
      by_test : (q : ℕ) (t : Bool) → (k == q) ≡ t → get m q ≡ cond t (Some v) (get m q)
      by_test q true is = ap (get m) (sym (eqb-true k q is)) ∙ e
      by_test q false is = refl

  -- maps that differ at one key alone
  pub sum-turned : (old new : FinMap nat_cmp X) (k : ℕ) (o : Option X) → ((q : ℕ) → get new q ≡ cond (k == q) o (get old q))
      → sum_by f (values new) + share (get old k) ≡ sum_by f (values old) + share o
  sum-turned old new k None h =
      let same : new ≡ remove old k = same_map nat_cmp_total nat_cmp-IsAntisymmetric new (remove old k) (λ q. h q ∙ sym (at-remove old k q)) in
      let a : sum_by f (values new) ≡ sum_by f (values (remove old k)) = ap (λ (n : FinMap nat_cmp X). sum_by f (values n)) same in
      let b = sum-taken old k (get old k) refl in
      omega (arith, a, b)
  sum-turned old new k (Some v) h =
      let same : new ≡ insert old k v = same_map nat_cmp_total nat_cmp-IsAntisymmetric new (insert old k v) (λ q. h q ∙ sym (at-insert old k v q)) in
      let a : sum_by f (values new) ≡ f v + sum_by f (values (remove old k)) = ap (λ (n : FinMap nat_cmp X). sum_by f (values n)) same ∙ sum-insert old k v in
      let b = sum-taken old k (get old k) refl in
      omega (arith, a, b)

-- ---- what becomes of a write

life_step : (n : ℕ) (c : Change Kept) (before : Changes Kept) (x : Life Kept) → MayCome c before → IsOrderly before → life n before ≡ Some x → life n (c ∷ before) ≡ Some (lived c x)
life_step n c before x may o e =
    let known = life-tells n before x e in
    let none : begun_by n c ≡ None = ap (λ (m : ℕ). begun_by m c) known.number ∙ begun_none x.write c before may (record { since = known.since; before = known.before; split = known.split }) in
    ap (λ (w : Option (Write Kept)). life_by w c (life n before)) none ∙ ap (option_map (lived c)) e

bytes_step : (n : ℕ) (c : Change Kept) (before : Changes Kept) (x : Life Kept) → MayCome c before → IsOrderly before → life n before ≡ Some x → x.flies ≡ false
    → bytes_of n (c ∷ before) ≡ bytes_of n before
bytes_step n (appends m bytes) before x may o e f =
    let known = life-tells n before x e in
    let is : life x.write.number before ≡ Some (record { write = x.write; flies = false; alive = x.alive }) =
    ap (λ (k : ℕ). life k before) (sym known.number) ∙ e ∙ ap (λ (v : Bool). Some (record { write = x.write; flies = v; alive = x.alive })) f in
    let apart : (m == n) ≡ false = ap (λ (k : ℕ). m == k) known.number ∙ no_leaving x.write x.alive (leaves m) before may.0 o is in
    ap (λ v. cond v (bytes_of n before ++ bytes) (bytes_of n before)) apart
bytes_step n _ before x may o e f = refl

orderly_start : (cs : List (Change Kept)) (changes : Changes Kept) → IsOrderly (extended changes cs) → IsOrderly changes
orderly_start [] changes o = o
orderly_start (c ∷ cs) changes o = (orderly_start cs (c ∷ changes) o).1

pub record Evolved (n : ℕ) (old new : Changes Kept) (x : Life Kept) : Type 0 where
  pub now : Life Kept
  pub known : life n new ≡ Some now
  pub landed : x.flies ≡ false → (now.flies ≡ false) × (bytes_of n new ≡ bytes_of n old) × (all_came n new ≡ all_came n old)

pub evolves : (n : ℕ) (cs : List (Change Kept)) (changes : Changes Kept) (x : Life Kept) → IsOrderly (extended changes cs) → life n changes ≡ Some x → Evolved n changes (extended changes cs) x
evolves n [] changes x o e = record { now = x; known = e; landed = λ f. (f, refl, refl) }
evolves n (c ∷ cs) changes x o e =
    let start = orderly_start cs (c ∷ changes) o in
    let rest = evolves n cs (c ∷ changes) (lived c x) o (life_step n c changes x start.0 start.1 e) in
    record {
      now = rest.now;
      known = rest.known;
      landed = λ f. let r = rest.landed (ap (λ v. v && not (lands x.write.number c)) f) in (r.0, r.1 ∙ bytes_step n c changes x start.0 start.1 e f, r.2 ∙ came-step n c changes x start.0 start.1 e f);
    }

-- ---- the readers of a write

-- readers are left with the bytes of a write once it is in flight no more, and told whether all of it came
abbrev pub LeftBy : Bool → Option (List ℕ) → Bool → List ℕ → Bool → Type 0
LeftBy true left whole bytes came = left ≡ None
LeftBy false left whole bytes came = (left ≡ Some bytes) × (whole ≡ came)

-- k requests stream the write of that number
abbrev pub CountFits : ℕ → Option Readers → ℕ → Changes Kept → Type 0
CountFits n None k changes = k ≡ 0
CountFits n (Some r) k changes = (r.count ≡ k) × (0 < k) × ((x : Life Kept) × (life n changes ≡ Some x) × LeftBy x.flies r.left r.whole (bytes_of n changes) (all_came n changes))

left_on : (old new : List ℕ) (was now : Bool) (f g : Bool) (left : Option (List ℕ)) (whole : Bool) → f ≡ g → (f ≡ false → (new ≡ old) × (now ≡ was)) → LeftBy f left whole old was
    → LeftBy g left whole new now
left_on old new was now true true left whole same stays p = p
left_on old new was now false false left whole same stays p = let e = stays refl in (p.0 ∙ ap (λ (b : List ℕ). Some b) (sym e.0), p.1 ∙ sym e.1)
left_on old new was now true false left whole same stays p = absurd cc
left_on old new was now false true left whole same stays p = absurd cc

-- a write that no change lands
spared : (n : ℕ) (cs : List (Change Kept)) (changes : Changes Kept) (x : Life Kept) → IsOrderly (extended changes cs) → AllByRecursion (Spares n) cs → life n changes ≡ Some x
    → (y : Life Kept) × (life n (extended changes cs) ≡ Some y) × (x.flies ≡ y.flies)
spared n [] changes x o h e = (x, e, refl)
spared n (c ∷ cs) changes x o h e =
    let start = orderly_start cs (c ∷ changes) o in
    let known = life-tells n changes x e in
    let rest = spared n cs (c ∷ changes) (lived c x) o h.1 (life_step n c changes x start.0 start.1 e) in
    let stays : x.flies ≡ (lived c x).flies = and_not x.flies (lands x.write.number c) (ap (λ (m : ℕ). lands m c) (sym known.number) ∙ h.0) in
    (rest.0, rest.1, stays ∙ rest.2)
  where
    and_not : (a b : Bool) → b ≡ false → a ≡ (a && not b)
    and_not true b e = ap not (sym e)
    and_not false b e = refl

pub count_on : (n : ℕ) (cs : List (Change Kept)) (changes : Changes Kept) (o : Option Readers) (k : ℕ) → IsOrderly (extended changes cs)
    → ((x : Life Kept) → life n changes ≡ Some x → AllByRecursion (Spares n) cs)
    → CountFits n o k changes → CountFits n o k (extended changes cs)
count_on n cs changes None k orderly h fits = fits
count_on n cs changes (Some r) k orderly h fits =
    let x = spared n cs changes fits.2.0 orderly (h fits.2.0 fits.2.1) fits.2.1 in
    let y = evolves n cs changes fits.2.0 orderly fits.2.1 in
    let same : y.now ≡ x.0 = let both = sym y.known ∙ x.1 in cc in
    let left = left_on (bytes_of n changes) (bytes_of n (extended changes cs)) (all_came n changes) (all_came n (extended changes cs)) fits.2.0.flies x.0.flies r.left r.whole x.2
    (λ f. let z = y.landed f in (z.1, z.2)) fits.2.2 in
    (fits.0, fits.1, (x.0, x.1, left))

-- one that lands: its readers are left with its bytes
abbrev pub left_entry : List ℕ → Bool → Option Readers → Option Readers
left_entry bytes whole None = None
left_entry bytes whole (Some r) = Some (record r { left = Some bytes; whole = whole })

pub landed_on : (n : ℕ) (c : Change Kept) (cs : List (Change Kept)) (changes : Changes Kept) (o : Option Readers) (k : ℕ) (bytes : List ℕ) (whole : Bool) → IsOrderly (extended changes (c ∷ cs))
    → lands n c ≡ true → bytes_of n (c ∷ changes) ≡ bytes_of n changes → bytes ≡ bytes_of n changes → whole ≡ all_came n (c ∷ changes) → CountFits n o k changes
    → CountFits n (left_entry bytes whole o) k (extended changes (c ∷ cs))
landed_on n c cs changes None k bytes whole orderly l same is came fits = fits
landed_on n c cs changes (Some r) k bytes whole orderly l same is came fits =
    let start = orderly_start cs (c ∷ changes) orderly in
    let known = life-tells n changes fits.2.0 fits.2.1 in
    let y = evolves n cs (c ∷ changes) (lived c fits.2.0) orderly (life_step n c changes fits.2.0 start.0 start.1 fits.2.1) in
    let down : (lived c fits.2.0).flies ≡ false = and_not fits.2.0.flies (lands fits.2.0.write.number c) (ap (λ (m : ℕ). lands m c) (sym known.number) ∙ l) in
    let z = y.landed down in
    let left : LeftBy false (Some bytes) whole (bytes_of n (extended changes (c ∷ cs))) (all_came n (extended changes (c ∷ cs))) =
    (ap (λ (b : List ℕ). Some b) (is ∙ sym same ∙ sym z.1), came ∙ sym z.2) in
    (fits.0, fits.1, (y.now, y.known, subst (λ (v : Bool). LeftBy v (Some bytes) whole (bytes_of n (extended changes (c ∷ cs))) (all_came n (extended changes (c ∷ cs)))) (sym z.0) left))
  where
    and_not : (a b : Bool) → b ≡ true → (a && not b) ≡ false
    and_not true b e = ap not e
    and_not false b e = refl

-- ---- one reader more, one less

abbrev pub up : ℕ → Reader → Option Readers → Option Readers
up n (streaming m place) o = cond (m == n) (Some (one_more o)) o
up n _ o = o

abbrev lessened : Option Readers → Option Readers
lessened None = None
lessened (Some r) = cond (nat_le r.count 1) None (Some (record r { count = r.count - 1 }))

abbrev pub down : ℕ → Reader → Option Readers → Option Readers
down n (streaming m place) o = cond (m == n) (lessened o) o
down n _ o = o

pub at_key : {X : Type 0} (m : FinMap nat_cmp X) (k n : ℕ) (f : Option X → Option X) → cond (k == n) (f (get m k)) (get m n) ≡ cond (k == n) (f (get m n)) (get m n)
at_key m k n f = by_test (k == n) refl
  where
    by_test : (t : Bool) → (k == n) ≡ t → cond t (f (get m k)) (get m n) ≡ cond t (f (get m n)) (get m n)
    by_test true e = ap (λ (i : ℕ). f (get m i)) (eqb-true k n e)
    by_test false e = refl

pub at-with : (n : ℕ) (r : Reader) (readers : FinMap nat_cmp Readers) → get (with_reader r readers) n ≡ up n r (get readers n)
at-with n (streaming m place) readers = at-insert readers m (one_more (get readers m)) n ∙ at_key readers m n (λ o. Some (one_more o))
at-with n closed readers = refl
at-with n (unread bytes) readers = refl
at-with n spent readers = refl

at_less : (n m : ℕ) (readers : FinMap nat_cmp Readers) (o : Option Readers) → get readers m ≡ o → get (one_less m o readers) n ≡ cond (m == n) (lessened o) (get readers n)
at_less n m readers None e = by_test (m == n) refl
  where
    by_test : (t : Bool) → (m == n) ≡ t → get readers n ≡ cond t None (get readers n)
    by_test true is = ap (get readers) (sym (eqb-true m n is)) ∙ e
    by_test false is = refl
at_less n m readers (Some r) e = by_last (nat_le r.count 1)
  where
    by_last : (v : Bool)
        → get (cond v (remove readers m) (insert readers m (record r { count = r.count - 1 }))) n ≡ cond (m == n) (cond v None (Some (record r { count = r.count - 1 }))) (get readers n)
    by_last true = at-remove readers m n
    by_last false = at-insert readers m (record r { count = r.count - 1 }) n

pub at-without : (n : ℕ) (r : Reader) (readers : FinMap nat_cmp Readers) → get (without_reader r readers) n ≡ down n r (get readers n)
at-without n (streaming m place) readers = at_less n m readers (get readers m) refl ∙ at_key readers m n lessened
at-without n closed readers = refl
at-without n (unread bytes) readers = refl
at-without n spent readers = refl

-- the write of a new reader is in flight
abbrev pub CanStream : ℕ → Reader → Changes Kept → Type 0
CanStream n (streaming m place) changes = (m == n) ≡ true → (x : Life Kept) × (life n changes ≡ Some x) × (x.flies ≡ true)
CanStream n _ changes = Unit {0}

up_fits : (n : ℕ) (r : Reader) (o : Option Readers) (k : ℕ) (changes : Changes Kept) → CanStream n r changes → CountFits n o k changes → CountFits n (up n r o) (streams_by n r + k) changes
up_fits n closed o k changes can fits = subst (λ (i : ℕ). CountFits n o i changes) (omega arith) fits
up_fits n (unread bytes) o k changes can fits = subst (λ (i : ℕ). CountFits n o i changes) (omega arith) fits
up_fits n spent o k changes can fits = subst (λ (i : ℕ). CountFits n o i changes) (omega arith) fits
up_fits n (streaming m place) o k changes can fits = by_test (m == n) refl o fits
  where
    by_test : (t : Bool) → (m == n) ≡ t → (o : Option Readers) → CountFits n o k changes → CountFits n (cond t (Some (one_more o)) o) (cond t 1 0 + k) changes
    by_test false e o fits = subst (λ (i : ℕ). CountFits n o i changes) (let same : k ≡ 0 + k = omega arith in same) fits
    by_test true e None fits =
        let x = can e in
        (omega (arith, fits), omega arith, (x.0, x.1, subst (λ (v : Bool). LeftBy v None false (bytes_of n changes) (all_came n changes)) (sym x.2) refl))
    by_test true e (Some r) fits = (omega (arith, fits.0), omega arith, fits.2)

down_fits : (n : ℕ) (r : Reader) (o : Option Readers) (j k : ℕ) (changes : Changes Kept) → j ≡ streams_by n r + k → CountFits n o j changes → CountFits n (down n r o) k changes
down_fits n closed o j k changes e fits = subst (λ (i : ℕ). CountFits n o i changes) (let same : j ≡ k = omega (arith, e) in same) fits
down_fits n (unread bytes) o j k changes e fits = subst (λ (i : ℕ). CountFits n o i changes) (let same : j ≡ k = omega (arith, e) in same) fits
down_fits n spent o j k changes e fits = subst (λ (i : ℕ). CountFits n o i changes) (let same : j ≡ k = omega (arith, e) in same) fits
down_fits n (streaming m place) o j k changes e fits = by_test (m == n) e o fits
  where
    by_last : (r : Readers) → j ≡ 1 + k → CountFits n (Some r) j changes → (v : Bool) → nat_le r.count 1 ≡ v → CountFits n (cond v None (Some (record r { count = r.count - 1 }))) k changes
    by_last r e fits true is = let few : r.count ≤ 1 = leb-true r.count 1 is in omega (arith, few, fits.0, e)
    by_last r e fits false is = let many : 1 < r.count = leb-false r.count 1 is in (omega (arith, fits.0, e), omega (arith, many, fits.0, e), fits.2)

    by_test : (t : Bool) → j ≡ cond t 1 0 + k → (o : Option Readers) → CountFits n o j changes → CountFits n (cond t (lessened o) o) k changes
    by_test false e o fits = subst (λ (i : ℕ). CountFits n o i changes) (let same : j ≡ k = omega (arith, e) in same) fits
    by_test true e None fits = absurd (omega (arith, fits, e))
    by_test true e (Some r) fits = by_last r e fits (nat_le r.count 1) refl

-- a reader takes the place of another, among the readers and among the requests
pub turned_fits : (n : ℕ) (old new : Reader) (readers : FinMap nat_cmp Readers) (j k : ℕ) (changes : Changes Kept) → CanStream n new changes → k + streams_by n old ≡ j + streams_by n new
    → CountFits n (get readers n) j changes → CountFits n (get (without_reader old (with_reader new readers)) n) k changes
turned_fits n old new readers j k changes can e fits =
    subst (λ (o : Option Readers). CountFits n o k changes) (sym (at-without n old (with_reader new readers) ∙ ap (down n old) (at-with n new readers)))
    (down_fits n old (up n new (get readers n)) (streams_by n new + j) k changes (omega (arith, e)) (up_fits n new (get readers n) j changes can fits))

-- what the readers of a write that lands are left with
pub at-left : (n m : ℕ) (v : Bool) (f : InFlight) (readers : FinMap nat_cmp Readers)
    → get (readers_left v m (Some f) readers) n ≡ cond (m == n) (left_entry f.bytes (v || f.ended) (get readers n)) (get readers n)
at-left n m v f readers = by_entry (get readers m) refl ∙ at_key readers m n (left_entry f.bytes (v || f.ended))
  where
    by_entry : (o : Option Readers) → get readers m ≡ o → get (left_with m f.bytes (v || f.ended) o readers) n ≡ cond (m == n) (left_entry f.bytes (v || f.ended) o) (get readers n)
    by_entry None e = by_test (m == n) refl
      where
        by_test : (t : Bool) → (m == n) ≡ t → get readers n ≡ cond t None (get readers n)
        by_test true is = ap (get readers) (sym (eqb-true m n is)) ∙ e
        by_test false is = refl
    by_entry (Some r) e = at-insert readers m (record r { left = Some f.bytes; whole = v || f.ended }) n
