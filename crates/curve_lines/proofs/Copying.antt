-- The lines that go on, as a stream is read.
use Rattle.std.proofs.Common.{◌≡◌, ℕ, zero, suc, ◌<◌, ◌&&◌, ◌==◌, Bool, true, false, cond, List, [], ◌∷◌, ◌++◌, Option, Some, None, refl, ap, ap₂, sym, ◌∙◌, subst, arith, length, get_or, append_assoc}
use Rattle.std.proofs.lemmas.List.{length-map}
use Rattle.std.specs.Prelude.{IfSome, is_some, map, slice_index}
use Rattle.std.specs.Bool.{MatchBool}
use Rattle.std.specs.List.{AllZip, AllByRecursion}
use Rattle.std.specs.Io.BufRead.{take_through, drop_through}
use Rattle.std.specs.Io.KnownBytes.{Appends}
use Rattle.std.proofs.KnownBytes.{Appends-nil, Appends-trans}
use Rattle.cache_entries.specs.declared.entry.CacheEntryKey.{CacheEntryKey}
use Rattle.curve_runs.specs.declared.table.FreshTable.{FreshTable}
use Rattle.curve_sizes.specs.declared.row.CurveRow.{CurveRow}
use Rattle.curve_sizes.specs.declared.when.When.{When}
use Rattle.curve_sizes.specs.Requests.{Request, asks, AreFirst, is_among}
use Rattle.curve_sizes.specs.Rows.{limits_of}
use Rattle.curve_keys.specs.declared.part.Part.{Part}
use Rattle.curve_keys.specs.declared.said.Said.{Said}
use Rattle.curve_keys.specs.declared.said.Said.TheVariants.{Removal, Weight, Known, Told, Other, Wrong}
use Rattle.curve_keys.specs.declared.readings.PartReading.{PartReading}
use Rattle.curve_keys.specs.declared.readings.Readings.{Readings}
use Rattle.curve_keys.specs.Keys.{keyed}
use Rattle.curve_keys.specs.Misses.{goes_on}
use Rattle.curve_keys.specs.Parts.{kept}
use Rattle.curve_keys.specs.Pasts.{Line, Past, nothing_read, onto, onto_by, repeated, first_weight, when_of, IsRead}
use Rattle.curve_keys.specs.Shares.{AddsLine, IsMissed, IsMissedBy, OfOne}
use Rattle.curve_lines.specs.declared.format.Format.{Format}
use Rattle.curve_lines.specs.declared.format.Format.TheVariants.{Text, Records, OracleGeneral}
use Rattle.curve_lines.specs.declared.format.Rules.{Rules}
use Rattle.curve_lines.specs.declared.step.Step.{Step}
use Rattle.curve_lines.specs.ColumnLines.{is_timed}
use Rattle.curve_lines.specs.Copies.{whole_lines, whole_units, first_whole, misses_after, misses_in, piece, Copies, IsCopyAt, IsCopy}
use Rattle.curve_lines.specs.Formats.{onto_first, units_in, line_of, first_unit, after_unit, TakesUnit}
use Rattle.curve_lines.specs.Inputs.{bare}
use Rattle.curve_lines.specs.Runs.{is_more, has_request, read_after, requests_in, Feeds}
use Rattle.curve_lines.proofs.UnitLaws.{records_in-first, more-text}
use Rattle.curve_lines.proofs.HalfwayParts.{AddsPart, adds-parts, IsKeptOf}
use Rattle.curve_lines.proofs.Halfway.{IsKept, last-asks}

-- ---- the first line with its line feed

alone : (x : ℕ) (test : Bool) → x == 10 ≡ test → whole_lines (x ∷ []) ≡ take_through 10 (x ∷ []) ∷ whole_lines (drop_through 10 (x ∷ []))
alone x true is = rw is refl
alone x false is = rw is refl

before_more : (x y : ℕ) (ys : List ℕ) (test : Bool) → x == 10 ≡ test
    → whole_lines (y ∷ ys) ≡ take_through 10 (y ∷ ys) ∷ whole_lines (drop_through 10 (y ∷ ys))
    → whole_lines (x ∷ y ∷ ys) ≡ take_through 10 (x ∷ y ∷ ys) ∷ whole_lines (drop_through 10 (x ∷ y ∷ ys))
before_more x y ys true is first = rw is refl
before_more x y ys false is first = rw is (ap (onto_first x) first)

whole-first : (x : ℕ) (xs : List ℕ) → whole_lines (x ∷ xs) ≡ take_through 10 (x ∷ xs) ∷ whole_lines (drop_through 10 (x ∷ xs))
whole-first x [] = alone x (x == 10) refl
whole-first x (y ∷ ys) = before_more x y ys (x == 10) refl (whole-first y ys)

first-by : (format : Format) (x : ℕ) (xs : List ℕ) → whole_units format (x ∷ xs) ≡ first_whole format (x ∷ xs) ∷ whole_units format (after_unit format (x ∷ xs))
first-by Text x xs = whole-first x xs
first-by Records x xs = records_in-first 15 15 x xs
first-by OracleGeneral x xs = records_in-first 23 23 x xs

pub whole_units-first : (format : Format) (ys : List ℕ) → 0 < length ys → whole_units format ys ≡ first_whole format ys ∷ whole_units format (after_unit format ys)
whole_units-first format [] l = absurd (omega (arith, l))
whole_units-first format (y ∷ ys) l = first-by format y ys

bare-first : (format : Format) (ys : List ℕ) → bare format (first_whole format ys) ≡ first_unit format ys
bare-first Text ys = refl
bare-first Records ys = refl
bare-first OracleGeneral ys = refl

whole-none : (format : Format) → whole_units format [] ≡ []
whole-none Text = refl
whole-none Records = refl
whole-none OracleGeneral = refl

-- ---- weights by the first requests of all are weights by the first of those before

before-repeated : (weight : CacheEntryKey → ℕ) (n : ℕ) (e : CacheEntryKey) (w : ℕ) (t : When) (before : List Request) → AreFirst weight (repeated n (asks e w t) before) → AreFirst weight before
before-repeated weight zero e w t before a = a
before-repeated weight (suc n) e w t before a = before-repeated weight n e w t before a.1

before-known : (weight : CacheEntryKey → ℕ) (b : Bool) (n : ℕ) (e : CacheEntryKey) (w : ℕ) (t : When) (before : List Request) → AreFirst weight (cond b (repeated n (asks e w t) before) before) → AreFirst weight before
before-known weight true n e w t before a = before-repeated weight n e w t before a
before-known weight false n e w t before a = a

before-onto : (weight : CacheEntryKey → ℕ) (line : Option Line) (past : Past) → AreFirst weight (onto line past).requests → AreFirst weight past.requests
before-onto weight None past a = a
before-onto weight (Some l) past a = by_said l.said a
  where
    by_said : (s : Said) → AreFirst weight (onto_by s l past).requests → AreFirst weight past.requests
    by_said Removal h = h
    by_said (Weight w) h = before-repeated weight l.times (keyed l.key) w (when_of past l) past.requests h
    by_said Known h = before-known weight (is_among (keyed l.key) past.requests) l.times (keyed l.key) (first_weight (keyed l.key) past.requests) (when_of past l) past.requests h
    by_said Told h = h
    by_said Other h = h
    by_said Wrong h = h

first-before : (by : Rules) (part : Option Part) (weight : CacheEntryKey → ℕ) (past : Past) (ls : List (List ℕ)) → AreFirst weight (read_after by part past ls).requests → AreFirst weight past.requests
first-before by part weight past [] a = a
first-before by part weight past (l ∷ ls) a = before-onto weight (kept part (line_of by l)) past (first-before by part weight (onto (kept part (line_of by l)) past) ls a)

kept-none : (line : Option Line) → kept None line ≡ line
kept-none None = refl
kept-none (Some l) = refl

-- ---- halfway

-- what was copied of a stream, of which these bytes are left, and what was read of it: with what goes on of the rest it is all that goes on
pub record SoFar (by : Rules) (limits : List ℕ) (watermark : Option ℕ) (xs ys bytes : List ℕ) (r : PartReading) (at : ℕ) : Type 0 where
  pub done : Past
  pub read : IsRead r.reading done
  pub all : read_after by None done (units_in by.format ys) ≡ read_after by None nothing_read (units_in by.format xs)
  pub copied : (weight : CacheEntryKey → ℕ) → AreFirst weight (requests_in by None xs)
      → bytes ++ misses_after by weight (slice_index limits at) watermark done (whole_units by.format ys) ≡ misses_in by weight (slice_index limits at) watermark xs

abbrev pub CopiedAt : Rules → List ℕ → Option ℕ → (xs ys bytes : List ℕ) → List PartReading → Option ℕ → Type 0
CopiedAt by limits watermark xs ys bytes rs None = bytes ≡ []
CopiedAt by limits watermark xs ys bytes rs (Some at) =
    at < length limits → is_timed by.lifetime by.columns ≡ false → by.parts.items ≡ None ∷ [] → OfOne (λ r. SoFar by limits watermark xs ys bytes r at) rs

pub record AreCopied (by : Rules) (limits : List ℕ) (watermark : Option ℕ) (start : Option (List ℕ)) (xs : List ℕ) (rest now : Option (List ℕ)) (readings : Readings) : Type 0 where
  pub left : List ℕ
  pub bytes : List ℕ
  pub rest_is : rest ≡ Some left
  pub appended : Appends start now bytes
  pub copied : CopiedAt by limits watermark xs left bytes readings.parts.items by.misses

abbrev pub IsCopying : Rules → List ℕ → Option ℕ → (start input rest now : Option (List ℕ)) → Readings → Type 0
IsCopying by limits watermark start input rest now readings = IfSome input (λ xs. AreCopied by limits watermark start xs rest now readings) × (readings.misses ≡ by.misses)

-- ---- one line or record more

true-false : true ≡ false → ⊥
true-false e = subst (λ (b : Bool). MatchBool b (⊥ → ⊥) ⊥) e (λ x. x)

-- what holds of the one reading is carried over
of-one : (R : PartReading → PartReading → Type 0) (P Q : PartReading → Type 0) (os ns : List PartReading) → AllZip R os ns → OfOne P os → ((o n : PartReading) → os ≡ o ∷ [] → R o n → P o → Q n) → OfOne Q ns
of-one R P Q [] [] z p f = tt
of-one R P Q [] (n ∷ ns) z p f = absurd z
of-one R P Q (o ∷ []) [] z p f = absurd z
of-one R P Q (o ∷ q ∷ os) [] z p f = absurd z
of-one R P Q (o ∷ []) (n ∷ []) z p f = f o n refl z.0 p
of-one R P Q (o ∷ []) (n ∷ m ∷ ns) z p f = absurd z.1
of-one R P Q (o ∷ q ∷ os) (n ∷ []) z p f = absurd z.1
of-one R P Q (o ∷ q ∷ os) (n ∷ m ∷ ns) z p f = tt

misses-same : (line : Option Line) (old new : Readings) → AddsLine line old new → new.misses ≡ old.misses
misses-same None old new e = ap (λ (r : Readings). r.misses) e
misses-same (Some l) old new e = e.at

-- where nothing is asked for nothing goes on
unmissed : (line : Option Line) (old new : Readings) (b : Bool) → b ≡ is_some line → AddsLine line old new → old.misses ≡ None → (b && new.missed) ≡ false
unmissed None old new b e f m = ap (λ (x : Bool). x && new.missed) e
unmissed (Some l) old new b e f m = ap (λ (x : Bool). x && new.missed) e ∙ subst (λ (o : Option ℕ). IsMissed o l new.missed old.parts.items) m f.missed

not-fresh : (o : Option FreshTable) → is_some o ≡ false → o ≡ None
not-fresh None e = refl
not-fresh (Some t) e = absurd (true-false e)

-- a line goes on where its request isn't a hit
missed-is : (by : Rules) (limits : List ℕ) (watermark : Option ℕ) (line : Option Line) (old new : Readings) (b : Bool) (at : ℕ) (r : PartReading) (done : Past) (weight : CacheEntryKey → ℕ)
    → b ≡ is_some line → AddsLine line old new → old.misses ≡ Some at → old.parts.items ≡ r ∷ [] → IsKeptOf by watermark limits r → is_timed by.lifetime by.columns ≡ false
    → IsRead r.reading done → AreFirst weight done.requests → at < length limits → (b && new.missed) ≡ goes_on weight (slice_index limits at) watermark line done.requests
missed-is by limits watermark None old new b at r done weight e f m p k t h a l = ap (λ (x : Bool). x && new.missed) e
missed-is by limits watermark (Some line) old new b at r done weight e f m p k t h a l =
    let table = r.reading.curve.curve.curve.table in
    let one : IsMissedBy at line new.missed r = subst (λ (rs : List PartReading). OfOne (IsMissedBy at line new.missed) rs) p (subst (λ (o : Option ℕ). IsMissed o line new.missed old.parts.items) m f.missed) in
    let long : length (limits_of table) ≡ length limits = ap (λ (ls : List ℕ). length ls) k.limits_are in
    let same : length (limits_of table) ≡ length table = length-map table (λ (r : CurveRow). r.limit) in
    let none = not-fresh r.reading.curve.curve.fresh (k.timed ∙ t) in
    ap (λ (x : Bool). x && new.missed) e ∙ one none done h weight a (omega (arith, l, long, same))
    ∙ ap₂ (λ (ls : List ℕ) (w : Option ℕ). goes_on weight (slice_index ls at) w (Some line) done.requests) k.limits_are k.mark

so-far-more : (by : Rules) (limits : List ℕ) (watermark : Option ℕ) (xs ys bytes : List ℕ) (step : Step) (old new : Readings) (at : ℕ) (r n : PartReading)
    → 0 < length ys → has_request step ≡ is_some (line_of by (first_unit by.format ys)) → AddsLine (line_of by (first_unit by.format ys)) old new → old.misses ≡ Some at → old.parts.items ≡ r ∷ []
    → IsKeptOf by watermark limits r → is_timed by.lifetime by.columns ≡ false → r.part ≡ None → at < length limits → AddsPart (line_of by (first_unit by.format ys)) r n
    → SoFar by limits watermark xs ys bytes r at → SoFar by limits watermark xs (after_unit by.format ys) (bytes ++ piece by.format step new.missed ys) n at
so-far-more by limits watermark xs ys bytes step old new at r n some told fed m p k t all l a s =
    let u = first_unit by.format ys in
    let line = line_of by u in
    let w = first_whole by.format ys in
    let after = whole_units by.format (after_unit by.format ys) in
    record {
      done = onto line s.done;
      read = subst (λ (o : Option Line). IsRead n.reading (onto o s.done)) (ap (λ (q : Option Part). kept q line) all ∙ kept-none line) (a.read s.done s.read);
      all = sym (ap (λ (o : Option Line). read_after by None (onto o s.done) (units_in by.format (after_unit by.format ys))) (kept-none line)) ∙ sym (more-text by None s.done ys some) ∙ s.all;
      copied = λ weight f.
          let first = first-before by None weight s.done (units_in by.format ys) (subst (λ (q : Past). AreFirst weight q.requests) (sym s.all) f) in
          let limit = slice_index limits at in
          let goes = missed-is by limits watermark line old new (has_request step) at r s.done weight told fed m p k t s.read first l in
          let rest : List ℕ = misses_after by weight limit watermark (onto line s.done) after in
          let own : misses_after by weight limit watermark s.done (whole_units by.format ys) ≡ cond (goes_on weight limit watermark line s.done.requests) w [] ++ rest =
          ap (misses_after by weight limit watermark s.done) (whole_units-first by.format ys some)
          ∙ ap (λ (v : List ℕ). cond (goes_on weight limit watermark (line_of by v) s.done.requests) w [] ++ misses_after by weight limit watermark (onto (line_of by v) s.done) after) (bare-first by.format ys) in
          append_assoc bytes (piece by.format step new.missed ys) rest
          ∙ ap (λ (b : Bool). bytes ++ (cond b w [] ++ rest)) goes
          ∙ ap (λ (v : List ℕ). bytes ++ v) (sym own) ∙ s.copied weight f;
    }

-- the one part is that of all keys
all-keys : (rs : List PartReading) (r : PartReading) (ps : List (Option Part)) → map (λ (q : PartReading). q.part) rs ≡ ps → ps ≡ None ∷ [] → rs ≡ r ∷ [] → r.part ≡ None
all-keys rs r ps e n o =
    let h : r.part ∷ [] ≡ None ∷ [] = sym (ap (λ (l : List PartReading). map (λ (q : PartReading). q.part) l) o) ∙ e ∙ n in
    ap (λ (l : List (Option Part)). get_or l 0 None) h

kept-one : (by : Rules) (limits : List ℕ) (watermark : Option ℕ) (rs : List PartReading) (r : PartReading) → AllByRecursion (IsKeptOf by watermark limits) rs → rs ≡ r ∷ [] → IsKeptOf by watermark limits r
kept-one by limits watermark rs r a e = let h : AllByRecursion (IsKeptOf by watermark limits) (r ∷ []) = subst (AllByRecursion (IsKeptOf by watermark limits)) e a in h.0

pub step-copied : (by : Rules) (limits : List ℕ) (watermark : Option ℕ) (start input rest next now now' : Option (List ℕ)) (old new : Readings) (step : Step)
    → IsKept by watermark limits old → IsCopying by limits watermark start input rest now old → Feeds by rest next old new step → is_more step ≡ true
    → Copies by.format rest step new.missed now now' → IsCopying by limits watermark start input next now' new
step-copied by limits watermark start None rest next now now' old new step k c (part, takes, told, fed) more w = (tt, misses-same (line_of by part) old new fed ∙ c.1)
step-copied by limits watermark start (Some xs) rest next now now' old new step k c (part, takes, told, fed) more w =
    let a = c.0 in
    let ys = a.left in
    let t0 = subst (λ (b : Bool). TakesUnit by.format rest next part b) more takes in
    let t : TakesUnit by.format (Some ys) next part true = subst (λ (o : Option (List ℕ)). TakesUnit by.format o next part true) a.rest_is t0 in
    let one : Appends now now' (piece by.format step new.missed ys) = subst (λ (o : Option (List ℕ)). Copies by.format o step new.missed now now') a.rest_is w in (
      record {
        left = after_unit by.format ys;
        bytes = a.bytes ++ piece by.format step new.missed ys;
        rest_is = t.2;
        appended = Appends-trans start now now' a.bytes (piece by.format step new.missed ys) a.appended one;
        copied = by_misses by.misses refl a.copied;
      },
      misses-same (line_of by part) old new fed ∙ c.1,
    )
  where
    by_misses : (o : Option ℕ) → by.misses ≡ o → CopiedAt by limits watermark xs c.0.left c.0.bytes old.parts.items o
        → CopiedAt by limits watermark xs (after_unit by.format c.0.left) (c.0.bytes ++ piece by.format step new.missed c.0.left) new.parts.items o
    by_misses None m h =
        let none = unmissed (line_of by part) old new (has_request step) told fed (c.1 ∙ m) in
        ap₂ (λ (x : List ℕ) (b : Bool). x ++ cond b (first_whole by.format c.0.left) []) h none
    by_misses (Some at) m h = λ l untimed alone.
        let ys = c.0.left in
        let t0 = subst (λ (b : Bool). TakesUnit by.format rest next part b) more takes in
        let t : TakesUnit by.format (Some ys) next part true = subst (λ (o : Option (List ℕ)). TakesUnit by.format o next part true) c.0.rest_is t0 in
        let u = first_unit by.format ys in
        let told' : has_request step ≡ is_some (line_of by u) = subst (λ (v : List ℕ). has_request step ≡ is_some (line_of by v)) t.1 told in
        let fed' : AddsLine (line_of by u) old new = subst (λ (v : List ℕ). AddsLine (line_of by v) old new) t.1 fed in
        of-one (AddsPart (line_of by u)) (λ r. SoFar by limits watermark xs ys c.0.bytes r at) (λ r. SoFar by limits watermark xs (after_unit by.format ys) (c.0.bytes ++ piece by.format step new.missed ys) r at)
        old.parts.items new.parts.items (adds-parts (line_of by u) old new fed') (h l untimed alone)
        (λ r n only adds so. so-far-more by limits watermark xs ys c.0.bytes step old new at r n t.0 told' fed' (c.1 ∙ m) only (kept-one by limits watermark old.parts.items r k.each only) untimed
        (all-keys old.parts.items r by.parts.items k.parts alone only) l adds so)

-- ---- at the end

sole : (P : PartReading → Type 0) (rs : List PartReading) → map (λ (q : PartReading). q.part) rs ≡ None ∷ [] → OfOne P rs → (r : PartReading) × P r
sole P [] e h = let n = ap (λ (l : List (Option Part)). length l) e in absurd (omega (arith, n))
sole P (r ∷ []) e h = (r, h)
sole P (r ∷ s ∷ rs) e h = let n = ap (λ (l : List (Option Part)). length l) e in absurd (omega (arith, n))

pub last-copied : (by : Rules) (limits : List ℕ) (watermark : Option ℕ) (start input rest next now now' : Option (List ℕ)) (old new : Readings) (step : Step)
    → IsKept by watermark limits old → IsCopying by limits watermark start input rest now old → Feeds by rest next old new step → is_more step ≡ false
    → Copies by.format rest step new.missed now now' → IfSome input (λ text. (bytes : List ℕ) × Appends start now' bytes × IsCopy by limits watermark text bytes)
last-copied by limits watermark start None rest next now now' old new step k c f last w = tt
last-copied by limits watermark start (Some xs) rest next now now' old new step k c (part, takes, told, fed) last w =
    let a = c.0 in
    let one : Appends now now' (piece by.format step new.missed a.left) = subst (λ (o : Option (List ℕ)). Copies by.format o step new.missed now now') a.rest_is w in
    (a.bytes ++ piece by.format step new.missed a.left, Appends-trans start now now' a.bytes (piece by.format step new.missed a.left) a.appended one, by_misses by.misses a.copied)
  where
    nothing : piece by.format step new.missed c.0.left ≡ []
    nothing = ap (λ (b : Bool). cond (b && new.missed) (first_whole by.format c.0.left) []) (last-asks step last)

    by_misses : (o : Option ℕ) → CopiedAt by limits watermark xs c.0.left c.0.bytes old.parts.items o → IsCopyAt by limits watermark xs (c.0.bytes ++ piece by.format step new.missed c.0.left) o
    by_misses None h = ap₂ (λ (x y : List ℕ). x ++ y) h nothing
    by_misses (Some at) h = λ l untimed alone weight first.
        let t0 = subst (λ (b : Bool). TakesUnit by.format rest next part b) last takes in
        let none : c.0.left ≡ [] = subst (λ (o : Option (List ℕ)). TakesUnit by.format o next part false) c.0.rest_is t0 in
        let (r, so) = sole (λ r. SoFar by limits watermark xs c.0.left c.0.bytes r at) old.parts.items (k.parts ∙ alone) (h l untimed alone) in
        let limit = slice_index limits at in
        let rest_none : misses_after by weight limit watermark so.done (whole_units by.format c.0.left) ≡ [] =
        ap (λ (x : List ℕ). misses_after by weight limit watermark so.done (whole_units by.format x)) none ∙ ap (misses_after by weight limit watermark so.done) (whole-none by.format) in
        ap (λ (x : List ℕ). c.0.bytes ++ x) (nothing ∙ sym rest_none) ∙ so.copied weight first

-- ---- at first

pub first-copied : (by : Rules) (limits : List ℕ) (watermark : Option ℕ) (start input : Option (List ℕ)) (readings : Readings) → readings.misses ≡ by.misses
    → AllByRecursion (λ (r : PartReading). IsRead r.reading nothing_read) readings.parts.items → IsCopying by limits watermark start input input start readings
first-copied by limits watermark start None readings m n = (tt, m)
first-copied by limits watermark start (Some xs) readings m n =
    (record { left = xs; bytes = []; rest_is = refl; appended = Appends-nil start; copied = by_misses by.misses }, m)
  where
    one : (at : ℕ) (rs : List PartReading) → AllByRecursion (λ (r : PartReading). IsRead r.reading nothing_read) rs → OfOne (λ r. SoFar by limits watermark xs xs [] r at) rs
    one at [] h = tt
    one at (r ∷ []) h = record { done = nothing_read; read = h.0; all = refl; copied = λ weight first. refl }
    one at (r ∷ s ∷ rs) h = tt

    by_misses : (o : Option ℕ) → CopiedAt by limits watermark xs xs [] readings.parts.items o
    by_misses None = refl
    by_misses (Some at) = λ l untimed alone. one at readings.parts.items n

pub new-read : (R : PartReading → Type 0) (N : Option Part → PartReading → Type 0) → ((p : Option Part) (r : PartReading) → N p r → R r) → (ps : List (Option Part)) (rs : List PartReading) → AllZip N ps rs → AllByRecursion R rs
new-read R N f [] [] z = tt
new-read R N f [] (r ∷ rs) z = absurd z
new-read R N f (p ∷ ps) [] z = absurd z
new-read R N f (p ∷ ps) (r ∷ rs) z = (f p r z.0, new-read R N f ps rs z.1)
