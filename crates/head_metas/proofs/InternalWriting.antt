-- The moments and numbers of a meta that are written: a spelling, and long enough.
use Rattle.std.proofs.Common.{◌≡◌, ℕ, suc, true, ◌^◌, ◌<◌, ◌≤◌, ℤ, pos, negsuc, ◌<ℤ◌, ◌≤ℤ◌, List, [], ◌∷◌, ◌++◌, length, Option, Some, None, Ok, refl, ap, append_assoc, arith, inl, inr, length-append, nat_lt, lit≤}
use Rattle.std.specs.Prelude.{IfSome}
use Rattle.std.proofs.lemmas.Bool.{lt-ltb}
use Rattle.std.proofs.lemmas.Int.{ints}
use Rattle.std.specs.Int.{to_be_bytes}
use Rattle.cache_words.specs.Forms.{Form, Forms, Stands, StandsBehind, shortest, numbers, arrays}
use Rattle.cache_words.specs.Pack.{SpellsMoment, moment_of, optional_hash_of, SpellsOptionalHash}
use Rattle.cache_words.specs.Time.{MomentValue, second}
use Rattle.cache_words.proofs.WritingLaws.{number_spelled, array_spelled, moment_spelled, optional_hash_spelled}
use Rattle.head_metas.specs.declared.versions.InternalMetaV2.{InternalMetaV2}
use Rattle.cache_words.specs.Items.{SpellThere, SpellsSeconds, SpellsOptionalMoment, optional_moment_of}
use Rattle.head_metas.specs.Internal.{least_len, SpellsV2, SpellsMeta, IsLongEnough, IsSinceEpoch, IsMoment, IsMeta, IsWritable, item_count, provenance_of, required_of, optional_of, written_meta}
use Rattle.head_metas.specs.InternalReading.{meta_at}
use Rattle.head_metas.proofs.InternalLaws.{meta_again}

moment_by : (z : ℤ) (n : ℕ) → z <ℤ pos (2 ^ 63) → n < second → pos 0 ≤ℤ z
    → SpellsMoment (record { seconds = z; nanoseconds = n }) (moment_of (record { seconds = z; nanoseconds = n }))
moment_by (pos s) n high low since = moment_spelled s n (omega (arith, ints)) low
moment_by (negsuc s) n high low since = absurd (omega (arith, ints))

moment_written : (t : MomentValue) → IsMoment t → IsSinceEpoch t → SpellsMoment t (moment_of t)
moment_written t is since = moment_by t.seconds t.nanoseconds is.0 is.1 since

optional_written : (o : Option MomentValue) → IfSome o IsMoment → IfSome o IsSinceEpoch → SpellsOptionalMoment o (optional_moment_of o)
optional_written None is since = refl
optional_written (Some t) is since = moment_written t is since

seconds_written : (n : ℕ) → n < 2 ^ 32 → SpellsSeconds n (shortest numbers n)
seconds_written n low = (low, number_spelled n (omega arith))

ninth_there : (p : Option MomentValue) → IfSome p IsMoment → IfSome p IsSinceEpoch → SpellThere (nat_lt 8 (item_count p)) SpellsOptionalMoment p (provenance_of p)
ninth_there None is since = (refl, refl)
ninth_there (Some t) is since = moment_written t is since

count_low : (p : Option MomentValue) → 8 ≤ item_count p
count_low None = lit≤ tt
count_low (Some t) = lit≤ tt

count_high : (p : Option MomentValue) → item_count p ≤ 9
count_high None = lit≤ tt
count_high (Some t) = lit≤ tt

-- each of the first eight items is there
item_there : {X : Type 0} (k : ℕ) (p : Option MomentValue) (P : Option X → List ℕ → Type 0) (v : Option X) (text : List ℕ) → k < 8 → P v text
    → SpellThere (nat_lt k (item_count p)) P v text
item_there k p P v text low s =
    let least = count_low p in
    let test : nat_lt k (item_count p) ≡ true = lt-ltb _ _ (omega arith) in
    rw test s

-- the items after the version, one after the other
abbrev in_turn : InternalMetaV2 → List ℕ
in_turn m =
    moment_of m.fresh_until ++ (moment_of m.created ++ (moment_of m.updated
    ++ (shortest numbers m.stale_while_revalidate_sec ++ (shortest numbers m.stale_if_error_sec
    ++ (optional_hash_of m.variance ++ (optional_moment_of m.epoch_override ++ provenance_of m.provenance))))))

regrouped : (a b c d e rest : List ℕ) → (a ++ (b ++ (c ++ (d ++ e)))) ++ rest ≡ a ++ (b ++ (c ++ (d ++ (e ++ rest))))
regrouped a b c d e rest = simp append_assoc

in_turn-is : (m : InternalMetaV2) → required_of m ++ optional_of m ≡ in_turn m
in_turn-is m =
    regrouped (moment_of m.fresh_until) (moment_of m.created) (moment_of m.updated)
    (shortest numbers m.stale_while_revalidate_sec) (shortest numbers m.stale_if_error_sec) (optional_of m)

items_spelled : (m : InternalMetaV2) → IsMeta m → IsWritable m → SpellsV2 (item_count m.provenance) m (in_turn m)
items_spelled m is since = (
  _,
  _,
  moment_written m.fresh_until is.fresh_until since.fresh_until,
  (
    _,
    _,
    moment_written m.created is.created since.created,
    (
      _,
      _,
      moment_written m.updated is.updated since.updated,
      (
        _,
        _,
        seconds_written m.stale_while_revalidate_sec is.revalidate,
        (
          _,
          _,
          seconds_written m.stale_if_error_sec is.error,
          (
            _,
            _,
            item_there 6 m.provenance SpellsOptionalHash m.variance (optional_hash_of m.variance) (omega arith) (optional_hash_spelled m.variance is.variance),
            (
              _,
              _,
              item_there 7 m.provenance SpellsOptionalMoment m.epoch_override (optional_moment_of m.epoch_override) (omega arith) (optional_written m.epoch_override is.epoch_override since.epoch_override),
              ninth_there m.provenance is.provenance since.provenance,
              refl,
            ),
            refl,
          ),
          refl,
        ),
        refl,
      ),
      refl,
    ),
    refl,
  ),
  refl,
)

pub written_spelled : (m : InternalMetaV2) → IsMeta m → IsWritable m → SpellsMeta m (written_meta m)
unfolding written_meta
written_spelled m is since =
    let low = count_low m.provenance in
    let high = count_high m.provenance in
    let fits : item_count m.provenance < 2 ^ 32 = omega arith in
    inr (inr (
      item_count m.provenance,
      omega (arith, low),
      high,
      (
        shortest arrays (item_count m.provenance),
        2 ∷ (required_of m ++ optional_of m),
        array_spelled (item_count m.provenance) fits,
        (required_of m ++ optional_of m, rw (in_turn-is m) (items_spelled m is since), refl),
        refl,
      ),
    ))

-- ---- at least ten bytes

behind_some : (fs : List Form) (n : ℕ) (text : List ℕ) → StandsBehind fs n text → 1 ≤ length text
behind_some [] n text s = absurd s
behind_some (f ∷ fs) n text s =
    elim s [
      | inl here ↦
          let len : length text ≡ suc (length (to_be_bytes f.width n)) = ap length here.1 in
          omega arith
      | inr later ↦ behind_some fs n text later
    ]

stands_some : (forms : Forms) (n : ℕ) (text : List ℕ) → Stands forms n text → 1 ≤ length text
stands_some forms n text s =
    elim s [
      | inl here ↦
          let len : length text ≡ 1 = ap length here.1 in
          omega arith
      | inr later ↦ behind_some forms.wide n text later
    ]

-- a moment has at least three bytes
moment_long : (t : MomentValue) (text : List ℕ) → SpellsMoment t text → 3 ≤ length text
moment_long t text s =
    let len : length text ≡ length (s.head ++ (s.first ++ s.behind)) = ap length s.parts in
    omega (
      arith,
      stands_some arrays 2 s.head s.array,
      stands_some numbers s.s s.first s.seconds,
      stands_some numbers s.n s.behind s.nanoseconds,
      length-append s.head (s.first ++ s.behind),
      length-append s.first s.behind,
    )

long : (head a b c d rest : List ℕ) → 3 ≤ length a → 3 ≤ length b → 3 ≤ length c → least_len ≤ length ((head ++ (2 ∷ (a ++ (b ++ (c ++ d))))) ++ rest)
long head a b c d rest x y z =
    omega (
      arith,
      length-append (head ++ (2 ∷ (a ++ (b ++ (c ++ d))))) rest,
      length-append head (2 ∷ (a ++ (b ++ (c ++ d)))),
      length-append a (b ++ (c ++ d)),
      length-append b (c ++ d),
      length-append c d,
    )

pub written_long : (m : InternalMetaV2) (rest : List ℕ) → IsMeta m → IsWritable m → IsLongEnough (written_meta m ++ rest)
unfolding written_meta
written_long m rest is since =
    rw (in_turn-is m) (
    long (shortest arrays (item_count m.provenance)) (moment_of m.fresh_until) (moment_of m.created) (moment_of m.updated) _ rest
    (moment_long m.fresh_until _ (moment_written m.fresh_until is.fresh_until since.fresh_until))
    (moment_long m.created _ (moment_written m.created is.created since.created))
    (moment_long m.updated _ (moment_written m.updated is.updated since.updated)))

pub written_again : (m : InternalMetaV2) (rest : List ℕ) → IsMeta m → IsWritable m → meta_at (written_meta m ++ rest) ≡ Ok (m, rest)
written_again m rest is since = meta_again m (written_meta m) rest (written_long m rest is since) (written_spelled m is since)
