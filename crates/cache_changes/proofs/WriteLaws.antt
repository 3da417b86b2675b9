-- What is known of a write, found change by change, is what the changes say of it.
use Rattle.std.proofs.Common.{◌≡◌, ℕ, ◌<◌, ◌≤◌, refl, ap, sym, ◌∙◌, true, false, subst, cond, [], ◌∷◌, ◌++◌, ◌||◌, ◌&&◌, arith, inl, inr}
use Rattle.std.specs.Prelude.{Bool, ◌==◌, Option, Some, None, option_map, not}
use Rattle.std.specs.List.{AllByRecursion}
use Rattle.std.proofs.lemmas.Bool.{eqb-true}
use Rattle.std.proofs.lemmas.Bool.Decides.{nat_tests}
use Rattle.cache_changes.specs.Changes.{Write, Change, Changes, begins, appends, ends, renews}
use Rattle.cache_changes.specs.Writes.{bytes_of, has_ended, meta_of, removes_key, lands, leaves_write, IsInFlight, IsAlive, BeginsBelow, IsNumberInFlight, MayCome, IsOrderly, HasBegun}
use Rattle.cache_changes.proofs.RowLaws.{not_false, was_false}

-- the write of a number, whether it is in flight, and whether it is alive
pub record Life (M : Type 0) : Type 0 where
  pub write : Write M
  pub flies : Bool
  pub alive : Bool

abbrev pub begun_by : {M : Type 0} → ℕ → Change M → Option (Write M)
begun_by n (begins w) = cond (n == w.number) (Some w) None
begun_by n _ = None

abbrev pub lived : {M : Type 0} → Change M → Life M → Life M
lived c x = record {
  write = x.write;
  flies = x.flies && not (lands x.write.number c);
  alive = x.alive && not (removes_key x.write.key c || leaves_write x.write.number c);
}

abbrev pub life_by : {M : Type 0} → Option (Write M) → Change M → Option (Life M) → Option (Life M)
life_by (Some w) c old = Some (record { write = w; flies = true; alive = true })
life_by None c old = option_map (lived c) old

-- what is known of the write of a number
abbrev pub life : {M : Type 0} → ℕ → Changes M → Option (Life M)
life n [] = None
life n (c ∷ before) = life_by (begun_by n c) c (life n before)

-- tests
pub same_number : (n : ℕ) → (n == n) ≡ true
same_number n = grind (arith, nat_tests)

pub below_apart : (m n : ℕ) → m < n → (m == n) ≡ false
below_apart m n h = grind (arith, nat_tests)

pub above_apart : (m n : ℕ) → m < n → (n == m) ≡ false
above_apart m n h = grind (arith, nat_tests)

pub and_true : (x y : Bool) → (x && y) ≡ true → (x ≡ true) × (y ≡ true)
and_true true y e = (refl, e)
and_true false y e = absurd cc

pub both_true : (x y : Bool) → x ≡ true → y ≡ true → (x && y) ≡ true
both_true x y e f = rw (e, f) refl

pub neither : (x y : Bool) → not (x || y) ≡ true → (x ≡ false) × (y ≡ false)
neither true y e = absurd cc
neither false true e = absurd cc
neither false false e = (refl, refl)

pub not_either : (x y : Bool) → x ≡ false → y ≡ false → not (x || y) ≡ true
not_either x y e f = rw (e, f) refl

abbrev pub flight_began : {M : Type 0} (w : Write M) (changes : Changes M) → IsInFlight w changes → HasBegun w changes
flight_began w changes f = record { since = f.since; before = f.before; split = f.split }

abbrev pub alive_began : {M : Type 0} (w : Write M) (changes : Changes M) → IsAlive w changes → HasBegun w changes
alive_began w changes a = record { since = a.since; before = a.before; split = a.split }

pub began_more : {M : Type 0} (w : Write M) (c : Change M) (changes : Changes M) → HasBegun w changes → HasBegun w (c ∷ changes)
began_more {M = M} w c changes b = record { since = c ∷ b.since; before = b.before; split = ap (λ (l : Changes M). c ∷ l) b.split }

pub began_later : {M : Type 0} (w : Write M) (since changes : Changes M) → HasBegun w changes → HasBegun w (since ++ changes)
began_later w [] changes b = b
began_later w (c ∷ since) changes b = began_more w c (since ++ changes) (began_later w since changes b)

below_since : {M : Type 0} (n : ℕ) (w : Write M) (since before : Changes M) → AllByRecursion (BeginsBelow n) (since ++ begins w ∷ before) → w.number < n
below_since n w [] before h = h.0
below_since n w (c ∷ since) before h = below_since n w since before h.1

pub began_below : {M : Type 0} (n : ℕ) (w : Write M) (changes : Changes M) → AllByRecursion (BeginsBelow n) changes → HasBegun w changes → w.number < n
began_below {M = M} n w changes h b = below_since n w b.since b.before (subst (λ (l : Changes M). AllByRecursion (BeginsBelow n) l) b.split h)

-- no number begins twice
pub begun_none : {M : Type 0} (w : Write M) (c : Change M) (changes : Changes M) → MayCome c changes → HasBegun w changes → begun_by w.number c ≡ None
begun_none w (begins v) changes m b = rw (below_apart w.number v.number (began_below v.number w changes m b)) refl
begun_none w _ changes m b = refl

-- what is known of a write that began
pub record FoundLife {M : Type 0} (w : Write M) (since changes : Changes M) : Type 0 where
  pub flies : Bool
  pub alive : Bool
  pub is : life w.number changes ≡ Some (record { write = w; flies = flies; alive = alive })
  pub flew : AllByRecursion (λ c. lands w.number c ≡ false) since → flies ≡ true
  pub kept : AllByRecursion (λ c. removes_key w.key c ≡ false) since → AllByRecursion (λ c. leaves_write w.number c ≡ false) since → alive ≡ true

life-since : {M : Type 0} (w : Write M) (since before : Changes M) → IsOrderly (since ++ begins w ∷ before) → FoundLife w since (since ++ begins w ∷ before)
life-since w [] before o = record {
  flies = true;
  alive = true;
  is = ap (λ t. life_by (cond t (Some w) None) (begins w) (life w.number before)) (same_number w.number);
  flew = λ h. refl;
  kept = λ h k. refl;
}
life-since {M = M} w (c ∷ since) before o =
    let rest = life-since w since before o.1 in
    let none : begun_by w.number c ≡ None = begun_none w c (since ++ begins w ∷ before) o.0 (record { since = since; before = before; split = refl }) in
    record {
      flies = rest.flies && not (lands w.number c);
      alive = rest.alive && not (removes_key w.key c || leaves_write w.number c);
      is = ap (λ (x : Option (Write M)). life_by x c (life w.number (since ++ begins w ∷ before))) none ∙ ap (option_map (lived c)) rest.is;
      flew = λ h. both_true rest.flies _ (rest.flew h.1) (not_false (lands w.number c) h.0);
      kept = λ h k. both_true rest.alive _ (rest.kept h.1 k.1) (not_either (removes_key w.key c) (leaves_write w.number c) h.0 k.0);
    }

pub life-began : {M : Type 0} (w : Write M) (changes : Changes M) → IsOrderly changes → (b : HasBegun w changes) → FoundLife w b.since changes
life-began {M = M} w changes o b = subst (λ (l : Changes M). FoundLife w b.since l) (sym b.split) (life-since w b.since b.before (subst (λ (l : Changes M). IsOrderly l) b.split o))

-- a write in flight, and one that is alive
pub life-flies : {M : Type 0} (w : Write M) (changes : Changes M) → IsOrderly changes → IsInFlight w changes
    → (a : Bool) × (life w.number changes ≡ Some (record { write = w; flies = true; alive = a }))
life-flies {M = M} w changes o f =
    let found = life-began w changes o (flight_began w changes f) in
    (found.alive, subst (λ (x : Bool). life w.number changes ≡ Some (record { write = w; flies = x; alive = found.alive })) (found.flew f.flies) found.is)

pub life-alive : {M : Type 0} (w : Write M) (changes : Changes M) → IsOrderly changes → IsAlive w changes
    → (f : Bool) × (life w.number changes ≡ Some (record { write = w; flies = f; alive = true }))
life-alive {M = M} w changes o a =
    let found = life-began w changes o (alive_began w changes a) in
    (found.flies, subst (λ (x : Bool). life w.number changes ≡ Some (record { write = w; flies = found.flies; alive = x })) (found.kept a.kept a.held) found.is)

-- what is known of a number reports of its write
pub record Lived {M : Type 0} (n : ℕ) (x : Life M) (changes : Changes M) : Type 0 where
  pub number : n ≡ x.write.number
  pub since : Changes M
  pub before : Changes M
  pub split : changes ≡ since ++ begins x.write ∷ before
  pub flew : x.flies ≡ true → AllByRecursion (λ c. lands x.write.number c ≡ false) since
  pub kept : x.alive ≡ true → AllByRecursion (λ c. removes_key x.write.key c ≡ false) since
  pub held : x.alive ≡ true → AllByRecursion (λ c. leaves_write x.write.number c ≡ false) since

lived_more : {M : Type 0} (n : ℕ) (x : Life M) (c : Change M) (changes : Changes M) → Lived n x changes → Lived n (lived c x) (c ∷ changes)
lived_more {M = M} n x c changes h = record {
  number = h.number;
  since = c ∷ h.since;
  before = h.before;
  split = ap (λ (l : Changes M). c ∷ l) h.split;
  flew = λ t. let p = and_true x.flies _ t in (was_false (lands x.write.number c) p.1, h.flew p.0);
  kept = λ t. let p = and_true x.alive _ t in ((neither (removes_key x.write.key c) _ p.1).0, h.kept p.0);
  held = λ t. let p = and_true x.alive _ t in ((neither (removes_key x.write.key c) _ p.1).1, h.held p.0);
}

begun_is : {M : Type 0} (n : ℕ) (c : Change M) (w : Write M) → begun_by n c ≡ Some w → (c ≡ begins w) × (n ≡ w.number)
begun_is {M = M} n (begins v) w e = by_test (n == v.number) refl e
  where
    by_test : (t : Bool) → (n == v.number) ≡ t → cond t (Some v) None ≡ Some w → (begins v ≡ begins w) × (n ≡ w.number)
    by_test true f e = let same : v ≡ w = cc in (ap (λ (x : Write M). begins x) same, eqb-true n v.number f ∙ ap (λ (x : Write M). x.number) same)
    by_test false f e = absurd cc
begun_is n _ w e = absurd cc

pub life-tells : {M : Type 0} (n : ℕ) (changes : Changes M) (x : Life M) → life n changes ≡ Some x → Lived n x changes
life-tells n [] x e = absurd cc
life-tells {M = M} n (c ∷ before) x e = by_begun (begun_by n c) refl (life n before) (life-tells n before) e
  where
    by_begun : (b : Option (Write M)) → begun_by n c ≡ b → (old : Option (Life M)) → ((y : Life M) → old ≡ Some y → Lived n y before) → life_by b c old ≡ Some x → Lived n x (c ∷ before)
    by_begun (Some w) is old ih e =
        let began = begun_is n c w is in
        let same : record { write = w; flies = true; alive = true } ≡ x = cc in
        subst (λ (y : Life M). Lived n y (c ∷ before)) same (record {
          number = began.1;
          since = [];
          before = before;
          split = ap (λ (d : Change M). d ∷ before) began.0;
          flew = λ t. tt;
          kept = λ t. tt;
          held = λ t. tt;
        })
    by_begun None is None ih e = absurd cc
    by_begun None is (Some y) ih e = let same : lived c y ≡ x = cc in subst (λ (z : Life M). Lived n z (c ∷ before)) same (lived_more n y c before (ih y refl))

pub is_flight : {M : Type 0} (n : ℕ) (changes : Changes M) (x : Life M) → life n changes ≡ Some x → x.flies ≡ true → IsInFlight x.write changes
is_flight n changes x e t = let h = life-tells n changes x e in record { since = h.since; before = h.before; split = h.split; flies = h.flew t }

pub is_alive : {M : Type 0} (n : ℕ) (changes : Changes M) (x : Life M) → life n changes ≡ Some x → x.alive ≡ true → IsAlive x.write changes
is_alive n changes x e t = let h = life-tells n changes x e in record { since = h.since; before = h.before; split = h.split; kept = h.kept t; held = h.held t }

pub life_number : {M : Type 0} (n : ℕ) (changes : Changes M) (x : Life M) → life n changes ≡ Some x → n ≡ x.write.number
life_number n changes x e = (life-tells n changes x e).number

-- a number that no change names
flies_below : {M : Type 0} (m n : ℕ) (changes : Changes M) → AllByRecursion (BeginsBelow n) changes → IsNumberInFlight m changes → m < n
flies_below m n changes h f = subst (λ (k : ℕ). k < n) f.1 (began_below n f.0 changes h (flight_began f.0 changes f.2))

named_below : {M : Type 0} (m n : ℕ) (meta : M) (changes : Changes M) → AllByRecursion (BeginsBelow n) changes → MayCome (renews m meta) changes → m < n
named_below m n meta changes h may = elim may [
  | inl f ↦ flies_below m n changes h f
  | inr s ↦ subst (λ (k : ℕ). k < n) s.1 (began_below n s.0 changes h (alive_began s.0 changes s.2.alive))
]

begun_below : {M : Type 0} (n : ℕ) (c : Change M) → BeginsBelow n c → begun_by n c ≡ None
begun_below n (begins v) h = rw (above_apart v.number n h) refl
begun_below n _ h = refl

pub fresh_life : {M : Type 0} (n : ℕ) (changes : Changes M) → AllByRecursion (BeginsBelow n) changes → life n changes ≡ None
fresh_life n [] h = refl
fresh_life n (c ∷ before) h = rw (begun_below n c h.0, fresh_life n before h.1) refl

pub fresh_bytes : {M : Type 0} (n : ℕ) (changes : Changes M) → AllByRecursion (BeginsBelow n) changes → IsOrderly changes → bytes_of n changes ≡ []
fresh_bytes n [] h o = refl
fresh_bytes n (appends m bytes ∷ before) h o = rw (below_apart m n (flies_below m n before h.1 o.0.0)) (fresh_bytes n before h.1 o.1)
fresh_bytes n (_ ∷ before) h o = fresh_bytes n before h.1 o.1

pub fresh_end : {M : Type 0} (n : ℕ) (changes : Changes M) → AllByRecursion (BeginsBelow n) changes → IsOrderly changes → has_ended n changes ≡ false
fresh_end n [] h o = refl
fresh_end n (ends m ∷ before) h o = rw (below_apart m n (flies_below m n before h.1 o.0)) (fresh_end n before h.1 o.1)
fresh_end n (_ ∷ before) h o = fresh_end n before h.1 o.1

pub fresh_meta : {M : Type 0} (w : Write M) (changes : Changes M) → AllByRecursion (BeginsBelow w.number) changes → IsOrderly changes → meta_of w changes ≡ w.meta
fresh_meta w [] h o = refl
fresh_meta w (renews m meta ∷ before) h o = rw (below_apart m w.number (named_below m w.number meta before h.1 o.0)) (fresh_meta w before h.1 o.1)
fresh_meta w (_ ∷ before) h o = fresh_meta w before h.1 o.1

-- numbers below a bound are below a greater one
begins_less : {M : Type 0} (m n : ℕ) (c : Change M) → m ≤ n → BeginsBelow m c → BeginsBelow n c
begins_less m n (begins w) h b = omega (arith, h, b)
begins_less m n _ h b = tt

pub all_begin_less : {M : Type 0} (m n : ℕ) (changes : Changes M) → m ≤ n → AllByRecursion (BeginsBelow m) changes → AllByRecursion (BeginsBelow n) changes
all_begin_less m n [] h b = tt
all_begin_less m n (c ∷ before) h b = (begins_less m n c h b.0, all_begin_less m n before h b.1)
