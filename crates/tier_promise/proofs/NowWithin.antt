-- The bodies that a lawful history leaves keep both limits: they are those that the state holds, which keeps them.
use Rattle.std.proofs.Common.{◌≡◌, ℕ, ◌+◌, ◌≤◌, refl, ap, sym, ◌∙◌, false, subst, [], ◌∷◌, length}
use Rattle.std.specs.Prelude.{suc, Bool, List, Option, Some, None, map, IfSome}
use Rattle.std.specs.FinMap.{get}
use Rattle.std.specs.List.{AllByRecursion, sum_by}
use Rattle.std.proofs.lemmas.List.Sums.{sum_by-cons}
use Rattle.cache_entries.specs.Keys.{same_bytes}
use Rattle.cache_entries.specs.SameEntry.{same_bytes-tells}
use Rattle.cache_heads.specs.Meta.{meta_weight}
use Rattle.cache_changes.specs.Changes.{StoredKey, Changes}
use Rattle.cache_changes.specs.Changes as kept
use Rattle.cache_changes.specs.Writes.{IsBody}
use Rattle.cache_changes.specs.Bound.{measure_of, HasDistinctKeys}
use Rattle.cache_changes.specs.Bound as bound
use Rattle.cache_changes.specs.Store.{Stored, store_of, body_at}
use Rattle.cache_changes.proofs.FoundLaws.{store_of-is}
use Rattle.tier_model.specs.Calls.{History}
use Rattle.tier_model.specs.Histories.{Kept, Opening, counts, changes_of}
use Rattle.tier_model.specs.Past.{state_of, IsLawful}
use Rattle.tier_model.specs.Rows.{Numbered, size_of}
use Rattle.tier_model.specs.State.{State}
use Rattle.tier_model.proofs.BodyLaws.{view, AreSame}
use Rattle.tier_model.proofs.StandLaws.{Stands, Stands-lawful}
use Rattle.tier_promise.specs.Promise as promise
use Rattle.tier_promise.specs.Promise.{Write, as_body, bytes_of, is_done, body_of, now_of, AreApart, AreWithin}
use Rattle.tier_promise.proofs.NowFits.{Numbers, Told, BodyFits}
use Rattle.tier_promise.proofs.NowAll.{NowFits-lawful}

-- bodies of the history keep both limits: the state's do
within-stands : (start : Opening) (h : History) → IsLawful start h → bound.AreWithin counts start.settings.limit start.settings.watermark (changes_of start h)
within-stands start h l =
    let past : Stands start (state_of start h) h = Stands-lawful start h l in
    subst (λ (x : ℕ). bound.AreWithin counts x start.settings.watermark (changes_of start h)) past.made.limit
    (subst (λ (x : Option ℕ). bound.AreWithin counts (state_of start h).managed.limit x (changes_of start h)) past.made.watermark past.holds.within)

held_there : (b : Numbered) (x : Option (Stored Kept)) → AreSame (Some b) x → (y : Stored Kept) × (x ≡ Some y) × (view y ≡ b)
held_there b None e = absurd cc
held_there b (Some y) e = (y, refl, cc)

-- a body of the changes is held
pub both-held : (numbers : Numbers) (bytes : ℕ → List ℕ) (done : ℕ → Bool) (k : StoredKey) (x : Option Numbered) (w : Write) → BodyFits numbers bytes done k x (Some w)
    → (b : Numbered) × (x ≡ Some b) × (b.body.bytes ≡ bytes w.number) × (b.body.meta ≡ w.meta)
both-held numbers bytes done k None w f = absurd f
both-held numbers bytes done k (Some b) w f = (b, refl, f.1, ap (λ (t : Told). t.meta) f.0)

-- writes of keys that are apart
distinct : (vs : List (kept.Write Kept)) → AreApart (map (λ v. v.key) vs) → HasDistinctKeys vs
distinct [] a = tt
distinct (v ∷ vs) a = (others vs a.0, distinct vs a.1)
  where
    others : (us : List (kept.Write Kept)) → AllByRecursion (λ j. same_bytes j v.key ≡ false) (map (λ u. u.key) us) → AllByRecursion (λ u. same_bytes u.key v.key ≡ false) us
    others [] h = tt
    others (u ∷ us) h = (h.0, others us h.1)

module _ (start : Opening) (h : History) (l : IsLawful start h) where
  abbrev s : State
  s = state_of start h

  abbrev c : promise.Changes
  c = (now_of start.settings start.loaded h).changes

  abbrev told : Changes Kept
  told = changes_of start h

  -- the write of the same body in the words of `cache_changes`
  record IsSame (k : StoredKey) (w : Write) (v : kept.Write Kept) : Type 0 where
    key : v.key ≡ k
    body : IsBody v.key v told
    size : measure_of counts v told ≡ size_of (as_body w c)

  same-of : (k : StoredKey) (w : Write) → body_of k c ≡ Some w → (v : kept.Write Kept) × IsSame k w v
  same-of k w e =
      let past : Stands start s h = Stands-lawful start h l in
      let fits = NowFits-lawful start h l in
      let held = both-held fits.numbers (λ m. bytes_of m c) (λ m. is_done m c) k (get s.shelf.bodies k) w
      (subst (λ (o : Option Write). BodyFits fits.numbers (λ m. bytes_of m c) (λ m. is_done m c) k (get s.shelf.bodies k) o) e (fits.shelf.bodies k)) in
      let b : Numbered = held.0 in
      let there = held_there b (body_at k (store_of told)) (sym held.1 ∙ past.holds.leaves.bodies k) in
      let y : Stored Kept = there.0 in
      let is = ((store_of-is told past.holds.leaves.orderly).bodies k y).0 there.1 in
      let key : y.write.key ≡ k = same_bytes-tells.equal y.write.key k is.0.of_key in
      let taken : length y.bytes + meta_weight y.meta.meta ≡ size_of b.body = ap (λ (x : Numbered). size_of x.body) there.2 in
      let bytes : size_of b.body ≡ length (bytes_of w.number c) + meta_weight b.body.meta = ap (λ (x : List ℕ). length x + meta_weight b.body.meta) held.2 in (
        y.write,
        record {
          key = key;
          body = subst (λ (j : StoredKey). IsBody j y.write told) (sym key) is.0;
          size = sym (ap (λ (x : Stored Kept). length x.bytes + meta_weight x.meta.meta) is.1) ∙ taken ∙ bytes ∙ ap (λ m. length (bytes_of w.number c) + meta_weight m) held.3;
        },
      )

  -- the same of all
  record AreSameBodies (keys : List StoredKey) (ws : List Write) (vs : List (kept.Write Kept)) : Type 0 where
    keys_of : map (λ v. v.key) vs ≡ keys
    bodies : AllByRecursion (λ v. IsBody v.key v told) vs
    sum : sum_by (λ v. measure_of counts v told) vs ≡ sum_by (λ w. size_of (as_body w c)) ws
    count : length vs ≡ length ws

  keys-both : (k : StoredKey) (keys : List StoredKey) (v : kept.Write Kept) (vs : List (kept.Write Kept)) → v.key ≡ k → map (λ u. u.key) vs ≡ keys → map (λ u. u.key) (v ∷ vs) ≡ k ∷ keys
  keys-both k keys v vs one rest = ap (λ (j : StoredKey). j ∷ map (λ u. u.key) vs) one ∙ ap (λ (js : List StoredKey). k ∷ js) rest

  sum-both : (v : kept.Write Kept) (vs : List (kept.Write Kept)) (w : Write) (ws : List Write) → measure_of counts v told ≡ size_of (as_body w c)
      → sum_by (λ u. measure_of counts u told) vs ≡ sum_by (λ u. size_of (as_body u c)) ws → sum_by (λ u. measure_of counts u told) (v ∷ vs) ≡ sum_by (λ u. size_of (as_body u c)) (w ∷ ws)
  sum-both v vs w ws one rest =
      sum_by-cons (λ (u : kept.Write Kept). measure_of counts u told) v vs ∙ ap (λ (n : ℕ). n + sum_by (λ u. measure_of counts u told) vs) one
      ∙ ap (λ n. size_of (as_body w c) + n) rest ∙ sym (sum_by-cons (λ (u : Write). size_of (as_body u c)) w ws)

  all-same : (keys : List StoredKey) (ws : List Write) → map (λ k. body_of k c) keys ≡ map Some ws → (vs : List (kept.Write Kept)) × AreSameBodies keys ws vs
  all-same [] [] e = ([], record { keys_of = refl; bodies = tt; sum = refl; count = refl })
  all-same [] (w ∷ ws) e = absurd cc
  all-same (k ∷ keys) [] e = absurd cc
  all-same (k ∷ keys) (w ∷ ws) e =
      let head : body_of k c ≡ Some w = cc in
      let tail : map (λ k. body_of k c) keys ≡ map Some ws = cc in
      let one = same-of k w head in
      let rest = all-same keys ws tail in
      let v : kept.Write Kept = one.0 in
      let vs : List (kept.Write Kept) = rest.0 in (
        v ∷ vs,
        record {
          keys_of = keys-both k keys v vs one.1.key rest.1.keys_of;
          bodies = (one.1.body, rest.1.bodies);
          sum = sum-both v vs w ws one.1.size rest.1.sum;
          count = ap suc rest.1.count;
        },
      )

  pub within-lawful : AreWithin start.settings c
  within-lawful keys apart ws e =
      let same = all-same keys ws e in
      let vs : List (kept.Write Kept) = same.0 in
      let kept_limits = (within-stands start h l) vs (distinct vs (subst AreApart (sym same.1.keys_of) apart)) same.1.bodies in (
        subst (λ (n : ℕ). n ≤ start.settings.limit) same.1.sum kept_limits.0,
        subst (λ (n : ℕ). IfSome start.settings.watermark (λ mark. n ≤ mark)) same.1.count kept_limits.1,
      )
