-- Metas whose moments take as many bytes are as long as they are written.
use Rattle.std.proofs.Common.{◌≡◌, ℕ, List, ◌++◌, ◌∷◌, length, refl, sym, ap, ◌∙◌}
use Rattle.std.specs.Prelude.{◌+◌, suc, nat_abs, Option}
use Rattle.std.proofs.lemmas.List.{length-append}
use Rattle.cache_words.specs.Forms.{shortest, numbers, arrays}
use Rattle.cache_words.specs.Pack.{moment_of, optional_hash_of}
use Rattle.cache_words.specs.Time.{MomentValue}
use Rattle.cache_words.specs.Items.{optional_moment_of}
use Rattle.head_metas.specs.declared.versions.InternalMetaV2.{InternalMetaV2}
use Rattle.head_metas.specs.Internal.{item_count, provenance_of, required_of, optional_of, written_meta}

-- two parts that are as long as two others
both : (xs ys zs ws : List ℕ) → length xs ≡ length zs → length ys ≡ length ws → length (xs ++ ys) ≡ length (zs ++ ws)
both xs ys zs ws h k = length-append xs ys ∙ (λ i. h i + k i) ∙ sym (length-append zs ws)

-- a moment with as many nanoseconds, and seconds that take as many bytes
pub moment-length : (s t : MomentValue) → length (shortest numbers (nat_abs s.seconds)) ≡ length (shortest numbers (nat_abs t.seconds)) → s.nanoseconds ≡ t.nanoseconds → length (moment_of s) ≡ length (moment_of t)
moment-length s t h e =
    ap suc (both (shortest numbers (nat_abs s.seconds)) (shortest numbers s.nanoseconds) (shortest numbers (nat_abs t.seconds)) (shortest numbers t.nanoseconds) h (ap (λ (n : ℕ). length (shortest numbers n)) e))

-- a meta with other moments that take as many bytes
pub mirrored-length : (m : InternalMetaV2) (f c u : MomentValue) (e p : Option MomentValue) → length (moment_of f) ≡ length (moment_of m.fresh_until) → length (moment_of c) ≡ length (moment_of m.created)
    → length (moment_of u) ≡ length (moment_of m.updated) → length (optional_moment_of e) ≡ length (optional_moment_of m.epoch_override) → length (provenance_of p) ≡ length (provenance_of m.provenance)
    → item_count p ≡ item_count m.provenance → length (written_meta (record m { fresh_until = f; created = c; updated = u; epoch_override = e; provenance = p })) ≡ length (written_meta m)
unfolding written_meta
mirrored-length m f c u e p fresh created updated epoch there count =
    both (shortest arrays (item_count p)) (2 ∷ (required_of n ++ optional_of n)) (shortest arrays (item_count m.provenance)) (2 ∷ (required_of m ++ optional_of m))
    (ap (λ (k : ℕ). length (shortest arrays k)) count) (ap suc (both (required_of n) (optional_of n) (required_of m) (optional_of m) required optional))
  where
    n : InternalMetaV2
    n = record m { fresh_until = f; created = c; updated = u; epoch_override = e; provenance = p }

    windows : List ℕ
    windows = shortest numbers m.stale_while_revalidate_sec ++ shortest numbers m.stale_if_error_sec

    required : length (required_of n) ≡ length (required_of m)
    required =
        both (moment_of f) (moment_of c ++ (moment_of u ++ windows)) (moment_of m.fresh_until) (moment_of m.created ++ (moment_of m.updated ++ windows)) fresh
        (both (moment_of c) (moment_of u ++ windows) (moment_of m.created) (moment_of m.updated ++ windows) created (both (moment_of u) windows (moment_of m.updated) windows updated refl))

    optional : length (optional_of n) ≡ length (optional_of m)
    optional =
        both (optional_hash_of m.variance) (optional_moment_of e ++ provenance_of p) (optional_hash_of m.variance) (optional_moment_of m.epoch_override ++ provenance_of m.provenance) refl
        (both (optional_moment_of e) (provenance_of p) (optional_moment_of m.epoch_override) (provenance_of m.provenance) epoch there)
