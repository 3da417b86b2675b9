-- A host in two pieces: its name and its port.
use Rattle.std.proofs.Common.{◌≡◌, ℕ, List, [], ◌∷◌, ◌++◌, suc, refl, sym, ap, ◌∙◌, Bool, true, false, ◌&&◌, ◌==◌, length, take, drop, map}
use Rattle.std.specs.Prelude.{bytes_eq}
use Rattle.std.specs.Char.{to_ascii_lowercase}
use Rattle.rules_fields.specs.Texts.{small}
use Rattle.http1_message_parts.specs.Host.{port_place, told_port, normal_host}

and_more : (a b c : Bool) → (a && (b && c)) ≡ ((a && b) && c)
and_more true b c = refl
and_more false b c = refl

-- a text in two pieces is one that begins with the first and goes on with the second
pub in_pieces : (a b h : List ℕ) → bytes_eq (a ++ b) h ≡ (bytes_eq a (take (length a) h) && bytes_eq b (drop (length a) h))
in_pieces [] b h = refl
in_pieces (x ∷ a) b [] = refl
in_pieces (x ∷ a) b (y ∷ h) =
    ap (λ t. (x == y) && t) (in_pieces a b h) ∙ and_more (x == y) (bytes_eq a (take (length a) h)) (bytes_eq b (drop (length a) h))

small_length : (a : List ℕ) → length (small a) ≡ length a
small_length [] = refl
small_length (x ∷ a) = ap (λ (n : ℕ). suc n) (small_length a)

pub same_host : (scheme text host name port front back : List ℕ) → name ≡ take (port_place text) text → port ≡ drop (port_place text) text
    → front ≡ take (length name) host → back ≡ drop (length name) host
    → bytes_eq (normal_host scheme text) host ≡ (bytes_eq (small name) front && bytes_eq (told_port scheme port) back)
same_host scheme text host name port front back n p f b =
    ap (λ t. bytes_eq (small t ++ told_port scheme (drop (port_place text) text)) host) (sym n)
    ∙ ap (λ t. bytes_eq (small name ++ told_port scheme t) host) (sym p)
    ∙ in_pieces (small name) (told_port scheme port) host
    ∙ ap (λ (k : ℕ). bytes_eq (small name) (take k host) && bytes_eq (told_port scheme port) (drop k host)) (small_length name)
    ∙ ap (λ t. bytes_eq (small name) t && bytes_eq (told_port scheme port) (drop (length name) host)) (sym f)
    ∙ ap (λ t. bytes_eq (small name) front && bytes_eq (told_port scheme port) t) (sym b)
