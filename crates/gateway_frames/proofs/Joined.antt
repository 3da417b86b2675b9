-- The pieces of an answer by parts, one after the other.
use Rattle.std.proofs.Common.{◌≡◌, refl, sym, ap, ◌∙◌, ℕ, ◌+◌, ◌-◌, ◌<◌, min, List, [], ◌∷◌, ◌++◌, length, map, get_or, take, drop, slice_range, arith, length-drop}
use Rattle.std.proofs.lemmas.List.{drop_more, take_min, append-nil}
use Rattle.std.specs.Prelude.{Option, Some, None}
use Rattle.std.specs.List.{concat}
use Rattle.std.specs.Option.{option_map_or}
use Rattle.gateway_frames.specs.declared.parts.Part.{Part}
use Rattle.gateway_frames.specs.Parts.{body_piece, part_pieces}
use Rattle.gateway_frames.specs.Sent.{bytes_of, by_parts, part_end}

-- a range that ends behind the body ends with it
range_within : (body : List ℕ) (from to : ℕ) → slice_range body from (min to (length body)) ≡ slice_range body from to
range_within body from to =
    let part = drop from body in
    let len : length part ≡ length body - from = length-drop from body in
    let size : min to (length body) - from ≡ min (to - from) (length part) = omega arith in
    ap (λ n. take n part) size ∙ take_min (to - from) part

body_is : (texts : List (List ℕ)) (body after : List ℕ) (part : Part)
    → bytes_of texts body after (body_piece (length body) part) ≡ slice_range body part.from (part_end part.to body)
body_is texts body after part = go part.to
  where
    go : (to : Option ℕ) → slice_range body part.from (option_map_or (λ n. min n (length body)) to (length body)) ≡ slice_range body part.from (part_end to body)
    go None = refl
    go (Some n) = range_within body part.from n

-- from the text of this number on
joined : (parts : List Part) (texts : List (List ℕ)) (body after : List ℕ) (n : ℕ) → length texts ≡ n + length parts
    → concat (map (bytes_of texts body after) (part_pieces n (length body) parts)) ≡ by_parts (drop n texts) body after parts
joined [] texts body after n h = append-nil after ∙ sym (none_left (drop n texts))
  where
    none_left : (left : List (List ℕ)) → by_parts left body after [] ≡ after
    none_left [] = refl
    none_left (t ∷ left) = refl
joined (part ∷ parts) texts body after n h =
    let some : n < length texts = omega arith in
    let next : length texts ≡ n + 1 + length parts = omega arith in
    let behind = concat (map (bytes_of texts body after) (part_pieces (n + 1) (length body) parts)) in
    ap (λ t. get_or texts n [] ++ (t ++ behind)) (body_is texts body after part)
    ∙ ap (λ t. get_or texts n [] ++ (slice_range body part.from (part_end part.to body) ++ t)) (joined parts texts body after (n + 1) next)
    ∙ ap (λ left. by_parts left body after (part ∷ parts)) (sym (drop_more texts n [] some))

pub parts_are : (parts : List Part) (texts : List (List ℕ)) (body after : List ℕ) → length texts ≡ length parts
    → concat (map (bytes_of texts body after) (part_pieces 0 (length body) parts)) ≡ by_parts texts body after parts
parts_are parts texts body after h = joined parts texts body after 0 (omega (arith, h))
