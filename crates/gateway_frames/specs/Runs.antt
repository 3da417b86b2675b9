-- A client is sent a part of a body as that comes, call by call.
use Rattle.std.specs.Prelude.{ℕ, ◌<◌, ◌≤◌, ◌≡◌, true, not, List, [], ◌∷◌, length, map, slice_range, Option, Some, None}
use Rattle.std.specs.List.{list_all}
use Rattle.gateway_frames.specs.declared.pieces.Came.{Came}
use Rattle.gateway_frames.specs.declared.pieces.Sending.{Sending}
use Rattle.gateway_frames.specs.declared.pieces.NextPiece.{NextPiece}
use Rattle.gateway_frames.specs.Pieces.{next_piece, is_complete}

-- what is known of the body at a call, and how much is wanted
pub record View : Type 0 where
  pub there : ℕ
  pub came : Came
  pub most : ℕ

-- that is so of a body: it has as many bytes as are there, and no more once it is complete
pub record IsOf (body : List ℕ) (view : View) : Type 0 where
  pub within : view.there ≤ length body
  pub all : is_complete view.came ≡ true → view.there ≡ length body

abbrev pub AreOf : List ℕ → List View → Type 0
AreOf body [] = Unit {0}
AreOf body (view ∷ views) = IsOf body view × AreOf body views

-- the body breaks off before the part ends: it is shorter, or never complete
abbrev pub BreaksOff : List ℕ → Option ℕ → List View → Type 0
BreaksOff body None views = list_all (λ view. not (is_complete view.came)) views ≡ true
BreaksOff body (Some to) views = length body < to

-- the ranges of the body that were sent, the place behind them, and what came of the last call
pub record Run : Type 0 where
  pub ranges : List (ℕ × ℕ)
  pub place : ℕ
  pub last : NextPiece

abbrev pub goes_on_by : NextPiece → ℕ → (ℕ → Run) → Run
goes_on_by (NextPiece.Bytes from to) place on = record (on to) { ranges = (from, to) ∷ (on to).ranges }
goes_on_by NextPiece.Wait place on = on place
goes_on_by last place on = record { ranges = []; place = place; last = last }

abbrev pub sending_at : ℕ → Option ℕ → View → Sending
sending_at place to view = record { place = place; to = to; there = view.there; came = view.came; most = view.most }

-- call by call, until one ends it
abbrev pub run : Option ℕ → ℕ → List View → Run
run to place [] = record { ranges = []; place = place; last = NextPiece.Wait }
run to place (view ∷ views) = goes_on_by (next_piece (sending_at place to view)) place (λ next. run to next views)

-- the bytes of these ranges
abbrev pub bytes_in : List ℕ → List (ℕ × ℕ) → List (List ℕ)
bytes_in body ranges = map (λ (range : ℕ × ℕ). slice_range body range.0 range.1) ranges
