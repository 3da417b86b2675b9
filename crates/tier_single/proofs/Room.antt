-- What a field takes in memory, of a struct that fits there.
use Rattle.std.proofs.Common.{◌≡◌, ℕ, ◌<◌, ◌^◌}
use mathlib.Core.Option.{some}
use mir.Syntax.{Ty}
use prog.Memory.{field_of, size}
use borrow.Rule.Slice.AtParam.{field_room}

-- a field of a field
pub inner_room : (σ : Ty) (k j : ℕ) (τ : Ty) (d : ℕ) → field_of σ k ≡ some (τ, d) → (υ : Ty) (e : ℕ) → field_of τ j ≡ some (υ, e) → size σ < 2 ^ 63 → size υ < 2 ^ 63
inner_room σ k j τ d at υ e within h = field_room τ j υ e within (field_room σ k τ d at h)
