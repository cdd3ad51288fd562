-- Signed numbers of a control payload, and the message by its cases. Assumes nothing.
use Rattle.std.proofs.Common.{None, Some}
use mathlib.Core.Path.{◌≡◌, refl, ap, ◌∙◌}
use mathlib.Core.Bool.{Bool, true, false, ◌&&◌}
use mathlib.Core.List.{List}
use Prim.Native.Nat.{ℕ, suc, ◌≤◌, ◌<◌}
use native.Mathlib.Omega.{arith}
use lib.ListN.{length, get_or}
use lib.IntN.{ℤ, pos, negsuc, ◌-ℤ◌, +ℤ_idl}
use lib.Ieee.{Float, binary64, of_bits, of_int, round}
use borrow.Author.Tests.{eq-eqb, ne_eqb, lt-ltb, le-ltb}
use mir.Syntax.{w32}
use mir.Val.{to_z}
use mir.ValLaws.{to_z_pos}
use Rattle.floats.specs.Number.{num}
use Rattle.limits.specs.Answer.{accepted}
use Rattle.endian.specs.Bytes.{number_at}
use Rattle.frame.specs.Control.{minus, celsius, rssi_of, control_from, control_of, said}
use Rattle.frame.specs.declared.control.ControlMessage.TheVariants.{KeepAlive, DownlinkConfirmation}

pub minus_is : (k : ℕ) → k < 65536 → pos 0 -ℤ to_z w32 (suc k) ≡ negsuc k
minus_is k h = ap (λ (z : ℤ). pos 0 -ℤ z) (to_z_pos w32 (suc k) (omega arith)) ∙ +ℤ_idl (negsuc k)

pub rssi-low : (b : ℕ) → b < 128 → minus b 100 ≡ rssi_of b
unfolding rssi_of
rssi-low b h = simp (lt-ltb b 128 h)

pub rssi-high : (b : ℕ) → 128 ≤ b → minus b 356 ≡ rssi_of b
unfolding rssi_of
rssi-high b h = simp (le-ltb b 128 h)

pub ten : of_bits binary64 0x4024_0000_0000_0000 ≡ num 10
unfolding of_bits of_int round
ten = refl

both_false : (a : Bool) → a && false ≡ false
both_false true = refl
both_false false = refl

module _ (l : List ℕ) where
  pub control-keep : (a b : ℕ) (t : Float) → length l ≡ 7 → get_or l 0 0 ≡ 8 → a ≡ number_at 2 l 1 → b ≡ number_at 2 l 3 → t ≡ celsius (number_at 2 l 5) → said (Some (KeepAlive a b t)) ≡ accepted (control_of l)
  unfolding said control_of control_from
  control-keep a b t e f x y z = rw (x, y, z) (simp (eq-eqb (length l) 7 e, eq-eqb (get_or l 0 0) 8 f))

  pub control_confirm : (a b : ℕ) (t : Float) (r : ℤ) → length l ≡ 8 → get_or l 0 0 ≡ 9 → a ≡ number_at 2 l 1 → b ≡ number_at 2 l 3 → t ≡ celsius (number_at 2 l 5) → r ≡ rssi_of (get_or l 7 0)
      → said (Some (DownlinkConfirmation a b t r)) ≡ accepted (control_of l)
  unfolding said control_of control_from
  control_confirm a b t r e f x y z w =
      rw (x, y, z, w) (simp (ne_eqb (length l) 7 (λ g. omega (arith, e, g)), eq-eqb (length l) 8 e, eq-eqb (get_or l 0 0) 9 f))

  pub control_other : length l ≡ 8 → (get_or l 0 0 ≡ 9 → ⊥) → said None ≡ accepted (control_of l)
  unfolding said control_of control_from
  control_other e f = simp (ne_eqb (length l) 7 (λ g. omega (arith, e, g)), ne_eqb (get_or l 0 0) 9 f, both_false)

  pub control-length : (length l ≡ 7 → ⊥) → (length l ≡ 8 → ⊥) → said None ≡ accepted (control_of l)
  unfolding said control_of control_from
  control-length e f = simp (ne_eqb (length l) 7 e, ne_eqb (length l) 8 f)

  pub control-seven : (get_or l 0 0 ≡ 8 → ⊥) → (length l ≡ 8 → ⊥) → said None ≡ accepted (control_of l)
  unfolding said control_of control_from
  control-seven e f = simp (ne_eqb (get_or l 0 0) 8 e, ne_eqb (length l) 8 f, both_false)
