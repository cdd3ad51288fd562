use mathlib.Core.Path.{◌≡◌, refl, sym, ap, ap₂, ◌∙◌}
use Prim.Native.Nat.{ℕ, ◌+◌, ◌-◌, ◌*◌, ◌≤◌}
use native.Mathlib.Omega.{arith}
use lib.Dec.{eqb}
use lib.ListN.{length, set, replicate}
use Rattle.coding.specs.Bits.{to_bytes}
use Rattle.coding.specs.Convolution.{fresh, deconvolved}
use Rattle.coding.proofs.ByteLists.{length-bytes}
use Rattle.frame.specs.Sizes.{most_bytes}
use Rattle.frame.specs.Fields.{crc_right}
use Rattle.frame.specs.Bodies.{bits_of}
use Rattle.frame.specs.declared.plain.Prefix.{Prefix}
use Rattle.frame.proofs.PlainLaws.{held, held_next}
use Rattle.frame.proofs.FieldLaws.{crc-front}
use Rattle.frame.proofs.PassedLaws.{passed_none, passed_more, byte_is, passed-crc, all_held}
use Rattle.frame.proofs.splices.Spliced.plain_bytes.Goals as goal

pub loop-i-init : goal.loop-i-init
unfolding to_bytes
loop-i-init c = let v = c.args.self in (passed_none v.rank (bits_of v), refl)

pub loop-i-preserved : goal.loop-i-preserved
loop-i-preserved c = let v = c.args.self in
    let rank = v.rank in
    let z = bits_of v in
    let i = c.loop-i.i in
    let f : Prefix = record { bytes = i; crc = c.loop-i.crc; last = c.loop-i.last } in
    let next = c.byte-last in
    let h : 8 * i + 8 ≤ length z = omega (arith, c.requires) in (
      passed_more rank z f c.loop-i.invariant.0 h next.result next.ensures c.crc_byte-crc.result c.crc_byte-crc.ensures,
      ap (λ t. set t i next.result) c.loop-i.invariant.1
          ∙ held_next most_bytes i next.result (deconvolved rank fresh z) (omega (arith, v.most)) (byte_is rank z f c.loop-i.invariant.0 h next.result next.ensures),
    )

pub returns : goal.returns
returns c = let v = c.args.self in
    let rank = v.rank in
    let z = bits_of v in
    let n = v.size in
    let f : Prefix = record { bytes = c.loop-i.i; crc = c.loop-i.crc; last = c.loop-i.last } in
    let high = c.byte-high in
    let low = c.byte-low in
    let g : c.loop-i.i ≡ n - 2 = omega arith in
    let bytes = deconvolved rank fresh z in
    let held-is = ap (λ t. set (set t (n - 2) high.result) (n - 2 + 1) low.result) (c.loop-i.invariant.1 ∙ ap (λ (i : ℕ). held most_bytes i bytes) g)
    ∙ all_held rank n z f high.result low.result v.some c.requires g c.loop-i.invariant.0 high.ensures low.ensures v.most in (
      held-is,
      ap₂ (λ (x y : ℕ). eqb (65535 - f.crc) (x * 256 + y)) c.from.ensures c.from-2.ensures
          ∙ passed-crc rank n z f high.result low.result v.some c.requires g c.loop-i.invariant.0 high.ensures low.ensures
          ∙ sym (ap (crc_right n) held-is ∙ crc-front n (to_bytes n bytes) (replicate (most_bytes - length (to_bytes n bytes)) 0) v.some (length-bytes n bytes)),
    )
