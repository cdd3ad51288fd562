-- The number read is its own pattern, so it is compared and written as one.
use Rattle.std.proofs.Common.{◌≡◌, ℕ, ◌*◌, ◌≤◌, ◌-◌, ◌^◌, ◌%◌, sym, ap, ◌∙◌, arith}
use borrow.Author.Tests.{eq-eqb, ne_eqb}
use native.Mathlib.Nat.{one-le-pow, zero-lt-suc, mod-eq_of_lt}
use lib.Pow.{pow-lt}
use lib.Seq.{sets}
use Rattle.endian.specs.Bytes.{bytes_of}
use Rattle.record.specs.Same.{unsigned_at}
use Rattle.replay_records.proofs.unsign.Goals.{then-bits-minus, else-bits-minus}
use Rattle.replay_records.proofs.unsign.Goals as goal

pub of_bits-unsigned-requires : goal.of_bits-unsigned-requires
of_bits-unsigned-requires g c = one-le-pow g.T.LittleEndian.SIZE 256 (zero-lt-suc 255)

-- the shift's number
minus : (w r : ℕ) → r ≡ w → 1 ≤ w → w ≤ 8 → 1 * 2 ^ (8 * r - 1) % 18446744073709551616 ≡ 2 ^ (8 * w - 1)
minus w r e l h = rw (e) (mod-eq_of_lt (omega (arith, pow-lt {i = 8 * w - 1} {j = 64} (omega (arith, l, h)))) ∙ omega arith)

pub returns : goal.returns
unfolding unsigned_at
returns g c =
    let w = g.T.LittleEndian.SIZE in
    let p = g.T.LittleEndian.pattern in
    let l = c.args.record.now in
    let m = minus w c.SIZE.result c.SIZE.ensures g.met.T.Whole.some g.met.T.LittleEndian.fits in
    let n = ap p c.get-n.ensures ∙ g.met.T.Whole.same _ in
    let b = c.bits.ensures ∙ n in
    c.put.ensures ∙ ap (λ (x : ℕ). sets l c.args.at (bytes_of w x)) (elim c.if-bits-minus.branch [
      | then-bits-minus t ↦ ap p (t.unsigned-is ∙ t.of_bits-unsigned.ensures) ∙ g.met.T.Whole.same 0 ∙ sym (rw (eq-eqb _ _ (sym b ∙ t.if-bits-minus.true ∙ m)))
      | else-bits-minus e ↦ ap p e.unsigned-is ∙ n ∙ sym (rw (ne_eqb _ _ (λ q. e.if-bits-minus.false (b ∙ q ∙ sym m))))
    ])
