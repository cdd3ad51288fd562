use mathlib.Core.Path.{sym, ap, ◌∙◌}
use Prim.Native.Nat.{ℕ, ◌+◌, ◌*◌}
use native.Mathlib.Omega.{arith}
use native.Mathlib.Numerals.{add-one}
use lib.ListN.{drop, set, length-set, length-drop}
use lib.Seq.{sets}
use Rattle.uplink.specs.Line.{bytes_in}
use Rattle.uplink.proofs.Words.{bytes-turn, bytes_short, bytes_count}
use Rattle.uplink.proofs.line.put_bytes.Goals as goal

pub loop-i-preserved : goal.loop-i-preserved
loop-i-preserved c = let l = c.loop-i in
    let w = c.args.w.now in
    let v = c.byte_of.result in (
      length-set l.out l.i v ∙ l.invariant.0,
      ap (λ (k : ℕ). sets (set l.out l.i v) k (bytes_in (drop (2 * (l.i + 1)) w))) (add-one l.i)
          ∙ ap (sets l.out l.i) (sym (bytes-turn w l.i v (omega arith) c.byte_of.ensures)) ∙ l.invariant.1,
    )

pub returns : goal.returns
returns c = let l = c.loop-i in
    let w = c.args.w.now in
    (ap (sets l.out l.i) (sym (bytes_short (drop (2 * l.i) w) (omega (arith, length-drop (2 * l.i) w)))) ∙ l.invariant.1, sym (bytes_count w))
