use mathlib.Core.Path.{◌≡◌, refl, sym, ap, ◌∙◌}
use mathlib.Core.List.{List}
use Prim.Native.Nat.{ℕ, ◌+◌, ◌-◌, ◌<◌}
use native.Mathlib.Omega.{arith}
use native.Mathlib.Numerals.{add-one}
use lib.ListN.{length, take, get_or}
use lib.Seq.{take-suc, take_all}
use Rattle.coding.specs.Bits.{digits, bytes_bits}
use Rattle.coding.specs.Register.{run}
use Rattle.coding.specs.Crc.{crc_of}
use Rattle.coding.proofs.Division.{crc_is, run-append, bytes_snoc}
use Rattle.coding.proofs.crc16.Goals as goal

pub loop-b-init : goal.loop-b-init
unfolding run bytes_bits
loop-b-init c = refl

more : (bytes : List ℕ) (i : ℕ) → i < length bytes → run (run 0 (bytes_bits (take i bytes))) (digits 8 (get_or bytes i 0)) ≡ run 0 (bytes_bits (take (i + 1) bytes))
more bytes i h =
    sym (run-append (bytes_bits (take i bytes)) (digits 8 (get_or bytes i 0)) 0)
    ∙ ap (run 0) (sym (bytes_snoc (take i bytes) (get_or bytes i 0)) ∙ ap bytes_bits (sym (ap (λ (k : ℕ). take k bytes) (add-one i) ∙ take-suc bytes i 0 h)))

pub loop-b-preserved : goal.loop-b-preserved
loop-b-preserved c =
    c.crc_byte-c.ensures ∙ ap (λ (x : ℕ). run x (digits 8 (get_or c.args.«data».now c.loop-b.b-index 0))) c.loop-b.invariant ∙ more c.args.«data».now c.loop-b.b-index (omega arith)

pub returns : goal.returns
unfolding crc_of
returns c =
    let d = c.args.«data».now in
    ap (λ (x : ℕ). 65535 - x) (c.loop-b.invariant ∙ ap (λ (l : List ℕ). run 0 (bytes_bits l)) (take_all c.loop-b.b-index d (omega arith))) ∙ sym (crc_is (bytes_bits d))
