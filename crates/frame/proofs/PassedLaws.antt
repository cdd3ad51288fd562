-- Bytes passed from the front of a body, with the CRC's register, and when the CRC is right. Assumes nothing.
use mathlib.Core.Path.{◌≡◌, refl, sym, ap, ap₂, ◌∙◌, subst}
use mathlib.Core.Bool.{Bool, ◌&&◌}
use mathlib.Core.List.{List, map}
use Prim.Native.Nat.{ℕ, zero, suc, ◌+◌, ◌-◌, ◌*◌, ◌/◌, ◌≤◌, ◌<◌}
use native.Mathlib.Omega.{arith}
use lib.Dec.{eqb}
use lib.ListN.{length, take, drop, set, length-drop}
use lib.Seq.{take-add, length-take-le, drop-drop}
use borrow.Author.Tests.{le-leb}
use Rattle.coding.specs.Bits.{odd, digits, value, bytes_bits, to_bytes}
use Rattle.coding.specs.Crc.{crc_bits, crc_of}
use Rattle.coding.specs.Register.{run}
use Rattle.coding.specs.Convolution.{fresh, state_after, deconvolved}
use Rattle.coding.proofs.Values.{digits_value}
use Rattle.coding.proofs.ByteLists.{bytes_bits_lem}
use Rattle.coding.proofs.Division.{crc_is, run-lt, run-append}
use Rattle.coding.proofs.Codes.{length-deconvolved, deconvolve-take}
use Rattle.frame.specs.Sizes.{most_bytes}
use Rattle.frame.specs.Fields.{byte_at, padded, crc_right}
use Rattle.frame.specs.Plain.{NextByte, Passed, right_bits}
use Rattle.frame.specs.Splices.{keeping}
use Rattle.frame.specs.Bodies.{bits_of, IsOf}
use Rattle.frame.specs.declared.bodies.Body.{Body}
use Rattle.frame.specs.declared.plain.Prefix.{Prefix}
use Rattle.frame.specs.declared.splices.Spliced.{Spliced}
use Rattle.frame.proofs.SpliceLaws.{take-spliced, bits_kept}
use Rattle.frame.proofs.PlainLaws.{held, held_next, held_all, left_is, state-byte}

-- ---- none, and those before a splice

pub passed_none : (rank : ℕ) (l : List Bool) → Passed rank l (record { bytes = 0; crc = 0; last = 0 })
unfolding run state_after
passed_none rank l = record { crc = refl; state = refl }

pub passed-small : (rank : ℕ) (l : List Bool) (f : Prefix) → Passed rank l f → f.crc < 65536
passed-small rank l f r = omega (arith, r.crc, run-lt (take (8 * f.bytes) (deconvolved rank fresh l)) 0 (omega arith))

passed_same : (rank : ℕ) (l m : List Bool) (f : Prefix) → take (8 * f.bytes) l ≡ take (8 * f.bytes) m → Passed rank l f → Passed rank m f
passed_same rank l m f e r =
    let n = 8 * f.bytes in
    let g : take n (deconvolved rank fresh l) ≡ take n (deconvolved rank fresh m) =
    sym (deconvolve-take n rank fresh l) ∙ ap (deconvolved rank fresh) e ∙ deconvolve-take n rank fresh m in
    record { crc = r.crc ∙ ap (run 0) g; state = r.state ∙ ap (state_after fresh) g }

pub passed-spliced : (rank : ℕ) (v : Spliced) (f : Prefix) → 8 * f.bytes ≤ v.splice.at → Passed rank (map odd v.bits.now) f → Passed rank (bits_of v) f
passed-spliced rank v f h r = passed_same rank (map odd v.bits.now) (bits_of v) f (sym (take-spliced v (8 * f.bytes) h)) r

-- of a body, and of it with the splice that changes nothing
module _ (b : Body) (v : Spliced) (e : IsOf v b) (k : v.splice ≡ keeping) (f : Prefix) where
  pub passed_kept : Passed b.kind.rank (map odd b.bits.now) f → Passed v.rank (bits_of v) f
  passed_kept r =
      subst (λ (n : ℕ). Passed n (bits_of v) f) (sym e.1) (subst (λ (l : List Bool). Passed b.kind.rank l f) (sym (bits_kept b v e k)) r)

  pub kept_passed : Passed v.rank (bits_of v) f → Passed b.kind.rank (map odd b.bits.now) f
  kept_passed r =
      subst (λ (n : ℕ). Passed n (map odd b.bits.now) f) e.1 (subst (λ (l : List Bool). Passed v.rank l f) (bits_kept b v e k) r)

-- ---- a byte more

module _ (rank : ℕ) (l : List Bool) (f : Prefix) (r : Passed rank l f) (h : 8 * f.bytes + 8 ≤ length l) (next : ℕ)
    (g : NextByte rank (drop (8 * f.bytes) l) f.last next) where
  abbrev n : ℕ
  n = 8 * f.bytes

  abbrev plain : List Bool
  plain = deconvolved rank fresh l

  pub byte_is : next ≡ value (take 8 (drop n plain))
  byte_is = g.byte ∙ ap (λ (t : List Bool). value (take 8 t)) (left_is rank l f.bytes f.last (f.last / 2) r.state)

  byte-bits : digits 8 next ≡ take 8 (drop n plain)
  byte-bits =
      let w = take 8 (drop n plain) in
      let e : length w ≡ 8 = length-take-le 8 (drop n plain) (omega (arith, length-drop n plain, length-deconvolved rank fresh l)) in
      ap₂ digits (sym e) byte_is ∙ digits_value w

  pub passed_more : (c : ℕ) → c ≡ run f.crc (digits 8 next) → Passed rank l (record { bytes = f.bytes + 1; crc = c; last = next })
  passed_more c e =
      let k : n + 8 ≡ 8 * (f.bytes + 1) = omega arith in
      record {
        crc = e ∙ ap₂ run r.crc byte-bits ∙ sym (run-append (take n plain) (take 8 (drop n plain)) 0) ∙ ap (run 0) (sym (take-add n 8 plain))
            ∙ ap (λ (m : ℕ). run 0 (take m plain)) k;
        state = g.state ∙ state-byte rank l f.bytes f.last (f.last / 2) r.state;
      }

-- ---- bytes of bits, and their bits

bytes_at : (n i : ℕ) (l : List Bool) → i < n → byte_at (to_bytes n l) i ≡ value (take 8 (drop (8 * i) l))
unfolding to_bytes
bytes_at zero i l h = absurd (omega arith)
bytes_at (suc n) zero l h = refl
bytes_at (suc n) (suc i) l h =
    bytes_at n i (drop 8 l) (omega arith)
    ∙ ap (λ (t : List Bool). value (take 8 t)) (drop-drop (8 * i) 8 l ∙ ap (λ (k : ℕ). drop k l) (let z : 8 + 8 * i ≡ 8 * suc i = omega arith in z))

-- ---- the CRC is right

-- from the prefix that leaves two bytes, and these
module _ (rank n : ℕ) (l : List Bool) (f : Prefix) (high low : ℕ) (h : 2 ≤ n) (k : 8 * n ≤ length l) (e : f.bytes ≡ n - 2) (r : Passed rank l f)
    (a : NextByte rank (drop (8 * (n - 2)) l) f.last high) (b : NextByte rank (drop (8 * (n - 2) + 8) l) high low) where
  abbrev all : List Bool
  all = deconvolved rank fresh l

  first_next : NextByte rank (drop (8 * f.bytes) l) f.last high
  first_next = subst (λ (m : ℕ). NextByte rank (drop (8 * m) l) f.last high) (sym e) a

  pub high_is : high ≡ value (take 8 (drop (8 * (n - 2)) all))
  high_is = byte_is rank l f r (omega (arith, e)) high first_next ∙ ap (λ (m : ℕ). value (take 8 (drop (8 * m) all))) e

  pub low_is : low ≡ value (take 8 (drop (8 * (n - 2 + 1)) all))
  low_is =
      let g : Prefix = record { bytes = f.bytes + 1; crc = run f.crc (digits 8 high); last = high } in
      let p = passed_more rank l f r (omega (arith, e)) high first_next g.crc refl in
      let q : NextByte rank (drop (8 * g.bytes) l) high low =
      subst (λ (m : ℕ). NextByte rank (drop m l) high low) (let z : 8 * (n - 2) + 8 ≡ 8 * g.bytes = omega (arith, e) in z) b in
      byte_is rank l g p (omega (arith, e)) low q ∙ ap (λ (m : ℕ). value (take 8 (drop (8 * (m + 1)) all))) e

  pub passed-crc : eqb (65535 - f.crc) (high * 256 + low) ≡ crc_right n (to_bytes n all)
  unfolding crc_right crc_of
  passed-crc =
      let bytes = to_bytes n all in
      let whole : 8 * n ≤ length all = omega (arith, length-deconvolved rank fresh l) in
      let crc : crc_bits (bytes_bits (take (n - 2) bytes)) ≡ 65535 - f.crc =
      crc_is (bytes_bits (take (n - 2) bytes))
      ∙ ap (λ (x : ℕ). 65535 - x) (ap (run 0) (bytes_bits_lem (n - 2) n all (omega arith) (omega arith) ∙ ap (λ (m : ℕ). take (8 * m) all) (sym e)) ∙ sym r.crc) in
      let last : byte_at bytes (n - 1) ≡ low =
      bytes_at n (n - 1) all (omega arith) ∙ ap (λ (m : ℕ). value (take 8 (drop (8 * m) all))) (let z : n - 1 ≡ n - 2 + 1 = omega arith in z) ∙ sym low_is in
      sym (ap₂ eqb crc (ap₂ (λ (x y : ℕ). x * 256 + y) (bytes_at n (n - 2) all (omega arith) ∙ sym high_is) last))

  -- the bytes in their array, when these two are written
  pub all_held : n ≤ most_bytes → set (set (held most_bytes (n - 2) all) (n - 2) high) (n - 2 + 1) low ≡ padded most_bytes (to_bytes n all)
  all_held m =
      ap (λ (t : List ℕ). set t (n - 2 + 1) low) (held_next most_bytes (n - 2) high all (omega arith) high_is)
      ∙ held_next most_bytes (n - 2 + 1) low all (omega arith) low_is ∙ held_all most_bytes (n - 2 + 1 + 1) n all (omega arith)

  pub passed_right : eqb (65535 - f.crc) (high * 256 + low) ≡ right_bits rank n l
  unfolding right_bits
  passed_right = passed-crc ∙ ap (λ (t : Bool). t && crc_right n (to_bytes n all)) (sym (le-leb (8 * n) (length l) k))
