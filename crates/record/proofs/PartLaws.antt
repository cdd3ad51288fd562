-- A record's bytes are written one after the other: runs that follow each other make one run. Assumes nothing.
use mathlib.Core.Path.{◌≡◌, refl, sym, ap, ap₂, ◌∙◌}
use mathlib.Core.Bool.{Bool, true, false, cond, not}
use mathlib.Core.List.{List, [], ◌∷◌, ◌++◌, append_assoc, append-nil}
use Prim.Native.Nat.{ℕ, ◌+◌, ◌-◌, ◌/◌, ◌%◌, ◌≤◌, ◌<◌}
use native.Mathlib.Nat.{min-le_right}
use native.Mathlib.Omega.{arith}
use lib.Dec.{eqb}
use lib.ListN.{length, take, length-append, length-replicate, length-take}
use lib.Seq.{sets, length-sets, take_all, length-take-le}
use borrow.Author.Tests.{ne_eqb}
use lib.IntN.{ℤ}
use lib.Ieee.{Float, binary32, binary64}
use Rattle.endian.specs.Bytes.{bytes_of, bits_of, signed_bits}
use Rattle.endian.proofs.Numbers.{bytes-length}
use Rattle.frame.specs.Fields.{padded}
use Rattle.frame.proofs.CopyLaws.{sets_then}
use Rattle.record.specs.Record.{spare, up_to, rank_bit, no_rank, head_bytes, mark_bytes, identity_bytes, level_bytes, rank_bytes, time_bytes, span_bytes}
use Rattle.record.specs.declared.FrameSpan.{FrameSpan}
use Rattle.record.specs.declared.parts.Head.{Head}
use Rattle.record.specs.declared.parts.Marks.{Marks}

-- a run b after a run a
pub follow : (l : List ℕ) (at : ℕ) (a o b o' : List ℕ) (k : ℕ) → o ≡ sets l at a → o' ≡ sets o k b → k ≡ at + length a → o' ≡ sets l at (a ++ b)
follow l at a o b o' k e f g = f ∙ ap (λ (x : List ℕ). sets x k b) e ∙ sets_then l at a b k g

-- writing keeps the length
pub kept : (o l : List ℕ) (k : ℕ) (p : List ℕ) → o ≡ sets l k p → length o ≡ length l
kept o l k p e = ap length e ∙ length-sets l k p

-- ---- an array of which the first bytes count

pub up_to_all : (len : ℕ) (l : List ℕ) → length l ≤ len → l ≡ up_to len l
unfolding up_to
up_to_all len l h =
    sym (ap (padded (length l)) (take_all len l h) ∙ ap (λ (k : ℕ). l ++ spare k) (let e : length l - length l ≡ 0 = omega arith in e) ∙ append-nil l)

pub up_to_some : (len : ℕ) (l : List ℕ) → len < length l → take len l ++ spare (length l - len) ≡ up_to len l
unfolding up_to
up_to_some len l h = ap (λ (k : ℕ). take len l ++ spare (length l - k)) (sym (length-take-le len l (omega arith)))

-- all its places are written
pub length_up_to : (len : ℕ) (l : List ℕ) → length (up_to len l) ≡ length l
unfolding up_to
length_up_to len l =
    let n = length l - length (take len l) in
    omega (arith, length-append (take len l) (spare n), length-replicate {A = ℕ} n 0, length-take len l, min-le_right len (length l))

-- ---- lengths of the parts

pub length-head : (h : Head) → length (head_bytes h) ≡ 8
unfolding head_bytes
length-head h = omega (arith, bytes-length 2 h.place)

pub length-marks : (k : Marks) → length (mark_bytes k) ≡ 3
unfolding mark_bytes
length-marks k = refl

pub length-identity : (d c i : ℕ) (p : List ℕ) (j : ℕ) (a : List ℕ) (k : Marks) → length p ≡ 12 → length a ≡ 5 → length (identity_bytes d c i p j a k) ≡ 28
unfolding identity_bytes
length-identity d c i p j a k n m =
    let q = up_to i p in
    let b = up_to j a in
    omega (
      arith,
      length-append (bytes_of 4 d) (bytes_of 2 c ++ (spare 2 ++ (q ++ (b ++ mark_bytes k)))),
      length-append (bytes_of 2 c) (spare 2 ++ (q ++ (b ++ mark_bytes k))),
      length-append q (b ++ mark_bytes k),
      length-append b (mark_bytes k),
      length-marks k,
      bytes-length 4 d,
      bytes-length 2 c,
      length_up_to i p,
      length_up_to j a,
    )

pub length-levels : (z : ℤ) (x : Float) → length (level_bytes z x) ≡ 8
unfolding level_bytes
length-levels z x =
    omega (arith, length-append (bytes_of 4 (signed_bits 32 z)) (bytes_of 4 (bits_of binary32 x)), bytes-length 4 (signed_bits 32 z), bytes-length 4 (bits_of binary32 x))

pub length-ranks : (a b c : ℕ) → length (rank_bytes a b c) ≡ 4
unfolding rank_bytes
length-ranks a b c = refl

pub length-times : (x y : Float) → length (time_bytes x y) ≡ 16
unfolding time_bytes
length-times x y =
    omega (arith, length-append (bytes_of 8 (bits_of binary64 x)) (bytes_of 8 (bits_of binary64 y)), bytes-length 8 (bits_of binary64 x), bytes-length 8 (bits_of binary64 y))

pub length_span : (s : FrameSpan) → length (span_bytes s) ≡ 16
unfolding span_bytes
length_span s = go (eqb s.rank no_rank)
  where
    go : (b : Bool) → length (cond b (spare 16) (time_bytes s.time s.end)) ≡ 16
    go true = refl
    go false = length-times s.time s.end

-- a place's low 16 bits are written
pub place-bytes : (n : ℕ) → bytes_of 2 (n % 65536) ≡ bytes_of 2 n
unfolding bytes_of
place-bytes n =
    ap₂ (λ (x y : ℕ). x ∷ y ∷ []) (let e : n % 65536 % 256 ≡ n % 256 = omega arith in e) (let e : n % 65536 / 256 % 256 ≡ n / 256 % 256 = omega arith in e)

-- ---- spans and ranks

pub span_none : (s : FrameSpan) → not (eqb s.rank no_rank) ≡ false → spare 16 ≡ span_bytes s
unfolding span_bytes
span_none s e = go (eqb s.rank no_rank) e
  where
    go : (b : Bool) → not b ≡ false → spare 16 ≡ cond b (spare 16) (time_bytes s.time s.end)
    go true e = refl
    go false e = cc

pub span_some : (s : FrameSpan) → not (eqb s.rank no_rank) ≡ true → time_bytes s.time s.end ≡ span_bytes s
unfolding span_bytes
span_some s e = go (eqb s.rank no_rank) e
  where
    go : (b : Bool) → not b ≡ true → time_bytes s.time s.end ≡ cond b (spare 16) (time_bytes s.time s.end)
    go true e = cc
    go false e = refl

pub not_not : (b : Bool) → not (not b) ≡ b
not_not true = refl
not_not false = refl

pub rank_none : (r : ℕ) → (r ≡ 0 → ⊥) → (r ≡ 1 → ⊥) → (r ≡ 2 → ⊥) → 0 ≡ rank_bit r
rank_none r a b c = simp (ne_eqb r 0 a, ne_eqb r 1 b, ne_eqb r 2 c)

-- ---- device, counter, payload, auth and marks

module _ (l : List ℕ) (at d c i j : ℕ) (k : Marks) (payload auth o1 o2 o3 o4 o5 o6 : List ℕ) where
  pub identity-written : length payload ≡ 12 → length auth ≡ 5 → o1 ≡ sets l at (bytes_of 4 d) → o2 ≡ sets o1 (at + 4) (bytes_of 2 c) → o3 ≡ sets o2 (at + 6) (spare 2)
      → o4 ≡ sets o3 (at + 8) (up_to i payload) → o5 ≡ sets o4 (at + 20) (up_to j auth) → o6 ≡ sets o5 (at + 25) (mark_bytes k)
      → o6 ≡ sets l at (identity_bytes d c i payload j auth k)
  unfolding identity_bytes
  identity-written n m e1 e2 e3 e4 e5 e6 =
      let p = up_to i payload in
      let a = up_to j auth in
      let q1 = bytes_of 4 d in
      let q2 = q1 ++ bytes_of 2 c in
      let q3 = q2 ++ spare 2 in
      let q4 = q3 ++ p in
      let q5 = q4 ++ a in
      let m1 = bytes-length 4 d in
      let m2 : length q2 ≡ 6 = omega (arith, length-append q1 (bytes_of 2 c), m1, bytes-length 2 c) in
      let m3 : length q3 ≡ 8 = omega (arith, length-append q2 (spare 2), m2) in
      let m4 : length q4 ≡ 20 = omega (arith, length-append q3 p, m3, n, length_up_to i payload) in
      let m5 : length q5 ≡ 25 = omega (arith, length-append q4 a, m4, m, length_up_to j auth) in
      let f2 : o2 ≡ sets l at q2 = follow l at q1 o1 (bytes_of 2 c) o2 (at + 4) e1 e2 (omega (arith, m1)) in
      let f3 : o3 ≡ sets l at q3 = follow l at q2 o2 (spare 2) o3 (at + 6) f2 e3 (omega (arith, m2)) in
      let f4 : o4 ≡ sets l at q4 = follow l at q3 o3 p o4 (at + 8) f3 e4 (omega (arith, m3)) in
      let f5 : o5 ≡ sets l at q5 = follow l at q4 o4 a o5 (at + 20) f4 e5 (omega (arith, m4)) in
      let f6 : o6 ≡ sets l at (q5 ++ mark_bytes k) = follow l at q5 o5 (mark_bytes k) o6 (at + 25) f5 e6 (omega (arith, m5)) in
      let g : q5 ++ mark_bytes k ≡ bytes_of 4 d ++ (bytes_of 2 c ++ (spare 2 ++ (p ++ (a ++ mark_bytes k)))) = simp append_assoc in
      f6 ∙ ap (sets l at) g

-- ---- three runs and four

pub three : (l : List ℕ) (at : ℕ) (p q r o1 o2 o3 : List ℕ) (j k : ℕ) → o1 ≡ sets l at p → o2 ≡ sets o1 j q → o3 ≡ sets o2 k r → j ≡ at + length p → k ≡ j + length q
    → o3 ≡ sets l at (p ++ (q ++ r))
three l at p q r o1 o2 o3 j k e1 e2 e3 h i =
    follow l at (p ++ q) o2 r o3 k (follow l at p o1 q o2 j e1 e2 h) e3 (omega (arith, length-append p q)) ∙ ap (sets l at) (append_assoc p q r)

-- front, middle, spans and start make a record of seven parts
pub whole : (l : List ℕ) (at : ℕ) (p1 p2 p3 p4 p5 p6 p7 o1 o2 o3 o4 : List ℕ)
    → length p1 ≡ 8 → length p2 ≡ 28 → length p3 ≡ 8 → length p4 ≡ 4 → length p5 ≡ 16 → length p6 ≡ 48
    → o1 ≡ sets l at (p1 ++ (p2 ++ p3)) → o2 ≡ sets o1 (at + 44) (p4 ++ p5) → o3 ≡ sets o2 (at + 64) p6 → o4 ≡ sets o3 (at + 112) p7
    → o4 ≡ sets l at (p1 ++ (p2 ++ (p3 ++ (p4 ++ (p5 ++ (p6 ++ p7))))))
whole l at p1 p2 p3 p4 p5 p6 p7 o1 o2 o3 o4 n1 n2 n3 n4 n5 n6 e1 e2 e3 e4 =
    let q1 = p1 ++ (p2 ++ p3) in
    let q2 = p4 ++ p5 in
    let m1 : length q1 ≡ 44 = omega (arith, length-append p1 (p2 ++ p3), length-append p2 p3, n1, n2, n3) in
    let m2 : length q2 ≡ 20 = omega (arith, length-append p4 p5, n4, n5) in
    let m3 : length (q1 ++ (q2 ++ p6)) ≡ 112 = omega (arith, length-append q1 (q2 ++ p6), length-append q2 p6, m1, m2, n6) in
    let f : o3 ≡ sets l at (q1 ++ (q2 ++ p6)) = three l at q1 q2 p6 o1 o2 o3 (at + 44) (at + 64) e1 e2 e3 (omega (arith, m1)) (omega (arith, m2)) in
    let g : (q1 ++ (q2 ++ p6)) ++ p7 ≡ p1 ++ (p2 ++ (p3 ++ (p4 ++ (p5 ++ (p6 ++ p7))))) = simp append_assoc in
    follow l at (q1 ++ (q2 ++ p6)) o3 p7 o4 (at + 112) f e4 (omega (arith, m3)) ∙ ap (sets l at) g
