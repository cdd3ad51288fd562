-- Parts of lists, and lists in arrays of a fixed length. Assumes nothing.
use mathlib.Core.Path.{◌≡◌, sym, ap, ◌∙◌}
use mathlib.Core.List.{List, [], ◌∷◌, ◌++◌}
use Prim.Native.Nat.{ℕ, zero, suc, ◌+◌, ◌-◌, ◌≤◌}
use native.Mathlib.Nat.{sub-zero}
use native.Mathlib.Omega.{arith}
use lib.ListN.{length, take, drop, set, replicate, length-drop, length-replicate}
use lib.Seq.{sets, sets-eq, drop-drop, length-take-le}
use borrow.Rule.Slice.PartMut.{put_mid}
use Rattle.std.proofs.Common.{append_assoc}
use Rattle.frame.specs.Fields.{padded}

-- what stands in a list after a part of it, n elements from a place on, came to be zs
pub part_put : (at n : ℕ) (out ys zs : List ℕ) → ys ≡ zs → length zs ≡ n → at + n ≤ length out → put_mid at (at + n - at) out ys ≡ sets out at zs
part_put at n out ys zs e k h =
    let end : at + (at + n - at) ≡ at + length zs = omega (arith, k) in
    rw (e, drop-drop, end) (sym (append_assoc (take at out) zs (drop (at + length zs) out))) ∙ sym (sets-eq zs out at (omega (arith, k)))

-- a part of a list is as long as it says
pub part_length : (l : List ℕ) (from n : ℕ) → from + n ≤ length l → length (take n (drop from l)) ≡ n
part_length l from n h = length-take-le n (drop from l) (omega (arith, length-drop from l))

-- a part of a list, up to where it ends
pub part_bytes : (from n : ℕ) (l : List ℕ) → take (from + n - from) (drop from l) ≡ take n (drop from l)
part_bytes from n l = ap (λ (k : ℕ). take k (drop from l)) (let e : from + n - from ≡ n = omega arith in e)

abbrev pub zeros : ℕ → List ℕ
zeros n = replicate n 0

pub drop-zeros : (m k : ℕ) → drop m (zeros k) ≡ zeros (k - m)
drop-zeros zero k = ap zeros (sym (sub-zero k))
drop-zeros (suc m) zero = ap zeros (let e : 0 ≡ 0 - suc m = omega arith in e)
drop-zeros (suc m) (suc k) = drop-zeros m k ∙ ap zeros (let e : k - m ≡ suc k - suc m = omega arith in e)

-- an array of zeros with a list at its front
pub fill-front : (k : ℕ) (x : List ℕ) → length x ≤ k → sets (zeros k) 0 x ≡ padded k x
fill-front k x h =
    let e : 0 + length x ≡ length x = omega arith in
    sets-eq x (zeros k) 0 (omega (arith, length-replicate {A = ℕ} k 0))
    ∙ ap (λ (n : ℕ). x ++ drop n (zeros k)) e ∙ ap (λ (r : List ℕ). x ++ r) (drop-zeros (length x) k)

pub length_part : (l : List ℕ) (i n : ℕ) → length (take n (drop i l)) ≤ n
length_part l i n = go n (drop i l)
  where
    go : (n : ℕ) (l : List ℕ) → length (take n l) ≤ n
    go zero l = omega arith
    go (suc n) [] = omega arith
    go (suc n) (x ∷ l) = omega (arith, go n l)

-- bytes written after others
pub sets_then : (l : List ℕ) (at : ℕ) (a b : List ℕ) (k : ℕ) → k ≡ at + length a → sets (sets l at a) k b ≡ sets l at (a ++ b)
sets_then l at [] b k e = ap (λ (i : ℕ). sets l i b) (let f : k ≡ at = omega arith in f)
sets_then l at (x ∷ a) b k e = sets_then (set l at x) (suc at) a b k (omega arith)
