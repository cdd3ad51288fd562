-- Turns of the loops over the sample buffer, on plain lists. Assumes nothing.
use mathlib.Core.List.{List, [], ◌++◌, ◌∷◌, map}
use mathlib.Core.Path.{◌∙◌, ◌≡◌, ap, refl, sym}
use Prim.Native.Nat.{◌+◌, ◌<◌, ◌≤◌, suc, ℕ}
use native.Mathlib.Numerals.{add-one}
use native.Mathlib.Omega.{arith}
use lib.Ieee.{Float, binary32, nan, of_bits, of_int, round}
use lib.ListN.{drop, get_or, length, length-map, set, take}
use lib.Seq.{append_snoc, drop-cons, length-take-le, set_at, take-suc}
use Rattle.floats.specs.Number.{num}
use Rattle.ledger.specs.Ledger.{dbm_of}

-- one store behind what was replaced
store_next : (p d : List Float) (k : ℕ) (a : Float) → length p ≡ k → k < length d
    → set (p ++ drop k d) k a ≡ p ++ (a ∷ []) ++ drop (suc k) d
store_next p d k a e h =
    ap (λ (r : List Float). set (p ++ r) k a) (drop-cons d k nan h)
    ∙ set_at p (get_or d k nan) (drop (suc k) d) a k e
    ∙ sym (append_snoc p a (drop (suc k) d))

-- the code's 2.0
pub two_is : of_bits binary32 0x4000_0000 ≡ num 2
unfolding of_bits of_int round
two_is = refl

map-join : {A B : Type 0} (f : A → B) (l k : List A) → map f (l ++ k) ≡ map f l ++ map f k
map-join f [] k = refl
map-join f (x ∷ l) k = ap (λ t. f x ∷ t) (map-join f l k)

pub raw-turn : (raw : List ℕ) (d d' : List Float) (i : ℕ) (v : Float) → i < length raw → length raw ≤ length d
    → d' ≡ map dbm_of (take i raw) ++ drop i d → v ≡ dbm_of (get_or raw i 0)
    → set d' i v ≡ map dbm_of (take (i + 1) raw) ++ drop (i + 1) d
raw-turn raw d d' i v h k e q =
    let len : length (map dbm_of (take i raw)) ≡ i = length-map (take i raw) dbm_of ∙ length-take-le i raw (omega arith) in
    rw (e, q, store_next (map dbm_of (take i raw)) d i (dbm_of (get_or raw i 0)) len (omega arith), add-one, take-suc raw i 0 h, map-join dbm_of (take i raw) (get_or raw i 0 ∷ []))
    refl
