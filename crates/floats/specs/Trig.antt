-- 01's stand-ins for cosine, sine and arctangent: "binary64, each operation rounded", in 01's order. Assumes nothing.
use Rattle.std.specs.Prelude.{ℕ, zero, suc, ◌+◌, ◌-◌, ◌*◌, false, cond, ◌&&◌, Float}
use Rattle.std.specs.Float.{nan, inf, fin, binary64}
use Rattle.std.specs.Float.Ieee.{add, sub, mul, div, neg, lt, eq}
use Rattle.floats.specs.Floor.{floor}
use Rattle.floats.specs.Number.{num, near}

-- PI of the Rust, std::f64::consts::PI
abbrev pub pi : Float
pi = near 3141592653589793 1000000000000000

-- "T = 2×PI"
abbrev pub tau : Float
tau = mul binary64 (num 2) pi

-- "for n = 11 down to 1"
abbrev pub terms : ℕ
terms = 11

-- "for n = 15 down to 0"
abbrev pub atan_terms : ℕ
atan_terms = 16

-- "if t > 0.4"
abbrev pub steep : Float
steep = near 4 10

-- "k = floor(a/T+0.5), r = a−k×T"
unfoldable pub reduce : Float → Float
reduce a = sub binary64 a (mul binary64 (floor (add binary64 (div binary64 a tau) (near 1 2))) tau)

-- for n down to 1, "p = 1−(p×q)/((2n−1)×2n)" at o = 0; "the same with divisor 2n×(2n+1)" at o = 1
unfoldable pub series : ℕ → ℕ → Float → Float → Float
series o zero q p = p
series o (suc n) q p = series o n q (sub binary64 (num 1) (div binary64 (mul binary64 p q) (num ((2 * suc n - 1 + o) * (2 * suc n + o)))))

-- "q = r×r. cos: p = 1, then for n = 11 down to 1"
unfoldable pub cosine : Float → Float
cosine a = let r = reduce a in series 0 terms (mul binary64 r r) (num 1)

-- "sin: the same with divisor 2n×(2n+1), at the end r×p"
unfoldable pub sine : Float → Float
sine a = let r = reduce a in mul binary64 r (series 1 terms (mul binary64 r r) (num 1))

-- "p = 1/(2n+1)−(u×u)×p", for n from k - 1 down to 0
unfoldable pub atan_from : ℕ → Float → Float → Float
atan_from zero u p = p
atan_from (suc n) u p = atan_from n u (sub binary64 (div binary64 (num 1) (num (2 * n + 1))) (mul binary64 (mul binary64 u u) p))

-- "if t > 0.4, u = (t−1)/(t+1) and A0 = PI/4, else u = t and A0 = 0; p = 0, for n = 15 down to 0 ..; A = A0+u×p"
unfoldable pub atan : Float → Float
atan t =
    let u = cond (lt steep t) (div binary64 (sub binary64 t (num 1)) (add binary64 t (num 1))) t in
    add binary64 (cond (lt steep t) (div binary64 pi (num 4)) (num 0)) (mul binary64 u (atan_from atan_terms u (num 0)))

-- Rust's f64::abs
unfoldable pub magnitude : Float → Float
magnitude nan = nan
magnitude (inf s) = inf false
magnitude (fin s m e) = fin false m e

-- "atan2(s,c): 0 if both are zero; t = smaller/larger of |s|, |c|; ..; |s| > |c|: PI/2−A; c < 0: PI−A; s < 0: −A"
unfoldable pub arctangent : Float → Float → Float
arctangent s c =
    let a = magnitude s in
    let b = magnitude c in
    let x = atan (cond (lt b a) (div binary64 b a) (div binary64 a b)) in
    let y = cond (lt b a) (sub binary64 (div binary64 pi (num 2)) x) x in
    let z = cond (lt c (num 0)) (sub binary64 pi y) y in
    cond (eq s (num 0) && eq c (num 0)) (num 0) (cond (lt s (num 0)) (neg z) z)
