-- The RSSI of a message is the highest of its frames': `lt` is an order on the floats.
use mathlib.Core.Path.{◌≡◌, refl, ap}
use mathlib.Core.Logic.{◌⊎◌, inl, inr, ⊎_elim}
use mathlib.Core.List.{List, [], ◌∷◌, map}
use mathlib.Core.Bool.{Bool, true, false, and-not_self}
use Prim.Native.Nat.{ℕ, zero, suc, ◌+◌, ◌*◌, ◌<◌}
use native.Mathlib.Omega.{arith}
use native.Mathlib.Nat.{mul-lt-mul_of_pos_right, mul_right_comm, mul-pos, zero-mul, lt_of_mul-lt-mul_right}
use lib.Ieee.{Float, nan, inf, fin, up, down, below, lt}
use lib.Ieee.Fits.{down_pos}
use borrow.Author.Tests.{ltb-true, lt-ltb, le-ltb}
use Rattle.ledger.specs.Frames.{Frame, rssi_of}
use Rattle.ledger.specs.Merge.{louder}
use Rattle.ledger.specs.Demand3.{SeenFrame, Among}
use Rattle.ledger.specs.History.{see_frame}
use Rattle.ledger.proofs.Basics.{either, clash}
use Rattle.ledger.proofs.Entries.{loudest}

-- ---- fractions

-- a/x < b/y and b/y < c/z give a/x < c/z
cross : (a b c x y z : ℕ) → 0 < x → 0 < z → a * y < b * x → b * z < c * y → a * z < c * x
cross a b c x y z X Z p q =
    let u : a * y * z < b * x * z = mul-lt-mul_of_pos_right p Z in
    let v : b * z * x < c * y * x = mul-lt-mul_of_pos_right q X in
    let w : a * z * y < c * x * y = rw (mul_right_comm a z y, mul_right_comm c x y) (less (a * y * z) (b * x * z) (c * y * x) u (rw (mul_right_comm b x z) v)) in
    lt_of_mul-lt-mul_right y w
  where
    less : (i j k : ℕ) → i < j → j < k → i < k
    less i j k p q = omega arith

positive : (c x y : ℕ) → 0 < x → 0 < c * y → 0 < c * x
positive zero x y X p = absurd (omega (arith, zero-mul y))
positive (suc c) x y X p = mul-pos (omega arith) X

-- signed fractions: ±a/x < ±b/y < ±c/z
signed : (s t u : Bool) (a b c x y z : ℕ) → 0 < x → 0 < z → below s (a * y) t (b * x) ≡ true → below t (b * z) u (c * y) ≡ true → below s (a * z) u (c * x) ≡ true
signed false false false a b c x y z X Z p q = lt-ltb (a * z) (c * x) (cross a b c x y z X Z (ltb-true (a * y) (b * x) p) (ltb-true (b * z) (c * y) q))
signed false false true a b c x y z X Z p q = q
signed false true u a b c x y z X Z p q = clash false p refl
signed true false false a b c x y z X Z p q =
    let h = positive c x y X (more (b * z) (c * y) (ltb-true (b * z) (c * y) q)) in lt-ltb 0 (a * z + c * x) (omega arith)
  where
    more : (i j : ℕ) → i < j → 0 < j
    more i j h = omega arith
signed true false true a b c x y z X Z p q = clash false q refl
signed true true false a b c x y z X Z p q =
    let h = positive a z y Z (more (b * x) (a * y) (ltb-true (b * x) (a * y) p)) in lt-ltb 0 (a * z + c * x) (omega arith)
  where
    more : (i j : ℕ) → i < j → 0 < j
    more i j h = omega arith
signed true true true a b c x y z X Z p q = lt-ltb (c * x) (a * z) (cross c b a z y x Z X (ltb-true (c * y) (b * z) q) (ltb-true (b * x) (a * y) p))

-- ---- floats

pub lt_trans : (x y z : Float) → lt x y ≡ true → lt y z ≡ true → lt x z ≡ true
unfolding lt
lt_trans nan y z p q = p
lt_trans (inf false) nan z p q = clash false p refl
lt_trans (inf false) (inf t) z p q = clash false p refl
lt_trans (inf false) (fin t n d) z p q = clash false p refl
lt_trans (inf true) nan z p q = clash false p refl
lt_trans (inf true) (inf true) z p q = clash false p refl
lt_trans (inf true) (inf false) nan p q = q
lt_trans (inf true) (inf false) (inf u) p q = clash false q refl
lt_trans (inf true) (inf false) (fin u o g) p q = refl
lt_trans (inf true) (fin t n d) nan p q = q
lt_trans (inf true) (fin t n d) (inf u) p q = q
lt_trans (inf true) (fin t n d) (fin u o g) p q = refl
lt_trans (fin s m e) nan z p q = clash false p refl
lt_trans (fin s m e) (inf true) z p q = clash false p refl
lt_trans (fin s m e) (inf false) nan p q = q
lt_trans (fin s m e) (inf false) (inf u) p q = clash false q refl
lt_trans (fin s m e) (inf false) (fin u o g) p q = clash false q refl
lt_trans (fin s m e) (fin t n d) nan p q = q
lt_trans (fin s m e) (fin t n d) (inf u) p q = q
lt_trans (fin s m e) (fin t n d) (fin u o g) p q = signed s t u (m * up e) (n * up d) (o * up g) (down e) (down d) (down g) (down_pos e) (down_pos g) p q

pub lt_irrefl : (x : Float) → lt x x ≡ false
unfolding lt
lt_irrefl nan = refl
lt_irrefl (inf s) = and-not_self s
lt_irrefl (fin false m e) = le-ltb (m * up e * down e) (m * up e * down e) (omega arith)
lt_irrefl (fin true m e) = le-ltb (m * up e * down e) (m * up e * down e) (omega arith)

-- ---- the loudest

-- what is not above it stays so
stays : (v a : Float) (l : List Frame) → lt v a ≡ false → lt (loudest v l) a ≡ false
unfolding loudest louder
stays v a [] h = h
stays v a (f ∷ l) h =
    ⊎_elim
    (λ e. rw e (stays (rssi_of f) a l (⊎_elim (λ g. clash (lt v a) (lt_trans v (rssi_of f) a e g) h) (λ g. g) (either (lt (rssi_of f) a)))))
    (λ e. rw e (stays v a l h))
    (either (lt v (rssi_of f)))

none_above : (v : Float) (l : List Frame) (x : SeenFrame) → Among x (map see_frame l) → lt (loudest v l) x.rssi ≡ false
unfolding loudest louder see_frame
none_above v [] x h = absurd h
none_above v (f ∷ l) x h =
    ⊎_elim
    (λ q. let r : x.rssi ≡ rssi_of f = ap (λ (s : SeenFrame). s.rssi) q in rw r here)
    (λ q. none_above (louder v (rssi_of f)) l x q)
    h
  where
    here : lt (loudest (louder v (rssi_of f)) l) (rssi_of f) ≡ false
    here = stays (louder v (rssi_of f)) (rssi_of f) l (⊎_elim (λ e. rw e (lt_irrefl (rssi_of f))) (λ e. rw e e) (either (lt v (rssi_of f))))

one_has : (v : Float) (l : List Frame) → (loudest v l ≡ v) ⊎ ((x : SeenFrame) × Among x (map see_frame l) × (loudest v l ≡ x.rssi))
unfolding loudest louder see_frame
one_has v [] = inl refl
one_has v (f ∷ l) =
    ⊎_elim
    (λ e. rw e (⊎_elim (λ g. inr (see_frame f, inl refl, g)) (λ g. inr (g.0, inr g.1, g.2)) (one_has (rssi_of f) l)))
    (λ e. rw e (⊎_elim (λ g. inl g) (λ g. inr (g.0, inr g.1, g.2)) (one_has v l)))
    (either (lt v (rssi_of f)))

-- of a frame and those that joined it
pub loudest_has : (f : Frame) (l : List Frame) → (x : SeenFrame) × Among x (see_frame f ∷ map see_frame l) × (loudest (rssi_of f) l ≡ x.rssi)
unfolding see_frame
loudest_has f l = ⊎_elim (λ g. (see_frame f, inl refl, g)) (λ g. (g.0, inr g.1, g.2)) (one_has (rssi_of f) l)

pub loudest-above : (f : Frame) (l : List Frame) (x : SeenFrame) → Among x (see_frame f ∷ map see_frame l) → lt (loudest (rssi_of f) l) x.rssi ≡ false
unfolding see_frame
loudest-above f l x h =
    ⊎_elim
    (λ q. let r : x.rssi ≡ rssi_of f = ap (λ (s : SeenFrame). s.rssi) q in rw r (stays (rssi_of f) (rssi_of f) l (lt_irrefl (rssi_of f))))
    (λ q. none_above (rssi_of f) l x q)
    h
