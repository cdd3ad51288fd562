-- Truth values, keys, and lists.
use mathlib.Core.Path.{◌≡◌, refl, ap}
use mathlib.Core.Logic.{◌⊎◌, inl, inr, ⊎_elim}
use mathlib.Core.List.{List, [], ◌∷◌, ◌++◌, map}
use mathlib.Core.Bool.{Bool, true, false, ◌&&◌, ◌||◌}
use Prim.Native.Nat.{ℕ}
use native.Mathlib.Omega.{arith}
use lib.Dec.{eqb}
use borrow.Author.Tests.{eqb-true, eq-eqb}
use Rattle.ledger.specs.Frames.{Key, same}

pub either : (b : Bool) → (b ≡ true) ⊎ (b ≡ false)
either true = inl refl
either false = inr refl

pub clash : {A : Type 0} (b : Bool) → b ≡ true → b ≡ false → A
clash b p q = let w : ◌≡◌ {A = ℕ} 0 1 = cc in absurd (omega arith)

pub or_false : (a b : Bool) → a || b ≡ false → (a ≡ false) × (b ≡ false)
or_false true b e = clash true refl e
or_false false b e = (refl, e)

pub and_true : (a b : Bool) → a && b ≡ true → (a ≡ true) × (b ≡ true)
and_true true b e = (refl, e)
and_true false b e = clash false e refl

key_of : {a c x y : ℕ} → a ≡ c → x ≡ y → ◌≡◌ {A = Key} (record { device = a; counter = x }) (record { device = c; counter = y })
key_of p q = cc

pub same_true : (a b : Key) → same a b ≡ true → a ≡ b
same_true a b e =
    let h = and_true (eqb a.device b.device) (eqb a.counter b.counter) e in
    key_of (eqb-true a.device b.device h.0) (eqb-true a.counter b.counter h.1)

pub same_refl : (a : Key) → same a a ≡ true
same_refl a = rw (eq-eqb a.device a.device refl, eq-eqb a.counter a.counter refl) refl

-- two that differ, differ the other way round too
pub differ : (a b : Key) → same a b ≡ false → same b a ≡ false
differ a b e =
    ⊎_elim
    (λ f. let q = same_true b a f in clash (same a b) (rw q (same_refl a)) e)
    (λ f. f)
    (either (same b a))

pub nothing_of : {A : Type 0} {X : Type 0} (x : A) (l : List A) → ◌≡◌ {A = List A} (x ∷ l) [] → X
nothing_of x l e = let w : ◌≡◌ {A = ℕ} 0 1 = cc in absurd (omega arith)

pub map-join : {A B : Type 0} (f : A → B) (l k : List A) → map f (l ++ k) ≡ map f l ++ map f k
map-join f [] k = refl
map-join {B = B} f (x ∷ l) k = ap (λ (t : List B). f x ∷ t) (map-join f l k)

-- P holds of every element
abbrev pub Every : {A : Type 0} → (A → Type 0) → List A → Type 0
Every P [] = Unit
Every P (x ∷ l) = P x × Every P l

pub every-join : {A : Type 0} (P : A → Type 0) (l k : List A) → Every P l → Every P k → Every P (l ++ k)
every-join P [] k w v = v
every-join P (x ∷ l) k w v = (w.0, every-join P l k w.1 v)

pub every_map : {A B : Type 0} (P : B → Type 0) (f : A → B) (l : List A) → Every (λ x. P (f x)) l → Every P (map f l)
every_map P f [] w = tt
every_map P f (x ∷ l) w = (w.0, every_map P f l w.1)

-- what follows of each
pub every_then : {A : Type 0} (P Q : A → Type 0) → ((x : A) → P x → Q x) → (l : List A) → Every P l → Every Q l
every_then P Q h [] w = tt
every_then P Q h (x ∷ l) w = (h x w.0, every_then P Q h l w.1)
