-- A table: nine stores are a run of stores, and what is read off each of its rows. Assumes nothing.
use Rattle.std.proofs.Common.{◌≡◌, ℕ, zero, suc, ◌+◌, ◌<◌, List, [], ◌∷◌, map, length, get_or, take, drop, set, refl, ap, arith}
use lib.Seq.{sets}

seven : {A : Type 0} (t : List A) (at : ℕ) (a b c d e f g : A)
    → set (set (set (set (set (set (set t at a) (at + 1) b) (at + 2) c) (at + 3) d) (at + 4) e) (at + 5) f) (at + 6) g
    ≡ sets t at (a ∷ b ∷ c ∷ d ∷ e ∷ f ∷ g ∷ [])
seven t at a b c d e f g =
    let e1 : at + 1 ≡ suc at = omega arith in
    let e2 : at + 2 ≡ suc (suc at) = omega arith in
    let e3 : at + 3 ≡ suc (suc (suc at)) = omega arith in
    let e4 : at + 4 ≡ suc (suc (suc (suc at))) = omega arith in
    let e5 : at + 5 ≡ suc (suc (suc (suc (suc at)))) = omega arith in
    let e6 : at + 6 ≡ suc (suc (suc (suc (suc (suc at))))) = omega arith in
    rw (e1, e2, e3, e4, e5, e6) refl

pub nine_sets : {A : Type 0} (t : List A) (at : ℕ) (a b c d e f g h i : A)
    → set (set (set (set (set (set (set (set (set t at a) (at + 1) b) (at + 2) c) (at + 3) d) (at + 4) e) (at + 5) f) (at + 6) g) (at + 7) h) (at + 8) i
    ≡ sets t at (a ∷ b ∷ c ∷ d ∷ e ∷ f ∷ g ∷ h ∷ i ∷ [])
nine_sets t at a b c d e f g h i =
    let e7 : at + 7 ≡ suc (suc (suc (suc (suc (suc (suc at)))))) = omega arith in
    let e8 : at + 8 ≡ suc (suc (suc (suc (suc (suc (suc (suc at))))))) = omega arith in
    rw (seven t at a b c d e f g, e7, e8) refl

-- a field of what stands at a place
pub map_at : {A B : Type 0} (f : A → B) (l : List A) (p : ℕ) (x : A) (y : B) → p < length l → get_or (map f l) p y ≡ f (get_or l p x)
map_at f [] p x y h = absurd (omega arith)
map_at f (a ∷ l) zero x y h = refl
map_at f (a ∷ l) (suc p) x y h = map_at f l p x y (omega arith)

pub map-take : {A B : Type 0} (f : A → B) (l : List A) (p : ℕ) → map f (take p l) ≡ take p (map f l)
map-take f l zero = refl
map-take f [] (suc p) = refl
map-take {B = B} f (x ∷ l) (suc p) = ap (λ (m : List B). f x ∷ m) (map-take f l p)

pub map-drop : {A B : Type 0} (f : A → B) (l : List A) (p : ℕ) → map f (drop p l) ≡ drop p (map f l)
map-drop f l zero = refl
map-drop f [] (suc p) = refl
map-drop f (x ∷ l) (suc p) = map-drop f l p

pub map-set : {A B : Type 0} (f : A → B) (l : List A) (p : ℕ) (x : A) → map f (set l p x) ≡ set (map f l) p (f x)
map-set f [] p x = refl
map-set f (a ∷ l) zero x = refl
map-set {B = B} f (a ∷ l) (suc p) x = ap (λ (m : List B). f a ∷ m) (map-set f l p x)

-- what is stored back
pub set_back : {A : Type 0} (l : List A) (p : ℕ) (x : A) → p < length l → set l p (get_or l p x) ≡ l
set_back [] p x h = refl
set_back (a ∷ l) zero x h = refl
set_back {A = A} (a ∷ l) (suc p) x h = ap (λ (m : List A). a ∷ m) (set_back l p x (omega arith))
