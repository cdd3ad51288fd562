-- Rows in a table: read, made room for and read off by a field. Assumes nothing.
use Rattle.std.proofs.Common.{◌≡◌, ℕ, zero, suc, ◌+◌, ◌<◌, ◌≤◌, List, [], ◌∷◌, ◌++◌, map, length, get_or, take, drop, set, sym, refl, ap, ◌∙◌, append_assoc, arith, length-append, length-take-le, get_or-take, take-take, take_at, drop_at}
use mathlib.Core.List.{map-append}
use lib.Seq.{sets, sets-eq, slice, length-slice, take-append-le}
use Rattle.fleet_sheet.specs.declared.rows.Row.{Row}
use Rattle.fleet_sheet.specs.Table.{row_at, no_row, shifted}
use Rattle.fleet_sheet.proofs.TableLaws.{map-take, map-drop}
use Rattle.fleet_sheet.proofs.PlaceLaws.{length-shifted}

-- ---- a row is read

-- inside a list any default serves
pub any_default : {A : Type 0} (l : List A) (p : ℕ) (x y : A) → p < length l → get_or l p x ≡ get_or l p y
any_default [] p x y h = absurd (omega arith)
any_default (a ∷ l) zero x y h = refl
any_default (a ∷ l) (suc p) x y h = any_default l p x y (omega arith)

pub row_read : (t : List Row) (n : ℕ) (rs : List Row) (p : ℕ) (d : Row) → take n t ≡ rs → p < n → p < length rs → row_at t p ≡ get_or rs p d
row_read t n rs p d e h b = sym (get_or-take n t p no_row h) ∙ ap (λ (l : List Row). get_or l p no_row) e ∙ any_default rs p no_row d b

-- ---- a place is made

-- what stands at the front after a part was moved on by w and w elements were stored in the gap
pub gap-filled : {A : Type 0} (w p n : ℕ) (l vs : List A) → length vs ≡ w → p ≤ n → n + w ≤ length l
    → take (n + w) (sets (shifted w p n l) p vs) ≡ take p (take n l) ++ (vs ++ drop p (take n l))
gap-filled {A = A} w p n l vs e h b =
    let rest = slice p n l ++ drop (n + w) l in
    let s = shifted w p n l in
    let m : length s ≡ length l = length-shifted w p n l h b in
    let f : take p s ≡ take p l = take-append-le p (take (p + w) l) rest (omega (arith, length-take-le (p + w) l (omega arith))) ∙ take-take p (p + w) l (omega arith) in
    let g : drop (p + length vs) s ≡ rest = ap (λ (k : ℕ). drop (p + k) s) e ∙ drop_at (take (p + w) l) rest (p + w) (length-take-le (p + w) l (omega arith)) in
    let whole : sets s p vs ≡ (take p l ++ (vs ++ slice p n l)) ++ drop (n + w) l =
    sets-eq vs s p (omega arith) ∙ cc (f, g) ∙ join (take p l) vs (slice p n l) (drop (n + w) l) in
    let size : length (take p l ++ (vs ++ slice p n l)) ≡ n + w =
    omega (arith, length-append (take p l) (vs ++ slice p n l), length-append vs (slice p n l), length-take-le p l (omega arith), length-slice p n l (omega arith)) in
    ap (take (n + w)) whole ∙ take_at (take p l ++ (vs ++ slice p n l)) (drop (n + w) l) (n + w) size ∙ ap (λ (k : List A). k ++ (vs ++ slice p n l)) (sym (take-take p n l h))
  where
    join : (a b c d : List A) → a ++ b ++ (c ++ d) ≡ (a ++ (b ++ c)) ++ d
    join a b c d = simp append_assoc

-- ---- maps

pub map_same : {B : Type 0} (f g : ℕ → B) (l : List ℕ) → ((j : ℕ) → j < length l → g (get_or l j 0) ≡ f (get_or l j 0)) → map g l ≡ map f l
map_same f g [] h = refl
map_same f g (x ∷ l) h = cc (h 0 (omega arith), map_same f g l (λ j b. h (suc j) (omega arith)))

pub map_one : {B : Type 0} (f g : ℕ → B) (l : List ℕ) (p : ℕ) → p < length l → ((j : ℕ) → j < length l → (j ≡ p → ⊥) → g (get_or l j 0) ≡ f (get_or l j 0))
    → map g l ≡ set (map f l) p (g (get_or l p 0))
map_one f g [] p b h = absurd (omega arith)
map_one {B = B} f g (x ∷ l) zero b h = ap (λ (m : List B). g x ∷ m) (map_same f g l (λ j u. h (suc j) (omega arith) (λ e. omega arith)))
map_one f g (x ∷ l) (suc p) b h =
    cc (h 0 (omega arith) (λ e. omega arith), map_one f g l p (omega arith) (λ j u v. h (suc j) (omega arith) (λ e. v (omega arith))))

pub map-slice : {A B : Type 0} (f : A → B) (i j : ℕ) (l : List A) → map f (slice i j l) ≡ slice i j (map f l)
map-slice f i j l = map-drop f (take j l) i ∙ ap (drop i) (map-take f l j)

pub map-shifted : {A B : Type 0} (f : A → B) (w p n : ℕ) (l : List A) → map f (shifted w p n l) ≡ shifted w p n (map f l)
map-shifted f w p n l =
    map-append f (take (p + w) l) (slice p n l ++ drop (n + w) l)
    ∙ cc (map-take f l (p + w), map-append f (slice p n l) (drop (n + w) l), map-slice f p n l, map-drop f l (n + w))
