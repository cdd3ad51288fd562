-- Laws of specs/Marks.antt, of lists of any element type: one turn of a loop that gathers. Assumes nothing.
use Rattle.std.proofs.Common.{◌≡◌, ℕ, zero, suc, ◌+◌, ◌-◌, ◌<◌, ◌≤◌, Bool, true, false, cond, List, [], ◌∷◌, ◌++◌, map, length, get_or, take, drop, set, sym, refl, ap, ◌∙◌, le_of_suc-le-suc, add-one, arith, length-append, length-drop, length-take, length-take-le, get_or-drop, drop-cons, take-suc, take_at, get_or-append-add}
use Rattle.std.specs.List.{list_all}
use lib.Seq.{set_at, append_snoc}
use Rattle.limits.proofs.Samples.{and_left, and_right}
use Rattle.frequency_lists.specs.Marks.{marked, retained, gathered, put}

pub marked-le : (bs : List Bool) → marked bs ≤ length bs
unfolding marked
marked-le [] = omega arith
marked-le (true ∷ bs) = let h = marked-le bs in omega arith
marked-le (false ∷ bs) = let h = marked-le bs in omega arith

marked_snoc : (bs : List Bool) (b : Bool) → marked (bs ++ (b ∷ [])) ≡ cond b (marked bs + 1) (marked bs)
unfolding marked
marked_snoc [] true = refl
marked_snoc [] false = refl
marked_snoc (true ∷ bs) true = ap suc (marked_snoc bs true) ∙ omega arith
marked_snoc (true ∷ bs) false = ap suc (marked_snoc bs false)
marked_snoc (false ∷ bs) b = marked_snoc bs b

-- the number of marks, one turn on
pub marked_turn : (bs : List Bool) (i : ℕ) (b : Bool) → i < length bs → get_or bs i false ≡ b → marked (take (i + 1) bs) ≡ cond b (marked (take i bs) + 1) (marked (take i bs))
marked_turn bs i b h e = rw (add-one i, take-suc bs i false h, e) (marked_snoc (take i bs) b)

pub marked-upto : (bs : List Bool) (i : ℕ) → marked (take i bs) ≤ i
marked-upto bs i = let h = marked-le (take i bs) in let k = length-take i bs in omega arith

module _ {A : Type 0} where
  pub length_retained : (bs : List Bool) (l : List A) → length bs ≤ length l → length (retained bs l) ≡ marked bs
  unfolding retained marked
  length_retained [] l h = refl
  length_retained (b ∷ bs) [] h = absurd (go (length bs) h)
    where
      go : (n : ℕ) → suc n ≤ 0 → ⊥
      go n h = omega arith
  length_retained (true ∷ bs) (x ∷ l) h = ap suc (length_retained bs l (le_of_suc-le-suc h))
  length_retained (false ∷ bs) (x ∷ l) h = length_retained bs l (le_of_suc-le-suc h)

  pub retained_yes : (bs : List Bool) (l : List A) (d : A) → length bs < length l → retained (bs ++ (true ∷ [])) l ≡ retained bs l ++ (get_or l (length bs) d ∷ [])
  unfolding retained
  retained_yes bs [] d h = absurd (go (length bs) h)
    where
      go : (n : ℕ) → n < 0 → ⊥
      go n h = omega arith
  retained_yes [] (x ∷ l) d h = refl
  retained_yes (true ∷ bs) (x ∷ l) d h = ap (λ (z : List A). x ∷ z) (retained_yes bs l d (le_of_suc-le-suc h))
  retained_yes (false ∷ bs) (x ∷ l) d h = retained_yes bs l d (le_of_suc-le-suc h)

  pub retained_no : (bs : List Bool) (l : List A) → length bs < length l → retained (bs ++ (false ∷ [])) l ≡ retained bs l
  unfolding retained
  retained_no bs [] h = absurd (go (length bs) h)
    where
      go : (n : ℕ) → n < 0 → ⊥
      go n h = omega arith
  retained_no [] (x ∷ l) h = refl
  retained_no (true ∷ bs) (x ∷ l) h = ap (λ (z : List A). x ∷ z) (retained_no bs l (le_of_suc-le-suc h))
  retained_no (false ∷ bs) (x ∷ l) h = retained_no bs l (le_of_suc-le-suc h)

  pub length-gathered : (bs : List Bool) (l s : List A) → length bs ≤ length l → marked bs ≤ length s → length (gathered bs l s) ≡ length s
  unfolding gathered
  length-gathered bs l s h k = length-append (retained bs l) (drop (marked bs) s) ∙ rw (length_retained bs l h, length-drop (marked bs) s) (omega arith)

  -- one turn: the element at i goes to the next place if it is marked
  pub gathered-turn : (bs : List Bool) (l s : List A) (d : A) (i : ℕ) (b : Bool) → i < length bs → length bs ≤ length l → marked (take i bs) < length s → get_or bs i false ≡ b
      → put b (gathered (take i bs) l s) (marked (take i bs)) (get_or l i d) ≡ gathered (take (i + 1) bs) l s
  unfolding gathered
  gathered-turn bs l s d i true h k r e =
      let w = marked (take i bs) in
      let j : length (take i bs) ≡ i = length-take-le i bs (omega arith) in
      let z : length (retained (take i bs) l) ≡ w = length_retained (take i bs) l (omega arith) in
      let m : marked (take (i + 1) bs) ≡ w + 1 = marked_turn bs i true h e in
      let g : retained (take (i + 1) bs) l ≡ retained (take i bs) l ++ (get_or l i d ∷ []) =
      rw (add-one i, take-suc bs i false h, e) (retained_yes (take i bs) l d (omega arith) ∙ ap (λ (n : ℕ). retained (take i bs) l ++ (get_or l n d ∷ [])) j) in
      ap (λ (x : List A). set (retained (take i bs) l ++ x) w (get_or l i d)) (drop-cons s w d r)
      ∙ set_at (retained (take i bs) l) (get_or s w d) (drop (suc w) s) (get_or l i d) w z
      ∙ sym (append_snoc (retained (take i bs) l) (get_or l i d) (drop (suc w) s))
      ∙ rw (m, g, add-one w) refl
  gathered-turn bs l s d i false h k r e =
      let j : length (take i bs) ≡ i = length-take-le i bs (omega arith) in
      let m : marked (take (i + 1) bs) ≡ marked (take i bs) = marked_turn bs i false h e in
      let g : retained (take (i + 1) bs) l ≡ retained (take i bs) l = rw (add-one i, take-suc bs i false h, e) (retained_no (take i bs) l (omega arith)) in
      rw (m, g) refl

  -- in place: what is still to be read stands as it was
  pub gathered-ahead : (bs : List Bool) (l : List A) (d : A) (i k : ℕ) → i ≤ k → i ≤ length bs → length bs ≤ length l → get_or (gathered (take i bs) l l) k d ≡ get_or l k d
  unfolding gathered
  gathered-ahead bs l d i k o h n =
      let w = marked (take i bs) in
      let u : w ≤ i = marked-upto bs i in
      let j : length (take i bs) ≡ i = length-take-le i bs h in
      let z : length (retained (take i bs) l) ≡ w = length_retained (take i bs) l (omega arith) in
      let e : k ≡ length (retained (take i bs) l) + (k - w) = omega arith in
      let q : w + (k - w) ≡ k = omega arith in
      ap (λ (m : ℕ). get_or (retained (take i bs) l ++ drop w l) m d) e ∙ get_or-append-add (retained (take i bs) l) (drop w l) (k - w) d ∙ get_or-drop w l (k - w) d ∙ ap (λ (m : ℕ). get_or l m d) q

pub map-retained : {A B : Type 0} (f : A → B) (bs : List Bool) (l : List A) → map f (retained bs l) ≡ retained bs (map f l)
unfolding retained
map-retained f [] l = refl
map-retained f (b ∷ bs) [] = refl
map-retained {B = B} f (true ∷ bs) (x ∷ l) = ap (λ (z : List B). f x ∷ z) (map-retained f bs l)
map-retained f (false ∷ bs) (x ∷ l) = map-retained f bs l

-- a test that each element passes is passed by those retained
pub every-retained : {A : Type 0} (p : A → Bool) (bs : List Bool) (l : List A) → list_all p l ≡ true → list_all p (retained bs l) ≡ true
unfolding retained
every-retained p [] l e = refl
every-retained p (b ∷ bs) [] e = refl
every-retained p (true ∷ bs) (x ∷ l) e = rw (and_left (p x) (list_all p l) e) (every-retained p bs l (and_right (p x) (list_all p l) e))
every-retained p (false ∷ bs) (x ∷ l) e = every-retained p bs l (and_right (p x) (list_all p l) e)

-- a column of a list, at a place
pub map_at : {A B : Type 0} (f : A → B) (l : List A) (i : ℕ) (d : A) (e : B) → i < length l → get_or (map f l) i e ≡ f (get_or l i d)
map_at f [] i d e h = absurd (omega arith)
map_at f (x ∷ l) zero d e h = refl
map_at f (x ∷ l) (suc i) d e h = map_at f l i d e (le_of_suc-le-suc h)

pub map-map : {A B C : Type 0} (f : A → B) (g : B → C) (l : List A) → map (λ (x : A). g (f x)) l ≡ map g (map f l)
map-map f g [] = refl
map-map {C = C} f g (x ∷ l) = ap (λ (z : List C). g (f x) ∷ z) (map-map f g l)

pub map_get : {A B : Type 0} (f : A → B) (l : List A) (i : ℕ) (d : A) → get_or (map f l) i (f d) ≡ f (get_or l i d)
map_get f [] i d = refl
map_get f (x ∷ l) zero d = refl
map_get f (x ∷ l) (suc i) d = map_get f l i d
