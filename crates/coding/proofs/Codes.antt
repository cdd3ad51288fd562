-- The convolutional codes: the two directions undo each other, each goes on from its end state, and the code's loop makes either. Assumes nothing.
use mathlib.Core.Path.{◌≡◌, refl, sym, ap, ap₂, ◌∙◌}
use mathlib.Core.Bool.{Bool, true, false, cond}
use mathlib.Core.List.{List, [], ◌∷◌, ◌++◌, map}
use Prim.Native.Nat.{ℕ, zero, suc, ◌+◌, ◌*◌, ◌/◌, ◌%◌, ◌≤◌, ◌<◌}
use native.Mathlib.Nat.{le_antisymm}
use native.Mathlib.Omega.{arith}
use native.Mathlib.Numerals.{add-one}
use lib.ListN.{length, take, drop, get_or, set, drop_of_length-le, take-append-drop}
use lib.Seq.{drop-cons, take-suc-set, drop-set-lt, append_snoc}
use Rattle.coding.specs.Bits.{plus, odd, bit_of}
use Rattle.coding.specs.Convolution.{State, coded, tap, shift, state_of, state_after, numbered, convolved, deconvolved}
use Rattle.coding.proofs.BitLaws.{odd-bit, plus-twice}

-- every generator has the coefficient 1: a product's bit is the input and what the state adds
pub coded_is : (r : ℕ) (s : State) (a : Bool) → coded r s a ≡ plus a (tap r s)
coded_is zero s a = refl
coded_is (suc zero) s a = refl
coded_is (suc (suc zero)) s a = refl
coded_is (suc (suc (suc r))) s a = refl

-- ---- the two directions undo each other, from every state and for every rank

pub convolve-undone : (r : ℕ) (s : State) (l : List Bool) → convolved r s (deconvolved r s l) ≡ l
unfolding convolved deconvolved
convolve-undone r s [] = refl
convolve-undone r s (b ∷ l) =
    ap₂ ◌∷◌ (coded_is r s (plus b (tap r s)) ∙ plus-twice b (tap r s)) (convolve-undone r (shift s (plus b (tap r s))) l)

pub deconvolve-undone : (r : ℕ) (s : State) (l : List Bool) → deconvolved r s (convolved r s l) ≡ l
unfolding convolved deconvolved
deconvolve-undone r s [] = refl
deconvolve-undone r s (a ∷ l) =
    let e : plus (coded r s a) (tap r s) ≡ a = ap (λ (x : Bool). plus x (tap r s)) (coded_is r s a) ∙ plus-twice a (tap r s) in
    ap₂ ◌∷◌ e (ap (λ (x : Bool). deconvolved r (shift s x) (convolved r (shift s a) l)) e ∙ deconvolve-undone r (shift s a) l)

-- ---- end states: each direction goes on where its first part ended

pub convolve-append : (r : ℕ) (s : State) (a b : List Bool) → convolved r s (a ++ b) ≡ convolved r s a ++ convolved r (state_after s a) b
unfolding convolved state_after
convolve-append r s [] b = refl
convolve-append r s (x ∷ a) b = ap (λ (l : List Bool). coded r s x ∷ l) (convolve-append r (shift s x) a b)

pub deconvolve-append : (r : ℕ) (s : State) (a b : List Bool)
    → deconvolved r s (a ++ b) ≡ deconvolved r s a ++ deconvolved r (state_after s (deconvolved r s a)) b
unfolding deconvolved state_after
deconvolve-append r s [] b = refl
deconvolve-append r s (x ∷ a) b = ap (λ (l : List Bool). plus x (tap r s) ∷ l) (deconvolve-append r (shift s (plus x (tap r s))) a b)

pub length-convolved : (r : ℕ) (s : State) (l : List Bool) → length (convolved r s l) ≡ length l
unfolding convolved
length-convolved r s [] = refl
length-convolved r s (a ∷ l) = ap suc (length-convolved r (shift s a) l)

pub length-deconvolved : (r : ℕ) (s : State) (l : List Bool) → length (deconvolved r s l) ≡ length l
unfolding deconvolved
length-deconvolved r s [] = refl
length-deconvolved r s (b ∷ l) = ap suc (length-deconvolved r (shift s (plus b (tap r s))) l)

-- the first n bits of the plain list come from the first n
pub deconvolve-take : (n r : ℕ) (s : State) (l : List Bool) → deconvolved r s (take n l) ≡ take n (deconvolved r s l)
unfolding deconvolved
deconvolve-take zero r s l = refl
deconvolve-take (suc n) r s [] = refl
deconvolve-take (suc n) r s (b ∷ l) = ap (λ (x : List Bool). plus b (tap r s) ∷ x) (deconvolve-take n r (shift s (plus b (tap r s))) l)

-- ---- a plain list, bit by bit

pub deconvolve_at : (r : ℕ) (s : State) (l : List Bool) (j : ℕ) → j < length l
    → get_or (deconvolved r s l) j false ≡ plus (get_or l j false) (tap r (state_after s (take j (deconvolved r s l))))
unfolding deconvolved state_after
deconvolve_at r s [] j h = absurd (omega arith)
deconvolve_at r s (b ∷ l) zero h = refl
deconvolve_at r s (b ∷ l) (suc j) h = deconvolve_at r (shift s (plus b (tap r s))) l j (omega arith)

pub deconvolve-drop : (n r : ℕ) (s : State) (l : List Bool) → drop n (deconvolved r s l) ≡ deconvolved r (state_after s (take n (deconvolved r s l))) (drop n l)
unfolding deconvolved state_after
deconvolve-drop zero r s l = refl
deconvolve-drop (suc n) r s [] = refl
deconvolve-drop (suc n) r s (b ∷ l) = deconvolve-drop n r (shift s (plus b (tap r s))) l

pub state-next : (s : State) (l : List Bool) (j : ℕ) → j < length l → state_after s (take (suc j) l) ≡ shift (state_after s (take j l)) (get_or l j false)
unfolding state_after
state-next s [] j h = absurd (omega arith)
state-next s (a ∷ l) zero h = refl
state-next s (a ∷ l) (suc j) h = state-next (shift s a) l j (omega arith)

pub state-append : (s : State) (a b : List Bool) → state_after s (a ++ b) ≡ state_after (state_after s a) b
unfolding state_after
state-append s [] b = refl
state-append s (x ∷ a) b = state-append (shift s x) a b

-- ---- either direction: the next bit, and the state after it

abbrev pub through : Bool → ℕ → State → List Bool → List Bool
through undo r s l = cond undo (deconvolved r s l) (convolved r s l)

-- and the inputs that the state takes up
abbrev pub taken : Bool → ℕ → State → List Bool → List Bool
taken undo r s l = cond undo (deconvolved r s l) l

through-cons : (undo : Bool) (r : ℕ) (s : State) (b : Bool) (l : List Bool)
    → through undo r s (b ∷ l) ≡ plus b (tap r s) ∷ through undo r (shift s (cond undo (plus b (tap r s)) b)) l
unfolding convolved deconvolved
through-cons true r s b l = refl
through-cons false r s b l = ap (λ (x : Bool). x ∷ convolved r (shift s b) l) (coded_is r s b)

-- what is written, what is left to do and what is kept make the whole
unfoldable pub whole : Bool → ℕ → List ℕ → List ℕ → ℕ → ℕ → ℕ → List ℕ
whole undo rank bits out p q i = take i out ++ (map bit_of (through undo rank (state_of p q) (map odd (drop i bits))) ++ drop (length bits) out)

odd-either : (undo : Bool) (a b : ℕ) → odd (cond undo a b) ≡ cond undo (odd a) (odd b)
odd-either true a b = refl
odd-either false a b = refl

pub whole-step : (undo : Bool) (rank : ℕ) (bits out : List ℕ) (p q i a n : ℕ) → i < length bits → length bits ≤ length out
    → a ≡ bit_of (plus (odd (get_or bits i 0)) (tap rank (state_of p q))) → n ≡ cond undo a (get_or bits i 0)
    → whole undo rank bits out p q i ≡ whole undo rank bits (set out i a) n p (i + 1)
unfolding whole
whole-step undo rank bits out p q i a n h k e f =
    let b = get_or bits i 0 in
    let s = state_of p q in
    let x = plus (odd b) (tap rank s) in
    let m = length bits in
    let rest : Bool → List ℕ = λ y. map bit_of (through undo rank (record { last = y; second = odd p }) (map odd (drop (suc i) bits))) in
    let xa : x ≡ odd a = sym (odd-bit x) ∙ ap odd (sym e) in
    let y : cond undo x (odd b) ≡ odd n = ap (λ (z : Bool). cond undo z (odd b)) xa ∙ sym (odd-either undo a b) ∙ ap odd (sym f) in
    ap (λ (d : List ℕ). take i out ++ (map bit_of (through undo rank s (map odd d)) ++ drop m out)) (drop-cons bits i 0 h)
    ∙ ap (λ (d : List Bool). take i out ++ (map bit_of d ++ drop m out)) (through-cons undo rank s (odd b) (map odd (drop (suc i) bits)))
    ∙ ap₂ (λ (b : ℕ) (y : Bool). take i out ++ (b ∷ (rest y ++ drop m out))) (sym e) y
    ∙ sym (append_snoc (take i out) a (rest (odd n) ++ drop m out))
    ∙ ap₂ (λ (t d : List ℕ). t ++ (rest (odd n) ++ d)) (sym (take-suc-set out i a (omega arith))) (sym (drop-set-lt m out i a h))
    ∙ ap (λ (j : ℕ). take j (set out i a) ++ (map bit_of (through undo rank (state_of n p) (map odd (drop j bits))) ++ drop m (set out i a))) (sym (add-one i))

through-nil : (undo : Bool) (r : ℕ) (s : State) → through undo r s [] ≡ []
unfolding convolved deconvolved
through-nil true r s = refl
through-nil false r s = refl

pub whole_end : (undo : Bool) (rank : ℕ) (bits out : List ℕ) (p q i : ℕ) → length bits ≤ i → i ≤ length bits → whole undo rank bits out p q i ≡ out
unfolding whole
whole_end undo rank bits out p q i h k =
    ap (λ (d : List ℕ). take i out ++ (map bit_of (through undo rank (state_of p q) (map odd d)) ++ drop (length bits) out)) (drop_of_length-le bits h)
    ∙ ap (λ (d : List Bool). take i out ++ (map bit_of d ++ drop (length bits) out)) (through-nil undo rank (state_of p q))
    ∙ ap (λ (j : ℕ). take i out ++ drop j out) (le_antisymm h k) ∙ take-append-drop i out

-- the state after all of them, from the state after some
taken-cons : (undo : Bool) (r : ℕ) (s : State) (b : Bool) (l : List Bool)
    → state_after s (taken undo r s (b ∷ l))
    ≡ state_after (shift s (cond undo (plus b (tap r s)) b)) (taken undo r (shift s (cond undo (plus b (tap r s)) b)) l)
unfolding state_after deconvolved
taken-cons true r s b l = refl
taken-cons false r s b l = refl

unfoldable pub ends : Bool → ℕ → List ℕ → ℕ → ℕ → ℕ → State
ends undo rank bits p q i = state_after (state_of p q) (taken undo rank (state_of p q) (map odd (drop i bits)))

pub ends_step : (undo : Bool) (rank : ℕ) (bits : List ℕ) (p q i a n : ℕ) → i < length bits
    → a ≡ bit_of (plus (odd (get_or bits i 0)) (tap rank (state_of p q))) → n ≡ cond undo a (get_or bits i 0)
    → ends undo rank bits p q i ≡ ends undo rank bits n p (i + 1)
unfolding ends
ends_step undo rank bits p q i a n h e f =
    let b = get_or bits i 0 in
    let s = state_of p q in
    let x = plus (odd b) (tap rank s) in
    let l = map odd (drop (suc i) bits) in
    let go : Bool → State = λ y. state_after (shift s y) (taken undo rank (shift s y) l) in
    let xa : x ≡ odd a = sym (odd-bit x) ∙ ap odd (sym e) in
    let y : cond undo x (odd b) ≡ odd n = ap (λ (z : Bool). cond undo z (odd b)) xa ∙ sym (odd-either undo a b) ∙ ap odd (sym f) in
    ap (λ (d : List ℕ). state_after s (taken undo rank s (map odd d))) (drop-cons bits i 0 h)
    ∙ taken-cons undo rank s (odd b) l
    ∙ ap go y
    ∙ ap (λ (j : ℕ). state_after (state_of n p) (taken undo rank (state_of n p) (map odd (drop j bits)))) (sym (add-one i))

taken-nil : (undo : Bool) (r : ℕ) (s : State) → state_after s (taken undo r s []) ≡ s
unfolding state_after deconvolved
taken-nil true r s = refl
taken-nil false r s = refl

pub number-pair : (p q : ℕ) → p < 2 → q < 2 → numbered (2 * p + q) ≡ state_of p q
number-pair p q h k =
    ap₂ state_of (let e : (2 * p + q) / 2 ≡ p = omega arith in e) (let e : (2 * p + q) % 2 ≡ q = omega arith in e)

pub ends_end : (undo : Bool) (rank : ℕ) (bits : List ℕ) (p q i : ℕ) → length bits ≤ i → p < 2 → q < 2 → numbered (2 * p + q) ≡ ends undo rank bits p q i
unfolding ends
ends_end undo rank bits p q i h k m =
    number-pair p q k m
    ∙ sym (ap (λ (d : List ℕ). state_after (state_of p q) (taken undo rank (state_of p q) (map odd d))) (drop_of_length-le bits h) ∙ taken-nil undo rank (state_of p q))
