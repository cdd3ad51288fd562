-- The order of two numbers and a third, of which the first that differs decides. Assumes nothing.
use mathlib.Core.Path.{◌≡◌, refl}
use mathlib.Core.Bool.{Bool, true, false, ◌&&◌, ◌||◌}
use Prim.Native.Nat.{ℕ, ◌<◌}
use native.Mathlib.Omega.{arith}
use borrow.Author.Tests.{ltb-true, lt-ltb, le-ltb, eqb-true, eq-eqb}
use lib.Dec.{ltb, eqb}
use Rattle.grip.proofs.OrderLaws.{cases, clash, three}

abbrev pub ahead : ℕ → ℕ → ℕ → ℕ → ℕ → ℕ → Bool
ahead a b i a' b' i' = ltb a a' || (eqb a a' && (ltb b b' || (eqb b b' && ltb i i')))

module _ (a b i a' b' i' : ℕ) where
  by_first : a < a' → ahead a b i a' b' i' ≡ true
  by_first h = rw (lt-ltb a a' h) refl

  by_second : a ≡ a' → b < b' → ahead a b i a' b' i' ≡ true
  by_second e h = rw (le-ltb a a' (omega arith), eq-eqb a a' e, lt-ltb b b' h) refl

  by_third : a ≡ a' → b ≡ b' → i < i' → ahead a b i a' b' i' ≡ true
  by_third e f h = rw (le-ltb a a' (omega arith), eq-eqb a a' e, le-ltb b b' (omega arith), eq-eqb b b' f, lt-ltb i i' h) refl

  which : {X : Type 0} → ahead a b i a' b' i' ≡ true → (a < a' → X) → (a ≡ a' → b < b' → X) → (a ≡ a' → b ≡ b' → i < i' → X) → X
  which {X = X} p f g h = go (ltb a a') refl (eqb a a') refl (ltb b b') refl (eqb b b') refl (ltb i i') refl p
    where
      go : (q : Bool) → ltb a a' ≡ q → (r : Bool) → eqb a a' ≡ r → (s : Bool) → ltb b b' ≡ s → (t : Bool) → eqb b b' ≡ t → (u : Bool) → ltb i i' ≡ u
          → q || (r && (s || (t && u))) ≡ true → X
      go true q r r' s s' t t' u u' p = f (ltb-true a a' q)
      go false q true r' true s' t t' u u' p = g (eqb-true a a' r') (ltb-true b b' s')
      go false q true r' false s' true t' true u' p = h (eqb-true a a' r') (eqb-true b b' t') (ltb-true i i' u')
      go false q true r' false s' true t' false u' p = clash false p refl
      go false q true r' false s' false t' u u' p = clash false p refl
      go false q false r' s s' t t' u u' p = clash false p refl

-- one is ahead of the other, or their thirds are equal
pub ahead-total : (a b i a' b' i' : ℕ) → ahead a b i a' b' i' ≡ false → ahead a' b' i' a b i ≡ false → i ≡ i'
ahead-total a b i a' b' i' p q =
    three a a' (λ u. clash (ahead a b i a' b' i') (by_first a b i a' b' i' u) p)
    (λ u. three b b' (λ v. clash (ahead a b i a' b' i') (by_second a b i a' b' i' u v) p)
    (λ v. three i i' (λ w. clash (ahead a b i a' b' i') (by_third a b i a' b' i' u v w) p) (λ w. w) (λ w. clash (ahead a' b' i' a b i) (by_third a' b' i' a b i (omega arith) (omega arith) w) q))
    (λ v. clash (ahead a' b' i' a b i) (by_second a' b' i' a b i (omega arith) v) q))
    (λ u. clash (ahead a' b' i' a b i) (by_first a' b' i' a b i u) q)

-- none is ahead of itself
pub ahead-self : (a b i : ℕ) → ahead a b i a b i ≡ false
ahead-self a b i = cases (ahead a b i a b i) (λ p. which a b i a b i p (λ u. absurd (omega arith)) (λ u v. absurd (omega arith)) (λ u v w. absurd (omega arith))) (λ p. p)

module _ (a b i a' b' i' a'' b'' i'' : ℕ) where
  pub ahead-trans : ahead a b i a' b' i' ≡ true → ahead a' b' i' a'' b'' i'' ≡ true → ahead a b i a'' b'' i'' ≡ true
  ahead-trans p q =
      which a b i a' b' i' p
      (λ u. which a' b' i' a'' b'' i'' q (λ v. first (omega arith)) (λ v w. first (omega arith)) (λ v w x. first (omega arith)))
      (λ u u'. which a' b' i' a'' b'' i'' q (λ v. first (omega arith)) (λ v w. second (omega arith) (omega arith)) (λ v w x. second (omega arith) (omega arith)))
      (λ u u' u''. which a' b' i' a'' b'' i'' q (λ v. first (omega arith)) (λ v w. second (omega arith) (omega arith)) (λ v w x. third (omega arith) (omega arith) (omega arith)))
    where
      first : a < a'' → ahead a b i a'' b'' i'' ≡ true
      first = by_first a b i a'' b'' i''

      second : a ≡ a'' → b < b'' → ahead a b i a'' b'' i'' ≡ true
      second = by_second a b i a'' b'' i''

      third : a ≡ a'' → b ≡ b'' → i < i'' → ahead a b i a'' b'' i'' ≡ true
      third = by_third a b i a'' b'' i''
