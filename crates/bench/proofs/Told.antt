-- From what a call answers to the number that the benchmark compares, on plain values. Assumes nothing.
use Rattle.std.proofs.Common.{Option}
use Prim.Native.Nat.{ℕ, zero, suc}
use mathlib.Core.Path.{◌≡◌, refl, ◌∙◌, ap, subst}
use mathlib.Core.List.{List}
use lib.Ieee.{Float}
use Rattle.limits.specs.Answer.{Answer, answer, number, leaves, Free}
use Rattle.bursts.specs.Bursts.{default_options, burst_answer}
use Rattle.bursts.specs.declared.BurstOptions.{BurstOptions}
use Rattle.bursts.specs.declared.Burst.{Burst}
use Rattle.bench.specs.Writer.{sent_of}

-- `find_bursts` asked with the defaults
pub asked : (dbm : List Float) (rate from : ℕ) (floor : Float) {o : BurstOptions} {r : Answer (Option Burst)} → r ≡ burst_answer dbm rate o floor from → o ≡ default_options
    → r ≡ burst_answer dbm rate default_options floor from
asked dbm rate from floor e d = rw d at e

-- number, lent bytes and scratch of an answer r that is w
pub lent_told : {A : Type 0} (f : Answer A → ℕ) (r w : Answer A) (new old now : List ℕ) (a a' b b' : List Float) (n : ℕ)
    → (r ≡ w) × (now ≡ leaves (number r) new old) × Free (number r) a a' × Free (number r) b b' → n ≡ f r
    → (n ≡ f w) × (now ≡ leaves (number w) new old) × Free (number w) a a' × Free (number w) b b'
lent_told {A} f r w new old now a a' b b' n e h =
    subst (λ (x : Answer A). (n ≡ f x) × (now ≡ leaves (number x) new old) × Free (number x) a a' × Free (number x) b b') e.0 (h, e.1, e.2, e.3)

pub written_told : (r : Answer ℕ) (cause count : ℕ) (made old now : List ℕ) → (r ≡ answer cause count) × (now ≡ leaves (number r) made old)
    → (sent_of r ≡ sent_of (answer cause count)) × (now ≡ leaves cause made old)
written_told r cause count made old now e =
    (ap sent_of e.0, e.1 ∙ ap (λ (a : Answer ℕ). leaves (number a) made old) e.0 ∙ ap (λ (c : ℕ). leaves c made old) (numbered cause))
  where
    numbered : (c : ℕ) → number (answer c count) ≡ c
    numbered zero = unfold number in unfold answer in refl
    numbered (suc c) = unfold number in unfold answer in refl
