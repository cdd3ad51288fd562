-- The remembered starts of the port.
use mathlib.Core.Path.{◌≡◌, ◌∙◌, ap, refl}
use mathlib.Core.Bool.{true, false}
use mathlib.Core.List.{List, [], ◌∷◌, ◌++◌, map}
use mathlib.Core.Logic.{⊎_elim}
use Prim.Native.Nat.{ℕ, suc, ◌+◌, ◌-◌}
use native.Mathlib.Omega.{arith}
use lib.Dec.{leb, ltb}
use lib.IntN.{ℤ, pos, ◌+ℤ◌}
use lib.Ieee.{Float}
use borrow.Author.Tests.{le-ltb, leb-true, ltb-false, ltb-true}
use Rattle.limits.specs.Limits.{lowest_rate, highest_rate}
use Rattle.limits.specs.Samples.{rate_ok}
use Rattle.ledger.specs.Ledger.{by_frames, Ledger, fresh, spaced}
use Rattle.ledger.specs.Causes.{Attempt, cause, first_of, after_call, after}
use Rattle.ledger.specs.Demodulation.{demod_of}
use Rattle.ledger.specs.Grown.{grown}
use Rattle.ledger.proofs.Basics.{and_true, either}
use Rattle.ledger.proofs.Fairness.{demod_fair}
use Rattle.ledger.proofs.Grown.{every-grown, grown-next, none_grown}
use Rattle.ledger.proofs.OpenKinds.{frames_lawful}
use Rattle.ledger.proofs.Orderly.{in_order}
use Rattle.receiver_starts.specs.Starts.{distance_of, distances_of}
use Rattle.receiver.proofs.Contracts.{contracts}
use Rattle.history.specs.Runs.{Exchange, Port, Run, port_after, fresh_port, attempt_of}
use Rattle.history.specs.Distances.{Exact, AllExact, Distances}
use Rattle.history.proofs.Calls.{Stands, fresh-stands, next}

-- ---- base plus a distance is the sample

back : (base s : ℕ) → pos base +ℤ distance_of base s ≡ pos s
back base s =
    ⊎_elim
    (λ e. let h = ltb-true s base e in let k : base - suc (base - suc s) ≡ s = omega arith in rw e (rw (le-ltb base (suc (base - suc s)) (omega arith)) (ap pos k)))
    (λ e. let h = ltb-false s base e in let k : base + (s - base) ≡ s = omega arith in rw e (ap pos k))
    (either (ltb s base))

all_back : (base : ℕ) (l : List ℕ) → map (λ (d : ℤ). pos base +ℤ d) (distances_of base l) ≡ map pos l
all_back base [] = refl
all_back base (s ∷ l) = rw (back base s, all_back base l) refl

-- ---- the ledger's starts are 0.3 s apart

-- at another rate every call is refused
no_rate : (rate : ℕ) → rate_ok rate ≡ false → (l : Ledger by_frames) (cs : List Attempt) → after rate (demod_of rate) l cs ≡ l
unfolding after after_call cause first_of
no_rate rate e l [] = refl
no_rate rate e l (a ∷ cs) = rw e (no_rate rate e l cs)

no_start : (rate : ℕ) → spaced rate [] (fresh {K = by_frames}).starts ≡ true
unfolding fresh spaced
no_start rate = refl

spread : (rate : ℕ) (cs : List Attempt) → spaced rate [] (grown rate cs).starts ≡ true
spread rate cs = ⊎_elim rated other (either (rate_ok rate))
  where
    rated : rate_ok rate ≡ true → spaced rate [] (grown rate cs).starts ≡ true
    rated e =
        let r = and_true (leb lowest_rate rate) (leb rate highest_rate) e in
        let lo = leb-true lowest_rate rate r.0 in
        (in_order rate (demod_of rate) (demod_fair rate lo (leb-true rate highest_rate r.1)) frames_lawful (omega arith) (λ ds. omega (arith, (every-grown rate ds).waiting)) cs).apart

    other : rate_ok rate ≡ false → spaced rate [] (grown rate cs).starts ≡ true
    other e = rw (no_rate rate e fresh cs) (no_start rate)

-- ---- a run

exact : (rate : ℕ) (first : List Float) (p : Port) (cs : List Attempt) → Stands rate first p (grown rate cs) → Exact rate p.receiver (grown rate cs)
exact rate first p cs st =
    let l = grown rate cs in
    record {
      starts = ap (map (λ (d : ℤ). pos p.receiver.base +ℤ d)) st.state.starts ∙ rw st.state.based (all_back l.base l.starts);
      apart = spread rate cs;
    }

module _ (rate : ℕ) (first : List Float) where
  -- from a port that stands for the ledger after the calls cs
  walk : (p : Port) (cs : List Attempt) (xs : List Exchange) → Stands rate first p (grown rate cs) → Run p xs → AllExact rate first cs xs
  walk p cs [] st run = tt
  walk p cs (x ∷ xs) st run =
      let a = attempt_of first x in
      let ds = cs ++ (a ∷ []) in
      let s : Stands rate first (port_after x) (grown rate ds) = rw (grown-next rate cs a) (next rate first p (grown rate cs) st x run.0) in
      (exact rate first (port_after x) ds s, walk (port_after x) ds xs s run.1)

pub distances-exact : Distances
distances-exact =
    record {
      code = contracts;
      port = λ rate samples xs run. walk rate samples (fresh_port rate samples) [] xs (rw (none_grown rate) (fresh-stands rate samples)) run;
    }
