-- A receiver grown from a fresh one, at the port.
use mathlib.Core.Path.{◌≡◌, sym, ap, ◌∙◌}
use mathlib.Core.List.{List, [], ◌∷◌, ◌++◌}
use Prim.Native.Nat.{ℕ}
use lib.ListN.{length, length-map}
use lib.Ieee.{Float}
use Rattle.ledger.specs.Ledger.{by_frames, summary, Ledger}
use Rattle.ledger.specs.Causes as causes
use Rattle.ledger.specs.Causes.{Attempt}
use Rattle.ledger.specs.Grown.{grown}
use Rattle.ledger.proofs.Grown.{every-grown, grown-next, none_grown}
use Rattle.receiver.proofs.Contracts.{contracts}
use Rattle.history.specs.Runs.{Exchange, Port, Run, port_after, fresh_port, attempt_of}
use Rattle.history.specs.Grown.{AllStay, Grown}
use Rattle.history.proofs.Calls.{Stands, fresh-stands, refused, next}

-- as many messages wait as in the ledger that the port stands for
count_is : (rate : ℕ) (first : List Float) (p : Port) (l : Ledger by_frames) → Stands rate first p l → p.receiver.waiting.count ≡ length l.waiting
count_is rate first p l st = ap (λ (n : causes.Counts). n.waiting) st.state.counts ∙ length-map l.waiting summary

module _ (rate : ℕ) (first : List Float) where
  -- a run from a port that stands for the ledger after the calls cs
  walk : (p : Port) (cs : List Attempt) (xs : List Exchange) → Stands rate first p (grown rate cs) → Run p xs → AllStay xs
  walk p cs [] st run = tt
  walk p cs (x ∷ xs) st run =
      let a = attempt_of first x in
      let ds = cs ++ (a ∷ []) in
      let s : Stands rate first (port_after x) (grown rate ds) = rw (grown-next rate cs a) (next rate first p (grown rate cs) st x run.0) in (
        record {
          waiting = rw (count_is rate first (port_after x) (grown rate ds) s) (every-grown rate ds).waiting;
          in_order = λ e. (every-grown rate cs).in_order a (sym (refused rate first p (grown rate cs) st x run.0) ∙ e);
        },
        walk (port_after x) ds xs s run.1,
      )

pub grown-port : Grown
grown-port =
    record {
      code = contracts;
      port = λ rate samples xs run. walk rate samples (fresh_port rate samples) [] xs (rw (none_grown rate) (fresh-stands rate samples)) run;
    }
