-- What the contract of `deconvolve_bytes` tells a caller is `Call` of the theorem, and it asks nothing of its caller; so the agreement holds of every call. Assumes nothing.
use contract.Lifetimes.{Lfts}
use borrow.Fn.World.{ArgsD, ResD}
use borrow.Fn.Kinds.{ended_of}
use denote.Triple.Clauses.{AtExit}
use Rattle.bytewise.specs.Agreement.{Call}
use Rattle.bytewise.specs.contracts.deconvolve_bytes as bytes-fn
use Rattle.bytewise.proofs.deconvolve_bytes.Kinds as kinds
use Rattle.bytewise.proofs.deconvolve_bytes.Reads as reads

module _ (κs : Lfts 4) (a : ArgsD bytes-fn.signature κs) where
  pub asks_nothing : reads.Asked κs a
  asks_nothing = tt

  module _ (r : ResD bytes-fn.signature κs) (s : AtExit (ended_of 4 kinds.ps kinds.r) κs) (p : reads.Learnt κs a r s) where
    pub is_call : Call a.0.now a.1.0.now a.1.1.0 a.1.1.1.0 a.1.1.1.1.0.now a.1.1.1.1.1.0.now
        s.1.1.1.1.0.now s.1.1.1.1.1.0.now r
    is_call = record { answered = p.0; left = p.1; left_rest = p.2 }
