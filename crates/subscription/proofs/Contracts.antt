-- What the contract of `charges` tells a caller is `Call` of the claims, and it asks nothing of its caller; so the claims hold of every call. Assumes nothing.
use mathlib.Core.Path.{◌≡◌}
use Prim.Native.Nat.{ℕ}
use lib.IntN.{nat_abs}
use contract.Lifetimes.{Lfts}
use borrow.Fn.World.{ArgsD, ResD}
use borrow.Fn.Kinds.{ended_of}
use denote.Triple.Clauses.{AtExit}
use Rattle.limits.specs.Answer.{said, accepted}
use Rattle.event_list.specs.Events.{events_of, messages_of}
use Rattle.subscription.specs.Claims.{Call, Sum}
use Rattle.subscription.proofs.Claims.{every-sum}
use Rattle.subscription.specs.contracts.charges as charges-fn
use Rattle.subscription.proofs.charges.Kinds as kinds
use Rattle.subscription.proofs.charges.Reads as reads

module _ (κs : Lfts 1) (a : ArgsD charges-fn.signature κs) where
  pub asks_nothing : reads.Asked κs a
  asks_nothing = tt

  module _ (r : ResD charges-fn.signature κs) (s : AtExit (ended_of 1 kinds.ps kinds.r) κs) (p : reads.Learnt κs a r s) where
    pub is_call : Call a.0.now a.1.0 a.1.1.0 r
    is_call = record { answered = p }

    pub sum : (cents : ℕ) → said r ≡ accepted cents → Sum a.1.0 (nat_abs a.1.1.0) (messages_of (events_of a.0.now)) cents
    sum cents e = every-sum a.0.now a.1.0 a.1.1.0 r cents is_call e
