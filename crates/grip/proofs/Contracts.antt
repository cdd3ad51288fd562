-- What the contracts of `nearest_message` and `on_air` tell a caller is `Call` and `Heard` of the claims, and they ask nothing of their caller; so the claims hold of every call. Assumes nothing.
use mathlib.Core.Path.{◌≡◌}
use Prim.Native.Nat.{ℕ}
use contract.Lifetimes.{Lfts}
use borrow.Fn.World.{ArgsD, ResD}
use borrow.Fn.Kinds.{ended_of}
use denote.Triple.Clauses.{AtExit}
use Rattle.limits.specs.Answer.{said, accepted}
use Rattle.event_list.specs.Events.{events_of}
use Rattle.grip.specs.Nearest.{Call}
use Rattle.grip.specs.Claims.{NoneExactly, Heard, Listed}
use Rattle.grip.proofs.Claims.{none_is_true, all_on_air}
use Rattle.grip.specs.contracts.nearest_message as nearest-fn
use Rattle.grip.proofs.nearest_message.Kinds as nearest-kinds
use Rattle.grip.proofs.nearest_message.Reads as nearest-reads
use Rattle.grip.specs.contracts.on_air as air-fn
use Rattle.grip.proofs.on_air.Kinds as air-kinds
use Rattle.grip.proofs.on_air.Reads as air-reads

module _ (κs : Lfts 1) (a : ArgsD nearest-fn.signature κs) where
  pub nearest-asks-nothing : nearest-reads.Asked κs a
  nearest-asks-nothing = tt

  module _ (r : ResD nearest-fn.signature κs) (s : AtExit (ended_of 1 nearest-kinds.ps nearest-kinds.r) κs) (p : nearest-reads.Learnt κs a r s) where
    pub is_call : Call a.0.now a.1.0 a.1.1.0 r
    is_call = p

    pub none-exactly : NoneExactly a.0.now a.1.0 a.1.1.0 r
    none-exactly = none_is_true a.0.now a.1.0 a.1.1.0 r is_call

module _ (κs : Lfts 2) (a : ArgsD air-fn.signature κs) where
  pub air_asks-nothing : air-reads.Asked κs a
  air_asks-nothing = tt

  module _ (r : ResD air-fn.signature κs) (s : AtExit (ended_of 2 air-kinds.ps air-kinds.r) κs) (p : air-reads.Learnt κs a r s) where
    pub is-heard : Heard a.0.now a.1.0 a.1.1.0.now s.1.1.0.now r
    is-heard = record { answered = p.0; left = p.1 }

    pub listed : (n : ℕ) → said r ≡ accepted n → Listed s.1.1.0.now n a.1.0 (events_of a.0.now)
    listed n e = all_on_air a.0.now a.1.0 a.1.1.0.now s.1.1.0.now r n is-heard e
