-- What the contract of `write_uplink` tells a caller is `Call` of the round trip, and it asks nothing of its caller; so the round trip holds of every call. Assumes nothing.
use Rattle.std.proofs.Common.{Some}
use mathlib.Core.Path.{◌≡◌}
use Prim.Native.Nat.{ℕ, ◌≤◌}
use contract.Lifetimes.{Lfts}
use borrow.Fn.World.{ArgsD, ResD}
use borrow.Fn.Kinds.{ended_of}
use denote.Triple.Clauses.{AtExit}
use Rattle.limits.specs.Answer.{said, accepted}
use Rattle.frame.specs.Decode.{uplink_answer}
use Rattle.writer.specs.Uplink.{sent_frame}
use Rattle.writer.specs.RoundTrip.{Typed, Call, written_at}
use Rattle.writer.proofs.RoundTrip.{round_trip_always}
use Rattle.writer.specs.contracts.write_uplink as write-fn
use Rattle.writer.proofs.write_uplink.Kinds as kinds
use Rattle.writer.proofs.write_uplink.Reads as reads

module _ (κs : Lfts 3) (a : ArgsD write-fn.signature κs) where
  pub asks_nothing : reads.Asked κs a
  asks_nothing = tt

  module _ (r : ResD write-fn.signature κs) (s : AtExit (ended_of 3 kinds.ps kinds.r) κs) (p : reads.Learnt κs a r s) where
    pub is_call : Call a.0 a.1.0.now a.1.1.0.now a.1.1.1.0.now s.1.1.1.0.now r
    is_call = record { answered = p.0; left = p.1 }

    pub decodes : (count rank : ℕ) → Typed a.0 a.1.0.now a.1.1.0.now → said r ≡ accepted count → rank ≤ 2
        → uplink_answer (written_at rank count s.1.1.1.0.now) ≡ accepted (Some (sent_frame a.0 a.1.0.now a.1.1.0.now rank))
    decodes count rank t e h = round_trip_always a.0 a.1.0.now a.1.1.0.now a.1.1.1.0.now s.1.1.1.0.now r count rank t is_call e h
