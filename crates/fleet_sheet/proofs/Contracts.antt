-- What the contract of `fleet_report` tells a caller is `Call` of the claims, and it asks nothing of its caller; so the claims hold of every call. Assumes nothing.
use Rattle.std.proofs.Common.{◌≡◌, ℕ}
use contract.Lifetimes.{Lfts}
use borrow.Fn.World.{ArgsD, ResD}
use borrow.Fn.Kinds.{ended_of}
use denote.Triple.Clauses.{AtExit}
use Rattle.limits.specs.Answer.{said, accepted}
use Rattle.fleet_sheet.specs.Report.{fleet_messages}
use Rattle.fleet_sheet.specs.Claims.{Call, Devices, Sums}
use Rattle.fleet_sheet.proofs.Claims.{every-device, every-sum}
use Rattle.fleet_sheet.specs.contracts.fleet_report as report-fn
use Rattle.fleet_sheet.proofs.fleet_report.Kinds as kinds
use Rattle.fleet_sheet.proofs.fleet_report.Reads as reads

module _ (κs : Lfts 2) (a : ArgsD report-fn.signature κs) where
  pub asks_nothing : reads.Asked κs a
  asks_nothing = tt

  module _ (r : ResD report-fn.signature κs) (s : AtExit (ended_of 2 kinds.ps kinds.r) κs) (p : reads.Learnt κs a r s) where
    pub is_call : Call a.0.now a.1.0.now s.1.0.now r
    is_call = record { answered = p.0; left = p.1 }

    module _ (n : ℕ) (e : said r ≡ accepted n) where
      pub devices : Devices s.1.0.now n (fleet_messages a.0.now)
      devices = every-device a.0.now a.1.0.now s.1.0.now r n is_call e

      pub sums : Sums s.1.0.now n (fleet_messages a.0.now)
      sums = every-sum a.0.now a.1.0.now s.1.0.now r n is_call e
