-- The frames of the ledger's open messages have ranks 0 to 2.
use mathlib.Core.List.{List, [], ◌∷◌}
use mathlib.Core.Bool.{Bool}
use Prim.Native.Nat.{ℕ, ◌≤◌}
use lib.Ieee.{Float}
use Rattle.ledger.specs.Types.{Burst}
use Rattle.ledger.specs.Frames.{Frame, rank_of}
use Rattle.ledger.specs.Ledger.{Message, frames, by_frames, Demod, seconds, Ledger, Call, chosen, others, scans}
use Rattle.ledger.proofs.Basics.{Every}
use Rattle.ledger.proofs.Entries.{RanksFit}
use Rattle.ledger.proofs.Throughout.{others-every, chosen-every, EveryOpen, Gives, scans-holds}

abbrev Ranked : Frame → Type 0
Ranked f = rank_of f ≤ 2

abbrev pub AllRanked : List Message → Type 0
AllRanked l = EveryOpen Ranked l

module _ (p : Message → Bool) where
  pub others-ranked : (l : List Message) → AllRanked l → AllRanked (others p l)
  others-ranked l w = others-every (λ m. RanksFit (frames m)) p l w

  pub chosen-ranked : (l : List Message) → AllRanked l → AllRanked (chosen p l)
  chosen-ranked l w = chosen-every (λ m. RanksFit (frames m)) p l w

module _ (rate : ℕ) (d : Demod) where
  all_give : (held : List Float) (base : ℕ) (bs : List Burst) → Every (Gives rate d Ranked held base) bs
  unfolding rank_of
  all_give held base [] = tt
  all_give held base (b ∷ bs) = ((λ x h e. d.ranks held (seconds rate base) b x e), all_give held base bs)

  pub scans-ranked : (l : Ledger by_frames) (c : Call) → AllRanked l.waiting → AllRanked (scans rate d l c).waiting
  scans-ranked l c w =
      (scans-holds rate d Ranked (λ held base xs. Unit) (λ held xs base q. all_give held base (d.bursts held)) (λ l xs q. tt) l c tt w).waiting
