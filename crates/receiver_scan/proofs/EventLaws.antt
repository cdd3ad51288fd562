-- One record more in the event buffer. Assumes nothing.
use mathlib.Core.Path.{◌≡◌, refl, sym, ◌∙◌}
use mathlib.Core.List.{List, [], ◌∷◌, ◌++◌, map}
use Prim.Native.Nat.{ℕ, ◌+◌, ◌*◌, ◌≤◌}
use native.Mathlib.Omega.{arith}
use lib.ListN.{length}
use lib.Seq.{sets}
use Rattle.limits.specs.Limits.{record_size}
use Rattle.record.proofs.RecordLaws.{length-frame}
use Rattle.demod.proofs.DecodedFacts.{Lawful}
use Rattle.ledger.specs.Frames.{Frame}
use Rattle.ledger.specs.Records.{Sized, frame_bytes, with_records}
use Rattle.ledger.proofs.Basics.{map-join}
use Rattle.ledger.proofs.Joined.{sized-append, with_one}

-- the records of a call's frames
abbrev pub records_of : List Frame → List (List ℕ)
records_of fs = map frame_bytes fs

pub length-records : (fs : List Frame) → length (records_of fs) ≡ length fs
length-records [] = refl
length-records (f ∷ fs) = omega (arith, length-records fs)

pub records_more : (fs : List Frame) (f : Frame) → records_of (fs ++ (f ∷ [])) ≡ records_of fs ++ (frame_bytes f ∷ [])
records_more fs f = map-join frame_bytes fs (f ∷ [])

pub frame-sized : (f : Frame) → Lawful f.uplink → length (frame_bytes f) ≡ record_size
frame-sized f a = length-frame f.uplink f.reception a.payload-places a.auth-places

module _ (fs : List Frame) (f : Frame) (lawful : Lawful f.uplink) (old : List ℕ) (a : Sized (records_of fs)) where
  pub heard-sized : Sized (records_of (fs ++ (f ∷ [])))
  heard-sized = rw (records_more fs f) (sized-append (records_of fs) (frame_bytes f ∷ []) a (frame-sized f lawful, tt))

  pub heard-events : (n : ℕ) (events : List ℕ) → n ≡ length fs → events ≡ with_records (records_of fs) old → record_size * (n + 1) ≤ length events
      → sets events (record_size * n) (frame_bytes f) ≡ with_records (records_of (fs ++ (f ∷ []))) old
  heard-events n events k e room =
      let i : n ≡ length (records_of fs) = k ∙ sym (length-records fs) in
      let h : record_size * (length (records_of fs) + 1) ≤ length (with_records (records_of fs) old) = rw (← i, ← e) room in
      rw (i, e, records_more fs f) (with_one (records_of fs) (frame_bytes f) old a (frame-sized f lawful) h)
