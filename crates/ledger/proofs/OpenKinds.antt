-- Lists of frames and entries are both kinds of open message.
use mathlib.Core.Path.{◌≡◌, refl}
use mathlib.Core.Bool.{true}
use Rattle.ledger.specs.Frames.{Frame, key_of}
use Rattle.ledger.specs.Merge.{entry_key, open_entry, merge, merge_all}
use Rattle.ledger.specs.Ledger.{Kind, by_frames, by_entry}
use Rattle.ledger.specs.Causes.{entry_fits}
use Rattle.ledger.proofs.Entries.{FrameFits, open-fits, merge-fits, merge_snoc}

pub record Lawful (K : Kind) : Type 0 where
  -- a message has its first frame's key, and keeps it
  pub opened-key : (f : Frame) → K.key (K.opened f) ≡ key_of f
  pub joined_key : (m : K.Open) (f : Frame) → K.key (K.joined m f) ≡ K.key m
  -- what the Rust holds of it is what the Rust merges
  pub entry-opened : (f : Frame) → K.entry (K.opened f) ≡ open_entry f
  pub entry-joined : (m : K.Open) (f : Frame) → K.entry (K.joined m f) ≡ merge (K.entry m) f

pub frames_lawful : Lawful by_frames
unfolding merge_all
frames_lawful =
    record {
      opened-key = λ f. refl;
      joined_key = λ m f. refl;
      entry-opened = λ f. refl;
      entry-joined = λ m f. merge_snoc (open_entry m.first) m.more f;
    }

pub entries_lawful : Lawful by_entry
unfolding open_entry merge key_of entry_key
entries_lawful =
    record { opened-key = λ f. refl; joined_key = λ m f. refl; entry-opened = λ f. refl; entry-joined = λ m f. refl }

module _ (K : Kind) (laws : Lawful K) where
  pub opened-fits : (f : Frame) → FrameFits f → entry_fits (K.entry (K.opened f)) ≡ true
  opened-fits f h = rw (laws.entry-opened f) (open-fits f h)

  pub joined-fits : (m : K.Open) (f : Frame) → FrameFits f → entry_fits (K.entry m) ≡ true → entry_fits (K.entry (K.joined m f)) ≡ true
  joined-fits m f h e = rw (laws.entry-joined m f) (merge-fits (K.entry m) f h e)
