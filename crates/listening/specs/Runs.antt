-- Runs of the program: calls of `record_step`, one for each whole record of the bytes that were read, then one of `finish`, made of what their contracts say and of nothing
-- else; and the texts that are handed to `write`, one behind the other. Assumes nothing.
use Rattle.std.specs.Prelude.{ℕ, ◌<◌, ◌≡◌, List, ◌++◌, length, take, replicate, Float}
use Rattle.demod.specs.Capture.{joined}
use Rattle.ledger.specs.Ledger.{by_frames, Ledger}
use Rattle.frequency_lists.specs.declared.Tuning.{Tuning}
use Rattle.frequency.specs.Lent.{Lists, lists}
use Rattle.receiver.specs.declared.SigfoxReceiver.{SigfoxReceiver}
use Rattle.receiver.specs.State.{new_state}
use Rattle.listening_lines.specs.Text.{Added}
use Rattle.listening_tracker.specs.Turn.{reading_places}
use Rattle.listening_receiver.specs.Hearing.{rate}
use Rattle.listening_receiver.specs.Standing.{StandsFor}
use Rattle.listening.specs.declared.Listener.{Listener}
use Rattle.listening.specs.Program.{record_bytes, tuning_places, no_reading, no_tuning, step, ending, listen}
use Rattle.listening.specs.Hand.{new_listener, state_of, Goes, Stepped}

-- the code between two records
pub record Code : Type 0 where
  pub listener : Listener
  pub receiver : SigfoxReceiver
  pub lists : Lists
  pub places : List Float

-- a call of `record_step`: the record, the buffer before and after it, and what came back
pub record Exchange : Type 0 where
  pub bytes : List ℕ
  pub out : List ℕ
  pub stepped : Stepped
  pub lists : Lists
  pub places : List Float
  pub out' : List ℕ

-- what `record_step` ensures
abbrev pub Did : Code → Exchange → Type 0
Did s x =
    (length x.bytes ≡ record_bytes)
    × ((g : Ledger by_frames) → StandsFor s.receiver s.places g → Goes (step (state_of s.listener s.lists g) x.bytes) x.out x.stepped x.lists x.places x.out')

abbrev pub code_after : Exchange → Code
code_after x = record { listener = x.stepped.listener; receiver = x.stepped.receiver; lists = x.lists; places = x.places }

-- a call of `finish`: the buffer before and after it, and where the text ends
pub record Last : Type 0 where
  pub out : List ℕ
  pub end : ℕ
  pub out' : List ℕ

-- what `finish` ensures
abbrev pub Finished : Code → ℕ → Last → Type 0
Finished s leftover f =
    (g : Ledger by_frames) (ts : List Tuning) → StandsFor s.receiver s.places g
    → Added f.out 0 (ending (state_of s.listener (lists s.lists.readings ts) g) leftover) f.end f.out'

-- on these bytes these texts are handed over, joined: record by record, nothing behind a refusal, and last what `finish` left
pub data Run : Code → List ℕ → List ℕ → Type 0 where
  goes : (s : Code) (x : Exchange) (rest texts : List ℕ) → Did s x → x.stepped.refused ≡ 0 → Run (code_after x) rest texts
      → Run s (x.bytes ++ rest) (take x.stepped.end x.out' ++ texts)
  stops : (s : Code) (x : Exchange) (rest : List ℕ) → Did s x → (x.stepped.refused ≡ 0 → ⊥) → Run s (x.bytes ++ rest) (take x.stepped.end x.out')
  ends : (s : Code) (leftover : List ℕ) (f : Last) → length leftover < record_bytes → Finished s (length leftover) f → Run s leftover (take f.end f.out')

-- nothing was read; the sample buffer is of any contents
abbrev pub fresh_code : List Float → Code
fresh_code places = record {
  listener = new_listener;
  receiver = new_state rate;
  lists = lists (replicate reading_places no_reading) (replicate tuning_places no_tuning);
  places = places;
}

-- over every list of reads: the texts handed over, joined, are the definition's of the reads, joined
abbrev pub AsDefined : Type 0
AsDefined =
    (places : List Float) (reads : List (List ℕ)) (texts : List ℕ) → length places ≡ 12000 → Run (fresh_code places) (joined reads) texts → texts ≡ listen (joined reads)
