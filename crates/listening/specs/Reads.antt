-- Scaffolding. What the code of `listen` has of the bytes that were read, and how it ends. Assumes nothing.
use Rattle.std.specs.Prelude.{ℕ, ◌+◌, ◌*◌, ◌/◌, ◌%◌, ◌≤◌, ◌≡◌, List, ◌++◌, length, take, drop, Float, Result, Ok, Err}
use Rattle.limits.specs.Refusals.{number_of}
use Rattle.frequency.specs.Lent.{Lists}
use Rattle.receiver.specs.declared.SigfoxReceiver.{SigfoxReceiver}
use Rattle.listening.specs.declared.Listener.{Listener}
use Rattle.listening.specs.declared.Stop.{Stop}
use Rattle.listening.specs.declared.Stop.TheVariants.{Refused, Broken}
use Rattle.listening.specs.Program.{record_bytes, listen, ending, nothing_heard, after, said, Accepted}
use Rattle.listening.specs.Hand.{Reached, Refuses}

-- bytes of the input's buffer: a whole number of records, so that a record never lies across its end
abbrev pub buffer : ℕ
buffer = 4096

-- read: all bytes so far. The buffer's front holds those since it was last full, so that a record that is not whole yet stands there; every whole record was accepted, and the code
-- has the definition's state after them
pub record Stage (read input : List ℕ) (k : ℕ) (l : Listener) (receiver : SigfoxReceiver) (m : Lists) (places : List Float) : Type 0 where
  pub filled : k ≡ length read % buffer
  pub tail : drop (record_bytes * (length read / record_bytes)) read ≡ drop (record_bytes * (k / record_bytes)) (take k input)
  pub all : Reached read (length read / record_bytes) l receiver m places

-- some input has brought it here
pub record Staged (input : List ℕ) (k : ℕ) (l : Listener) (receiver : SigfoxReceiver) (m : Lists) (places : List Float) : Type 0 where
  pub read : List ℕ
  pub stage : Stage read input k l receiver m places

-- ---- the end

-- of all that was read: the texts handed over were those of its whole records, and last that of its end; together the definition's
pub record HeardAll : Type 0 where
  pub read : List ℕ
  pub accepted : Accepted (length read / record_bytes) nothing_heard read
  pub text : listen read ≡ said (length read / record_bytes) nothing_heard read ++ ending (after (length read / record_bytes) nothing_heard read) (length read % record_bytes)

pub record RefusedAt (number : ℕ) : Type 0 where
  pub read : List ℕ
  pub refuses : Refuses read number

-- why the program ended before its input did; where standard input or output failed, nothing
abbrev pub Stopped : Stop → Type 0
Stopped (Refused e) = RefusedAt (number_of e)
Stopped Broken = Unit

-- how the program ended, and an input of which the definition gives just that
abbrev pub Ran : {A : Type 0} → Result A Stop → Type 0
Ran (Ok v) = HeardAll
Ran (Err e) = Stopped e

-- ---- a read

-- n bytes that it brought behind those of before
pub record Longer (read input : List ℕ) (k n : ℕ) (l : Listener) (receiver : SigfoxReceiver) (m : Lists) (places : List Float) : Type 0 where
  pub bytes : List ℕ
  pub count : length bytes ≡ n
  pub fits : k + n ≤ buffer
  pub stage : Stage (read ++ bytes) input ((k + n) % buffer) l receiver m places

-- what it leaves
abbrev pub Further : List ℕ → List ℕ → ℕ → Result ℕ Stop → Listener → SigfoxReceiver → Lists → List Float → Type 0
Further read input k (Ok n) l receiver m places = Longer read input k n l receiver m places
Further read input k (Err e) l receiver m places = Stopped e
