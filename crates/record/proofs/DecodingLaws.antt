-- What the C function answers, by what the decoder answered. Assumes nothing.
use Rattle.std.proofs.Common.{Option, ℕ, List, ◌≡◌, ◌≤◌, ◌<◌, length}
use borrow.Author.Tests.{lt-ltb, le-ltb}
use Rattle.limits.specs.Limits.{short, record_size}
use Rattle.limits.specs.Answer.{Answer}
use Rattle.frame.specs.Decode.{uplink_answer}
use Rattle.frame.specs.declared.UplinkFrame.{UplinkFrame}
use Rattle.record.specs.Decoding.{number_of, record_by, decode_number, decode_record}

module _ (bits out : List ℕ) where
  pub decode-short : length out < record_size → (short ≡ decode_number bits out) × (out ≡ decode_record bits out)
  unfolding decode_number decode_record
  decode-short h = (simp (lt-ltb _ _ h), simp (lt-ltb _ _ h))

  pub decode-whole : record_size ≤ length out → (a : Answer (Option UplinkFrame)) → a ≡ uplink_answer bits
      → (number_of a ≡ decode_number bits out) × (record_by a out ≡ decode_record bits out)
  unfolding decode_number decode_record
  decode-whole h a e = (simp (le-ltb _ _ h, e), simp (le-ltb _ _ h, e))
