-- REQUEST 01'S ROUND TRIP: "Where no start under 20 shows a frame type, decoding what it wrote gives back every field, for each payload class, shown over the class."
-- `Call` is what the contract of `write_uplink` ensures of a call; proofs/Contracts.antt takes it from the contract itself. The decoder is frame's
-- `decode_uplink_bits` (`uplink_answer`), and "every field" is its whole answer (`sent_frame`, specs/Uplink.antt). Assumes nothing.
use Rattle.std.specs.Prelude.{ℕ, ◌*◌, ◌+◌, ◌≤◌, ◌<◌, ◌≡◌, Bool, true, List, map, ◌⊎◌, length, take, drop, get_or, None, Some, Result}
use Rattle.limits.specs.Answer.{answer, said, number, leaves, accepted}
use Rattle.coding.specs.Bits.{odd, value, bytes_bits}
use Rattle.frame.specs.Kinds.{sync_size, kinds, kind_of, plain}
use Rattle.frame.specs.Sizes.{body_bytes}
use Rattle.frame.specs.Fields.{crc_right, frame_from}
use Rattle.frame.specs.Decode.{decode_uplink, uplink_answer}
use Rattle.frame.specs.declared.header.UplinkFields.{UplinkFields}
use Rattle.writer.specs.Uplink.{lead_size, repeated, uplink_bits, bit_count, sent_frame}
use Rattle.writer.specs.Answers.{places, write_cause, put_all}
use Rattle.limits.specs.declared.Refusal.{Refusal}

-- what the types of the arguments say: a u32, and bytes
pub record Typed (f : UplinkFields) (payload auth : List ℕ) : Type 0 where
  pub device : f.device_id < 4294967296
  pub payload-bytes : (i : ℕ) → get_or payload i 0 < 256
  pub auth-bytes : (i : ℕ) → get_or auth i 0 < 256

-- a call: its arguments, the slice before and after it, and its answer
pub record Call (f : UplinkFields) (payload auth before after : List ℕ) (r : Result ℕ Refusal) : Type 0 where
  pub answered : said r ≡ answer (write_cause f payload auth (length before)) (bit_count f payload)
  pub left : after ≡ leaves (number (said r)) (put_all (uplink_bits f payload auth) before) before

-- what an accepted call left at a rank's places: as many as its count says
abbrev pub written_at : ℕ → ℕ → List ℕ → List ℕ
written_at rank count after = take count (drop (places * rank) after)

-- no start under n shows a frame type
abbrev pub Quiet : ℕ → List Bool → Type 0
Quiet n l = (s : ℕ) → s < n → kind_of (value (take sync_size (drop s l))) kinds ≡ None

-- ---- THE THEOREMS

-- over the class: a body of any class and rank with a right CRC is read back as its bytes say (`frame_from` has every field), with no repair
abbrev pub OverTheClass : Type 0
OverTheClass =
    (rank class : ℕ) (bytes : List ℕ) → rank ≤ 2 → class ≤ 4 → length bytes ≡ body_bytes class → ((i : ℕ) → get_or bytes i 0 < 256)
    → crc_right (body_bytes class) bytes ≡ true → Quiet lead_size (repeated class (bytes_bits bytes) rank)
    → decode_uplink (repeated class (bytes_bits bytes) rank) ≡ Some (frame_from (plain rank class) None bytes)

-- as asked
abbrev pub RoundTrip : Type 0
RoundTrip =
    (f : UplinkFields) (payload auth before after : List ℕ) (r : Result ℕ Refusal) (count rank : ℕ) → Typed f payload auth → Call f payload auth before after r
    → said r ≡ accepted count → rank ≤ 2 → Quiet lead_size (map odd (written_at rank count after))
    → uplink_answer (written_at rank count after) ≡ accepted (Some (sent_frame f payload auth rank))

-- and its condition holds of every accepted call
abbrev pub AlwaysQuiet : Type 0
AlwaysQuiet =
    (f : UplinkFields) (payload auth before after : List ℕ) (r : Result ℕ Refusal) (count rank : ℕ) → Call f payload auth before after r
    → said r ≡ accepted count → rank ≤ 2 → Quiet lead_size (map odd (written_at rank count after))

abbrev pub RoundTripAlways : Type 0
RoundTripAlways =
    (f : UplinkFields) (payload auth before after : List ℕ) (r : Result ℕ Refusal) (count rank : ℕ) → Typed f payload auth → Call f payload auth before after r
    → said r ≡ accepted count → rank ≤ 2 → uplink_answer (written_at rank count after) ≡ accepted (Some (sent_frame f payload auth rank))

-- "places past the count keep their contents": a place that no repetition's count reaches
abbrev pub Kept : Type 0
Kept =
    (f : UplinkFields) (payload auth before after : List ℕ) (r : Result ℕ Refusal) (count i : ℕ) → Call f payload auth before after r → said r ≡ accepted count
    → ((rank : ℕ) → rank ≤ 2 → (i < places * rank) ⊎ (places * rank + count ≤ i)) → get_or after i 0 ≡ get_or before i 0
