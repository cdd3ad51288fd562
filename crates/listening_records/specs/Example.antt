-- Records computed: a frame and a message while no frequency has come, what follows a refusal, and a span that is moved. Assumes nothing.
use Rattle.std.specs.Prelude.{ℕ, ◌≡◌, refl, false, List, [], ◌∷◌, ◌++◌, replicate}
use Rattle.std.specs.Float.{binary64}
use Rattle.std.specs.Float.Ieee.{of_bits, of_int, round, sub, sum, div}
use Rattle.floats.specs.Number.{num}
use Rattle.endian.specs.Bytes.{bytes_of, number_of, number_at}
use Rattle.frequency.specs.declared.FrequencyTracker.{FrequencyTracker}
use Rattle.listening_lines.specs.Text.{decimal_by, decimal, hex, hex_bytes}
use Rattle.listening_lines.specs.Lines.{payload_text, hz_text, sender_text, message_line}
use Rattle.listening_records.specs.Emission.{Emission, Asked, earlier, span_in, answer_for, with_message, emitted, emitted_all}

-- whatever the tracker is
abbrev unheard : FrequencyTracker → Asked
unheard t = record { started = false; passed = 8; tracker = t; readings = []; room = 0 }

-- what was counted before, and the refusal or 0
abbrev before : ℕ → Emission
before n = record { refused = n; frames = 4; messages = 2; text = [] }

abbrev frame : List ℕ
frame = 1 ∷ []

-- the first 28 bytes of a message's record: mask 6, no payload, device 57bc0a70, counter 3662
abbrev message : List ℕ
message = 2 ∷ 6 ∷ 4 ∷ 0 ∷ 2 ∷ 0 ∷ 0 ∷ 0 ∷ 112 ∷ 10 ∷ 188 ∷ 87 ∷ 78 ∷ 14 ∷ 0 ∷ 0 ∷ 0 ∷ 0 ∷ 0 ∷ 0 ∷ 0 ∷ 0 ∷ 0 ∷ 0 ∷ 0 ∷ 0 ∷ 0 ∷ 0 ∷ []

-- a frame and a message more, and the line `M 57bc0a70 3662 6 - -`
counted : (t : FrequencyTracker) → emitted_all (unheard t) (before 0) (frame ∷ message ∷ []) ≡ record {
  refused = 0;
  frames = 5;
  messages = 3;
  text = 77 ∷ 32 ∷ 53 ∷ 55 ∷ 98 ∷ 99 ∷ 48 ∷ 97 ∷ 55 ∷ 48 ∷ 32 ∷ 51 ∷ 54 ∷ 54 ∷ 50 ∷ 32 ∷ 54 ∷ 32 ∷ 45 ∷ 32 ∷ 45 ∷ 10 ∷ [];
}
unfolding emitted_all emitted answer_for with_message message_line sender_text payload_text hz_text hex_bytes hex decimal decimal_by number_at number_of
counted t = refl

-- nothing after a refusal
stopped : (t : FrequencyTracker) → emitted_all (unheard t) (before 9) (frame ∷ message ∷ []) ≡ before 9
unfolding emitted_all emitted
stopped t = refl

-- a record whose first span is from 7 to 8.5 s
abbrev spanned : List ℕ
spanned = replicate 64 0 ++ (bytes_of 8 0x401c_0000_0000_0000 ++ bytes_of 8 0x4021_0000_0000_0000)

-- 5,000 samples were passed over: from 2 to 3.5 s; none was: as it stands there
moved : (span_in (earlier 5000) spanned 0 ≡ record { rank = 0; time = num 2; end = of_bits binary64 0x400c_0000_0000_0000 })
    × (span_in (earlier 0) spanned 0 ≡ record { rank = 0; time = num 7; end = of_bits binary64 0x4021_0000_0000_0000 })
unfolding bytes_of number_at number_of of_bits of_int round sub sum div
moved = (refl, refl)
