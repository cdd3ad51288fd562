-- The lines of 01's program `listen`, byte by byte (01, frequency.rs, "Lines"). Assumes nothing.
use Rattle.std.specs.Prelude.{ℕ, cond, List, [], ◌∷◌, ◌++◌, eqb, take, Option, None, Some}
use Rattle.record.specs.Readers.{rank_of, payload_len_of, device_of, counter_of, payload_of}
use Rattle.listening_lines.specs.Text.{decimal, hex, hex_bytes}

-- a line feed
abbrev pub ended : List ℕ
ended = 10 ∷ []

abbrev pub space : List ℕ
space = 32 ∷ []

abbrev pub dash : List ℕ
dash = 45 ∷ []

-- "`T hz` (retune)": no line where `next_tuning` asks for none
unfoldable pub tune_line : Option ℕ → List ℕ
tune_line None = []
tune_line (Some hz) = 84 ∷ 32 ∷ (decimal hz ++ ended)

-- "payload .. lower-case hex or `-`": as many of the record's bytes as its length says
unfoldable pub payload_text : List ℕ → List ℕ
payload_text e = cond (eqb (payload_len_of e) 0) dash (hex_bytes (take (payload_len_of e) (payload_of e)))

-- "the answer of `frame1` or `-`"
unfoldable pub hz_text : Option ℕ → List ℕ
hz_text None = dash
hz_text (Some hz) = decimal hz

-- "`M device counter ranks": "8 lower-case hex digits, decimal, byte 1 in decimal", and the space behind them
unfoldable pub sender_text : List ℕ → List ℕ
sender_text e = 77 ∷ 32 ∷ (hex 8 (device_of e) ++ (space ++ (decimal (counter_of e) ++ (space ++ (decimal (rank_of e) ++ space)))))

-- "payload hz`": the line of a message's record
unfoldable pub message_line : List ℕ → Option ℕ → List ℕ
message_line e hz = sender_text e ++ (payload_text e ++ (space ++ (hz_text hz ++ ended)))

-- "`R number` on a refusal"
unfoldable pub refusal_line : ℕ → List ℕ
refusal_line n = 82 ∷ 32 ∷ (decimal n ++ ended)

-- "`E samples frames messages leftover-bytes`"
unfoldable pub end_line : ℕ → ℕ → ℕ → ℕ → List ℕ
end_line samples frames messages leftover =
    69 ∷ 32 ∷ (decimal samples ++ (space ++ (decimal frames ++ (space ++ (decimal messages ++ (space ++ (decimal leftover ++ ended)))))))
