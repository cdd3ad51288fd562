-- Lines computed: 01's `E 8 0 0 0`, and lines that `listen` prints for its stored stream. Assumes nothing.
use Rattle.std.specs.Prelude.{ℕ, ◌≡◌, refl, List, [], ◌∷◌, None, Some}
use Rattle.endian.specs.Bytes.{number_of, number_at}
use Rattle.listening_lines.specs.Text.{decimal_by, decimal, hex, hex_bytes}
use Rattle.listening_lines.specs.Lines.{tune_line, payload_text, hz_text, sender_text, message_line, refusal_line, end_line}

-- "prints exactly `E 8 0 0 0`"
end_line_lem : end_line 8 0 0 0 ≡ 69 ∷ 32 ∷ 56 ∷ 32 ∷ 48 ∷ 32 ∷ 48 ∷ 32 ∷ 48 ∷ 10 ∷ []
unfolding end_line decimal decimal_by
end_line_lem = refl

-- the first 28 bytes of a message's record: mask 3, one byte of payload, device 389c56d5, counter 180
abbrev short : List ℕ
short = 2 ∷ 3 ∷ 4 ∷ 1 ∷ 2 ∷ 0 ∷ 0 ∷ 0 ∷ 213 ∷ 86 ∷ 156 ∷ 56 ∷ 180 ∷ 0 ∷ 0 ∷ 0 ∷ 146 ∷ 0 ∷ 0 ∷ 0 ∷ 0 ∷ 0 ∷ 0 ∷ 0 ∷ 0 ∷ 0 ∷ 0 ∷ 0 ∷ []

-- `M 389c56d5 180 3 92 868131444`
message-line : message_line short (Some 868131444) ≡ 77 ∷ 32 ∷ 51 ∷ 56 ∷ 57 ∷ 99 ∷ 53 ∷ 54 ∷ 100 ∷ 53 ∷ 32 ∷ 49 ∷ 56 ∷ 48 ∷ 32 ∷ 51 ∷ 32 ∷ 57 ∷ 50 ∷ 32 ∷ 56 ∷ 54 ∷ 56 ∷ 49 ∷ 51 ∷ 49 ∷ 52 ∷ 52 ∷ 52 ∷ 10 ∷ []
unfolding message_line sender_text payload_text hz_text hex_bytes hex decimal decimal_by number_at number_of
message-line = refl

-- mask 6, no payload, device 57bc0a70, counter 3662
abbrev bare : List ℕ
bare = 2 ∷ 6 ∷ 4 ∷ 0 ∷ 2 ∷ 0 ∷ 0 ∷ 0 ∷ 112 ∷ 10 ∷ 188 ∷ 87 ∷ 78 ∷ 14 ∷ 0 ∷ 0 ∷ 0 ∷ 0 ∷ 0 ∷ 0 ∷ 0 ∷ 0 ∷ 0 ∷ 0 ∷ 0 ∷ 0 ∷ 0 ∷ 0 ∷ []

-- `M 57bc0a70 3662 6 - -`
bare-line : message_line bare None ≡ 77 ∷ 32 ∷ 53 ∷ 55 ∷ 98 ∷ 99 ∷ 48 ∷ 97 ∷ 55 ∷ 48 ∷ 32 ∷ 51 ∷ 54 ∷ 54 ∷ 50 ∷ 32 ∷ 54 ∷ 32 ∷ 45 ∷ 32 ∷ 45 ∷ 10 ∷ []
unfolding message_line sender_text payload_text hz_text hex_bytes hex decimal decimal_by number_at number_of
bare-line = refl

-- `T 868130000`, and no line where nothing is asked for; `R 8`
other_lines : (tune_line (Some 868130000) ≡ 84 ∷ 32 ∷ 56 ∷ 54 ∷ 56 ∷ 49 ∷ 51 ∷ 48 ∷ 48 ∷ 48 ∷ 48 ∷ 10 ∷ []) × (tune_line None ≡ [])
    × (refusal_line 8 ≡ 82 ∷ 32 ∷ 56 ∷ 10 ∷ [])
unfolding tune_line refusal_line decimal decimal_by
other_lines = (refl, refl, refl)
