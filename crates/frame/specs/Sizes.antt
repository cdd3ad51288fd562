-- Sizes of a frame's parts, in bytes (01, frame.rs: 'Payload/auth bytes: class 0 is 0/2, class 1 is 1/2, class c from 2 is 4(c−1)−LI / LI+2'). Assumes nothing.
use Rattle.std.specs.Prelude.{ℕ, zero, suc, ◌+◌, ◌-◌, ◌*◌}

-- LI, BF, REP and message counter, then the device
abbrev pub header_size : ℕ
header_size = 6

abbrev pub crc_size : ℕ
crc_size = 2

-- the longest payload and authentication
abbrev pub most_payload : ℕ
most_payload = 12

abbrev pub most_auth : ℕ
most_auth = 5

-- of a class and the LI read from the frame (frame.rs sizes); 'LI of class 1 is not used'
unfoldable pub payload_size : ℕ → ℕ → ℕ
payload_size zero li = 0
payload_size (suc zero) li = 1
payload_size (suc (suc c)) li = 4 * suc c - li

unfoldable pub auth_size : ℕ → ℕ → ℕ
auth_size zero li = 2
auth_size (suc zero) li = 2
auth_size (suc (suc c)) li = li + 2

-- all of a body, which is the same for every LI (law `li-cancels`)
unfoldable pub body_bytes : ℕ → ℕ
unfolding payload_size auth_size
body_bytes class = header_size + payload_size class 0 + auth_size class 0 + crc_size

-- the longest body: class 4
abbrev pub most_bytes : ℕ
most_bytes = 22
