-- THE LIMITS of a card's values and THE LAYOUT of its image, docs/IMAGE.md: the one place that has them in numbers.
-- `card` has constants of the same names. Assumes nothing.
use Rattle.std.specs.Prelude.{ℕ, ◌+◌, ◌*◌}

-- LIMITS, 01 "What the card is made of"; the seed, 02 Ask 1; the delay, 02 Ask 7
abbrev pub pin_size : ℕ
pin_size = 32

abbrev pub cid_size : ℕ
cid_size = 8

abbrev pub cvc_size : ℕ
cvc_size = 3

abbrev pub seed_size : ℕ
seed_size = 16

-- a key of secp256k1, which is the longer one, and of ed25519
abbrev pub key_room : ℕ
key_room = 65

abbrev pub key_short : ℕ
key_short = 32

abbrev pub data_room : ℕ
data_room = 512

abbrev pub signature_size : ℕ
signature_size = 64

-- the most hashes of a SIGN, and the room that their signatures take
abbrev pub most_hashes : ℕ
most_hashes = 10

abbrev pub last_room : ℕ
last_room = most_hashes * signature_size

-- a request that is held, of 6 to 1,024 bytes
abbrev pub least_held : ℕ
least_held = 6

abbrev pub held_room : ℕ
held_room = 1024

-- the most seconds of a pause, wrong codes that are counted, and seconds that are left
abbrev pub most_pause : ℕ
most_pause = 60

abbrev pub most_wrong : ℕ
most_wrong = 60

abbrev pub most_left : ℕ
most_left = most_pause + most_wrong

-- the tops of the counters
abbrev pub top16 : ℕ
top16 = 65535

abbrev pub top32 : ℕ
top32 = 4294967295

-- GROUPS with their widths, in the order of the image; a block is its size and its room
abbrev pub codes_width : ℕ
codes_width = pin_size + pin_size

abbrev pub fixed_width : ℕ
fixed_width = cid_size + cvc_size + 1 + 4 + seed_size + 1

abbrev pub flags_width : ℕ
flags_width = 7

abbrev pub wallet_width : ℕ
wallet_width = 1 + 2 + 4 + 4

abbrev pub key_width : ℕ
key_width = 1 + key_room

abbrev pub counters_width : ℕ
counters_width = 4 + 2 + 4 + 4

abbrev pub block_width : ℕ
block_width = 2 + data_room

abbrev pub issuer_width : ℕ
issuer_width = block_width + signature_size + 4

abbrev pub pending_width : ℕ
pending_width = 1 + 1 + 2 + held_room

abbrev pub last_width : ℕ
last_width = 1 + last_room

-- PLACES, counted from the image's first byte: each group stands where the one before it ends
abbrev pub codes_at : ℕ
codes_at = 0

abbrev pub fixed_at : ℕ
fixed_at = codes_at + codes_width

-- the last byte of what is fixed
abbrev pub pause_at : ℕ
pause_at = fixed_at + cid_size + cvc_size + 1 + 4 + seed_size

abbrev pub flags_at : ℕ
flags_at = fixed_at + fixed_width

abbrev pub wallet_at : ℕ
wallet_at = flags_at + flags_width

abbrev pub key_at : ℕ
key_at = wallet_at + wallet_width

abbrev pub counters_at : ℕ
counters_at = key_at + key_width

abbrev pub user_at : ℕ
user_at = counters_at + counters_width

abbrev pub protected_at : ℕ
protected_at = user_at + block_width

abbrev pub issuer_at : ℕ
issuer_at = protected_at + block_width

abbrev pub pending_at : ℕ
pending_at = issuer_at + issuer_width

abbrev pub last_at : ℕ
last_at = pending_at + pending_width

-- the length of an image, and the room that a buffer for one has at least
abbrev pub image_size : ℕ
image_size = last_at + last_width

abbrev pub image_room : ℕ
image_room = 4096
