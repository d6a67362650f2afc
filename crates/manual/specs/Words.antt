-- THE STATUS WORDS, by the manual's names, and THE LIMITS of calls and requests, 01 "Two calls" and "Requests and fields":
-- the one place that has them in numbers. `manual` has constants of the same names. Assumes nothing.
use Rattle.std.specs.Prelude.{ℕ}

abbrev pub sw_process_completed : ℕ
sw_process_completed = 0x9000

abbrev pub sw_error_processing_command : ℕ
sw_error_processing_command = 0x6286

abbrev pub sw_wrong_length : ℕ
sw_wrong_length = 0x6700

abbrev pub sw_need_encryption : ℕ
sw_need_encryption = 0x6982

abbrev pub sw_invalid_status : ℕ
sw_invalid_status = 0x6985

abbrev pub sw_invalid_params : ℕ
sw_invalid_params = 0x6A86

abbrev pub sw_ins_not_supported : ℕ
sw_ins_not_supported = 0x6D00

abbrev pub sw_cla_not_supported : ℕ
sw_cla_not_supported = 0x6E00

-- 02 Ask 7
abbrev pub sw_need_pause : ℕ
sw_need_pause = 0x9789

-- the room that the buffers for questions and for the response have at least
abbrev pub questions_room : ℕ
questions_room = 2048

abbrev pub response_room : ℕ
response_room = 2048

abbrev pub draw_size : ℕ
draw_size = 32

-- "The whole has 6 to 1,024 bytes"
abbrev pub least_request : ℕ
least_request = 6

abbrev pub most_request : ℕ
most_request = 1024

abbrev pub hash_size : ℕ
hash_size = 32
