-- The limits of document 01, each by a name.
-- Assumes nothing.
use Rattle.std.specs.Prelude.{ℕ, ◌^◌}

-- "At most 64 binary inputs, 64 analog inputs, 16 control outputs"
abbrev pub points_max : ℕ
points_max = 64

abbrev pub outputs_max : ℕ
outputs_max = 16

-- "Own and master addresses are 0 to 65,519"
abbrev pub address_max : ℕ
address_max = 65519

-- "The arm time is 0 to 64,000 ms, the confirm time 1 to 60,000 ms."
abbrev pub arm_time_max : ℕ
arm_time_max = 64000

abbrev pub confirm_time_max : ℕ
confirm_time_max = 60000

-- "256 events may be held."
abbrev pub events_max : ℕ
events_max = 256

-- "Fragments are at most 2,048 bytes and frames 292"
abbrev pub fragment_max : ℕ
fragment_max = 2048

abbrev pub frame_max : ℕ
frame_max = 292

-- "n is 0 to 250", the user bytes of a frame; "in blocks of 16"
abbrev pub user_max : ℕ
user_max = 250

-- "A segment is one transport byte … and 1 to 249 bytes."
abbrev pub segment_data_max : ℕ
segment_data_max = 249

-- "Times are milliseconds below 2^48"
abbrev pub time_end : ℕ
time_end = 2 ^ 48

-- "a count stops at 65,535"
abbrev pub count_max : ℕ
count_max = 65535
