-- The places of a replay's own numbers, as the code's constants name them. Assumes nothing.
use Rattle.std.specs.Prelude.{ℕ}

-- how many they are
abbrev pub log_length : ℕ
log_length = 10

-- the number that stopped the replay
abbrev pub stopped_by_place : ℕ
stopped_by_place = 0

-- the first refused word's number, and the midnights before it
abbrev pub refused_place : ℕ
refused_place = 1

abbrev pub refused_after_place : ℕ
refused_after_place = 2

-- the midnights so far, and the day of the last
abbrev pub midnights_place : ℕ
midnights_place = 3

abbrev pub last_day_place : ℕ
last_day_place = 4

-- the open record: how many of its bytes stand, its kind, and its number's first bytes
abbrev pub count_place : ℕ
count_place = 5

abbrev pub kind_place : ℕ
kind_place = 6

abbrev pub low_place : ℕ
low_place = 7

abbrev pub second_place : ℕ
second_place = 8

abbrev pub third_place : ℕ
third_place = 9
