-- Document 01, "The command words": the fields of a format word, and the window that base, format and height describe.
-- Assumes nothing.
use Rattle.std.specs.Prelude.{Bool, Option, Some, None, [], ◌∷◌, ℕ, ◌/◌, ◌%◌, ◌^◌, eqb, get_or}
use Rattle.refusal.specs.Told.{Told, gives, refuses}
use Rattle.layout.specs.Layout.{judge_of}
use Rattle.command.specs.declared.format.Window.{Window}

-- "the pitch is the word's bits 12:0 with the low two zero"; the low two are reserved, so a word that is accepted has them zero
unfoldable pub pitch_of : ℕ → ℕ
pitch_of format = format % 2 ^ 13

-- "bit 16 tiled, bit 17 superfine"
unfoldable pub tiled_of : ℕ → Bool
tiled_of format = eqb (format / 2 ^ 16 % 2) 1

unfoldable pub superfine_of : ℕ → Bool
superfine_of format = eqb (format / 2 ^ 17 % 2) 1

-- "format code 26:24"
unfoldable pub code_of : ℕ → ℕ
code_of format = format / 2 ^ 24 % 2 ^ 3

-- "0 UINT16_1, 2 bytes; 1 UINT8_4, 4; 2 FLOAT32_1, 4; 3 FLOAT32_2, 8; 4 FLOAT32_4, 16": bytes of an element, and its channels,
-- the number in the code's name; 0 for codes that are refused
unfoldable pub size_of : ℕ → ℕ
size_of code = get_or (2 ∷ 4 ∷ 4 ∷ 8 ∷ 16 ∷ []) code 0

unfoldable pub channels_of : ℕ → ℕ
channels_of code = get_or (1 ∷ 4 ∷ 1 ∷ 2 ∷ 4 ∷ []) code 0

-- the judgement of the layout that the three words describe
unfoldable pub window_of : ℕ → ℕ → ℕ → Told
window_of base format height = judge_of base (pitch_of format) height (size_of (code_of format)) (tiled_of format)

-- value `k` of an answer, the first being 0; 0 where it has none
unfoldable pub value_of : Told → ℕ → ℕ
value_of (gives values) k = get_or values k 0
value_of (refuses number) k = 0

-- what that judgement tells of a window: its row step and its span, nothing of one that isn't accepted
abbrev pub window_seen : Told → Option Window
window_seen (gives values) = Some (record { step = get_or values 0 0; span = get_or values 1 0 })
window_seen (refuses number) = None
