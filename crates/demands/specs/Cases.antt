-- Document 01, "Worked addresses and steps": "The C cases are proved together, one statement over a list".
-- proofs/Demands/Cases.antt has the proof. Assumes nothing.
use Rattle.std.specs.Prelude.{◌≡◌, Bool, true, false, List, [], ◌∷◌, ℕ}
use Rattle.refusal.specs.Told.{Told, gives, refuses}
use Rattle.layout.specs.Layout.{row_step, judge_of}
use Rattle.layout.specs.declared.Layout.{Layout}
use Rattle.address.specs.Address.{translate_of}
use Rattle.flow.specs.Cases.{c9, c10, c11, c12, seen}

-- a layout by its numbers
abbrev layout : Bool → ℕ → ℕ → ℕ → ℕ → Layout
layout tiled s base pitch height = record { base = record { 0 = base }; pitch = pitch; height = height; size = s; tiled = tiled }

abbrev linear : ℕ → ℕ → ℕ → ℕ → Layout
linear = layout false

abbrev tiled : ℕ → ℕ → ℕ → ℕ → Layout
tiled = layout true

infix 20 ◌is◌
-- an answer, by the definitions, and what document 01 says it is
pub data Case : Type 0 where
  ◌is◌ : Told → Told → Case

abbrev pub Agree : List Case → Type 0
Agree [] = Unit {0}
Agree ((answer is said) ∷ cases) = (answer ≡ said) × Agree cases

abbrev pub cases : List Case
cases =
    -- C1 linear, s 4, base 2048, pitch 100, H 3: E is 96, (5,2) at 2836
    (gives (row_step false 4 100 ∷ []) is gives (96 ∷ [])) ∷
    (translate_of (linear 4 2048 100 3) 5 2 is gives (2836 ∷ 91 ∷ [])) ∷
    -- C2 (95,0) inside; (96,0) gets 10
    (translate_of (linear 4 2048 100 3) 95 0 is gives (2428 ∷ 1 ∷ [])) ∷
    (translate_of (linear 4 2048 100 3) 96 0 is refuses 10) ∷
    -- C3 tiled, s 4, base 0, pitch 100, H 20: (37,18) at 9828
    (translate_of (tiled 4 0 100 20) 37 18 is gives (9828 ∷ 3 ∷ [])) ∷
    -- C4 tiled, s 1, base 0, pitch 128, H 64: (64,0) at 3072; C5 (0,32) at 4608
    (translate_of (tiled 1 0 128 64) 64 0 is gives (3072 ∷ 8 ∷ [])) ∷
    (translate_of (tiled 1 0 128 64) 0 32 is gives (4608 ∷ 8 ∷ [])) ∷
    -- C6 tiled, s 16, base 0, pitch 16, H 8: (15,7) at 1648
    (translate_of (tiled 16 0 16 8) 15 7 is gives (1648 ∷ 1 ∷ [])) ∷
    -- C7 tiled, s 4, base 0, pitch 28, H 1: 6
    (judge_of 0 28 1 4 true is refuses 6) ∷
    -- C8 linear, s 4, pitch 8, base 4294965248: H 64 accepted, H 65 gets 6
    (judge_of 4294965248 8 64 4 false is gives (8 ∷ 2048 ∷ [])) ∷
    (judge_of 4294965248 8 65 4 false is refuses 6) ∷
    -- C9 four processors, fresh group, first word 02000F00, alu 0011 binary: stay, active 0011
    (seen c9 is gives (0 ∷ 3 ∷ [])) ∷
    -- C10 the same with alu 0: jump, active 1111
    (seen c10 is gives (1 ∷ 15 ∷ [])) ∷
    -- C11 after C9, 00000010: stay, active 1100
    (seen c11 is gives (0 ∷ 12 ∷ [])) ∷
    -- C12 then 01010020: active 1111
    (seen c12 is gives (0 ∷ 15 ∷ [])) ∷
    []
