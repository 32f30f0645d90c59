-- What a reading tells, with every one of its bytes stated. Assumes nothing.
use Rattle.std.specs.Prelude.{◌≡◌, List, [], ◌∷◌, ◌++◌, ℕ, ◌+◌, ◌-◌, ◌≤◌, length, take, replicate}
use Rattle.refusal.specs.Number.{number_of}
use Rattle.refusal.specs.Told.{Told, gives, refuses}
use Rattle.memory.specs.declared.Answer.{Answer}
use Rattle.memory.specs.declared.Answer.TheVariants.{Bytes, Refused}
use Rattle.memory.specs.declared.Reading.{Reading}

-- the bytes at the front, as many as the answer says; or the refusal's number
abbrev pub told_answer : Answer → List ℕ → Told
told_answer (Bytes n) bytes = gives (take n bytes)
told_answer (Refused why) bytes = refuses (number_of why)

abbrev pub told_reading : Reading → Told
told_reading r = told_answer r.answer r.bytes

-- all 16 bytes of a reading: zeros where the answer has none
unfoldable pub filled : Told → List ℕ
filled (gives values) = values ++ replicate (16 - length values) 0
filled (refuses number) = replicate 16 0

-- how many bytes an answer says that it has, and how many values are told
abbrev pub count_said : Answer → Told
count_said (Bytes n) = gives (n ∷ [])
count_said (Refused why) = refuses (number_of why)

abbrev pub count_told : Told → Told
count_told (gives values) = gives (length values ∷ [])
count_told (refuses number) = refuses number

-- a reading that tells `t`, and nothing besides
pub record Answered (t : Told) (r : Reading) : Type 0 where
  pub told : told_reading r ≡ t
  pub count : count_said r.answer ≡ count_told t
  pub whole : length r.bytes ≡ 16
  pub bytes : r.bytes ≡ filled t

-- a part with room for it at a place of a reading's 16 bytes
pub record PutAsked (bytes : List ℕ) (at : ℕ) (part : List ℕ) : Type 0 where
  pub whole : length bytes ≡ 16
  pub room : at + length part ≤ 16
