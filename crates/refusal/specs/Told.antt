-- What an entry tells its caller, in document 01's terms: "A refusal hands back its number and no other result."
-- Each crate maps its answers, which are enums, to this type, and its contracts speak of what is told.
-- Assumes nothing.
use Rattle.std.specs.Prelude.{Bool, true, false, List, ℕ}

pub data Told : Type 0 where
  -- the values of an answer that is no refusal, in the order in which document 01 names them
  gives : List ℕ → Told
  -- a refusal's number
  refuses : ℕ → Told

-- an answer that is no refusal
unfoldable pub is_given : Told → Bool
is_given (gives values) = true
is_given (refuses number) = false

-- a refusal stands; else what comes next is told
unfoldable pub then_told : Told → Told → Told
then_told (gives values) next = next
then_told (refuses number) next = refuses number
