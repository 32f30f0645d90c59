-- Document 01, "Refusal numbers", with those that document 02's requests add: the number of each refusal. Assumes nothing.
use Rattle.std.specs.Prelude.{◌≡◌, ℕ}
use Rattle.refusal.specs.declared.Refusal.{Refusal}
use Rattle.refusal.specs.declared.Refusal.TheVariants.{
  Stopped,
  UnknownHeader,
  Malformed,
  NumberTooHigh,
  DomainCrossed,
  WindowRule,
  StartUnset,
  DomainOutside,
  SpansShared,
  PairOutside,
  WrongLength,
  Unowned,
  FlowField,
  AtLimit,
  PastEnd,
  Ended,
  WordLimit,
  RecordKind,
  MidnightDay,
  NotOwned,
  LeaseLine,
  TooManyLogs,
}

abbrev pub number_of : Refusal → ℕ
number_of Stopped = 1
number_of UnknownHeader = 2
number_of Malformed = 3
number_of NumberTooHigh = 4
number_of DomainCrossed = 5
number_of WindowRule = 6
number_of StartUnset = 7
number_of DomainOutside = 8
number_of SpansShared = 9
number_of PairOutside = 10
number_of WrongLength = 11
number_of Unowned = 12
number_of FlowField = 13
number_of AtLimit = 14
number_of PastEnd = 15
number_of Ended = 16
number_of WordLimit = 17
number_of RecordKind = 18
number_of MidnightDay = 19
number_of NotOwned = 20
number_of LeaseLine = 21
number_of TooManyLogs = 22

-- the number of some refusal
pub record IsNumber (n : ℕ) : Type 0 where
  pub refusal : Refusal
  pub number : number_of refusal ≡ n
