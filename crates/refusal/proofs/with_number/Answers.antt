-- `refusal::with_number` meets its contract: each arm by its number, and the last by the one that is left. Assumes nothing.
use mathlib.Core.Path.{◌≡◌, sym}
use mathlib.Core.List.{[], List, ◌∷◌}
use Prim.Native.Nat.{ℕ}
use native.Mathlib.Omega.{arith}
use Rattle.laws.proofs.Table.{NoneOf, none_at}
use Rattle.refusal.specs.Number.{number_of}
use Rattle.refusal.specs.declared.Refusal.{Refusal}
use Rattle.refusal.specs.declared.Refusal.TheVariants.{
  Stopped,
  UnknownHeader,
  Malformed,
  NumberTooHigh,
  DomainCrossed,
  WindowRule,
  StartUnset,
  DomainOutside,
  SpansShared,
  PairOutside,
  WrongLength,
  Unowned,
  FlowField,
  AtLimit,
  PastEnd,
  Ended,
  WordLimit,
  RecordKind,
  MidnightDay,
  NotOwned,
  LeaseLine,
  TooManyLogs,
}
use Rattle.refusal.proofs.with_number.Goals as goal

abbrev named : List ℕ
named = 1 ∷ 2 ∷ 3 ∷ 4 ∷ 5 ∷ 6 ∷ 7 ∷ 8 ∷ 9 ∷ 10 ∷ 11 ∷ 12 ∷ 13 ∷ 14 ∷ 15 ∷ 16 ∷ 17 ∷ 18 ∷ 19 ∷ 20 ∷ 21 ∷ []

-- a refusal's number that the arms don't name
left_over : (why : Refusal) (n : ℕ) → NoneOf Unit named n → number_of why ≡ n → 22 ≡ n
left_over Stopped n r e = absurd (none_at named Unit n 0 r (omega arith) (sym e))
left_over UnknownHeader n r e = absurd (none_at named Unit n 1 r (omega arith) (sym e))
left_over Malformed n r e = absurd (none_at named Unit n 2 r (omega arith) (sym e))
left_over NumberTooHigh n r e = absurd (none_at named Unit n 3 r (omega arith) (sym e))
left_over DomainCrossed n r e = absurd (none_at named Unit n 4 r (omega arith) (sym e))
left_over WindowRule n r e = absurd (none_at named Unit n 5 r (omega arith) (sym e))
left_over StartUnset n r e = absurd (none_at named Unit n 6 r (omega arith) (sym e))
left_over DomainOutside n r e = absurd (none_at named Unit n 7 r (omega arith) (sym e))
left_over SpansShared n r e = absurd (none_at named Unit n 8 r (omega arith) (sym e))
left_over PairOutside n r e = absurd (none_at named Unit n 9 r (omega arith) (sym e))
left_over WrongLength n r e = absurd (none_at named Unit n 10 r (omega arith) (sym e))
left_over Unowned n r e = absurd (none_at named Unit n 11 r (omega arith) (sym e))
left_over FlowField n r e = absurd (none_at named Unit n 12 r (omega arith) (sym e))
left_over AtLimit n r e = absurd (none_at named Unit n 13 r (omega arith) (sym e))
left_over PastEnd n r e = absurd (none_at named Unit n 14 r (omega arith) (sym e))
left_over Ended n r e = absurd (none_at named Unit n 15 r (omega arith) (sym e))
left_over WordLimit n r e = absurd (none_at named Unit n 16 r (omega arith) (sym e))
left_over RecordKind n r e = absurd (none_at named Unit n 17 r (omega arith) (sym e))
left_over MidnightDay n r e = absurd (none_at named Unit n 18 r (omega arith) (sym e))
left_over NotOwned n r e = absurd (none_at named Unit n 19 r (omega arith) (sym e))
left_over LeaseLine n r e = absurd (none_at named Unit n 20 r (omega arith) (sym e))
left_over TooManyLogs n r e = e

pub returns-in-1 : goal.returns-in-1
returns-in-1 c = sym c.in-1.is

pub returns-in-2 : goal.returns-in-2
returns-in-2 c = sym c.in-2.is

pub returns-in-3 : goal.returns-in-3
returns-in-3 c = sym c.in-3.is

pub returns-in-4 : goal.returns-in-4
returns-in-4 c = sym c.in-4.is

pub returns-in-5 : goal.returns-in-5
returns-in-5 c = sym c.in-5.is

pub returns-in-6 : goal.returns-in-6
returns-in-6 c = sym c.in-6.is

pub returns-in-7 : goal.returns-in-7
returns-in-7 c = sym c.in-7.is

pub returns-in-8 : goal.returns-in-8
returns-in-8 c = sym c.in-8.is

pub returns-in-9 : goal.returns-in-9
returns-in-9 c = sym c.in-9.is

pub returns-in-10 : goal.returns-in-10
returns-in-10 c = sym c.in-10.is

pub returns-in-11 : goal.returns-in-11
returns-in-11 c = sym c.in-11.is

pub returns-in-12 : goal.returns-in-12
returns-in-12 c = sym c.in-12.is

pub returns-in-13 : goal.returns-in-13
returns-in-13 c = sym c.in-13.is

pub returns-in-14 : goal.returns-in-14
returns-in-14 c = sym c.in-14.is

pub returns-in-15 : goal.returns-in-15
returns-in-15 c = sym c.in-15.is

pub returns-in-16 : goal.returns-in-16
returns-in-16 c = sym c.in-16.is

pub returns-in-17 : goal.returns-in-17
returns-in-17 c = sym c.in-17.is

pub returns-in-18 : goal.returns-in-18
returns-in-18 c = sym c.in-18.is

pub returns-in-19 : goal.returns-in-19
returns-in-19 c = sym c.in-19.is

pub returns-in-20 : goal.returns-in-20
returns-in-20 c = sym c.in-20.is

pub returns-in-21 : goal.returns-in-21
returns-in-21 c = sym c.in-21.is

pub returns-in_default : goal.returns-in_default
returns-in_default c = left_over c.requires.refusal _ c.in_default.in_default-own.rest c.requires.number
