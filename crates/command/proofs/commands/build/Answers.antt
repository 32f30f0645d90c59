-- `command::commands::build` meets its contract: each arm by the definition at that line. Assumes nothing.
use mathlib.Core.Path.{sym, ap}
use Prim.Native.Nat.{ℕ}
use Rattle.command.specs.Commands.{command_of}
use Rattle.command.proofs.Headers.{last_line}
use Rattle.command.proofs.commands.build.Goals as goal

pub returns-in-0 : goal.returns-in-0
unfolding command_of
returns-in-0 c =
    let a = c.args in
    sym (ap (λ (n : ℕ). command_of n a.p0 a.p1 a.p2 a.p3) c.in-0.is)

pub returns-in-1 : goal.returns-in-1
unfolding command_of
returns-in-1 c =
    let a = c.args in
    sym (ap (λ (n : ℕ). command_of n a.p0 a.p1 a.p2 a.p3) c.in-1.is)

pub returns-in-2 : goal.returns-in-2
unfolding command_of
returns-in-2 c =
    let a = c.args in
    sym (ap (λ (n : ℕ). command_of n a.p0 a.p1 a.p2 a.p3) c.in-2.is)

pub returns-in-3 : goal.returns-in-3
unfolding command_of
returns-in-3 c =
    let a = c.args in
    sym (ap (λ (n : ℕ). command_of n a.p0 a.p1 a.p2 a.p3) c.in-3.is)

pub returns-in-4 : goal.returns-in-4
unfolding command_of
returns-in-4 c =
    let a = c.args in
    sym (ap (λ (n : ℕ). command_of n a.p0 a.p1 a.p2 a.p3) c.in-4.is)

pub returns-in-5 : goal.returns-in-5
unfolding command_of
returns-in-5 c =
    let a = c.args in
    sym (ap (λ (n : ℕ). command_of n a.p0 a.p1 a.p2 a.p3) c.in-5.is)

pub returns-in-6 : goal.returns-in-6
unfolding command_of
returns-in-6 c =
    let a = c.args in
    sym (ap (λ (n : ℕ). command_of n a.p0 a.p1 a.p2 a.p3) c.in-6.is)

pub returns-in-7 : goal.returns-in-7
unfolding command_of
returns-in-7 c =
    let a = c.args in
    sym (ap (λ (n : ℕ). command_of n a.p0 a.p1 a.p2 a.p3) c.in-7.is)

pub returns-in-8 : goal.returns-in-8
unfolding command_of
returns-in-8 c =
    let a = c.args in
    sym (ap (λ (n : ℕ). command_of n a.p0 a.p1 a.p2 a.p3) c.in-8.is)

pub returns-in-9 : goal.returns-in-9
unfolding command_of
returns-in-9 c =
    let a = c.args in
    sym (ap (λ (n : ℕ). command_of n a.p0 a.p1 a.p2 a.p3) c.in-9.is)

pub returns-in-10 : goal.returns-in-10
unfolding command_of
returns-in-10 c =
    let a = c.args in
    sym (ap (λ (n : ℕ). command_of n a.p0 a.p1 a.p2 a.p3) c.in-10.is)

pub returns-in-11 : goal.returns-in-11
unfolding command_of
returns-in-11 c =
    let a = c.args in
    sym (ap (λ (n : ℕ). command_of n a.p0 a.p1 a.p2 a.p3) c.in-11.is)

pub returns-in-12 : goal.returns-in-12
unfolding command_of
returns-in-12 c =
    let a = c.args in
    sym (ap (λ (n : ℕ). command_of n a.p0 a.p1 a.p2 a.p3) c.in-12.is)

pub returns-in-13 : goal.returns-in-13
unfolding command_of
returns-in-13 c =
    let a = c.args in
    sym (ap (λ (n : ℕ). command_of n a.p0 a.p1 a.p2 a.p3) c.in-13.is)

pub returns-in-14 : goal.returns-in-14
unfolding command_of
returns-in-14 c =
    let a = c.args in
    sym (ap (λ (n : ℕ). command_of n a.p0 a.p1 a.p2 a.p3) c.in-14.is)

pub returns-in-15 : goal.returns-in-15
unfolding command_of
returns-in-15 c =
    let a = c.args in
    sym (ap (λ (n : ℕ). command_of n a.p0 a.p1 a.p2 a.p3) c.in-15.is)

pub returns-in-16 : goal.returns-in-16
unfolding command_of
returns-in-16 c =
    let a = c.args in
    sym (ap (λ (n : ℕ). command_of n a.p0 a.p1 a.p2 a.p3) c.in-16.is)

pub returns-in-17 : goal.returns-in-17
unfolding command_of
returns-in-17 c =
    let a = c.args in
    sym (ap (λ (n : ℕ). command_of n a.p0 a.p1 a.p2 a.p3) c.in-17.is)

pub returns-in-18 : goal.returns-in-18
unfolding command_of
returns-in-18 c =
    let a = c.args in
    sym (ap (λ (n : ℕ). command_of n a.p0 a.p1 a.p2 a.p3) c.in-18.is)

pub returns-in-19 : goal.returns-in-19
unfolding command_of
returns-in-19 c =
    let a = c.args in
    sym (ap (λ (n : ℕ). command_of n a.p0 a.p1 a.p2 a.p3) c.in-19.is)

pub returns-in_default : goal.returns-in_default
unfolding command_of
returns-in_default c =
    let a = c.args in
    sym (ap (λ (n : ℕ). command_of n a.p0 a.p1 a.p2 a.p3) (last_line a.line c.requires c.in_default.in_default-own.rest))
