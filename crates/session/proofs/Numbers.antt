-- What a word's answer tells of its step. Assumes nothing.
use mathlib.Core.Path.{◌≡◌, sym, subst}
use mathlib.Core.List.{List}
use Prim.Native.Nat.{ℕ, ◌≤◌}
use native.Mathlib.Omega.{arith}
use Rattle.state.specs.State.{Session}
use Rattle.std.specs.Prelude.{Ok}
use Rattle.session.specs.Step.{Reply, Stepped, still_open}
use Rattle.session.specs.Refusals.{StopNumber, low, full, foreign, RefusedTo, unchanged, stopping}
use Rattle.session.specs.Asked.{Left, Finished, Told}
use Rattle.session.specs.declared.stream.Progress.{Progress}
use Rattle.session.specs.declared.stream.Progress.TheVariants.{Open, Whole}

-- no refusal is 0
by_stop : {n : ℕ} → StopNumber n → 1 ≤ n
by_stop {n} (low a b) = omega (arith, a)
by_stop full = omega arith
by_stop foreign = omega arith

pub refused_least : {s u : Session} {n : ℕ} → RefusedTo s n u → 1 ≤ n
refused_least (unchanged e) = omega arith
refused_least (stopping k) = by_stop k

-- the completion that a word which was read stands for
pub left_as : {t u : Stepped} {y : Reply} {l m c : List ℕ} → t ≡ u → Left u y l m c → Left t y l m c
left_as {y = y} {l = l} {m = m} {c = c} e h = subst (λ (x : Stepped). Left x y l m c) (sym e) h

-- a step whose answer is that the command is open, or whole
pub told_open : (t : Stepped) {p : Progress} {l m c : List ℕ} → p ≡ Open → Told t (Ok p) l m c → Left t still_open l m c
told_open t {l = l} {m = m} {c = c} e h = subst (λ (x : Progress). Told t (Ok x) l m c) e h

pub told_whole : (t : Stepped) {p : Progress} {l m c : List ℕ} → p ≡ Whole → Told t (Ok p) l m c → Finished t l m c
told_whole t {l = l} {m = m} {c = c} e h = subst (λ (x : Progress). Told t (Ok x) l m c) e h
