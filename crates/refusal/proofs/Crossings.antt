-- An answer that is known crosses as it says. Assumes nothing.
use mathlib.Core.Path.{◌≡◌, sym, ap, ◌∙◌, subst}
use mathlib.Core.List.{List}
use Prim.Native.Nat.{ℕ}
use Rattle.refusal.specs.Told.{Told, gives, refuses}
use Rattle.refusal.specs.Crossing.{Crosses, status_of, room_of}

pub crosses_gives : (t : Told) (values before : List ℕ) → t ≡ gives values → Crosses t 0 before values
crosses_gives t values before told =
    record { status = sym (ap status_of told); room = sym (ap (λ (u : Told). room_of u before) told) }

pub crosses_refuses : (t : Told) (r number : ℕ) (before : List ℕ) → r ≡ number → t ≡ refuses number → Crosses t r before before
crosses_refuses t r number before same told =
    record { status = same ∙ sym (ap status_of told); room = sym (ap (λ (u : Told). room_of u before) told) }

-- what is told otherwise crosses as well
pub crosses_same : {t u : Told} {r : ℕ} {before after : List ℕ} → t ≡ u → Crosses t r before after → Crosses u r before after
crosses_same {t} {u} {r} {before} {after} same c = subst (λ (v : Told). Crosses v r before after) same c
