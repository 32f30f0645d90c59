-- A lease line under an edition: 3 for the edition, then what the line is told. Assumes nothing.
use mathlib.Core.Path.{◌≡◌, sym, ap, ◌∙◌}
use mathlib.Core.Bool.{Bool, true, false}
use mathlib.Core.List.{[]}
use Prim.Native.Nat.{ℕ}
use Rattle.laws.proofs.Choice.{pick_yes, pick_no}
use Rattle.refusal.specs.Told.{Told, gives, refuses, then_told}
use Rattle.state.specs.Start.{is_edition, edition_told}
use Rattle.score.specs.Lease.{Lease, lease_told}
use Rattle.score_rooms.specs.Rooms.{line_told}

module _ (edition : ℕ) (l : Lease) {known : Bool} (told : known ≡ is_edition edition) where
  pub line_judged : known ≡ true → {t : Told} → t ≡ lease_told l → t ≡ line_told edition l
  unfolding line_told edition_told then_told
  line_judged e k = k ∙ sym (ap (λ (t : Told). then_told t (lease_told l)) (pick_yes (gives []) (refuses 3) (sym told ∙ e)))

  pub edition_refused : known ≡ false → refuses 3 ≡ line_told edition l
  unfolding line_told edition_told then_told
  edition_refused e = sym (ap (λ (t : Told). then_told t (lease_told l)) (pick_no (gives []) (refuses 3) (sym told ∙ e)))
