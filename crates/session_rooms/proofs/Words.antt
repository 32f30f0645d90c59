-- A completed command's six numbers; and a piece of one word. Assumes nothing.
use mathlib.Core.Path.{◌≡◌, refl, sym, ap, ap₂, ◌∙◌, subst}
use mathlib.Core.List.{List, [], ◌∷◌}
use Prim.Native.Nat.{ℕ}
use native.Mathlib.Omega.{arith}
use lib.ListN.{length, get_or}
use Rattle.refusal.specs.Told.{gives}
use Rattle.command.specs.Table.{header_of}
use Rattle.command.specs.Commands.{line_of, places_of}
use Rattle.command.specs.declared.commands.Command.{Command}
use Rattle.command.specs.declared.commands.Places.{Places}
use Rattle.state.specs.State.{Session}
use Rattle.session.specs.Step.{completed}
use Rattle.session.specs.Feed.{Fed, feed_of}
use Rattle.session.proofs.Single.{Fed_in}
use Rattle.session_rooms.specs.Rooms.{reply_told, FeedCrosses}

pub done_told :
    (c : Command) (header line : ℕ) (g : Places) → header ≡ header_of line → line ≡ line_of c → g ≡ places_of c →
    reply_told (completed c) ≡ gives (1 ∷ header ∷ g.0 ∷ g.1 ∷ g.2 ∷ g.3 ∷ [])
unfolding places_of
done_told c header line g e1 e2 e3 =
    sym
    (ap₂ (λ (k : ℕ) (q : Places). gives (1 ∷ k ∷ q.0 ∷ q.1 ∷ q.2 ∷ q.3 ∷ [])) (e1 ∙ ap header_of e2) e3)

-- a piece's three numbers cross as they are
pub one_crosses : {f : Fed} {i n r : ℕ} {l t c : List ℕ} → Fed_in f i n r l t c → FeedCrosses f r l t c (i ∷ n ∷ [])
one_crosses k = record { status = k.status; room = ap₂ (λ (a b : ℕ). a ∷ b ∷ []) k.words k.whole; held = k.held }

-- a piece of one word is that word
only : (ws : List ℕ) → length ws ≡ 1 → get_or ws 0 0 ∷ [] ≡ ws
only [] e = absurd (omega (arith, e))
only (w ∷ []) e = refl
only (w ∷ v ∷ ws) e = absurd (omega (arith, e))

pub one_piece :
    (s : Session) (ws : List ℕ) {r : ℕ} {l t c fed : List ℕ} → length ws ≡ 1 → FeedCrosses (feed_of s (get_or ws 0 0 ∷ [])) r l t c fed →
    FeedCrosses (feed_of s ws) r l t c fed
one_piece s ws {r} {l} {t} {c} {fed} e k = subst (λ (v : List ℕ). FeedCrosses (feed_of s v) r l t c fed) (only ws e) k
