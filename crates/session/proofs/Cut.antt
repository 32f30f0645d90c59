-- The cut rule: a piece that is cut in two anywhere, also inside a command, answers and leaves what its two parts do, one after
-- the other. Assumes nothing.
use mathlib.Core.Path.{◌≡◌, refl, sym, ap, ◌∙◌}
use mathlib.Core.Bool.{true}
use mathlib.Core.List.{List, [], ◌∷◌, ◌++◌, append_assoc}
use Prim.Native.Nat.{ℕ}
use native.Mathlib.Nat.{zero-add, suc-add}
use lib.Dec.{eqb}
use Rattle.laws.proofs.Choice.{pick_yes}
use Rattle.command.specs.declared.commands.Command.{Command}
use Rattle.state.specs.State.{Session}
use Rattle.session.specs.Step.{still_open, completed, refused, Stepped, step_of}
use Rattle.session.specs.Feed.{First, nothing, first, Fed, onward, ended, proceed, feed_of, earlier, joined, fed_pieces, uncut}
use Rattle.session.proofs.Ways.{Way, was_stopped, stops, opens, fills, ends, way}

-- a stopped session answers 1 and changes nothing at all
pub stopped_word : (s : Session) (w : ℕ) → eqb s.party.stopped 1 ≡ true → step_of s w ≡ record { reply = refused 1; session = s }
unfolding step_of
stopped_word s w e = pick_yes _ _ e

first_of : List ℕ → First
first_of [] = nothing
first_of (w ∷ ws) = first 1

stopped_piece : (s : Session) (ws : List ℕ) → eqb s.party.stopped 1 ≡ true → feed_of s ws ≡ ended (first_of ws) s
unfolding feed_of first_of proceed
stopped_piece s [] e = refl
stopped_piece s (w ∷ ws) e =
    ap (λ (t : Stepped). proceed t.reply t.session (feed_of t.session ws)) (stopped_word s w e)

-- a refused word leaves a stopped session
pub data Went (s : Session) (w : ℕ) : Stepped → Type 0 where
  on : (t : Session) → Went s w (record { reply = still_open; session = t })
  whole : (c : Command) (t : Session) → Went s w (record { reply = completed c; session = t })
  off : (n : ℕ) (t : Session) → eqb t.party.stopped 1 ≡ true → Went s w (record { reply = refused n; session = t })

went : (s : Session) (w : ℕ) {t : Stepped} → Way s w t → Went s w t
went s w (was_stopped e) = off 1 s e
went s w (stops n e) = off n _ refl
went s w (opens r i k m) = on _
went s w (fills p m) = on _
went s w (ends p l c e u v r q) = whole c _

abbrev answer : ℕ → List Command → First → Session → Fed
answer m c r s = record { taken = m; commands = c; refusal = r; session = s }

with_answers : (r : First) (s : Session) {m n : ℕ} {c d : List Command} → m ≡ n → c ≡ d → answer m c r s ≡ answer n d r s
with_answers r s p q = λ i. answer (p i) (q i) r s

nothing_joined : (s : Session) (f : Fed) → joined (ended nothing s) f ≡ f
unfolding joined
nothing_joined s f = with_answers f.refusal f.session (zero-add f.taken) refl

onward_joined : (cs : List Command) (f g : Fed) → onward cs (joined f g) ≡ joined (onward cs f) g
unfolding joined
onward_joined cs f g =
    with_answers (earlier f.refusal g.refusal) g.session (sym (suc-add f.taken g.taken))
    (sym (append_assoc cs f.commands g.commands))

word_cut : (s : Session) (w : ℕ) (a b : List ℕ) (t : Stepped) → Went s w t →
    feed_of t.session (a ++ b) ≡ joined (feed_of t.session a) (feed_of (feed_of t.session a).session b) →
    proceed t.reply t.session (feed_of t.session (a ++ b)) ≡
    joined (proceed t.reply t.session (feed_of t.session a))
    (feed_of (proceed t.reply t.session (feed_of t.session a)).session b)
unfolding proceed
word_cut s w a b t (on u) ih = ap (onward []) ih ∙ onward_joined [] _ _
word_cut s w a b t (whole c u) ih = ap (onward (c ∷ [])) ih ∙ onward_joined (c ∷ []) _ _
word_cut s w a b t (off n u e) ih = unfold joined in sym (ap (joined (ended (first n) u)) (stopped_piece u b e))

pub cut : (s : Session) (a b : List ℕ) → feed_of s (a ++ b) ≡ joined (feed_of s a) (feed_of (feed_of s a).session b)
unfolding feed_of
cut s [] b = sym (nothing_joined s (feed_of s b))
cut s (w ∷ a) b = word_cut s w a b (step_of s w) (went s w (way s w)) (cut (step_of s w).session a b)

-- so for any way of cutting, into any number of pieces, empty ones among them
pub cut_anywhere : (s : Session) (ps : List (List ℕ)) → fed_pieces s ps ≡ feed_of s (uncut ps)
unfolding fed_pieces uncut
cut_anywhere s [] = unfold feed_of in refl
cut_anywhere s (p ∷ ps) = ap (joined (feed_of s p)) (cut_anywhere (feed_of s p).session ps) ∙ sym (cut s p (uncut ps))
