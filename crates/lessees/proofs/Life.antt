-- Document 02, request 9, over the life of a pair: "Change party 1's words and their places at will: party 0's answers, settings and tallies
-- stay the same.", and the reverse, from any two pairs that look alike to a party and through any pieces; and "Demand 2's cut rule is read
-- over the stream of (party, word)", into any number of pieces. Assumes nothing.
use mathlib.Core.Path.{◌≡◌, refl, sym, ap, ap₂, ◌∙◌, subst}
use mathlib.Core.Bool.{Bool, true, false}
use mathlib.Core.List.{List, [], ◌∷◌, ◌++◌, map}
use Prim.Native.Nat.{ℕ}
use Rattle.laws.specs.Choice.{pick}
use Rattle.state.specs.State.{Session}
use Rattle.state.specs.Valid.{Valid}
use Rattle.session.specs.Step.{Reply, Stepped, step_of}
use Rattle.session.specs.Feed.{Fed, feed_of}
use Rattle.lessees.specs.Sight.{seen}
use Rattle.lessees.specs.Pair.{Pair, Sent, side, put_back, Part, silence, PairFed, pair_step, piece_of, joined_pair, mine_of, words_for, told_for, alone, PairValid}
use Rattle.lessees.specs.Life.{pair_pieces, uncut_sent, LookAlike, mine_reply, replies_for, replies_of, tolds_for, tolds_of, SameTo}
use Rattle.lessees.proofs.Cut.{cut}
use Rattle.lessees.proofs.Isolation.{part_of, pair_kept, isolated, unmoved, own_side, side_valid}
use Rattle.lessees.proofs.Steps.{seen_stepped, seen_step}
use Rattle.lessees.proofs.Taking.{piece_valid}

-- any number of pieces, empty ones among them
pub cut_anywhere : (q : Pair) (ps : List (List Sent)) → pair_pieces q ps ≡ piece_of q (uncut_sent ps)
unfolding pair_pieces uncut_sent
cut_anywhere q [] = unfold piece_of in refl
cut_anywhere q (a ∷ rest) = ap (joined_pair (piece_of q a)) (cut_anywhere (piece_of q a).pair rest) ∙ sym (cut q a (uncut_sent rest))

-- what a party has and is told
told_alone : (p : Bool) (f : PairFed) → part_of (alone p f) ≡ told_for p f
unfolding alone
told_alone false f = refl
told_alone true f = refl

seen_alone : (p : Bool) (f : PairFed) → (alone p f).session ≡ seen (side p f.pair)
unfolding alone
seen_alone false f = refl
seen_alone true f = refl

same_to : (p : Bool) (f g : PairFed) → alone p f ≡ alone p g → SameTo p f g
same_to p f g e =
    record {
      told = sym (told_alone p f) ∙ ap part_of e ∙ told_alone p g;
      looks = sym (seen_alone p f) ∙ ap (λ (h : Fed). h.session) e ∙ seen_alone p g;
    }

-- two pairs that look alike to a party
module _ (p : Bool) (q q' : Pair) (v : PairValid q) (v' : PairValid q') (alike : LookAlike p q q') where
  pub same_alone : (a b : List Sent) → words_for p a ≡ words_for p b → alone p (piece_of q a) ≡ alone p (piece_of q' b)
  same_alone a b e = isolated p q v a ∙ ap₂ feed_of alike e ∙ sym (isolated p q' v' b)

  -- a piece of each, with the party's words the same and in the same order, among any of the other's
  pub same_piece : (a b : List Sent) → words_for p a ≡ words_for p b → SameTo p (piece_of q a) (piece_of q' b)
  same_piece a b e = same_to p (piece_of q a) (piece_of q' b) (same_alone a b e)

  -- streams of pieces, cut anywhere: here too the party's words are the same and in the same order, whatever piece they are in
  pub same_pieces :
      (xs ys : List (List Sent)) → words_for p (uncut_sent xs) ≡ words_for p (uncut_sent ys) → SameTo p (pair_pieces q xs) (pair_pieces q' ys)
  same_pieces xs ys e =
      same_to p (pair_pieces q xs) (pair_pieces q' ys)
      (ap (alone p) (cut_anywhere q xs) ∙ same_alone (uncut_sent xs) (uncut_sent ys) e ∙ sym (ap (alone p) (cut_anywhere q' ys)))

-- word by word

pub replies_alone : (p : Bool) (q : Pair) → PairValid q → (ws : List Sent) → replies_for p q ws ≡ replies_of (seen (side p q)) (words_for p ws)
unfolding replies_for words_for pair_step
replies_alone p q v [] = unfold replies_of in refl
replies_alone p q v (w ∷ ws) =
    sent p w.party w.word
    (replies_alone p (put_back w.party (step_of (side w.party q) w.word).session q) (pair_kept q v w.party w.word) ws)
  where
    own :
        (p : Bool) (x : ℕ) (rest : List Reply) →
        rest ≡ replies_of (seen (side p (put_back p (step_of (side p q) x).session q))) (words_for p ws) →
        (step_of (side p q) x).reply ∷ rest ≡ replies_of (seen (side p q)) (x ∷ words_for p ws)
    own p x rest e =
        unfold replies_of in
        ap₂ {C = List Reply} (λ (r : Reply) (rs : List Reply). r ∷ rs) (ap (λ (t : Stepped). t.reply) (sym (seen_step (side p q) x (side_valid q v p))))
        (e ∙ ap (λ (s : Session). replies_of (seen s) (words_for p ws)) (own_side q v p x) ∙
        ap (λ (t : Stepped). replies_of t.session (words_for p ws)) (sym (seen_step (side p q) x (side_valid q v p))))

    sent :
        (p b : Bool) (x : ℕ) →
        replies_for p (put_back b (step_of (side b q) x).session q) ws ≡
        replies_of (seen (side p (put_back b (step_of (side b q) x).session q))) (words_for p ws) →
        mine_reply p b (step_of (side b q) x).reply (replies_for p (put_back b (step_of (side b q) x).session q) ws) ≡
        replies_of (seen (side p q)) (mine_of p (record { party = b; word = x }) (words_for p ws))
    sent false false x ih = unfold mine_reply mine_of pick in own false x _ ih
    sent true true x ih = unfold mine_reply mine_of pick in own true x _ ih
    sent false true x ih = unfold mine_reply mine_of pick in ih ∙ ap (λ (s : Session). replies_of s (words_for false ws)) (unmoved q v true x)
    sent true false x ih = unfold mine_reply mine_of pick in ih ∙ ap (λ (s : Session). replies_of s (words_for true ws)) (unmoved q v false x)

-- piece by piece
pub tolds_alone :
    (p : Bool) (q : Pair) → PairValid q → (xs : List (List Sent)) → tolds_for p q xs ≡ tolds_of (seen (side p q)) (map (words_for p) xs)
unfolding tolds_for tolds_of
tolds_alone p q v [] = refl
tolds_alone p q v (a ∷ rest) =
    ap₂ {C = List Part} (λ (t : Part) (ts : List Part). t ∷ ts) (sym (told_alone p (piece_of q a)) ∙ ap part_of (isolated p q v a))
    (tolds_alone p (piece_of q a).pair (piece_valid q a v) rest ∙
    ap (λ (s : Session). tolds_of s (map (words_for p) rest)) (sym (seen_alone p (piece_of q a)) ∙ ap (λ (f : Fed). f.session) (isolated p q v a)))

module _ (p : Bool) (q q' : Pair) (v : PairValid q) (v' : PairValid q') (alike : LookAlike p q q') where
  -- each of its words has the same reply
  pub same_replies : (a b : List Sent) → words_for p a ≡ words_for p b → replies_for p q a ≡ replies_for p q' b
  same_replies a b e = replies_alone p q v a ∙ ap₂ replies_of alike e ∙ sym (replies_alone p q' v' b)

  -- pieces with the same words of the party in each are answered the same, piece by piece
  pub same_tolds : (xs ys : List (List Sent)) → map (words_for p) xs ≡ map (words_for p) ys → tolds_for p q xs ≡ tolds_for p q' ys
  same_tolds xs ys e = tolds_alone p q v xs ∙ ap₂ tolds_of alike e ∙ sym (tolds_alone p q' v' ys)
