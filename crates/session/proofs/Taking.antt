-- A word, cell by cell as the code takes it, is the definition's step. Assumes nothing.
use mathlib.Core.Path.{◌≡◌, refl, sym, ap, ◌∙◌, subst}
use mathlib.Core.Bool.{Bool, true, false}
use mathlib.Core.List.{List, [], ◌∷◌}
use Prim.Native.Nat.{ℕ, ◌<◌, ◌≤◌}
use native.Mathlib.Omega.{arith}
use lib.Dec.{eqb, ltb}
use lib.ListN.{length, get_or, replicate, set}
use borrow.Author.Tests.{eq-eqb, ne_eqb, le-leb, lt-leb}
use Rattle.laws.specs.Choice.{◌and◌, pick, place_of}
use Rattle.laws.specs.Masks.{digit}
use Rattle.laws.proofs.Choice.{pick_yes, pick_no, and_left, and_right, Tested, tested, holds, fails}
use Rattle.refusal.specs.Told.{gives, refuses}
use Rattle.refusal.specs.Crossing.{status_of}
use Rattle.refusal.specs.declared.Refusal.{Refusal}
use Rattle.session.specs.declared.stream.Progress.{Progress}
use Rattle.std.specs.Prelude.{Result}
use Rattle.command.specs.Table.{headers, line_with}
use Rattle.command.specs.Kinds.{allowed, fault_of, kind_of}
use Rattle.command.proofs.Headers.{count_most}
use Rattle.owners.specs.Owners.{fault_at, may_name, may_open}
use Rattle.state.specs.State.{Session, at_line, none, new_shared, new_party_of, new_party, new_session}
use Rattle.state.specs.Start.{is_edition, edition_told}
use Rattle.state.specs.Effects.{limit, opening, took, stop, with_parameter}
use Rattle.session.specs.Step.{still_open, refused, Stepped, refusing, placing, parameter_step, header_step, step_of}
use Rattle.state.specs.Asked.{Held, HeldOwn, Given}
use Rattle.session.specs.Asked.{Left, Read, OpenAsked, ParameterAsked}
use Rattle.session.specs.Answers.{Begins}
use Rattle.state.specs.Cells.{party_of, party_cells, tally_cells, shared_cells, session_of, own_length}
use Rattle.state.proofs.Cells.{own_canon, tally_canon, shared_canon}
use Rattle.session.proofs.Stepping.{refusing_left}

told_apart : {v : List ℕ} {n : ℕ} → gives v ≡ refuses n → ⊥
told_apart h = let z : ◌≡◌ {A = ℕ} 0 1 = cc in omega arith

-- a word where a command is open
module _ (l t s : List ℕ) (w : ℕ) (a : OpenAsked l t s) where
  abbrev so : Session
  so = session_of l t s

  count_lt : (party_of l t).opened.count < 4
  count_lt =
      omega (arith, (a.given.valid.opened a.line).fewer, count_most (party_of l t).opened.line a.line)

  pub kind_asked : (get_or l 2 0 < 21) × (get_or l 3 0 < 4)
  unfolding party_of
  kind_asked = (a.line, count_lt)

  -- its kind doesn't allow it, or it names what isn't one's own
  kind_refused : (n : ℕ) → (allowed (kind_of (get_or l 2 0) (get_or l 3 0)) w and may_name (get_or l 17 0) (kind_of (get_or l 2 0) (get_or l 3 0)) w) ≡ false →
      n ≡ fault_at (kind_of (get_or l 2 0) (get_or l 3 0)) w → (l1 : List ℕ) → l1 ≡ party_cells (stop (party_of l [])) →
      Left (parameter_step so w) (refused n) l1 t s
  unfolding parameter_step fault_at party_of
  kind_refused n bad f l1 q =
      subst (λ (x : Stepped). Left x (refused n) l1 t s)
      (ap (refusing so) f ∙ sym (by_fault (allowed (kind_of (get_or l 2 0) (get_or l 3 0)) w) (may_name (get_or l 17 0) (kind_of (get_or l 2 0) (get_or l 3 0)) w) bad
      (placing (with_parameter so.party.opened w) so) (fault_of (kind_of (get_or l 2 0) (get_or l 3 0)))))
      (refusing_left l t s a.given.sized n l1 q)
    where
      by_fault : (x y : Bool) → (x and y) ≡ false → (u : Stepped) (m : ℕ) →
          pick x (pick y u (refusing so 20)) (refusing so m) ≡ refusing so (pick x 20 m)
      by_fault true true e u m = absurd (let z : ◌≡◌ {A = ℕ} 0 1 = unfold ◌and◌ in cc in omega arith)
      by_fault true false e u m = unfold pick in refl
      by_fault false y e u m = unfold pick in refl

  module _ (r : Bool) (e : r ≡ (allowed (kind_of (get_or l 2 0) (get_or l 3 0)) w and may_name (get_or l 17 0) (kind_of (get_or l 2 0) (get_or l 3 0)) w)) where
    pub not_taken : r ≡ false → (n : ℕ) →
        ((mine : ℕ) → (allowed (kind_of (get_or l 2 0) (get_or l 3 0)) w and may_name mine (kind_of (get_or l 2 0) (get_or l 3 0)) w) ≡ false →
        n ≡ fault_at (kind_of (get_or l 2 0) (get_or l 3 0)) w) →
        (l1 : List ℕ) → l1 ≡ party_cells (stop (party_of l [])) → Left (parameter_step so w) (refused n) l1 t s
    not_taken bad n f l1 q = kind_refused n (sym e ∙ bad) (f (get_or l 17 0) (sym e ∙ bad)) l1 q

    module _ (passes : r ≡ true) where
      pub parameter_asked : ParameterAsked l t s w
      parameter_asked =
          record {
            given = a.given;
            taken = a.taken;
            line = a.line;
            kind_allows = unfold party_of in and_left _ _ (sym e ∙ passes);
            named = unfold party_of in and_right _ _ (sym e ∙ passes);
          }

      pub kind_passed : (n : Result Progress Refusal) (l1 : List ℕ) → Read (placing (with_parameter (party_of l []).opened w) so) n l1 t s →
          Read (parameter_step so w) n l1 t s
      unfolding parameter_step party_of
      kind_passed n l1 h =
          subst (λ (x : Stepped). Read x n l1 t s)
          (sym (pick_yes _ _ (and_left _ _ (sym e ∙ passes)) ∙ pick_yes _ _ (and_right _ _ (sym e ∙ passes)))) h

-- a word
module _ (l t s : List ℕ) (w : ℕ) (g : Given l t s) where
  abbrev sg : Session
  sg = session_of l t s

  pub same : Held sg l t s
  same =
      record {
        own_cells = sym (own_canon l t g.sized.own_length_lem);
        tally_cells_lem = sym (tally_canon l t g.sized.tallies_length_lem);
        shared_cells_lem = sym (shared_canon s g.sized.shared_length_lem);
      }

  pub word_stopped : get_or l 0 0 ≡ 1 → Left (step_of sg w) (refused 1) l t s
  unfolding step_of party_of
  word_stopped e =
      subst (λ (x : Stepped). Left x (refused 1) l t s) (sym (pick_yes _ _ (eq-eqb _ _ e))) (record { reply = refl; held = same })

  module _ (n0 : get_or l 0 0 ≡ 1 → ⊥) where
    pub word_full : limit ≤ get_or l 1 0 → (l1 : List ℕ) → l1 ≡ party_cells (stop (party_of l [])) → Left (step_of sg w) (refused 17) l1 t s
    unfolding step_of party_of
    word_full k l1 e =
        subst (λ (x : Stepped). Left x (refused 17) l1 t s)
        (sym (pick_no _ _ (ne_eqb _ _ n0) ∙ pick_yes _ _ (le-leb _ _ k)))
        (refusing_left l t s g.sized 17 l1 e)

    module _ (k : get_or l 1 0 < limit) where
      going : step_of sg w ≡ pick (eqb (get_or l 2 0) 21) (header_step sg w) (parameter_step sg w)
      unfolding step_of party_of
      going = pick_no _ _ (ne_eqb _ _ n0) ∙ pick_no _ _ (lt-leb _ _ k)

      module _ (ne : get_or l 2 0 ≡ 21 → ⊥) where
        pub open_asked : OpenAsked l t s
        open_asked =
            record {
              given = g;
              taken = unfold party_of in k;
              line = unfold party_of in (omega (arith, ne, g.valid.line_most));
            }

        pub word_parameter : (n : Result Progress Refusal) (l1 : List ℕ) → Read (parameter_step sg w) n l1 t s → Read (step_of sg w) n l1 t s
        word_parameter n l1 h = subst (λ (x : Stepped). Read x n l1 t s) (sym (going ∙ pick_no _ _ (ne_eqb _ _ ne))) h

      module _ (e : get_or l 2 0 ≡ 21) where
        header : step_of sg w ≡ header_step sg w
        header = going ∙ pick_yes _ _ (eq-eqb _ _ e)

        none_open : (party_of l t).opened ≡ none
        none_open = g.valid.closed (unfold party_of in e)

        pub line_asked : ((party_of l []).taken < limit) × ((party_of l []).opened ≡ none)
        unfolding party_of
        line_asked = (k, none_open)

        one_line : {x y : ℕ} → gives (x ∷ []) ≡ gives (y ∷ []) → x ≡ y
        one_line h = cc

        known : (n : ℕ) → line_with w ≡ gives (n ∷ []) → Tested (ltb (place_of w headers) (length headers)) →
            (ltb (place_of w headers) (length headers) ≡ true) × (place_of w headers ≡ n)
        unfolding line_with
        known n r (holds x) = (x, one_line (sym (pick_yes _ _ x) ∙ r))
        known n r (fails x) = absurd (told_apart (sym r ∙ pick_no _ _ x))

        pub word_unknown : line_with w ≡ refuses 2 → (l1 : List ℕ) → l1 ≡ party_cells (stop (party_of l [])) →
            Left (step_of sg w) (refused 2) l1 t s
        unfolding header_step line_with
        word_unknown r l1 q =
            subst (λ (x : Stepped). Left x (refused 2) l1 t s) (sym (header ∙ pick_no _ _ (unknown (tested _))))
            (refusing_left l t s g.sized 2 l1 q)
          where
            unknown : Tested (ltb (place_of w headers) (length headers)) → ltb (place_of w headers) (length headers) ≡ false
            unknown (holds x) = absurd (told_apart (sym (pick_yes _ _ x) ∙ r))
            unknown (fails x) = x

        pub word_foreign : (n : ℕ) → line_with w ≡ gives (n ∷ []) → may_open (get_or l 17 0) n ≡ false → (l1 : List ℕ) →
            l1 ≡ party_cells (stop (party_of l [])) → Left (step_of sg w) (refused 20) l1 t s
        unfolding header_step party_of
        word_foreign n r m l1 q =
            subst (λ (x : Stepped). Left x (refused 20) l1 t s)
            (sym (header ∙ pick_yes _ _ (known n r (tested _)).0 ∙ pick_no _ _ (ap (may_open (get_or l 17 0)) (known n r (tested _)).1 ∙ m)))
            (refusing_left l t s g.sized 20 l1 q)

        pub word_header : (n : ℕ) → line_with w ≡ gives (n ∷ []) → may_open (get_or l 17 0) n ≡ true → (l1 : List ℕ) →
            l1 ≡ party_cells (took (opening (at_line n) (party_of l []))) → Left (step_of sg w) still_open l1 t s
        unfolding header_step party_of
        word_header n r m l1 q =
            subst (λ (x : Stepped). Left x still_open l1 t s)
            (sym (header ∙ pick_yes _ _ (known n r (tested _)).0 ∙ pick_yes _ _ (ap (may_open (get_or l 17 0)) (known n r (tested _)).1 ∙ m)))
            (record {
              reply = refl;
              held =
                  record {
                    own_cells =
                        unfold party_of party_cells in
                        (q ∙ ap (λ (m : ℕ). party_cells (took (opening (at_line m) (party_of l t)))) (sym (known n r (tested _)).1));
                    tally_cells_lem = unfold party_of tally_cells in sym (tally_canon l t g.sized.tallies_length_lem);
                    shared_cells_lem = sym (shared_canon s g.sized.shared_length_lem);
                  };
            })

-- a new party's cells, and new settings'
pub party_begun :
    (mine edition : ℕ) →
    HeldOwn (new_party_of mine edition)
    (set (set (set (set (set (set (set (replicate own_length 0) 17 mine) 18 edition) 2 21) 19 7) 21 4096) 22 4096) 23 1) (replicate 2 0)
unfolding party_cells tally_cells
party_begun mine edition = record { own_cells = refl; tally_cells_lem = refl }

pub settings_begun : set (replicate 101 0) 0 65535 ≡ shared_cells new_shared
unfolding shared_cells
settings_begun = refl

pub begun : (edition : ℕ) {l t s : List ℕ} → HeldOwn (new_party edition) l t → s ≡ shared_cells new_shared → Held (new_session edition) l t s
begun edition h e = record { own_cells = h.own_cells; tally_cells_lem = h.tally_cells_lem; shared_cells_lem = e }

yes_no : true ≡ false → ⊥
unfolding digit
yes_no e = let z : digit true ≡ digit false = ap digit e in omega arith

-- a session begins where the edition is one of the two, and else nothing is touched
module _ (edition : ℕ) {known : Bool} (told : known ≡ is_edition edition) where
  pub begins : {l t s l1 t1 s1 : List ℕ} → known ≡ true → Held (new_session edition) l1 t1 s1 → Begins edition 0 l t s l1 t1 s1
  unfolding edition_told
  begins e h =
      record {
        status = sym (ap status_of (pick_yes (gives []) (refuses 3) (sym told ∙ e)));
        held = λ k. h;
        untouched = λ k. absurd (yes_no (sym e ∙ told ∙ k));
      }

  pub begins_not : {n : ℕ} {l t s : List ℕ} → known ≡ false → n ≡ 3 → Begins edition n l t s l t s
  unfolding edition_told
  begins_not e k =
      record {
        status = k ∙ sym (ap status_of (pick_no (gives []) (refuses 3) (sym told ∙ e)));
        held = λ z. absurd (yes_no (sym z ∙ sym told ∙ e));
        untouched = λ z. record { own_cells = refl; tally_cells_lem = refl; shared_cells_lem = refl };
      }
