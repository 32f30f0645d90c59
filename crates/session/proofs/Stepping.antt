-- A whole command and a parameter, cell by cell as the code takes them, are the definition's steps. Assumes nothing.
use mathlib.Core.Path.{◌≡◌, refl, sym, ap, ◌∙◌, subst}
use mathlib.Core.Bool.{true}
use mathlib.Core.List.{List, []}
use Prim.Native.Nat.{ℕ, ◌+◌, ◌<◌, ◌≤◌, ◌^◌}
use native.Mathlib.Omega.{arith}
use lib.ListN.{length, get_or}
use borrow.Author.Tests.{lt-ltb, le-ltb}
use Rattle.laws.proofs.Choice.{pick_yes, pick_no}
use Rattle.refusal.specs.Told.{Told, gives, refuses, then_told}
use Rattle.command.specs.Table.{count_of}
use Rattle.command.specs.Commands.{EachAllowed}
use Rattle.rules.specs.Rules.{last_rule_of}
use Rattle.command.specs.declared.commands.Command.{Command}
use Rattle.command.specs.declared.commands.Command.TheVariants as command
use Rattle.command.proofs.Headers.{count_most}
use Rattle.owners.specs.Owners.{owned}
use Rattle.state.specs.Seen.{seen_outputs}
use Rattle.state.specs.State.{Open, Party, Shared, Session}
use Rattle.state.specs.Start.{ready_of}
use Rattle.state.specs.Effects.{limit, opening, took, stop, with_parameter, after}
use Rattle.session.specs.Step.{still_open, completed, refused, Stepped, refusing, start_rule_of, judged, completing, placing}
use Rattle.state.specs.Valid.{parameters_of, OpenValid}
use Rattle.state.specs.Asked.{Held}
use Rattle.session.specs.Asked.{Left, CompleteAsked, ParameterAsked, whole_of}
use Rattle.state.specs.Cells.{Sized, party_of, party_cells, tally_cells, shared_of, session_of}
use Rattle.state.proofs.Cells.{tally_canon, shared_canon}
use Rattle.session.proofs.Kept.{allowed_more, named_first, open_owned}
use Rattle.session.proofs.Ways.{whole}

-- the start's rule reads the domain, the instructions, the mask and the outputs alone
start_rule_same : (c : Command) (p q : Party) (h : Shared) → p.domain ≡ q.domain → p.instructions ≡ q.instructions →
    p.birth ≡ q.birth →
    start_rule_of c (record { party = p; shared = h }) ≡ start_rule_of c (record { party = q; shared = h })
unfolding start_rule_of
start_rule_same (command.Domain i0 j0 i1 j1) p q h d i b = refl
start_rule_same command.Start p q h d i b = λ k. ready_of (d k) (i k) h.mask (seen_outputs (b k).mine h.outputs)
start_rule_same (command.Effectless what) p q h d i b = refl
start_rule_same (command.Store what base format) p q h d i b = refl
start_rule_same (command.Input number base format height) p q h d i b = refl
start_rule_same (command.Output number base format height) p q h d i b = refl
start_rule_same (command.Conditional base format height) p q h d i b = refl
start_rule_same (command.OutputMask mask) p q h d i b = refl
start_rule_same (command.ConditionalMask mask) p q h d i b = refl
start_rule_same (command.Test test) p q h d i b = refl

-- a refused word's cells: the session is stopped and its open command dropped, all else stands
pub refusing_left : (l t s : List ℕ) → Sized l t s → (n : ℕ) (l1 : List ℕ) → l1 ≡ party_cells (stop (party_of l [])) →
    Left (refusing (session_of l t s) n) (refused n) l1 t s
refusing_left l t s z n l1 e =
    record {
      reply = refl;
      held =
          record {
            own_cells = unfold party_of party_cells in e;
            tally_cells_lem = unfold party_of tally_cells in sym (tally_canon l t z.tallies_length_lem);
            shared_cells_lem = sym (shared_canon s z.shared_length_lem);
          };
    }

-- a whole command
module _ (l t s : List ℕ) (a : CompleteAsked l t s) where
  abbrev o : Open
  o = (party_of l []).opened

  abbrev ss : Session
  ss = session_of l t s

  abbrev told : Told
  told = then_told (last_rule_of (whole o)) (start_rule_of (whole o) ss)

  pub whole_refused : (n : ℕ) → told ≡ refuses n → (l1 : List ℕ) → l1 ≡ party_cells (stop (party_of l [])) →
      Left (completing o ss) (refused n) l1 t s
  unfolding completing judged
  whole_refused n k l1 q =
      subst (λ (x : Stepped). Left x (refused n) l1 t s) (ap (λ (x : Told). judged x (whole o) ss) (sym k))
      (refusing_left l t s a.asked.sized n l1 q)

  pub whole_accepted : (v : List ℕ) → told ≡ gives v → (d : Command) → d ≡ whole o → (l1 t1 s1 : List ℕ) →
      Held (after (whole o) ss) l1 t1 s1 → Left (completing o ss) (completed d) l1 t1 s1
  unfolding completing judged
  whole_accepted v k d e l1 t1 s1 h =
      subst (λ (x : Stepped). Left x (completed d) l1 t1 s1) (ap (λ (x : Told). judged x (whole o) ss) (sym k))
      (record { reply = ap completed e; held = h })

-- a step of a session whose open command has one parameter more is a step of the session before it
reopened : Open → Session → Session
reopened o s = record { party = opening o s.party; shared = s.shared }

judged_same : (t : Told) (c : Command) (o : Open) (s : Session) → judged t c (reopened o s) ≡ judged t c s
unfolding judged after reopened
judged_same (gives v) c o s = refl
judged_same (refuses n) c o s = refl

completing_same : (o p : Open) (s : Session) → completing o (reopened p s) ≡ completing o s
unfolding completing reopened
completing_same o p s =
    ap (λ (r : Told). judged (then_told (last_rule_of (whole o)) r) (whole o) (reopened p s))
    (start_rule_same (whole o) (opening p s.party) s.party s.shared refl refl refl) ∙
    judged_same _ (whole o) p s

-- a parameter that its kind allows
module _ (l t s : List ℕ) (w : ℕ) (a : ParameterAsked l t s w) where
  abbrev sw : Session
  sw = session_of l t s

  abbrev ow : Open
  ow = (party_of l []).opened

  abbrev next : Open
  next = with_parameter ow w

  open_valid : OpenValid (party_of l t).opened
  open_valid = a.given.valid.opened a.line

  count_lt : (party_of l t).opened.count < 4
  count_lt = omega (arith, open_valid.fewer, count_most (party_of l t).opened.line a.line)

  pub place_asked : (get_or l 3 0 < 4) × ((party_of l []).opened.count ≡ get_or l 3 0)
  unfolding party_of
  place_asked = (count_lt, refl)

  pub count_fits : get_or l 3 0 + 1 < 2 ^ 32
  unfolding party_of
  count_fits = omega (arith, count_lt)

  module _ (l1 : List ℕ) (e1 : l1 ≡ party_cells (opening next (party_of l []))) where
    pub placed_asked : (party_of l1 []).taken < limit
    unfolding party_of party_cells
    placed_asked = rw e1 a.taken

    pub placed_open : get_or l 3 0 + 1 < count_of (get_or l 2 0) → (l2 : List ℕ) → l2 ≡ party_cells (took (party_of l1 [])) →
        Left (placing next sw) still_open l2 t s
    unfolding placing party_of
    placed_open k l2 e2 =
        subst (λ (x : Stepped). Left x still_open l2 t s) (sym (pick_yes _ _ (lt-ltb _ _ k)))
        (record {
          reply = refl;
          held =
              record {
                own_cells = unfold party_cells in (e2 ∙ ap (λ (x : List ℕ). party_cells (took (party_of x []))) e1);
                tally_cells_lem = unfold tally_cells in sym (tally_canon l t a.given.sized.tallies_length_lem);
                shared_cells_lem = sym (shared_canon s a.given.sized.shared_length_lem);
              };
        })

    is_next : party_of l1 t ≡ opening next (party_of l t)
    unfolding party_of party_cells
    is_next = ap (λ (x : List ℕ). party_of x t) e1

    all_passed : count_of (get_or l 2 0) ≤ get_or l 3 0 + 1 → EachAllowed next.line (parameters_of next)
    unfolding party_of
    all_passed k j h =
        allowed_more (party_of l t).opened w count_lt open_valid a.kind_allows j (omega (arith, h, k))

    next_owned : owned (party_of l t).birth.mine (whole_of next) ≡ true
    unfolding party_of
    next_owned =
        let open_of = a.given.valid.owned a.line in
        open_owned (party_of l t).birth.mine (with_parameter (party_of l t).opened w) a.line
        (record { line = open_of.line; number = λ h. named_first (party_of l t).birth.mine (party_of l t).opened w open_of.number a.named })
        (omega arith)

    pub complete_asked : count_of (get_or l 2 0) ≤ get_or l 3 0 + 1 → CompleteAsked l1 t s
    complete_asked k =
        record {
          asked =
              record {
                sized =
                    record {
                      own_length_lem = unfold party_cells in ap length e1;
                      tallies_length_lem = a.given.sized.tallies_length_lem;
                      shared_length_lem = a.given.sized.shared_length_lem;
                    };
                domain = rw is_next a.given.valid.domain;
                kept = rw is_next a.given.valid.readiness;
                runs = rw is_next (omega (arith, a.given.valid.tally, a.given.valid.full));
                claims = rw is_next (omega (arith, a.given.valid.tally, a.given.valid.full));
              };
          taken = rw is_next a.taken;
          line = rw is_next (unfold party_of in a.line);
          passed =
              subst (λ (o : Open). EachAllowed o.line (parameters_of o)) (sym (ap (λ (p : Party). p.opened) is_next)) (all_passed k);
          owner = subst (λ (p : Party). owned p.birth.mine (whole_of p.opened) ≡ true) (sym is_next) next_owned;
        }

    is_open : (party_of l1 []).opened ≡ next
    unfolding party_of party_cells
    is_open = ap (λ (x : List ℕ). (party_of x []).opened) e1

    pub placed_whole : count_of (get_or l 2 0) ≤ get_or l 3 0 + 1 →
        placing next sw ≡ completing (party_of l1 []).opened (session_of l1 t s)
    unfolding placing reopened
    placed_whole k =
        sym
        (ap (λ (p : Party). completing (party_of l1 []).opened (record { party = p; shared = shared_of s })) is_next ∙
        ap (λ (q : Open). completing q (reopened next sw)) is_open ∙
        completing_same next next sw ∙ sym (pick_no _ _ (le-ltb _ _ more)))
      where
        more : count_of next.line ≤ next.count
        more = unfold party_of in k
