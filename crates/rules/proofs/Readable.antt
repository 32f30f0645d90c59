-- What the writer writes, a reader takes again: exactly the commands whose fields are each allowed by their kinds and whose
-- rules are kept are written, and their words lead back to them. Assumes nothing.
use mathlib.Core.Path.{◌≡◌, refl, ◌∙◌}
use mathlib.Core.Bool.{Bool, true, false}
use mathlib.Core.List.{List, [], ◌∷◌}
use Prim.Native.Nat.{ℕ, zero, suc, ◌<◌, zero-le, suc-le-suc}
use native.Mathlib.Nat.{not-suc-le-zero, le_of_suc-le-suc}
use native.Mathlib.Omega.{arith}
use lib.Dec.{eqb}
use lib.ListN.{length, get_or}
use borrow.Author.Tests.{eqb-true}
use Rattle.laws.specs.Below.{every}
use Rattle.laws.specs.Choice.{◌and◌, pick}
use Rattle.laws.proofs.Below.{every_at}
use Rattle.laws.proofs.Choice.{Tested, holds, fails, tested, pick_yes, pick_no, and_intro, and_left, and_right}
use Rattle.refusal.specs.Told.{Told, gives, refuses}
use Rattle.command.specs.Table.{header_of, count_of, line_with}
use Rattle.command.specs.Kinds.{superfine_allowed, format_allowed, allowed, fault_of, kinds, kind_of}
use Rattle.command.specs.Format.{superfine_of, code_of}
use Rattle.command.specs.Commands.{line_of, fields_of, EachAllowed}
use Rattle.rules.specs.Rules.{last_rule_of}
use Rattle.rules.specs.Writer.{unrefused, all_unrefused, fields_unrefused, judge_command_of}
use Rattle.command.specs.declared.kinds.Kind.{Kind}
use Rattle.command.specs.declared.kinds.Kind.TheVariants.{
  Reserved,
  InputNumber,
  OutputNumber,
  Base,
  Format,
  InputFormat,
  Height,
  Coordinate,
  MaskBits,
  ConditionalMaskBit,
  TestBits,
}
use Rattle.command.specs.declared.commands.Command.{Command}
use Rattle.command.proofs.Headers.{found}
use Rattle.rules.proofs.Judging.{Fault, three, four, fault}
use Rattle.command.proofs.WriteBack.{again, read_back, lined}

-- 0 is allowed everywhere
pub zero_allowed : (k : Kind) → allowed k 0 ≡ true
unfolding allowed format_allowed superfine_allowed superfine_of code_of pick ◌and◌
zero_allowed Reserved = refl
zero_allowed InputNumber = refl
zero_allowed OutputNumber = refl
zero_allowed Base = refl
zero_allowed Format = refl
zero_allowed InputFormat = refl
zero_allowed Height = refl
zero_allowed Coordinate = refl
zero_allowed MaskBits = refl
zero_allowed ConditionalMaskBit = refl
zero_allowed TestBits = refl

-- each line has as many kinds as parameters
kinds_counted : ℕ → Bool
kinds_counted l = eqb (length (get_or kinds l [])) (count_of l)

pub kinds_count : (l : ℕ) → l < 21 → length (get_or kinds l []) ≡ count_of l
unfolding kinds_counted count_of every ◌and◌
kinds_count l h = eqb-true _ _ (every_at 21 kinds_counted refl l h)

-- a word that causes neither 3 nor 4 is allowed, and an allowed word causes no refusal
is_allowed : (k : Kind) (w : ℕ) → unrefused 3 k w ≡ true → unrefused 4 k w ≡ true → allowed k w ≡ true
unfolding unrefused pick
is_allowed k w = go (fault k)
  where
    go : Fault (fault_of k) → unrefused 3 k w ≡ true → unrefused 4 k w ≡ true → allowed k w ≡ true
    go (three f) a b = rw f at a
    go (four f) a b = rw f at b

word_unrefused : (n : ℕ) (k : Kind) (w : ℕ) → allowed k w ≡ true → unrefused n k w ≡ true
unfolding unrefused
word_unrefused n k w a = go (tested (eqb (fault_of k) n))
  where
    go : Tested (eqb (fault_of k) n) → pick (eqb (fault_of k) n) (allowed k w) true ≡ true
    go (holds e) = pick_yes (allowed k w) true e ∙ a
    go (fails e) = pick_no (allowed k w) true e

all_allowed :
    (ks : List Kind) (ws : List ℕ) → all_unrefused 3 ks ws ≡ true → all_unrefused 4 ks ws ≡ true →
    (i : ℕ) → i < length ks → i < length ws → allowed (get_or ks i Reserved) (get_or ws i 0) ≡ true
unfolding all_unrefused
all_allowed [] ws a b i h g = absurd (not-suc-le-zero h)
all_allowed (k ∷ ks) [] a b i h g = absurd (not-suc-le-zero g)
all_allowed (k ∷ ks) (w ∷ ws) a b zero h g =
    is_allowed k w (and_left (unrefused 3 k w) (all_unrefused 3 ks ws) a) (and_left (unrefused 4 k w) (all_unrefused 4 ks ws) b)
all_allowed (k ∷ ks) (w ∷ ws) a b (suc i) h g =
    all_allowed ks ws (and_right (unrefused 3 k w) (all_unrefused 3 ks ws) a) (and_right (unrefused 4 k w) (all_unrefused 4 ks ws) b) i
    (le_of_suc-le-suc h) (le_of_suc-le-suc g)

allowed_unrefused :
    (n : ℕ) (ks : List Kind) (ws : List ℕ) →
    ((i : ℕ) → i < length ks → allowed (get_or ks i Reserved) (get_or ws i 0) ≡ true) → all_unrefused n ks ws ≡ true
unfolding all_unrefused
allowed_unrefused n [] ws a = refl
allowed_unrefused n (k ∷ ks) [] a = refl
allowed_unrefused n (k ∷ ks) (w ∷ ws) a =
    and_intro (word_unrefused n k w (a 0 (suc-le-suc zero-le))) (allowed_unrefused n ks ws (λ i h. a (suc i) (suc-le-suc h)))

-- a choice against a refusal that gives
data Given (t : Bool) (a : Told) : Type 0 where
  given : t ≡ true → a ≡ gives [] → Given t a

chosen : (t : Bool) (a : Told) (n : ℕ) → pick t a (refuses n) ≡ gives [] → Given t a
unfolding pick
chosen true a n e = given refl e
chosen false a n e = absurd (let z : ◌≡◌ {A = ℕ} 0 1 = cc in omega arith)

-- a command that the writer judges fine: its fields are allowed, its rules kept, and its words lead back to it
pub record Readable (c : Command) : Type 0 where
  pub header_known : line_with (header_of (line_of c)) ≡ gives (line_of c ∷ [])
  pub fields_allowed : EachAllowed (line_of c) (fields_of c)
  pub rules_kept : last_rule_of c ≡ gives []
  pub read_again : again c ≡ c

pub readable : (c : Command) → judge_command_of c ≡ gives [] → Readable c
unfolding judge_command_of fields_unrefused kind_of
readable c e = first (chosen (fields_unrefused 3 c) (pick (fields_unrefused 4 c) (last_rule_of c) (refuses 4)) 3 e)
  where
    count : (k : ℕ) → k < count_of (line_of c) → k < length (get_or kinds (line_of c) [])
    count k h = rw (kinds_count (line_of c) (lined c).line_most) h

    size : (k : ℕ) → k < count_of (line_of c) → k < length (fields_of c)
    size k h = rw (lined c).fields_count h

    both : fields_unrefused 3 c ≡ true → Given (fields_unrefused 4 c) (last_rule_of c) → Readable c
    both a (given b r) =
        record {
          header_known = found (header_of (line_of c)) (line_of c) (lined c).line_most refl;
          fields_allowed = λ k h. all_allowed (get_or kinds (line_of c) []) (fields_of c) a b k (count k h) (size k h);
          rules_kept = r;
          read_again = read_back c;
        }

    first : Given (fields_unrefused 3 c) (pick (fields_unrefused 4 c) (last_rule_of c) (refuses 4)) → Readable c
    first (given a r) = both a (chosen (fields_unrefused 4 c) (last_rule_of c) 4 r)

-- and every command with allowed fields and kept rules is judged fine
pub writable : (c : Command) → EachAllowed (line_of c) (fields_of c) → last_rule_of c ≡ gives [] → judge_command_of c ≡ gives []
unfolding judge_command_of fields_unrefused kind_of
writable c a r =
    pick_yes _ _ (none_refused 3) ∙ pick_yes _ _ (none_refused 4) ∙ r
  where
    none_refused : (n : ℕ) → all_unrefused n (get_or kinds (line_of c) []) (fields_of c) ≡ true
    none_refused n =
        allowed_unrefused n (get_or kinds (line_of c) []) (fields_of c)
        (λ k h. a k (rw (kinds_count (line_of c) (lined c).line_most) at h))
