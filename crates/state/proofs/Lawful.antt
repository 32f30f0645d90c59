-- Laws of lawful settings: what isn't set is lawful, what is set is where it passed its rules, and a list of lawful buffers stays one when
-- a lawful buffer is set in it and when a party sees its own of it. Assumes nothing.
use mathlib.Core.Path.{◌≡◌, refl, subst, sym}
use mathlib.Core.Bool.{Bool, true}
use mathlib.Core.List.{List, [], ◌∷◌}
use Prim.Native.Nat.{ℕ, zero, suc, ◌^◌, ◌<◌}
use native.Mathlib.Omega.{arith}
use lib.ListN.{get_or, set, replicate}
use Rattle.laws.specs.Choice.{◌and◌, pick}
use Rattle.laws.specs.Masks.{on}
use Rattle.laws.proofs.Choice.{by_pick, and_intro}
use Rattle.refusal.specs.Told.{is_given}
use Rattle.command.specs.Format.{window_of}
use Rattle.command.specs.Kinds.{allowed}
use Rattle.command.specs.declared.kinds.Kind.{Kind}
use Rattle.command.specs.declared.kinds.Kind.TheVariants.{Base, Format, InputFormat, Height, ConditionalMaskBit, TestBits}
use Rattle.state.specs.State.{Buffer, unset, new_shared}
use Rattle.state.specs.Effects.{buffer, domain_from, with_shared}
use Rattle.state.specs.Seen.{seen_from}
use Rattle.state.specs.Lawful.{lawful, window, lawful_buffer, lawful_row, lawful_domain, lawful_word, SharedLawful}

-- what isn't set
pub unset_buffer : (format : Kind) → lawful_buffer format unset ≡ true
unfolding lawful_buffer lawful pick ◌and◌
unset_buffer format = refl

pub unset_row : lawful_row unset ≡ true
unfolding lawful_row
unset_row = and_intro (unset_buffer Format) refl

pub unset_word : (kind : Kind) → lawful_word kind 0 0 ≡ true
unfolding lawful_word lawful pick
unset_word kind = refl

pub unset_domain : lawful_domain (record { is_set = 0; i0 = 0; j0 = 0; i1 = 0; j1 = 0 }) ≡ true
unfolding lawful_domain lawful pick ◌and◌
unset_domain = refl

-- what is set, where it passed its rules
passes : (zeros : Bool) {passed : Bool} → passed ≡ true → lawful 1 zeros passed ≡ true
unfolding lawful pick ◌and◌
passes zeros e = e

pub set_buffer_lem : (format : Kind) (base word height : ℕ) → allowed Base base ≡ true → allowed format word ≡ true → allowed Height height ≡ true →
    is_given (window_of base word height) ≡ true → lawful_buffer format (buffer base word height) ≡ true
unfolding lawful_buffer window
set_buffer_lem format base word height a b c d = passes _ (and_intro a (and_intro b (and_intro c d)))

pub set_row : (base word : ℕ) → allowed Base base ≡ true → allowed Format word ≡ true → is_given (window_of base word 1) ≡ true →
    lawful_row (buffer base word 1) ≡ true
unfolding lawful_row allowed
set_row base word a b d = and_intro (set_buffer_lem Format base word 1 a b refl d) refl

pub set_word : (kind : Kind) (w : ℕ) → allowed kind w ≡ true → lawful_word kind 1 w ≡ true
unfolding lawful_word
set_word kind w a = passes _ a

pub set_domain_lem : (i0 j0 i1 j1 : ℕ) → lawful_domain (domain_from i0 j0 i1 j1) ≡ true
unfolding lawful_domain
set_domain_lem i0 j0 i1 j1 = passes _ refl

-- every entry of a list of one and the same value, and what stands past its end
pub all_same : {A : Type 0} (a : A) (n k : ℕ) → get_or (replicate n a) k a ≡ a
all_same a zero k = refl
all_same a (suc n) zero = refl
all_same a (suc n) (suc k) = all_same a n k

-- what holds of each buffer of a list, and of one that isn't set
module _ (P : Buffer → Type 0) where
  pub each_unset : P unset → (n k : ℕ) → P (get_or (replicate n unset) k unset)
  each_unset u n k = subst P (sym (all_same unset n k)) u

  pub each_set : (l : List Buffer) (k : ℕ) (b : Buffer) → P b → ((n : ℕ) → P (get_or l n unset)) → (n : ℕ) → P (get_or (set l k b) n unset)
  each_set [] k b p h n = h n
  each_set (x ∷ xs) zero b p h zero = p
  each_set (x ∷ xs) zero b p h (suc n) = h (suc n)
  each_set (x ∷ xs) (suc k) b p h zero = h zero
  each_set (x ∷ xs) (suc k) b p h (suc n) = each_set xs k b p (λ m. h (suc m)) n

  pub each_seen : P unset → (mine k : ℕ) (l : List Buffer) → ((n : ℕ) → P (get_or l n unset)) → (n : ℕ) → P (get_or (seen_from mine k l) n unset)
  unfolding seen_from
  each_seen u mine k [] h n = h n
  each_seen u mine k (b ∷ bs) h zero = by_pick P (on k mine) b unset (λ e. h zero) (λ e. u)
  each_seen u mine k (b ∷ bs) h (suc n) = each_seen u mine (suc k) bs (λ j. h (suc j)) n

-- the shared settings of these
pub lawful_with : {m cs cm ts t : ℕ} {f i b c : Buffer} {o n : List Buffer} →
    m < 2 ^ 16 → lawful_word ConditionalMaskBit cs cm ≡ true → lawful_word TestBits ts t ≡ true →
    lawful_row f ≡ true → lawful_row i ≡ true → lawful_row b ≡ true → lawful_buffer Format c ≡ true →
    ((k : ℕ) → lawful_buffer Format (get_or o k unset) ≡ true) → ((k : ℕ) → lawful_buffer InputFormat (get_or n k unset) ≡ true) →
    SharedLawful (with_shared m cs cm ts t f i b c o n)
lawful_with m cm t f i b c o n =
    record {
      mask = m;
      conditional_mask = cm;
      test = t;
      floats = f;
      integers = i;
      booleans = b;
      conditional = c;
      outputs = o;
      inputs = n;
    }

-- "A new session has nothing set and mask 65535."
pub new_lawful : SharedLawful new_shared
new_lawful =
    lawful_with (omega arith) (unset_word ConditionalMaskBit) (unset_word TestBits) unset_row unset_row unset_row (unset_buffer Format)
    (each_unset (λ b. lawful_buffer Format b ≡ true) (unset_buffer Format) 4)
    (each_unset (λ b. lawful_buffer InputFormat b ≡ true) (unset_buffer InputFormat) 16)
