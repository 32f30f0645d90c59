-- A reading that is known crosses as it says. Assumes nothing.
use mathlib.Core.Path.{◌≡◌, sym, ap, ◌∙◌}
use mathlib.Core.List.{List, [], ◌∷◌}
use Prim.Native.Nat.{ℕ, ◌≤◌}
use native.Mathlib.Nat.{min-le_right}
use native.Mathlib.Omega.{arith}
use lib.ListN.{length, take, length-take}
use Rattle.refusal.specs.Number.{number_of}
use Rattle.refusal.specs.Told.{Told, gives, refuses}
use Rattle.refusal.specs.declared.Refusal.{Refusal}
use Rattle.refusal.specs.Crossing.{Crosses}
use Rattle.refusal.proofs.Crossings.{crosses_gives, crosses_refuses}
use Rattle.memory.specs.Answers.{Answered, told_answer, count_said, count_told, filled}
use Rattle.memory.specs.declared.Answer.TheVariants.{Bytes, Refused}
use Rattle.memory.specs.declared.Reading.{Reading}
use Rattle.element_rooms.specs.Rooms.{in_sixteen, SuperfineCrosses}

module _ (t : Told) (r : Reading) (a : Answered t r) where
  module _ (why : Refusal) (known : r.answer ≡ Refused why) (n : ℕ) (same : n ≡ number_of why) where
    refused_told : t ≡ refuses (number_of why)
    refused_told = sym a.told ∙ ap (λ u. told_answer u r.bytes) known

    pub reading_refused : (bytes : List ℕ) → Crosses (in_sixteen t) n bytes bytes
    reading_refused bytes = crosses_refuses _ n _ bytes same (ap in_sixteen refused_told)

    pub superfine_refused : (bytes count : List ℕ) → SuperfineCrosses t n bytes bytes count count
    superfine_refused bytes count =
        record {
          answer = reading_refused bytes;
          number = crosses_refuses _ n _ count same (ap count_told refused_told);
        }

  module _ (n : ℕ) (known : r.answer ≡ Bytes n) where
    pub given_told : t ≡ gives (take n r.bytes)
    given_told = sym a.told ∙ ap (λ u. told_answer u r.bytes) known

    pub reading_given : (bytes : List ℕ) → Crosses (in_sixteen t) 0 bytes r.bytes
    reading_given bytes =
        crosses_gives _ _ bytes
        (ap in_sixteen given_told ∙ ap (λ (u : Told). gives (filled u)) (sym given_told) ∙ ap gives (sym a.bytes))

    pub count_given : count_told t ≡ gives (n ∷ [])
    count_given = sym a.count ∙ ap count_said known

    pub superfine_given : (bytes count : List ℕ) → SuperfineCrosses t 0 bytes r.bytes count (n ∷ [])
    superfine_given bytes count =
        record { answer = reading_given bytes; number = crosses_gives _ _ count count_given }

-- a reading has at most 16 bytes
pub bytes_few : (t : Told) (r : Reading) → Answered t r → (n : ℕ) → r.answer ≡ Bytes n → n ≤ 16
bytes_few t r a n known =
    let counts : gives (length (take n r.bytes) ∷ []) ≡ gives (n ∷ []) = sym (ap count_told (given_told t r a n known)) ∙ count_given t r a n known in
    let same : length (take n r.bytes) ≡ n = cc in
    let e : length (take n r.bytes) ≡ _ = length-take n r.bytes in
    let w : length r.bytes ≡ 16 = a.whole in
    omega (arith, min-le_right n (length r.bytes), e)
