-- A reading of four elements, one after the other. Assumes nothing.
use mathlib.Core.Path.{◌≡◌, refl, sym, ◌∙◌, subst}
use mathlib.Core.List.{List, [], ◌++◌, append_assoc}
use Prim.Native.Nat.{ℕ, ◌*◌}
use native.Mathlib.Omega.{arith}
use lib.ListN.{length, length-append}
use Rattle.refusal.specs.Told.{gives}
use Rattle.memory.specs.Answers.{Answered}
use Rattle.memory.specs.Elements.{overwritten}
use Rattle.memory.specs.declared.Answer.TheVariants.{Bytes}
use Rattle.memory.proofs.Copies.{zeros, grown, reading_of}
use Rattle.superfine.specs.InLine.{FourAsked}

pub reading_of_four :
    (n : ℕ) (a b c d b₁ b₂ b₃ b₄ : List ℕ) → FourAsked a b c d → n ≡ length a →
    b₁ ≡ overwritten 0 a (zeros 16) → b₂ ≡ overwritten n b b₁ → b₃ ≡ overwritten (n * 2) c b₂ → b₄ ≡ overwritten (n * 3) d b₃ →
    Answered (gives (a ++ (b ++ (c ++ d)))) (record { answer = Bytes (n * 4); bytes = b₄ })
reading_of_four n a b c d b₁ b₂ b₃ b₄ asked e e₁ e₂ e₃ e₄ =
    let z = zeros 16 in
    let l₂ : length (a ++ b) ≡ n * 2 = length-append a b ∙ omega (arith, e, asked.second) in
    let l₃ : length ((a ++ b) ++ c) ≡ n * 3 = length-append (a ++ b) c ∙ omega (arith, e, asked.third) in
    let l₄ : length (((a ++ b) ++ c) ++ d) ≡ n * 4 = length-append ((a ++ b) ++ c) d ∙ omega (arith, e, asked.fourth) in
    let g₁ = grown z [] a z b₁ 0 refl refl e₁ in
    let g₂ = grown z a b b₁ b₂ n g₁ (sym e) e₂ in
    let g₃ = grown z (a ++ b) c b₂ b₃ (n * 2) g₂ l₂ e₃ in
    let g₄ = grown z ((a ++ b) ++ c) d b₃ b₄ (n * 3) g₃ l₃ e₄ in
    let whole : ((a ++ b) ++ c) ++ d ≡ a ++ (b ++ (c ++ d)) = simp append_assoc in
    subst (λ (v : List ℕ). Answered (gives v) (record { answer = Bytes (n * 4); bytes = b₄ })) whole
    (reading_of (((a ++ b) ++ c) ++ d) b₄ (n * 4) (sym l₄) (omega (arith, e, asked.small)) g₄)
