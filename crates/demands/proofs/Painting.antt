-- Calls of the element writer in any order paint the same picture. Assumes nothing.
use mathlib.Core.Path.{◌≡◌, refl, sym, ap, ◌∙◌, subst}
use mathlib.Core.List.{List, [], ◌∷◌, Permᴰ}
use Prim.Native.Nat.{ℕ, ◌+◌, ◌<◌}
use lib.ListN.{length, get_or}
use Rattle.refusal.specs.Told.{gives}
use Rattle.memory.specs.Elements.{read_of}
use Rattle.picture.specs.Picture.{Spot, Scene, Domain, Lent, Picture, painted, spots_of}
use Rattle.picture.proofs.Pictures.{picture}
use Rattle.demands.specs.Painting.{Painting, done, then, Painted}

-- what the calls leave is what document 01's writes leave
pub calls_paint : (c : Scene) (first : ℕ) (ks : List Spot) (m m' : List ℕ) → Painting c first ks m m' → m' ≡ painted c first ks m
unfolding painted
calls_paint c first [] m _ (done _) = refl
calls_paint c first (k ∷ ks) m m' (then _ _ r _ m1 _ wrote later) =
    calls_paint c first ks m1 m' later ∙ ap (painted c first ks) wrote.memory

pub every_order :
    (c : Scene) (outputs : ℕ) (d : Domain) (first : ℕ) (m : List ℕ) → Lent c outputs d first (length m) → (order : List Spot) →
    Permᴰ order (spots_of d outputs) → (m' : List ℕ) → Painting c first order m m' → Painted c outputs d first m m'
every_order c outputs d first m lent order perm m' calls =
    let e = calls_paint c first order m m' calls in
    let p = picture c outputs d first m lent order perm in
    record {
      same = λ other permuted m'' others. calls_paint c first other m m'' others ∙ p.same other permuted ∙ sym e;
      own = λ o x y ho w. ap (λ (q : List ℕ). read_of (c.window o) x y first q) e ∙ p.own o x y ho w;
      rest = λ i hi never. ap (λ (q : List ℕ). get_or q i 0) e ∙ p.rest i hi never;
      long = ap length e ∙ p.long;
    }
