-- Request 13: every order paints the same picture. Assumes nothing.
use mathlib.Core.Path.{◌≡◌, refl, sym, ap, ◌∙◌, subst}
use mathlib.Core.Bool.{true}
use mathlib.Core.Logic.{◌⊎◌, inl, inr}
use mathlib.Core.List.Permᴰ
use mathlib.Core.List.{List, [], ◌∷◌, Memᴰ, Permᴰ}
use Prim.Native.Nat.{ℕ, ◌+◌, ◌-◌, ◌<◌, ◌≤◌, ◌^◌}
use native.Mathlib.Omega.{arith}
use lib.Dec.{eqb, ltb}
use lib.ListN.{length, take, drop, get_or, length-drop}
use lib.Seq.{length-take-le, get_or-take, get_or-drop, ext_get_or}
use borrow.Author.Tests.{eq-eqb, lt-ltb, eqb-true, eqb-false, ltb-true, ltb-false}
use Rattle.laws.specs.Choice.{◌and◌, pick}
use Rattle.laws.proofs.Choice.{pick_yes, and_intro, Tested, tested, holds, fails}
use Rattle.refusal.specs.Told.{Told, gives}
use Rattle.layout.specs.declared.Layout.{Layout}
use Rattle.address.specs.Address.{step_of, if_accepted, inside, address_of}
use Rattle.address.specs.Inverse.{Accepted, Inside, Owns}
use Rattle.address.proofs.Inverse.{inverse, answered}
use Rattle.memory.specs.Elements.{most_bytes, held_at, bytes_at, element_of, in_order, read_of, write_of, overwritten, memory_after}
use Rattle.memory.proofs.Places.{Held, tests_held}
use Rattle.memory.proofs.Overwritten.{length_overwritten}
use Rattle.picture.specs.Picture.{Spot, Scene, Domain, Within, Framed, Frame, Lent, Picture, wrote, painted, laid, spots_of, end_of}
use Rattle.picture.proofs.Patches.{patched, Covers, Fit, Agree, value, kept, reached, same_parts, length_patched, moved}
use Rattle.picture.proofs.Spots.{InDomain, spots_only, spots_have}

-- a part of a list, byte by byte
part_is : (g m : List ℕ) (p : ℕ) → p + length g ≤ length m → ((j : ℕ) → j < length g → get_or m (p + j) 0 ≡ get_or g j 0) → take (length g) (drop p m) ≡ g
part_is g m p fit all =
    ext_get_or 0 (take (length g) (drop p m)) g long
    (λ j h. let hj : j < length g = omega (arith, long, h) in get_or-take (length g) (drop p m) j 0 hj ∙ get_or-drop p m j 0 ∙ all j hj)
  where
    long : length (take (length g) (drop p m)) ≡ length g
    long = length-take-le (length g) (drop p m) (let e = length-drop p m in omega (arith, e))

module _ (l : Layout) (x y first : ℕ) (accepted : Accepted l) (i : Inside l x y) where
  test : inside l x y ≡ true
  unfolding inside
  test = and_intro (lt-ltb _ _ i.column) (lt-ltb _ _ i.row)

  write_told :
      (given m : List ℕ) → Held first (length m) (address_of l x y) l.size → length given ≡ l.size →
      write_of l x y first given m ≡ gives []
  unfolding write_of in_order
  write_told given m held size =
      answered l accepted _ ∙ pick_yes _ _ test ∙ pick_yes _ _ (and_intro (eq-eqb _ _ size) (tests_held _ _ _ _ held))

  pub read_told :
      (m : List ℕ) → Held first (length m) (address_of l x y) l.size → read_of l x y first m ≡ gives (element_of l x y first m)
  unfolding read_of in_order
  read_told m held = answered l accepted _ ∙ pick_yes _ _ test ∙ pick_yes _ _ (tests_held _ _ _ _ held)

module _ (c : Scene) (first : ℕ) where
  abbrev pub win : Spot → Layout
  win k = c.window k.output

  abbrev pub addr : Spot → ℕ
  addr k = address_of (win k) k.x k.y

  abbrev pub at : Spot → ℕ
  at k = addr k - first

  abbrev pub bytes : Spot → List ℕ
  bytes k = c.element k.output k.x k.y

  -- what a spot of the domain has, with memory of n bytes
  pub record Sound (n : ℕ) (k : Spot) : Type 0 where
    pub accepted : Accepted (win k)
    pub pair : Inside (win k) k.x k.y
    pub high : first + n ≤ 2 ^ 32
    pub low : first ≤ addr k
    pub whole : addr k + (win k).size ≤ first + n
    pub size : length (bytes k) ≡ (win k).size
    pub from : (win k).base.0 ≤ addr k
    pub to : addr k + (win k).size ≤ end_of (win k)
    pub fits : at k + length (bytes k) ≤ n

  -- elements laid down are parts put in
  pub lays : (ks : List Spot) (m : List ℕ) → laid c first ks m ≡ patched at bytes ks m
  unfolding laid
  lays [] m = refl
  lays (k ∷ ks) m = lays ks (overwritten (at k) (bytes k) m)

  held : (n : ℕ) (k : Spot) → n ≤ most_bytes → Sound n k → Held first n (addr k) (win k).size
  held n k long s = record { long = long; high = s.high; low = s.low; whole = s.whole }

  -- document 01's writes lay the elements down, in memory that they take
  pub paints :
      (n : ℕ) → n ≤ most_bytes → (ks : List Spot) (m : List ℕ) → length m ≡ n → ((k : Spot) → Memᴰ k ks → Sound n k) →
      painted c first ks m ≡ laid c first ks m
  unfolding painted memory_after laid
  paints n long [] m e all = refl
  paints n long (k ∷ ks) m e all =
      ap (painted c first ks) (stores k m e (all k (Memᴰ.head refl))) ∙
      paints n long ks (overwritten (at k) (bytes k) m) (keeps k m e (all k (Memᴰ.head refl)) ∙ e) (λ k' h. all k' (Memᴰ.tail h))
    where
      keeps : (k : Spot) (m : List ℕ) → length m ≡ n → Sound n k → length (overwritten (at k) (bytes k) m) ≡ length m
      keeps k m e s = length_overwritten (at k) (bytes k) m (omega (arith, s.fits, e))

      stores : (k : Spot) (m : List ℕ) → length m ≡ n → Sound n k → wrote c first k m ≡ overwritten (at k) (bytes k) m
      stores k m e s =
          ap (λ (t : Told). memory_after t (win k) k.x k.y first (bytes k) m)
          (write_told (win k) k.x k.y first s.accepted s.pair (bytes k) m
          (subst (λ (q : ℕ). Held first q (addr k) (win k).size) (sym e) (held n k long s)) s.size)

module _ (c : Scene) (outputs : ℕ) (d : Domain) (first : ℕ) where
  abbrev win' : Spot → Layout
  win' k = win c first k

  sound : (n : ℕ) → Framed c outputs d first n → (k : Spot) → InDomain d outputs k → Sound c first n k
  sound n lent k i =
      let o = i.output in
      let a = lent.accepted k.output o in
      let p : Inside (win c first k) k.x k.y =
      record {
        column = (let h = lent.columns k.output o in omega (arith, h, i.pair.right));
        row = (let h = lent.rows k.output o in omega (arith, h, i.pair.bottom));
      } in
      let w = (inverse (win c first k) a).within k.x k.y p in
      let low = lent.low k.output o in
      let high = lent.covers k.output o in
      let z = lent.sizes k.output k.x k.y o i.pair in
      record {
        accepted = a;
        pair = p;
        high = lent.high;
        low = omega (arith, w.0, low);
        whole = omega (arith, w.1, high);
        size = z;
        from = w.0;
        to = w.1;
        fits = omega (arith, w.0, w.1, low, high, z);
      }

  module _ (m : List ℕ) (lent : Framed c outputs d first (length m)) where
    abbrev all : List Spot
    all = spots_of d outputs

    -- what each of the domain's spots has
    each : (k : Spot) → Memᴰ k all → Sound c first (length m) k
    each k h = sound (length m) lent k (spots_only d outputs k h)

    fit : Fit (at c first) (bytes c first) (length m) all
    fit k h = (each k h).fits

    -- the spot owns the bytes that it covers
    owns : (k : Spot) (i : ℕ) → Sound c first (length m) k → Covers (at c first) (bytes c first) k i → Owns (win c first k) (first + i) k.x k.y (first + i - addr c first k)
    owns k i s v =
        record {
          pair = s.pair;
          below = omega (arith, s.low, s.size, v.from, v.to);
          byte = omega (arith, s.low, v.from);
        }

    agree : Agree (at c first) (bytes c first) all
    agree k k' i h h' v v' =
        go (tested (eqb k.output k'.output)) (tested (ltb k.output k'.output))
      where
        s : Sound c first (length m) k
        s = each k h

        s' : Sound c first (length m) k'
        s' = each k' h'

        o : k.output < outputs
        o = (spots_only d outputs k h).output

        o' : k'.output < outputs
        o' = (spots_only d outputs k' h').output

        go : Tested (eqb k.output k'.output) → Tested (ltb k.output k'.output) → value (at c first) (bytes c first) k i ≡ value (at c first) (bytes c first) k' i
        go (holds e) t = same (eqb-true _ _ e)
          where
            same : k.output ≡ k'.output → value (at c first) (bytes c first) k i ≡ value (at c first) (bytes c first) k' i
            same e =
                let w : Owns (win c first k) (first + i) k'.x k'.y (first + i - addr c first k') =
                subst (λ (q : ℕ). Owns (c.window q) (first + i) k'.x k'.y (first + i - addr c first k')) (sym e) (owns k' i s' v') in
                let p = (inverse (win c first k) s.accepted).apart (first + i) k.x k.y (first + i - addr c first k) k'.x k'.y (first + i - addr c first k') (owns k i s v) w in
                let kk : k ≡ k' = (λ (t : 𝕀). record { output = e t; x = p.0 t; y = p.1 t }) in
                ap (λ (q : Spot). value (at c first) (bytes c first) q i) kk
        go (fails e) (holds t) = absurd (clash (lent.apart k.output k'.output o o' (ltb-true _ _ t)))
          where
            clash : (end_of (win c first k) ≤ (win c first k').base.0) ⊎ (end_of (win c first k') ≤ (win c first k).base.0) → ⊥
            clash (inl q) = omega (arith, s.from, s.to, s'.from, s'.to, s.size, s'.size, v.from, v.to, v'.from, v'.to, s.low, s'.low)
            clash (inr q) = omega (arith, s.from, s.to, s'.from, s'.to, s.size, s'.size, v.from, v.to, v'.from, v'.to, s.low, s'.low)
        go (fails e) (fails t) =
            let n : k.output ≡ k'.output → ⊥ = eqb-false _ _ e in
            let z : k'.output ≤ k.output = ltb-false _ _ t in
            absurd (clash (lent.apart k'.output k.output o' o (omega arith)))
          where
            clash : (end_of (win c first k') ≤ (win c first k).base.0) ⊎ (end_of (win c first k) ≤ (win c first k').base.0) → ⊥
            clash (inl q) = omega (arith, s.from, s.to, s'.from, s'.to, s.size, s'.size, v.from, v.to, v'.from, v'.to, s.low, s'.low)
            clash (inr q) = omega (arith, s.from, s.to, s'.from, s'.to, s.size, s'.size, v.from, v.to, v'.from, v'.to, s.low, s'.low)

    module _ (order : List Spot) (perm : Permᴰ order all) where
      there : (k : Spot) → Memᴰ k order → Memᴰ k all
      there k h = moved perm h

      here : (k : Spot) → Memᴰ k all → Memᴰ k order
      here k h = moved (Permᴰ.symm perm) h

      pub as_all : laid c first order m ≡ patched (at c first) (bytes c first) all m
      as_all = lays c first order m ∙ same_parts (at c first) (bytes c first) all order m fit agree here there

      pub long : length (laid c first order m) ≡ length m
      long = ap length as_all ∙ length_patched (at c first) (bytes c first) all m fit

      own : (o x y : ℕ) → o < outputs → Within d x y → element_of (c.window o) x y first (laid c first order m) ≡ c.element o x y
      unfolding bytes_at
      own o x y ho w =
          ap (λ (q : ℕ). take q (drop (at c first k) after)) (sym s.size) ∙
          part_is (bytes c first k) after (at c first k) (omega (arith, s.fits, long)) byte
        where
          k : Spot
          k = record { output = o; x = x; y = y }

          mem : Memᴰ k all
          mem = spots_have d outputs o x y ho w

          s : Sound c first (length m) k
          s = each k mem

          after : List ℕ
          after = laid c first order m

          byte : (j : ℕ) → j < length (bytes c first k) → get_or after (at c first k + j) 0 ≡ get_or (bytes c first k) j 0
          byte j h =
              let v : Covers (at c first) (bytes c first) k (at c first k + j) = record { from = omega arith; to = omega arith } in
              let b = value (at c first) (bytes c first) k (at c first k + j) in
              ap (λ (q : List ℕ). get_or q (at c first k + j) 0) as_all ∙
              reached (at c first) (bytes c first) all m (at c first k + j) b k fit (λ k' h' v'. agree k' k (at c first k + j) h' mem v' v) mem v ∙
              ap (λ (q : ℕ). get_or (bytes c first k) q 0) {x = at c first k + j - at c first k} {y = j} (omega arith)

      rest :
          (i : ℕ) → i < length m →
          ((o x y place : ℕ) → o < outputs → Within d x y → Owns (c.window o) (first + i) x y place → ⊥) →
          get_or (laid c first order m) i 0 ≡ get_or m i 0
      rest i hi never =
          ap (λ (q : List ℕ). get_or q i 0) as_all ∙
          kept (at c first) (bytes c first) all m i (get_or m i 0) fit
          (λ k h v.
          let n = spots_only d outputs k h in
          absurd (never k.output k.x k.y (first + i - addr c first k) n.output n.pair (owns k i (each k h) v)))
          refl

      -- document 01's writes leave the same, where they take memory of this length
      pub written : length m ≤ most_bytes → painted c first order m ≡ laid c first order m
      written few = paints c first (length m) few order m refl (λ k h. each k (there k h))

      -- and its reads then answer the bytes that a pair has
      reads : length m ≤ most_bytes → (o x y : ℕ) → o < outputs → Within d x y → read_of (c.window o) x y first (painted c first order m) ≡ gives (c.element o x y)
      reads few o x y ho w =
          ap (read_of (c.window o) x y first) (written few) ∙
          read_told (c.window o) x y first s.accepted s.pair (laid c first order m)
          (subst (λ (q : ℕ). Held first q (addr c first k) (win c first k).size) (sym long) (held c first (length m) k few s)) ∙
          ap gives (own o x y ho w)
        where
          k : Spot
          k = record { output = o; x = x; y = y }

          s : Sound c first (length m) k
          s = each k (spots_have d outputs o x y ho w)

    pub frame : (order : List Spot) → Permᴰ order all → Frame c outputs d first order m
    frame order perm =
        record {
          same = λ other p. as_all other p ∙ sym (as_all order perm);
          own = own order perm;
          rest = rest order perm;
          long = long order perm;
        }

  pub picture :
      (m : List ℕ) → Lent c outputs d first (length m) → (order : List Spot) → Permᴰ order (spots_of d outputs) →
      Picture c outputs d first order m
  picture m lent order perm =
      let f = frame m lent.framed order perm in
      let e = written m lent.framed order perm lent.long in
      record {
        same = λ other p. written m lent.framed other p lent.long ∙ f.same other p ∙ sym e;
        own = reads m lent.framed order perm lent.long;
        rest = λ i hi never. ap (λ (q : List ℕ). get_or q i 0) e ∙ f.rest i hi never;
        long = ap length e ∙ f.long;
      }
