-- What a superfine read answers: one law a return of the code. Assumes nothing.
use mathlib.Core.Path.{◌≡◌, sym, ap, ap₂, ◌∙◌, subst}
use mathlib.Core.Bool.{Bool, true, false}
use mathlib.Core.List.{List, [], ◌∷◌, ◌++◌}
use Prim.Native.Nat.{ℕ, ◌+◌, ◌-◌, ◌^◌, ◌<◌, ◌≤◌}
use native.Mathlib.Omega.{arith}
use lib.ListN.{length, take, drop}
use Rattle.laws.specs.Choice.{◌and◌}
use Rattle.laws.proofs.Choice.{pick_yes, pick_no, and_intro, and_no_left, and_no_right}
use Rattle.refusal.specs.Told.{gives, refuses}
use Rattle.layout.specs.declared.Layout.{Layout}
use Rattle.layout.specs.declared.ByteAddress.{ByteAddress}
use Rattle.address.specs.Address.{address_of}
use Rattle.command.specs.Format.{pitch_of, tiled_of, code_of, size_of}
use Rattle.memory.specs.Elements.{bytes_at, start_of}
use Rattle.superfine.specs.InLine.{PartsAsked, part_at, four_parts}
use Rattle.superfine.specs.Superfine.{superfine_word, format_layout, four_inside, four_held, four_bytes, four_of, four_at_of, superfine_read_of, corners_of}
use Rattle.memory.proofs.Pairs.{given, passed}
use Rattle.memory.proofs.Places.{not_held, begins}
use Rattle.superfine.proofs.Words.{small_size}

module _ (first : ℕ) (m : List ℕ) (s a p : ℕ) (told : start_of a s first (length m) ≡ gives (p ∷ [])) where
  part_bytes : bytes_at first m a s ≡ part_at m s p
  unfolding bytes_at
  part_bytes =
      ap₂ (λ (n q : ℕ). take n (drop q m)) {x = s} {y = p + s - p} (omega arith)
      (sym (begins first (length m) a s p told).place)

module _ (first : ℕ) (m : List ℕ) (s right below across own : ℕ) where
  unheld : four_held first (length m) s right below across own ≡ false → four_of first m s right below across own ≡ refuses 11
  unfolding four_of
  unheld e = pick_no _ _ e

  pub right_unheld : (k : ℕ) → start_of right s first (length m) ≡ refuses k → four_of first m s right below across own ≡ refuses 11
  unfolding four_held
  right_unheld k t = unheld (and_no_left _ (not_held first (length m) right s k t))

  pub below_unheld : (k : ℕ) → start_of below s first (length m) ≡ refuses k → four_of first m s right below across own ≡ refuses 11
  unfolding four_held
  below_unheld k t = unheld (and_no_right _ (and_no_left _ (not_held first (length m) below s k t)))

  pub across_unheld :
      (k : ℕ) → start_of across s first (length m) ≡ refuses k → four_of first m s right below across own ≡ refuses 11
  unfolding four_held
  across_unheld k t = unheld (and_no_right _ (and_no_right _ (and_no_left _ (not_held first (length m) across s k t))))

  pub own_unheld : (k : ℕ) → start_of own s first (length m) ≡ refuses k → four_of first m s right below across own ≡ refuses 11
  unfolding four_held
  own_unheld k t = unheld (and_no_right _ (and_no_right _ (and_no_right _ (not_held first (length m) own s k t))))

  module _
      (a b c d : ℕ) (ta : start_of right s first (length m) ≡ gives (a ∷ [])) (tb : start_of below s first (length m) ≡ gives (b ∷ []))
      (tc : start_of across s first (length m) ≡ gives (c ∷ [])) (td : start_of own s first (length m) ≡ gives (d ∷ [])) where
    pub parts_asked : s ≤ 4 → PartsAsked m s a b c d
    parts_asked few =
        let at_a = begins first (length m) right s a ta in
        record {
          few = few;
          small = at_a.small;
          first = at_a.fits;
          second = (begins first (length m) below s b tb).fits;
          third = (begins first (length m) across s c tc).fits;
          fourth = (begins first (length m) own s d td).fits;
        }

    -- the size as a number that it is
    pub parts_asked_at : (n : ℕ) → s ≡ n → s ≤ 4 → PartsAsked m n a b c d
    parts_asked_at n e few = subst (λ (k : ℕ). PartsAsked m k a b c d) e (parts_asked few)

    pub four_read : four_of first m s right below across own ≡ gives (four_parts m s a b c d)
    unfolding four_of four_held four_bytes
    four_read =
        pick_yes _ _
        (and_intro (begins first (length m) right s a ta).test
        (and_intro (begins first (length m) below s b tb).test
        (and_intro (begins first (length m) across s c tc).test (begins first (length m) own s d td).test))) ∙
        rw (
          part_bytes first m s right a ta,
          part_bytes first m s below b tb,
          part_bytes first m s across c tc,
          part_bytes first m s own d td,
        )

    pub four_read_at : (n : ℕ) → s ≡ n → four_of first m s right below across own ≡ gives (four_parts m n a b c d)
    four_read_at n e = four_read ∙ ap (λ (k : ℕ). gives (four_parts m k a b c d)) e

module _ (base format height x y first : ℕ) (m : List ℕ) where
  pub word_refused : superfine_word base format ≡ false → superfine_read_of base format height x y first m ≡ refuses 3
  unfolding superfine_read_of
  word_refused e = pick_no _ _ e

  -- the layout, as its fields were read
  module _ (word : superfine_word base format ≡ true) (l : Layout) (same : l ≡ format_layout base format height) where
    reads : superfine_read_of base format height x y first m ≡ four_at_of l x y first m
    unfolding superfine_read_of
    reads = pick_yes _ _ word ∙ ap (λ (k : Layout). four_at_of k x y first m) (sym same)

    pub corners_refused : (k : ℕ) → corners_of l x y ≡ refuses k → superfine_read_of base format height x y first m ≡ refuses k
    unfolding four_at_of corners_of
    corners_refused k told = reads ∙ passed l (four_inside l x y) _ k (four_inside l x y) _ (λ e. e) told

    pub corners_found :
        (right below across own : ℕ) → corners_of l x y ≡ gives (right ∷ below ∷ across ∷ own ∷ []) →
        superfine_read_of base format height x y first m ≡ four_of first m l.size right below across own
    unfolding four_at_of corners_of
    corners_found right below across own told =
        let g = given l (four_inside l x y)
        (address_of l (x + 1) y ∷ address_of l x (y + 1) ∷ address_of l (x + 1) (y + 1) ∷ address_of l x y ∷ []) (right ∷ below ∷ across ∷ own ∷ []) told in
        reads ∙ g.told _ ∙ sym (moved g.same)
      where
        moved :
            {a b c d a' b' c' d' : ℕ} → ◌≡◌ {A = List ℕ} (a ∷ b ∷ c ∷ d ∷ []) (a' ∷ b' ∷ c' ∷ d' ∷ []) →
            four_of first m l.size a b c d ≡ four_of first m l.size a' b' c' d'
        moved h = cc

-- the layout of base, format word and height, as the code reads its fields
pub layout_read :
    (base : ByteAddress) (format height pitch code size : ℕ) (tiled : Bool) → code ≡ code_of format → size ≡ size_of code →
    pitch ≡ pitch_of format → tiled ≡ tiled_of format →
    ◌≡◌ {A = Layout} (record { base = base; pitch = pitch; height = height; size = size; tiled = tiled }) (format_layout base.0 format height)
layout_read base format height pitch code size tiled ec es ep et = rw (ep, et, es, ec)

pub four_small : (base format code size : ℕ) → superfine_word base format ≡ true → code ≡ code_of format → size ≡ size_of code → size ≤ 4
four_small base format code size word ec es = rw (es, ec) (small_size base format word)
