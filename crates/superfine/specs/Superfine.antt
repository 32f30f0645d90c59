-- Document 01: "A superfine read is given base, format word and height, and gets 3 unless bit 17 is set and the code has one
-- channel. It asks (x+1, y), (x, y+1), (x+1, y+1), (x, y), in that order into channels 0 to 3; if one is outside (also where x or y
-- can't grow by 1), 10. It answers the four elements' bytes, channel by channel." Assumes nothing.
use Rattle.std.specs.Prelude.{Bool, List, [], ◌∷◌, ◌++◌, ℕ, ◌+◌, eqb, length}
use Rattle.laws.specs.Choice.{◌and◌, pick}
use Rattle.refusal.specs.Number.{number_of}
use Rattle.refusal.specs.Told.{Told, gives, refuses}
use Rattle.layout.specs.declared.Layout.{Layout}
use Rattle.address.specs.Address.{if_accepted, inside, address_of}
use Rattle.command.specs.Format.{pitch_of, tiled_of, superfine_of, code_of, size_of, channels_of}
use Rattle.command.specs.Kinds.{allowed}
use Rattle.command.specs.declared.kinds.Kind.TheVariants.{Base, Format}
use Rattle.memory.specs.Elements.{is_held, bytes_at}
use Rattle.superfine.specs.declared.corners.Corners.{Corners}
use Rattle.superfine.specs.declared.corners.Corners.TheVariants.{At, Refused}

-- base and word are allowed as in a command, "bit 17 is set and the code has one channel"
unfoldable pub superfine_word : ℕ → ℕ → Bool
superfine_word base format =
    allowed Base base and allowed Format format and superfine_of format and eqb (channels_of (code_of format)) 1

-- the layout that base, format word and height describe
abbrev pub format_layout : ℕ → ℕ → ℕ → Layout
format_layout base format height =
    record {
      base = record { 0 = base };
      pitch = pitch_of format;
      height = height;
      size = size_of (code_of format);
      tiled = tiled_of format;
    }

-- all four pairs are inside
unfoldable pub four_inside : Layout → ℕ → ℕ → Bool
four_inside l x y = inside l (x + 1) y and inside l x (y + 1) and inside l (x + 1) (y + 1) and inside l x y

-- elements of `s` bytes at four addresses: all held
unfoldable pub four_held : ℕ → ℕ → ℕ → ℕ → ℕ → ℕ → ℕ → Bool
four_held first n s right below across own =
    is_held first n right s and is_held first n below s and is_held first n across s and is_held first n own s

-- their bytes, "in that order into channels 0 to 3"
unfoldable pub four_bytes : ℕ → List ℕ → ℕ → ℕ → ℕ → ℕ → ℕ → List ℕ
four_bytes first m s right below across own =
    bytes_at first m right s ++ (bytes_at first m below s ++ (bytes_at first m across s ++ bytes_at first m own s))

-- the four elements, or 11 where memory isn't fit or doesn't hold all of each
unfoldable pub four_of : ℕ → List ℕ → ℕ → ℕ → ℕ → ℕ → ℕ → Told
four_of first m s right below across own =
    pick (four_held first (length m) s right below across own) (gives (four_bytes first m s right below across own)) (refuses 11)

-- the four elements of a layout, or 3, 6, 10 or 11: all four pairs are asked for 10 before any element is for 11
unfoldable pub four_at_of : Layout → ℕ → ℕ → ℕ → List ℕ → Told
four_at_of l x y first m =
    if_accepted l
    (pick (four_inside l x y)
    (four_of first m l.size (address_of l (x + 1) y) (address_of l x (y + 1)) (address_of l (x + 1) (y + 1)) (address_of l x y))
    (refuses 10))

unfoldable pub superfine_read_of : ℕ → ℕ → ℕ → ℕ → ℕ → ℕ → List ℕ → Told
superfine_read_of base format height x y first m =
    pick (superfine_word base format) (four_at_of (format_layout base format height) x y first m) (refuses 3)

-- the four addresses, or 3, 6 or 10
unfoldable pub corners_of : Layout → ℕ → ℕ → Told
corners_of l x y =
    if_accepted l
    (pick (four_inside l x y)
    (gives (address_of l (x + 1) y ∷ address_of l x (y + 1) ∷ address_of l (x + 1) (y + 1) ∷ address_of l x y ∷ []))
    (refuses 10))

-- what the answer tells, case by case
abbrev pub told_corners : Corners → Told
told_corners (At right below across own) = gives (right.0 ∷ below.0 ∷ across.0 ∷ own.0 ∷ [])
told_corners (Refused why) = refuses (number_of why)
