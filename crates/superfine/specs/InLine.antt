-- Four elements one after the other in a reading's 16 bytes, and a superfine read as four reads. Assumes nothing.
use Rattle.std.specs.Prelude.{◌≡◌, List, ◌++◌, ℕ, ◌+◌, ◌-◌, ◌*◌, ◌≤◌, min, length, replicate, take, drop}
use Rattle.refusal.specs.Told.{Told, gives, refuses}
use Rattle.memory.specs.Elements.{overwritten}

-- four parts of one length, with room for all of them in a reading
pub record FourAsked (a b c d : List ℕ) : Type 0 where
  pub small : length a ≤ 4
  pub second : length b ≡ length a
  pub third : length c ≡ length a
  pub fourth : length d ≡ length a

-- four places in lent memory, each of which has `n` bytes behind it
pub record PartsAsked (m : List ℕ) (n a b c d : ℕ) : Type 0 where
  pub few : n ≤ 4
  pub small : length m ≤ 65536
  pub first : a + n ≤ length m
  pub second : b + n ≤ length m
  pub third : c + n ≤ length m
  pub fourth : d + n ≤ length m

-- the `n` bytes from a place on, as a part of memory has them
abbrev pub part_at : List ℕ → ℕ → ℕ → List ℕ
part_at m n p = take (p + n - p) (drop p m)

-- the parts at four places, one after the other
abbrev pub four_parts : List ℕ → ℕ → ℕ → ℕ → ℕ → ℕ → List ℕ
four_parts m n a b c d = part_at m n a ++ (part_at m n b ++ (part_at m n c ++ part_at m n d))

-- 16 zeros with four parts of `n` bytes put in, one after the other
unfoldable pub in_line : ℕ → List ℕ → List ℕ → List ℕ → List ℕ → List ℕ
in_line n a b c d = overwritten (n * 3) d (overwritten (n * 2) c (overwritten n b (overwritten 0 a (replicate 16 0))))

-- two answers as one, as a superfine read joins its four: the bytes one after the other, or the refusal that comes first in order
unfoldable pub joined : Told → Told → Told
joined (gives v) (gives w) = gives (v ++ w)
joined (gives v) (refuses n) = refuses n
joined (refuses m) (gives w) = refuses m
joined (refuses m) (refuses n) = refuses (min m n)
