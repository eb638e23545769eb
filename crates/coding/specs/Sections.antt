-- Sections: bytes or bits, each after its count. A packed list is five of them.
-- Assumes nothing.
use Rattle.std.specs.Prelude.{Bool, true, false, ◌&&◌, List, [], ◌∷◌, ◌++◌, ℕ, ◌+◌, ◌/◌, eqb, leb, length, take, drop}
use Rattle.coding.specs.Bytes.{word, number}
use Rattle.coding.specs.Bits.{pack_bits, all_bits}
use Rattle.coding.specs.Lists.{list_limit, Parts, parts_of, entries_of}

unfoldable pub byte_section : List ℕ → List ℕ
byte_section s = word (length s) ++ s

unfoldable pub bit_section : List Bool → List ℕ
bit_section l = word (length l) ++ pack_bits l

-- the five parts, each as a section
unfoldable pub sections_of : Parts → List ℕ
sections_of p =
    byte_section p.first ++ (bit_section p.more ++ (byte_section p.second ++ (bit_section p.again ++ byte_section p.third)))

-- a list, packed
unfoldable pub packed : List ℕ → List ℕ
packed l = sections_of (parts_of l)

-- ---- and back: what the section that bytes start with says, and what stands behind it

unfoldable pub bytes_at : List ℕ → List ℕ
bytes_at s = take (number s) (drop 4 s)

unfoldable pub after_bytes : List ℕ → List ℕ
after_bytes s = drop (4 + number s) s

unfoldable pub bits_at : List ℕ → List Bool
bits_at s = take (number s) (all_bits (drop 4 s))

unfoldable pub after_bits : List ℕ → List ℕ
after_bits s = drop (4 + (number s + 7) / 8) s

-- the five parts that bytes start with
unfoldable pub parts_at : List ℕ → Parts
parts_at s = record {
  first = bytes_at s;
  more = bits_at (after_bytes s);
  second = bytes_at (after_bits (after_bytes s));
  again = bits_at (after_bytes (after_bits (after_bytes s)));
  third = bytes_at (after_bits (after_bytes (after_bits (after_bytes s))));
}

-- the list that bytes start with
unfoldable pub list_at : List ℕ → List ℕ
list_at s = entries_of (parts_at s)

-- the same bytes
unfoldable pub same : List ℕ → List ℕ → Bool
same [] [] = true
same [] (y ∷ t) = false
same (x ∷ s) [] = false
same (x ∷ s) (y ∷ t) = eqb x y && same s t

-- whether s starts with t
unfoldable pub starts : List ℕ → List ℕ → Bool
starts s t = same t (take (length t) s)

-- whether bytes start with a section of bytes, a section of bits, a packed list: what they say, stored again, is what they start with
unfoldable pub starts_bytes : List ℕ → Bool
starts_bytes s = starts s (byte_section (bytes_at s))

unfoldable pub starts_bits : List ℕ → Bool
starts_bits s = starts s (bit_section (bits_at s))

unfoldable pub starts_list : List ℕ → Bool
starts_list s = starts s (packed (list_at s))

-- whether bytes are one section of bits, and nothing behind it
unfoldable pub is_bit_section : List ℕ → Bool
is_bit_section s = same (bit_section (bits_at s)) s

-- whether bytes are a packed list that is short enough, and nothing behind it
unfoldable pub is_list : List ℕ → Bool
is_list s = same (packed (list_at s)) s && leb (length (list_at s)) list_limit
