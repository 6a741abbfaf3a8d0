-- The addresses of the lines of a bridge's part.
use Rattle.std.proofs.Common.{◌≡◌, ℕ, zero, suc, ◌+◌, ◌*◌, ◌<◌, ◌≤◌, ◌⊎◌, inl, inr, List, [], ◌∷◌, ◌++◌, Bool, true, false, ◌&&◌, map, arith, refl, sym, ◌∙◌, ap, subst}
use Rattle.std.specs.Prelude.{nat_le, ◌↔◌, IsTrue}
use Rattle.std.specs.List.{Any}
use Rattle.std.proofs.lemmas.Bool.{and_parts, and_from, leb-true, le-leb}
use Rattle.std.proofs.lemmas.List.{append_assoc, map_push}
use Rattle.pci_spec.specs.Slot.{Slot}
use Rattle.pci_spec.specs.System.{Space, Io, Memory}
use Rattle.pci_base.specs.declared.range.Range.{Range}
use Rattle.pci_tree.specs.Ranges as of_ranges
use Rattle.judge_spec.specs.Given.{LegacyBridge}
use Rattle.judge_spec.specs.Told.{ToldRange}
use Rattle.judge_spec.specs.ToldClaims.{Holds}
use Rattle.pci_claims.specs.declared.legacy.FixedPart.{FixedPart}
use Rattle.pci_claims.specs.declared.legacy.FixedPart.TheVariants.{Legacy, Palette}
use Rattle.pci_claims.specs.Legacy.{ArePorts, blocks_of, vga_low, vga_high, palette_low, palette_high, part_holds}
use Rattle.pci_claims.proofs.Pieces.{no_ports, more_ports, pieces_of_palette, vga_pieces}
use Rattle.pci_model_settle.specs.ClaimLines.{HasRangeWithAddress, held, part_lines, port_lines}

-- ---- some of a list

abbrev Some : {X : Type 0} → (X → Type 0) → List X → Type 0
Some P [] = ⊥
Some P (x ∷ xs) = P x ⊎ Some P xs

to_any : {X : Type 0} (P : X → Type 0) (xs : List X) → Some P xs → Any P xs
to_any P [] h = absurd h
to_any P (x ∷ xs) (inl h) = (0, x, omega arith, refl, h)
to_any P (x ∷ xs) (inr h) = let one = to_any P xs h in (suc one.0, one.1, (let within = one.2 in omega (arith, within)), one.3, one.4)

from_any : {X : Type 0} (P : X → Type 0) (xs : List X) → Any P xs → Some P xs
from_any P [] (k, y, within, at, h) = absurd (let no : ⊥ = omega (arith, within) in no)
from_any P (x ∷ xs) (zero, y, within, at, h) = inl (subst P (sym at) h)
from_any P (x ∷ xs) (suc k, y, within, at, h) = inr (from_any P xs (k, y, omega (arith, within), at, h))

some_front : {X : Type 0} (P : X → Type 0) (xs ys : List X) → Some P xs → Some P (xs ++ ys)
some_front P [] ys h = absurd h
some_front P (x ∷ xs) ys (inl h) = inl h
some_front P (x ∷ xs) ys (inr h) = inr (some_front P xs ys h)

some_back : {X : Type 0} (P : X → Type 0) (xs ys : List X) → Some P ys → Some P (xs ++ ys)
some_back P [] ys h = h
some_back P (x ∷ xs) ys h = inr (some_back P xs ys h)

some_parts : {X : Type 0} (P : X → Type 0) (xs ys : List X) → Some P (xs ++ ys) → Some P xs ⊎ Some P ys
some_parts P [] ys h = inr h
some_parts P (x ∷ xs) ys (inl h) = inl (inl h)
some_parts P (x ∷ xs) ys (inr h) = elim (some_parts P xs ys h) [ inl before ↦ inl (inr before) | inr behind ↦ inr behind ]

-- ---- ports

abbrev port_line : Slot → Range → ToldRange
port_line slot r = held slot Io r.first r.last

abbrev kb_range : ℕ → Range → Range
kb_range kb r = record { first = kb * 0x400 + r.first; last = kb * 0x400 + r.last }

abbrev kb_ranges : Range → Range → ℕ → List Range
kb_ranges low high zero = []
kb_ranges low high (suc kb) = (kb_ranges low high kb ++ kb_range kb low ∷ []) ++ kb_range kb high ∷ []

lines_of_ranges : (slot : Slot) (low high : Range) (kb : ℕ) → port_lines slot low high kb ≡ map (port_line slot) (kb_ranges low high kb)
lines_of_ranges slot low high zero = refl
lines_of_ranges slot low high (suc kb) =
    let ranges = kb_ranges low high kb in
    let v = kb_range kb low in
    let w = kb_range kb high in
    ap (λ ls. ls ++ port_line slot v ∷ port_line slot w ∷ []) (lines_of_ranges slot low high kb)
    ∙ sym (append_assoc (map (port_line slot) ranges) (port_line slot v ∷ []) (port_line slot w ∷ []))
    ∙ sym (map_push (port_line slot) (ranges ++ v ∷ []) w ∙ ap (λ ls. ls ++ port_line slot w ∷ []) (map_push (port_line slot) ranges v))

module _ (slot : Slot) (a : ℕ) where
  ports_to : (rs : List Range) → Some (λ r. Holds r Io a) (map (port_line slot) rs) → Some (λ r. of_ranges.Holds r a) rs
  ports_to [] h = absurd h
  ports_to (r ∷ rs) (inl h) = inl (h.1, h.2)
  ports_to (r ∷ rs) (inr h) = inr (ports_to rs h)

  ports_from : (rs : List Range) → Some (λ r. of_ranges.Holds r a) rs → Some (λ r. Holds r Io a) (map (port_line slot) rs)
  ports_from [] h = absurd h
  ports_from (r ∷ rs) (inl h) = inl (refl, h.0, h.1)
  ports_from (r ∷ rs) (inr h) = inr (ports_from rs h)

  no_memory : (rs : List Range) → Some (λ r. Holds r Memory a) (map (port_line slot) rs) → ⊥
  no_memory [] h = h
  no_memory (r ∷ rs) (inl h) = let no : Io ≡ Memory = h.0 in cc
  no_memory (r ∷ rs) (inr h) = no_memory rs h

  module _ (low high : Range) (kb : ℕ) where
    covered : Some (λ r. Holds r Io a) (port_lines slot low high kb) → of_ranges.Covers (kb_ranges low high kb) a
    covered h =
        to_any (λ r. of_ranges.Holds r a) (kb_ranges low high kb)
        (ports_to (kb_ranges low high kb) (subst (Some (λ r. Holds r Io a)) (lines_of_ranges slot low high kb) h))

    covering : of_ranges.Covers (kb_ranges low high kb) a → Some (λ r. Holds r Io a) (port_lines slot low high kb)
    covering h =
        subst (Some (λ r. Holds r Io a)) (sym (lines_of_ranges slot low high kb))
        (ports_from (kb_ranges low high kb) (from_any (λ r. of_ranges.Holds r a) (kb_ranges low high kb) h))

    none_in_memory : Some (λ r. Holds r Memory a) (port_lines slot low high kb) → ⊥
    none_in_memory h = no_memory (kb_ranges low high kb) (subst (Some (λ r. Holds r Memory a)) (lines_of_ranges slot low high kb) h)

module _ (low high : Range) (lawful : low.first ≤ low.last) (apart : low.last + 1 < high.first) (rise : high.first ≤ high.last) (end : high.last < 0x3ff) where
  are_ports : (kb : ℕ) → ArePorts kb low high (kb_ranges low high kb)
  are_ports zero = no_ports low high
  are_ports (suc kb) =
      let e : kb + 1 ≡ suc kb = omega arith in
      let before = kb_ranges low high kb in
      let v = kb_range kb low in
      let w = kb_range kb high in
      subst (λ n. ArePorts n low high ((before ++ v ∷ []) ++ w ∷ [])) e
      (more_ports low high lawful apart rise end kb before (before ++ v ∷ []) ((before ++ v ∷ []) ++ w ∷ []) v w (are_ports kb) refl refl refl refl refl refl)

-- ---- each part

legacy_ports : (is_wide : Bool) (a : ℕ) → of_ranges.Covers (kb_ranges vga_low vga_high (blocks_of is_wide)) a ↔ IsTrue (part_holds Legacy is_wide Io a)
legacy_ports is_wide a =
    (vga_pieces is_wide (kb_ranges vga_low vga_high (blocks_of is_wide))
    (are_ports vga_low vga_high (omega arith) (omega arith) (omega arith) (omega arith) (blocks_of is_wide))).exact a

palette_ports : (is_wide : Bool) (a : ℕ) → of_ranges.Covers (kb_ranges palette_low palette_high (blocks_of is_wide)) a ↔ IsTrue (part_holds Palette is_wide Io a)
palette_ports is_wide a =
    (pieces_of_palette is_wide (kb_ranges palette_low palette_high (blocks_of is_wide))
    (are_ports palette_low palette_high (omega arith) (omega arith) (omega arith) (omega arith) (blocks_of is_wide))).exact a

frame_in : (a : ℕ) → IsTrue (nat_le 0xa0000 a && nat_le a 0xbffff) → (0xa0000 ≤ a) × (a ≤ 0xbffff)
frame_in a h = let both = and_parts (nat_le 0xa0000 a) (nat_le a 0xbffff) h in (leb-true _ _ both.0, leb-true _ _ both.1)

in_frame : (a : ℕ) → 0xa0000 ≤ a → a ≤ 0xbffff → IsTrue (nat_le 0xa0000 a && nat_le a 0xbffff)
in_frame a low high = and_from (nat_le 0xa0000 a) (nat_le a 0xbffff) (le-leb _ _ low) (le-leb _ _ high)

some_held : (part : FixedPart) (b : LegacyBridge) (space : Space) (a : ℕ) → Some (λ r. Holds r space a) (part_lines part b) → IsTrue (part_holds part b.is_wide space a)
some_held Legacy b Io a h =
    elim (some_parts (λ r. Holds r Io a) (port_lines b.slot vga_low vga_high (blocks_of b.is_wide)) (held b.slot Memory 0xa0000 0xbffff ∷ []) h) [
      | inl port ↦ (legacy_ports b.is_wide a).0 (covered b.slot a vga_low vga_high (blocks_of b.is_wide) port)
      | inr frame ↦ elim frame [ inl one ↦ (let no : Memory ≡ Io = one.0 in absurd cc) | inr none ↦ absurd none ]
    ]
some_held Legacy b Memory a h =
    elim (some_parts (λ r. Holds r Memory a) (port_lines b.slot vga_low vga_high (blocks_of b.is_wide)) (held b.slot Memory 0xa0000 0xbffff ∷ []) h) [
      | inl port ↦ absurd (none_in_memory b.slot a vga_low vga_high (blocks_of b.is_wide) port)
      | inr frame ↦ elim frame [ inl one ↦ in_frame a one.1 one.2 | inr none ↦ absurd none ]
    ]
some_held Palette b Io a h = (palette_ports b.is_wide a).0 (covered b.slot a palette_low palette_high (blocks_of b.is_wide) h)
some_held Palette b Memory a h = absurd (none_in_memory b.slot a palette_low palette_high (blocks_of b.is_wide) h)

held_some : (part : FixedPart) (b : LegacyBridge) (space : Space) (a : ℕ) → IsTrue (part_holds part b.is_wide space a) → Some (λ r. Holds r space a) (part_lines part b)
held_some Legacy b Io a h =
    some_front (λ r. Holds r Io a) (port_lines b.slot vga_low vga_high (blocks_of b.is_wide)) (held b.slot Memory 0xa0000 0xbffff ∷ [])
    (covering b.slot a vga_low vga_high (blocks_of b.is_wide) ((legacy_ports b.is_wide a).1 h))
held_some Legacy b Memory a h =
    some_back (λ r. Holds r Memory a) (port_lines b.slot vga_low vga_high (blocks_of b.is_wide)) (held b.slot Memory 0xa0000 0xbffff ∷ [])
    (let both = frame_in a h in inl (refl, both.0, both.1))
held_some Palette b Io a h = covering b.slot a palette_low palette_high (blocks_of b.is_wide) ((palette_ports b.is_wide a).1 h)
held_some Palette b Memory a h = absurd (let no : false ≡ true = h in cc)

pub addresses_of_part : (part : FixedPart) (b : LegacyBridge) (space : Space) (a : ℕ) → HasRangeWithAddress (part_lines part b) space a ↔ IsTrue (part_holds part b.is_wide space a)
addresses_of_part part b space a = (
  λ h. some_held part b space a (from_any (λ r. Holds r space a) (part_lines part b) h),
  λ h. to_any (λ r. Holds r space a) (part_lines part b) (held_some part b space a h),
)
