-- Where each range that settling by words keeps off comes from: a user's line, a device that is left out, or a bridge of the dump.
use Rattle.std.proofs.Common.{◌≡◌, ◌==◌, ◌⊎◌, ℕ, zero, suc, inl, inr, Bool, true, false, List, [], ◌∷◌, ◌++◌, map, sym, ◌∙◌, ap, subst, Option, None, Some}
use Rattle.std.specs.Prelude.{nat_le, if◌then◌else◌}
use Rattle.std.specs.List.{Contains, filter, flat_map}
use Rattle.pci_spec.specs.Decoded.{DecodedRom, Record, record_of}
use Rattle.pci_spec.specs.Slot.{Slot}
use Rattle.pci_spec.specs.System.{Function, Memory, System, system_of}
use Rattle.pci_spec.specs.Text.{Block}
use Rattle.pci_spec.proofs.Members.{in_cons_cases, in_filter_to, in_flat_map_to, in_head, in_map_to, in_nil, in_tail}
use Rattle.judge_spec.specs.Given.{LegacyBridge}
use Rattle.judge_spec.specs.Told.{Command, Held, ToldRange}
use Rattle.judge_spec.specs.Words.{VgaWord, has_legacy, has_palette, legacy_bridge, palette_word}
use Rattle.pci_base.specs.declared.range.Range.{Range}
use Rattle.pci_claims.specs.Legacy.{blocks_of, palette_high, palette_low, vga_high, vga_low}
use Rattle.pci_claims.specs.declared.legacy.FixedPart.{FixedPart}
use Rattle.pci_claims.specs.declared.legacy.FixedPart.TheVariants.{Legacy, Palette}
use Rattle.pci_model.specs.declared.words.Words.{Words}
use Rattle.pci_model_settle.specs.ClaimLines.{Line, claim_line, held, line_key, lines_with, merged_by_key, own_lines, part_lines, port_lines, ports_of_kb, told_line_of, told_lines}
use Rattle.pci_model_settle.specs.OffDevices.{ShownPart, device_lines, lines_of, lines_of_part, part_line, shown_bar_part, shown_parts, shown_rom}
use Rattle.pci_model_settle.specs.Unmoved.{is_among}
use Rattle.pciplan_tasks.specs.FaultsAnswers.{legacy_by, palette_by, snoop_of, vga_of}
use Rattle.pciplan_tasks.specs.WordsSettling.{claims_by}

-- ---- the three

-- its slot and its mark are those of a range that the user tells
pub record IsUsers (ranges : List ToldRange) (r : ToldRange) : Type 0 where
  pub range : ToldRange
  pub listed : Contains ranges range
  pub slot : r.slot ≡ range.slot
  pub mark : r.mark ≡ range.mark

-- a function of a system answers it by its Command
pub record IsDevices (t : System) (r : ToldRange) : Type 0 where
  pub f : Function
  pub listed : Contains t f
  pub slot : r.slot ≡ f.slot
  pub mark : r.mark ≡ Command

-- it is held at the slot of a function of a system
pub record IsBridges (t : System) (r : ToldRange) : Type 0 where
  pub f : Function
  pub listed : Contains t f
  pub slot : r.slot ≡ f.slot
  pub mark : r.mark ≡ Held

-- ---- lists

append_cases : {X : Type 0} (xs ys : List X) (z : X) → Contains (xs ++ ys) z → Contains xs z ⊎ Contains ys z
append_cases [] ys z has = inr has
append_cases (x ∷ xs) ys z has = elim (in_cons_cases x (xs ++ ys) z has) [
  | inl is ↦ inl (subst (Contains (x ∷ xs)) is (in_head x xs))
  | inr more ↦ elim (append_cases xs ys z more) [ inl one ↦ inl (in_tail x xs z one) | inr other ↦ inr other ]
]

either_cases : {X : Type 0} (first : Bool) (x y z : X) (xs ys : List X) → Contains (if first then x ∷ xs else y ∷ ys) z → Contains (x ∷ xs) z ⊎ Contains (y ∷ ys) z
either_cases true x y z xs ys has = inl has
either_cases false x y z xs ys has = inr has

merged_cases : {X : Type 0} (key : X → ℕ) (xs ys : List X) (z : X) → Contains (merged_by_key key xs ys) z → Contains xs z ⊎ Contains ys z
merged_cases key [] ys z has = inr has
merged_cases key (x ∷ xs) [] z has = inl has
merged_cases key (x ∷ xs) (y ∷ ys) z has = elim (either_cases (nat_le (key x) (key y)) x y z (merged_by_key key xs (y ∷ ys)) (merged_by_key key (x ∷ xs) ys) has) [
  | inl one ↦ elim (in_cons_cases x (merged_by_key key xs (y ∷ ys)) z one) [
    | inl is ↦ inl (subst (Contains (x ∷ xs)) is (in_head x xs))
    | inr more ↦ elim (merged_cases key xs (y ∷ ys) z more) [ inl first ↦ inl (in_tail x xs z first) | inr second ↦ inr second ]
  ]
  | inr other ↦ elim (in_cons_cases y (merged_by_key key (x ∷ xs) ys) z other) [
    | inl is ↦ inr (subst (Contains (y ∷ ys)) is (in_head y ys))
    | inr more ↦ elim (merged_cases key (x ∷ xs) ys z more) [ inl first ↦ inl first | inr second ↦ inr (in_tail y ys z second) ]
  ]
]

-- what is in a list where it is, or in none
where_so : {X : Type 0} (so : Bool) (xs : List X) (z : X) → Contains (if so then xs else []) z → Contains xs z
where_so true xs z has = has
where_so false xs z has = absurd (in_nil z has)

where_not : {X : Type 0} (so : Bool) (xs : List X) (z : X) → Contains (if so then [] else xs) z → Contains xs z
where_not true xs z has = absurd (in_nil z has)
where_not false xs z has = has

only : {X : Type 0} (x z : X) → Contains (x ∷ []) z → x ≡ z
only x z has = elim (in_cons_cases x [] z has) [ inl is ↦ is | inr more ↦ absurd (in_nil z more) ]

-- ---- a user's lines

users_line : (n : ℕ) (ranges : List ToldRange) (l : Line) → Contains (told_lines n ranges) l → IsUsers ranges l.range
users_line n [] l has = absurd (in_nil l has)
users_line n (r ∷ ranges) l has = elim (in_cons_cases (told_line_of n r) (told_lines (suc n) ranges) l has) [
  | inl is ↦ record { range = r; listed = in_head r ranges; slot = ap (λ (x : Line). x.range.slot) (sym is); mark = ap (λ (x : Line). x.range.mark) (sym is) }
  | inr more ↦
      let later = users_line (suc n) ranges l more in
      record { range = later.range; listed = in_tail r ranges later.range later.listed; slot = later.slot; mark = later.mark }
]

-- ---- lines of devices

rom_slot : (slot : Slot) (rom : Option DecodedRom) (part : ShownPart) → Contains (shown_rom slot rom) part → part.slot ≡ slot
rom_slot slot None part has = absurd (in_nil part has)
rom_slot slot (Some rom) part has = ap (λ (p : ShownPart). p.slot) (sym (only _ part (where_so rom.on _ part has)))

part_slot : (d : Record) (part : ShownPart) → Contains (shown_parts d) part → part.slot ≡ d.slot
part_slot d part has = elim (append_cases (map (shown_bar_part d.slot) d.bars) (shown_rom d.slot d.rom) part has) [
  | inl bar ↦ (let made = in_map_to (shown_bar_part d.slot) d.bars part bar in ap (λ (p : ShownPart). p.slot) (sym made.is))
  | inr rom ↦ rom_slot d.slot d.rom part rom
]

devices_line : (left : List Slot) (t : System) (l : Line) → Contains (device_lines left t) l → IsDevices t l.range
devices_line left t l has =
    let found = in_flat_map_to (lines_of left) (map record_of t) l has in
    let made = in_map_to record_of t found.of found.has in
    let shown = in_flat_map_to lines_of_part (shown_parts found.of) l (where_so (is_among left found.of.slot) (flat_map lines_of_part (shown_parts found.of)) l found.piece) in
    let is : part_line shown.of ≡ l = only (part_line shown.of) l (where_not (shown.of.range.first == 0) (part_line shown.of ∷ []) l shown.piece) in
    record {
      f = made.from;
      listed = made.has;
      slot = ap (λ (x : Line). x.range.slot) (sym is) ∙ part_slot found.of shown.of shown.has ∙ ap (λ (d : Record). d.slot) (sym made.is);
      mark = ap (λ (x : Line). x.range.mark) (sym is);
    }

-- ---- held ranges of bridges

-- it is held at a slot
record IsHeldAt (slot : Slot) (r : ToldRange) : Type 0 where
  at : r.slot ≡ slot
  mark : r.mark ≡ Held

ports_held : (slot : Slot) (low high : Range) (n : ℕ) (r : ToldRange) → Contains (port_lines slot low high n) r → IsHeldAt slot r
ports_held slot low high zero r has = absurd (in_nil r has)
ports_held slot low high (suc n) r has = elim (append_cases (port_lines slot low high n) (ports_of_kb slot n low ∷ ports_of_kb slot n high ∷ []) r has) [
  | inl earlier ↦ ports_held slot low high n r earlier
  | inr two ↦ elim (in_cons_cases (ports_of_kb slot n low) (ports_of_kb slot n high ∷ []) r two) [
    | inl is ↦ record { at = ap (λ (x : ToldRange). x.slot) (sym is); mark = ap (λ (x : ToldRange). x.mark) (sym is) }
    | inr one ↦ (let is = only (ports_of_kb slot n high) r one in record { at = ap (λ (x : ToldRange). x.slot) (sym is); mark = ap (λ (x : ToldRange). x.mark) (sym is) })
  ]
]

part_held : (part : FixedPart) (b : LegacyBridge) (r : ToldRange) → Contains (part_lines part b) r → IsHeldAt b.slot r
part_held Legacy b r has = elim (append_cases (port_lines b.slot vga_low vga_high (blocks_of b.is_wide)) (held b.slot Memory 0xa0000 0xbffff ∷ []) r has) [
  | inl ports ↦ ports_held b.slot vga_low vga_high (blocks_of b.is_wide) r ports
  | inr frame ↦ (let is = only (held b.slot Memory 0xa0000 0xbffff) r frame in record { at = ap (λ (x : ToldRange). x.slot) (sym is); mark = ap (λ (x : ToldRange). x.mark) (sym is) })
]
part_held Palette b r has = ports_held b.slot palette_low palette_high (blocks_of b.is_wide) r has

-- a bridge at the slot of a function
record IsFunctions (t : System) (b : LegacyBridge) : Type 0 where
  f : Function
  listed : Contains t f
  slot : b.slot ≡ f.slot

abbrev AreFunctions : System → List LegacyBridge → Type 0
AreFunctions t bridges = (b : LegacyBridge) → Contains bridges b → IsFunctions t b

parts_held : (t : System) (part : FixedPart) (bridges : List LegacyBridge) → AreFunctions t bridges → (r : ToldRange) → Contains (flat_map (part_lines part) bridges) r → IsBridges t r
parts_held t part bridges are r has =
    let found = in_flat_map_to (part_lines part) bridges r has in
    let of = are found.of found.has in
    let is = part_held part found.of r found.piece in
    record { f = of.f; listed = of.listed; slot = is.at ∙ of.slot; mark = is.mark }

module _ (t : System) where
  of_word : (word : VgaWord) (p : Function → Bool) → AreFunctions t (map (legacy_bridge word) (filter p t))
  of_word word p b has =
      let made = in_map_to (legacy_bridge word) (filter p t) b has in
      record { f = made.from; listed = (in_filter_to p t made.from made.has).0; slot = ap (λ (x : LegacyBridge). x.slot) (sym made.is) }

  legacy_are : (word : Option VgaWord) → AreFunctions t (legacy_by word t)
  legacy_are None b has = absurd (in_nil b has)
  legacy_are (Some word) b has = of_word word has_legacy b has

  palette_are : (counts : Bool) (word : Option VgaWord) → AreFunctions t (palette_by counts word t)
  palette_are true word b has = of_word (palette_word word) has_palette b has
  palette_are false word b has = absurd (in_nil b has)

bridges_line : (w : Words) (dump : List Block) (r : ToldRange) → Contains (claims_by w dump) r → IsBridges (system_of dump dump) r
bridges_line w dump r has =
    let t = system_of dump dump in
    let legacy = legacy_by (vga_of (Some w)) t in
    let palette = palette_by (snoop_of (Some w)) (vga_of (Some w)) t in
    elim (merged_cases _ (flat_map (part_lines Legacy) legacy) (flat_map (part_lines Palette) palette) r has) [
      | inl one ↦ parts_held t Legacy legacy (legacy_are t (vga_of (Some w))) r one
      | inr other ↦ parts_held t Palette palette (palette_are t (snoop_of (Some w)) (vga_of (Some w))) r other
    ]

-- ---- all of them

pub line_source : (ranges : List ToldRange) (left : List Slot) (t : System) (w : Words) (dump : List Block) (r : ToldRange)
    → Contains (lines_with (own_lines ranges (device_lines left t)) (claims_by w dump)) r → IsUsers ranges r ⊎ (IsDevices t r ⊎ IsBridges (system_of dump dump) r)
line_source ranges left t w dump r has =
    let own = own_lines ranges (device_lines left t) in
    let claims = map claim_line (claims_by w dump) in
    let made = in_map_to (λ (l : Line). l.range) (merged_by_key line_key own claims) r has in
    elim (merged_cases line_key own claims made.from made.has) [
      | inl line ↦ elim (merged_cases line_key (told_lines 1 ranges) (device_lines left t) made.from line) [
        | inl user ↦ inl (subst (IsUsers ranges) made.is (users_line 1 ranges made.from user))
        | inr device ↦ inr (inl (subst (IsDevices t) made.is (devices_line left t made.from device)))
      ]
      | inr claim ↦
          let claimed = in_map_to claim_line (claims_by w dump) made.from claim in
          let is : claimed.from ≡ r = ap (λ (l : Line). l.range) claimed.is ∙ made.is in
          inr (inr (subst (IsBridges (system_of dump dump)) is (bridges_line w dump claimed.from claimed.has)))
    ]
