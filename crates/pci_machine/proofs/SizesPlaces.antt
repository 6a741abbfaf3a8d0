-- Which bytes may stand at a place of a block.
use Rattle.std.proofs.Common.{◌≡◌, ◌≢◌, ℕ, ◌+◌, ◌-◌, ◌*◌, ◌/◌, ◌<◌, ◌≤◌, ◌==◌, List, [], ◌++◌, length, take, get_or, map, refl, cond, sym, ◌∙◌, ap, subst, arith, inl, inr, append-nil}
use Rattle.std.specs.Bool.{nat_lt}
use Rattle.std.proofs.lemmas.Bool.{cases_lt, ne_eqb, le-ltb, cond-false}
use Rattle.std.proofs.lemmas.List.{get_or-map, take_all, take-take}
use Rattle.pci_spec.specs.Slot.{IsRising}
use Rattle.pci_spec.specs.Text.{TextFault, BadSlot, BadLine, NoBlank, Order, Ended}
use Rattle.pci_spec.specs.Form.{Cell, Fixed, Digit, Takes, Fits, slot_cells}
use Rattle.pci_spec.specs.SizesText.{SizesBlock, IsSizes, sizes_text_of, IsSizesFaultOf}
use Rattle.pci_spec.specs.SizesForm.{lines_cells, sizes_cells}
use Rattle.pci_spec.specs.SizesStops.{cell_at, ends_before, SlotFollows, SlotIsLow}
use Rattle.pci_spec.proofs.Cells.{fits_first}
use Rattle.pci_spec.proofs.SizesTexts.{cells_long, sizes_in}
use Rattle.pci_spec.proofs.SizesFaults.{slot_of_part, slots_with, fault_slot, fault_line, fault_blank, fault_ended, fault_order}
use Rattle.pci_dump.specs.declared.read_fault.ReadFault.TheVariants as faults
use Rattle.pci_machine.specs.SizesFault.{IsSizesFaultAfter, IsNoBlockAfter}
use Rattle.pci_machine.specs.declared.sizes_fault.TheConstants.{GREATEST}

-- the cell in which the greatest block has a byte
abbrev pub cell_of : ℕ → Cell
cell_of c = cond (c == 102) (Digit 15) (cond (c == 55) (Digit 7) (cond (c == 49) (Digit 1) (Fixed c)))

all_cells : map cell_of GREATEST ≡ sizes_cells
unfolding sizes_cells lines_cells
all_cells = refl

pub cell_is : (place : ℕ) → place < 408 → cell_at place ≡ cell_of (get_or GREATEST place 0)
cell_is place within = ap (λ (cells : List Cell). get_or cells place (Fixed 0)) (sym all_cells) ∙ get_or-map cell_of GREATEST place 0 (Fixed 0) within

pub fixed_is : (c : ℕ) → c ≢ 102 → c ≢ 55 → c ≢ 49 → cell_of c ≡ Fixed c
fixed_is c f seven one =
    cond-false (c == 102) (Digit 15) (cond (c == 55) (Digit 7) (cond (c == 49) (Digit 1) (Fixed c))) (ne_eqb c 102 f)
    ∙ cond-false (c == 55) (Digit 7) (cond (c == 49) (Digit 1) (Fixed c)) (ne_eqb c 55 seven)
    ∙ cond-false (c == 49) (Digit 1) (Fixed c) (ne_eqb c 49 one)

-- ---- the fault at the first place that is wrong

pub slot_fits : (bytes : List ℕ) (place : ℕ) → 7 ≤ place → Fits (take place sizes_cells) (take place bytes) → Fits slot_cells (take 7 bytes)
unfolding sizes_cells
slot_fits bytes place whole fits =
    subst (λ (t : List ℕ). Fits slot_cells t) (take-take 7 place bytes whole)
    (subst (λ (cs : List Cell). Fits cs (take 7 (take place bytes))) (take-take 7 place sizes_cells whole) (fits_first 7 (take place sizes_cells) (take place bytes) fits))

later_ends : (place : ℕ) → 8 ≤ place → ends_before place ≡ 1 + (place - 8) / 57
later_ends place late = cond-false (nat_lt place 8) 0 (1 + (place - 8) / 57) (le-ltb place 8 late)

module _ (blocks : List SizesBlock) (bytes : List ℕ) (sizes : IsSizes blocks) (room : length blocks < 4096) where
  -- not all bytes of a block are right
  pub place_within : (place : ℕ) → place ≤ length bytes → length bytes ≤ 408 → Fits (take place sizes_cells) (take place bytes) → SlotFollows blocks bytes place → IsNoBlockAfter blocks bytes → place < 408
  place_within place within few fits follows none = elim (cases_lt place 408) [
    | inl less ↦ less
    | inr whole ↦
        let long = cells_long in
        let all : Fits sizes_cells bytes =
        subst (λ (cs : List Cell). Fits cs bytes) (take_all place sizes_cells (omega (arith, long, whole)))
        (subst (λ (t : List ℕ). Fits (take place sizes_cells) t) (take_all place bytes (omega (arith, whole, few))) fits) in
        let b = sizes_in bytes all in
        let s = follows (omega (arith, whole)) in
        let same = slot_of_part bytes [] b.block s.0 (append-nil bytes ∙ b.text) (omega (arith, whole, within)) s.1 in
        absurd (none b.block b.holds b.text (subst IsRising (sym (slots_with blocks b.block s.0 same)) s.2))
  ]

  at_line : (more : List ℕ) (fault : ℕ → TextFault) (a b : ℕ) → a ≡ b → IsSizesFaultOf (sizes_text_of blocks ++ (bytes ++ more)) (fault a) → IsSizesFaultOf (sizes_text_of blocks ++ (bytes ++ more)) (fault b)
  at_line more fault a b e h = subst (λ (n : ℕ). IsSizesFaultOf (sizes_text_of blocks ++ (bytes ++ more)) (fault n)) e h

  pub order_here : (place : ℕ) → place ≤ length bytes → SlotIsLow blocks bytes place → IsSizesFaultAfter blocks bytes (faults.Order (9 * length blocks + 1))
  order_here place within l more _ =
      let whole = l.whole in
      at_line more Order (9 * length blocks + 0 + 1) (9 * length blocks + 1) (omega arith) (fault_order blocks bytes more l.slot sizes room l.is_slot (omega (arith, whole, within)) l.text l.low)

  module _ (place line : ℕ) (within : place < 408) (fits : Fits (take place sizes_cells) (take place bytes)) (follows : SlotFollows blocks bytes place) (is : line ≡ 9 * length blocks + 1 + ends_before place) where
    line_is : 9 * length blocks + ends_before place + 1 ≡ line
    line_is = let e = ends_before place in omega (arith, is)

    pub ended_here : place ≡ length bytes → 1 ≤ length bytes → IsSizesFaultAfter blocks bytes (faults.Ended line)
    ended_here all some more end =
        let none : more ≡ [] = elim end [ inl whole ↦ absurd (let no : ⊥ = omega (arith, whole, all, some, within) in no) | inr none ↦ none ] in
        let here = fault_ended blocks bytes place sizes room within fits (sym all) (omega (arith, all, some)) follows in
        subst (λ (n : ℕ). IsSizesFaultOf (sizes_text_of blocks ++ (bytes ++ more)) (Ended n)) line_is
        (subst (λ (t : List ℕ). IsSizesFaultOf (sizes_text_of blocks ++ t) (Ended (9 * length blocks + ends_before place + 1))) (sym (append-nil bytes) ∙ ap (λ (t : List ℕ). bytes ++ t) (sym none)) here)

    module _ (here : place < length bytes) (wrong : Takes (cell_at place) (get_or bytes place 0) → ⊥) where
      pub slot_here : place < 8 → IsSizesFaultAfter blocks bytes (faults.BadSlot line)
      slot_here early more _ = at_line more BadSlot _ line line_is (fault_slot blocks bytes place sizes room within fits here wrong more early follows)

      pub line_here : 8 ≤ place → place < 407 → IsSizesFaultAfter blocks bytes (faults.BadLine line)
      line_here late early more _ =
          let ends = later_ends place late in
          at_line more BadLine _ line line_is (fault_line blocks bytes place sizes room within fits here wrong more (omega (arith, ends)) (omega (arith, ends, early)) follows)

      pub blank_here : 407 ≤ place → IsSizesFaultAfter blocks bytes (faults.NoBlank line)
      blank_here late more _ =
          let ends = later_ends place (omega (arith, late)) in
          at_line more NoBlank _ line line_is (fault_blank blocks bytes place sizes room within fits here wrong more (omega (arith, ends, late, within)) follows)
