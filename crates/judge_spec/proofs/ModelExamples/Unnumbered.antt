-- Bridges without bus numbers.
use Rattle.std.proofs.Common.{◌≡◌, ℕ, List, [], ◌∷◌, refl, true, false, None, Some, map, inl, inr, lit<, subst, ◌∙◌}
use Rattle.std.specs.Bool.{IsTrue}
use Rattle.pci_spec.specs.System.{Function, is_bridge}
use Rattle.pci_spec.specs.Bar.{Memory32}
use Rattle.pci_spec.specs.Decoded.{record_of}
use Rattle.pci_spec.specs.Registers.{VGA_ENABLE}
use Rattle.pci_spec.specs.Fault.{IsIn, OfProfile, IsaEnable, controls_bridge, fault_number, is_stray}
use Rattle.pci_spec.specs.Order.{Place}
use Rattle.std.specs.List.{list_any, range_with_len}
use Rattle.pci_spec.proofs.Examples.Samples.{bridge, device, slot, range, host}
use Rattle.judge_spec.specs.Words.{Vga}
use Rattle.judge_spec.specs.ModelWords.{Words, no_words}
use Rattle.judge_spec.specs.Taken.{HasNoOwnFaultBefore, IsTakenAs, IsWhere, bridge_aside, first_aside, fixed_parts_by, is_unnumbered, may_have_parts_by, parts_aside, without_buses, no_fixed_parts}

abbrev unnumbered_counts : Words
unnumbered_counts = record no_words { unnumbered = true }

-- windows closed: base above limit
abbrev closed : List (ℕ × ℕ)
closed = (0x20, 0x0000fff0) ∷ []

-- numbers that are 0, Command on: one with its memory window closed, one whose window is open at 0, which claims nothing
-- where Command is off; and one whose ROM is on
those_that_count : map (is_unnumbered no_fixed_parts) (bridge (slot 0 1 0) 7 0 closed [] ∷ bridge (slot 0 1 0) 7 0 [] [] ∷ bridge (slot 0 1 0) 0 0 [] []
    ∷ bridge (slot 0 1 0) 7 0 ((0x38, 0xfd000001) ∷ closed) ((0x38, 0xffff0000) ∷ []) ∷ bridge (slot 0 1 0) 7 0 ((0x38, 0xfd000000) ∷ closed) ((0x38, 0xffff0000) ∷ []) ∷ [])
    ≡ true ∷ false ∷ true ∷ false ∷ true ∷ []
those_that_count = refl

-- one number is enough to have numbers
numbered : map (is_unnumbered no_fixed_parts) (bridge (slot 0 1 0) 7 0x000001 closed [] ∷ bridge (slot 0 1 0) 7 0x000100 closed [] ∷ bridge (slot 0 1 0) 7 0x010000 closed [] ∷ device (slot 0 1 0) 7 [] [] ∷ [])
    ≡ false ∷ false ∷ false ∷ false ∷ []
numbered = refl

-- a BAR of such a bridge stays, its windows go, and no probe is stray
abbrev with_a_bar : Function
with_a_bar = bridge (slot 0 1 0) 7 0 ((0x10, 0xfe000000) ∷ (0x1c, 0x228000f0) ∷ closed) ((0x10, 0xfffff000) ∷ (0x1c, 0xf0f0) ∷ [])

taken : record_of (parts_aside unnumbered_counts no_fixed_parts with_a_bar)
    ≡ record {
      slot = slot 0 1 0;
      command = 7;
      bars = record { register = 0x10; kind = Memory32; prefetchable = false; range = range 0xfe000000 0xfe000fff } ∷ [];
      rom = None;
      bridge = None;
    }
taken = refl

no_stray_probe : list_any (is_stray (without_buses with_a_bar).image (without_buses with_a_bar).probe) (range_with_len 0 256) ≡ false
no_stray_probe = refl

without_the_word : is_bridge (parts_aside no_words no_fixed_parts with_a_bar) ≡ true
without_the_word = refl

-- ---- with a legacy part

-- what `unnumbered,vga` take, where nothing is listed behind the bridge
abbrev with_vga : Words
with_vga = record unnumbered_counts { vga = Some Vga }

-- a bridge with VGA Enable, and one without it, by Command
abbrev adapter_behind : ℕ → Function
adapter_behind command = bridge (slot 0 1 0) command 0 ((0x3c, 0x00080000) ∷ closed) []

abbrev none_behind : ℕ → Function
none_behind command = bridge (slot 0 1 0) command 0 closed []

-- as a function is taken that isn't switched off and has no fault by itself
abbrev taken_by : Words → Function → Function
taken_by w f = parts_aside w (fixed_parts_by w f) (bridge_aside w [] (first_aside w f))

-- it stays a bridge where its legacy part answers in one space or both
stays_a_bridge : map (λ command. is_bridge (taken_by with_vga (adapter_behind command))) (0x0003 ∷ 0x0001 ∷ 0x0002 ∷ []) ≡ true ∷ true ∷ true ∷ []
stays_a_bridge = refl

-- and is taken for a device where Command turns both off, or no legacy part is there
becomes_a_device : map (λ f. is_bridge (taken_by with_vga f)) (adapter_behind 0 ∷ adapter_behind 4 ∷ none_behind 3 ∷ []) ≡ false ∷ false ∷ false ∷ []
becomes_a_device = refl

-- VGA Enable alone gives it none: a word does
without_vga_word : is_bridge (taken_by unnumbered_counts (adapter_behind 3)) ≡ false
without_vga_word = refl

has_no_vga_enable : map (λ w. controls_bridge (taken_by w (adapter_behind 3)).image VGA_ENABLE) (with_vga ∷ no_words ∷ []) ≡ false ∷ true ∷ []
has_no_vga_enable = refl

-- ---- with ISA Enable, which is a fault of the bridge by itself

abbrev with_isa_enable : Function
with_isa_enable = bridge (slot 0 1 0) 7 0 ((0x3c, 0x00040000) ∷ closed) []

looks_unnumbered : is_unnumbered no_fixed_parts with_isa_enable ≡ true
looks_unnumbered = refl

left_where : (Condition : Type 0) (f changed g : Function) → IsWhere Condition f changed g → (Condition → changed ≡ f) → g ≡ f
left_where Condition f changed g (inl (holds, is)) same = is ∙ same holds
left_where Condition f changed g (inr (fails, is)) same = is

has_isa_enable : IsIn host (with_isa_enable ∷ []) (OfProfile IsaEnable (slot 0 1 0))
has_isa_enable = (with_isa_enable, (0, lit< tt, refl), refl, refl)

-- `unnumbered` leaves the bridge as it is, with that fault
unnumbered_leaves_it : (h : Function) → IsTakenAs unnumbered_counts [] with_isa_enable h → h ≡ with_isa_enable
unnumbered_leaves_it h taken =
    let same : taken.g ≡ with_isa_enable = left_where _ with_isa_enable _ taken.g taken.power (λ holds. cc holds.0) in
    taken.header ∙ left_where _ with_isa_enable _ taken.k
    (subst (λ g. IsWhere (IsTrue (may_have_parts_by unnumbered_counts (bridge_aside unnumbered_counts [] g)) × HasNoOwnFaultBefore Place (bridge_aside unnumbered_counts [] g)) (bridge_aside unnumbered_counts [] g) (parts_aside unnumbered_counts (fixed_parts_by unnumbered_counts with_isa_enable) (bridge_aside unnumbered_counts [] g)) taken.k) same taken.parts)
    (λ holds. absurd (holds.1 (OfProfile IsaEnable (slot 0 1 0)) (lit< tt) has_isa_enable))

number_of_isa_enable : fault_number (OfProfile IsaEnable (slot 0 1 0)) ≡ 53
number_of_isa_enable = refl
