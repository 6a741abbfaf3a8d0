-- Told ranges of slots that aren't listed, of functions that are asleep, outside what the host sends, and on two roots.
use Rattle.std.proofs.Common.{◌≡◌, ℕ, [], ◌∷◌, zero, suc, refl, true, false, inl, inr, arith, lit<, lit≤, ap, map, sym, ◌∙◌, codes, None, Some}
use Rattle.std.specs.Fmt.{digits}
use Rattle.std.specs.List.{Contains, slice_get}
use Rattle.std.proofs.lemmas.Bool.{both_ways}
use Rattle.pci_spec.specs.Slot.{Slot}
use Rattle.pci_spec.specs.System.{Function, System, Io, Memory, Bar}
use Rattle.pci_spec.specs.Fault.{Orphan, Unreached, Clash, Split, RegionName, address_in, named_region}
use Rattle.pci_spec.proofs.Members.{in_nil, in_cons_cases}
use Rattle.pci_spec.proofs.Examples.Samples.{slot, device, bridge, host}
use Rattle.judge_spec.specs.Given.{Given, nothing_given, starts}
use Rattle.judge_spec.specs.Claims.{Own, passes}
use Rattle.judge_spec.specs.Fault as untold_fault
use Rattle.judge_spec.specs.Told.{Mark, Command, Always, Held, ToldRange}
use Rattle.judge_spec.specs.ToldClaims.{Told, IsRangeAt, RangeClaimsOnBus, is_marked_held, is_range_on}
use Rattle.judge_spec.specs.ToldFault.{Known, NotListed, IsIn, IsNotListed, IsHeldOrphan, IsRangeUnreached}
use Rattle.judge_spec.specs.ToldFaultLines.{HasNotListed}
use Rattle.judge_spec.specs.ToldLine.{fault_text}
use Rattle.judge_spec.proofs.Examples.Ranges.{to_each, sent_memory}
use Rattle.judge_spec.proofs.Examples.Isa.{isa_at}
use Rattle.judge_spec.proofs.ToldAdds.{held_are_not_outside}
use Rattle.judge_spec.proofs.Examples.ToldClaims.{told_io, told_memory, told_ranges, told_asleep}
use Rattle.judge_spec.proofs.Examples.ToldJudging.{only_line, card, card_claims, hidden}

-- a slot in a list of one
pub only_slot : (at other : Slot) → Contains (at ∷ []) other → at ≡ other
only_slot at other has = elim (in_cons_cases at [] other has) [ inl here ↦ here | inr later ↦ absurd (in_nil other later) ]

-- a range in a list of one, and that of its register
pub only_range : (r other : ToldRange) → Contains (r ∷ []) other → r ≡ other
only_range r other has = elim (in_cons_cases r [] other has) [ inl here ↦ here | inr later ↦ absurd (in_nil other later) ]

range_in_one : (r other : ToldRange) (index : ℕ) → slice_get (r ∷ []) index ≡ Some other → r ≡ other
range_in_one r other zero at = let e : Some r ≡ Some other = at in cc
range_in_one r other (suc index) at = let e : None ≡ Some other = at in absurd cc

only_range_at : (told : Told) (r : ToldRange) → told.ranges ≡ r ∷ [] → (region : RegionName) (other : ToldRange) → IsRangeAt told region other → r ≡ other
only_range_at told r are region other named = range_in_one r other named.index (ap (λ l. slice_get l named.index) (sym are) ∙ named.at)

is_not_listed : IsIn (told_ranges (hidden (slot 0 31 1) Always ∷ [])) nothing_given host (card ∷ []) (NotListed (slot 0 31 1))
is_not_listed = record {
  r = hidden (slot 0 31 1) Always;
  is_told = (0, lit< tt, refl);
  not_held = refl;
  of_slot = refl;
  not_listed = λ has. (let e : 2 ≡ 31 = ap (λ (s : Slot). s.device) (only_slot (slot 0 2 0) (slot 0 31 1) has) in omega (arith, e));
}

held_may_be_of_any_slot : IsNotListed (told_ranges (hidden (slot 0 31 1) Held ∷ [])) (card ∷ []) (slot 0 31 1) → ⊥
held_may_be_of_any_slot not =
    let same : hidden (slot 0 31 1) Held ≡ not.r = only_range (hidden (slot 0 31 1) Held) not.r not.is_told in
    both_ways (is_marked_held not.r.mark) not.not_held (ap (λ (r : ToldRange). is_marked_held r.mark) (sym same))

listed_slot : IsNotListed (told_ranges (hidden (slot 0 2 0) Always ∷ [])) (card ∷ []) (slot 0 2 0) → ⊥
listed_slot not = not.not_listed (0, lit< tt, refl)

-- two lines of one slot, and one fault
abbrev pub two_of_one : Told
two_of_one = told_ranges (hidden (slot 0 31 1) Command ∷ hidden (slot 0 31 1) Always ∷ [])

pub not_listed_slot : (at : Slot) → HasNotListed two_of_one [] [] at → slot 0 31 1 ≡ at
not_listed_slot at not = elim (in_cons_cases (hidden (slot 0 31 1) Command) (hidden (slot 0 31 1) Always ∷ []) not.r not.is_told) [
  | inl here ↦ ap (λ (r : ToldRange). r.slot) here ∙ not.of_slot
  | inr later ↦ ap (λ (r : ToldRange). r.slot) (only_range (hidden (slot 0 31 1) Always) not.r later) ∙ not.of_slot
]

-- ---- a held range of a bus to which no bridge leads

is_orphan : IsIn (told_ranges (hidden (slot 5 0 0) Held ∷ [])) nothing_given host (card ∷ []) (Known (untold_fault.Known (Orphan (slot 5 0 0))))
is_orphan = inr record { r = hidden (slot 5 0 0) Held; is_told = (0, lit< tt, refl); held = refl; of_slot = refl; not_led_to = refl }

on_a_root : IsHeldOrphan (told_ranges (hidden (slot 0 31 1) Held ∷ [])) host (card ∷ []) (slot 0 31 1) → ⊥
on_a_root orphan = both_ways false refl orphan.not_led_to

always_is_no_held_orphan : IsHeldOrphan (told_ranges (hidden (slot 5 0 0) Always ∷ [])) host (card ∷ []) (slot 5 0 0) → ⊥
always_is_no_held_orphan orphan = both_ways (is_marked_held orphan.r.mark) (ap (λ (r : ToldRange). is_marked_held r.mark) (sym (only_range (hidden (slot 5 0 0) Always) orphan.r orphan.is_told))) orphan.held

-- ---- what shares on a board: two held ranges, and one over a BAR of its own function

abbrev held_twice : Told
held_twice = told_ranges (told_memory (slot 0 0 0) 0xfec00000 0xfecfffff Held ∷ told_memory (slot 0 31 0) 0xfec00000 0xfec00fff Held ∷ [])

two_held_share : IsIn held_twice nothing_given host (card ∷ []) (Known (untold_fault.Known (Clash 0 Memory 0xfec00000 (slot 0 0 0) 256 (slot 0 31 0) 257))) → ⊥
two_held_share clash = both_ways true clash.apart refl

held_over_its_own : IsIn (told_ranges (hidden (slot 0 2 0) Held ∷ [])) nothing_given host (card ∷ []) (Known (untold_fault.Known (Clash 0 Memory 0xfd000000 (slot 0 2 0) 0x10 (slot 0 2 0) 256))) → ⊥
held_over_its_own clash = both_ways true clash.apart refl

-- ---- outside what the host sends

abbrev timer : Mark → Told
timer mark = told_ranges (told_memory (slot 0 2 0) 0xfed00000 0xfed003ff mark ∷ [])

abbrev sent : Given
sent = sent_memory (to_each 0xe0000000 0xfebfffff ∷ [])

is_outside : IsIn (timer Always) sent host (card ∷ []) (Known (untold_fault.Outside (slot 0 2 0) 256 Memory 0xfed00000))
is_outside = inr record {
  r = told_memory (slot 0 2 0) 0xfed00000 0xfed003ff Always;
  needs = record { named = record { index = 0; at = refl; slot = refl; register = refl }; not_held = refl; claims = record { on = refl; holds = (refl, lit≤ tt, lit≤ tt) } };
  bridges = [];
  root = 0;
  is_root = (0, lit< tt, refl);
  leads = refl;
  none = refl;
}

held_needs_no_way : IsIn (timer Held) sent host (card ∷ []) (Known (untold_fault.Outside (slot 0 2 0) 256 Memory 0xfed00000)) → ⊥
held_needs_no_way outside = both_ways true (held_are_not_outside (timer Held) sent host (card ∷ []) (slot 0 2 0) 256 Memory 0xfed00000 outside) refl

-- what isn't sent isn't told to be unreached, too
abbrev closed_bridge : System
closed_bridge = bridge (slot 0 1 0) 2 0x010100 ((0x20, 0x0000fff0) ∷ []) [] ∷ device (slot 1 0 0) 2 [] [] ∷ []

unsent_is_not_unreached : (u : IsRangeUnreached (told_ranges (told_memory (slot 1 0 0) 0xfed00000 0xfed003ff Always ∷ [])) sent host closed_bridge (named_region (slot 1 0 0) 256) (address_in Memory 0xfed00000) (slot 0 1 0)) → u.root ≡ 0 → ⊥
unsent_is_not_unreached u root = both_ways (starts sent Memory u.root 0xfed00000) (ap (λ n. starts sent Memory n 0xfed00000) root) u.sent

-- ---- on two root buses

abbrev two_roots : Mark → Told
two_roots mark = told_ranges (told_memory (slot 0 1 0) 0xe0000000 0xe000ffff mark ∷ told_memory (slot 0x40 1 0) 0xe000f000 0xe001ffff mark ∷ [])

are_split : IsIn (two_roots Always) nothing_given (0 ∷ 0x40 ∷ []) [] (Known (untold_fault.Known (Split Memory 0xe000f000 (slot 0 1 0) 256 (slot 0x40 1 0) 257)))
are_split = record {
  root_first = (0, lit< tt, refl);
  root_second = (1, lit< tt, refl);
  buses = λ e. omega (arith, e);
  sent_first = refl;
  sent_second = refl;
  claims_first = inr record { r = told_memory (slot 0 1 0) 0xe0000000 0xe000ffff Always; named = record { index = 0; at = refl; slot = refl; register = refl }; on_the_bus = refl; claims = record { on = refl; holds = (refl, lit≤ tt, lit≤ tt) } };
  claims_second = inr record { r = told_memory (slot 0x40 1 0) 0xe000f000 0xe001ffff Always; named = record { index = 1; at = refl; slot = refl; register = refl }; on_the_bus = refl; claims = record { on = refl; holds = (refl, lit≤ tt, lit≤ tt) } };
  apart = refl;
}

held_are_not_split : IsIn (two_roots Held) nothing_given (0 ∷ 0x40 ∷ []) [] (Known (untold_fault.Known (Split Memory 0xe000f000 (slot 0 1 0) 256 (slot 0x40 1 0) 257))) → ⊥
held_are_not_split split = both_ways true split.apart refl

-- ---- a function that is asleep: its held range alone clashes

abbrev asleep : Mark → Told
asleep mark = told_asleep (slot 0 1 0) (told_memory (slot 0 1 0) 0xfd000000 0xfd00ffff mark ∷ [])

always_is_off : RangeClaimsOnBus (asleep Always) (card ∷ []) 0 (address_in Memory 0xfd000000) (named_region (slot 0 1 0) 256) → ⊥
always_is_off claims =
    let same : told_memory (slot 0 1 0) 0xfd000000 0xfd00ffff Always ≡ claims.r = only_range_at (asleep Always) (told_memory (slot 0 1 0) 0xfd000000 0xfd00ffff Always) refl (named_region (slot 0 1 0) 256) claims.r claims.named in
    both_ways (is_range_on (asleep Always) (card ∷ []) claims.r) (ap (λ r. is_range_on (asleep Always) (card ∷ []) r) (sym same)) claims.claims.on

held_clash : IsIn (asleep Held) nothing_given host (card ∷ []) (Known (untold_fault.Known (Clash 0 Memory 0xfd000000 (slot 0 1 0) 256 (slot 0 2 0) 0x10)))
held_clash = record {
  gets = (0, (0, lit< tt, refl), refl, [], refl, refl);
  claims_first = inr (only_line (asleep Held) (card ∷ []) (told_memory (slot 0 1 0) 0xfd000000 0xfd00ffff Held) 0xfd000000 refl refl (lit≤ tt) (lit≤ tt));
  claims_second = inl (card, Own (Bar 0), (0, lit< tt, refl), refl, refl, refl, record { claims = card_claims; kept = refl });
  differ = λ same. (let e : 256 ≡ 0x10 = same.1 in omega (arith, e));
  apart = refl;
}

-- ---- a told I/O range behind a bridge with ISA Enable, and one in what a legacy part passes

abbrev isa_bridge : Function
isa_bridge = bridge (slot 0 1 0) 1 0x010100 ((0x1c, 0x1010) ∷ (0x3c, 0x00040000) ∷ []) ((0x1c, 0xf0f0) ∷ [])

cut : map (λ a. passes (isa_at (slot 0 1 0 ∷ [])) Io false a isa_bridge) (0x1000 ∷ 0x10ff ∷ 0x1100 ∷ 0x1400 ∷ []) ≡ true ∷ true ∷ false ∷ true ∷ []
cut = refl

abbrev cut_board : System
cut_board = isa_bridge ∷ device (slot 1 0 0) 1 [] [] ∷ []

abbrev cut_range : ToldRange
cut_range = told_io (slot 1 0 0) 0x1000 0x17ff Command

is_cut : IsIn (told_ranges (cut_range ∷ [])) (isa_at (slot 0 1 0 ∷ [])) host cut_board (Known (untold_fault.Known (Unreached (slot 1 0 0) 256 Io 0x1100 (slot 0 1 0))))
is_cut = inr record {
  r = cut_range;
  needs = record { named = record { index = 0; at = refl; slot = refl; register = refl }; not_held = refl; claims = record { on = refl; holds = (refl, lit≤ tt, lit≤ tt) } };
  bridges = isa_bridge ∷ [];
  root = 0;
  is_root = (0, lit< tt, refl);
  leads = ((0, lit< tt, refl), refl, refl, refl);
  sent = refl;
  b = isa_bridge;
  on_the_way = (0, lit< tt, refl);
  named_bridge = refl;
  stops = refl;
}

-- VGA Enable and ISA Enable: all of a display's ports are passed
abbrev vga_bridge : Function
vga_bridge = bridge (slot 0 1 0) 1 0x010100 ((0x3c, 0x000c0000) ∷ []) []

abbrev vga_and_isa : Given
vga_and_isa = record { io = None; memory = None; legacy = record { slot = slot 0 1 0; is_wide = false } ∷ []; isa = slot 0 1 0 ∷ []; palette = []; unclaimed = [] }

display_is_passed : map (λ a. passes vga_and_isa Io false a vga_bridge) (0x3bf ∷ 0x3c0 ∷ 0x3df ∷ 0x3e0 ∷ []) ≡ false ∷ true ∷ true ∷ false ∷ []
display_is_passed = refl

-- ---- lines

line_of_60 : fault_text (Known (untold_fault.Known (Unreached (slot 1 0 0) 256 Memory 0xe0100000 (slot 0 1 0)))) ≡ codes "60 Unreached 01:00.0 +1 mem 00000000e0100000 bridge 00:01.0"
unfolding digits
line_of_60 = refl

line_of_61 : fault_text (Known (untold_fault.Known (Clash 0 Io 0x1f0 (slot 0 2 0) 0x10 (slot 0 5 0) 256))) ≡ codes "61 Clash bus 00 io 000001f0 00:02.0 10 00:05.0 +1"
unfolding digits
line_of_61 = refl

told_first : fault_text (Known (untold_fault.Known (Clash 0 Io 0x1f0 (slot 0 1 1) 270 (slot 0 5 0) 279))) ≡ codes "61 Clash bus 00 io 000001f0 00:01.1 +15 00:05.0 +24"
unfolding digits
told_first = refl

line_of_62 : fault_text (Known (untold_fault.Known (Split Memory 0xe000f000 (slot 0 1 0) 256 (slot 0x40 1 0) 257))) ≡ codes "62 Split mem 00000000e000f000 00:01.0 +1 40:01.0 +2"
unfolding digits
line_of_62 = refl

line_of_63 : fault_text (Known (untold_fault.Outside (slot 0 2 0) 4351 Memory 0xfed00000)) ≡ codes "63 Outside 00:02.0 +4096 mem 00000000fed00000"
unfolding digits
line_of_63 = refl

line_of_34 : fault_text (NotListed (slot 0 31 1)) ≡ codes "34 NotListed 00:1f.1"
line_of_34 = refl

last_register : fault_text (Known (untold_fault.Outside (slot 0 2 0) 255 Memory 0)) ≡ codes "63 Outside 00:02.0 ff mem 0000000000000000"
unfolding digits
last_register = refl
