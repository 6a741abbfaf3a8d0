-- Ways down the tree: which addresses get to a bus, and which don't.
use Rattle.std.proofs.Common.{◌≡◌, ℕ, zero, suc, List, [], ◌∷◌, refl, Bool, true, false, arith, lit<, lit≤, ap, subst, sym, ◌∙◌}
use Rattle.std.specs.Prelude.{IsTrue}
use Rattle.std.specs.List.{Contains, list_all}
use Rattle.std.proofs.lemmas.Bool.{both_ways, and_parts}
use Rattle.pci_spec.specs.Number.{each_from}
use Rattle.pci_spec.specs.Header.{secondary_bus}
use Rattle.pci_spec.specs.Slot.{Slot}
use Rattle.pci_spec.specs.Window.{MemoryWindow}
use Rattle.pci_spec.specs.System.{Function, System, Io, Memory, Space, Bar, Window, Claims, Leads, Gets, IsPassedTo, is_prefetchable_part, is_bridge, forwards, passes}
use Rattle.pci_spec.specs.Fault.{IsIn, Clash, Unreached}
use Rattle.pci_spec.proofs.Bits.{interval-agrees}
use Rattle.pci_spec.proofs.Examples.Samples.{slot, device, bridge, host}

-- what holds of three functions holds of each that is listed
each_of_three : (P : Function → Type 0) (a b c : Function) → P a → P b → P c → (f : Function) → Contains (a ∷ b ∷ c ∷ []) f → P f
each_of_three P a b c pa pb pc f (zero, less, is) = subst P is pa
each_of_three P a b c pa pb pc f (suc zero, less, is) = subst P is pb
each_of_three P a b c pa pb pc f (suc (suc zero), less, is) = subst P is pc
each_of_three P a b c pa pb pc f (suc (suc (suc k)), less, is) = absurd (let no : ⊥ = omega (arith, less) in no)

only_root : (root : ℕ) → Contains host root → root ≡ 0
only_root root (zero, less, is) = sym is
only_root root (suc k, less, is) = absurd (let no : ⊥ = omega (arith, less) in no)

-- ---- two bridges, one behind the other, and a device at the end

abbrev upper : Function
upper = bridge (slot 0 1 0) 2 0x20100 ((0x20, 0xe010e000) ∷ (0x24, 0xe020e020) ∷ []) ((0x24, 0xfff0fff0) ∷ [])

abbrev lower : Function
lower = bridge (slot 1 0 0) 2 0x20201 ((0x20, 0xe020e010) ∷ []) []

abbrev last : Function
last = device (slot 2 0 0) 0 [] []

abbrev tree : System
tree = upper ∷ lower ∷ last ∷ []

both_lead_to_bus_2 : Leads tree 0 (upper ∷ lower ∷ []) 2
both_lead_to_bus_2 = ((0, lit< tt, refl), refl, refl, ((1, lit< tt, refl), refl, refl, refl))

-- each address is on a root
root_is_the_whole_space : (space : Space) (prefetchable : Bool) (a : ℕ) → IsPassedTo host tree space prefetchable a 0
root_is_the_whole_space space prefetchable a = (0, (0, lit< tt, refl), [], refl, refl)

passed_to_bus_1 : IsPassedTo host tree Memory false 0xe0000000 1
passed_to_bus_1 = (0, (0, lit< tt, refl), upper ∷ [], ((0, lit< tt, refl), refl, refl, refl), refl)

passed_to_bus_2 : IsPassedTo host tree Memory false 0xe0100000 2
passed_to_bus_2 = (0, (0, lit< tt, refl), upper ∷ lower ∷ [], both_lead_to_bus_2, refl)

prefetchable_passed_to_bus_2 : IsPassedTo host tree Memory true 0xe0200000 2
prefetchable_passed_to_bus_2 = (0, (0, lit< tt, refl), upper ∷ lower ∷ [], both_lead_to_bus_2, refl)

access_gets_to_bus_2 : Gets host tree Memory 0xe0200000 2
access_gets_to_bus_2 = (0, (0, lit< tt, refl), upper ∷ lower ∷ [], both_lead_to_bus_2, refl)

-- of the bridges of this tree those on bus 0 are the upper one
on_bus_0 : (P : Function → Type 0) → P upper → (f : Function) → Contains tree f → IsTrue (is_bridge f) → f.slot.bus ≡ 0 → P f
on_bus_0 P up = each_of_three (λ f. IsTrue (is_bridge f) → f.slot.bus ≡ 0 → P f) upper lower last
    (λ h e. up) (λ h e. absurd (let no : ⊥ = omega (arith, e) in no)) (λ h e. absurd (both_ways false refl h))

plain_not_passed_to_bus_2 : IsPassedTo host tree Memory false 0xe0200000 2 → ⊥
plain_not_passed_to_bus_2 (root, roots, [], leads, passed) = let e = only_root root roots in omega (arith, e, leads)
plain_not_passed_to_bus_2 (root, roots, b ∷ bridges, leads, passed) =
    on_bus_0 (λ f. passes Memory false 0xe0200000 f ≡ true → ⊥) (λ h. both_ways false refl h) b leads.0 leads.1 (leads.2 ∙ only_root root roots)
    (and_parts (passes Memory false 0xe0200000 b) (list_all (passes Memory false 0xe0200000) bridges) passed).0

no_way_to_bus_3 : (from : ℕ) (bridges : List Function) → (from ≡ 3 → ⊥) → Leads tree from bridges 3 → ⊥
no_way_to_bus_3 from [] other leads = other leads
no_way_to_bus_3 from (b ∷ bridges) other leads =
    no_way_to_bus_3 (secondary_bus b.image) bridges
    (each_of_three (λ f. IsTrue (is_bridge f) → secondary_bus f.image ≡ 3 → ⊥) upper lower last (λ h e. omega (arith, e)) (λ h e. omega (arith, e)) (λ h e. both_ways false refl h) b leads.0 leads.1)
    leads.3

nothing_gets_to_bus_3 : (space : Space) (a : ℕ) → Gets host tree space a 3 → ⊥
nothing_gets_to_bus_3 space a (root, roots, bridges, leads, forwarded) = no_way_to_bus_3 root bridges (λ e. let zero = only_root root roots in omega (arith, e, zero)) leads

-- ---- a clash where no access gets to is none

-- the bridge to bus 1 has one page, those on bus 1 claim the same page
abbrev host_bridge : ℕ → Function
host_bridge window = bridge (slot 0 1 0) 2 0x030100 ((0x20, window) ∷ []) []

abbrev first_bridge : ℕ → Function
first_bridge window = bridge (slot 1 0 0) 2 0x020201 ((0x20, window) ∷ []) []

abbrev second_bridge : ℕ → Function
second_bridge window = bridge (slot 1 1 0) 2 0x030301 ((0x20, window) ∷ []) []

abbrev quiet : System
quiet = host_bridge 0xe000e000 ∷ first_bridge 0xf000f000 ∷ second_bridge 0xf000f000 ∷ []

not_forwarded : (b : Function) → Contains quiet b → IsTrue (is_bridge b) → b.slot.bus ≡ 0 → forwards Memory 0xf0000000 b ≡ true → ⊥
not_forwarded = each_of_three (λ f. IsTrue (is_bridge f) → f.slot.bus ≡ 0 → forwards Memory 0xf0000000 f ≡ true → ⊥)
    (host_bridge 0xe000e000) (first_bridge 0xf000f000) (second_bridge 0xf000f000) (λ h e f. both_ways false refl f) (λ h e f. omega (arith, e)) (λ h e f. omega (arith, e))

does_not_get_to_bus_1 : Gets host quiet Memory 0xf0000000 1 → ⊥
does_not_get_to_bus_1 (root, roots, [], leads, forwarded) = let e = only_root root roots in omega (arith, e, leads)
does_not_get_to_bus_1 (root, roots, b ∷ bridges, leads, forwarded) =
    not_forwarded b leads.0 leads.1 (leads.2 ∙ only_root root roots) (and_parts (forwards Memory 0xf0000000 b) (list_all (forwards Memory 0xf0000000) bridges) forwarded).0

no_clash_where_nothing_gets_to : IsIn host quiet (Clash 1 Memory 0xf0000000 (slot 1 0 0) 0x20 (slot 1 1 0) 0x20) → ⊥
no_clash_where_nothing_gets_to clash = does_not_get_to_bus_1 clash.gets

abbrev loud : System
loud = host_bridge 0xf010f010 ∷ first_bridge 0xf010f000 ∷ second_bridge 0xf010f000 ∷ []

clash_where_an_access_gets_to : IsIn host loud (Clash 1 Memory 0xf0100000 (slot 1 0 0) 0x20 (slot 1 1 0) 0x20)
clash_where_an_access_gets_to = record {
  gets = (0, (0, lit< tt, refl), host_bridge 0xf010f010 ∷ [], ((0, lit< tt, refl), refl, refl, refl), refl);
  claims_first = (first_bridge 0xf010f000, Window MemoryWindow, (1, lit< tt, refl), refl, refl, refl, record { there = refl; enabled = refl; maps = refl; address = lit< tt; decodes = refl });
  claims_second = (second_bridge 0xf010f000, Window MemoryWindow, (2, lit< tt, refl), refl, refl, refl, record { there = refl; enabled = refl; maps = refl; address = lit< tt; decodes = refl });
  differ = λ same. let e = ap (λ (s : Slot). s.device) same.0 in omega (arith, e);
}

-- ---- addresses that a bridge on the way doesn't pass

-- the first BAR of a device claims an address that the one bridge on the way doesn't pass
not_passed : (b f : Function) (space : Space) (a : ℕ) → b.slot ≡ slot 0 1 0 → f.slot ≡ slot 1 0 0 → Leads (b ∷ f ∷ []) 0 (b ∷ []) 1 → Claims f (Bar 0) space a → passes space (is_prefetchable_part f (Bar 0)) a b ≡ false → IsIn host (b ∷ f ∷ []) (Unreached (slot 1 0 0) 0x10 space a (slot 0 1 0))
not_passed b f space a bridge_at device_at leads claims stops = record {
  f = f;
  part = Bar 0;
  listed = (1, lit< tt, refl);
  named = (device_at, refl);
  no_window = refl;
  claims = claims;
  root = 0;
  starts = (0, lit< tt, refl);
  bridges = b ∷ [];
  leads = leads;
  b = b;
  on_the_way = (0, lit< tt, refl);
  named_bridge = bridge_at;
  stops = stops;
}

abbrev behind : ℕ → List (ℕ × ℕ) → List (ℕ × ℕ) → Function
behind command values masks = device (slot 1 0 0) command values masks

abbrev memory_off : Function
memory_off = bridge (slot 0 1 0) 0 0x010100 ((0x20, 0xe000e000) ∷ []) []

abbrev page_behind : Function
page_behind = behind 2 ((0x10, 0xe0000000) ∷ []) ((0x10, 0xfffff000) ∷ [])

page_claims : Claims page_behind (Bar 0) Memory 0xe0000000
unfolding each_from
page_claims = record { there = refl; enabled = refl; maps = refl; address = lit< tt; decodes = (refl, (12, refl, interval-agrees 12 0xe0000000 0xe0000000 (lit≤ tt) (lit≤ tt))) }

behind_a_bridge_that_is_off : IsIn host (memory_off ∷ page_behind ∷ []) (Unreached (slot 1 0 0) 0x10 Memory 0xe0000000 (slot 0 1 0))
behind_a_bridge_that_is_off = not_passed memory_off page_behind Memory 0xe0000000 refl refl ((0, lit< tt, refl), refl, refl, refl) page_claims refl

abbrev without_io : Function
without_io = bridge (slot 0 1 0) 1 0x010100 [] []

abbrev io_behind : Function
io_behind = behind 1 ((0x10, 0x101) ∷ []) ((0x10, 0xffffff01) ∷ [])

io_claims : Claims io_behind (Bar 0) Io 0x100
unfolding each_from
io_claims = record { there = refl; enabled = refl; maps = refl; address = lit< tt; decodes = (refl, (8, refl, interval-agrees 8 0x100 0x101 (lit≤ tt) (lit≤ tt))) }

behind_a_bridge_without_an_io_window : IsIn host (without_io ∷ io_behind ∷ []) (Unreached (slot 1 0 0) 0x10 Io 0x100 (slot 0 1 0))
behind_a_bridge_without_an_io_window = not_passed without_io io_behind Io 0x100 refl refl ((0, lit< tt, refl), refl, refl, refl) io_claims refl

abbrev prefetch_only : Function
prefetch_only = bridge (slot 0 1 0) 2 0x010100 ((0x20, 0x0000fff0) ∷ (0x24, 0xe000e000) ∷ []) ((0x24, 0xfff0fff0) ∷ [])

plain_behind_a_prefetchable_window : IsIn host (prefetch_only ∷ page_behind ∷ []) (Unreached (slot 1 0 0) 0x10 Memory 0xe0000000 (slot 0 1 0))
plain_behind_a_prefetchable_window = not_passed prefetch_only page_behind Memory 0xe0000000 refl refl ((0, lit< tt, refl), refl, refl, refl) page_claims refl

-- a window of one page before a BAR of two
abbrev one_page : Function
one_page = bridge (slot 0 1 0) 2 0x010100 ((0x20, 0xe000e000) ∷ []) []

abbrev two_pages_behind : Function
two_pages_behind = behind 2 ((0x10, 0xe0000000) ∷ []) ((0x10, 0xffe00000) ∷ [])

second_page_claims : Claims two_pages_behind (Bar 0) Memory 0xe0100000
unfolding each_from
second_page_claims = record { there = refl; enabled = refl; maps = refl; address = lit< tt; decodes = (refl, (21, refl, interval-agrees 21 0xe0100000 0xe0000000 (lit≤ tt) (lit≤ tt))) }

second_page_behind_a_window_of_one : IsIn host (one_page ∷ two_pages_behind ∷ []) (Unreached (slot 1 0 0) 0x10 Memory 0xe0100000 (slot 0 1 0))
second_page_behind_a_window_of_one = not_passed one_page two_pages_behind Memory 0xe0100000 refl refl ((0, lit< tt, refl), refl, refl, refl) second_page_claims refl
