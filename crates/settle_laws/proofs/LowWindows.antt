-- In the profile no window that stands lies above the highest address that it can hold, and one that grows comes to whole pages.
use Rattle.std.proofs.Common.{◌≡◌, ℕ, ◌+◌, ◌-◌, ◌*◌, ◌/◌, ◌%◌, ◌≤◌, max, min, inl, inr, List, map, true, false, cond, ◌&&◌, ◌||◌, not, arith, ap, sym, ◌∙◌}
use Rattle.std.specs.Bool.{◌==◌, if◌then◌else◌}
use Rattle.std.specs.List.{fold}
use Rattle.std.proofs.lemmas.Bool.{and_parts, cases_Bool, eqb-true}
use Rattle.std.proofs.lemmas.List.Elements.{All-contains}
use Rattle.std.proofs.Math.Nat.{mul-mod_left}
use Rattle.pci_spec.specs.Header.{layout}
use Rattle.pci_spec.specs.Number.{IsImage}
use Rattle.pci_spec.specs.Window.{WindowKind, IoWindow, MemoryWindow, PrefetchWindow, Bounds, bounds_at, has_window, is_closed, is_wide_window, page_size}
use Rattle.pci_spec.specs.Decoded.{Range, IsDecodable}
use Rattle.pci_spec.specs.System.{System, Function, IsSystem, IsFunction, is_bridge}
use Rattle.pci_spec.specs.Bus.{IsNested}
use Rattle.pci_spec.specs.Sound.{IsInProfile}
use Rattle.plan_spec.specs.Plan.{raised_to}
use Rattle.plan_spec.specs.Place.{nibble_of}
use Rattle.plan_spec.proofs.PlanningLaws.{profile_decodes}
use Rattle.plan_spec.proofs.Planning.Registers.{number_below}
use Rattle.plan_spec.proofs.Planning.Room.{raised}
use Rattle.plan_spec.proofs.Planning.WindowFits.{lawful_nibbles}
use Rattle.settle_spec.specs.Lists.{Request}
use Rattle.settle_spec.specs.Parts.{addresses}
use Rattle.settle_spec.specs.Stands.{window_part}
use Rattle.settle_spec.specs.Items.{highest_in}
use Rattle.settle_spec.specs.Reach.{raised_last, lowered_first}
use Rattle.settle_spec.specs.Growth.{grown_to}
use Rattle.settle_spec.proofs.Grown.{some_page}
use Rattle.settle_laws.specs.Reach.{WindowsAreLow}
use Rattle.settle_laws.proofs.Standing.{stands_by_itself}

-- ---- registers

no_upper : (n : ℕ) (v : Bounds) → (n == 1 || (v.base_upper == 0 && v.limit_upper == 0)) ≡ true → n ≡ 0 → v.limit_upper ≡ 0
no_upper n v h none =
    let rest : (v.base_upper == 0 && v.limit_upper == 0) ≡ true = ap (λ m. m == 1 || (v.base_upper == 0 && v.limit_upper == 0)) (sym none) ∙ h in
    eqb-true v.limit_upper 0 (and_parts (v.base_upper == 0) (v.limit_upper == 0) rest).1

window_low : (c : WindowKind) (b : Function) → IsImage b.image → (is_wide_window c b.probe ≡ false → (bounds_at c b.image).limit_upper ≡ 0) → (addresses (window_part c b)).last ≤ highest_in c b.probe
window_low IoWindow b image none =
    let low = image.bytes 0x1d in
    let upper = number_below b.image 0x32 image 2 in
    elim (cases_Bool (is_wide_window IoWindow b.probe)) [
      | inl wide ↦ (let h : highest_in IoWindow b.probe ≡ 0xffff_ffff = ap (λ t. if t then 0xffff_ffff else 0xffff) wide in omega (arith, low, upper, h))
      | inr narrow ↦
          let h : highest_in IoWindow b.probe ≡ 0xffff = ap (λ t. if t then 0xffff_ffff else 0xffff) narrow in
          let zero = none narrow in
          omega (arith, low, zero, h)
    ]
window_low MemoryWindow b image none = let low = number_below b.image 0x22 image 2 in omega (arith, low)
window_low PrefetchWindow b image none =
    let low = number_below b.image 0x26 image 2 in
    let upper = number_below b.image 0x2c image 4 in
    elim (cases_Bool (is_wide_window PrefetchWindow b.probe)) [
      | inl wide ↦ (let h : highest_in PrefetchWindow b.probe ≡ 0xffff_ffff_ffff_ffff = ap (λ t. if t then 0xffff_ffff_ffff_ffff else 0xffff_ffff) wide in omega (arith, low, upper, h))
      | inr narrow ↦
          let h : highest_in PrefetchWindow b.probe ≡ 0xffff_ffff = ap (λ t. if t then 0xffff_ffff_ffff_ffff else 0xffff_ffff) narrow in
          let zero = none narrow in
          omega (arith, low, zero, h)
    ]

-- The law: no window that stands is higher than it can be.
pub windows_low : (q : Request) (s : System) → IsSystem s → IsNested q.roots s → IsInProfile q.roots s → WindowsAreLow q s
windows_low q s system nested profile c b listed stand =
    let is : IsFunction b = All-contains IsFunction s b system.each listed in
    let decodable = All-contains IsDecodable s b (profile_decodes q.roots s profile) listed in
    let part = (stands_by_itself q s nested).only (window_part c b) listed stand in
    let there = and_parts (is_bridge b) (has_window c b.probe) (and_parts (is_bridge b && has_window c b.probe) (not (is_closed c b.image)) part).0 in
    let lawful = lawful_nibbles b there.0 c (decodable.windows c (eqb-true (layout b.image) 1 there.0)) there.1 in
    window_low c b is.image (λ narrow. no_upper (nibble_of c b) (bounds_at c b.image) lawful.uppers (ap (λ t. cond t 1 0) narrow))

-- ---- whole pages

first_whole : (c : WindowKind) (old first : ℕ) → old % page_size c ≡ 0 → first % page_size c ≡ 0 → lowered_first c old first % page_size c ≡ 0
first_whole IoWindow old first a b = omega (arith, a, b)
first_whole MemoryWindow old first a b = omega (arith, a, b)
first_whole PrefetchWindow old first a b = omega (arith, a, b)

pub last_whole : (c : WindowKind) (old last : ℕ) → (old + 1) % page_size c ≡ 0 → (last + 1) % page_size c ≡ 0 → (raised_last c old last + 1) % page_size c ≡ 0
last_whole IoWindow old last a b = omega (arith, a, b)
last_whole MemoryWindow old last a b = omega (arith, a, b)
last_whole PrefetchWindow old last a b = omega (arith, a, b)

pub grown_first : (c : WindowKind) (w : Range) (others : List Range) → w.first % page_size c ≡ 0 → (grown_to c w others).first % page_size c ≡ 0
grown_first c w others is =
    let low = fold min w.first (map (λ (r : Range). r.first) others) in
    first_whole c w.first (low / page_size c * page_size c) is (mul-mod_left (low / page_size c) (page_size c))

pub grown_last : (c : WindowKind) (w : Range) (others : List Range) → (w.last + 1) % page_size c ≡ 0 → ((grown_to c w others).last + 1) % page_size c ≡ 0
grown_last c w others is =
    let high = fold max w.last (map (λ (r : Range). r.last) others) in
    let up = raised (page_size c) (high + 1) (some_page c) in
    let from = up.from in
    let same : raised_to (page_size c) (high + 1) - 1 + 1 ≡ raised_to (page_size c) (high + 1) = omega (arith, from) in
    last_whole c w.last (raised_to (page_size c) (high + 1) - 1) is (ap (λ n. n % page_size c) same ∙ up.multiple)
