-- What ISA Enable leaves alone, and what it takes.
use Rattle.std.proofs.Common.{◌≡◌, ℕ, ◌/◌, ◌%◌, ◌^◌, ◌<◌, ◌≤◌, Bool, true, false, ◌&&◌, ◌||◌, not, refl, sym, ◌∙◌, ap, arith}
use Rattle.std.specs.Prelude.{nat_lt, nat_le}
use Rattle.std.proofs.lemmas.Bool.{and_from, and_parts, leb-true, le-leb, ltb-true, lt-ltb}
use Rattle.pci_spec.specs.Slot.{Slot}
use Rattle.pci_spec.specs.System.{Space, Io, Memory, is_window}
use Rattle.pci_spec.specs.System as system
use Rattle.judge_spec.specs.Given.{Given, has_isa, is_isa_port, is_cut}
use Rattle.judge_spec.specs.Claims.{Own, Legacy, Palette, forwards_else, passes_else}
use Rattle.judge_spec.specs.IsaLaws.{IsaLeavesClaims, IsaLeavesForwards, IsaLeavesPasses, IsaTakesWhole, nobody_has_isa}

pub not_cut : (given : Given) (slot : Slot) → has_isa given slot ≡ false → (space : Space) (a : ℕ) → is_cut given space a slot ≡ false
not_cut given slot none Io a = ap (λ b. b && is_isa_port a) none
not_cut given slot none Memory a = refl

same_cut : (given : Given) (slot : Slot) → has_isa given slot ≡ false → (space : Space) (a : ℕ) → is_cut given space a slot ≡ is_cut (nobody_has_isa given) space a slot
same_cut given slot none space a = not_cut given slot none space a ∙ sym (not_cut (nobody_has_isa given) slot refl space a)

pub isa_leaves_claims : IsaLeavesClaims
isa_leaves_claims given f (Own part) space a none = (
  λ own. record { claims = own.claims; kept = ap (λ b. is_window part && b) (sym (same_cut given f.slot none space a)) ∙ own.kept },
  λ own. record { claims = own.claims; kept = ap (λ b. is_window part && b) (same_cut given f.slot none space a) ∙ own.kept },
)
isa_leaves_claims given f Legacy space a none = (
  λ h. record { address = h.address; claims = h.claims },
  λ h. record { address = h.address; claims = h.claims },
)
isa_leaves_claims given f Palette space a none = (
  λ h. record { address = h.address; claims = h.claims },
  λ h. record { address = h.address; claims = h.claims },
)

pub isa_leaves_forwards : IsaLeavesForwards
isa_leaves_forwards given space a b none = ap (λ cut. (system.forwards space a b && not cut) || forwards_else given space a b) (same_cut given b.slot none space a)

pub isa_leaves_passes : IsaLeavesPasses
isa_leaves_passes given space prefetchable a b none = ap (λ cut. (system.passes space prefetchable a b && not cut) || passes_else given space a b) (same_cut given b.slot none space a)

-- ---- blocks of 256

-- two conditions that imply one another are one
alike : (x y : Bool) → (x ≡ true → y ≡ true) → (y ≡ true → x ≡ true) → x ≡ y
alike true y on back = sym (on refl)
alike false true on back = back refl
alike false false on back = refl

taken_to : (a b : ℕ) → a / 256 ≡ b / 256 → is_isa_port a ≡ true → is_isa_port b ≡ true
taken_to a b same taken =
    let parts = and_parts (nat_lt a (2 ^ 16)) (nat_le 0x100 (a % 0x400)) taken in
    let low : a < 65536 = ltb-true _ _ parts.0 in
    let high : 256 ≤ a % 1024 = leb-true _ _ parts.1 in
    and_from (nat_lt b (2 ^ 16)) (nat_le 0x100 (b % 0x400)) (lt-ltb _ _ (let is : b < 65536 = omega (arith, low, same) in is)) (le-leb _ _ (let is : 256 ≤ b % 1024 = omega (arith, high, same) in is))

pub isa_takes_whole : IsaTakesWhole
isa_takes_whole a b same = alike (is_isa_port a) (is_isa_port b) (taken_to a b same) (taken_to b a (sym same))
