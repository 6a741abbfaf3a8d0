-- With nothing told each word of judging is the one without it.
use Rattle.std.proofs.Common.{◌≡◌, ℕ, ◌<◌, ◌≤◌, inl, inr, List, true, false, ◌||◌, sym, ◌∙◌, ap, arith, None, Some}
use Rattle.std.specs.Prelude.{◌↔◌, IsTrue}
use Rattle.std.proofs.lemmas.Bool.{cases_Bool}
use Rattle.std.proofs.Math.Bool.{or-false}
use Rattle.pci_spec.specs.Slot.{Slot}
use Rattle.pci_spec.specs.System.{System, Space}
use Rattle.pci_spec.specs.Fault.{Orphan, Unreached, Clash, Split, Address, RegionName, TwoRegions, address_in, named_region, named_regions}
use Rattle.pci_spec.specs.Fault as plain
use Rattle.pci_spec.specs.JudgingLaws as plain_laws
use Rattle.pci_spec.proofs.Members.{in_nil}
use Rattle.judge_spec.specs.Given.{Given}
use Rattle.judge_spec.specs.Claims as untold
use Rattle.judge_spec.specs.Fault as untold_fault
use Rattle.judge_spec.specs.AllFaults as untold_all
use Rattle.judge_spec.specs.Told.{ToldRange}
use Rattle.judge_spec.specs.ToldClaims.{nothing_told, IsRangeAt, ClaimsOnBus, may_share}
use Rattle.judge_spec.specs.ToldFault.{Known, IsIn, IsHeldOrphan, IsOutside, IsUnreached, IsClash, IsSplit}
use Rattle.judge_spec.specs.ToldAllFaults.{IsClashOf, IsSplitOf, IsNamed, AreAllOfJudging, region_number}
use Rattle.judge_spec.specs.ToldJudgingLaws.{SameClaimsOnBus, SameToldFaults, NoneNotListed, SameOrder}
use Rattle.judge_spec.proofs.Judging.{shared_slot}
use Rattle.judge_spec.proofs.Naming.{named_register}

-- ---- the order of registers

pub same_order : SameOrder
same_order first fr second sr low high = (
  λ less. omega (arith, less, low, high),
  λ less. omega (arith, less, low, high),
)

pub same_order-le : (first : Slot) (fr : ℕ) (second : Slot) (sr : ℕ) → fr < 256 → sr < 256
    → (region_number first fr ≤ region_number second sr) ↔ (plain_laws.region_number first fr ≤ plain_laws.region_number second sr)
same_order-le first fr second sr low high = (
  λ less. omega (arith, less, low, high),
  λ less. omega (arith, less, low, high),
)

-- ---- registers of faults

-- the registers that a fault of judging names stand below the told ranges
abbrev pub HasLowRegisters : untold_fault.Fault → Type 0
HasLowRegisters (untold_fault.Known (Unreached slot register space a bridge)) = register < 256
HasLowRegisters (untold_fault.Known (Clash bus space a first fr second sr)) = (fr < 256) × (sr < 256)
HasLowRegisters (untold_fault.Known (Split space a first fr second sr)) = (fr < 256) × (sr < 256)
HasLowRegisters (untold_fault.Known fault) = IsTrue true
HasLowRegisters (untold_fault.Outside slot register space a) = register < 256

module _ (asleep : List Slot) where
  pub no_range_at : (region : RegionName) (r : ToldRange) → IsRangeAt (nothing_told asleep) region r → ⊥
  no_range_at region r named = let e : None ≡ Some r = named.at in cc

  pub same_share : (s : Slot) (r : ℕ) (t : Slot) (q : ℕ) → may_share (nothing_told asleep) s r t q ≡ untold.may_share s r t q
  same_share s r t q = or-false (untold.may_share s r t q || false) ∙ or-false (untold.may_share s r t q)

  pub no_held_orphan : (roots : List ℕ) (s : System) (slot : Slot) → IsHeldOrphan (nothing_told asleep) roots s slot → ⊥
  no_held_orphan roots s slot orphan = in_nil orphan.r orphan.is_told

  module _ (given : Given) (s : System) where
    pub untold_claims : (bus : ℕ) (at : Address) (region : RegionName) → ClaimsOnBus (nothing_told asleep) given s bus at region → untold.ClaimsOnBus given s bus at region
    untold_claims bus at region (inl claims) = claims
    untold_claims bus at region (inr claims) = absurd (no_range_at region claims.r claims.named)

    -- ---- faults

    module _ (roots : List ℕ) where
      outside_untold : (region : RegionName) (at : Address) → IsOutside (nothing_told asleep) given roots s region at → untold_fault.IsOutside given roots s region at
      outside_untold region at (inl outside) = outside
      outside_untold region at (inr outside) = absurd (no_range_at region outside.r outside.needs.named)

      unreached_untold : (region : RegionName) (at : Address) (bridge : Slot) → IsUnreached (nothing_told asleep) given roots s region at bridge → untold_fault.IsUnreached given roots s region at bridge
      unreached_untold region at bridge (inl unreached) = unreached
      unreached_untold region at bridge (inr unreached) = absurd (no_range_at region unreached.r unreached.needs.named)

      clash_untold : (bus : ℕ) (at : Address) (two : TwoRegions) → IsClash (nothing_told asleep) given roots s bus at two → untold_fault.IsClash given roots s bus at two
      clash_untold bus at two c = record {
        gets = c.gets;
        claims_first = untold_claims bus at two.first c.claims_first;
        claims_second = untold_claims bus at two.second c.claims_second;
        differ = c.differ;
        apart = sym (same_share two.first.slot two.first.register two.second.slot two.second.register) ∙ c.apart;
      }

      clash_told : (bus : ℕ) (at : Address) (two : TwoRegions) → untold_fault.IsClash given roots s bus at two → IsClash (nothing_told asleep) given roots s bus at two
      clash_told bus at two c = record {
        gets = c.gets;
        claims_first = inl c.claims_first;
        claims_second = inl c.claims_second;
        differ = c.differ;
        apart = same_share two.first.slot two.first.register two.second.slot two.second.register ∙ c.apart;
      }

      split_untold : (at : Address) (two : TwoRegions) → IsSplit (nothing_told asleep) given roots s at two → untold_fault.IsSplit given roots s at two
      split_untold at two c = record {
        root_first = c.root_first;
        root_second = c.root_second;
        buses = c.buses;
        sent_first = c.sent_first;
        sent_second = c.sent_second;
        claims_first = untold_claims two.first.slot.bus at two.first c.claims_first;
        claims_second = untold_claims two.second.slot.bus at two.second c.claims_second;
      }

      -- two regions on two buses may not share an address
      two_buses : (first second : Slot) (fr sr : ℕ) → (first.bus ≡ second.bus → ⊥) → untold.may_share first fr second sr ≡ false
      two_buses first second fr sr buses = elim (cases_Bool (untold.may_share first fr second sr)) [
        | inr apart ↦ apart
        | inl share ↦ absurd (buses (ap (λ (x : Slot). x.bus) (shared_slot first second fr sr share)))
      ]

      split_told : (at : Address) (two : TwoRegions) → untold_fault.IsSplit given roots s at two → IsSplit (nothing_told asleep) given roots s at two
      split_told at two c = record {
        root_first = c.root_first;
        root_second = c.root_second;
        buses = c.buses;
        sent_first = c.sent_first;
        sent_second = c.sent_second;
        claims_first = inl c.claims_first;
        claims_second = inl c.claims_second;
        apart = same_share two.first.slot two.first.register two.second.slot two.second.register ∙ two_buses two.first.slot two.second.slot two.first.register two.second.register c.buses;
      }

      plain_same : (fault : plain.Fault) → IsIn (nothing_told asleep) given roots s (Known (untold_fault.Known fault)) ↔ untold_fault.IsIn given roots s (untold_fault.Known fault)
      plain_same fault = elim fault as (λ fault. (IsIn (nothing_told asleep) given roots s (Known (untold_fault.Known fault)) → untold_fault.IsIn given roots s (untold_fault.Known fault))
          × (untold_fault.IsIn given roots s (untold_fault.Known fault) → IsIn (nothing_told asleep) given roots s (Known (untold_fault.Known fault)))) [
            | Orphan slot ↦ (
              λ h. elim h [ inl orphan ↦ orphan | inr held ↦ absurd (no_held_orphan roots s slot held) ],
              λ h. inl h,
            )
            | Unreached slot register space a bridge ↦ (λ h. unreached_untold (named_region slot register) (address_in space a) bridge h, λ h. inl h)
            | Clash bus space a first fr second sr ↦ (
              λ h. clash_untold bus (address_in space a) (named_regions first fr second sr) h,
              λ h. clash_told bus (address_in space a) (named_regions first fr second sr) h,
            )
            | Split space a first fr second sr ↦ (
              λ h. split_untold (address_in space a) (named_regions first fr second sr) h,
              λ h. split_told (address_in space a) (named_regions first fr second sr) h,
            )
            | _ ↦ (λ h. h, λ h. h)
          ]

      -- ---- what a list of all names

      clash_registers : (bus : ℕ) (space : Space) (a : ℕ) (first : Slot) (fr : ℕ) (second : Slot) (sr : ℕ) → untold_fault.IsClash given roots s bus (address_in space a) (named_regions first fr second sr) → (fr < 256) × (sr < 256)
      clash_registers bus space a first fr second sr c = (named_register given s bus space a first fr c.claims_first, named_register given s bus space a second sr c.claims_second)

      split_registers : (space : Space) (a : ℕ) (first : Slot) (fr : ℕ) (second : Slot) (sr : ℕ) → untold_fault.IsSplit given roots s (address_in space a) (named_regions first fr second sr) → (fr < 256) × (sr < 256)
      split_registers space a first fr second sr c = (named_register given s first.bus space a first fr c.claims_first, named_register given s second.bus space a second sr c.claims_second)

      clash_of_untold : (bus : ℕ) (space : Space) (a : ℕ) (first : Slot) (fr : ℕ) (second : Slot) (sr : ℕ) → IsClashOf (nothing_told asleep) given roots s bus (address_in space a) (named_regions first fr second sr)
          → untold_all.IsClashOf given roots s bus (address_in space a) (named_regions first fr second sr)
      clash_of_untold bus space a first fr second sr line =
          let there = clash_untold bus (address_in space a) (named_regions first fr second sr) line.there in
          let low = clash_registers bus space a first fr second sr there in
          record {
            there = there;
            rise = (same_order first fr second sr low.0 low.1).0 line.rise;
            least = λ b slot register clash less.
                let least_low = clash_registers bus space b slot register second sr clash in
                elim (line.least b slot register (clash_told bus (address_in space b) (named_regions slot register second sr) clash) ((same_order slot register second sr least_low.0 low.1).1 less)) [
                  | inl above ↦ inl above
                  | inr (same, le) ↦ inr (same, (same_order-le first fr slot register low.0 least_low.0).0 le)
                ];
          }

      clash_of_told : (bus : ℕ) (space : Space) (a : ℕ) (first : Slot) (fr : ℕ) (second : Slot) (sr : ℕ) → untold_all.IsClashOf given roots s bus (address_in space a) (named_regions first fr second sr)
          → IsClashOf (nothing_told asleep) given roots s bus (address_in space a) (named_regions first fr second sr)
      clash_of_told bus space a first fr second sr line =
          let low = clash_registers bus space a first fr second sr line.there in
          record {
            there = clash_told bus (address_in space a) (named_regions first fr second sr) line.there;
            rise = (same_order first fr second sr low.0 low.1).1 line.rise;
            least = λ b slot register told less.
                let clash = clash_untold bus (address_in space b) (named_regions slot register second sr) told in
                let least_low = clash_registers bus space b slot register second sr clash in
                elim (line.least b slot register clash ((same_order slot register second sr least_low.0 low.1).0 less)) [
                  | inl above ↦ inl above
                  | inr (same, le) ↦ inr (same, (same_order-le first fr slot register low.0 least_low.0).1 le)
                ];
          }

      split_of_untold : (space : Space) (a : ℕ) (first : Slot) (fr : ℕ) (second : Slot) (sr : ℕ) → IsSplitOf (nothing_told asleep) given roots s (address_in space a) (named_regions first fr second sr)
          → untold_all.IsSplitOf given roots s (address_in space a) (named_regions first fr second sr)
      split_of_untold space a first fr second sr line =
          let there = split_untold (address_in space a) (named_regions first fr second sr) line.there in
          let low = split_registers space a first fr second sr there in
          record {
            there = there;
            rise = (same_order first fr second sr low.0 low.1).0 line.rise;
            least = λ b slot register split less.
                let least_low = split_registers space b slot register second sr split in
                elim (line.least b slot register (split_told (address_in space b) (named_regions slot register second sr) split) ((same_order slot register second sr least_low.0 low.1).1 less)) [
                  | inl above ↦ inl above
                  | inr (same, le) ↦ inr (same, (same_order-le first fr slot register low.0 least_low.0).0 le)
                ];
          }

      split_of_told : (space : Space) (a : ℕ) (first : Slot) (fr : ℕ) (second : Slot) (sr : ℕ) → untold_all.IsSplitOf given roots s (address_in space a) (named_regions first fr second sr)
          → IsSplitOf (nothing_told asleep) given roots s (address_in space a) (named_regions first fr second sr)
      split_of_told space a first fr second sr line =
          let low = split_registers space a first fr second sr line.there in
          record {
            there = split_told (address_in space a) (named_regions first fr second sr) line.there;
            rise = (same_order first fr second sr low.0 low.1).1 line.rise;
            least = λ b slot register told less.
                let split = split_untold (address_in space b) (named_regions slot register second sr) told in
                let least_low = split_registers space b slot register second sr split in
                elim (line.least b slot register split ((same_order slot register second sr least_low.0 low.1).0 less)) [
                  | inl above ↦ inl above
                  | inr (same, le) ↦ inr (same, (same_order-le first fr slot register low.0 least_low.0).1 le)
                ];
          }

      named_same : (fault : plain.Fault) → IsNamed (nothing_told asleep) given roots s (untold_fault.Known fault) ↔ untold_all.IsNamed given roots s (untold_fault.Known fault)
      named_same fault = elim fault as (λ fault. (IsNamed (nothing_told asleep) given roots s (untold_fault.Known fault) → untold_all.IsNamed given roots s (untold_fault.Known fault))
          × (untold_all.IsNamed given roots s (untold_fault.Known fault) → IsNamed (nothing_told asleep) given roots s (untold_fault.Known fault))) [
            | Unreached slot register space a bridge ↦ (
              λ line. record {
                there = unreached_untold (named_region slot register) (address_in space a) bridge line.there;
                first = λ sp b other unreached. line.first sp b other (inl unreached);
              },
              λ line. record {
                there = inl line.there;
                first = λ sp b other unreached. line.first sp b other (unreached_untold (named_region slot register) (address_in sp b) other unreached);
              },
            )
            | Clash bus space a first fr second sr ↦ (λ line. clash_of_untold bus space a first fr second sr line, λ line. clash_of_told bus space a first fr second sr line)
            | Split space a first fr second sr ↦ (λ line. split_of_untold space a first fr second sr line, λ line. split_of_told space a first fr second sr line)
            | _ ↦ (λ h. h, λ h. h)
          ]

pub same_claims_on_bus : SameClaimsOnBus
same_claims_on_bus asleep given s bus at region = (λ h. untold_claims asleep given s bus at region h, λ h. inl h)

pub same_told_faults : SameToldFaults
same_told_faults asleep given roots s (untold_fault.Known fault) = plain_same asleep given s roots fault
same_told_faults asleep given roots s (untold_fault.Outside slot register space a) = (λ h. outside_untold asleep given s roots (named_region slot register) (address_in space a) h, λ h. inl h)

pub none_not_listed : NoneNotListed
none_not_listed asleep given roots s slot h = in_nil h.r h.is_told

-- what a list of all names
pub same_named : (asleep : List Slot) (given : Given) (roots : List ℕ) (s : System) (fault : untold_fault.Fault) → IsNamed (nothing_told asleep) given roots s fault ↔ untold_all.IsNamed given roots s fault
same_named asleep given roots s (untold_fault.Known fault) = named_same asleep given s roots fault
same_named asleep given roots s (untold_fault.Outside slot register space a) = (
  λ line. record {
    there = outside_untold asleep given s roots (named_region slot register) (address_in space a) line.there;
    least = λ sp b outside. line.least sp b (inl outside);
  },
  λ line. record {
    there = inl line.there;
    least = λ sp b outside. line.least sp b (outside_untold asleep given s roots (named_region slot register) (address_in sp b) outside);
  },
)

-- the lists of judging are the same
pub judging_same : (asleep : List Slot) (given : Given) (roots : List ℕ) (s : System) (faults : List untold_fault.Fault) → AreAllOfJudging (nothing_told asleep) given roots s faults ↔ untold_all.AreAllOfJudging given roots s faults
judging_same asleep given roots s faults = (
  λ all. record {
    each = λ f has. (same_named asleep given roots s f).0 (all.each f has);
    complete = λ f named. all.complete f ((same_named asleep given roots s f).1 named);
    rising = all.rising;
  },
  λ all. record {
    each = λ f has. (same_named asleep given roots s f).1 (all.each f has);
    complete = λ f named. all.complete f ((same_named asleep given roots s f).0 named);
    rising = all.rising;
  },
)
