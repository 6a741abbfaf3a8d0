-- How settling ends: by its lists, by what is told or fixed, by what lacks a place, or with the writes.
use Rattle.std.proofs.Common.{◌≡◌, Bool, List, [], false, None, Some, sym, ◌∙◌, ap}
use Rattle.std.specs.Bool.{if◌then◌else◌}
use Rattle.std.specs.List.{find}
use Rattle.pci_spec.specs.Machine.{Write}
use Rattle.pci_spec.specs.System.{System, register_of}
use Rattle.judge_spec.specs.ToldClaims.{told_register}
use Rattle.judge_spec.specs.ToldRegion.{ToldRegion, regions_from}
use Rattle.settle_spec.specs.Lists.{Request, are_bad_lists}
use Rattle.settle_spec.specs.Parts.{FunctionPart}
use Rattle.settle_spec.specs.Stands.{stands}
use Rattle.settle_spec.specs.Writes.{Settling, BadLists, Fixed, NotKept, Settled, or_fixed, or_lack, or_write, fixed_without, fixed_write}
use Rattle.settle_spec.specs.Kept.{Kept}
use Rattle.settle_spec.specs.Keeping.Places.{lacking}
use Rattle.settle_spec.specs.Keeping.Writes.{settle_writes, settle_keeping, is_not_reached, does_not_stay, would_be_switched, earliest, or_told, or_not_staying, or_written}
use Rattle.pci_settle.specs.Endings.{then_writes, after_lists, AreKeptStanding, AreKeptStaying}

-- where nothing is told no range is found
pub none_told : (q : Request) → q.told.ranges ≡ [] → (test : ToldRegion → Bool) → earliest q test ≡ None
none_told q untold test = ap (λ ranges. find test (regions_from (told_register 0) ranges)) untold

module _ (q : Request) (s : System) (keep : Kept) where
  pub ends_fine : are_bad_lists q.roots q.lists ≡ false → settle_keeping q s keep ≡ after_lists q s keep
  ends_fine fine = ap (λ b. if b then BadLists else after_lists q s keep) fine

  abbrev by_room : Settling
  by_room = or_lack (lacking q s keep) (or_written q s keep (Settled (settle_writes q s keep)))

  abbrev by_staying : Settling
  by_staying = or_not_staying q s keep by_room

  -- a told range that is on doesn't stand
  pub ends_unreached : (x : ToldRegion) → earliest q (is_not_reached q s) ≡ Some x → after_lists q s keep ≡ NotKept x.told.slot x.register
  ends_unreached x is = ap (λ o. or_told o (or_fixed (fixed_without (stands q s) q s) by_staying)) is

  -- a fixed part doesn't stand
  pub ends_unstanding : earliest q (is_not_reached q s) ≡ None → (r : FunctionPart) → fixed_without (stands q s) q s ≡ Some r
      → after_lists q s keep ≡ Fixed r.function.slot (register_of r.function r.part)
  ends_unstanding told r is =
      ap (λ o. or_told o (or_fixed (fixed_without (stands q s) q s) by_staying)) told ∙ ap (λ o. or_fixed o by_staying) is

  module _ (stand : AreKeptStanding q s) where
    past_standing : after_lists q s keep ≡ by_staying
    past_standing =
        ap (λ o. or_told o (or_fixed (fixed_without (stands q s) q s) by_staying)) stand.told ∙ ap (λ o. or_fixed o by_staying) stand.fixed

    -- a told range doesn't stay
    pub ends_cut : (x : ToldRegion) → earliest q (does_not_stay q s keep) ≡ Some x → after_lists q s keep ≡ NotKept x.told.slot x.register
    ends_cut x is = past_standing ∙ ap (λ o. or_told o (or_fixed (fixed_without keep.stays q s) by_room)) is

    -- a fixed part doesn't stay
    pub ends_unstaying : earliest q (does_not_stay q s keep) ≡ None → (r : FunctionPart) → fixed_without keep.stays q s ≡ Some r
        → after_lists q s keep ≡ Fixed r.function.slot (register_of r.function r.part)
    ends_unstaying told r is =
        past_standing ∙ ap (λ o. or_told o (or_fixed (fixed_without keep.stays q s) by_room)) told ∙ ap (λ o. or_fixed o by_room) is

    module _ (stay : AreKeptStaying q s keep) where
      pub past_fixed : after_lists q s keep ≡ or_lack (lacking q s keep) (or_written q s keep (Settled (settle_writes q s keep)))
      past_fixed =
          past_standing ∙ ap (λ o. or_told o (or_fixed (fixed_without keep.stays q s) by_room)) stay.told ∙ ap (λ o. or_fixed o by_room) stay.fixed

      -- nothing lacks a place
      module _ (room : lacking q s keep ≡ None) (writes : List Write) (are : writes ≡ settle_writes q s keep) where
        past_room : after_lists q s keep ≡ then_writes q s keep writes
        past_room =
            past_fixed ∙ ap (λ o. or_lack o (or_written q s keep (Settled (settle_writes q s keep)))) room ∙ ap (then_writes q s keep) (sym are)

        abbrev by_told : Settling
        by_told = or_told (earliest q (would_be_switched q s keep)) (Settled writes)

        pub ends_written : (w : Write) → fixed_write q writes ≡ Some w → after_lists q s keep ≡ Fixed w.slot w.offset
        ends_written w is = past_room ∙ ap (λ o. or_write o by_told) is

        module _ (unwritten : fixed_write q writes ≡ None) where
          -- a told range would be switched
          pub ends_switched : (x : ToldRegion) → earliest q (would_be_switched q s keep) ≡ Some x → after_lists q s keep ≡ NotKept x.told.slot x.register
          ends_switched x is = past_room ∙ ap (λ o. or_write o by_told) unwritten ∙ ap (λ o. or_told o (Settled writes)) is

          pub ends_settled : earliest q (would_be_switched q s keep) ≡ None → after_lists q s keep ≡ Settled writes
          ends_settled none = past_room ∙ ap (λ o. or_write o by_told) unwritten ∙ ap (λ o. or_told o (Settled writes)) none
