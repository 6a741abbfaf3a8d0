-- Where all is placed anew and nothing is fixed, systems that are alike are settled alike: bad lists and want of room alone are refused.
use Rattle.settle_laws.proofs.Told.OnlyHeld.{held_of}
use Rattle.std.proofs.Common.{◌≡◌, ◌&&◌, List, [], Bool, true, false, not, refl, sym, ◌∙◌, ap, Option, None, Some}
use Rattle.std.specs.Bool.{IsTrue, beq, if◌then◌else◌}
use Rattle.std.specs.List.{AllZip, list_any}
use Rattle.std.specs.Option.{is_some}
use Rattle.pci_spec.specs.Machine.{Write}
use Rattle.pci_spec.specs.Slot.{same_slot}
use Rattle.pci_spec.specs.System.{System}
use Rattle.pci_spec.proofs.BusRanges.{all_from}
use Rattle.settle_spec.specs.Lists.{Request, are_bad_lists}
use Rattle.settle_spec.specs.Parts.{FunctionPart, system_parts}
use Rattle.settle_spec.specs.Stands.{is_fixed_part, stands}
use Rattle.settle_spec.specs.Items.{PlacingItem}
use Rattle.settle_spec.specs.Writes.{Settling, BadLists, Fixed, NoRoom, Settled, fixed_without, fixed_write, or_fixed, or_lack, or_write, NotKept}
use Rattle.settle_spec.specs.Kept.{Kept, as_it_stands, growing}
use Rattle.settle_spec.specs.Keeping.Places.{lacking}
use Rattle.settle_spec.specs.Keeping.Writes.{settle_writes, settle_keeping}
use Rattle.settle_spec.specs.Growing.{kept_by, settle_growing, finally_kept}
use Rattle.settle_spec.specs.Sparing.{without_slots, is_settled, keep_alike, have_spares}
use Rattle.settle_spec.proofs.Anew.{none_stays}
use Rattle.settle_laws.proofs.Alike.{IsAlike}
use Rattle.settle_laws.proofs.AlikePlaces.{lack_same}
use Rattle.settle_laws.proofs.Untold.{settled_untold}
use Rattle.settle_laws.proofs.NothingGrows.{growing_is_standing, anew_nothing_grows}
use Rattle.settle_laws.proofs.NothingSettled.{find_none}

module _ (q : Request) (untold : q.told.ranges ≡ []) (unfixed : q.fixed ≡ []) where
  none_without : (test : FunctionPart → Bool) (s : System) → fixed_without test q s ≡ None
  none_without test s = find_none (λ r. is_fixed_part q r && not (test r)) (system_parts q s) (λ r listed. ap (λ slots. list_any (same_slot r.function.slot) slots && not (test r)) unfixed)

  none_written : (writes : List Write) → fixed_write q writes ≡ None
  none_written writes = find_none (λ (w : Write). list_any (same_slot w.slot) q.fixed) writes (λ w listed. ap (list_any (same_slot w.slot)) unfixed)

  -- what has good lists and room for all is settled, and nothing else
  settled_where : (s : System) (k : Kept) → is_settled (settle_keeping q s k) ≡ (not (are_bad_lists q.roots q.lists) && not (is_some (lacking q s k)))
  settled_where s k =
      let stand = none_without (stands q s) s in
      let keep = none_without k.stays s in
      let written = none_written (settle_writes q s k) in
      ap is_settled (settled_untold q untold s k)
      ∙ (λ i. is_settled (if are_bad_lists q.roots q.lists then BadLists
      else or_fixed (stand i) (or_fixed (keep i) (or_lack (lacking q s k) (or_write (written i) (Settled (settle_writes q s k)))))))
      ∙ by (are_bad_lists q.roots q.lists) (lacking q s k)
    where
      by : (bad : Bool) (lack : Option PlacingItem) → is_settled (if bad then BadLists else or_lack lack (Settled (settle_writes q s k))) ≡ (not bad && not (is_some lack))
      by true lack = refl
      by false None = refl
      by false (Some i) = refl

  module _ (anew : IsTrue q.anew) where
    is_settled_where : (s : System) → is_settled (settle_growing q s) ≡ (not (are_bad_lists q.roots q.lists) && not (is_some (lacking q s (as_it_stands q s))))
    is_settled_where s = ap is_settled (anew_nothing_grows q untold s anew) ∙ settled_where s (as_it_stands q s)

    pub settled_alike : (s t : System) → AllZip IsAlike s t → is_settled (settle_growing q s) ≡ is_settled (settle_growing q t)
    settled_alike s t pairs =
        is_settled_where s
        ∙ ap (λ lacks. not (are_bad_lists q.roots q.lists) && not lacks) (lack_same q anew s t pairs (as_it_stands q s) (as_it_stands q t) (none_stays q s anew untold) (none_stays q t anew untold))
        ∙ sym (is_settled_where t)

-- ---- new windows have spares alike

module _ (q : Request) (untold : q.told.ranges ≡ []) (anew : IsTrue q.anew) where
  none_finally : (s : System) (r : FunctionPart) → (finally_kept q s).stays r ≡ false
  none_finally s r = by (settle_keeping q s (growing q s))
    where
      by : (o : Settling) → (kept_by o (growing q s) (as_it_stands q s)).stays r ≡ false
      by (Settled writes) = ap (λ (k : Kept). k.stays r) (growing_is_standing q (held_of q untold) s anew) ∙ none_stays q s anew untold r
      by BadLists = none_stays q s anew untold r
      by (Fixed slot register) = none_stays q s anew untold r
      by (NoRoom class slot register size alignment) = none_stays q s anew untold r
      by (NotKept slot register) = none_stays q s anew untold r

keep_nothing : (q : Request) → q.told.ranges ≡ [] → IsTrue q.anew → (s : System) → keep_alike q s (finally_kept (without_slots q) s) (finally_kept q s) ≡ true
keep_nothing q untold anew s =
    let k = finally_kept (without_slots q) s in
    let j = finally_kept q s in
    all_from (λ r. beq (k.stays r) (j.stays r)) (system_parts q s) (λ r listed.
    let before = none_finally (without_slots q) untold anew s r in
    let after = none_finally q untold anew s r in
    λ i. beq (before i) (after i))

pub have_alike : (q : Request) → q.told.ranges ≡ [] → q.fixed ≡ [] → IsTrue q.anew → (s t : System) → AllZip IsAlike s t → have_spares q s ≡ have_spares q t
have_alike q untold unfixed anew s t pairs =
    let settled = settled_alike q untold unfixed anew s t pairs in
    let keep = keep_nothing q untold anew s ∙ sym (keep_nothing q untold anew t) in
    λ i. settled i && keep i
