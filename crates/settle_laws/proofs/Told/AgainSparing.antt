-- Settled again with room behind slots nothing is written and the same spares are denied, whatever is told.
use Rattle.std.proofs.Common.{◌≡◌, List, [], map, false, true, sym, subst, Some}
use Rattle.std.specs.List.{Contains}
use Rattle.std.proofs.lemmas.Bool.{cond_both}
use Rattle.pci_spec.specs.Window.{WindowKind, has_window}
use Rattle.pci_spec.specs.System.{System, Function}
use Rattle.pci_spec.specs.Machine.{Write, system_after}
use Rattle.settle_spec.specs.FirstPlace.{Extent}
use Rattle.settle_spec.specs.Growing.{finally_kept}
use Rattle.settle_spec.specs.Items.{spare_of}
use Rattle.settle_spec.specs.Kept.{Kept}
use Rattle.settle_spec.specs.Lists.{Request}
use Rattle.settle_spec.specs.SpareLaws.{kept_sparing, result_sparing, result_of}
use Rattle.settle_spec.specs.Sparing.{without_slots, have_spares, placing_request, denied, settle_sparing}
use Rattle.settle_spec.specs.Stands.{window_part}
use Rattle.settle_spec.specs.Writes.{Settled}
use Rattle.settle_spec.specs.Keeping.Writes.{settle_keeping}
use Rattle.settle_laws.specs.StandingTold.Kept.{LinesAreForward}
use Rattle.settle_laws.specs.Keeping.PlacesLaws.{CanSettle}
use Rattle.settle_laws.specs.SparingLaws.{slot_and_register}
use Rattle.settle_laws.specs.ToldAgainLaws.{IsSettledAwake, CanAskAwake, ToldSparingSettlesOnce, ToldSparesHaveRoom, has_room_off}
use Rattle.settle_laws.proofs.Keeping.Stopping.{writes_settle}
use Rattle.settle_laws.proofs.Told.Ended.{ToldEnd, told_end}
use Rattle.settle_laws.proofs.Told.AgainLaws.{start}
use Rattle.settle_laws.proofs.Told.Settling.{sparing_can}
use Rattle.settle_laws.proofs.Told.Forward.{told_forward}
use Rattle.settle_laws.proofs.Wishing.Again.{IsSettledSparing, kept_settle_once, room_again}
use Rattle.settle_laws.proofs.Wishing.SameDenied.{kept_deny_alike}
use Rattle.settle_laws.proofs.Wishing.Sparing.{sparing_gives}
use Rattle.settle_laws.proofs.Wishing.Spots.{spare_has_spot}

-- ---- a settling with wishes

module _ (q : Request) (s : System) (writes : List Write) (asked : CanAskAwake q s) (kept : q.anew ≡ false) (settles : settle_sparing q s ≡ Settled writes) where
  abbrev p : Request
  p = placing_request q s

  abbrev i : Kept
  i = finally_kept p s

  abbrev j : Kept
  j = kept_sparing q s

  abbrev t : System
  t = result_sparing q s

  forward : LinesAreForward p
  forward = cond_both (have_spares q s) q (without_slots q) LinesAreForward (λ spares. told_forward q asked.told) (λ none. told_forward q asked.told)

  awake_placing : p.told.asleep ≡ []
  awake_placing = cond_both (have_spares q s) q (without_slots q) (λ r. r.told.asleep ≡ []) (λ spares. asked.awake) (λ none. asked.awake)

  kept_placing : p.anew ≡ false
  kept_placing = cond_both (have_spares q s) q (without_slots q) (λ r. r.anew ≡ false) (λ spares. kept) (λ none. kept)

  beside : settle_keeping p s j ≡ Settled writes
  beside = (sparing_gives q s writes settles).0

  end : ToldEnd p s j writes
  end = told_end p s j writes beside

  both : CanSettle p s i × CanSettle p s j
  both = sparing_can q s asked.admitted writes settles

  settled_awake : IsSettledAwake p s j writes
  settled_awake = record {
    can = both.1;
    forward = forward;
    awake = awake_placing;
    kept = kept_placing;
    settles = beside;
  }

  so : IsSettledSparing q s
  so = record { forward = told_forward q asked.told; base = both.0; can = both.1; start = start p s j writes settled_awake }

  after_is : system_after s writes ≡ t
  after_is = subst (λ ws. system_after s ws ≡ t) end.same (writes_settle p s j both.1)

  once : settle_sparing q (system_after s writes) ≡ Settled []
  once = subst (λ u. settle_sparing q u ≡ Settled []) (sym after_is) (kept_settle_once q s so)

  same_denied : map slot_and_register (denied q (system_after s writes)) ≡ map slot_and_register (denied q s)
  same_denied = subst (λ u. map slot_and_register (denied q u) ≡ map slot_and_register (denied q s)) (sym after_is) (kept_deny_alike q s so)

  has_room : (c : WindowKind) (b : Function) (e : Extent) → Contains s b → spare_of q c b ≡ Some e → has_window c b.probe ≡ true → (Contains (denied q s) (window_part c b) → ⊥) → has_room_off q t c (result_of q s b) e ≡ true
  has_room c b e listed spare there free = room_again q s so c b e listed spare (spare_has_spot p q s i both.0 c b listed e there spare free)

-- The law: nothing is written, and the same spares are denied.
pub told_sparing_settles_once : ToldSparingSettlesOnce
told_sparing_settles_once q s writes asked kept settles = (once q s writes asked kept settles, same_denied q s writes asked kept settles)

-- The law: what isn't denied has room off lines.
pub told_spares_have_room : ToldSparesHaveRoom
told_spares_have_room q s writes c b e asked kept settles listed spare there free = has_room q s writes asked kept settles c b e listed spare there free
