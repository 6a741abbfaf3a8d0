-- Laws of settling with room behind slots: wishes change nothing else, what settling comes to is sound, and its writes can stop.
use Rattle.std.specs.Prelude.{◌≡◌, ℕ, ◌≤◌, ◌⊎◌, Bool, true, false, IsTrue, IsFalse, Some, List, [], length, map, take}
use Rattle.std.specs.List.{Contains}
use Rattle.pci_spec.specs.Slot.{Slot}
use Rattle.pci_spec.specs.Window.{WindowKind, has_window}
use Rattle.pci_spec.specs.Decoded.{Range}
use Rattle.pci_spec.specs.System.{System, Function, IsSystem, Part, register_of}
use Rattle.pci_spec.specs.Bus.{IsNested}
use Rattle.pci_spec.specs.Machine.{Write, system_after}
use Rattle.pci_spec.specs.Sound.{IsSound}
use Rattle.settle_spec.specs.FirstPlace.{Extent}
use Rattle.settle_spec.specs.Lists.{Request}
use Rattle.settle_spec.specs.Parts.{FunctionPart}
use Rattle.settle_spec.specs.Items.{spare_of}
use Rattle.settle_spec.specs.Writes.{Settling, Fixed, Settled}
use Rattle.settle_spec.specs.Kept.{Kept, unwished, as_it_stands}
use Rattle.settle_spec.specs.Keeping.Registers.{settled, settled_function}
use Rattle.settle_spec.specs.Keeping.Writes.{closings, settle_keeping}
use Rattle.settle_spec.specs.Wishes.{range_then, range_of_window, ending_if, ending, spared_if, spared_within, spared_behind, Granted, granted}
use Rattle.settle_spec.specs.Sparing.{is_settled, placing_request, grants, denied, settle_sparing}
use Rattle.settle_spec.specs.SpareLaws.{kept_sparing, result_sparing, has_room_for, result_of}
use Rattle.settle_laws.specs.KeptLaws.{WishesNothing}
use Rattle.settle_laws.specs.GrowingLaws.{CanBeAsked}
use Rattle.settle_laws.specs.Keeping.PlacesLaws.{CanSettle}
use Rattle.std.specs.Option.{is_some}

-- ---- wishes

-- Wishes change nothing of what is kept but the room that is kept free:
abbrev pub WishesChangeRoomAlone : Type 0
WishesChangeRoomAlone =
    (q : Request) (s : System) (asked : Request) (k : Kept)
    → unwished (granted q s (spare_of asked) k).kept ≡ unwished k

-- and what can be settled can be settled with the wishes that are granted, so laws of what can be settled hold with them.
abbrev pub GrantedCanSettle : Type 0
GrantedCanSettle =
    (q : Request) (s : System) (asked : Request) (k : Kept) → CanSettle q s k
    → CanSettle q s (granted q s (spare_of asked) k).kept

-- Whether a window can end later is told by the window over its bridge, as buses rise on the way down:
abbrev pub EndingIsByBus : Type 0
EndingIsByBus =
    (q : Request) (s : System) (c : WindowKind) (b : Function) (last : ℕ) (k : Kept) → IsSystem s
    → IsNested q.roots s → Contains s b
    → ending q s c b last k ≡ ending_if q s c (ending q s c) b last k (range_of_window q s c b k)

-- and so is room for a spare.
abbrev pub SparedIsByBus : Type 0
SparedIsByBus =
    (q : Request) (s : System) (c : WindowKind) (b : Function) (e : Extent) (behind : List Range) (k : Kept)
    → IsSystem s → IsNested q.roots s → Contains s b
    → spared_within q s c 256 b e behind k
    ≡ spared_if q s c (spared_within q s c 256) b e behind k (range_of_window q s c b k)

-- ---- the whole

-- So what settling comes to is sound.
abbrev pub SettledSparingIsSound : Type 0
SettledSparingIsSound =
    (q : Request) (s : System) (writes : List Write) → CanBeAsked q s
    → settle_sparing q s ≡ Settled writes → IsSound q.roots (system_after s writes)

-- the closing writes
abbrev pub sparing_closings : Request → System → List Write
sparing_closings q s = closings (placing_request q s) s (grants q s).kept s

-- The writes can stop anywhere once the closing ones are made, and from a sound start anywhere at all.
abbrev pub SettlingSparingCanStop : Type 0
SettlingSparingCanStop =
    (q : Request) (s : System) (writes : List Write) (n : ℕ) → CanBeAsked q s
    → settle_sparing q s ≡ Settled writes
    → (length (sparing_closings q s) ≤ n) ⊎ IsSound q.roots s
    → IsSound q.roots (system_after s (take n writes))

-- ---- what is denied has no room

-- A window has room for its spare in the result, or else none could be made beside all that is kept then.
abbrev pub SparesAreAnswered : Type 0
SparesAreAnswered =
    (q : Request) (s : System) (c : WindowKind) (b : Function) (e : Extent) → CanBeAsked q s
    → Contains s b → spare_of q c b ≡ Some e → IsTrue (has_window c b.probe) → IsTrue (is_settled (settle_sparing q s))
    → IsTrue (has_room_for q (result_sparing q s) c (result_of q s b) e)
    ⊎ IsFalse (is_some (spared_behind (placing_request q s) s c b e (kept_sparing q s)))

-- ---- settled again

-- a window's slot and register
abbrev pub slot_and_register : FunctionPart → Slot × ℕ
slot_and_register r = (r.function.slot, register_of r.function r.part)

-- Settled again nothing is written, and the same spares are denied, in the same order.
pub record IsSettledOnce (q : Request) (s : System) : Type 0 where
  pub once : settle_sparing q (result_sparing q s) ≡ Settled []
  pub denied : map slot_and_register (denied q (result_sparing q s)) ≡ map slot_and_register (denied q s)

-- What is settled is settled once, unless all is placed anew and something is fixed.
abbrev pub SparingSettlesOnce : Type 0
SparingSettlesOnce =
    (q : Request) (s : System) → CanBeAsked q s → (IsTrue q.anew → q.fixed ≡ [])
    → IsTrue (is_settled (settle_sparing q s)) → IsSettledOnce q s

abbrev pub is_settled_or_fixed : Settling → Bool
is_settled_or_fixed (Settled writes) = true
is_settled_or_fixed (Fixed slot register) = true
is_settled_or_fixed refused = false

-- In any case it is settled again, or else refused for what is fixed.
abbrev pub SparingSettlesAgain : Type 0
SparingSettlesAgain =
    (q : Request) (s : System) → CanBeAsked q s → IsTrue (is_settled (settle_sparing q s))
    → IsTrue (is_settled_or_fixed (settle_sparing q (result_sparing q s)))

-- Where all is placed anew, wishes come to the same beside their result: each part has the addresses that it had, and the
-- same spares are denied.
pub record ComeToTheSame (q : Request) (s : System) (g h : Granted) : Type 0 where
  pub ranges : (f : Function) (p : Part) → Contains s f
      → range_then q (settled q s g.kept) h.kept record { function = settled_function q s g.kept f; part = p }
      ≡ range_then q s g.kept record { function = f; part = p }
  pub denied : map slot_and_register h.denied ≡ map slot_and_register g.denied

abbrev pub AnewWishesAgain : Type 0
AnewWishesAgain =
    (q asked : Request) → q.told.ranges ≡ [] → (s : System) (k m : Kept) → CanSettle q s k → IsTrue q.anew → WishesNothing k → WishesNothing m
    → ((r : FunctionPart) → IsFalse (m.stays r))
    → ComeToTheSame q s (granted q s (spare_of asked) k)
    (granted q (settled q s (granted q s (spare_of asked) k).kept) (spare_of asked) m)

-- What is settled so is settled so again by no write.
abbrev pub AnewWishesSettleOnce : Type 0
AnewWishesSettleOnce =
    (q asked : Request) → q.told.ranges ≡ [] → (s : System) (k m : Kept) → CanSettle q s k → IsTrue q.anew → WishesNothing k → WishesNothing m
    → CanSettle q (settled q s (granted q s (spare_of asked) k).kept) m
    → IsTrue (is_settled (settle_keeping q s (granted q s (spare_of asked) k).kept))
    → settle_keeping q (settled q s (granted q s (spare_of asked) k).kept)
    (granted q (settled q s (granted q s (spare_of asked) k).kept) (spare_of asked) m).kept
    ≡ Settled []

-- It can be settled so as it stands.
abbrev pub AnewResultCanSettle : Type 0
AnewResultCanSettle =
    (q asked : Request) → q.told.ranges ≡ [] → (s : System) (k : Kept) → CanSettle q s k → IsTrue q.anew
    → CanSettle q (settled q s (granted q s (spare_of asked) k).kept)
    (as_it_stands q (settled q s (granted q s (spare_of asked) k).kept))
