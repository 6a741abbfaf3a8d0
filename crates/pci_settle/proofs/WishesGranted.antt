-- What is asked of a board, and what is granted on it.
use Rattle.std.proofs.Common.{◌≡◌, ℕ, ◌+◌, ◌<◌, List, [], ◌∷◌, ◌++◌, map, length, take, get_or, Bool, cond, false, arith, ap, sym, subst, refl, ◌∙◌, Option, Some, None}
use Rattle.std.specs.Bool.{nat_lt}
use Rattle.std.specs.Option.{option_map}
use Rattle.std.specs.List.{list_any, slice_get}
use Rattle.std.proofs.lemmas.List.{map-append, map_more}
use Rattle.std.proofs.lemmas.Option.{slice_get_within, slice_get_read, get_or_from_slice_get}
use Rattle.pci_spec.specs.Slot.{Slot, same_slot}
use Rattle.pci_spec.specs.Window.{WindowKind, IoWindow, MemoryWindow, PrefetchWindow, window_register}
use Rattle.pci_spec.specs.Decoded.{HasRecords}
use Rattle.pci_spec.specs.System.{System, Function, IsSystem}
use Rattle.settle_spec.specs.Lists.{Request, wanted_in}
use Rattle.settle_spec.specs.Stands.{window_part}
use Rattle.settle_spec.specs.Spares.{spare_extent}
use Rattle.settle_spec.specs.Items.{spare_of}
use Rattle.settle_spec.specs.Kept.{Kept as Keeping}
use Rattle.settle_spec.specs.Wishes.{Granted, granted}
use Rattle.settle_laws.specs.KeptLaws.{WishesNothing}
use Rattle.pci_base.specs.declared.range.Range.{Range}
use Rattle.pci_base.specs.declared.window_kind.ByKind.{ByKind}
use Rattle.pci_base.specs.declared.window_kind.WindowKind.{WindowKind as CodeKind}
use Rattle.pci_base.specs.declared.window_kind.WindowKind.TheVariants as kinds
use Rattle.pci_base.specs.Ranges.{decoded_range_of}
use Rattle.pci_base.specs.WindowKinds.{kind_value, by_kind}
use Rattle.pci_function.specs.declared.record.Record.{Record}
use Rattle.pci_function.specs.Values.{record_value}
use Rattle.pci_tree.specs.declared.roots.Roots.{Roots}
use Rattle.pci_tree.specs.Roots.{buses_of}
use Rattle.pci_tree.specs.Ways.{IsBridgeToBus}
use Rattle.pci_tree.proofs.Lifting.{same_slot_of}
use Rattle.pci_place.specs.Items.{no_function, function_in}
use Rattle.pci_place.proofs.Owned.{map_twice}
use Rattle.pci_place.proofs.Records.{FunctionAt, function_at, same_count}
use Rattle.pci_first_fit.specs.declared.extent.Extent.{Extent}
use Rattle.pci_first_fit.specs.declared.list.Lists.{Lists}
use Rattle.pci_first_fit.specs.declared.slots.Slots.{Slots}
use Rattle.pci_first_fit.specs.Lists.{lists_value}
use Rattle.pci_first_fit.specs.Keeping.{told_of_kind}
use Rattle.pci_first_fit.specs.Tables.{untold, told}
use Rattle.pci_first_fit.specs.Slots.{wanted_of, spare_by, spares_value}
use Rattle.pci_grow.specs.declared.board.Board.{Board}
use Rattle.pci_grow.specs.declared.board.BridgeWindow.{BridgeWindow}
use Rattle.pci_grow.specs.Board.{IsAsked, Room}
use Rattle.pci_grow.specs.Granting.{spare_up_to, part_of, AreGranted, TellsSpares}
use Rattle.pci_grow.proofs.Facts.{item_at}
use Rattle.pci_settle.specs.declared.settle.Denied.{Denied}
use Rattle.pci_settle.specs.Before.{AreFlagsOf}
use Rattle.pci_settle.specs.Denied.{slot_and_offset_of, denied_value}
use Rattle.pci_first_fit.specs.Lines.{AreLines}
use Rattle.pci_settle.specs.Wishes.{AreOfGranted, IsAskedIn, AreWishes}
use Rattle.pci_settle.proofs.WishesPlain.{plain_same}

-- ---- functions by their records

module _ (s : System) (records : List Record) (has : HasRecords s (map record_value records)) where
  -- the slot of a record is that of its function
  pub slot_at : (k : ℕ) (r : Record) → k < length records → r ≡ get_or records k r → r.slot ≡ (function_in s k).slot
  slot_at k r within at =
      let found : FunctionAt s r k = function_at s records has k r (slice_get_read records (length records) k r refl within at) in
      same_slot_of r found.f found.is.value ∙ ap (λ (f : Function). f.slot) (sym (get_or_from_slice_get s k found.f no_function found.at))

  pub flags_there : (slots : List Slot) (flags : List Bool) → AreFlagsOf records slots flags → (k : ℕ) → k < length s → get_or flags k false ≡ list_any (same_slot (function_in s k).slot) slots
  flags_there slots flags are k within =
      let long = same_count s records has in
      let r = item_at records k (omega (arith, within, long)) in
      are.each k r.0 (omega (arith, within, long)) r.1 ∙ ap (λ x. list_any (same_slot x) slots) (slot_at k r.0 (omega (arith, within, long)) r.1)

  -- ---- windows by their slots and registers, one after another

  abbrev value_of : BridgeWindow → Slot × ℕ
  value_of w = slot_and_offset_of (part_of s w)

  pub denied_next : (windows : List BridgeWindow) (index : ℕ) (old new : List Denied) (e : BridgeWindow) (r : Record) (d : Denied) → index < length windows → (get_or windows index e).bridge < length records
      → r ≡ get_or records (get_or windows index e).bridge r → d.slot ≡ r.slot → d.register ≡ window_register (kind_value (get_or windows index e).class) → new ≡ old ++ d ∷ []
      → map denied_value old ≡ map value_of (take index windows) → map denied_value new ≡ map value_of (take (index + 1) windows)
  denied_next windows index old new e r d inside within r_is slot register pushed was =
      let w : BridgeWindow = get_or windows index e in
      let here : denied_value d ≡ value_of w =
      ap (λ (x : Slot). let v : Slot × ℕ = (x, d.register) in v) (slot ∙ slot_at w.bridge r within r_is)
      ∙ ap (λ n. let v : Slot × ℕ = ((function_in s w.bridge).slot, n) in v) register in
      ap (map denied_value) pushed
      ∙ map-append denied_value old (d ∷ [])
      ∙ ap (λ xs. xs ++ denied_value d ∷ []) was
      ∙ ap (λ x. map value_of (take index windows) ++ x ∷ []) here
      ∙ sym (map_more value_of windows index e inside)

-- ---- what is asked of a board

pub board_asked : (p : Request) (s : System) (roots : Roots) (l : Lists) (b : Board) (fixed : List Bool) → IsAskedIn p s b.records.now roots l fixed → b.roots.now ≡ roots → b.lists.now ≡ l → b.fixed.now ≡ fixed → AreLines (buses_of roots) l.told.ranges.now b.lines.now → IsBridgeToBus b.records.now b.over.now → IsAsked p s b
board_asked p s roots l b fixed asked roots_are lists fixed_are lines over = record {
  has = asked.has;
  system = asked.system;
  nested = asked.nested;
  roots = asked.roots_are ∙ ap buses_of (sym roots_are);
  lists = asked.lists_are ∙ sym (ap lists_value lists);
  told = subst (λ rs. AreLines rs p.told.ranges b.lines.now) (sym asked.roots_are) (subst (λ ranges. AreLines (buses_of roots) ranges b.lines.now) (sym asked.told_are) lines);
  over = over;
  fixed = flags_there s b.records.now asked.has p.fixed b.fixed.now (subst (AreFlagsOf b.records.now p.fixed) (sym fixed_are) asked.fixed_are);
}

wanted_as : (w : Slots) (c : WindowKind) → wanted_in (spares_value w) c ≡ wanted_of w c
wanted_as w IoWindow = refl
wanted_as w MemoryWindow = refl
wanted_as w PrefetchWindow = refl

-- flags and extents tell what is asked for
pub spares_told : (q : Request) (s : System) (records : List Record) → HasRecords s (map record_value records) → (w : Slots) (flags : List Bool) (spares : ByKind (Option Extent))
    → q.slots ≡ w.bridges.now → q.spares ≡ spares_value w → AreFlagsOf records w.bridges.now flags
    → ((class : CodeKind) (highest : ℕ) → option_map (spare_up_to highest) (by_kind spares class) ≡ spare_by (kind_value class) (wanted_of w (kind_value class)) highest)
    → TellsSpares q s flags spares
spares_told q s records has w flags spares slots wanted are extents = record {
  slot = λ k within. flags_there s records has w.bridges.now flags are k within ∙ ap (list_any (same_slot (function_in s k).slot)) (sym slots);
  extents = λ class highest.
      let c = kind_value class in
      extents class highest
      ∙ ap (λ m. cond (nat_lt 0 m) (Some (spare_extent c m highest)) None) (sym (ap (λ x. wanted_in x c) wanted ∙ wanted_as w c));
}

-- ---- what is granted

module _ (q : Request) (s : System) (b : Board) (g : Granted) (room : Room) (denied : List BridgeWindow) (are : AreGranted q s b g room denied) where
  wished_at : (n : ℕ) (f : Function) (class : CodeKind) → slice_get s n ≡ Some f → g.kept.wished (window_part (kind_value class) f) ≡ option_map decoded_range_of (told room.wished n class)
  wished_at n f class at =
      let w : BridgeWindow = record { bridge = n; class = class } in
      ap (λ h. g.kept.wished (window_part (kind_value class) h)) (sym (get_or_from_slice_get s n f no_function at)) ∙ sym (are.told_is.wished w (slice_get_within s n f at))

  each_wished : (n : ℕ) (f : Function) (c : WindowKind) → slice_get s n ≡ Some f → g.kept.wished (window_part c f) ≡ option_map decoded_range_of (told_of_kind (get_or room.wished n untold) c)
  each_wished n f IoWindow at = wished_at n f kinds.Io at
  each_wished n f MemoryWindow at = wished_at n f kinds.Memory at
  each_wished n f PrefetchWindow at = wished_at n f kinds.Prefetchable at

  pub of_granted : (there : List Denied) → map denied_value there ≡ map (λ w. slot_and_offset_of (part_of s w)) denied → AreOfGranted s g room.wished there
  of_granted there there_is = record {
    each = each_wished;
    denied_are = there_is ∙ sym (map_twice slot_and_offset_of (part_of s) denied) ∙ sym (ap (map slot_and_offset_of) are.denied_are);
  }

-- no BAR or ROM keeps room free
pub all_wishes : (q p : Request) (s : System) (keep : Keeping) (wished : List (ByKind (Option Range))) (denied : List Denied) → IsSystem s → WishesNothing keep → AreOfGranted s (granted p s (spare_of q) keep) wished denied → AreWishes q p s keep wished denied
all_wishes q p s keep wished denied system none are = (
  record {
    each = are.each;
    others = λ f part listed there plain. plain_same p q s keep system f part listed there plain ∙ ap (λ w. w record { function = f; part = part }) none;
  },
  are.denied_are,
)
