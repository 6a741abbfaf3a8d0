-- The room around a window off the roots: what the window over it can reach.
use Rattle.std.proofs.Common.{◌≡◌, ℕ, ◌+◌, ◌<◌, List, [], ◌∷◌, length, get_or, Bool, true, false, cond, arith, ap, sym, subst, ◌∙◌, refl, Option, None, Some}
use Rattle.std.specs.Option.{is_some, option_map}
use Rattle.std.specs.List.{find, slice_get}
use Rattle.std.proofs.lemmas.Bool.{false_from_ne_true}
use Rattle.std.proofs.lemmas.Option.{slice_get-get_or, get_or_from_slice_get}
use Rattle.pci_spec.specs.Window.{WindowKind}
use Rattle.pci_spec.specs.Decoded.{Range}
use Rattle.pci_spec.specs.System.{System, Function, is_bridge}
use Rattle.pci_spec.specs.Bus.{is_root, secondary}
use Rattle.settle_spec.specs.Lists.{Lists, Request}
use Rattle.settle_spec.specs.Parts.{addresses, lies_within, bridge_over}
use Rattle.settle_spec.specs.Stands.{window_part}
use Rattle.settle_spec.specs.Reach.{root_window_ranges, range_over, room_around}
use Rattle.settle_spec.proofs.BridgeOver.{over_leads, over_is}
use Rattle.settle_laws.specs.Order.{level}
use Rattle.pci_base.specs.declared.window_kind.WindowKind.{WindowKind as CodeKind}
use Rattle.pci_base.specs.declared.window_kind.ByKind.{ByKind}
use Rattle.pci_base.specs.declared.range.Range.{Range as CodeRange}
use Rattle.pci_base.specs.WindowKinds.{kind_value}
use Rattle.pci_base.specs.Ranges.{decoded_range_of}
use Rattle.pci_function.specs.declared.record.Record.{Record}
use Rattle.pci_tree.specs.Ways.{IsBridgeToBus, IsBridgeIn, LeadsAt, bus_behind}
use Rattle.pci_tree.proofs.Lifting.{record_for, same_bridge, same_secondary}
use Rattle.pci_tree.proofs.Ways.{bridge_at, no_bridge, some_bridge}
use Rattle.pci_place.specs.Items.{function_in}
use Rattle.pci_place.proofs.Records.{function_at}
use Rattle.pci_first_fit.specs.declared.kept.Part.TheVariants as parts
use Rattle.pci_kept.specs.declared.region.Region.{Region}
use Rattle.pci_kept.specs.Known.{Known}
use Rattle.pci_kept.specs.Boards.{IsBoard, IsKnown}
use Rattle.pci_grow.specs.Reaches.{AreToldOver}
use Rattle.pci_first_fit.specs.Tables.{told}

record_there : (records : List Record) (k : ℕ) → k < length records → (x : Record) × (slice_get records k ≡ Some x)
record_there [] k less = absurd (let no : ⊥ = omega (arith, less) in no)
record_there (x ∷ more) k less = (get_or (x ∷ more) k x, slice_get-get_or (x ∷ more) k x less)

module _ (q : Request) (s : System) (records : List Record) (lists : Lists) (board : IsBoard q s records lists) (r : Region) (is : IsKnown q s r) (small : r.bus < 256) where
  abbrev own : Function
  own = function_in s r.function

  abbrev bus : ℕ
  bus = own.slot.bus

  bus_same : r.bus ≡ bus
  bus_same = ap (λ (k : Known). k.bus) is.all

  level_same : r.level ≡ level q bus
  level_same = ap (λ (k : Known). k.level) is.all

  no_root : (r.level ≡ 0 → ⊥) → is_root q.roots bus ≡ false
  no_root off = false_from_ne_true (is_root q.roots bus) (λ root. off (level_same ∙ ap (λ b. cond b 0 (bus + 1)) root))

  module _ (class : CodeKind) (part_is : r.part ≡ parts.Window class) (reach : Function → Range) where
    abbrev c : WindowKind
    c = kind_value class

    abbrev room_by : (root : Bool) → Option Function → Option Range
    room_by root over = cond root (find (lies_within (addresses (window_part c own))) (root_window_ranges q c bus)) (range_over reach over)

    module _ (off : r.level ≡ 0 → ⊥) (over : List (Option ℕ)) (are : IsBridgeToBus records over) where
      under : (o : Option Function) → bridge_over s bus ≡ o → room_around q s c reach own ≡ range_over reach o
      under o is_over = ap (λ b. room_by b (bridge_over s bus)) (no_root off) ∙ ap (range_over reach) is_over

      pub under_none : get_or over r.bus None ≡ None → None ≡ room_around q s c reach own
      under_none none = sym (under None (elim (bridge_over s bus) as (λ o. bridge_over s bus ≡ o → bridge_over s bus ≡ None) [
        | None ↦ λ e. e
        | Some b ↦ λ e.
            let leads = over_leads s bus b e in
            let record_of_it = record_for s records b board.has leads.0 in
            let bridging : is_some record_of_it.0.bridge ≡ true = same_bridge record_of_it.0 b record_of_it.1.same ∙ leads.1 in
            absurd (no_bridge records r.bus (get_or over r.bus None) none (are r.bus small) record_of_it.0 record { has = record_of_it.1.has; is = bridging }
            (same_secondary record_of_it.0 b record_of_it.1.same leads.1 ∙ leads.2 ∙ sym bus_same))
      ] refl))

      module _ (k : ℕ) (at : get_or over r.bus None ≡ Some k) (table : List (ByKind (Option CodeRange))) (told_over : AreToldOver s c r.bus reach table) where
        leads_at : LeadsAt records r.bus k
        leads_at = some_bridge records r.bus (get_or over r.bus None) k at (are r.bus small)

        pub under_window : option_map decoded_range_of (told table k class) ≡ room_around q s c reach own
        under_window =
            let there = record_there records k leads_at.within in
            let x = there.0 in
            let x_is : get_or records k x ≡ x = get_or_from_slice_get records k x x there.1 in
            let found = function_at s records board.has k x there.1 in
            let b = bridge_at records r.bus k x leads_at in
            let in_records : IsBridgeIn records x = subst (IsBridgeIn records) x_is b.0 in
            let leads : bus_behind x ≡ r.bus = ap bus_behind (sym x_is) ∙ b.1 in
            let bridging : is_bridge found.f ≡ true = sym (same_bridge x found.f found.is.value) ∙ in_records.is in
            let to : secondary found.f ≡ r.bus = sym (same_secondary x found.f found.is.value bridging) ∙ leads in
            told_over k found.f class found.at bridging to refl
            ∙ sym (under (Some found.f) (over_is q.roots s board.system board.nested bus found.f (found.is.listed, bridging, to ∙ bus_same)))
