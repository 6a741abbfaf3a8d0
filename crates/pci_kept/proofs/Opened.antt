-- The open windows over each bus, in one pass over the records.
use Rattle.std.proofs.Common.{◌≡◌, ℕ, ◌+◌, ◌<◌, ◌≤◌, inl, inr, List, map, length, set, replicate, get_or, refl, Bool, true, false, cond, ◌||◌, arith, sym, ◌∙◌, ap, subst, Option, Some, None}
use Rattle.std.specs.Option.{is_some, option_map}
use Rattle.std.specs.List.{Contains, slice_get}
use Rattle.std.proofs.lemmas.Bool.{cases_eq, cases_lt, both_ways, false_from_ne_true}
use Rattle.std.proofs.lemmas.List.{length-set, get_or-replicate, get_or-set_same, get_or-set_other, get_or_past}
use Rattle.std.proofs.lemmas.List.Elements.{All-contains}
use Rattle.std.proofs.lemmas.Option.{slice_get_within, slice_get-get_or, get_or_from_slice_get}
use Rattle.pci_spec.specs.Window.{WindowKind, MemoryWindow, PrefetchWindow}
use Rattle.pci_spec.specs.System.{System, Function, IsFunction, IsSystem, is_bridge}
use Rattle.pci_spec.specs.Bus.{is_root, secondary, IsNested}
use Rattle.pci_spec.specs.Decoded.{Range, HasRecords}
use Rattle.pci_spec.specs.Decoded as decoded
use Rattle.settle_spec.specs.Lists.{Request}
use Rattle.settle_spec.specs.Parts.{bridge_over}
use Rattle.settle_spec.proofs.Nested.{at_secondary, is_no_root, one_bridge}
use Rattle.settle_spec.proofs.BridgeOver.{over_leads, none_leads}
use Rattle.pci_base.specs.Ranges.{decoded_range_of}
use Rattle.pci_function.specs.declared.record.Bridge.{Bridge}
use Rattle.pci_function.specs.declared.record.Record.{Record}
use Rattle.pci_function.specs.Values.{record_value}
use Rattle.pci_image.specs.Windows.{window_of}
use Rattle.pci_tree.specs.Admission.{Admission, IsAdmitted}
use Rattle.pci_tree.specs.Passes.{range_in}
use Rattle.pci_tree.proofs.Lifting.{same_bridge}
use Rattle.pci_tree.proofs.RegionParts.{same_bridge_of}
use Rattle.pci_place.specs.Above.{system_in}
use Rattle.pci_place.specs.Records.{IsRecordInSystem}
use Rattle.pci_place.proofs.Records.{lent, same_count}
use Rattle.pci_first_fit.specs.declared.over.OpenWindows.{OpenWindows}
use Rattle.pci_first_fit.specs.Slots.{Demand}
use Rattle.pci_first_fit.specs.Over.{open_range, class_window, no_windows, AreClassWindows, AreOpenOver}
use Rattle.pci_first_fit.proofs.Anew.{over_anew}
use Rattle.pci_kept.specs.declared.rules.Rules.{Rules}
use Rattle.pci_kept.specs.Boards.{IsTree}
use Rattle.pci_kept.specs.Known.{asked_by_rules}
use Rattle.pci_kept.proofs.OfRecord.{window_is}

-- those of a bridge
record AreOpened (f : Function) (o : OpenWindows) : Type 0 where
  memory : option_map decoded_range_of o.memory ≡ open_range MemoryWindow (Some f)
  prefetch : option_map decoded_range_of o.prefetch ≡ open_range PrefetchWindow (Some f)

-- the table has those of the bridges among the first functions, and none where no bridge leads
pub record AreOpenTo (s : System) (k : ℕ) (table : List OpenWindows) : Type 0 where
  pub size : length table ≡ 256
  led : (j : ℕ) (f : Function) → j < k → slice_get s j ≡ Some f → is_bridge f ≡ true → AreOpened f (get_or table (secondary f) no_windows)
  none : (bus : ℕ) → bridge_over s bus ≡ None → get_or table bus no_windows ≡ no_windows

empty_at : (bus : ℕ) → get_or (replicate 256 no_windows) bus no_windows ≡ no_windows
empty_at bus = elim (cases_lt bus 256) [
  | inl inside ↦ get_or-replicate 256 bus no_windows no_windows inside
  | inr past ↦ get_or_past (replicate 256 no_windows) bus no_windows past
]

pub opened_none : (s : System) → AreOpenTo s 0 (replicate 256 no_windows)
opened_none s = record {
  size = refl;
  led = λ j f less at bridge. absurd (let no : ⊥ = omega (arith, less) in no);
  none = λ bus over. empty_at bus;
}

module _ (roots : List ℕ) (s : System) (system : IsSystem s) (nested : IsNested roots s) where
  module _ (k : ℕ) (f : Function) (r : Record) (at : slice_get s k ≡ Some f) (is : IsRecordInSystem s f r) (old : List OpenWindows) (was : AreOpenTo s k old) where
    earlier : (j : ℕ) (g : Function) → j < k + 1 → slice_get s j ≡ Some g → (g ≡ f → ⊥) → j < k
    earlier j g less at_j other = elim (cases_eq j k) [
      | inl same ↦ absurd (let one : Some g ≡ Some f = sym at_j ∙ ap (slice_get s) same ∙ at in let function : g ≡ f = cc in other function)
      | inr differ ↦ omega (arith, less, differ)
    ]

    -- one that is no bridge has none
    pub opened_same : r.bridge ≡ None → AreOpenTo s (k + 1) old
    opened_same none = record {
      size = was.size;
      led = λ j g less at_j bridge.
          was.led j g
          (earlier j g less at_j (λ here. both_ways (is_bridge f) (sym (same_bridge r f is.value) ∙ ap is_some none) (ap is_bridge (sym here) ∙ bridge))) at_j bridge;
      none = was.none;
    }

    module _ (b : Bridge) (there : r.bridge ≡ Some b) where
      is_one : is_bridge f ≡ true
      is_one = sym (same_bridge r f is.value) ∙ ap is_some there

      leads_to : b.secondary ≡ secondary f
      leads_to = ap (λ (x : decoded.Bridge). x.secondary) (same_bridge_of r f b is.value there)

      small : b.secondary < 256
      small = let byte = (All-contains IsFunction s f system.each is.listed).image.bytes 0x19 in let to = leads_to in omega (arith, to, byte)

      pub opened_more : (o : OpenWindows) → option_map decoded_range_of o.memory ≡ range_in (window_of b.windows MemoryWindow) → option_map decoded_range_of o.prefetch ≡ range_in (window_of b.windows PrefetchWindow)
          → AreOpenTo s (k + 1) (set old b.secondary o)
      opened_more o memory prefetch =
          let size = was.size in
          let low = small in
          let put : set old b.secondary o ≡ set old (secondary f) o = ap (λ n. set old n o) leads_to in
          let here : get_or (set old b.secondary o) (secondary f) no_windows ≡ o =
          ap (λ xs. get_or xs (secondary f) no_windows) put ∙ get_or-set_same old (secondary f) o no_windows (let to = leads_to in omega (arith, size, low, to)) in
          let other : (bus : ℕ) → (bus ≡ secondary f → ⊥) → get_or (set old b.secondary o) bus no_windows ≡ get_or old bus no_windows = λ bus differ.
          ap (λ xs. get_or xs bus no_windows) put ∙ get_or-set_other old (secondary f) bus o no_windows differ in
          let own : AreOpened f o = record {
            memory = memory ∙ window_is s f r b is there MemoryWindow;
            prefetch = prefetch ∙ window_is s f r b is there PrefetchWindow;
          } in
          record {
            size = length-set old b.secondary o ∙ was.size;
            led = λ j g less at_j bridge. elim (cases_eq (secondary g) (secondary f)) [
              | inl same ↦
                  let listed : Contains s g = (j, slice_get_within s j g at_j, get_or_from_slice_get s j g g at_j) in
                  let one : g ≡ f = one_bridge roots s system nested g f listed is.listed bridge is_one same in
                  subst (λ (x : Function). AreOpened x (get_or (set old b.secondary o) (secondary x) no_windows)) (sym one) (subst (AreOpened f) (sym here) own)
              | inr differ ↦
                  subst (AreOpened g) (sym (other (secondary g) differ)) (was.led j g (earlier j g less at_j (λ same. differ (ap secondary same))) at_j bridge)
            ];
            none = λ bus over. other bus (λ same. none_leads s bus over f (is.listed, is_one, sym same)) ∙ was.none bus over;
          }

-- ---- all functions

class_off : (q : Request) (s : System) (bus : ℕ) (kind : WindowKind) (o : Option Function) → q.anew ≡ false → is_root q.roots bus ≡ false → bridge_over s bus ≡ o → class_window q s kind bus ≡ open_range kind o
class_off q s bus kind o stands none over =
    ap (λ b. cond (b || is_root q.roots bus) None (open_range kind (bridge_over s bus))) stands
    ∙ ap (λ b. cond b None (open_range kind (bridge_over s bus))) none
    ∙ ap (open_range kind) over

class_none : (q : Request) (s : System) (bus : ℕ) (kind : WindowKind) → bridge_over s bus ≡ None → class_window q s kind bus ≡ None
class_none q s bus kind over = ap (λ o. cond (q.anew || is_root q.roots bus) None (open_range kind o)) over ∙ none_both (q.anew || is_root q.roots bus)
  where
    none_both : (b : Bool) → ◌≡◌ {A = Option Range} (cond b None None) None
    none_both true = refl
    none_both false = refl

pub all_opened : (q : Request) (s : System) (records : List Record) → IsTree q s records → q.anew ≡ false → (k : ℕ) → length records ≤ k → (table : List OpenWindows) → AreOpenTo s k table → AreOpenOver q s table
all_opened q s records tree stands k past table are f listed = by (bridge_over s f.slot.bus) refl
  where
    count : length s ≡ length records
    count = same_count s records tree.has

    by : (o : Option Function) → bridge_over s f.slot.bus ≡ o → AreClassWindows q s f.slot.bus (get_or table f.slot.bus no_windows)
    by None over = record {
      memory = ap (λ (x : OpenWindows). option_map decoded_range_of x.memory) (are.none f.slot.bus over) ∙ sym (class_none q s f.slot.bus MemoryWindow over);
      prefetch = ap (λ (x : OpenWindows). option_map decoded_range_of x.prefetch) (are.none f.slot.bus over) ∙ sym (class_none q s f.slot.bus PrefetchWindow over);
    }
    by (Some b) over =
        let leads = over_leads s f.slot.bus b over in
        let here = leads.0 in
        let within = here.1 in
        let e = count in
        let at : slice_get s here.0 ≡ Some b = slice_get-get_or s here.0 b here.1 ∙ ap Some here.2 in
        let own = subst (λ n. AreOpened b (get_or table n no_windows)) leads.2 (are.led here.0 b (omega (arith, within, e, past)) at leads.1) in
        let off : is_root q.roots f.slot.bus ≡ false = false_from_ne_true (is_root q.roots f.slot.bus)
        (λ root. is_no_root q.roots s tree.system tree.nested b f.slot.bus here leads.1 (at_secondary q.roots s tree.system tree.nested b f.slot.bus here leads.1 leads.2) root) in
        record {
          memory = own.memory ∙ sym (class_off q s f.slot.bus MemoryWindow (Some b) stands off over);
          prefetch = own.prefetch ∙ sym (class_off q s f.slot.bus PrefetchWindow (Some b) stands off over);
        }

-- where all is placed anew there are none
pub none_opened : (q : Request) (s : System) → q.anew ≡ true → AreOpenOver q s (replicate 256 no_windows)
none_opened q s anew f listed = subst (AreClassWindows q s f.slot.bus) (sym (empty_at f.slot.bus)) (over_anew q s anew f listed)

-- the tree of an admission
pub tree_of : (a : Admission) (d : Demand) (rules : Rules) → IsAdmitted a → (records : List Record) {values : List decoded.Record} → map record_value records ≡ values → HasRecords (system_in a) values
    → IsTree (asked_by_rules a.roots d rules) (system_in a) records
tree_of a d rules admitted records same has = record { has = lent (system_in a) records same has; system = admitted.system; nested = admitted.nested }
