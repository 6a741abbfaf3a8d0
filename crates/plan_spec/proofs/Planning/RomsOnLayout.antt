-- Setting the enable bits of ROMs moves nothing: a planned system stays sound.
use Rattle.std.proofs.Common.{◌≡◌, ◌⊎◌, ℕ, ◌+◌, ◌*◌, ◌-◌, ◌/◌, ◌^◌, ◌≤◌, inl, inr, List, [], ◌∷◌, ◌++◌, refl, Bool, true, ◌&&◌, ◌||◌, not, arith, sym, ◌∙◌, ap, subst, map}
use Rattle.std.specs.Bool.{IsTrue, IsFalse, nat_le, nat_lt, if◌then◌else◌}
use Rattle.std.specs.List.{All, Contains, list_all, list_any, filter, range_with_len}
use Rattle.std.proofs.lemmas.Bool.{cases_Bool, and_parts, leb-true, ltb-true}
use Rattle.std.proofs.lemmas.List.Elements.{All-contains}
use Rattle.pci_spec.specs.Number.{has_bit, lowest_one, IsImage}
use Rattle.pci_spec.specs.Slot.{Slot, same_slot}
use Rattle.pci_spec.specs.Header.{layout, bar_count, rom_register}
use Rattle.pci_spec.specs.Bar.{bar_at, is_io, is_wide, is_prefetchable, is_run, has_bar}
use Rattle.pci_spec.specs.Rom.{rom_at}
use Rattle.pci_spec.specs.Window.{WindowKind, IoWindow, MemoryWindow, PrefetchWindow, has_window, is_wide_window, is_closed, lower_pages, page_size}
use Rattle.pci_spec.specs.Decoded.{IsDecodable, aligned_range, bar_size}
use Rattle.pci_spec.specs.System.{System, Function, IsSystem, Space, Io, Memory, Part, Bar, Rom, Window, register_of, is_implemented, bars_and_rom, is_bridge}
use Rattle.pci_spec.specs.Bus.{is_behind, LeadsTo}
use Rattle.pci_spec.specs.Sound.{IsSound}
use Rattle.plan_spec.specs.Plan.{Pools, pool_of, bridges_above, is_served, class_of, is_io_part, is_open, wants, are_bad}
use Rattle.plan_spec.specs.PlanPromise.{with_rom_on}
use Rattle.plan_spec.specs.Planning.Layout.{range_of, is_item, IsInside, LieApart, AreTwo, IsLaidOut, IsSwitchedOn}
use Rattle.plan_spec.specs.Planning.Safety.{IsSafe}
use Rattle.pci_spec.proofs.Bits.{agree-quotients}
use Rattle.pci_spec.proofs.Ranges.{lawful_rom}
use Rattle.pci_spec.proofs.Members.{in_head, in_tail}
use Rattle.plan_spec.proofs.Planning.Kept.{images_of}
use Rattle.plan_spec.proofs.Planning.Classes.{pick}
use Rattle.plan_spec.proofs.Planning.LaidOut.{opening, laid_safe}
use Rattle.plan_spec.proofs.Planning.RomsOn.{IsRomOn, rom_on}
use Rattle.plan_spec.proofs.Planning.RomsOnRegisters.{low_byte, low_number, layout_kept, bridge_kept, same_bridge, whole_kept, rom_mask_kept, rom_agrees, has_rom_kept, bounds_kept}
use Rattle.plan_spec.proofs.Planning.RomsOnFaults.{was_off, nested_on, chains_on, decodable_on, profile_on}

-- ---- one function

module _ (f g : Function) (h : IsRomOn f g) where
  open_kept : (kind : WindowKind) → is_open g kind ≡ is_open f kind
  open_kept kind = elim (cases_Bool (is_bridge f)) [
    | inl bridge ↦
        let same = bridge_kept f g h in
        let bounds = bounds_kept f g h bridge kind in
        λ i. same i && has_window kind (h.probe i)
        && not (not (nat_le ((bounds i).base_upper * lower_pages kind + (bounds i).base / 16) ((bounds i).limit_upper * lower_pages kind + (bounds i).limit / 16)))
    | inr device ↦
        ap (λ b. b && has_window kind g.probe && not (is_closed kind g.image)) (bridge_kept f g h ∙ device)
        ∙ sym (ap (λ b. b && has_window kind f.probe && not (is_closed kind f.image)) device)
  ]

  item_kept : (p : Part) → is_item g p ≡ is_item f p
  item_kept (Bar n) = let kind = layout_kept f g h in λ i. nat_lt n (bar_count (kind i)) && has_bar (h.probe i) n
  item_kept Rom = has_rom_kept f g h
  item_kept (Window kind) = open_kept kind

  -- a ROM has 2 KB at least
  rom_is_large : IsDecodable f → is_item f Rom ≡ true → 11 ≤ lowest_one 0 (rom_at f.image f.probe)
  rom_is_large d item =
      let k = lowest_one 0 (rom_at f.image f.probe) in
      let size = (lawful_rom f.image f.probe item d.rom).0 in
      let parts = and_parts (nat_le 11 k && nat_le k 24) (is_run 0 (rom_at f.image f.probe) k 31) size in
      leb-true 11 k (and_parts (nat_le 11 k) (nat_le k 24) parts.0).0

  range_kept : IsDecodable f → (p : Part) → is_item f p ≡ true → range_of g p ≡ range_of f p
  range_kept d (Bar n) item =
      let whole = whole_kept f g h n (ltb-true n (bar_count (layout f.image)) (and_parts (nat_lt n (bar_count (layout f.image))) (has_bar f.probe n) item).0) in
      λ i. aligned_range (whole i) (bar_size (h.probe i) n)
  range_kept d Rom item =
      let k = lowest_one 0 (rom_at f.image f.probe) in
      let large = rom_is_large d item in
      let mask = rom_mask_kept f g h in
      let page : rom_at g.image g.image / 2 ^ k ≡ rom_at f.image f.image / 2 ^ k =
      agree-quotients k (rom_at g.image g.image) (rom_at f.image f.image) (λ b from. rom_agrees f g h b (omega (arith, from, large))) in
      (λ i. aligned_range (rom_at g.image g.image) (2 ^ lowest_one 0 (mask i))) ∙ (λ i. record { first = page i * 2 ^ k; last = page i * 2 ^ k + (2 ^ k - 1) })
  range_kept d (Window kind) item =
      let bounds = bounds_kept f g h (opening f kind item).bridge kind in
      λ i. record {
        first = ((bounds i).base_upper * lower_pages kind + (bounds i).base / 16) * page_size kind;
        last = ((bounds i).limit_upper * lower_pages kind + (bounds i).limit / 16) * page_size kind + (page_size kind - 1);
      }

  register_kept : (p : Part) → register_of g p ≡ register_of f p
  register_kept (Bar n) = refl
  register_kept Rom = ap rom_register (layout_kept f g h)
  register_kept (Window kind) = refl

  implemented_kept : (p : Part) → is_implemented g p ≡ is_implemented f p
  implemented_kept (Bar n) = ap (λ probe. has_bar probe n) h.probe
  implemented_kept Rom = has_rom_kept f g h
  implemented_kept (Window kind) = let same = bridge_kept f g h in λ i. same i && has_window kind (h.probe i)

  parts_kept : bars_and_rom g ≡ bars_and_rom f
  parts_kept = let kind = layout_kept f g h in λ i. filter (λ p. implemented_kept p i) (map Bar (range_with_len 0 (bar_count (kind i))) ++ Rom ∷ [])

  io_kept : (p : Part) → is_io_part g p ≡ is_io_part f p
  io_kept (Bar n) = ap (λ probe. is_io (bar_at probe n)) h.probe
  io_kept Rom = refl
  io_kept (Window kind) = refl

  wants_kept : (space : Space) → wants g space ≡ wants f space
  wants_kept Io = λ i. list_any (λ p. io_kept p i) (parts_kept i) || open_kept IoWindow i
  wants_kept Memory = λ i. list_any (λ p. not (io_kept p i)) (parts_kept i) || open_kept MemoryWindow i || open_kept PrefetchWindow i

  above_kept : (bus : ℕ) → (is_bridge g && is_behind g bus) ≡ (is_bridge f && is_behind f bus)
  above_kept bus =
      let same = bridge_kept f g h in
      let secondary = low_byte f g h 0x19 (omega arith) in
      let subordinate = low_byte f g h 0x1a (omega arith) in
      λ i. same i && (nat_le (secondary i) bus && nat_le bus (subordinate i))

-- ---- the system

all_above : (t : System) → ((f : Function) → Contains t f → IsImage f.image) → (test : List ℕ → Bool) (bus : ℕ)
    → list_all (λ (f : Function). test f.probe) (bridges_above (map with_rom_on t) bus) ≡ list_all (λ (f : Function). test f.probe) (bridges_above t bus)
all_above [] images test bus = refl
all_above (f ∷ t) images test bus =
    let on = rom_on f (images f (in_head f t)) in
    pick test f (with_rom_on f) (bridges_above t bus) (bridges_above (map with_rom_on t) bus) (is_bridge f && is_behind f bus) (is_bridge (with_rom_on f) && is_behind (with_rom_on f) bus)
    (above_kept f (with_rom_on f) on bus) (ap test on.probe) (all_above t (λ g listed. images g (in_tail f t g listed)) test bus)

module _ (roots : List ℕ) (t : System) (pools : Pools) (system : IsSystem t) where
  served_kept : (f g : Function) → IsRomOn f g → (n : ℕ) → is_served (map with_rom_on t) pools g n ≡ is_served t pools f n
  served_kept f g h n =
      let narrow = all_above t (images_of t system) (has_window PrefetchWindow) f.slot.bus in
      let wide = all_above t (images_of t system) (is_wide_window PrefetchWindow) f.slot.bus in
      (λ i. if nat_le pools.prefetch.last 0xffff_ffff
      then list_all (λ (b : Function). has_window PrefetchWindow b.probe) (bridges_above (map with_rom_on t) (h.slot i).bus)
      else is_wide (bar_at (h.probe i) n) && list_all (λ (b : Function). is_wide_window PrefetchWindow b.probe) (bridges_above (map with_rom_on t) (h.slot i).bus))
      ∙ (λ i. if nat_le pools.prefetch.last 0xffff_ffff then narrow i else is_wide (bar_at f.probe n) && wide i)

  class_kept : (f g : Function) → IsRomOn f g → (p : Part) → class_of (map with_rom_on t) pools g p ≡ class_of t pools f p
  class_kept f g h (Bar n) =
      let served = served_kept f g h n in
      λ i. if is_io (bar_at (h.probe i) n) then IoWindow else if is_prefetchable (bar_at (h.probe i) n) && served i then PrefetchWindow else MemoryWindow
  class_kept f g h Rom = refl
  class_kept f g h (Window kind) = refl

  module _ (decodable : All IsDecodable t) where
    -- a part as it was before
    record OldItem (g : Function) (p : Part) : Type 0 where
      f : Function
      listed : Contains t f
      on : IsRomOn f g
      item : is_item f p ≡ true
      range : range_of g p ≡ range_of f p
      class : class_of (map with_rom_on t) pools g p ≡ class_of t pools f p

    old_item : (g : Function) (p : Part) → Contains (map with_rom_on t) g → is_item g p ≡ true → OldItem g p
    old_item g p listed item =
        let was = was_off t system g listed in
        let had : is_item was.from p ≡ true = sym (item_kept was.from g was.on p) ∙ item in
        record {
          f = was.from;
          listed = was.listed;
          on = was.on;
          item = had;
          range = range_kept was.from g was.on (All-contains IsDecodable t was.from decodable was.listed) p had;
          class = class_kept was.from g was.on p;
        }

    leads_before : (c : Function) (bus : ℕ) → LeadsTo (map with_rom_on t) c bus → (b : Function) × LeadsTo t b bus × IsRomOn b c
    leads_before c bus leads =
        let was = was_off t system c leads.0 in
        let same = same_bridge was.from c was.on in
        let bridge : is_bridge was.from ≡ true = sym same.bridge ∙ leads.1 in
        let old = was.listed in
        (was.from, ((old.0, old.1, old.2), bridge, sym (same.secondary_is bridge) ∙ leads.2), was.on)

    beside_before : (x y f g : Slot) → x ≡ f → y ≡ g → (x.bus ≡ y.bus) ⊎ (Contains roots x.bus × Contains roots y.bus) → (f.bus ≡ g.bus) ⊎ (Contains roots f.bus × Contains roots g.bus)
    beside_before x y f g e d beside =
        subst (λ (v : Slot). (f.bus ≡ v.bus) ⊎ (Contains roots f.bus × Contains roots v.bus)) d (subst (λ (u : Slot). (u.bus ≡ y.bus) ⊎ (Contains roots u.bus × Contains roots y.bus)) e beside)

    two_before : (x y f g : Function) (p q : Part) → IsRomOn f x → IsRomOn g y → AreTwo x p y q → AreTwo f p g q
    two_before x y f g p q on_f on_g (inl apart) = inl ((λ i. same_slot (sym on_f.slot i) (sym on_g.slot i)) ∙ apart)
    two_before x y f g p q on_f on_g (inr differ) = inr (λ e. differ (register_kept f x on_f p ∙ e ∙ sym (register_kept g y on_g q)))

    laid_on : IsLaidOut roots t pools → IsLaidOut roots (map with_rom_on t) pools
    laid_on laid = record {
      pool = λ g p listed item root.
          let o = old_item g p listed item in
          let inside : IsInside (range_of o.f p) (pool_of pools (class_of t pools o.f p)) = laid.pool o.f p o.listed o.item (subst (λ (s : Slot). Contains roots s.bus) o.on.slot root) in
          let placed : IsInside (range_of g p) (pool_of pools (class_of t pools o.f p)) = subst (λ r. IsInside r (pool_of pools (class_of t pools o.f p))) (sym o.range) inside in
          subst (λ k. IsInside (range_of g p) (pool_of pools k)) (sym o.class) placed;
      window = λ g c p listed item leads.
          let o = old_item g p listed item in
          let up = leads_before c g.slot.bus leads in
          let b = up.0 in
          let on = up.2 in
          let kind = (class_of t pools o.f p) in
          let to = up.1 in
          let through = laid.window o.f b p o.listed o.item (to.0, to.1, to.2 ∙ ap (λ (s : Slot). s.bus) o.on.slot) in
          let window = range_kept b c on (All-contains IsDecodable t b decodable to.0) (Window kind) through.0 in
          let opened : is_open c kind ≡ true = open_kept b c on kind ∙ through.0 in
          let inner : IsInside (range_of g p) (range_of b (Window kind)) = subst (λ r. IsInside r (range_of b (Window kind))) (sym o.range) through.1 in
          let inside : IsInside (range_of g p) (range_of c (Window kind)) = subst (IsInside (range_of g p)) (sym window) inner in
          subst (λ k. IsTrue (is_open c k) × IsInside (range_of g p) (range_of c (Window k))) (sym o.class) (opened, inside);
      apart = λ x y p q in_x in_y item_x item_y beside same two.
          let o = old_item x p in_x item_x in
          let u = old_item y q in_y item_y in
          let apart : LieApart (range_of o.f p) (range_of u.f q) = laid.apart o.f u.f p q o.listed u.listed o.item u.item
          (beside_before x.slot y.slot o.f.slot u.f.slot o.on.slot u.on.slot beside) (sym o.class ∙ same ∙ u.class) (two_before x y o.f u.f p q o.on u.on two) in
          subst (λ r. LieApart (range_of x p) r) (sym u.range) (subst (λ r. LieApart r (range_of u.f q)) (sym o.range) apart);
    }

  switched_on : IsSwitchedOn t → IsSwitchedOn (map with_rom_on t)
  switched_on on = record {
    io = λ g listed.
        let was = was_off t system g listed in
        ap (λ c. has_bit c 0) (low_number was.from g was.on 4 2 (omega arith)) ∙ on.io was.from was.listed ∙ sym (wants_kept was.from g was.on Io);
    memory = λ g listed.
        let was = was_off t system g listed in
        ap (λ c. has_bit c 1) (low_number was.from g was.on 4 2 (omega arith)) ∙ on.memory was.from was.listed ∙ sym (wants_kept was.from g was.on Memory);
  }

-- also where all ROMs are switched on by their own bits, everything has its place
pub roms_on_is_sound : (roots : List ℕ) (t : System) (pools : Pools) → IsSystem t → IsSound roots t → All IsDecodable t → IsLaidOut roots t pools → IsSwitchedOn t → IsFalse (are_bad pools) → IsSound roots (map with_rom_on t)
roms_on_is_sound roots t pools system sound decodable laid on good =
    let nested = nested_on roots t system decodable sound.nested in
    let safe : IsSafe roots (map with_rom_on t) = laid_safe roots (map with_rom_on t) pools nested (decodable_on roots t system decodable) (laid_on roots t pools system decodable laid) (switched_on roots t pools system on) good in
    record {
      single = safe.single;
      home = safe.home;
      nested = nested;
      profile = profile_on roots t system decodable sound.chains sound.profile;
      chains = chains_on roots t system decodable sound.chains;
    }
