-- The first part of a function that a table says no to, by its record, is that of the definitions.
use Rattle.std.proofs.Common.{◌≡◌, ℕ, ◌-◌, ◌/◌, inl, inr, List, [], ◌∷◌, Bool, true, false, cond, ◌&&◌, not, arith, refl, sym, ◌∙◌, ap, Option, None, Some}
use Rattle.std.specs.Option.{is_some, option_map, option_or}
use Rattle.std.specs.List.{Contains, find, list_any, range_with_len}
use Rattle.std.proofs.lemmas.Bool.{cases_Bool, and_parts, lt-ltb}
use Rattle.pci_spec.specs.Slot.{same_slot}
use Rattle.pci_spec.specs.Header.{layout, bar_count, bar_register, rom_place}
use Rattle.pci_spec.specs.Bar.{has_bar}
use Rattle.pci_spec.specs.Rom.{has_rom, rom_is_on}
use Rattle.pci_spec.specs.Window.{WindowKind, IoWindow, MemoryWindow, PrefetchWindow, has_window, is_closed, window_register}
use Rattle.pci_spec.specs.Decoded.{DecodedBar, DecodedWindow, decoded_bar}
use Rattle.pci_spec.specs.System.{System, Function, Memory, Part, Bar, Rom, Window, has_part, is_bridge, register_of}
use Rattle.pci_spec.proofs.Members.{in_range_to}
use Rattle.plan_spec.specs.Plan.{is_open}
use Rattle.plan_spec.specs.Planning.Layout.{range_of}
use Rattle.settle_spec.specs.Lists.{Request}
use Rattle.settle_spec.specs.Parts.{FunctionPart, is_part, is_left, header_bars, header_parts, parts_of, function_parts}
use Rattle.settle_spec.specs.Stands.{is_fixed_part}
use Rattle.pci_image.specs.declared.bar.Bar.{Bar as CodeBar}
use Rattle.pci_image.specs.Bars.{decoded_bar_of}
use Rattle.pci_function.specs.declared.record.Bridge.{Bridge}
use Rattle.pci_function.specs.declared.record.Record.{Record}
use Rattle.pci_tree.specs.Passes.{range_in}
use Rattle.pci_tree.proofs.Lifting.{same_bridge, same_slot_of}
use Rattle.pci_place.specs.declared.above.Above.{Above}
use Rattle.pci_place.specs.Above.{IsAbove}
use Rattle.pci_place.specs.Records.{IsRecordInSystem}
use Rattle.pci_place.proofs.Parts.{bars_in, bars_of, rom_of}
use Rattle.pci_first_fit.specs.declared.own.Terms.{Terms}
use Rattle.pci_first_fit.specs.Slots.{demand_of}
use Rattle.pci_first_fit.specs.Own.{AreTerms}
use Rattle.pci_settle_places.proofs.KeptClaims.{left_is, rom_on_is}
use Rattle.pci_settle_places.proofs.PlacedImages.{register_place}
use Rattle.pci_first_fit.specs.declared.kept.Kept.{Kept}
use Rattle.pci_first_fit.specs.Kept.{kept_of}
use Rattle.pci_kept.proofs.OfRecord.{window_is}
use Rattle.pci_settle.specs.declared.lack.SettleFault.TheVariants.{Fixed}
use Rattle.pci_settle.specs.Fixed.{fixed_part, first, is_bar_without, bar_without, window_without, bridge_without, rom_without, part_without, record_without}
use Rattle.pci_settle.proofs.Firsts.{first_none, first-append, first_same, first-filter, first-map, first_pair, map_twice}

-- ---- tests

and_order : (a b c : Bool) → (a && (b && c)) ≡ ((a && b) && c)
and_order true b c = refl
and_order false b c = refl

some_if : {X : Type 0} (b : Bool) (x : X) → is_some (cond b (Some x) None) ≡ b
some_if true x = refl
some_if false x = refl

-- the first of four, the first three before the last
first_of_four : {X Z : Type 0} (value : X → Z) (a b c d : Bool) (x y z w : X) → option_map value (cond a (Some x) (cond b (Some y) (cond c (Some z) (cond d (Some w) None))))
    ≡ option_or (option_or (cond a (Some (value x)) None) (option_or (cond b (Some (value y)) None) (cond c (Some (value z)) None))) (cond d (Some (value w)) None)
first_of_four value true b c d x y z w = refl
first_of_four value false true c d x y z w = refl
first_of_four value false false true d x y z w = refl
first_of_four value false false false true x y z w = refl
first_of_four value false false false false x y z w = refl

module _ (q : Request) (s : System) (f : Function) (r : Record) (is : IsRecordInSystem s f r) (above : Above) (over : IsAbove s f.slot.bus above) (t : Terms) (terms : AreTerms (demand_of q) t) (told : Kept) (test : FunctionPart → Bool) where
  abbrev region : Part → FunctionPart
  region part = record { function = f; part = part }

  abbrev IsTold : Type 0
  IsTold = (part : Part) → has_part f part ≡ true → kept_of told part ≡ test (region part)

  module _ (tells : IsTold) where
    abbrev fails : Part → Bool
    fails part = not (test (region part))

    abbrev lacks : Part → Bool
    lacks part = is_part q s f part && fails part

    abbrev all : List ℕ
    all = range_with_len 0 (bar_count (layout f.image))

    -- ---- BARs

    abbrev bar_fails : ℕ → Bool
    bar_fails n = not (is_left q s f (Bar n)) && not (kept_of told (Bar n))

    bar_same : (bar : CodeBar) (n : ℕ) → decoded_bar_of bar ≡ decoded_bar f.image f.probe n → (is_bar_without above t told bar ≡ bar_fails n) × (bar.reg ≡ bar_register n)
    bar_same bar n e =
        let register : bar.reg ≡ bar_register n = ap (λ (x : DecodedBar). x.register) e in (
          ap (λ b. not b && not (kept_of told (Bar ((bar.reg - 0x10) / 4)))) (left_is q s f r is above over t terms bar n e)
              ∙ ap (λ m. not (is_left q s f (Bar n)) && not (kept_of told (Bar m))) (register_place bar.reg n register),
          register,
        )

    bar_lacks : (n : ℕ) → Contains all n → (has_bar f.probe n && bar_fails n) ≡ lacks (Bar n)
    bar_lacks n listed =
        let low = (in_range_to 0 (bar_count (layout f.image)) n listed).1 in
        and_order (has_bar f.probe n) (not (is_left q s f (Bar n))) (not (kept_of told (Bar n)))
        ∙ ap (λ b. is_part q s f (Bar n) && not b) (tells (Bar n) (lt-ltb n (bar_count (layout f.image)) (omega (arith, low))))

    bars_are : bar_without above t told r.bars.items ≡ first (register_of f) lacks (header_bars f)
    bars_are =
        first_pair decoded_bar_of (decoded_bar f.image f.probe) (λ bar. bar.reg) bar_register (is_bar_without above t told) bar_fails bar_same r.bars.items (bars_in f) (bars_of s f r is)
        ∙ first-filter bar_register (has_bar f.probe) bar_fails all
        ∙ first_same bar_register (λ n. has_bar f.probe n && bar_fails n) (λ n. lacks (Bar n)) all bar_lacks
        ∙ sym (first-map (register_of f) lacks Bar all)

    -- ---- windows and the ROM

    abbrev one : Part → Option ℕ
    one part = cond (lacks part) (Some (register_of f part)) None

    window_lacks : (c : WindowKind) → (is_open f c && not (kept_of told (Window c))) ≡ lacks (Window c)
    window_lacks c = elim (cases_Bool (is_open f c)) [
      | inl opens ↦
          let bridge = (and_parts (is_bridge f) (has_window c f.probe) (and_parts (is_bridge f && has_window c f.probe) (not (is_closed c f.image)) opens).0).0 in
          ap (λ b. is_open f c && not b) (tells (Window c) bridge)
      | inr closed ↦ ap (λ b. b && not (kept_of told (Window c))) closed ∙ sym (ap (λ b. b && fails (Window c)) closed)
    ]

    one_window : (c : WindowKind) (w : Option DecodedWindow) → range_in w ≡ cond (is_open f c) (Some (range_of f (Window c))) None → window_without c w told ≡ one (Window c)
    one_window c w e =
        ap (λ o. cond (is_some o && not (kept_of told (Window c))) (Some (window_register c)) None) e
        ∙ ap (λ b. cond (b && not (kept_of told (Window c))) (Some (window_register c)) None) (some_if (is_open f c) (range_of f (Window c)))
        ∙ ap (λ b. cond b (Some (window_register c)) None) (window_lacks c)

    abbrev windows : Option ℕ
    windows = option_or (one (Window IoWindow)) (option_or (one (Window MemoryWindow)) (one (Window PrefetchWindow)))

    windows_are : (o : Option Bridge) → r.bridge ≡ o → bridge_without o told ≡ windows
    windows_are None e =
        let off : is_bridge f ≡ false = sym (same_bridge r f is.value) ∙ ap is_some e in
        let none : (c : WindowKind) → one (Window c) ≡ None = λ c.
        ap (λ b. cond (((b && has_window c f.probe) && not (is_closed c f.image)) && fails (Window c)) (Some (window_register c)) None) off in
        sym (ap (λ o. option_or o (option_or (one (Window MemoryWindow)) (one (Window PrefetchWindow)))) (none IoWindow)
        ∙ ap (λ o. option_or o (one (Window PrefetchWindow))) (none MemoryWindow) ∙ none PrefetchWindow)
    windows_are (Some b) e =
        ap (λ o. option_or o (option_or (window_without MemoryWindow (Some b.windows.mem) told) (window_without PrefetchWindow b.windows.pref told)))
        (one_window IoWindow b.windows.io (window_is s f r b is e IoWindow))
        ∙ ap (λ o. option_or (one (Window IoWindow)) (option_or o (window_without PrefetchWindow b.windows.pref told)))
        (one_window MemoryWindow (Some b.windows.mem) (window_is s f r b is e MemoryWindow))
        ∙ ap (λ o. option_or (one (Window IoWindow)) (option_or (one (Window MemoryWindow)) o))
        (one_window PrefetchWindow b.windows.pref (window_is s f r b is e PrefetchWindow))

    rom_is : rom_without r told ≡ one Rom
    rom_is =
        ap (λ b. cond (b && not told.rom) (Some (rom_place (is_some r.bridge))) None) (rom_on_is q s f r is above over t terms Memory r.rom (rom_of s f r is))
        ∙ ap (λ b. cond ((has_rom f.image f.probe && rom_is_on f.image) && not b) (Some (rom_place (is_some r.bridge))) None) (tells Rom refl)
        ∙ ap (λ b. cond (lacks Rom) (Some (rom_place b)) None) (same_bridge r f is.value)

    -- ---- all of them

    abbrev others : List Part
    others = Window IoWindow ∷ Window MemoryWindow ∷ Window PrefetchWindow ∷ Rom ∷ []

    parts_are : part_without above t told r ≡ first (register_of f) fails (parts_of q s f)
    parts_are =
        ap (λ o. option_or o (option_or (bridge_without r.bridge told) (rom_without r told))) bars_are
        ∙ ap (λ o. option_or (first (register_of f) lacks (header_bars f)) (option_or o (rom_without r told))) (windows_are r.bridge refl)
        ∙ ap (λ o. option_or (first (register_of f) lacks (header_bars f)) (option_or windows o)) rom_is
        ∙ ap (λ o. option_or (first (register_of f) lacks (header_bars f)) o)
        (sym (first_of_four (register_of f) (lacks (Window IoWindow)) (lacks (Window MemoryWindow)) (lacks (Window PrefetchWindow)) (lacks Rom) (Window IoWindow) (Window MemoryWindow) (Window PrefetchWindow) Rom))
        ∙ sym (first-append (register_of f) lacks (header_bars f) others)
        ∙ sym (first-filter (register_of f) (is_part q s f) fails (header_parts f))

    abbrev off : FunctionPart → Bool
    off x = is_fixed_part q x && not (test x)

    pub record_is : (fixed : Bool) → fixed ≡ list_any (same_slot f.slot) q.fixed → record_without fixed above t told r ≡ first fixed_part off (function_parts q s f)
    record_is fixed same =
        let flag = list_any (same_slot f.slot) q.fixed in
        let told_by : (b : Bool) → cond b (option_map (Fixed r.slot) (part_without above t told r)) None ≡ first (λ part. fixed_part (region part)) (λ part. b && fails part) (parts_of q s f) = λ b.
        elim b as (λ b. cond b (option_map (Fixed r.slot) (part_without above t told r)) None ≡ first (λ part. fixed_part (region part)) (λ part. b && fails part) (parts_of q s f)) [
          | true ↦
              ap (λ o. option_map (Fixed r.slot) o) parts_are
              ∙ ap (λ slot. option_map (Fixed slot) (first (register_of f) fails (parts_of q s f))) (same_slot_of r f is.value)
              ∙ map_twice (Fixed f.slot) (register_of f) (find fails (parts_of q s f))
          | false ↦ sym (first_none (λ part. fixed_part (region part)) (parts_of q s f))
        ] in
        ap (λ b. record_without b above t told r) same ∙ told_by flag ∙ sym (first-map fixed_part off region (parts_of q s f))
