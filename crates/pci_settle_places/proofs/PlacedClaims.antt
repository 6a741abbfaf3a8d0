-- What a function has in a space by its record and places is what the definitions say.
use Rattle.std.proofs.Common.{◌≡◌, ℕ, ◌-◌, ◌/◌, List, [], ◌∷◌, Bool, true, false, ◌&&◌, ◌||◌, not, arith, refl, sym, ◌∙◌, ap, Option, None, Some}
use Rattle.std.specs.Bool.{if◌then◌else◌}
use Rattle.std.specs.Option.{is_some}
use Rattle.std.specs.List.{Contains, filter, list_any, range_with_len}
use Rattle.std.proofs.lemmas.Bool.{and_parts, eqb-true, lt-ltb}
use Rattle.std.proofs.lemmas.List.Folds.{list_any-append}
use Rattle.pci_spec.specs.Header.{layout, bar_count}
use Rattle.pci_spec.specs.Bar.{has_bar}
use Rattle.pci_spec.specs.Window.{WindowKind, IoWindow, MemoryWindow, PrefetchWindow, has_window, is_closed}
use Rattle.pci_spec.specs.Decoded.{DecodedBar, decoded_bar, decoded_window}
use Rattle.pci_spec.specs.Decoded as decoded
use Rattle.pci_spec.specs.System.{System, Function, Space, Io, Memory, Part, Bar, Rom, Window, is_bridge, is_window, is_implemented, is_space_on, has_part, space_of}
use Rattle.pci_spec.proofs.Members.{in_range_to}
use Rattle.pci_spec.proofs.Records.{memory_window_there}
use Rattle.settle_spec.specs.Lists.{Request}
use Rattle.settle_spec.specs.Parts.{FunctionPart, is_part, is_left, header_bars, header_parts, are_same_space, has_left}
use Rattle.settle_spec.specs.Items.{Placed}
use Rattle.settle_spec.specs.Kept.{Kept}
use Rattle.settle_spec.specs.Keeping.Places.{new_place}
use Rattle.settle_spec.specs.Keeping.Registers.{got_place, is_enabled_if}
use Rattle.settle_spec.specs.LiveLaws.{has_live_behind}
use Rattle.pci_base.specs.Space.{is_on}
use Rattle.pci_image.specs.declared.bar.Bar.{Bar as CodeBar}
use Rattle.pci_image.specs.Bars.{decoded_bar_of}
use Rattle.pci_function.specs.declared.record.Bridge.{Bridge}
use Rattle.pci_function.specs.declared.record.Record.{Record}
use Rattle.pci_tree.proofs.Lifting.{same_bridge}
use Rattle.pci_tree.proofs.RegionParts.{same_bridge_of}
use Rattle.pci_place.specs.declared.above.Above.{Above}
use Rattle.pci_place.specs.Above.{IsAbove}
use Rattle.pci_first_fit.specs.declared.own.Terms.{Terms}
use Rattle.pci_first_fit.specs.Slots.{demand_of}
use Rattle.pci_first_fit.specs.Own.{AreTerms}
use Rattle.pci_settle_places.specs.declared.places.Places.{Places}
use Rattle.pci_settle_places.specs.Places.{place_range_in, placed_at}
use Rattle.pci_settle_places.specs.Images.{HasPartPlaces}
use Rattle.pci_settle_places.specs.Claims.{is_placed_bar, has_placed_window, has_placed, is_enabled_by}
use Rattle.pci_settle_places.proofs.PlacedParts.{placed_is_part}
use Rattle.pci_settle_places.proofs.PlacedImages.{low_bus, window_changes, register_place}
use Rattle.pci_settle_places.proofs.KeptClaims.{any_filter, any_map, and_false, any_bar, bar_space, left_are, on_is}

-- ---- tests

or_nothing : (a : Bool) → (a || false) ≡ a
or_nothing true = refl
or_nothing false = refl

or_order : (a b c d : Bool) → ((a || (b || c)) || d) ≡ (a || (b || (c || (d || false))))
or_order true b c d = refl
or_order false true c d = refl
or_order false false true d = refl
or_order false false false d = sym (or_nothing d)

some_placed : (o : Option Placed) → is_some (placed_at o) ≡ is_some o
some_placed None = refl
some_placed (Some p) = refl

some_if : (b : Bool) (w : decoded.DecodedWindow) → is_some (if b then Some w else None) ≡ b
some_if true w = refl
some_if false w = refl

-- what has a place passes a test that all that are placed pass
by_place : {X : Type 0} (o : Option X) (test other is : Bool) → ((x : X) → o ≡ Some x → (test ≡ true) × (other ≡ true)) → (test && (is && is_some o)) ≡ (other && (is && is_some o))
by_place None test other true both = and_false test ∙ sym (and_false other)
by_place None test other false both = and_false test ∙ sym (and_false other)
by_place (Some x) test other is both = ap (λ b. b && (is && true)) (both x refl).0 ∙ sym (ap (λ b. b && (is && true)) (both x refl).1)

module _ (q : Request) (s : System) (keep : Kept) (f : Function) (r : Record) (p : Places) (placed : HasPartPlaces q s keep f r p) (above : Above) (over : IsAbove s f.slot.bus above) (t : Terms) (terms : AreTerms (demand_of q) t) (space : Space) where
  abbrev region : Part → FunctionPart
  region part = record { function = f; part = part }

  abbrev place : Part → Option Placed
  place part = new_place q s keep (region part)

  abbrev all : List ℕ
  all = range_with_len 0 (bar_count (layout f.image))

  abbrev is_of : Part → Bool
  is_of part = are_same_space space (space_of f part)

  -- ---- what got a place

  abbrev changes : Part → Bool
  changes part = is_part q s f part || (is_window part && is_implemented f part)

  abbrev got : Part → Bool
  got part = changes part && (is_of part && is_some (place part))

  at_part : (part : Part) → has_part f part ≡ true → is_some (place_range_in p part) ≡ is_some (place part)
  at_part part there = ap is_some (placed.each part there) ∙ some_placed (place part)

  placed_same : (bar : CodeBar) (n : ℕ) → decoded_bar_of bar ≡ decoded_bar f.image f.probe n → is_placed_bar space p bar ≡ (is_of (Bar n) && is_some (place_range_in p (Bar n)))
  placed_same bar n e =
      ap (λ b. b && is_some (place_range_in p (Bar ((bar.reg - 0x10) / 4)))) (bar_space f space bar n e)
      ∙ ap (λ m. is_of (Bar n) && is_some (place_range_in p (Bar m))) (register_place bar.reg n (ap (λ (x : DecodedBar). x.register) e))

  is_there : (part : Part) → has_part f part ≡ true → is_window part ≡ false → (x : Placed) → place part ≡ Some x → is_part q s f part ≡ true
  is_there part there plain x some = placed_is_part q s keep placed.system placed.nested f placed.is.listed (low_bus q s keep f r p placed) part there plain x some

  got_bar : (n : ℕ) → Contains all n → (has_bar f.probe n && (is_of (Bar n) && is_some (place_range_in p (Bar n)))) ≡ got (Bar n)
  got_bar n listed =
      let low = (in_range_to 0 (bar_count (layout f.image)) n listed).1 in
      let there = lt-ltb n (bar_count (layout f.image)) (omega (arith, low)) in
      ap (λ b. has_bar f.probe n && (is_of (Bar n) && b)) (at_part (Bar n) there)
      ∙ by_place (place (Bar n)) (has_bar f.probe n) (changes (Bar n)) (is_of (Bar n)) (λ x some.
      let is = is_there (Bar n) there refl x some in
      ((and_parts (has_bar f.probe n) (not (is_left q s f (Bar n))) is).0, ap (λ b. b || false) is))

  got_rom : (are_same_space space Memory && is_some p.rom) ≡ got Rom
  got_rom =
      ap (λ b. are_same_space space Memory && b) (at_part Rom refl)
      ∙ by_place (place Rom) true (changes Rom) (are_same_space space Memory) (λ x some. (refl, ap (λ b. b || false) (is_there Rom refl refl x some)))

  window_got : (c : WindowKind) → is_bridge f ≡ true → (has_window c f.probe && (is_of (Window c) && is_some (place_range_in p (Window c)))) ≡ got (Window c)
  window_got c bridge =
      ap (λ b. has_window c f.probe && (is_of (Window c) && b)) (at_part (Window c) bridge)
      ∙ sym (ap (λ b. b && (is_of (Window c) && is_some (place (Window c)))) (window_changes (is_bridge f) (has_window c f.probe) (is_closed c f.image) ∙ ap (λ b. b && has_window c f.probe) bridge))

  abbrev windows_got : Bool
  windows_got = got (Window IoWindow) || (got (Window MemoryWindow) || got (Window PrefetchWindow))

  windows_are : (o : Option Bridge) → r.bridge ≡ o → has_placed_window space p o ≡ windows_got
  windows_are None e =
      let off : is_bridge f ≡ false = sym (same_bridge r f placed.is.value) ∙ ap is_some e in
      let none : (c : WindowKind) → got (Window c) ≡ false = λ c.
      ap (λ b. b && (is_of (Window c) && is_some (place (Window c)))) (window_changes (is_bridge f) (has_window c f.probe) (is_closed c f.image) ∙ ap (λ b. b && has_window c f.probe) off) in
      sym (ap (λ b. b || (got (Window MemoryWindow) || got (Window PrefetchWindow))) (none IoWindow) ∙ ap (λ b. b || got (Window PrefetchWindow)) (none MemoryWindow) ∙ none PrefetchWindow)
  windows_are (Some b) e =
      let bridge : is_bridge f ≡ true = sym (same_bridge r f placed.is.value) ∙ ap is_some e in
      let value = same_bridge_of r f b placed.is.value e in
      let w = b.windows in
      let io_is : is_some w.io ≡ has_window IoWindow f.probe = ap (λ (x : decoded.Bridge). is_some x.windows.io) value ∙ some_if (has_window IoWindow f.probe) (decoded_window IoWindow f.image f.probe) in
      let prefetch_is : is_some w.pref ≡ has_window PrefetchWindow f.probe = ap (λ (x : decoded.Bridge). is_some x.windows.prefetch) value ∙ some_if (has_window PrefetchWindow f.probe) (decoded_window PrefetchWindow f.image f.probe) in
      let has = memory_window_there f.image f.probe (placed.is.decodable.windows MemoryWindow (eqb-true (layout f.image) 1 bridge)) in
      let io : (is_some w.io && (are_same_space space Io && is_some p.windows.io)) ≡ got (Window IoWindow) =
      ap (λ x. x && (are_same_space space Io && is_some p.windows.io)) io_is ∙ window_got IoWindow bridge in
      let memory : (are_same_space space Memory && is_some p.windows.memory) ≡ got (Window MemoryWindow) =
      sym (ap (λ x. x && (are_same_space space Memory && is_some p.windows.memory)) has) ∙ window_got MemoryWindow bridge in
      let prefetch : (is_some w.pref && (are_same_space space Memory && is_some p.windows.prefetchable)) ≡ got (Window PrefetchWindow) =
      ap (λ x. x && (are_same_space space Memory && is_some p.windows.prefetchable)) prefetch_is ∙ window_got PrefetchWindow bridge in
      ap (λ x. x || ((are_same_space space Memory && is_some p.windows.memory) || (is_some w.pref && (are_same_space space Memory && is_some p.windows.prefetchable)))) io
      ∙ ap (λ x. got (Window IoWindow) || (x || (is_some w.pref && (are_same_space space Memory && is_some p.windows.prefetchable)))) memory
      ∙ ap (λ x. got (Window IoWindow) || (got (Window MemoryWindow) || x)) prefetch

  placed_are : has_placed space p r ≡ got_place q s keep space f
  placed_are =
      ap (λ b. b || (has_placed_window space p r.bridge || (are_same_space space Memory && is_some p.rom)))
      (any_bar s f r placed.is (is_placed_bar space p) (λ n. is_of (Bar n) && is_some (place_range_in p (Bar n))) got placed_same got_bar)
      ∙ ap (λ b. list_any got (header_bars f) || (b || (are_same_space space Memory && is_some p.rom))) (windows_are r.bridge refl)
      ∙ ap (λ b. list_any got (header_bars f) || (windows_got || b)) got_rom
      ∙ ap (λ b. list_any got (header_bars f) || b) (or_order (got (Window IoWindow)) (got (Window MemoryWindow)) (got (Window PrefetchWindow)) (got Rom))
      ∙ sym (list_any-append got (header_bars f) (Window IoWindow ∷ Window MemoryWindow ∷ Window PrefetchWindow ∷ Rom ∷ []))
      ∙ sym (any_map (λ (x : FunctionPart). are_same_space space (space_of x.function x.part) && is_some (new_place q s keep x)) region (filter changes (header_parts f))
      ∙ any_filter changes (λ part. is_of part && is_some (place part)) (header_parts f))

  -- ---- Command

  pub enabled_is : (live : Function → Bool) (behind : Bool) → behind ≡ has_live_behind s live f → is_enabled_by space p above t r behind ≡ is_enabled_if q s keep space live f
  enabled_is live behind same =
      ap (λ b. not (are_same_space space Io && b) && (is_on r.command space || has_placed space p r || behind)) (left_are q s f r placed.is above over t terms)
      ∙ ap (λ b. not (are_same_space space Io && has_left q s f) && (b || has_placed space p r || behind)) (on_is s f r placed.is space)
      ∙ ap (λ b. not (are_same_space space Io && has_left q s f) && (is_space_on f space || b || behind)) placed_are
      ∙ ap (λ b. not (are_same_space space Io && has_left q s f) && (is_space_on f space || got_place q s keep space f || b)) same
