-- The image with what is decoded of it at its places is the settled one.
use Rattle.std.proofs.Common.{◌≡◌, ℕ, ◌+◌, ◌-◌, ◌/◌, ◌%◌, ◌^◌, ◌<◌, inl, inr, List, [], ◌∷◌, ◌++◌, map, Bool, true, false, cond, ◌&&◌, ◌||◌, not, arith, refl, sym, ◌∙◌, ap, Option, None, Some}
use Rattle.std.specs.Bool.{◌==◌, if◌then◌else◌}
use Rattle.std.specs.Option.{is_some, option_map}
use Rattle.std.specs.List.{Contains, filter, fold, range_with_len}
use Rattle.std.proofs.lemmas.Bool.{cases_Bool, and_from, and_parts, eqb-true, eq-eqb, lt-ltb}
use Rattle.std.proofs.lemmas.List.Elements.{All-contains}
use Rattle.std.proofs.lemmas.List.Folds.{fold-map}
use Rattle.std.proofs.lemmas.List.Sums.{fold-append}
use Rattle.pci_spec.specs.Number.{number_at}
use Rattle.pci_spec.specs.Header.{layout, bar_count, bar_register, rom_place, rom_register}
use Rattle.pci_spec.specs.Bar.{bar_at, bar_kind, is_wide, has_bar, first_bit}
use Rattle.pci_spec.specs.Window.{WindowKind, IoWindow, MemoryWindow, PrefetchWindow, has_window, is_closed, bounds_for, closed_bounds}
use Rattle.pci_spec.specs.Decoded.{DecodedBar, decoded_bar, decoded_window, optional_window, window_range}
use Rattle.pci_spec.specs.Decoded as decoded
use Rattle.pci_spec.specs.System.{System, Function, Part, Bar, Rom, Window, IsFunction, is_bridge, is_window, is_implemented, has_part}
use Rattle.pci_spec.proofs.Members.{in_head, in_tail, in_range_to}
use Rattle.pci_spec.proofs.Records.{memory_window_there}
use Rattle.plan_spec.specs.Plan.{is_open}
use Rattle.plan_spec.specs.Planning.Showing.{bar_value, rom_value}
use Rattle.plan_spec.proofs.Planning.LowBits.{low_bits}
use Rattle.settle_spec.specs.Lists.{Request}
use Rattle.settle_spec.specs.Parts.{FunctionPart, addresses, is_part, is_left, header_bars}
use Rattle.settle_spec.specs.Stands.{window_part}
use Rattle.settle_spec.specs.Items.{Placed}
use Rattle.settle_spec.specs.Kept.{Kept, range_or}
use Rattle.settle_spec.specs.Keeping.Places.{new_place}
use Rattle.settle_spec.specs.Registers.{with_place, closed_if_open}
use Rattle.judge_spec.specs.Windows.{with_number, with_bounds}
use Rattle.settle_spec.specs.Keeping.Registers.{is_same_range, with_kept, shown, with_wish, settled_image}
use Rattle.pci_image.specs.declared.bar.Bar.{Bar as CodeBar}
use Rattle.pci_image.specs.Bars.{decoded_kind_of, decoded_bar_of}
use Rattle.pci_function.specs.declared.record.Bridge.{Bridge}
use Rattle.pci_function.specs.declared.record.Record.{Record}
use Rattle.pci_tree.proofs.Lifting.{same_bridge}
use Rattle.pci_tree.proofs.RegionParts.{same_bridge_of}
use Rattle.pci_place.specs.Classes.{is_wide_kind}
use Rattle.pci_place.proofs.ClassOf.{kind_wide}
use Rattle.pci_place.proofs.Parts.{bars_in, bars_of}
use Rattle.pci_base.specs.declared.range.Range.{Range}
use Rattle.pci_base.specs.declared.window_kind.ByKind.{ByKind}
use Rattle.pci_base.specs.Ranges.{decoded_range_of}
use Rattle.pci_settle_places.specs.declared.places.Places.{Places}
use Rattle.pci_settle_places.specs.Places.{place_range_in, placed_at}
use Rattle.pci_first_fit.specs.Keeping.{told_of_kind}
use Rattle.pci_settle_places.specs.Shown.{nibble, with_bar, with_closed, window_has_range, with_grown, with_window_placed, with_optional, with_room, with_wished}
use Rattle.pci_settle_places.specs.Images.{where_placed, with_placed_bar, with_bars, with_bridge_windows, with_placed_rom, with_parts, is_staying_window, HasPartPlaces, HasPlacesAndWindows}
use Rattle.pci_settle_places.proofs.PlacedParts.{placed_is_part}

-- ---- folds

module _ {X Y Z : Type 0} where
  fold_kept : (F : Z → Y → Z) (make : X → Y) (test : X → Bool) (z : Z) (xs : List X) → fold F z (map make (filter test xs)) ≡ fold (λ a x. cond (test x) (F a (make x)) a) z xs
  fold_kept F make test z [] = refl
  fold_kept F make test z (x ∷ xs) =
      let G : Z → X → Z = λ a y. cond (test y) (F a (make y)) a in
      elim (test x) as (λ b. fold F z (map make (cond b (x ∷ filter test xs) (filter test xs))) ≡ fold G (cond b (F z (make x)) z) xs) [
        | true ↦ fold_kept F make test (F z (make x)) xs
        | false ↦ fold_kept F make test z xs
      ]

  -- two lists of the same values, gone over in the same way
  fold_pair : {W : Type 0} (a : X → W) (b : Y → W) (F : Z → X → Z) (G : Z → Y → Z) → ((x : X) (y : Y) → a x ≡ b y → (z : Z) → F z x ≡ G z y)
      → (xs : List X) (ys : List Y) → map a xs ≡ map b ys → (z : Z) → fold F z xs ≡ fold G z ys
  fold_pair a b F G same [] [] e z = refl
  fold_pair a b F G same [] (y ∷ ys) e z = cc
  fold_pair a b F G same (x ∷ xs) [] e z = cc
  fold_pair a b F G same (x ∷ xs) (y ∷ ys) e z =
      let head : a x ≡ b y = cc in
      let tail : map a xs ≡ map b ys = cc in
      ap (λ c. fold F c xs) (same x y head z) ∙ fold_pair a b F G same xs ys tail (G z y)

module _ {X Z : Type 0} where
  fold_same : (F G : Z → X → Z) (xs : List X) → ((x : X) → Contains xs x → (z : Z) → F z x ≡ G z x) → (z : Z) → fold F z xs ≡ fold G z xs
  fold_same F G [] same z = refl
  fold_same F G (x ∷ xs) same z = ap (λ a. fold F a xs) (same x (in_head x xs) z) ∙ fold_same F G xs (λ y listed. same y (in_tail x xs y listed)) (G z x)

  fold_filter : (F : Z → X → Z) (test : X → Bool) (z : Z) (xs : List X) → fold F z (filter test xs) ≡ fold (λ a x. cond (test x) (F a x) a) z xs
  fold_filter F test z [] = refl
  fold_filter F test z (x ∷ xs) =
      let G : Z → X → Z = λ a y. cond (test y) (F a y) a in
      elim (test x) as (λ b. fold F z (cond b (x ∷ filter test xs) (filter test xs)) ≡ fold G (cond b (F z x) z) xs) [
        | true ↦ fold_filter F test (F z x) xs
        | false ↦ fold_filter F test z xs
      ]

pub register_place : (register n : ℕ) → register ≡ bar_register n → (register - 0x10) / 4 ≡ n
register_place register n at = omega (arith, at)

-- ---- tests

not_closed : (closed : Bool) → not closed ≡ true → closed ≡ false
not_closed true is = cc
not_closed false is = refl

pub window_changes : (a b c : Bool) → ((a && b && not c) || (a && b)) ≡ (a && b)
window_changes true true true = refl
window_changes true true false = refl
window_changes true false c = refl
window_changes false b c = refl

open_by : (a b c : Bool) → (a && b) ≡ true → (a && b && not c) ≡ not c
open_by true true c on = refl
open_by true false c on = cc
open_by false b c on = cc

and_false : (a : Bool) → (a && false) ≡ false
and_false true = refl
and_false false = refl

some_range : (closed : Bool) (r : decoded.Range) → is_some (if closed then None else Some r) ≡ not closed
some_range true r = refl
some_range false r = refl

-- a place that is shown, whether or not there is one
by_place : {X Z : Type 0} (o : Option X) (test : Bool) (some : X → Z) (none : Z) (any : Option X → Z) → (o ≡ None → any None ≡ none) → ((x : X) → o ≡ Some x → (any (Some x) ≡ some x) × (test ≡ true))
    → (other : Option X → Z) → other None ≡ none → ((x : X) → other (Some x) ≡ some x) → cond test (any o) none ≡ other o
by_place None test some none any off on other first second = (elim test as (λ b. cond b (any None) none ≡ none) [ true ↦ off refl | false ↦ refl ]) ∙ sym first
by_place (Some x) test some none any off on other first second = ap (λ b. cond b (any (Some x)) none) (on x refl).1 ∙ (on x refl).0 ∙ sym (second x)

-- its bus is one of 256
pub low_bus : (q : Request) (s : System) (keep : Kept) (f : Function) (r : Record) (p : Places) → HasPartPlaces q s keep f r p → f.slot.bus < 256
low_bus q s keep f r p has = (All-contains IsFunction s f has.system.each has.is.listed).slot.0

-- a range is itself
same_itself : (r : decoded.Range) → is_same_range r r ≡ true
same_itself r = and_from (r.first == r.first) (r.last == r.last) (eq-eqb r.first r.first refl) (eq-eqb r.last r.last refl)

module _ (q : Request) (s : System) (keep : Kept) (f : Function) (r : Record) (image : List ℕ) (p : Places) (kept : ByKind Bool) (grown wished : ByKind (Option Range)) (image_is : image ≡ f.image) (placed : HasPlacesAndWindows q s keep f r p kept grown wished) where
  abbrev has : HasPartPlaces q s keep f r p
  has = placed.places

  abbrev region : Part → FunctionPart
  region part = record { function = f; part = part }

  abbrev place : Part → Option Placed
  place part = new_place q s keep (region part)

  abbrev step : List ℕ → Part → List ℕ
  step im part = with_wish (region part) (keep.wished (region part)) (shown keep (region part) (place part) im)

  abbrev changes : Part → Bool
  changes part = is_part q s f part || (is_window part && is_implemented f part)

  abbrev step_if : List ℕ → Part → List ℕ
  step_if im part = cond (changes part) (step im part) im

  -- ---- BARs and the ROM

  abbrev at_place : Part → Range → List ℕ → List ℕ
  at_place (Bar n) place im =
      with_number (if is_wide (bar_at f.probe n) then 8 else 4) (bar_register n) (bar_value f.image f.probe n place.first) im
  at_place Rom place im = with_number 4 (rom_register (layout f.image)) (rom_value f.image place.first) im
  at_place (Window c) place im = im

  either_same : (b : Bool) (im : List ℕ) → cond b im im ≡ im
  either_same true im = refl
  either_same false im = refl

  own_none : (b : Bool) (part : Part) (im : List ℕ) → is_window part ≡ false → cond b (with_kept keep (region part) im) (closed_if_open f part im) ≡ im
  own_none true (Bar n) im plain = either_same (is_same_range (keep.range (region (Bar n))) (addresses (region (Bar n)))) im
  own_none true Rom im plain = either_same (is_same_range (keep.range (region Rom)) (addresses (region Rom))) im
  own_none true (Window c) im plain = cc
  own_none false (Bar n) im plain = refl
  own_none false Rom im plain = refl
  own_none false (Window c) im plain = cc

  own_some : (part : Part) (x : Placed) (im : List ℕ) → is_window part ≡ false → with_place f part x im ≡ at_place part (record { first = x.at; last = x.at + (x.item.extent.size - 1) }) im
  own_some (Bar n) x im plain = refl
  own_some Rom x im plain = refl
  own_some (Window c) x im plain = cc

  -- a part shows its place, where it has one
  own_step : (part : Part) → has_part f part ≡ true → is_window part ≡ false → (im : List ℕ) → step_if im part ≡ where_placed (at_place part) (place_range_in p part) im
  own_step part there plain im =
      ap (λ w. cond (changes part) (with_wish (region part) w (shown keep (region part) (place part) im)) im) (placed.others part there plain)
      ∙ by_place (place part) (changes part) (λ x. with_place f part x im) im (λ o. shown keep (region part) o im)
      (λ none. own_none (keep.stays (region part)) part im plain)
      (λ x some. (refl, ap (λ b. b || (is_window part && is_implemented f part)) (placed_is_part q s keep has.system has.nested f has.is.listed (low_bus q s keep f r p has) part there plain x some)))
      (λ o. where_placed (at_place part) (placed_at o) im) refl (λ x. sym (own_some part x im plain))
      ∙ ap (λ o. where_placed (at_place part) o im) (sym (has.each part there))

  abbrev all : List ℕ
  all = range_with_len 0 (bar_count (layout f.image))

  abbrev bar_step : List ℕ → ℕ → List ℕ
  bar_step im n = where_placed (at_place (Bar n)) (place_range_in p (Bar n)) im

  -- a BAR that isn't implemented has no place
  bar_if : (n : ℕ) → Contains all n → (im : List ℕ) → step_if im (Bar n) ≡ cond (has_bar f.probe n) (bar_step im n) im
  bar_if n listed im =
      let low = (in_range_to 0 (bar_count (layout f.image)) n listed).1 in
      let same = own_step (Bar n) (lt-ltb n (bar_count (layout f.image)) (omega (arith, low))) refl im in
      elim (cases_Bool (has_bar f.probe n)) [
        | inl there ↦ same ∙ sym (ap (λ b. cond b (bar_step im n) im) there)
        | inr none ↦
            ap (λ b. cond ((b && not (is_left q s f (Bar n))) || false) (step im (Bar n)) im) none
            ∙ sym (ap (λ b. cond b (bar_step im n) im) none)
      ]

  bar_same : (bar : CodeBar) (n : ℕ) → decoded_bar_of bar ≡ decoded_bar f.image f.probe n → (im : List ℕ) → with_placed_bar f.image p im bar ≡ bar_step im n
  bar_same bar n e im =
      let register : bar.reg ≡ bar_register n = ap (λ (x : DecodedBar). x.register) e in
      let kind : decoded_kind_of bar.kind ≡ bar_kind (bar_at f.probe n) = ap (λ (x : DecodedBar). x.kind) e in
      let shows : (o : Option Range) → where_placed (with_bar (number_at f.image bar.reg 4) bar) o im ≡ where_placed (at_place (Bar n)) o im = λ o.
      elim o as (λ o. where_placed (with_bar (number_at f.image bar.reg 4) bar) o im ≡ where_placed (at_place (Bar n)) o im) [
        | None ↦ refl
        | Some x ↦
            ap (λ k. with_number (if is_wide_kind bar.kind then 8 else 4) bar.reg (x.first + number_at f.image bar.reg 4 % 2 ^ first_bit k) im) kind
            ∙ ap (λ w. with_number (if w then 8 else 4) bar.reg (x.first + number_at f.image bar.reg 4 % 2 ^ first_bit (bar_kind (bar_at f.probe n))) im) (kind_wide f bar n e)
            ∙ ap (λ g. with_number (if is_wide (bar_at f.probe n) then 8 else 4) g (x.first + number_at f.image g 4 % 2 ^ first_bit (bar_kind (bar_at f.probe n))) im) register
            ∙ ap (λ low. with_number (if is_wide (bar_at f.probe n) then 8 else 4) (bar_register n) (x.first + low) im) (sym (low_bits f n))
      ] in
      shows (place_range_in p (Bar ((bar.reg - 0x10) / 4)))
      ∙ ap (λ m. where_placed (at_place (Bar n)) (place_range_in p (Bar m)) im) (register_place bar.reg n register)

  bars_are : with_bars f.image p r.bars.items f.image ≡ fold step_if f.image (header_bars f)
  bars_are =
      fold_pair decoded_bar_of (decoded_bar f.image f.probe) (with_placed_bar f.image p) bar_step bar_same r.bars.items (bars_in f) (bars_of s f r has.is) f.image
      ∙ fold_filter bar_step (has_bar f.probe) f.image all
      ∙ sym (fold_same (λ im n. step_if im (Bar n)) (λ im n. cond (has_bar f.probe n) (bar_step im n) im) all bar_if f.image)
      ∙ sym (fold-map step_if Bar f.image all)

  rom_is : (im : List ℕ) → with_placed_rom f.image p (rom_place (is_some r.bridge)) im ≡ step_if im Rom
  rom_is im =
      ap (λ b. with_placed_rom f.image p (rom_place b) im) (same_bridge r f has.is.value)
      ∙ sym (own_step Rom refl refl im)

  -- ---- windows

  window_off : (c : WindowKind) → is_implemented f (Window c) ≡ false → (im : List ℕ) → step_if im (Window c) ≡ im
  window_off c off im =
      ap (λ b. cond b (step im (Window c)) im) (window_changes (is_bridge f) (has_window c f.probe) (is_closed c f.image) ∙ off)

  abbrev told : WindowKind → Option Range
  told c = told_of_kind grown c

  module _ (c : WindowKind) (on : is_implemented f (Window c) ≡ true) where
    there : is_bridge f ≡ true
    there = (and_parts (is_bridge f) (has_window c f.probe) on).0

    abbrev w : decoded.DecodedWindow
    w = decoded_window c f.image f.probe

    abbrev own : decoded.Range
    own = addresses (window_part c f)

    opened : is_some (window_range c f.image) ≡ is_open f c
    opened = some_range (is_closed c f.image) _ ∙ sym (open_by (is_bridge f) (has_window c f.probe) (is_closed c f.image) on)

    -- an open window has its addresses
    range_is : is_open f c ≡ true → w.range ≡ Some own
    range_is is =
        let shut : is_closed c f.image ≡ false = not_closed (is_closed c f.image) (sym (open_by (is_bridge f) (has_window c f.probe) (is_closed c f.image) on) ∙ is) in
        ap (λ b. if b then None else Some own) shut

    -- a window that stays
    grown_is : keep.stays (window_part c f) ≡ true → (im : List ℕ) → with_grown c w (told c) im ≡ with_kept keep (window_part c f) im
    grown_is stays im = by (told c) refl
      where
        by : (o : Option Range) → told c ≡ o → with_grown c w (told c) im ≡ with_kept keep (window_part c f) im
        by None none =
            let range : keep.range (window_part c f) ≡ own = placed.ranges c there stays ∙ ap (λ o. range_or (option_map decoded_range_of o) own) none in
            ap (λ o. with_grown c w o im) none
            ∙ sym (ap (λ x. cond (is_same_range x own) im (with_bounds c (bounds_for c (nibble w.wide) x.first x.last) im)) range
            ∙ ap (λ b. cond b im (with_bounds c (bounds_for c (nibble w.wide) own.first own.last) im)) (same_itself own))
        by (Some x) some =
            let range : keep.range (window_part c f) ≡ decoded_range_of x = placed.ranges c there stays ∙ ap (λ o. range_or (option_map decoded_range_of o) own) some in
            ap (λ o. with_grown c w o im) some
            ∙ ap (λ o. cond (window_has_range o x) im (with_bounds c (bounds_for c (nibble w.wide) x.first x.last) im)) (range_is (placed.opened c there stays))
            ∙ sym (ap (λ x. cond (is_same_range x own) im (with_bounds c (bounds_for c (nibble w.wide) x.first x.last) im)) range)

    none_is : (b : Bool) → keep.stays (window_part c f) ≡ b → (im : List ℕ) → cond b (with_grown c w (told c) im) (with_closed c w im) ≡ cond b (with_kept keep (window_part c f) im) (closed_if_open f (Window c) im)
    none_is true stays im = grown_is stays im
    none_is false stays im = ap (λ b. cond b (with_bounds c (closed_bounds c (nibble w.wide)) im) im) opened

    -- what is wished of it
    room_is : (im : List ℕ) → with_room c (told_of_kind wished c) w im ≡ with_wish (window_part c f) (keep.wished (window_part c f)) im
    room_is im =
        let each : (o : Option Range) → with_room c o w im ≡ with_wish (window_part c f) (option_map decoded_range_of o) im = λ o.
        elim o as (λ o. with_room c o w im ≡ with_wish (window_part c f) (option_map decoded_range_of o) im) [ None ↦ refl | Some x ↦ refl ] in
        each (told_of_kind wished c) ∙ sym (ap (λ o. with_wish (window_part c f) o im) (placed.wishes c))

    window_on : (im : List ℕ) → with_room c (told_of_kind wished c) w (with_window_placed c (is_staying_window kept c) (told c) w (place_range_in p (Window c)) im) ≡ step_if im (Window c)
    window_on im =
        let each : (o : Option Placed) → with_window_placed c (is_staying_window kept c) (told c) w (placed_at o) im ≡ shown keep (region (Window c)) o im = λ o.
        elim o as (λ o. with_window_placed c (is_staying_window kept c) (told c) w (placed_at o) im ≡ shown keep (region (Window c)) o im) [
          | None ↦
              ap (λ b. cond b (with_grown c w (told c) im) (with_closed c w im)) (placed.windows c there)
              ∙ none_is (keep.stays (window_part c f)) refl im
          | Some x ↦ refl
        ] in
        ap (λ o. with_room c (told_of_kind wished c) w (with_window_placed c (is_staying_window kept c) (told c) w o im)) (has.each (Window c) there)
        ∙ ap (with_room c (told_of_kind wished c) w) (each (place (Window c)))
        ∙ room_is (shown keep (region (Window c)) (place (Window c)) im)
        ∙ sym (ap (λ b. cond b (step im (Window c)) im) (window_changes (is_bridge f) (has_window c f.probe) (is_closed c f.image) ∙ on))

  -- a window of a class at its place, and with what is wished of it
  abbrev with_both : (c : WindowKind) → Option decoded.DecodedWindow → List ℕ → List ℕ
  with_both c o im = with_wished c (told_of_kind wished c) o (with_optional c (is_staying_window kept c) (told c) o (place_range_in p (Window c)) im)

  optional_is : (c : WindowKind) → is_bridge f ≡ true → (im : List ℕ) → with_both c (optional_window c f.image f.probe) im ≡ step_if im (Window c)
  optional_is c bridge im = elim (cases_Bool (has_window c f.probe)) [
    | inl has ↦
        ap (λ b. with_both c (if b then Some (decoded_window c f.image f.probe) else None) im) has
        ∙ window_on c (and_from (is_bridge f) (has_window c f.probe) bridge has) im
    | inr none ↦
        ap (λ b. with_both c (if b then Some (decoded_window c f.image f.probe) else None) im) none
        ∙ sym (window_off c (ap (λ b. is_bridge f && b) none ∙ and_false (is_bridge f)) im)
  ]

  abbrev windows_step : List ℕ → List ℕ
  windows_step im = step_if (step_if (step_if im (Window IoWindow)) (Window MemoryWindow)) (Window PrefetchWindow)

  windows_are : (o : Option Bridge) → r.bridge ≡ o → (im : List ℕ) → with_bridge_windows p kept grown wished o im ≡ windows_step im
  windows_are None e im =
      let off : is_bridge f ≡ false = sym (same_bridge r f has.is.value) ∙ ap is_some e in
      let none : (c : WindowKind) → is_implemented f (Window c) ≡ false = λ c. ap (λ b. b && has_window c f.probe) off in
      let io = window_off IoWindow (none IoWindow) im in
      let memory = window_off MemoryWindow (none MemoryWindow) im in
      let prefetch = window_off PrefetchWindow (none PrefetchWindow) im in
      sym (ap (λ x. step_if (step_if x (Window MemoryWindow)) (Window PrefetchWindow)) io ∙ ap (λ x. step_if x (Window PrefetchWindow)) memory ∙ prefetch)
  windows_are (Some b) e im =
      let bridge : is_bridge f ≡ true = sym (same_bridge r f has.is.value) ∙ ap is_some e in
      let value = same_bridge_of r f b has.is.value e in
      let w = b.windows in
      let io_is : w.io ≡ optional_window IoWindow f.image f.probe = ap (λ (x : decoded.Bridge). x.windows.io) value in
      let memory_is : w.mem ≡ decoded_window MemoryWindow f.image f.probe = ap (λ (x : decoded.Bridge). x.windows.memory) value in
      let prefetch_is : w.pref ≡ optional_window PrefetchWindow f.image f.probe = ap (λ (x : decoded.Bridge). x.windows.prefetch) value in
      let memory_has = memory_window_there f.image f.probe (has.is.decodable.windows MemoryWindow (eqb-true (layout f.image) 1 bridge)) in
      let first : (x : List ℕ) → with_both IoWindow w.io x ≡ step_if x (Window IoWindow) = λ x.
      ap (λ o. with_both IoWindow o x) io_is ∙ optional_is IoWindow bridge x in
      let second : (x : List ℕ) → with_both MemoryWindow (Some w.mem) x ≡ step_if x (Window MemoryWindow) = λ x.
      ap (λ o. with_both MemoryWindow (Some o) x) memory_is ∙ window_on MemoryWindow (and_from (is_bridge f) (has_window MemoryWindow f.probe) bridge memory_has) x in
      let third : (x : List ℕ) → with_both PrefetchWindow w.pref x ≡ step_if x (Window PrefetchWindow) = λ x.
      ap (λ o. with_both PrefetchWindow o x) prefetch_is ∙ optional_is PrefetchWindow bridge x in
      ap (λ x. with_both PrefetchWindow w.pref (with_both MemoryWindow (Some w.mem) x)) (first im)
      ∙ ap (with_both PrefetchWindow w.pref) (second (step_if im (Window IoWindow)))
      ∙ third (step_if (step_if im (Window IoWindow)) (Window MemoryWindow))

  -- ---- all of it

  abbrev others : List Part
  others = Window IoWindow ∷ Window MemoryWindow ∷ Window PrefetchWindow ∷ Rom ∷ []

  same_parts : with_parts f.image p kept grown wished r ≡ settled_image q s keep f
  same_parts =
      rom_is (with_bridge_windows p kept grown wished r.bridge (with_bars f.image p r.bars.items f.image))
      ∙ ap (λ im. step_if im Rom) (windows_are r.bridge refl (with_bars f.image p r.bars.items f.image))
      ∙ ap (λ im. step_if (windows_step im) Rom) bars_are
      ∙ sym (fold-append step_if f.image (header_bars f) others)
      ∙ sym (fold_kept (λ im (x : FunctionPart). with_wish x (keep.wished x) (shown keep x (new_place q s keep x) im)) region changes f.image (header_bars f ++ others))

  pub images_are : with_parts image p kept grown wished r ≡ settled_image q s keep f
  images_are = ap (λ im. with_parts im p kept grown wished r) image_is ∙ same_parts
