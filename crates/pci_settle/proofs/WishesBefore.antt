-- What tables tell of parts before any wish is what the definitions say.
use Rattle.std.proofs.Common.{◌&&◌, ◌≡◌, ℕ, ◌-◌, ◌/◌, ◌<◌, inl, inr, List, [], ◌∷◌, map, length, cond, true, false, Bool, not, get_or, arith, ap, sym, refl, ◌∙◌, Option, Some, None}
use Rattle.std.specs.Option.{option_map, option_or, is_some}
use Rattle.std.specs.List.{Contains, sum_by, range_with_len}
use Rattle.std.proofs.lemmas.Bool.{cases_Bool, and_parts, both_ways, lt-ltb}
use Rattle.std.proofs.lemmas.List.{get_or_default}
use Rattle.std.proofs.lemmas.List.Sums.{sum_by-cons}
use Rattle.std.proofs.lemmas.List.Elements.{All-contains}
use Rattle.std.proofs.lemmas.Option.{slice_get_read, get_or_from_slice_get}
use Rattle.pci_spec.specs.Header.{layout, bar_count}
use Rattle.pci_spec.specs.Bar.{has_bar}
use Rattle.pci_spec.specs.Rom.{has_rom, rom_is_on}
use Rattle.pci_spec.specs.Slot.{Slot}
use Rattle.pci_spec.specs.Window.{WindowKind, has_window, is_closed}
use Rattle.pci_spec.specs.Decoded.{IsDecodable, DecodedBar, DecodedRom, HasRecords, decoded_bar, Range as DecodedRange}
use Rattle.pci_spec.specs.System.{System, Function, IsFunction, IsSystem, Space, Io, Memory, Part, Bar, Rom, Window, is_bridge, is_window, has_part, space_of}
use Rattle.pci_spec.specs.Bus.{IsNested}
use Rattle.pci_spec.proofs.Members.{in_head, in_tail, in_filter_to, in_range_to}
use Rattle.plan_spec.specs.Planning.Layout.{range_of}
use Rattle.settle_spec.specs.Lists.{Request}
use Rattle.settle_spec.specs.Parts.{FunctionPart, is_left, is_part}
use Rattle.settle_spec.specs.Stands.{window_part}
use Rattle.settle_spec.specs.Registers.{changing}
use Rattle.settle_spec.specs.Items.{Placed, taken_by}
use Rattle.settle_spec.specs.Kept.{Kept as Keeping, range_or}
use Rattle.settle_spec.specs.Keeping.Places.{new_place}
use Rattle.settle_spec.specs.Wishes.{place_then}
use Rattle.settle_laws.proofs.Standing.{stands_by_itself}
use Rattle.settle_laws.specs.KeptLaws.{WishesNothing}
use Rattle.settle_laws.proofs.Keeping.InWindows.{kept_range, placed_range, place_of_range}
use Rattle.pci_base.specs.declared.range.Range.{Range}
use Rattle.pci_base.specs.declared.window_kind.ByKind.{ByKind}
use Rattle.pci_base.specs.Ranges.{decoded_range_of, range_of_decoded}
use Rattle.pci_base.specs.WindowKinds.{kind_value}
use Rattle.pci_image.specs.declared.bar.Bar.{Bar as CodeBar}
use Rattle.pci_image.specs.declared.bar.BarKind.{BarKind}
use Rattle.pci_image.specs.declared.bar.BarKind.TheVariants as bar_kinds
use Rattle.pci_image.specs.declared.rom.Rom.{Rom as CodeRom}
use Rattle.pci_image.specs.Bars.{decoded_bar_of}
use Rattle.pci_image.specs.Roms.{decoded_rom_of}
use Rattle.pci_image.specs.Windows.{window_of}
use Rattle.pci_function.specs.declared.record.Bridge.{Bridge}
use Rattle.pci_function.specs.declared.record.Record.{Record}
use Rattle.pci_function.specs.Values.{record_value}
use Rattle.pci_tree.specs.Passes.{range_in}
use Rattle.pci_tree.specs.Regions.{space_in}
use Rattle.pci_tree.proofs.Lifting.{same_bridge, same_slot_of}
use Rattle.pci_place.specs.Classes.{is_io_kind}
use Rattle.pci_place.specs.Items.{no_function, function_in}
use Rattle.pci_place.proofs.ClassOf.{kind_io}
use Rattle.pci_place.proofs.Parts.{bars_in, bars_of, rom_of, rom_there}
use Rattle.pci_place.proofs.Records.{FunctionAt, function_at, same_count}
use Rattle.pci_first_fit.specs.declared.kept.Kept.{Kept}
use Rattle.pci_first_fit.specs.Kept.{kept_of}
use Rattle.pci_first_fit.specs.Keeping.{told_of_kind}
use Rattle.pci_first_fit.specs.Tables.{untold, told}
use Rattle.pci_settle_places.specs.declared.places.Places.{Places}
use Rattle.pci_settle_places.specs.Places.{place_range_in, placed_at}
use Rattle.pci_kept.proofs.OfRecord.{window_is}
use Rattle.pci_settle_places.specs.Live.{HasAllPlaces}
use Rattle.pci_settle_places.proofs.PlacedParts.{placed_is_part}
use Rattle.pci_settle_places.proofs.PlacedImages.{register_place}
use Rattle.pci_settle_places.proofs.Registers.{registers_at}
use Rattle.pci_grow.specs.declared.board.BridgeWindow.{BridgeWindow}
use Rattle.pci_grow.specs.declared.fill.Located.{Located}
use Rattle.pci_grow.specs.RoomRows.{bus_level, row_number}
use Rattle.pci_grow.specs.Located.{told_weight, AreWindowsThen, AreOwn}
use Rattle.pci_grow.proofs.Facts.{item_at}
use Rattle.pci_grow.proofs.Located.{same_sums, sum_filter}
use Rattle.pci_grow.proofs.OwnParts.{IsToldThen, own_weight, told_own, function_own, all_own}
use Rattle.pci_settle.specs.declared.tables.Tables.{Tables}
use Rattle.pci_settle.specs.Told.{TellsKeeping}
use Rattle.pci_settle.specs.Before.{windows_before, IsToldAt, AreWindowsBefore, bar_before, rom_before, bar_weight, rom_weight, bars_weight, record_weight, AreOwnBefore, HaveRegisters}
use Rattle.pci_settle.proofs.WishesThere.{placed_there}

-- ---- options of ranges

there_and_back : (o : Option DecodedRange) → option_map decoded_range_of (option_map range_of_decoded o) ≡ o
there_and_back None = refl
there_and_back (Some r) = refl

back_and_there : (o : Option Range) → option_map range_of_decoded (option_map decoded_range_of o) ≡ o
back_and_there None = refl
back_and_there (Some r) = refl

placed_then : (o : Option Placed) → option_map decoded_range_of (placed_at o) ≡ option_map (λ (p : Placed). taken_by p.item p.at) o
placed_then None = refl
placed_then (Some p) = refl

none_from : (o : Option Range) → option_map decoded_range_of o ≡ None → o ≡ None
none_from None e = refl
none_from (Some r) e = cc

-- what grows, or else stays, has its own addresses
grown_or : (o : Option DecodedRange) (own : DecodedRange) → option_or o (Some own) ≡ Some (range_or o own)
grown_or None own = refl
grown_or (Some r) own = refl

rom_gives : (there : Bool) (x : DecodedRom) → there ≡ true → cond there (Some x) None ≡ None → ⊥
rom_gives true x is none = cc
rom_gives false x is none = cc

-- ---- sums over lists of the same values

module _ {X Y W : Type 0} (a : X → W) (b : Y → W) (F : X → ℕ) (G : Y → ℕ) where
  sum_pair : (xs : List X) (ys : List Y) → map a xs ≡ map b ys → ((x : X) (y : Y) → Contains ys y → a x ≡ b y → F x ≡ G y) → sum_by F xs ≡ sum_by G ys
  sum_pair [] [] e same = refl
  sum_pair [] (y ∷ ys) e same = cc
  sum_pair (x ∷ xs) [] e same = cc
  sum_pair (x ∷ xs) (y ∷ ys) e same =
      let head : a x ≡ b y = cc in
      let tail : map a xs ≡ map b ys = cc in
      let here = same x y (in_head y ys) head in
      let rest = sum_pair xs ys tail (λ v w listed. same v w (in_tail y ys w listed)) in
      let left = sum_by-cons F x xs in
      let right = sum_by-cons G y ys in
      omega (arith, here, rest, left, right)

space_is : (kind : BarKind) → space_in kind ≡ cond (is_io_kind kind) Io Memory
space_is bar_kinds.Io = refl
space_is bar_kinds.Mem32 = refl
space_is bar_kinds.Mem64 = refl

module _ (q : Request) (s : System) (keep : Keeping) (system : IsSystem s) (nested : IsNested q.roots s) (t : Tables) (places : HasAllPlaces q s keep t.places.now) (tells : TellsKeeping q s keep t.grown.now t.staying.now) (none : WishesNothing keep)
    (records : List Record) (has : HasRecords s (map record_value records)) where
  nothing_wished : (r : FunctionPart) → keep.wished r ≡ None
  nothing_wished r = ap (λ w. w r) none

  -- ---- a function, its record, and what is told of it

  module _ (k : ℕ) (r : Record) (p : Places) (kept : Kept) (at : IsToldAt records t k r p kept) where
    abbrev found : FunctionAt s r k
    found = function_at s records has k r (slice_get_read records (length records) k r refl at.within at.record_is)

    abbrev f : Function
    f = found.f

    abbrev listed : Contains s f
    listed = found.is.listed

    pub here : function_in s k ≡ f
    here = get_or_from_slice_get s k f no_function found.at

    low_bus : f.slot.bus < 256
    low_bus = (All-contains IsFunction s f system.each listed).slot.0

    abbrev region : Part → FunctionPart
    region part = record { function = f; part = part }

    stays_is : (part : Part) → has_part f part ≡ true → kept_of kept part ≡ keep.stays (region part)
    stays_is part there = ap (λ x. kept_of x part) at.kept_is ∙ tells.stays_are.each k f kept part found.at there

    place_is : (part : Part) → has_part f part ≡ true → place_range_in p part ≡ placed_at (new_place q s keep (region part))
    place_is part there = ap (λ x. place_range_in x part) at.places_are ∙ places.each k f p part found.at there

    stays_part : (part : Part) → keep.stays (region part) ≡ true → is_part q s f part ≡ true
    stays_part part keeps = (stands_by_itself q s nested).only (region part) listed (tells.standing (region part) keeps)

    -- a part that stays is somewhere, and any other is at its place
    then_is : (part : Part) → has_part f part ≡ true → (own : Option DecodedRange) → (keep.stays (region part) ≡ true → own ≡ Some (keep.range (region part)))
        → cond (kept_of kept part) own (option_map decoded_range_of (place_range_in p part)) ≡ place_then q s keep (region part)
    then_is part there own own_is = elim (cases_Bool (keep.stays (region part))) [
      | inl keeps ↦
          ap (λ b. cond b own (option_map decoded_range_of (place_range_in p part))) (stays_is part there ∙ keeps)
          ∙ own_is keeps ∙ sym (kept_range q s keep (region part) keeps)
      | inr moves ↦
          ap (λ b. cond b own (option_map decoded_range_of (place_range_in p part))) (stays_is part there ∙ moves)
          ∙ ap (option_map decoded_range_of) (place_is part there) ∙ placed_then (new_place q s keep (region part)) ∙ sym (placed_range q s keep (region part) moves)
    ]

    -- ---- its windows

    module _ (c : WindowKind) where
      abbrev grown : Option DecodedRange
      grown = option_map decoded_range_of (told_of_kind (get_or t.grown.now k untold) c)

      window_own : (b : Bridge) → r.bridge ≡ Some b → is_bridge f ≡ true → keep.stays (region (Window c)) ≡ true → option_or grown (range_in (window_of b.windows c)) ≡ Some (keep.range (region (Window c)))
      window_own b e bridge keeps =
          ap (option_or grown) (window_is s f r b found.is e c ∙ ap (λ x. cond x (Some (range_of f (Window c))) None) (stays_part (Window c) keeps))
          ∙ grown_or grown (range_of f (Window c))
          ∙ ap Some (sym (tells.ranges_are k f (Window c) found.at bridge keeps))

      windows_by : (o : Option Bridge) → r.bridge ≡ o → is_bridge f ≡ true → windows_before o p kept (get_or t.grown.now k untold) c ≡ place_then q s keep (region (Window c))
      windows_by None e bridge = absurd (both_ways (is_bridge f) (sym (same_bridge r f found.is.value) ∙ ap is_some e) bridge)
      windows_by (Some b) e bridge = then_is (Window c) bridge (option_or grown (range_in (window_of b.windows c))) (window_own b e bridge)

      pub windows_are : is_bridge f ≡ true → windows_before r.bridge p kept (get_or t.grown.now k untold) c ≡ place_then q s keep (region (Window c))
      windows_are = windows_by r.bridge refl

      device_by : (o : Option Bridge) → r.bridge ≡ o → is_bridge f ≡ false → windows_before o p kept (get_or t.grown.now k untold) c ≡ None
      device_by None e device = refl
      device_by (Some b) e device = absurd (both_ways (is_bridge f) device (sym (same_bridge r f found.is.value) ∙ ap is_some e))

      pub devices_are : is_bridge f ≡ false → windows_before r.bridge p kept (get_or t.grown.now k untold) c ≡ None
      devices_are = device_by r.bridge refl

      -- one that is somewhere is there
      pub window_there : is_bridge f ≡ true → (x : DecodedRange) → place_then q s keep (region (Window c)) ≡ Some x → has_window c f.probe ≡ true
      window_there bridge x e = elim (cases_Bool (keep.stays (region (Window c)))) [
        | inl keeps ↦ (and_parts (is_bridge f) (has_window c f.probe) (and_parts (is_bridge f && has_window c f.probe) (not (is_closed c f.image)) (stays_part (Window c) keeps)).0).1
        | inr moves ↦
            let placed = place_of_range q s keep (new_place q s keep (region (Window c))) x (sym (placed_range q s keep (region (Window c)) moves) ∙ e) in
            placed_there q s system nested (λ g in_s. All-contains IsDecodable s g has.decodable in_s) keep c f listed bridge placed.0 placed.1
      ]

    -- ---- its BARs and its ROM

    abbrev own_at : Part → Option Range
    own_at part = option_map range_of_decoded (place_then q s keep (region part))

    looked_at : (part : Part) → is_window part ≡ false → has_part f part ≡ true → (x : DecodedRange) → place_then q s keep (region part) ≡ Some x → is_part q s f part ≡ true
    looked_at part plain there x e = elim (cases_Bool (keep.stays (region part))) [
      | inl keeps ↦ stays_part part keeps
      | inr moves ↦
          let placed = place_of_range q s keep (new_place q s keep (region part)) x (sym (placed_range q s keep (region part) moves) ∙ e) in
          placed_is_part q s keep system nested f listed low_bus part there plain placed.0 placed.1
    ]

    own_told : (part : Part) → is_window part ≡ false → has_part f part ≡ true → IsToldThen q s keep (region part) (own_at part)
    own_told part plain there = record { then_is = there_and_back (place_then q s keep (region part)); looked_at = looked_at part plain there }

    -- what stays and is no window has its own addresses
    own_range : (part : Part) → is_window part ≡ false → has_part f part ≡ true → keep.stays (region part) ≡ true → keep.range (region part) ≡ range_of f part
    own_range (Bar n) plain there keeps = tells.ranges_are k f (Bar n) found.at there keeps
    own_range Rom plain there keeps = tells.ranges_are k f Rom found.at there keeps
    own_range (Window c) plain there keeps = absurd (both_ways true plain refl)

    map_cond : (b : Bool) (x y : Option DecodedRange) → option_map range_of_decoded (cond b x y) ≡ cond b (option_map range_of_decoded x) (option_map range_of_decoded y)
    map_cond true x y = refl
    map_cond false x y = refl

    own_then : (part : Part) → is_window part ≡ false → has_part f part ≡ true → (own : Option DecodedRange) → (keep.stays (region part) ≡ true → own ≡ Some (range_of f part))
        → cond (kept_of kept part) (option_map range_of_decoded own) (place_range_in p part) ≡ own_at part
    own_then part plain there own own_is =
        ap (cond (kept_of kept part) (option_map range_of_decoded own)) (sym (back_and_there (place_range_in p part)))
        ∙ sym (map_cond (kept_of kept part) own (option_map decoded_range_of (place_range_in p part)))
        ∙ ap (option_map range_of_decoded) (then_is part there own (λ keeps. own_is keeps ∙ ap Some (sym (own_range part plain there keeps))))

    bar_is : (bar : CodeBar) (n : ℕ) → n < bar_count (layout f.image) → decoded_bar_of bar ≡ decoded_bar f.image f.probe n → bar_before bar p kept ≡ own_at (Bar n)
    bar_is bar n inside e =
        let number : (bar.reg - 0x10) / 4 ≡ n = register_place bar.reg n (ap (λ (x : DecodedBar). x.register) e) in
        ap (λ m. cond (kept_of kept (Bar m)) (Some (record { first = bar.first; last = bar.last })) (place_range_in p (Bar m))) number
        ∙ own_then (Bar n) refl (lt-ltb n (bar_count (layout f.image)) inside) (Some (record { first = bar.first; last = bar.last })) (λ keeps. ap (λ (x : DecodedBar). Some x.range) e)

    rom_by : (o : Option CodeRom) → r.rom ≡ o → rom_before o p kept ≡ own_at Rom
    rom_by None e =
        let off : keep.stays (region Rom) ≡ true → ⊥ = λ keeps.
        rom_gives (has_rom f.image f.probe) _ (and_parts (has_rom f.image f.probe) (rom_is_on f.image) (stays_part Rom keeps)).0 (sym (rom_of s f r found.is) ∙ ap (option_map decoded_rom_of) e) in
        elim (cases_Bool (kept_of kept Rom)) [
          | inl keeps ↦ absurd (off (sym (stays_is Rom refl) ∙ keeps))
          | inr moves ↦ sym (ap (λ b. let o : Option Range = cond b None p.rom in o) moves) ∙ own_then Rom refl refl None (λ keeps. absurd (off keeps))
        ]
    rom_by (Some rom) e =
        own_then Rom refl refl (Some (record { first = rom.first; last = rom.last }))
        (λ keeps. ap (λ (x : DecodedRom). Some x.range) (rom_there (has_rom f.image f.probe) (decoded_rom_of rom) _ (sym (ap (option_map decoded_rom_of) e) ∙ rom_of s f r found.is)).1)

    pub rom_is : rom_before r.rom p kept ≡ own_at Rom
    rom_is = rom_by r.rom refl

    -- what they weigh
    module _ (weight : DecodedRange → ℕ) (space : Space) (bus : ℕ) where
      abbrev n : ℕ
      n = row_number (bus_level q.roots bus) space

      slot_is : r.slot ≡ f.slot
      slot_is = same_slot_of r f found.is.value

      abbrev bar_own : ℕ → ℕ
      bar_own b = told_own q s keep weight space bus f (Bar b) (own_at (Bar b))

      bar_weighs : (bar : CodeBar) (b : ℕ) → b < bar_count (layout f.image) → decoded_bar_of bar ≡ decoded_bar f.image f.probe b → bar_weight q.roots weight n r.slot.bus p kept bar ≡ bar_own b
      bar_weighs bar b inside e =
          ap (λ (x : Slot). bar_weight q.roots weight n x.bus p kept bar) slot_is
          ∙ ap (told_weight weight (row_number (bus_level q.roots f.slot.bus) (space_in bar.kind)) n) (bar_is bar b inside e)
          ∙ ap (λ x. told_weight weight (row_number (bus_level q.roots f.slot.bus) x) n (own_at (Bar b))) (space_is bar.kind ∙ ap (λ x. cond x Io Memory) (kind_io f bar b e))

      -- a BAR that isn't implemented is nowhere
      bar_if : (b : ℕ) → b < bar_count (layout f.image) → cond (has_bar f.probe b) (bar_own b) 0 ≡ bar_own b
      bar_if b inside = elim (cases_Bool (has_bar f.probe b)) [
        | inl there ↦ ap (λ x. cond x (bar_own b) 0) there
        | inr absent ↦
            ap (λ x. cond x (bar_own b) 0) absent
            ∙ sym (ap (told_weight weight (row_number (bus_level q.roots f.slot.bus) (space_of f (Bar b))) n) (nowhere absent (place_then q s keep (region (Bar b))) refl))
      ]
        where
          nowhere : has_bar f.probe b ≡ false → (o : Option DecodedRange) → place_then q s keep (region (Bar b)) ≡ o → own_at (Bar b) ≡ None
          nowhere absent None e = ap (option_map range_of_decoded) e
          nowhere absent (Some x) e = (
              let part = looked_at (Bar b) refl (lt-ltb b (bar_count (layout f.image)) inside) x e in
              absurd (both_ways (has_bar f.probe b) absent (and_parts (has_bar f.probe b) (not (is_left q s f (Bar b))) part).0))

      abbrev numbers : List ℕ
      numbers = range_with_len 0 (bar_count (layout f.image))

      low : (b : ℕ) → Contains numbers b → b < bar_count (layout f.image)
      low b in_all = (let below = (in_range_to 0 (bar_count (layout f.image)) b in_all).1 in omega (arith, below))

      bars_weigh : bars_weight q.roots weight n r p kept ≡ sum_by bar_own numbers
      bars_weigh =
          sum_pair decoded_bar_of (decoded_bar f.image f.probe) (bar_weight q.roots weight n r.slot.bus p kept) bar_own r.bars.items (bars_in f) (bars_of s f r found.is)
          (λ bar b in_bars e. bar_weighs bar b (low b (in_filter_to (has_bar f.probe) numbers b in_bars).0) e)
          ∙ sum_filter bar_own (has_bar f.probe) numbers
          ∙ same_sums (λ b. cond (has_bar f.probe b) (bar_own b) 0) bar_own numbers (λ b in_all. bar_if b (low b in_all))

      rom_weighs : rom_weight q.roots weight n r.slot.bus p kept r.rom ≡ told_own q s keep weight space bus f Rom (own_at Rom)
      rom_weighs =
          ap (λ (x : Slot). rom_weight q.roots weight n x.bus p kept r.rom) slot_is
          ∙ ap (told_weight weight (row_number (bus_level q.roots f.slot.bus) Memory) n) rom_is

      pub record_weighs : record_weight q.roots weight n r p kept ≡ sum_by (own_weight q s keep weight space bus) (changing q s (function_in s k))
      record_weighs =
          let bars = bars_weigh in
          let rom = rom_weighs in
          let own = function_own q s keep weight space bus f own_at own_told in
          let both : record_weight q.roots weight n r p kept ≡ sum_by (own_weight q s keep weight space bus) (changing q s f) = omega (arith, bars, rom, own) in
          both ∙ ap (λ g. sum_by (own_weight q s keep weight space bus) (changing q s g)) (sym here)

  -- ---- the whole

  count : length s ≡ length records
  count = same_count s records has

  pub own_then_are : (parts : List Located) → AreOwnBefore records t (length records) parts → AreOwn q s keep parts
  own_then_are parts are space bus small weight =
      let per : ℕ → ℕ = λ i. sum_by (own_weight q s keep weight space bus) (changing q s (function_in s i)) in
      are q.roots weight (row_number (bus_level q.roots bus) space) per (λ k r p kept at. record_weighs k r p kept at weight space bus)
      ∙ ap (λ m. sum_by per (range_with_len 0 m)) (sym count)
      ∙ all_own q s keep weight space bus per (λ i within. refl)

  module _ (places_count : length t.places.now ≡ length records) (staying_count : length t.staying.now ≡ length records) (table : List (ByKind (Option Range))) (are : AreWindowsBefore records t (length records) table) where
    -- what is told of a function
    pub record AreEntries (k : ℕ) : Type 0 where
      pub r : Record
      pub p : Places
      pub kept : Kept
      pub at : IsToldAt records t k r p kept

    entries : (k : ℕ) → k < length s → AreEntries k
    entries k within =
        let long = count in
        let r = item_at records k (omega (arith, within, long)) in
        let p = item_at t.places.now k (omega (arith, within, long, places_count)) in
        let kept = item_at t.staying.now k (omega (arith, within, long, staying_count)) in
        record { r = r.0; p = p.0; kept = kept.0; at = record { within = omega (arith, within, long); record_is = r.1; places_are = p.1; kept_is = kept.1 } }

    told_is : (w : BridgeWindow) (of : AreEntries w.bridge) → option_map decoded_range_of (told table w.bridge w.class) ≡ windows_before of.r.bridge of.p of.kept (get_or t.grown.now w.bridge untold) (kind_value w.class)
    told_is w of = are w.bridge of.r of.p of.kept w.class of.at.within of.at

    pub windows_then_are : AreWindowsThen q s keep table
    windows_then_are = record {
      unwished = nothing_wished;
      windows = λ w is.
          let of = entries w.bridge is.within in
          let f_is = here w.bridge of.r of.p of.kept of.at in
          told_is w of
          ∙ windows_are w.bridge of.r of.p of.kept of.at (kind_value w.class) (ap is_bridge (sym f_is) ∙ is.bridge)
          ∙ ap (λ g. place_then q s keep (window_part (kind_value w.class) g)) (sym f_is);
      devices = λ w within device.
          let of = entries w.bridge within in
          let f_is = here w.bridge of.r of.p of.kept of.at in
          none_from (told table w.bridge w.class) (told_is w of ∙ devices_are w.bridge of.r of.p of.kept of.at (kind_value w.class) (ap is_bridge (sym f_is) ∙ device));
      there = λ w is x e.
          let of = entries w.bridge is.within in
          let f_is = here w.bridge of.r of.p of.kept of.at in
          ap (λ (g : Function). has_window (kind_value w.class) g.probe) f_is
          ∙ window_there w.bridge of.r of.p of.kept of.at (kind_value w.class) (ap is_bridge (sym f_is) ∙ is.bridge) x
          (ap (λ g. place_then q s keep (window_part (kind_value w.class) g)) (sym f_is) ∙ e);
    }

-- each BAR is at a Base Address register
pub all_registers : (s : System) (records : List Record) → HasRecords s (map record_value records) → HaveRegisters records
all_registers s records has k d within = registers_at s records has k (get_or records k d) within (get_or_default records k d (get_or records k d) within)
