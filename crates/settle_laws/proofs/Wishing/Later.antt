-- How a wish changes the windows of its class: some end later, and some are opened.
use Rattle.std.proofs.Common.{◌≡◌, ◌&&◌, ℕ, zero, suc, ◌<◌, inl, inr, Bool, true, false, cond, not, arith, refl, sym, ◌∙◌, ap, subst, Option, None, Some, List, ◌++◌}
use Rattle.std.specs.Bool.{nat_le}
use Rattle.std.specs.List.{Contains}
use Rattle.std.specs.Option.{is_some, option_map}
use Rattle.std.proofs.lemmas.Bool.{cases_eq, leb-false}
use Rattle.pci_spec.specs.Decoded.{Range}
use Rattle.pci_spec.specs.Window.{WindowKind, has_window}
use Rattle.pci_spec.specs.System.{System, Function, IsSystem, is_bridge, window_space}
use Rattle.pci_spec.specs.Bus.{is_root, IsNested, LeadsTo}
use Rattle.plan_spec.specs.Place.{range_from}
use Rattle.plan_spec.proofs.Planning.Safe.{order_of}
use Rattle.settle_spec.specs.FirstPlace.{Extent, first_place}
use Rattle.settle_spec.specs.Lines.{lines_behind}
use Rattle.settle_spec.specs.Lists.{Request, class_ranges}
use Rattle.settle_spec.specs.Parts.{FunctionPart, bridge_over}
use Rattle.settle_spec.specs.Stands.{is_fixed_part, rank, is_in_lists, window_part}
use Rattle.settle_spec.specs.Kept.{Kept}
use Rattle.settle_spec.specs.Wishes.{range_then, taken_then, with_window, with_bridge, ending_at, end_over, can_end_at, with_room_above, ending_if, ending_within, Spared, spot_behind, held_by, opened_at, spared_if, spared_within}
use Rattle.settle_spec.proofs.BridgeOver.{over_leads}
use Rattle.settle_laws.proofs.Wishing.Added.{one_of_rank, range_with, range_without}
use Rattle.settle_laws.proofs.Wishing.ByBus.{ending_by_bus, spared_by_bus}

-- extents of one size and alignment
pub record AreAlike (e x : Extent) : Type 0 where
  pub size : e.size ≡ x.size
  pub alignment : e.alignment ≡ x.alignment

module _ (q : Request) (s : System) (c : WindowKind) (system : IsSystem s) (nested : IsNested q.roots s) (spare : Extent) where
  abbrev own : Function → FunctionPart
  own b = window_part c b

  -- a window is as before, ends later as it could before, or is opened for such an extent as it could before
  pub data Change (k j : Kept) (b : Function) : Type 0 where
    Same : (same : range_then q s j (window_part c b) ≡ range_then q s k (window_part c b)) → Change k j b
    Longer : (w : Range) → (last : ℕ) → (before : range_then q s k (window_part c b) ≡ Some w) → (after : range_then q s j (window_part c b) ≡ Some (ending_at w (end_over c w last)))
        → (more : w.last < last) → (could : is_some (ending_within q s c 256 b last k) ≡ true) → Change k j b
    Opened : (e : Extent) → (lines : List Range) → (found : Spared) → (alike : AreAlike e spare) → (before : range_then q s k (window_part c b) ≡ None) → (after : range_then q s j (window_part c b) ≡ Some (range_from found.at e.size))
        → (could : spared_within q s c 256 b e lines k ≡ Some found) → Change k j b

  abbrev pub Changes : Kept → Kept → Type 0
  Changes k j = (b : Function) → Contains s b → is_bridge b ≡ true → Change k j b

  one_bridge_of : (b f : Function) → Contains s b → Contains s f → is_bridge b ≡ true → is_bridge f ≡ true → rank (window_part c b) ≡ rank (window_part c f) → b ≡ f
  one_bridge_of b f in_b in_f is_b is_f same = ap (λ (r : FunctionPart). r.function) (one_of_rank s system (window_part c b) (window_part c f) in_b in_f is_b is_f same)

  pub lower : (f : Function) (bus : ℕ) → LeadsTo s f bus → f.slot.bus < bus
  lower f bus leads = (let up = order_of q.roots s nested f leads.0 leads.1 in let to = leads.2 in omega (arith, up, to))

  -- ---- a window that ends later

  -- that of a bridge, beside what changes above
  longer : (k i : Kept) → Changes k i → (f : Function) → Contains s f → is_bridge f ≡ true → (w : Range) → range_then q s k (window_part c f) ≡ Some w → (last : ℕ) → w.last < last → is_some (ending_within q s c 256 f last k) ≡ true
      → Changes k (with_window (window_part c f) (ending_at w (end_over c w last)) i)
  longer k i above f in_f is_f w ends last more could b in_b is_b = elim (cases_eq (rank (window_part c b)) (rank (window_part c f))) [
    | inl same ↦
        let one = one_bridge_of b f in_b in_f is_b is_f same in
        let v = ending_at w (end_over c w last) in
        subst (Change k (with_window (window_part c f) v i)) (sym one) (Longer w last ends (range_with q s i (window_part c f) v) more could)
    | inr differ ↦ by (above b in_b is_b) (range_without q s i (window_part c f) (ending_at w (end_over c w last)) (window_part c b) differ)
  ]
    where
      by : Change k i b → range_then q s (with_window (window_part c f) (ending_at w (end_over c w last)) i) (window_part c b) ≡ range_then q s i (window_part c b) → Change k (with_window (window_part c f) (ending_at w (end_over c w last)) i) b
      by (Same same) at = Same (at ∙ same)
      by (Longer u l before after more could) at = Longer u l before (at ∙ after) more could
      by (Opened e lines found alike before after could) at = Opened e lines found alike before (at ∙ after) could

  module _ (n : ℕ) (rest : (f : Function) → Contains s f → is_bridge f ≡ true → f.slot.bus < n → (last : ℕ) (k j : Kept) → ending_within q s c 256 f last k ≡ Some j → Changes k j)
      (f : Function) (in_f : Contains s f) (is_f : is_bridge f ≡ true) (less : f.slot.bus < suc n) (last : ℕ) (k j : Kept) (found : ending_within q s c 256 f last k ≡ Some j) where
    over : (end : ℕ) (i : Kept) (o : Option Function) → bridge_over s f.slot.bus ≡ o → with_bridge (λ d. ending_within q s c 256 d end k) o ≡ Some i → Changes k i
    over end i None at is = absurd (let no : ⊥ = cc in no)
    over end i (Some d) at is = (let leads = over_leads s f.slot.bus d at in let below = lower d f.slot.bus leads in rest d leads.0 leads.1 (omega (arith, below, less)) end k i is)

    room : (v : Range) (i : Kept) (x : Bool) → (is_root q.roots f.slot.bus ≡ x) → (y : Bool) → cond x (cond y (Some k) None) (with_bridge (λ d. ending_within q s c 256 d v.last k) (bridge_over s f.slot.bus)) ≡ Some i → Changes k i
    room v i true root true is = (let same : k ≡ i = cc in subst (Changes k) same (λ b in_b is_b. Same refl))
    room v i true root false is = absurd (let no : ⊥ = cc in no)
    room v i false root y is = over v.last i (bridge_over s f.slot.bus) refl is

    later : (w : Range) → range_then q s k (window_part c f) ≡ Some w → w.last < last → (o : Option Kept) → with_room_above q s c (ending_within q s c 256) f (ending_at w (end_over c w last)) k ≡ o
        → option_map (with_window (window_part c f) (ending_at w (end_over c w last))) o ≡ Some j → Changes k j
    later w ends more None at is = absurd (let no : ⊥ = cc in no)
    later w ends more (Some i) at is =
        let v = ending_at w (end_over c w last) in
        let same : with_window (window_part c f) v i ≡ j = cc in
        subst (Changes k) same
        (longer k i (room v i (is_root q.roots f.slot.bus) refl (is_in_lists q f.slot.bus v (window_space c)) at) f in_f is_f w ends last more (ap is_some found))

    try : (w : Range) → range_then q s k (window_part c f) ≡ Some w → w.last < last → (x : Bool) → cond x (option_map (with_window (window_part c f) (ending_at w (end_over c w last))) (with_room_above q s c (ending_within q s c 256) f (ending_at w (end_over c w last)) k)) None ≡ Some j → Changes k j
    try w ends more false is = absurd (let no : ⊥ = cc in no)
    try w ends more true is = later w ends more (with_room_above q s c (ending_within q s c 256) f (ending_at w (end_over c w last)) k) refl is

    opened : (w : Range) → range_then q s k (window_part c f) ≡ Some w → (x : Bool) → nat_le last w.last ≡ x
        → cond x (Some k) (cond (can_end_at q s c f k w (end_over c w last)) (option_map (with_window (window_part c f) (ending_at w (end_over c w last))) (with_room_above q s c (ending_within q s c 256) f (ending_at w (end_over c w last)) k)) None) ≡ Some j → Changes k j
    opened w ends true enough is = (let same : k ≡ j = cc in subst (Changes k) same (λ b in_b is_b. Same refl))
    opened w ends false short is = (let under = leb-false last w.last short in try w ends (omega (arith, under)) (can_end_at q s c f k w (end_over c w last)) is)

    ended_if : (o : Option Range) → range_then q s k (window_part c f) ≡ o → ending_if q s c (ending_within q s c 256) f last k o ≡ Some j → Changes k j
    ended_if None ends is = absurd (let no : ⊥ = cc in no)
    ended_if (Some w) ends is = opened w ends (nat_le last w.last) refl is

  ended_changes : (n : ℕ) (f : Function) → Contains s f → is_bridge f ≡ true → f.slot.bus < n → (last : ℕ) (k j : Kept) → ending_within q s c 256 f last k ≡ Some j → Changes k j
  ended_changes zero f in_f is_f less last k j found = absurd (let no : ⊥ = omega (arith, less) in no)
  ended_changes (suc n) f in_f is_f less last k j found =
      ended_if n (ended_changes n) f in_f is_f less last k j found (range_then q s k (window_part c f)) refl (sym (ending_by_bus q s c system nested f in_f last k) ∙ found)

  -- ---- one that is opened

  opened_for : (k i : Kept) → Changes k i → (f : Function) → Contains s f → is_bridge f ≡ true → (e : Extent) (lines : List Range) (found : Spared) → AreAlike e spare → range_then q s k (window_part c f) ≡ None → spared_within q s c 256 f e lines k ≡ Some found
      → Changes k (with_window (window_part c f) (range_from found.at e.size) i)
  opened_for k i above f in_f is_f e lines found alike none could b in_b is_b = elim (cases_eq (rank (window_part c b)) (rank (window_part c f))) [
    | inl same ↦
        let one = one_bridge_of b f in_b in_f is_b is_f same in
        let v = range_from found.at e.size in
        subst (Change k (with_window (window_part c f) v i)) (sym one) (Opened e lines found alike none (range_with q s i (window_part c f) v) could)
    | inr differ ↦ by (above b in_b is_b) (range_without q s i (window_part c f) (range_from found.at e.size) (window_part c b) differ)
  ]
    where
      by : Change k i b → range_then q s (with_window (window_part c f) (range_from found.at e.size) i) (window_part c b) ≡ range_then q s i (window_part c b) → Change k (with_window (window_part c f) (range_from found.at e.size) i) b
      by (Same same) at = Same (at ∙ same)
      by (Longer u l before after more could) at = Longer u l before (at ∙ after) more could
      by (Opened e lines found alike before after could) at = Opened e lines found alike before (at ∙ after) could

  module _ (n : ℕ) (rest : (f : Function) → Contains s f → is_bridge f ≡ true → f.slot.bus < n → (e : Extent) → AreAlike e spare → (lines : List Range) (k : Kept) (found : Spared) → spared_within q s c 256 f e lines k ≡ Some found → Changes k found.kept)
      (f : Function) (in_f : Contains s f) (is_f : is_bridge f ≡ true) (less : f.slot.bus < suc n) (e : Extent) (alike : AreAlike e spare) (lines : List Range) (k : Kept) (found : Spared) (could : spared_within q s c 256 f e lines k ≡ Some found) where
    in_open : (a : ℕ) (x : Bool) (o : Option Kept) → ending_within q s c 256 f (range_from a e.size).last k ≡ o → cond x (option_map (λ kept. record { at = a; kept = kept }) o) None ≡ Some found → Changes k found.kept
    in_open a false o at is = absurd (let no : ⊥ = cc in no)
    in_open a true None at is = absurd (let no : ⊥ = cc in no)
    in_open a true (Some j) at is =
        let spared : Spared = record { at = a; kept = j } in
        let same : spared ≡ found = cc in
        subst (λ (x : Spared). Changes k x.kept) same (ended_changes (suc f.slot.bus) f in_f is_f (omega arith) (range_from a e.size).last k j at)

    abbrev own_lines : List Range
    own_lines = lines_behind q (window_part c f)

    module _ (none : range_then q s k (window_part c f) ≡ None) where
      made : (x : Spared) → Changes k x.kept → opened_at q s c f e x ≡ found → Changes k found.kept
      made x above same =
          let could_so : spared_within q s c 256 f e lines k ≡ Some (opened_at q s c f e x) = could ∙ ap Some (sym same) in
          subst (λ (y : Spared). Changes k y.kept) same (opened_for k x.kept above f in_f is_f e lines (opened_at q s c f e x) alike none could_so)

      on_root : (o : Option ℕ) → option_map (opened_at q s c f e) (option_map (λ at. record { at = at; kept = k }) o) ≡ Some found → Changes k found.kept
      on_root None is = absurd (let no : ⊥ = cc in no)
      on_root (Some a) is =
          let x : Spared = record { at = a; kept = k } in
          let same : opened_at q s c f e x ≡ found = cc in
          made x (λ b in_b is_b. Same refl) same

      behind : (d : Function) → LeadsTo s d f.slot.bus → (o : Option Spared) → spared_within q s c 256 d (held_by q s c f e) own_lines k ≡ o → option_map (opened_at q s c f e) o ≡ Some found → Changes k found.kept
      behind d leads None at is = absurd (let no : ⊥ = cc in no)
      behind d leads (Some x) at is =
          let below = lower d f.slot.bus leads in
          let same : opened_at q s c f e x ≡ found = cc in
          made x (rest d leads.0 leads.1 (omega (arith, below, less)) (held_by q s c f e) record { size = alike.size; alignment = alike.alignment } own_lines k x at) same

      over_spared : (o : Option Function) → bridge_over s f.slot.bus ≡ o → option_map (opened_at q s c f e) (with_bridge (λ d. spared_within q s c 256 d (held_by q s c f e) own_lines k) o) ≡ Some found → Changes k found.kept
      over_spared None at is = absurd (let no : ⊥ = cc in no)
      over_spared (Some d) at is = behind d (over_leads s f.slot.bus d at) (spared_within q s c 256 d (held_by q s c f e) own_lines k) refl is

      closed : (x y : Bool) → cond x (option_map (opened_at q s c f e) (cond y (option_map (λ at. record { at = at; kept = k }) (first_place (class_ranges q c f.slot.bus) (own_lines ++ taken_then q s k (window_space c) f.slot.bus) (held_by q s c f e)))
          (with_bridge (λ d. spared_within q s c 256 d (held_by q s c f e) own_lines k) (bridge_over s f.slot.bus)))) None ≡ Some found → Changes k found.kept
      closed false y is = absurd (let no : ⊥ = cc in no)
      closed true true is = on_root (first_place (class_ranges q c f.slot.bus) (own_lines ++ taken_then q s k (window_space c) f.slot.bus) (held_by q s c f e)) is
      closed true false is = over_spared (bridge_over s f.slot.bus) refl is

    spared_by : (o : Option Range) → range_then q s k (window_part c f) ≡ o → spared_if q s c (spared_within q s c 256) f e lines k o ≡ Some found → Changes k found.kept
    spared_by None ends is = closed ends (has_window c f.probe && not (is_fixed_part q (window_part c f))) (is_root q.roots f.slot.bus) is
    spared_by (Some w) ends is =
        let a = spot_behind q s c f e lines k w in
        in_open a (nat_le (range_from a e.size).last e.highest) (ending_within q s c 256 f (range_from a e.size).last k) refl is

  -- so a wish that is granted changes the windows of its class
  pub spared_changes : (n : ℕ) (f : Function) → Contains s f → is_bridge f ≡ true → f.slot.bus < n → (e : Extent) → AreAlike e spare → (lines : List Range) (k : Kept) (found : Spared) → spared_within q s c 256 f e lines k ≡ Some found → Changes k found.kept
  spared_changes zero f in_f is_f less e alike lines k found could = absurd (let no : ⊥ = omega (arith, less) in no)
  spared_changes (suc n) f in_f is_f less e alike lines k found could =
      spared_by n (spared_changes n) f in_f is_f less e alike lines k found could (range_then q s k (window_part c f)) refl (sym (spared_by_bus q s c system nested f in_f e lines k) ∙ could)
