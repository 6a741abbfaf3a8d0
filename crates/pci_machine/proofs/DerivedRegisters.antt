-- A function's registers, taken one after another by rising offset.
use Rattle.std.specs.Prelude.{◌⊎◌}
use Rattle.std.proofs.Common.{◌≡◌, ℕ, zero, suc, ◌+◌, ◌-◌, ◌/◌, ◌%◌, ◌^◌, ◌<◌, ◌≤◌, cond, Bool, true, false, List, [], ◌∷◌, ◌++◌, map, length, take, get_or, replicate, Option, Some, None, refl, arith, sym, ◌∙◌, ap}
use Rattle.std.specs.List.{filter, list_all, range_with_len}
use Rattle.std.specs.Option.{option_or}
use Rattle.std.proofs.lemmas.Option.{none-some}
use Rattle.std.proofs.lemmas.List.{take_more, take_all, get_or-map, length-append, length-map}
use Rattle.std.proofs.lemmas.List.Elements.{filter-append}
use Rattle.pci_spec.specs.Number.{byte_at}
use Rattle.pci_spec.specs.Header.{layout, address_registers}
use Rattle.pci_spec.specs.Machine.{register_at}
use Rattle.pci_spec.specs.Resource.{ResourceLine}
use Rattle.pci_spec.specs.Derived.{Derived, register_derived, read_back_of, is_assumed, derived_byte, derived_probe, assumed_registers}
use Rattle.pci_spec.specs.NoProbe.{Assuming, NoProbe, register_fault, first_at, no_probe}
use Rattle.pci_image.specs.declared.layout.Layout.{Layout}
use Rattle.pci_image.specs.declared.register.Register.{Register}
use Rattle.pci_image.specs.Layouts.{layout_number, is_of_bridge}
use Rattle.pci_image.specs.Registers.{has_place}
use Rattle.pci_machine.proofs.Targets.{map-map}
use Rattle.pci_machine.proofs.Turns.{none, pair_of}
use Rattle.pci_machine.proofs.Filled.{IsFilled, none_filled, more_filled, all_filled}

-- ---- the first fault of some registers

first_at-append : (fault : ℕ → Option NoProbe) (xs ys : List ℕ) → first_at fault (xs ++ ys) ≡ option_or (first_at fault xs) (first_at fault ys)
unfolding first_at
first_at-append fault [] ys = refl
first_at-append fault (x ∷ xs) ys = or_of (fault x) (first_at-append fault xs ys) where
  or_of : (o : Option NoProbe) → first_at fault (xs ++ ys) ≡ option_or (first_at fault xs) (first_at fault ys)
      → option_or o (first_at fault (xs ++ ys)) ≡ option_or (option_or o (first_at fault xs)) (first_at fault ys)
  or_of None e = e
  or_of (Some x) e = refl

-- one register more
first_at-more : (fault : ℕ → Option NoProbe) (xs : List ℕ) (k x : ℕ) → k < length xs → get_or xs k x ≡ x → first_at fault (take k xs) ≡ None
    → first_at fault (take (k + 1) xs) ≡ fault x
unfolding first_at
first_at-more fault xs k x below is none =
    ap (first_at fault) (take_more xs k x below) ∙ first_at-append fault (take k xs) (get_or xs k x ∷ [])
    ∙ ap (λ o. option_or o (first_at fault (get_or xs k x ∷ []))) none ∙ ap (λ y. first_at fault (y ∷ [])) is ∙ or_none (fault x) where
      or_none : (o : Option NoProbe) → option_or o None ≡ o
      or_none None = refl
      or_none (Some y) = refl

-- the fault of a beginning is that of the whole
first_at-found : (fault : ℕ → Option NoProbe) (xs : List ℕ) (k : ℕ) (found : NoProbe) → first_at fault (take k xs) ≡ Some found → first_at fault xs ≡ Some found
unfolding first_at
first_at-found fault [] zero found is = is
first_at-found fault [] (suc k) found is = is
first_at-found fault (x ∷ xs) zero found is = absurd (none-some found is)
first_at-found fault (x ∷ xs) (suc k) found is = or_of (first_at-found fault xs k found) (fault x) is where
  or_of : (first_at fault (take k xs) ≡ Some found → first_at fault xs ≡ Some found) → (o : Option NoProbe)
      → option_or o (first_at fault (take k xs)) ≡ Some found → option_or o (first_at fault xs) ≡ Some found
  or_of rest None e = rest e
  or_of rest (Some y) e = e

-- ---- what was derived of the registers so far

module _ (assuming : Assuming) (image : List ℕ) (lines : List ResourceLine) (known : Layout) (items : List Register) where
  abbrev offsets : List ℕ
  offsets = map (λ (r : Register). r.offset) items

  abbrev derived : ℕ → Derived
  derived offset = register_derived image lines offset

  abbrev fault : ℕ → Option NoProbe
  fault offset = register_fault assuming offset (derived offset)

  abbrev assumes : ℕ → Bool
  assumes offset = is_assumed (derived offset)

  -- of the first k registers, in a probe and a list of those that are assumed
  pub record HasDerived (k : ℕ) (probe assumed : List ℕ) : Type 0 where
    pub filled : IsFilled known items (derived_byte image lines) k probe
    pub told : first_at fault (take k offsets) ≡ None
    pub listed : assumed ≡ filter assumes (take k offsets)
    pub few : length assumed ≤ k

  pub derived_none : map pair_of items ≡ address_registers (layout_number known) → list_all (has_place (is_of_bridge known)) items ≡ true → (assumed : List ℕ) → assumed ≡ [] → HasDerived 0 (replicate 256 0) assumed
  unfolding first_at
  derived_none table roles assumed empty = record {
    filled = none_filled known items (derived_byte image lines) table roles (λ place. refl);
    told = refl;
    listed = empty;
    few = omega (arith, ap length empty);
  }

  -- the offset of a register of the table
  module _ (k : ℕ) (within : k < length items) where
    abbrev r : Register
    r = get_or items k none

    offset_is : get_or offsets k r.offset ≡ r.offset
    offset_is = get_or-map (λ (q : Register). q.offset) items k none r.offset within

    offset_in : k < length offsets
    offset_in = omega (arith, within, length-map {B = ℕ} items (λ (q : Register). q.offset))

    -- the assumed registers with one more
    listed_more : filter assumes (take (k + 1) offsets) ≡ filter assumes (take k offsets) ++ cond (assumes r.offset) (r.offset ∷ []) []
    listed_more =
        ap (filter assumes) (take_more offsets k r.offset offset_in) ∙ filter-append assumes (take k offsets) (get_or offsets k r.offset ∷ [])
        ∙ ap (λ x. filter assumes (take k offsets) ++ filter assumes (x ∷ [])) offset_is

    pub derived_more : (before after assumed longer : List ℕ) (value : ℕ) → HasDerived k before assumed → fault r.offset ≡ None
        → length after ≡ 256 → value ≡ read_back_of (derived r.offset)
        → ((j : ℕ) → j < r.width → byte_at after (r.offset + j) ≡ value / 256 ^ j % 256)
        → ((place : ℕ) → (place < r.offset) ⊎ (r.offset + r.width ≤ place) → byte_at after place ≡ byte_at before place)
        → longer ≡ assumed ++ cond (assumes r.offset) (r.offset ∷ []) []
        → HasDerived (k + 1) after longer
    derived_more before after assumed longer value so_far none full value_is inside outside longer_is = record {
      filled = more_filled known items (derived_byte image lines) k before after within so_far.filled full (λ j below.
          inside j below ∙ ap (λ n. n / 256 ^ j % 256) value_is ∙ ap (λ i. read_back_of (derived r.offset) / 256 ^ i % 256) (let e : j ≡ r.offset + j - r.offset = omega arith in e)) outside;
      told = first_at-more fault offsets k r.offset offset_in offset_is so_far.told ∙ none;
      listed = longer_is ∙ ap (λ xs. xs ++ cond (assumes r.offset) (r.offset ∷ []) []) so_far.listed ∙ sym listed_more;
      few =
          let size = ap length longer_is ∙ length-append assumed (cond (assumes r.offset) (r.offset ∷ []) []) in
          let few = so_far.few in
          let one = at_most_one (assumes r.offset) in
          omega (arith, size, few, one);
    } where
      at_most_one : (b : Bool) → length (cond b (r.offset ∷ []) []) ≤ 1
      at_most_one true = omega arith
      at_most_one false = omega arith

  -- ---- all registers

  -- what is asked for of all of them
  pub record IsDerivedOfAll (probe assumed : List ℕ) : Type 0 where
    pub told : no_probe assuming image lines ≡ None
    pub bytes : probe ≡ derived_probe image lines
    pub listed : assumed ≡ assumed_registers image lines

  module _ (kind : layout image ≡ layout_number known) (table : map pair_of items ≡ address_registers (layout_number known)) where
    -- the offsets of the definitions' table
    offsets_are : map (λ (q : ℕ × ℕ). q.0) (address_registers (layout image)) ≡ offsets
    offsets_are = ap (λ m. map (λ (q : ℕ × ℕ). q.0) (address_registers m)) kind ∙ ap (map (λ (q : ℕ × ℕ). q.0)) (sym table) ∙ map-map (λ (q : ℕ × ℕ). q.0) pair_of (λ (q : Register). q.offset) (λ q. refl) items

    -- a register without a read back is the first
    pub derived_fault : (k : ℕ) (probe assumed : List ℕ) (found : NoProbe) → k < length items → HasDerived k probe assumed → fault (get_or items k none).offset ≡ Some found
        → no_probe assuming image lines ≡ Some found
    unfolding no_probe
    derived_fault k probe assumed found within so_far faulty =
        ap (first_at fault) offsets_are
        ∙ first_at-found fault offsets (k + 1) found (first_at-more fault offsets k (get_or items k none).offset (offset_in k within) (offset_is k within) so_far.told ∙ faulty)

    module _ (k : ℕ) (probe assumed : List ℕ) (all : length items ≤ k) (has : HasDerived k probe assumed) where
      all_offsets : take k offsets ≡ offsets
      all_offsets = take_all k offsets (omega (arith, all, length-map {B = ℕ} items (λ (q : Register). q.offset)))

      derived_all : probe ≡ derived_probe image lines
      unfolding derived_probe
      derived_all =
          all_filled known items (derived_byte image lines) k probe all has.filled
          ∙ ap (λ m. map (λ place. derived_byte image lines place (register_at m place)) (range_with_len 0 256)) (sym kind)

      told_all : no_probe assuming image lines ≡ None
      unfolding no_probe
      told_all = ap (first_at fault) (offsets_are ∙ sym all_offsets) ∙ has.told

      assumed_all : assumed ≡ assumed_registers image lines
      unfolding assumed_registers
      assumed_all = has.listed ∙ ap (filter assumes) (all_offsets ∙ sym offsets_are)

      pub derived_of_all : IsDerivedOfAll probe assumed
      derived_of_all = record { told = told_all; bytes = derived_all; listed = assumed_all }
