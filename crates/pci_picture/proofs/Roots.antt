-- The tables of the buses above buses and of the roots.
use Rattle.std.proofs.Common.{◌≡◌, ◌==◌, ℕ, zero, suc, ◌+◌, ◌-◌, ◌<◌, ◌≤◌, true, false, List, [], ◌∷◌, ◌++◌, length, get_or, set, take, replicate, sym, ap, ◌∙◌, subst, inl, inr, arith, refl, Option, Some, None, unwrap_or, if◌then◌else◌}
use Rattle.std.specs.List.{filter}
use Rattle.std.proofs.lemmas.Bool.{cases_eq, eq-eqb, ne_eqb}
use Rattle.std.proofs.lemmas.List.{append-nil, get_or-replicate, get_or-set_same, get_or-set_other, map_more}
use Rattle.std.proofs.lemmas.List.Elements.{filter-append}
use Rattle.pci_picture.specs.Roots.{AreBusesAbove, AreBridges, Listed, bus_above, bus_of_bridge, first_bus, go_up, is_bridge_to, listed_function, listed_functions, root_bus_of}
use Rattle.pci_picture.specs.Slots.{bus_of_slot}
use Rattle.pci_picture.specs.declared.function.Buses.{Buses}
use Rattle.pci_picture.specs.declared.function.Function.{Function}

pub bridges_none : AreBridges [] (replicate 256 None)
bridges_none bus small = get_or-replicate 256 bus None None small

-- one more function that is no bridge to a bus
other_bridge : (functions : List Listed) (function : Listed) (bus : ℕ) → is_bridge_to bus function ≡ false
    → bus_of_bridge (functions ++ function ∷ []) bus ≡ bus_of_bridge functions bus
other_bridge functions function bus off =
    ap first_bus (filter-append (is_bridge_to bus) functions (function ∷ []) ∙ rw off (append-nil (filter (is_bridge_to bus) functions)))

first_of_more : (some : List Listed) (function : Listed) → first_bus (some ++ function ∷ []) ≡ Some (unwrap_or (first_bus some) (bus_of_slot function.slot))
first_of_more [] function = refl
first_of_more (one ∷ some) function = refl

-- one more bridge to it
this_bridge : (functions : List Listed) (function : Listed) (bus : ℕ) → is_bridge_to bus function ≡ true
    → bus_of_bridge (functions ++ function ∷ []) bus ≡ Some (unwrap_or (bus_of_bridge functions bus) (bus_of_slot function.slot))
this_bridge functions function bus on =
    ap first_bus (filter-append (is_bridge_to bus) functions (function ∷ []) ∙ rw on refl)
    ∙ first_of_more (filter (is_bridge_to bus) functions) function

listed_more : (functions : List Function) (i : ℕ) (function : Function) → i < length functions → function ≡ get_or functions i function
    → listed_functions (take (i + 1) functions) ≡ listed_functions (take i functions) ++ listed_function function ∷ []
listed_more functions i function inside at =
    map_more listed_function functions i function inside
    ∙ ap (λ f. listed_functions (take i functions) ++ listed_function f ∷ []) (sym at)

pub bridges_same : (functions : List Function) (i : ℕ) (function : Function) (table : List (Option ℕ)) → i < length functions
    → function ≡ get_or functions i function → function.buses ≡ None
    → AreBridges (listed_functions (take i functions)) table → AreBridges (listed_functions (take (i + 1) functions)) table
bridges_same functions i function table inside at none was =
    subst (λ l. AreBridges l table) (sym (listed_more functions i function inside at))
    (λ bus small. was bus small ∙ sym (other_bridge (listed_functions (take i functions)) (listed_function function) bus (rw none refl)))

pub bridges_more : (functions : List Function) (i : ℕ) (function : Function) (buses : Buses) (table : List (Option ℕ)) (number : ℕ) → i < length functions
    → function ≡ get_or functions i function → function.buses ≡ Some buses → length table ≡ 256
    → number ≡ bus_of_slot function.number
    → AreBridges (listed_functions (take i functions)) table
    → AreBridges (listed_functions (take (i + 1) functions)) (set table buses.secondary (Some (unwrap_or (get_or table buses.secondary None) number)))
bridges_more functions i function buses table number inside at is long named was =
    let before : List Listed = listed_functions (take i functions) in
    let one : Listed = listed_function function in
    let new : Option ℕ = Some (unwrap_or (get_or table buses.secondary None) number) in
    subst (λ l. AreBridges l (set table buses.secondary new)) (sym (listed_more functions i function inside at))
    (λ bus small. elim (cases_eq bus buses.secondary) [
      | inl same ↦
          ap (λ k. get_or (set table buses.secondary new) k None) same
          ∙ get_or-set_same table buses.secondary new None (omega (arith, long, same, small))
          ∙ ap (λ n. Some (unwrap_or (get_or table buses.secondary None) n)) named
          ∙ ap (λ o. Some (unwrap_or o (bus_of_slot function.number))) (was buses.secondary (omega (arith, same, small)))
          ∙ sym (this_bridge before one buses.secondary (rw is (eq-eqb buses.secondary buses.secondary refl)))
          ∙ ap (bus_of_bridge (before ++ one ∷ [])) (sym same)
      | inr apart ↦
          get_or-set_other table buses.secondary bus new None apart
          ∙ was bus small
          ∙ sym (other_bridge before one bus (rw is (ne_eqb buses.secondary bus (λ e. apart (sym e)))))
    ])

pub above_all : (functions : List Listed) (table : List (Option ℕ)) → length table ≡ 256 → AreBridges functions table → AreBusesAbove functions (set table 0 None)
above_all functions table long was bus small = elim (cases_eq bus 0) [
  | inl same ↦
      ap (λ k. get_or (set table 0 None) k None) same
      ∙ get_or-set_same table 0 None None (omega (arith, long))
      ∙ ap (bus_above functions) (sym same)
  | inr apart ↦
      get_or-set_other table 0 bus None None apart
      ∙ was bus small
      ∙ rw (ne_eqb bus 0 apart) refl
]

-- ---- up from a bus

step : (n i : ℕ) → i < n → n - i ≡ suc (n - (i + 1))
step n i less = omega arith

none_left : (n i : ℕ) → n ≤ i → 0 ≡ n - i
none_left n i past = omega arith

-- one step up
pub up_more : (above : ℕ → Option ℕ) (n i bus other : ℕ) → i < n → above bus ≡ Some other
    → go_up above (n - i) bus ≡ go_up above (n - (i + 1)) other
unfolding go_up
up_more above n i bus other less is =
    ap (λ k. go_up above k bus) (step n i less)
    ∙ ap (λ o. go_up above (n - (i + 1)) (unwrap_or o bus)) is

-- a root stays
pub up_root : (above : ℕ → Option ℕ) (n bus : ℕ) → above bus ≡ None → go_up above n bus ≡ bus
unfolding go_up
up_root above zero bus none = refl
up_root above (suc n) bus none = ap (λ o. go_up above n (unwrap_or o bus)) none ∙ up_root above n bus none

bus_is_low : (slot : ℕ) → bus_of_slot slot < 256
unfolding bus_of_slot
bus_is_low slot = omega arith

first_is_low : (functions : List Listed) (bus : ℕ) → bus < 256 → unwrap_or (first_bus functions) bus < 256
first_is_low [] bus small = small
first_is_low (function ∷ functions) bus small = bus_is_low function.slot

above_is_low : (functions : List Listed) (bus : ℕ) → bus < 256 → unwrap_or (bus_above functions bus) bus < 256
above_is_low functions bus small =
    elim (bus == 0) as (λ b. unwrap_or (if b then None else bus_of_bridge functions bus) bus < 256) [
      | true ↦ small
      | false ↦ first_is_low (filter (is_bridge_to bus) functions) bus small
    ]

-- a table of the buses above leads to the same root
same_way : (functions : List Listed) (table : List (Option ℕ)) → AreBusesAbove functions table → (n bus : ℕ) → bus < 256
    → go_up (λ b. get_or table b None) n bus ≡ go_up (bus_above functions) n bus
unfolding go_up
same_way functions table are zero bus small = refl
same_way functions table are (suc n) bus small =
    ap (λ o. go_up (λ b. get_or table b None) n (unwrap_or o bus)) (are bus small)
    ∙ same_way functions table are n (unwrap_or (bus_above functions bus) bus) (above_is_low functions bus small)

pub root_found : (functions : List Listed) (table : List (Option ℕ)) (bus : ℕ) → AreBusesAbove functions table → bus < 256
    → go_up (λ b. get_or table b None) 256 bus ≡ root_bus_of functions bus
unfolding root_bus_of
root_found functions table bus are small = same_way functions table are 256 bus small

-- one root more
pub roots_more : (functions : List Listed) (roots : List ℕ) (i root : ℕ) → i < length roots → root ≡ root_bus_of functions i
    → ((bus : ℕ) → bus < i → get_or roots bus 0 ≡ root_bus_of functions bus)
    → (bus : ℕ) → bus < i + 1 → get_or (set roots i root) bus 0 ≡ root_bus_of functions bus
roots_more functions roots i root inside is was bus less = elim (cases_eq bus i) [
  | inl same ↦
      ap (λ k. get_or (set roots i root) k 0) same ∙ get_or-set_same roots i root 0 inside ∙ is ∙ ap (root_bus_of functions) (sym same)
  | inr apart ↦ get_or-set_other roots i bus root 0 apart ∙ was bus (omega (arith, less, apart))
]

pub up_all : (above : ℕ → Option ℕ) (n i bus root : ℕ) → n ≤ i → go_up above (n - i) bus ≡ root → bus ≡ root
unfolding go_up
up_all above n i bus root past is = ap (λ k. go_up above k bus) (none_left n i past) ∙ is
