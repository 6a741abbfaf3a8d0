-- The BARs of a filling, by its record.
use Rattle.std.proofs.Common.{◌≡◌, ℕ, zero, suc, ◌+◌, ◌/◌, ◌%◌, ◌^◌, ◌<◌, ◌≤◌, Bool, true, false, cond, ◌&&◌, not, inl, inr, arith, sym, ◌∙◌, ap, subst, map, refl}
use Rattle.std.specs.Bool.{nat_lt, ◌==◌, if◌then◌else◌}
use Rattle.std.specs.List.{Contains, filter, range_with_len}
use Rattle.std.proofs.lemmas.Bool.{and_from, and_parts, both_ways, cases_Bool, lt-ltb}
use Rattle.std.proofs.lemmas.List.Elements.{All-contains}
use Rattle.std.proofs.Math.Nat.{pow-le-pow_right}
use denote.Enum.Bare.{sameb}
use Rattle.pci_spec.specs.Number.{number_at}
use Rattle.pci_spec.specs.Header.{layout, bar_count, bar_register}
use Rattle.pci_spec.specs.Bar.{BarKind, IoBar, Memory32, Memory64, Reserved, bar_at, bar_kind, is_wide, starts_bar, has_bar, first_bit}
use Rattle.pci_spec.specs.Decoded.{decoded_bar, decoded_bars}
use Rattle.pci_spec.specs.Decoded as decoded
use Rattle.pci_spec.specs.System.{Function, IsFunction, Bar}
use Rattle.plan_spec.specs.Plan.{class_of, same_class}
use Rattle.plan_spec.specs.Planning.Showing.{reach_of}
use Rattle.plan_spec.specs.Planning.Numbers.{place_at, new_bar, lower_number, bar_number}
use Rattle.pci_spec.proofs.Members.{IsMade, in_filter_to, in_filter_from, in_map_to, in_map_from, in_range_to, in_range_from}
use Rattle.plan_spec.proofs.Planning.Reach.{bar_place}
use Rattle.plan_spec.proofs.Planning.Tables.{class_itself}
use Rattle.plan_spec.proofs.Planning.BarNumbers.{value_small, upper_of_wide, wide_has_bar}
use Rattle.plan_spec.proofs.Planning.LowBits.{low_bits}
use Rattle.pci_image.specs.Bars.{decoded_kind_of, decoded_bar_of}
use Rattle.pci_image.specs.declared.bar.Bar.{Bar as CodeBar}
use Rattle.pci_image.specs.declared.bar.BarKind.{BarKind as CodeKind}
use Rattle.pci_image.specs.declared.bar.BarKind.TheVariants.{Io, Mem32, Mem64}
use Rattle.pci_image.specs.contracts.bar.BarKind.{the_type as bar_kind_type}
use Rattle.pci_plan.specs.declared.numbers.Filling.{Filling}
use Rattle.pci_place.specs.Classes.{is_wide_kind}
use Rattle.pci_plan.specs.Fillings.{FillingOf}
use Rattle.pci_place.specs.Places.{first_in}
use Rattle.pci_place.proofs.ClassOf.{kind_wide}

-- the BAR of the record that register n starts
pub record IsBarAt (f : Function) (n : ℕ) (bar : CodeBar) : Type 0 where
  pub inside : n < bar_count (layout f.image)
  pub there : has_bar f.probe n ≡ true
  pub is : decoded_bar_of bar ≡ decoded_bar f.image f.probe n

pub register_is : (f : Function) (n : ℕ) (bar : CodeBar) → IsBarAt f n bar → bar.reg ≡ bar_register n
register_is f n bar at = ap (λ (b : decoded.DecodedBar). b.register) at.is

pub kind_is : (f : Function) (n : ℕ) (bar : CodeBar) → IsBarAt f n bar → decoded_kind_of bar.kind ≡ bar_kind (bar_at f.probe n)
kind_is f n bar at = ap (λ (b : decoded.DecodedBar). b.kind) at.is

count_by : (b : Bool) → (if b then 2 else 6) ≤ 6
count_by true = omega arith
count_by false = omega arith

pub few_bars : (f : Function) → bar_count (layout f.image) ≤ 6
few_bars f = count_by (layout f.image == 1)

-- ---- kinds

pub wide_is : (f : Function) (n : ℕ) (bar : CodeBar) → IsBarAt f n bar → is_wide_kind bar.kind ≡ is_wide (bar_at f.probe n)
wide_is f n bar at = kind_wide f bar n at.is

-- a comparison of kinds
pub same_wide : (k : CodeKind) → sameb bar_kind_type k Mem64 ≡ is_wide_kind k
same_wide Io = refl
same_wide Mem32 = refl
same_wide Mem64 = refl

-- a register that a BAR isn't shown in
pub record IsElsewhere (offset : ℕ) (bar : CodeBar) : Type 0 where
  pub own : bar.reg ≡ offset → ⊥
  pub upper : is_wide_kind bar.kind ≡ true → bar.reg + 4 ≡ offset → ⊥

module _ (filling : Filling) (of : FillingOf filling) where
  same_bars : map decoded_bar_of filling.record.now.bars.items ≡ decoded_bars of.function.image of.function.probe
  same_bars = ap (λ (r : decoded.Record). r.bars) of.recorded.value

  pub bar_of_record : (bar : CodeBar) → Contains filling.record.now.bars.items bar → (n : ℕ) × IsBarAt of.function n bar
  bar_of_record bar listed =
      let f = of.function in
      let made : IsMade (decoded_bar f.image f.probe) (filter (has_bar f.probe) (range_with_len 0 (bar_count (layout f.image)))) (decoded_bar_of bar) =
      in_map_to (decoded_bar f.image f.probe) (filter (has_bar f.probe) (range_with_len 0 (bar_count (layout f.image)))) (decoded_bar_of bar)
      (subst (λ bars. Contains bars (decoded_bar_of bar)) same_bars (in_map_from decoded_bar_of filling.record.now.bars.items bar listed)) in
      let kept = in_filter_to (has_bar f.probe) (range_with_len 0 (bar_count (layout f.image))) made.from made.has in
      let inside = (in_range_to 0 (bar_count (layout f.image)) made.from kept.0).1 in
      (made.from, record { inside = omega (arith, inside); there = kept.1; is = sym made.is })

  -- the BAR at a register that is known
  pub bar_with : (bar : CodeBar) (n : ℕ) → Contains filling.record.now.bars.items bar → bar.reg ≡ bar_register n → IsBarAt of.function n bar
  bar_with bar n listed at =
      let found = bar_of_record bar listed in
      let other = register_is of.function found.0 bar found.1 in
      let same : found.0 ≡ n = omega (arith, other, at) in
      subst (λ m. IsBarAt of.function m bar) same found.1

  -- each implemented BAR is in the record
  pub record RecordedBar (n : ℕ) : Type 0 where
    pub bar : CodeBar
    pub listed : Contains filling.record.now.bars.items bar
    pub at : IsBarAt of.function n bar

  pub recorded_bar : (n : ℕ) → n < bar_count (layout of.function.image) → has_bar of.function.probe n ≡ true → RecordedBar n
  recorded_bar n inside there =
      let f = of.function in
      let listed : Contains (decoded_bars f.image f.probe) (decoded_bar f.image f.probe n) =
      in_map_from (decoded_bar f.image f.probe) (filter (has_bar f.probe) (range_with_len 0 (bar_count (layout f.image)))) n
      (in_filter_from (has_bar f.probe) (range_with_len 0 (bar_count (layout f.image))) n (in_range_from 0 (bar_count (layout f.image)) n (omega arith) (omega (arith, inside))) there) in
      let made : IsMade decoded_bar_of filling.record.now.bars.items (decoded_bar f.image f.probe n) =
      in_map_to decoded_bar_of filling.record.now.bars.items (decoded_bar f.image f.probe n) (subst (λ bars. Contains bars (decoded_bar f.image f.probe n)) (sym same_bars) listed) in
      record { bar = made.from; listed = made.has; at = record { inside = inside; there = there; is = made.is } }

  -- ---- its number

  bar_placed : (n : ℕ) → n < bar_count (layout of.function.image) → has_bar of.function.probe n ≡ true
      → first_in filling.places.now (Bar n) ≡ place_at of.roots of.system of.pools of.function (Bar n)
  bar_placed n inside there =
      let f = of.function in
      let c = class_of of.system of.pools f (Bar n) in
      of.places (Bar n) (and_from (nat_lt n (bar_count (layout f.image)) && has_bar f.probe n) (same_class c c)
      (and_from (nat_lt n (bar_count (layout f.image))) (has_bar f.probe n) (lt-ltb n (bar_count (layout f.image)) inside) there) (class_itself c))

  -- the place, over the encoding that stands in the register
  pub bar_number_is : (n : ℕ) → n < bar_count (layout of.function.image) → has_bar of.function.probe n ≡ true
      → first_in filling.places.now (Bar n) + number_at filling.image.now.0 (bar_register n) 4 % 2 ^ first_bit (bar_kind (bar_at of.function.probe n))
      ≡ new_bar of.roots of.system of.pools of.function n
  bar_number_is n inside there =
      let f = of.function in
      let e = 2 ^ first_bit (bar_kind (bar_at f.probe n)) in
      ap (λ place. place + number_at filling.image.now.0 (bar_register n) 4 % e) (bar_placed n inside there)
      ∙ ap (λ image. place_at of.roots of.system of.pools f (Bar n) + number_at image (bar_register n) 4 % e) of.image
      ∙ ap (λ low. place_at of.roots of.system of.pools f (Bar n) + low) (sym (low_bits f n))

  least_reach : (kind : BarKind) → reach_of kind ≤ 64
  least_reach IoBar = omega arith
  least_reach Memory32 = omega arith
  least_reach Memory64 = omega arith
  least_reach Reserved = omega arith

  pub bar_number_small : (n : ℕ) → n < bar_count (layout of.function.image) → has_bar of.function.probe n ≡ true → new_bar of.roots of.system of.pools of.function n < 2 ^ 64
  bar_number_small n inside there =
      let f = of.function in
      let is : IsFunction f = All-contains IsFunction of.system f of.plannable.system.each of.recorded.listed in
      let small = value_small f is.image is.probe (λ m. place_at of.roots of.system of.pools f (Bar m)) of.recorded.decodable.bars
      (λ m low has. bar_place of.roots of.system of.pools of.plannable (place_at of.roots of.system of.pools) of.tables f m of.recorded.listed low has) n inside there in
      let most : 2 ^ reach_of (bar_kind (bar_at f.probe n)) ≤ 2 ^ 64 = pow-le-pow_right (omega arith) (least_reach (bar_kind (bar_at f.probe n))) in
      omega (arith, small, most)

  -- ---- the numbers of registers

  -- a register that starts a BAR
  starting : (n : ℕ) → has_bar of.function.probe n ≡ true → bar_number of.roots of.system of.pools of.function n ≡ new_bar of.roots of.system of.pools of.function n % 2 ^ 32
  starting zero there = ap (λ t. cond t (new_bar of.roots of.system of.pools of.function 0 % 2 ^ 32) (bar_at of.function.image 0)) there
  starting (suc n) there =
      let f = of.function in
      let starts = (and_parts (starts_bar f.probe (suc n)) (not (bar_at f.probe (suc n) == 0)) there).0 in
      ap (λ t. cond t (lower_number of.roots of.system of.pools f (suc n)) (new_bar of.roots of.system of.pools f n / 2 ^ 32)) starts
      ∙ ap (λ t. cond t (new_bar of.roots of.system of.pools f (suc n) % 2 ^ 32) (bar_at f.image (suc n))) there

  -- one after it that is its upper half
  upper_of : (n : ℕ) → starts_bar of.function.probe (suc n) ≡ false → bar_number of.roots of.system of.pools of.function (suc n) ≡ new_bar of.roots of.system of.pools of.function n / 2 ^ 32
  upper_of n upper = ap (λ t. cond t (lower_number of.roots of.system of.pools of.function (suc n)) (new_bar of.roots of.system of.pools of.function n / 2 ^ 32)) upper

  -- one that isn't implemented
  absent : (n : ℕ) → starts_bar of.function.probe n ≡ true → has_bar of.function.probe n ≡ false → bar_number of.roots of.system of.pools of.function n ≡ bar_at of.function.image n
  absent zero starts none = ap (λ t. cond t (new_bar of.roots of.system of.pools of.function 0 % 2 ^ 32) (bar_at of.function.image 0)) none
  absent (suc n) starts none =
      let f = of.function in
      ap (λ t. cond t (lower_number of.roots of.system of.pools f (suc n)) (new_bar of.roots of.system of.pools f n / 2 ^ 32)) starts
      ∙ ap (λ t. cond t (new_bar of.roots of.system of.pools f (suc n) % 2 ^ 32) (bar_at f.image (suc n))) none

  pub lower_is : (bar : CodeBar) (n : ℕ) → Contains filling.record.now.bars.items bar → bar.reg ≡ bar_register n
      → bar_number of.roots of.system of.pools of.function n ≡ new_bar of.roots of.system of.pools of.function n % 2 ^ 32
  lower_is bar n listed register = starting n (bar_with bar n listed register).there

  pub upper_is : (bar : CodeBar) (n : ℕ) → Contains filling.record.now.bars.items bar → is_wide_kind bar.kind ≡ true → bar.reg + 4 ≡ bar_register n
      → (m : ℕ) × (bar.reg ≡ bar_register m) × (bar_number of.roots of.system of.pools of.function n ≡ new_bar of.roots of.system of.pools of.function m / 2 ^ 32)
  upper_is bar n listed wide register =
      let f = of.function in
      let found = bar_of_record bar listed in
      let m = found.0 in
      let at = found.1 in
      let own = register_is f m bar at in
      let starts = (and_parts (starts_bar f.probe m) (not (bar_at f.probe m == 0)) at.there).0 in
      let half : starts_bar f.probe (suc m) ≡ false = ap not (and_from (starts_bar f.probe m) (is_wide (bar_at f.probe m)) starts (sym (wide_is f m bar at) ∙ wide)) in
      let next : suc m ≡ n = omega (arith, own, register) in
      (m, own, subst (λ k. bar_number of.roots of.system of.pools f k ≡ new_bar of.roots of.system of.pools f m / 2 ^ 32) next (upper_of m half))

  no_upper : (n : ℕ) → n < bar_count (layout of.function.image) → starts_bar of.function.probe n ≡ false
      → ((bar : CodeBar) → Contains filling.record.now.bars.items bar → IsElsewhere (bar_register n) bar) → ⊥
  no_upper zero inside upper elsewhere = both_ways true upper refl
  no_upper (suc m) inside upper elsewhere =
      let f = of.function in
      let wide = upper_of_wide f.probe m upper in
      let b = recorded_bar m (omega (arith, inside)) (wide_has_bar f.probe m wide.0 wide.1) in
      let own = register_is f m b.bar b.at in
      (elsewhere b.bar b.listed).upper (wide_is f m b.bar b.at ∙ wide.1) (omega (arith, own))

  pub absent_is : (n : ℕ) → n < bar_count (layout of.function.image) → ((bar : CodeBar) → Contains filling.record.now.bars.items bar → IsElsewhere (bar_register n) bar)
      → bar_number of.roots of.system of.pools of.function n ≡ bar_at of.function.image n
  absent_is n inside elsewhere = elim (cases_Bool (has_bar of.function.probe n)) [
    | inl there ↦ (let b = recorded_bar n inside there in absurd ((elsewhere b.bar b.listed).own (register_is of.function n b.bar b.at)))
    | inr none ↦ elim (cases_Bool (starts_bar of.function.probe n)) [
      | inl starts ↦ absent n starts none
      | inr upper ↦ absurd (no_upper n inside upper elsewhere)
    ]
  ]
