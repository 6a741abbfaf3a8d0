-- Names of told ranges, and functions at their slots.
use Rattle.std.proofs.Common.{◌≡◌, ◌&&◌, ◌≤◌, ℕ, ◌+◌, Bool, true, false, arith, get_or, inl, inr, Some, sym, subst, List, [], ◌∷◌, map, refl, ◌∙◌, ap}
use Rattle.std.specs.Bool.{◌==◌}
use Rattle.std.specs.List.{Contains, list_any, slice_get}
use Rattle.std.proofs.lemmas.Bool.{and_from, and_parts, both_ways, cases_Bool, eq-eqb, false_from_ne_true, not-true, not_from_false, or_cases, or_left, or_right}
use Rattle.std.proofs.lemmas.Option.{slice_get_within, get_or_from_slice_get}
use Rattle.pci_spec.specs.Slot.{Slot, same_slot}
use Rattle.pci_spec.specs.Number.{IsImage}
use Rattle.pci_spec.specs.System.{System, Function, is_bridge}
use Rattle.pci_spec.specs.Bus.{secondary, is_root, is_led_to}
use Rattle.pci_spec.specs.Fault.{RegionName}
use Rattle.pci_spec.proofs.Members.{in_nil, in_cons_cases, in_map_to, in_map_from, IsMade}
use Rattle.pci_spec.proofs.SameSlot.{slot_itself, slots_same}
use Rattle.plan_spec.specs.Plan.{IsMoved}
use Rattle.plan_spec.proofs.Planning.Moved.{bridge_same, secondary_same}
use Rattle.plan_spec.proofs.Planning.Behind.{Passes, any_gives, any_from}
use Rattle.judge_spec.specs.Told.{ToldRange, IsTold}
use Rattle.judge_spec.specs.ToldClaims.{Told, told_register, IsRangeAt, is_marked_held, is_held_from, is_held}
use Rattle.judge_spec.specs.ToldRegion.{ToldRegion, regions_from, told_regions}
use Rattle.judge_spec.proofs.ToldNumbering.{regions_are_numbered}
use Rattle.settle_spec.specs.Lines.{is_held_line}
use Rattle.settle_spec.specs.Lists.{Request}
use Rattle.settle_laws.specs.ToldSoundLaws.{IsToldOf}

-- ---- names

abbrev pub line_at : RegionName → ToldRange → ToldRegion
line_at region r = record { register = region.register; told = r }

-- what a slot and a register name is among the lines
pub named_line : (told : Told) (region : RegionName) (r : ToldRange) → IsRangeAt told region r → Contains (told_regions told) (line_at region r)
named_line told region r named = (regions_are_numbered told (line_at region r)).1 record { index = named.index; at = named.at; slot = refl; register = named.register }

held_from : (first : ℕ) (ranges : List ToldRange) (x : ToldRegion) → Contains (regions_from first ranges) x → is_marked_held x.told.mark ≡ true → is_held_from first ranges x.register ≡ true
held_from first [] x has held = absurd (in_nil x has)
held_from first (r ∷ ranges) x has held = elim (in_cons_cases (record { register = first; told = r }) (regions_from (first + 1) ranges) x has) [
  | inl here ↦
      or_left (first == x.register && is_marked_held r.mark) (is_held_from (first + 1) ranges x.register)
      (and_from (first == x.register) (is_marked_held r.mark) (eq-eqb first x.register (ap (λ (y : ToldRegion). y.register) here)) (ap (λ (y : ToldRegion). is_marked_held y.told.mark) here ∙ held))
  | inr later ↦ or_right (first == x.register && is_marked_held r.mark) (is_held_from (first + 1) ranges x.register) (held_from (first + 1) ranges x later held)
]

-- the register of a `held` line is one
pub held_register : (told : Told) (x : ToldRegion) → Contains (told_regions told) x → is_held_line x ≡ true → is_held told x.register ≡ true
held_register told x has held = held_from (told_register 0) told.ranges x has held

-- ---- slots

-- the function at a slot
pub record IsAtSlot (s : System) (slot : Slot) : Type 0 where
  pub f : Function
  pub listed : Contains s f
  pub slot_is : f.slot ≡ slot

-- that of a range that isn't held is listed
pub at_slot : (q : Request) (s : System) → IsToldOf q s → (region : RegionName) (r : ToldRange) → IsRangeAt q.told region r → is_marked_held r.mark ≡ false → IsAtSlot s r.slot
at_slot q s told region r named not_held = elim (cases_Bool (list_any test s)) [
  | inl is ↦ (let f : Passes test s = any_gives test s is in record { f = f.x; listed = f.listed; slot_is = slots_same f.x.slot r.slot f.is })
  | inr none ↦ absurd (told.listed r.slot record {
    r = r;
    is_told = ranged;
    not_held = not_held;
    of_slot = refl;
    not_listed = λ has. (let f : IsMade (λ (f : Function). f.slot) s r.slot = in_map_to (λ (f : Function). f.slot) s r.slot has in
        both_ways (list_any test s) none (any_from test s f.from f.has (ap (λ x. same_slot x r.slot) f.is ∙ slot_itself r.slot)));
  })
]
  where
    test : Function → Bool
    test f = same_slot f.slot r.slot

    ranged : Contains q.told.ranges r
    ranged = (named.index, slice_get_within q.told.ranges named.index r named.at, get_or_from_slice_get q.told.ranges named.index r r named.at)

-- ---- of a lawful text

some_same : {X : Type 0} (a b : X) → Some a ≡ Some b → a ≡ b
some_same a b same = cc

-- a register names one range
pub one_line : (told : Told) (x y : ToldRegion) → Contains (told_regions told) x → Contains (told_regions told) y → x.register ≡ y.register → x.told ≡ y.told
one_line told x y in_x in_y same =
    let named_x = (regions_are_numbered told x).0 in_x in
    let named_y = (regions_are_numbered told y).0 in_y in
    let first = named_x.register in
    let second = named_y.register in
    let index : named_x.index ≡ named_y.index = omega (arith, first, second, same) in
    some_same x.told y.told (sym named_x.at ∙ ap (λ n. slice_get told.ranges n) index ∙ named_y.at)

-- and isn't backward
pub line_forward : (told : Told) (x : ToldRegion) → IsTold told.ranges → Contains (told_regions told) x → x.told.first ≤ x.told.last
line_forward told x lawful has =
    let named = (regions_are_numbered told x).0 has in
    let within = slice_get_within told.ranges named.index x.told named.at in
    let is : get_or told.ranges named.index x.told ≡ x.told = get_or_from_slice_get told.ranges named.index x.told x.told named.at in
    subst (λ (r : ToldRange). r.first ≤ r.last) is (lawful.each named.index x.told within).forward

-- ---- where functions are changed one by one

-- what is told of a system is told of it then
pub told_then : (q : Request) (s : System) (images : (f : Function) → Contains s f → IsImage f.image) (h : Function → Function) → ((f : Function) → Contains s f → IsMoved f (h f)) → IsToldOf q s → IsToldOf q (map h s)
told_then q s images h moved told = record {
  lawful = told.lawful;
  awake = told.awake;
  listed = λ slot none. told.listed slot record {
    r = none.r;
    is_told = none.is_told;
    not_held = none.not_held;
    of_slot = none.of_slot;
    not_listed = λ has. none.not_listed (still_listed slot has);
  };
  led_to = λ slot orphan. told.led_to slot record {
    r = orphan.r;
    is_told = orphan.is_told;
    held = orphan.held;
    of_slot = orphan.of_slot;
    not_led_to = not_from_false (is_led_to q.roots s slot.bus)
        (false_from_ne_true (is_led_to q.roots s slot.bus) (λ led. both_ways (is_led_to q.roots (map h s) slot.bus) (not-true (is_led_to q.roots (map h s) slot.bus) orphan.not_led_to) (still_led slot.bus led)));
  };
}
  where
    still_listed : (slot : Slot) → Contains (map (λ (f : Function). f.slot) s) slot → Contains (map (λ (f : Function). f.slot) (map h s)) slot
    still_listed slot has =
        let f : IsMade (λ (f : Function). f.slot) s slot = in_map_to (λ (f : Function). f.slot) s slot has in
        subst (Contains (map (λ (f : Function). f.slot) (map h s))) ((moved f.from f.has).slot ∙ f.is) (in_map_from (λ (f : Function). f.slot) (map h s) (h f.from) (in_map_from h s f.from f.has))

    still_led : (bus : ℕ) → is_led_to q.roots s bus ≡ true → is_led_to q.roots (map h s) bus ≡ true
    still_led bus led = elim (or_cases (is_root q.roots bus) (list_any (λ c. is_bridge c && secondary c == bus) s) led) [
      | inl root ↦ or_left (is_root q.roots bus) (list_any (λ c. is_bridge c && secondary c == bus) (map h s)) root
      | inr some ↦
          let c : Passes (λ c. is_bridge c && secondary c == bus) s = any_gives (λ c. is_bridge c && secondary c == bus) s some in
          let parts = and_parts (is_bridge c.x) (secondary c.x == bus) c.is in
          let m = moved c.x c.listed in
          let image = images c.x c.listed in
          or_right (is_root q.roots bus) (list_any (λ c. is_bridge c && secondary c == bus) (map h s))
          (any_from (λ c. is_bridge c && secondary c == bus) (map h s) (h c.x) (in_map_from h s c.x c.listed)
          (and_from (is_bridge (h c.x)) (secondary (h c.x) == bus) (bridge_same c.x (h c.x) m image ∙ parts.0) (ap (λ n. n == bus) (secondary_same c.x (h c.x) m image parts.0) ∙ parts.1)))
    ]
