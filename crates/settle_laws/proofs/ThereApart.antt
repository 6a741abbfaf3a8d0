-- What is there on a bus where windows grow shares no address.
use Rattle.std.proofs.Common.{◌≡◌, ◌≢◌, ◌⊎◌, ℕ, zero, suc, ◌<◌, ◌≤◌, inl, inr, length, Option, None, Some, Bool, true, false, ◌||◌, not, arith, ap, sym, subst, ◌∙◌, refl}
use Rattle.std.specs.Bool.{nat_lt, if◌then◌else◌}
use Rattle.std.specs.List.{Contains, filter}
use Rattle.std.specs.Option.{is_some}
use Rattle.std.proofs.lemmas.Bool.{cases_Bool, false≢true, and_parts, and_from, ltb-true, lt-ltb, false_from_ne_true}
use Rattle.pci_spec.specs.Decoded.{Range}
use Rattle.pci_spec.specs.System.{System, Function, IsSystem, Part, Bar, Rom, Window}
use Rattle.pci_spec.specs.Bus.{IsNested}
use Rattle.pci_spec.proofs.BusRanges.{all_gives}
use Rattle.settle_spec.specs.FirstPlace.{ranges_are_apart}
use Rattle.settle_spec.specs.Lists.{Request}
use Rattle.settle_spec.specs.Parts.{FunctionPart, system_parts, addresses}
use Rattle.settle_spec.specs.Stands.{rank, are_beside, stands}
use Rattle.settle_spec.specs.Items.{has_room_behind}
use Rattle.settle_spec.specs.Reach.{reach}
use Rattle.settle_spec.specs.Growth.{part_comes_to, is_lower_beside, is_off, is_clear, there_if, there_beside, there_within, there}
use Rattle.settle_spec.proofs.Reaching.{LieApart, LiesIn, ends_apart, apart_ends, within_gives}
use Rattle.settle_laws.specs.Reach.{WindowsAreLow}
use Rattle.settle_laws.specs.There.{ItemsAreAligned, part_reach}
use Rattle.settle_laws.proofs.Order.{fewer, not_all_pass}
use Rattle.settle_laws.proofs.Standing.{all_same}
use Rattle.settle_laws.proofs.Apart.{beside_back, apart_where_beside}
use Rattle.settle_laws.proofs.Reach.{some_is, reaches_are_off}
use Rattle.settle_laws.proofs.There.{opened, beside_next, within_next, there_is_in_reach}

-- ---- ranges that are apart

pub swapped : (x y : Range) → LieApart x y → LieApart y x
swapped x y (inl under) = inr under
swapped x y (inr over) = inl over

pub inner_apart : (x r t : Range) → LiesIn x r → LieApart r t → LieApart x t
inner_apart x r t inside (inl under) = (let l = inside.last in inl (omega (arith, l, under)))
inner_apart x r t inside (inr over) = (let f = inside.first in inr (omega (arith, f, over)))

module _ (q : Request) (s : System) (comes : FunctionPart → Option Range) where
  -- how many parts stand at lower addresses
  abbrev pub place : FunctionPart → ℕ
  place r = length (filter (λ u. nat_lt (addresses u).first (addresses r).first) (system_parts q s))

  irreflexive : (r : FunctionPart) → nat_lt (addresses r).first (addresses r).first ≡ false
  irreflexive r = false_from_ne_true (nat_lt (addresses r).first (addresses r).first) (λ less. let more = ltb-true (addresses r).first (addresses r).first less in let no : ⊥ = omega (arith, more) in no)

  pub falls : (t r : FunctionPart) → Contains (system_parts q s) t → nat_lt (addresses t).first (addresses r).first ≡ true → place t < place r
  falls t r listed less =
      fewer (λ u. nat_lt (addresses u).first (addresses t).first) (λ u. nat_lt (addresses u).first (addresses r).first) (system_parts q s)
      (λ u earlier.
      let a = ltb-true (addresses u).first (addresses t).first earlier in
      let b = ltb-true (addresses t).first (addresses r).first less in
      lt-ltb (addresses u).first (addresses r).first (omega (arith, a, b)))
      t listed (irreflexive t) less

  pub few : (r : FunctionPart) → Contains (system_parts q s) r → place r < length (system_parts q s)
  few r listed = not_all_pass (λ u. nat_lt (addresses u).first (addresses r).first) (system_parts q s) r listed (irreflexive r)

  -- ---- as many others as there are at lower addresses are enough

  pub clear_same : (one other : FunctionPart → Option Range) (r : FunctionPart) → ((u : FunctionPart) → Contains (system_parts q s) u → is_lower_beside q u r ≡ true → one u ≡ other u)
      → (o : Option Range) → is_clear q s one r o ≡ is_clear q s other r o
  clear_same one other r same None = refl
  clear_same one other r same (Some g) =
      all_same (λ t. not (is_lower_beside q t r) || is_off g (one t)) (λ t. not (is_lower_beside q t r) || is_off g (other t)) (system_parts q s)
      (λ u listed. elim (cases_Bool (is_lower_beside q u r)) [
        | inl before ↦ ap (λ o. not (is_lower_beside q u r) || is_off g o) (same u listed before)
        | inr off ↦ ap (λ b. not b || is_off g (one u)) off ∙ sym (ap (λ b. not b || is_off g (other u)) off)
      ])

  pub if_same : (one other : FunctionPart → Option Range) (r : FunctionPart) → ((u : FunctionPart) → Contains (system_parts q s) u → is_lower_beside q u r ≡ true → one u ≡ other u)
      → there_if q s comes one r ≡ there_if q s comes other r
  if_same one other r same =
      ap (λ b. if b then comes r else if has_room_behind q s r then Some (addresses r) else None) (clear_same one other r same (comes r))

  pub enough : (d e : ℕ) (r : FunctionPart) → Contains (system_parts q s) r → place r < d → place r < e → there_beside q s comes d r ≡ there_beside q s comes e r
  enough zero e r listed hd he = absurd (let no : ⊥ = omega (arith, hd) in no)
  enough (suc d) zero r listed hd he = absurd (let no : ⊥ = omega (arith, he) in no)
  enough (suc d) (suc e) r listed hd he =
      beside_next q s comes d r
      ∙ if_same (there_beside q s comes d) (there_beside q s comes e) r (λ u has before.
      let less = (and_parts (are_beside q u r) (nat_lt (addresses u).first (addresses r).first) before).1 in
      let lower = falls u r has less in
      enough d e u has (omega (arith, lower, hd)) (omega (arith, lower, he)))
      ∙ sym (beside_next q s comes e r)

  -- ---- of two on a bus the upper one is off the lower one

  record IsOffOrStands (r t : FunctionPart) (x y : Range) : Type 0 where
    is : (is_off y (Some x) ≡ true) ⊎ (y ≡ addresses t)

  upper : (n : ℕ) (r t : FunctionPart) (x y : Range) → Contains (system_parts q s) r → Contains (system_parts q s) t → place t < n → is_lower_beside q r t ≡ true
      → there_beside q s comes n r ≡ Some x → there_beside q s comes n t ≡ Some y → IsOffOrStands r t x y
  upper zero r t x y in_r in_t small before is_x is_y = absurd (let no : ⊥ = omega (arith, small) in no)
  upper (suc m) r t x y in_r in_t small before is_x is_y =
      by (is_clear q s (there_beside q s comes m) t (comes t)) (has_room_behind q s t) refl (sym (beside_next q s comes m t) ∙ is_y)
    where
      less : nat_lt (addresses r).first (addresses t).first ≡ true
      less = (and_parts (are_beside q r t) (nat_lt (addresses r).first (addresses t).first) before).1

      same : there_beside q s comes m r ≡ Some x
      same =
          let lower = falls r t in_r less in
          enough m (suc m) r in_r (omega (arith, lower, small)) (omega (arith, lower, small)) ∙ is_x

      clear : (o : Option Range) → is_clear q s (there_beside q s comes m) t o ≡ true → o ≡ Some y → is_off y (Some x) ≡ true
      clear None is e = absurd (false≢true (ap is_some e))
      clear (Some g) is e =
          let each = all_gives (λ u. not (is_lower_beside q u t) || is_off g (there_beside q s comes m u)) (system_parts q s) is r in_r in
          let off : is_off g (there_beside q s comes m r) ≡ true = sym (ap (λ b. not b || is_off g (there_beside q s comes m r)) before) ∙ each in
          subst (λ z. is_off z (Some x) ≡ true) (some_is g y e) (sym (ap (is_off g) same) ∙ off)

      by : (b holds : Bool) → is_clear q s (there_beside q s comes m) t (comes t) ≡ b → (if b then comes t else if holds then Some (addresses t) else None) ≡ Some y → IsOffOrStands r t x y
      by true holds is e = record { is = inl (clear (comes t) is e) }
      by false true is e = record { is = inr (sym (some_is (addresses t) y e)) }
      by false false is e = absurd (false≢true (ap is_some e))

module _ (q : Request) (s : System) (system : IsSystem s) (nested : IsNested q.roots s) (low : WindowsAreLow q s) (aligned : ItemsAreAligned q s) where
  -- what stands has a first address that isn't above its last
  forward : (f : Function) (p : Part) → Contains (system_parts q s) (record { function = f; part = p }) → stands q s (record { function = f; part = p }) ≡ true
      → (addresses (record { function = f; part = p })).first ≤ (addresses (record { function = f; part = p })).last
  forward f (Bar n) listed stand = omega arith
  forward f Rom listed stand = omega arith
  forward f (Window c) listed stand = (opened q s system nested low aligned c f (record { part = listed; stands = stand })).forward

  -- what a part can come to is off what stands beside it
  reach_apart : (f : Function) (p : Part) (t : FunctionPart) → Contains (system_parts q s) (record { function = f; part = p }) → Contains (system_parts q s) t
      → stands q s (record { function = f; part = p }) ≡ true → stands q s t ≡ true → are_beside q (record { function = f; part = p }) t ≡ true → rank (record { function = f; part = p }) ≢ rank t
      → LieApart (part_reach q s f p) (addresses t)
  reach_apart f (Window c) t in_r in_t stand_r stand_t beside differ =
      ends_apart (reach q s c f) (addresses t)
      (reaches_are_off q s c nested f t (record { part = in_r; stands = stand_r }) in_t stand_t beside (λ same. differ (sym same)))
  reach_apart f (Bar n) t in_r in_t stand_r stand_t beside differ =
      ends_apart (addresses (record { function = f; part = Bar n })) (addresses t) (apart_where_beside q s (record { function = f; part = Bar n }) t nested in_r in_t stand_r stand_t beside differ)
  reach_apart f Rom t in_r in_t stand_r stand_t beside differ =
      ends_apart (addresses (record { function = f; part = Rom })) (addresses t) (apart_where_beside q s (record { function = f; part = Rom }) t nested in_r in_t stand_r stand_t beside differ)

  abbrev comes_last : FunctionPart → Option Range
  comes_last r = part_comes_to q s (there_within q s 255) r.function r.part

  -- the upper one of two
  in_order : (r t : FunctionPart) (x y : Range) → Contains (system_parts q s) r → Contains (system_parts q s) t → are_beside q r t ≡ true → rank r ≢ rank t → there q s r ≡ Some x → there q s t ≡ Some y
      → (addresses r).first < (addresses t).first → LieApart x y
  in_order r t x y in_r in_t beside differ is_x is_y less =
      let at_r = there_is_in_reach q s system nested low aligned r x in_r is_x in
      let at_t = there_is_in_reach q s system nested low aligned t y in_t is_y in
      let before = and_from (are_beside q r t) (nat_lt (addresses r).first (addresses t).first) beside (lt-ltb (addresses r).first (addresses t).first less) in
      let way = upper q s comes_last (length (system_parts q s)) r t x y in_r in_t (few q s comes_last t in_t) before
      (sym (within_next q s 255 r) ∙ is_x) (sym (within_next q s 255 t) ∙ is_y) in
      elim way.is [
        | inl off ↦ swapped y x (ends_apart y x off)
        | inr stays ↦
            subst (LieApart x) (sym stays)
            (inner_apart x (part_reach q s r.function r.part) (addresses t) (within_gives x (part_reach q s r.function r.part) at_r.within)
            (reach_apart r.function r.part t in_r in_t at_r.stands at_t.stands beside differ))
      ]

  pub there_is_apart : (r t : FunctionPart) (x y : Range) → Contains (system_parts q s) r → Contains (system_parts q s) t → are_beside q r t ≡ true → rank r ≢ rank t → there q s r ≡ Some x → there q s t ≡ Some y
      → ranges_are_apart x y ≡ true
  there_is_apart r t x y in_r in_t beside differ is_x is_y =
      let at_r = there_is_in_reach q s system nested low aligned r x in_r is_x in
      let at_t = there_is_in_reach q s system nested low aligned t y in_t is_y in
      let to_r = forward r.function r.part in_r at_r.stands in
      let to_t = forward t.function t.part in_t at_t.stands in
      apart_ends x y
      (elim (ends_apart (addresses r) (addresses t) (apart_where_beside q s r t nested in_r in_t at_r.stands at_t.stands beside differ)) [
        | inl under ↦ in_order r t x y in_r in_t beside differ is_x is_y (omega (arith, under, to_r))
        | inr over ↦ swapped y x (in_order t r y x in_t in_r (beside_back q s r t beside) (λ same. differ (sym same)) is_y is_x (omega (arith, over, to_t)))
      ])
