-- Where one more window keeps room free, all that is wished before is kept free as it was.
use Rattle.std.proofs.Common.{◌≡◌, inl, inr, true, false, cond, arith, refl, sym, ◌∙◌, ap, subst, None, Some}
use Rattle.std.specs.Bool.{◌==◌}
use Rattle.std.specs.List.{Contains}
use Rattle.std.specs.Option.{option_or}
use Rattle.std.proofs.lemmas.Bool.{and_parts, and_from, both_ways, cases_eq, eq-eqb, eqb-true, false_from_ne_true}
use Rattle.pci_spec.specs.Slot.{slot_number}
use Rattle.pci_spec.specs.Decoded.{Range}
use Rattle.pci_spec.specs.Window.{WindowKind}
use Rattle.pci_spec.specs.System.{System, Function, IsSystem, Part, Window, has_part, is_bridge, is_window, register_of}
use Rattle.pci_spec.specs.Bus.{are_siblings, LeadsTo}
use Rattle.pci_spec.proofs.Nesting.{one_function}
use Rattle.pci_spec.proofs.Regions.{register_of-lt}
use Rattle.plan_spec.specs.Planning.Layout.{IsInside, LieApart}
use Rattle.plan_spec.proofs.Planning.Safe.{order_of}
use Rattle.settle_spec.specs.Lists.{Request}
use Rattle.settle_spec.specs.Parts.{FunctionPart, are_same_space}
use Rattle.settle_spec.specs.Stands.{rank, are_beside, part_space, window_part}
use Rattle.settle_spec.specs.Kept.{Kept}
use Rattle.settle_spec.specs.Wishes.{place_then, range_then, with_window}
use Rattle.settle_laws.proofs.Apart.{siblings_back, space_back}
use Rattle.settle_laws.specs.KeptLaws.{IsWishedWindow}
use Rattle.settle_laws.specs.Keeping.PlacesLaws.{CanSettle}
use Rattle.settle_laws.proofs.HeaderParts.{is_part_of, one_part}
use Rattle.settle_laws.proofs.Keeping.Wishless.{can_same, place_same}

pub within : (t u v : Range) → IsInside t u → IsInside u v → IsInside t v
within t u v (first, last) (from, to) = (omega (arith, first, from), omega (arith, last, to))

pub other_way : (t u : Range) → LieApart t u → LieApart u t
other_way t u (inl before) = inr before
other_way t u (inr after) = inl after

pub beside_back : (q : Request) (r t : FunctionPart) → are_beside q r t ≡ true → are_beside q t r ≡ true
beside_back q r t is =
    let parts = and_parts (are_siblings q.roots r.function.slot.bus t.function.slot.bus) (are_same_space (part_space r) (part_space t)) is in
    and_from (are_siblings q.roots t.function.slot.bus r.function.slot.bus) (are_same_space (part_space t) (part_space r))
    (siblings_back q.roots r.function.slot.bus t.function.slot.bus parts.0) (space_back (part_space r) (part_space t) parts.1)

module _ (s : System) (system : IsSystem s) where
  -- two parts of one rank are one
  pub one_of_rank : (r t : FunctionPart) → Contains s r.function → Contains s t.function → has_part r.function r.part ≡ true → has_part t.function t.part ≡ true → rank r ≡ rank t → r ≡ t
  one_of_rank r t in_r in_t there_r there_t e =
      let low = register_of-lt r.function r.part there_r in
      let high = register_of-lt t.function t.part there_t in
      let slot : slot_number r.function.slot ≡ slot_number t.function.slot = omega (arith, e, low, high) in
      let one : r.function ≡ t.function = one_function s system r.function t.function in_r in_t slot in
      let same : register_of r.function r.part ≡ register_of t.function t.part = omega (arith, e, slot) in
      let register : register_of r.function r.part ≡ register_of r.function t.part = same ∙ ap (λ f. register_of f t.part) (sym one) in
      let there : has_part r.function t.part ≡ true = ap (λ f. has_part f t.part) one ∙ there_t in
      let part : r.part ≡ t.part = one_part r.function r.part t.part (is_part_of r.function r.part there_r) (is_part_of r.function t.part there) register in
      λ i. record { function = one i; part = part i }

module _ (q : Request) (s : System) (k : Kept) (w : FunctionPart) (v : Range) where
  wish_now : (r : FunctionPart) → rank r ≡ rank w → (with_window w v k).wished r ≡ Some v
  wish_now r same = ap (λ t. cond t (Some v) (k.wished r)) (eq-eqb (rank r) (rank w) same)

  wish_before : (r : FunctionPart) → (rank r ≡ rank w → ⊥) → (with_window w v k).wished r ≡ k.wished r
  wish_before r differ = ap (λ t. cond t (Some v) (k.wished r)) (false_from_ne_true (rank r == rank w) (λ same. differ (eqb-true (rank r) (rank w) same)))

  -- the window has those addresses, and each other part has what it had
  pub range_with : range_then q s (with_window w v k) w ≡ Some v
  range_with = ap (λ o. option_or o (place_then q s (with_window w v k) w)) (wish_now w refl)

  pub range_without : (r : FunctionPart) → (rank r ≡ rank w → ⊥) → range_then q s (with_window w v k) r ≡ range_then q s k r
  range_without r differ = (let wish = wish_before r differ in let place = place_same q s k (with_window w v k).wished r in λ i. option_or (wish i) (place i))

abbrev pub kind_or : WindowKind → Part → WindowKind
kind_or other (Window c) = c
kind_or other p = other

module _ (q : Request) (s : System) (k : Kept) (can : CanSettle q s k) (c : WindowKind) (b : Function) (listed : Contains s b) (bridge : is_bridge b ≡ true) (v : Range)
    (fits : IsWishedWindow q s k c b v) (more : (t : Range) → range_then q s k (window_part c b) ≡ Some t → IsInside t v) where
  abbrev w : FunctionPart
  w = window_part c b

  abbrev j : Kept
  j = with_window w v k

  now : (r : FunctionPart) → rank r ≡ rank w → j.wished r ≡ Some v
  now = wish_now q s k w v

  as_before : (r : FunctionPart) → (rank r ≡ rank w → ⊥) → j.wished r ≡ k.wished r
  as_before = wish_before q s k w v

  range_now : range_then q s j w ≡ Some v
  range_now = range_with q s k w v

  range_as_before : (r : FunctionPart) → (rank r ≡ rank w → ⊥) → range_then q s j r ≡ range_then q s k r
  range_as_before = range_without q s k w v

  -- the window over it is another one
  other_over : (d : Function) (e : WindowKind) → LeadsTo s d b.slot.bus → rank (window_part e d) ≡ rank w → ⊥
  other_over d e leads same =
      let one = one_of_rank s can.system (window_part e d) w leads.0 listed leads.1 bridge same in
      let bus : d.slot.bus ≡ b.slot.bus = ap (λ (r : FunctionPart). r.function.slot.bus) one in
      let up = order_of q.roots s can.nested d leads.0 leads.1 in
      let to = leads.2 in
      let no : ⊥ = omega (arith, bus, up, to) in
      no

  own : IsWishedWindow q s j c b v
  own = record {
    there = fits.there;
    unfixed = fits.unfixed;
    forward = fits.forward;
    first = fits.first;
    last = fits.last;
    low = fits.low;
    holds = λ t placed. fits.holds t (sym (place_same q s k j.wished w) ∙ placed);
    outward = λ t placed. fits.outward t (sym (place_same q s k j.wished w) ∙ placed);
    apart = λ r t in_r there beside differ ends. fits.apart r t in_r there beside differ (sym (range_as_before r differ) ∙ ends);
    off = λ x told can_be forward off. fits.off x told can_be forward (λ t placed. off t (place_same q s k j.wished w ∙ placed));
    lists = fits.lists;
    over = λ d leads. (let is = fits.over d leads in (is.0, range_as_before (window_part c d) (other_over d c leads) ∙ is.1, is.2));
  }

  module _ (e : WindowKind) (d : Function) (in_d : Contains s d) (is_d : is_bridge d ≡ true) (x : Range) (differ : rank (window_part e d) ≡ rank w → ⊥) (wished : k.wished (window_part e d) ≡ Some x) where
    is : IsWishedWindow q s k e d x
    is = can.sound.wished.windows e d x in_d is_d wished

    still_apart : (r : FunctionPart) (t : Range) → Contains s r.function → has_part r.function r.part ≡ true → are_beside q (window_part e d) r ≡ true → (rank r ≡ rank (window_part e d) → ⊥) → range_then q s j r ≡ Some t → LieApart x t
    still_apart r t in_r there beside other ends = elim (cases_eq (rank r) (rank w)) [
      | inr off ↦ is.apart r t in_r there beside other (sym (range_as_before r off) ∙ ends)
      | inl same ↦
          let one : r ≡ w = one_of_rank s can.system r w in_r listed there bridge same in
          let ends_v : Some v ≡ Some t = sym range_now ∙ ap (range_then q s j) (sym one) ∙ ends in
          let at : v ≡ t = cc in
          let near : are_beside q w (window_part e d) ≡ true = beside_back q (window_part e d) w (ap (are_beside q (window_part e d)) (sym one) ∙ beside) in
          let apart = fits.apart (window_part e d) x in_d is_d near differ (ap (λ o. option_or o (place_then q s k (window_part e d))) wished) in
          subst (LieApart x) at (other_way v x apart)
    ]

    still_over : (f : Function) → LeadsTo s f d.slot.bus → (u : Range) × (range_then q s j (window_part e f) ≡ Some u) × IsInside x u
    still_over f leads =
        let o = is.over f leads in
        elim (cases_eq (rank (window_part e f)) (rank w)) [
          | inr off ↦ (o.0, range_as_before (window_part e f) off ∙ o.1, o.2)
          | inl same ↦
              let one : window_part e f ≡ w = one_of_rank s can.system (window_part e f) w leads.0 listed leads.1 bridge same in
              (v, ap (range_then q s j) one ∙ range_now, within x o.0 v o.2 (more o.0 (ap (range_then q s k) (sym one) ∙ o.1)))
        ]

    still : IsWishedWindow q s j e d x
    still = record {
      there = is.there;
      unfixed = is.unfixed;
      forward = is.forward;
      first = is.first;
      last = is.last;
      low = is.low;
      holds = λ t placed. is.holds t (sym (place_same q s k j.wished (window_part e d)) ∙ placed);
      outward = λ t placed. is.outward t (sym (place_same q s k j.wished (window_part e d)) ∙ placed);
      apart = still_apart;
      off = λ x told can_be forward off. is.off x told can_be forward (λ t placed. off t (place_same q s k j.wished (window_part e d) ∙ placed));
      lists = is.lists;
      over = still_over;
    }

  each : (e : WindowKind) (d : Function) (x : Range) → Contains s d → is_bridge d ≡ true → j.wished (window_part e d) ≡ Some x → IsWishedWindow q s j e d x
  each e d x in_d is_d wished = elim (cases_eq (rank (window_part e d)) (rank w)) [
    | inr off ↦ still e d in_d is_d x off (sym (as_before (window_part e d) off) ∙ wished)
    | inl same ↦
        let one : window_part e d ≡ w = one_of_rank s can.system (window_part e d) w in_d listed is_d bridge same in
        let class : e ≡ c = ap (λ (r : FunctionPart). kind_or c r.part) one in
        let function : d ≡ b = ap (λ (r : FunctionPart). r.function) one in
        let at : Some v ≡ Some x = sym (now (window_part e d) same) ∙ wished in
        let range : v ≡ x = cc in
        subst (IsWishedWindow q s j e d) range (subst (λ f. IsWishedWindow q s j e f v) (sym function) (subst (λ a. IsWishedWindow q s j a b v) (sym class) own))
  ]

  plain : (r : FunctionPart) → Contains s r.function → has_part r.function r.part ≡ true → is_window r.part ≡ false → j.wished r ≡ None
  plain r in_r there off = elim (cases_eq (rank r) (rank w)) [
    | inr differ ↦ as_before r differ ∙ can.sound.wished.plain r in_r there off
    | inl same ↦ (let one : r ≡ w = one_of_rank s can.system r w in_r listed there bridge same in absurd (both_ways (is_window r.part) off (ap (λ (t : FunctionPart). is_window t.part) one)))
  ]

  -- so all can be settled
  pub can_added : CanSettle q s j
  can_added = can_same q s k j.wished can record { windows = each; plain = plain }
