-- The nodes of a bus that a walk finds, from the first place on.
use Rattle.std.proofs.Common.{◌≡◌, ◌≢◌, ℕ, ◌+◌, ◌*◌, ◌<◌, ◌≤◌, ◌⊎◌, inl, inr, Bool, true, false, ◌&&◌, not, arith, refl, sym, ◌∙◌, ap, subst, List}
use Rattle.std.specs.Bool.{nat_lt, ◌==◌}
use Rattle.std.proofs.lemmas.Bool.{and_parts, and_from, or_cases, both_ways, eqb-true, eqb-false, eq-eqb, ne_eqb, ltb-true, cases_eq, false_from_ne_true, not-true}
use Rattle.std.proofs.Math.Bool.{or-false}
use Rattle.pci_spec.specs.Number.{byte_at, has_bit}
use Rattle.pci_spec.specs.Header.{vendor_id}
use Rattle.pci_spec.proofs.BusRanges.{second_side}
use Rattle.pci_number.specs.Board.{Nodes, NoMore, Node}
use Rattle.pci_number.specs.Walk.{has_more, is_found, slot_comes_before, all_after, is_rising, is_all_found, is_walkable}
use Rattle.pci_number.specs.Seen.{AreLastNodes}

before : (device function d f : ℕ) → slot_comes_before device function d f ≡ true → (device < d) ⊎ ((device ≡ d) × (function < f))
before device function d f comes = elim (or_cases (nat_lt device d) (device == d && nat_lt function f) comes) [
  | inl less ↦ inl (ltb-true device d less)
  | inr same ↦ let parts = and_parts (device == d) (nat_lt function f) same in inr (eqb-true device d parts.0, ltb-true function f parts.1)
]

-- function 0 isn't among the nodes after it
none_more : (nodes : Nodes) (device function : ℕ) → all_after device function nodes ≡ true → has_more nodes device ≡ false
none_more NoMore device function after = refl
none_more (Node d f image behind others) device function after =
    let parts = and_parts (slot_comes_before device function d f) (all_after device function others) after in
    let apart : (d == device && f == 0 && has_bit (byte_at image 14) 7) ≡ false = false_from_ne_true _ (λ meets.
    let outer = and_parts (d == device && f == 0) (has_bit (byte_at image 14) 7) meets in
    let met = and_parts (d == device) (f == 0) outer.0 in
    let same : d ≡ device = eqb-true d device met.0 in
    let zero : f ≡ 0 = eqb-true f 0 met.1 in
    elim (before device function d f parts.0) [ inl less ↦ omega (arith, less, same) | inr later ↦ omega (arith, later.1, zero) ]) in
    rw (apart, none_more others device function parts.1) refl

-- whether a device has more functions, by a node on its bus and those that follow it
of_first : (d f : ℕ) (image : List ℕ) (behind others : Nodes) → f ≡ 0 → all_after d f others ≡ true → has_more (Node d f image behind others) d ≡ has_bit (byte_at image 14) 7
of_first d f image behind others zero after =
    let same : (d == d) ≡ true = eq-eqb d d refl in
    let first : (f == 0) ≡ true = eq-eqb f 0 zero in
    rw (same, first, none_more others d f after) (or-false (has_bit (byte_at image 14) 7))

of_later : (d f : ℕ) (image : List ℕ) (behind others : Nodes) → f ≢ 0 → all_after d f others ≡ true → has_more (Node d f image behind others) d ≡ false
of_later d f image behind others some after =
    let same : (d == d) ≡ true = eq-eqb d d refl in
    let first : (f == 0) ≡ false = ne_eqb f 0 some in
    rw (same, first, none_more others d f after) refl

of_another : (d f device : ℕ) (image : List ℕ) (behind others : Nodes) → d ≢ device → has_more (Node d f image behind others) device ≡ has_more others device
of_another d f device image behind others apart = let other : (d == device) ≡ false = ne_eqb d device apart in rw other refl

record Parts (all : Nodes) (d f : ℕ) (image : List ℕ) (behind others : Nodes) : Type 0 where
  device : d < 32
  function : f < 8
  vendor : vendor_id image ≢ 0xffff
  found : is_found all d f ≡ true
  inside : is_walkable behind ≡ true
  after : all_after d f others ≡ true
  rising : is_rising others ≡ true
  others_found : is_all_found all others ≡ true

parts_of : (all : Nodes) (d f : ℕ) (image : List ℕ) (behind others : Nodes) → is_rising (Node d f image behind others) ≡ true → is_all_found all (Node d f image behind others) ≡ true → Parts all d f image behind others
parts_of all d f image behind others rising found =
    let r = and_parts (all_after d f others && is_rising behind) (is_rising others) rising in
    let q = and_parts (all_after d f others) (is_rising behind) r.0 in
    let a = and_parts (nat_lt d 32 && nat_lt f 8 && not (vendor_id image == 0xffff) && is_found all d f && is_all_found behind behind) (is_all_found all others) found in
    let b = and_parts (nat_lt d 32 && nat_lt f 8 && not (vendor_id image == 0xffff) && is_found all d f) (is_all_found behind behind) a.0 in
    let e = and_parts (nat_lt d 32 && nat_lt f 8 && not (vendor_id image == 0xffff)) (is_found all d f) b.0 in
    let h = and_parts (nat_lt d 32 && nat_lt f 8) (not (vendor_id image == 0xffff)) e.0 in
    let k = and_parts (nat_lt d 32) (nat_lt f 8) h.0 in
    record {
      device = ltb-true d 32 k.0;
      function = ltb-true f 8 k.1;
      vendor = eqb-false (vendor_id image) 0xffff (not-true (vendor_id image == 0xffff) h.1);
      found = e.1;
      inside = and_from (is_rising behind) (is_all_found behind behind) q.1 b.1;
      after = q.0;
      rising = r.1;
      others_found = a.1;
    }

reached : (all nodes : Nodes) (device function : ℕ) (more : Bool) → function < 8 → all_after device function nodes ≡ true → is_rising nodes ≡ true → is_all_found all nodes ≡ true → ((d : ℕ) → device < d → has_more all d ≡ has_more nodes d) → has_more all device ≡ more → AreLastNodes (device * 8 + function + 1) device more nodes
reached all NoMore device function more low after rising found same own = tt
reached all (Node d f image behind others) device function more low after rising found same own =
    let p = parts_of all d f image behind others rising found in
    let comes = before device function d f (and_parts (slot_comes_before device function d f) (all_after device function others) after).0 in
    let from : device * 8 + function + 1 ≤ d * 8 + f = elim comes [ inl less ↦ omega (arith, less, low) | inr later ↦ omega (arith, later.0, later.1) ] in
    elim (cases_eq f 0) [
      | inl zero ↦
          let beyond : device < d = elim comes [ inl less ↦ less | inr later ↦ absurd (omega (arith, later.1, zero)) ] in
          let test : (f == 0) ≡ true = eq-eqb f 0 zero in
          let more_here : has_more all d ≡ has_bit (byte_at image 14) 7 = same d beyond ∙ of_first d f image behind others zero p.after in
          let rest = reached all others d f (has_bit (byte_at image 14) 7) p.function p.after p.rising p.others_found
          (λ x above. same x (omega (arith, above, beyond)) ∙ of_another d f x image behind others (λ is. omega (arith, is, above))) more_here in
          (from, p.function, p.vendor, (λ some. absurd (some zero)), p.inside, p.after, p.device, rw test rest)
      | inr some ↦
          let test : (f == 0) ≡ false = ne_eqb f 0 some in
          let has : has_more all d ≡ true = second_side (f == 0) (has_more all d) p.found test in
          let here : d ≡ device = elim comes [
            | inl less ↦ absurd (both_ways (has_more all d) (same d less ∙ of_later d f image behind others some p.after) has)
            | inr later ↦ sym later.0
          ] in
          let more_are : more ≡ true = sym own ∙ ap (has_more all) (sym here) ∙ has in
          let rest = reached all others device f more p.function (subst (λ x. all_after x f others ≡ true) here p.after) p.rising p.others_found
          (λ x above. same x above ∙ of_another d f x image behind others (λ is. omega (arith, is, above, here))) own in
          (from, p.function, p.vendor, (λ n. (here, more_are)), p.inside, p.after, p.device, rw test (subst (λ x. AreLastNodes (x * 8 + f + 1) device more others) (sym here) rest))
    ]

-- all of a bus
pub rest_of : (nodes : Nodes) → is_walkable nodes ≡ true → AreLastNodes 0 0 false nodes
rest_of NoMore walkable = tt
rest_of (Node d f image behind others) walkable =
    let all = Node d f image behind others in
    let w = and_parts (is_rising all) (is_all_found all all) walkable in
    let p = parts_of all d f image behind others w.0 w.1 in
    elim (cases_eq f 0) [
      | inl zero ↦
          let test : (f == 0) ≡ true = eq-eqb f 0 zero in
          let rest = reached all others d f (has_bit (byte_at image 14) 7) p.function p.after p.rising p.others_found
          (λ x above. of_another d f x image behind others (λ is. omega (arith, is, above))) (of_first d f image behind others zero p.after) in
          (omega arith, p.function, p.vendor, (λ some. absurd (some zero)), p.inside, p.after, p.device, rw test rest)
      | inr some ↦
          let test : (f == 0) ≡ false = ne_eqb f 0 some in
          let has : has_more all d ≡ true = second_side (f == 0) (has_more all d) p.found test in
          absurd (both_ways (has_more all d) (of_later d f image behind others some p.after) has)
    ]
