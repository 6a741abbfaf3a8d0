-- Bus numbers of records and of the functions that they stand for.
use Rattle.std.proofs.Common.{◌≡◌, ℕ, ◌<◌, ◌≤◌, List, Bool, true, not, ◌&&◌, ◌||◌, inl, inr, arith, sym, ◌∙◌, ap, subst, Some, eq-eqb}
use Rattle.std.specs.Prelude.{◌==◌, nat_lt}
use Rattle.std.specs.Option.{is_some}
use Rattle.std.specs.List.{Contains, list_all, list_any}
use Rattle.std.proofs.lemmas.Bool.{and_from, and_parts, or_cases, or_left, or_right, cases_Bool, both_ways, eqb-true, ltb-true, lt-ltb, not_from_false, not_from_true, not-true}
use Rattle.pci_spec.specs.Slot.{Slot, slot_number}
use Rattle.pci_spec.specs.Header.{primary_bus, secondary_bus, subordinate_bus}
use Rattle.pci_spec.specs.System.{System, Function, is_bridge}
use Rattle.pci_spec.specs.Bus.{secondary, subordinate, is_behind, has_no_bus, are_apart, share_no_bus, is_inside, is_root, has_bus_order, are_siblings, is_apart_from_earlier, is_inside_its_parents, has_no_root_behind, has_lawful_buses, is_led_to}
use Rattle.pci_spec.specs.Decoded.{record_of, bridge_of}
use Rattle.pci_spec.specs.Decoded as decoded
use Rattle.pci_spec.proofs.BusRanges.{all_gives, all_from, any_gives, any_from, second_side, bus_order_means, within_of_behind, behind_of_within, IsWithin, inside_from, inside_parts, root_means}
use Rattle.pci_function.specs.declared.record.Bridge.{Bridge}
use Rattle.pci_function.specs.declared.record.Record.{Record}
use Rattle.pci_function.specs.Values.{record_value, bridge_value}
use Rattle.pci_tree.specs.BusNumbers.{IsBridgeWith, HasBusOrder, HasNoBus, AreApart, ShareNoBus, AreSiblings, HasLawfulBuses, IsLedTo}
use Rattle.pci_tree.proofs.Lifting.{Has, StandsFor, record_for, function_for, same_bridge, same_slot_of}
use Rattle.pci_tree.proofs.Regions.{some_is}
use Rattle.pci_tree.proofs.RegionParts.{same_bridge_of}

-- a record shows the slot of a function, whether it is a bridge, and its bus numbers
pub record SameFace (f : Function) (r : Record) : Type 0 where
  pub slot : r.slot ≡ f.slot
  pub bridge : is_some r.bridge ≡ is_bridge f
  pub numbers : (d : Bridge) → r.bridge ≡ Some d → (d.primary ≡ primary_bus f.image) × (d.secondary ≡ secondary_bus f.image) × (d.subordinate ≡ subordinate_bus f.image)

-- the records show the functions of a system
pub record HaveFaces (s : System) (rs : List Record) : Type 0 where
  pub to_record : (f : Function) → Contains s f → (r : Record) × Contains rs r × SameFace f r
  pub to_function : (r : Record) → Contains rs r → (f : Function) × Contains s f × SameFace f r

pub face_of : (r : Record) (f : Function) → record_value r ≡ record_of f → SameFace f r
face_of r f e = record {
  slot = same_slot_of r f e;
  bridge = same_bridge r f e;
  numbers = λ d some. (let b : bridge_value d ≡ bridge_of f.image f.probe = same_bridge_of r f d e some in
      (ap (λ (x : decoded.Bridge). x.primary) b, ap (λ (x : decoded.Bridge). x.secondary) b, ap (λ (x : decoded.Bridge). x.subordinate) b));
}

pub faces_of : (s : System) (rs : List Record) → Has s rs → HaveFaces s rs
faces_of s rs is = record {
  to_record = λ f has. (let r : (r : Record) × StandsFor rs f r = record_for s rs f is has in (r.0, r.1.has, face_of r.0 f r.1.same));
  to_function = λ r has. (let f : (f : Function) × Contains s f × (record_value r ≡ record_of f) = function_for s rs r is has in (f.0, f.1, face_of r f.0 f.2));
}

-- the record of a bridge has its numbers
pub record IsFaceOf (rs : List Record) (f : Function) (r : Record) (d : Bridge) : Type 0 where
  pub bridge : IsBridgeWith rs r d
  pub slot : r.slot ≡ f.slot
  pub primary : d.primary ≡ primary_bus f.image
  pub secondary : d.secondary ≡ secondary_bus f.image
  pub subordinate : d.subordinate ≡ subordinate_bus f.image

pub bridge_face : (s : System) (rs : List Record) (f : Function) → HaveFaces s rs → Contains s f → is_bridge f ≡ true → (r : Record) × (d : Bridge) × IsFaceOf rs f r d
bridge_face s rs f faces has is =
    let r : (r : Record) × Contains rs r × SameFace f r = faces.to_record f has in
    let d : (d : Bridge) × (r.0.bridge ≡ Some d) = some_is r.0.bridge (r.2.bridge ∙ is) in
    let n : (d.0.primary ≡ primary_bus f.image) × (d.0.secondary ≡ secondary_bus f.image) × (d.0.subordinate ≡ subordinate_bus f.image) = r.2.numbers d.0 d.1 in
    (r.0, d.0, record { bridge = record { has = r.1; is = d.1 }; slot = r.2.slot; primary = n.0; secondary = n.1; subordinate = n.2 })

-- a bridge of the system with the face of a record's
pub record IsFunctionOf (s : System) (rs : List Record) (r : Record) (d : Bridge) : Type 0 where
  pub f : Function
  pub has : Contains s f
  pub is : is_bridge f ≡ true
  pub face : IsFaceOf rs f r d

pub face_function : (s : System) (rs : List Record) (r : Record) (d : Bridge) → HaveFaces s rs → IsBridgeWith rs r d → IsFunctionOf s rs r d
face_function s rs r d faces bridge =
    let f : (f : Function) × Contains s f × SameFace f r = faces.to_function r bridge.has in
    let n : (d.primary ≡ primary_bus f.0.image) × (d.secondary ≡ secondary_bus f.0.image) × (d.subordinate ≡ subordinate_bus f.0.image) = f.2.numbers d bridge.is in
    record {
      f = f.0;
      has = f.1;
      is = sym f.2.bridge ∙ ap is_some bridge.is;
      face = record { bridge = bridge; slot = f.2.slot; primary = n.0; secondary = n.1; subordinate = n.2 };
    }

-- ---- from the numbers of records to those of functions

implies_from : (p q : Bool) → (p ≡ true → q ≡ true) → (not p || q) ≡ true
implies_from p q h = elim (cases_Bool p) [
  | inl is ↦ or_right (not p) q (h is)
  | inr off ↦ or_left (not p) q (not_from_false p off)
]

implies_gives : (p q : Bool) → (not p || q) ≡ true → p ≡ true → q ≡ true
implies_gives p q h is = second_side (not p) q h (not_from_true p is)

side_to : (roots : List ℕ) (m n : ℕ) → are_siblings roots m n ≡ true → AreSiblings roots m n
side_to roots m n h = elim (or_cases (m == n) (is_root roots m && is_root roots n) h) [
  | inl same ↦ inl (eqb-true m n same)
  | inr both ↦ (let p : (is_root roots m ≡ true) × (is_root roots n ≡ true) = and_parts (is_root roots m) (is_root roots n) both in inr ((root_means roots m).0 p.0, (root_means roots n).0 p.1))
]

side_from : (roots : List ℕ) (m n : ℕ) → AreSiblings roots m n → are_siblings roots m n ≡ true
side_from roots m n h = elim h [
  | inl same ↦ or_left (m == n) (is_root roots m && is_root roots n) (eq-eqb m n same)
  | inr both ↦ or_right (m == n) (is_root roots m && is_root roots n) (and_from (is_root roots m) (is_root roots n) ((root_means roots m).1 both.0) ((root_means roots n).1 both.1))
]

apart_to : (rs : List Record) (f c : Function) (r x : Record) (b d : Bridge) → IsFaceOf rs f r b → IsFaceOf rs c x d → are_apart f c ≡ true → AreApart b d
apart_to rs f c r x b d face other h =
    let fs : b.secondary ≡ secondary_bus f.image = face.secondary in
    let fe : b.subordinate ≡ subordinate_bus f.image = face.subordinate in
    let cs : d.secondary ≡ secondary_bus c.image = other.secondary in
    let ce : d.subordinate ≡ subordinate_bus c.image = other.subordinate in
    elim (or_cases (nat_lt (subordinate f) (secondary c)) (nat_lt (subordinate c) (secondary f)) h) [
      | inl left ↦ (let lt : subordinate_bus f.image < secondary_bus c.image = ltb-true _ _ left in inl (omega arith))
      | inr right ↦ (let lt : subordinate_bus c.image < secondary_bus f.image = ltb-true _ _ right in inr (omega arith))
    ]

apart_from : (rs : List Record) (f c : Function) (r x : Record) (b d : Bridge) → IsFaceOf rs f r b → IsFaceOf rs c x d → AreApart b d → are_apart f c ≡ true
apart_from rs f c r x b d face other h =
    let fs : b.secondary ≡ secondary_bus f.image = face.secondary in
    let fe : b.subordinate ≡ subordinate_bus f.image = face.subordinate in
    let cs : d.secondary ≡ secondary_bus c.image = other.secondary in
    let ce : d.subordinate ≡ subordinate_bus c.image = other.subordinate in
    elim h [
      | inl left ↦ or_left (nat_lt (subordinate f) (secondary c)) (nat_lt (subordinate c) (secondary f)) (lt-ltb (subordinate f) (secondary c) (omega arith))
      | inr right ↦ or_right (nat_lt (subordinate f) (secondary c)) (nat_lt (subordinate c) (secondary f)) (lt-ltb (subordinate c) (secondary f) (omega arith))
    ]

no_bus_to : (rs : List Record) (f : Function) (r : Record) (b : Bridge) → IsFaceOf rs f r b → has_no_bus f ≡ true → HasNoBus b
no_bus_to rs f r b face h =
    let fs : b.secondary ≡ secondary_bus f.image = face.secondary in
    let fe : b.subordinate ≡ subordinate_bus f.image = face.subordinate in
    let lt : subordinate_bus f.image < secondary_bus f.image = ltb-true _ _ h in omega arith

no_bus_from : (rs : List Record) (f : Function) (r : Record) (b : Bridge) → IsFaceOf rs f r b → HasNoBus b → has_no_bus f ≡ true
no_bus_from rs f r b face h =
    let fs : b.secondary ≡ secondary_bus f.image = face.secondary in
    let fe : b.subordinate ≡ subordinate_bus f.image = face.subordinate in
    lt-ltb (subordinate f) (secondary f) (omega arith)

shares_to : (rs : List Record) (f c : Function) (r x : Record) (b d : Bridge) → IsFaceOf rs f r b → IsFaceOf rs c x d → share_no_bus f c ≡ true → ShareNoBus b d
shares_to rs f c r x b d face other h = elim (or_cases (are_apart f c || has_no_bus f) (has_no_bus c) h) [
  | inl first ↦ elim (or_cases (are_apart f c) (has_no_bus f) first) [
    | inl apart ↦ inl (apart_to rs f c r x b d face other apart)
    | inr none ↦ inr (inl (no_bus_to rs f r b face none))
  ]
  | inr none ↦ inr (inr (no_bus_to rs c x d other none))
]

shares_from : (rs : List Record) (f c : Function) (r x : Record) (b d : Bridge) → IsFaceOf rs f r b → IsFaceOf rs c x d → ShareNoBus b d → share_no_bus f c ≡ true
shares_from rs f c r x b d face other h = elim h [
  | inl apart ↦ or_left (are_apart f c || has_no_bus f) (has_no_bus c) (or_left (are_apart f c) (has_no_bus f) (apart_from rs f c r x b d face other apart))
  | inr (inl none) ↦ or_left (are_apart f c || has_no_bus f) (has_no_bus c) (or_right (are_apart f c) (has_no_bus f) (no_bus_from rs f r b face none))
  | inr (inr none) ↦ or_right (are_apart f c || has_no_bus f) (has_no_bus c) (no_bus_from rs c x d other none)
]

bus_of_face : (rs : List Record) (f : Function) (r : Record) (d : Bridge) → IsFaceOf rs f r d → r.slot.bus ≡ f.slot.bus
bus_of_face rs f r d face = ap (λ (x : Slot). x.bus) face.slot

-- lawful numbers of a record are its function's
pub lawful_function : (roots : List ℕ) (s : System) (rs : List Record) (f : Function) (r : Record) (b : Bridge) → HaveFaces s rs → IsFaceOf rs f r b
    → HasLawfulBuses roots rs r.slot b → has_lawful_buses roots s f ≡ true
lawful_function roots s rs f r b faces face lawful =
    let bus : r.slot.bus ≡ f.slot.bus = bus_of_face rs f r b face in
    let fp : b.primary ≡ primary_bus f.image = face.primary in
    let fs : b.secondary ≡ secondary_bus f.image = face.secondary in
    let fe : b.subordinate ≡ subordinate_bus f.image = face.subordinate in
    let order : HasBusOrder r.slot.bus b = lawful.order in
    let ordered : has_bus_order f ≡ true = (bus_order_means f).1 (omega arith, omega arith, omega arith) in
    let apart : is_apart_from_earlier roots s f ≡ true =
    all_from (λ c. not (is_bridge c && are_siblings roots c.slot.bus f.slot.bus && nat_lt (slot_number c.slot) (slot_number f.slot)) || share_no_bus f c) s
    (λ c in_c. implies_from (is_bridge c && are_siblings roots c.slot.bus f.slot.bus && nat_lt (slot_number c.slot) (slot_number f.slot)) (share_no_bus f c) (λ h. (
    let outer : ((is_bridge c && are_siblings roots c.slot.bus f.slot.bus) ≡ true) × (nat_lt (slot_number c.slot) (slot_number f.slot) ≡ true) =
    and_parts (is_bridge c && are_siblings roots c.slot.bus f.slot.bus) (nat_lt (slot_number c.slot) (slot_number f.slot)) h in
    let inner : (is_bridge c ≡ true) × (are_siblings roots c.slot.bus f.slot.bus ≡ true) = and_parts (is_bridge c) (are_siblings roots c.slot.bus f.slot.bus) outer.0 in
    let x : (x : Record) × (d : Bridge) × IsFaceOf rs c x d = bridge_face s rs c faces in_c inner.0 in
    let side : AreSiblings roots x.0.slot.bus r.slot.bus =
    subst (λ m. AreSiblings roots m r.slot.bus) (sym (bus_of_face rs c x.0 x.1 x.2)) (subst (λ n. AreSiblings roots c.slot.bus n) (sym bus) (side_to roots c.slot.bus f.slot.bus inner.1)) in
    let less : slot_number x.0.slot < slot_number r.slot =
    subst (λ m. slot_number m < slot_number r.slot) (sym x.2.slot) (subst (λ n. slot_number c.slot < slot_number n) (sym face.slot) (ltb-true _ _ outer.1)) in
    shares_from rs f c r x.0 b x.1 face x.2 (lawful.apart x.0 x.1 x.2.bridge side less)))) in
    let inside : is_inside_its_parents roots s f ≡ true = elim (cases_Bool (is_root roots f.slot.bus)) [
      | inl root ↦ or_left (is_root roots f.slot.bus) (list_all (λ c. not (is_bridge c && secondary c == f.slot.bus) || is_inside f c) s) root
      | inr off ↦ or_right (is_root roots f.slot.bus) (list_all (λ c. not (is_bridge c && secondary c == f.slot.bus) || is_inside f c) s)
          (all_from (λ c. not (is_bridge c && secondary c == f.slot.bus) || is_inside f c) s
          (λ c in_c. implies_from (is_bridge c && secondary c == f.slot.bus) (is_inside f c) (λ h. (
          let p : (is_bridge c ≡ true) × ((secondary c == f.slot.bus) ≡ true) = and_parts (is_bridge c) (secondary c == f.slot.bus) h in
          let leads : secondary_bus c.image ≡ f.slot.bus = eqb-true (secondary c) f.slot.bus p.1 in
          let x : (x : Record) × (d : Bridge) × IsFaceOf rs c x d = bridge_face s rs c faces in_c p.0 in
          let xs : x.1.secondary ≡ secondary_bus c.image = x.2.secondary in
          let xe : x.1.subordinate ≡ subordinate_bus c.image = x.2.subordinate in
          let end : b.subordinate ≤ x.1.subordinate =
          lawful.inside (λ root. both_ways _ off ((root_means roots f.slot.bus).1 (subst (Contains roots) bus root))) x.0 x.1 x.2.bridge (omega arith) in
          inside_from f c (omega arith) (omega arith)))))
    ] in
    let clear : has_no_root_behind roots f ≡ true =
    all_from (λ root. not (is_behind f root)) roots (λ root has. elim (cases_Bool (is_behind f root)) [
      | inl behind ↦ absurd (let w : IsWithin f root = within_of_behind f root behind in
          let low : secondary_bus f.image ≤ root = w.low in
          let high : root ≤ subordinate_bus f.image = w.high in lawful.clear root has (omega arith, omega arith))
      | inr outside ↦ not_from_false (is_behind f root) outside
    ]) in
    and_from (has_bus_order f && is_apart_from_earlier roots s f && is_inside_its_parents roots s f) (has_no_root_behind roots f)
    (and_from (has_bus_order f && is_apart_from_earlier roots s f) (is_inside_its_parents roots s f) (and_from (has_bus_order f) (is_apart_from_earlier roots s f) ordered apart) inside) clear

-- and back
pub lawful_record_of : (roots : List ℕ) (s : System) (rs : List Record) (f : Function) (r : Record) (b : Bridge) → HaveFaces s rs → IsFaceOf rs f r b
    → has_lawful_buses roots s f ≡ true → HasLawfulBuses roots rs r.slot b
lawful_record_of roots s rs f r b faces face lawful =
    let bus : r.slot.bus ≡ f.slot.bus = bus_of_face rs f r b face in
    let fp : b.primary ≡ primary_bus f.image = face.primary in
    let fs : b.secondary ≡ secondary_bus f.image = face.secondary in
    let fe : b.subordinate ≡ subordinate_bus f.image = face.subordinate in
    let one : ((has_bus_order f && is_apart_from_earlier roots s f && is_inside_its_parents roots s f) ≡ true) × (has_no_root_behind roots f ≡ true) =
    and_parts (has_bus_order f && is_apart_from_earlier roots s f && is_inside_its_parents roots s f) (has_no_root_behind roots f) lawful in
    let two : ((has_bus_order f && is_apart_from_earlier roots s f) ≡ true) × (is_inside_its_parents roots s f ≡ true) =
    and_parts (has_bus_order f && is_apart_from_earlier roots s f) (is_inside_its_parents roots s f) one.0 in
    let three : (has_bus_order f ≡ true) × (is_apart_from_earlier roots s f ≡ true) = and_parts (has_bus_order f) (is_apart_from_earlier roots s f) two.0 in
    let order : (primary_bus f.image ≡ f.slot.bus) × (f.slot.bus < secondary f) × (secondary f ≤ subordinate f) = (bus_order_means f).0 three.0 in
    let o0 : primary_bus f.image ≡ f.slot.bus = order.0 in
    let o1 : f.slot.bus < secondary_bus f.image = order.1 in
    let o2 : secondary_bus f.image ≤ subordinate_bus f.image = order.2 in
    record {
      order = (omega arith, omega arith, omega arith);
      apart = λ c d bridge side less. (
          let g : IsFunctionOf s rs c d = face_function s rs c d faces bridge in
          let there : are_siblings roots g.f.slot.bus f.slot.bus ≡ true =
          side_from roots g.f.slot.bus f.slot.bus (subst (λ m. AreSiblings roots m f.slot.bus) (bus_of_face rs g.f c d g.face) (subst (λ n. AreSiblings roots c.slot.bus n) bus side)) in
          let lower : nat_lt (slot_number g.f.slot) (slot_number f.slot) ≡ true =
          lt-ltb _ _ (subst (λ m. slot_number m < slot_number f.slot) g.face.slot (subst (λ n. slot_number c.slot < slot_number n) face.slot less)) in
          shares_to rs f g.f r c b d face g.face
          (implies_gives (is_bridge g.f && are_siblings roots g.f.slot.bus f.slot.bus && nat_lt (slot_number g.f.slot) (slot_number f.slot)) (share_no_bus f g.f)
          (all_gives (λ x. not (is_bridge x && are_siblings roots x.slot.bus f.slot.bus && nat_lt (slot_number x.slot) (slot_number f.slot)) || share_no_bus f x) s three.1 g.f g.has)
          (and_from (is_bridge g.f && are_siblings roots g.f.slot.bus f.slot.bus) (nat_lt (slot_number g.f.slot) (slot_number f.slot))
          (and_from (is_bridge g.f) (are_siblings roots g.f.slot.bus f.slot.bus) g.is there) lower)));
      inside = λ off c d bridge leads. (
          let g : IsFunctionOf s rs c d = face_function s rs c d faces bridge in
          let gs : d.secondary ≡ secondary_bus g.f.image = g.face.secondary in
          let ge : d.subordinate ≡ subordinate_bus g.f.image = g.face.subordinate in
          elim (or_cases (is_root roots f.slot.bus) (list_all (λ x. not (is_bridge x && secondary x == f.slot.bus) || is_inside f x) s) two.1) [
            | inl root ↦ absurd (off (subst (Contains roots) (sym bus) ((root_means roots f.slot.bus).0 root)))
            | inr each ↦ (
                let is : is_inside f g.f ≡ true =
                implies_gives (is_bridge g.f && secondary g.f == f.slot.bus) (is_inside f g.f) (all_gives (λ x. not (is_bridge x && secondary x == f.slot.bus) || is_inside f x) s each g.f g.has)
                (and_from (is_bridge g.f) (secondary g.f == f.slot.bus) g.is (eq-eqb (secondary g.f) f.slot.bus (omega arith))) in
                let p : (secondary g.f ≤ secondary f) × (subordinate f ≤ subordinate g.f) = inside_parts f g.f is in
                let le : subordinate_bus f.image ≤ subordinate_bus g.f.image = p.1 in omega arith)
          ]);
      clear = λ root has behind. (
          let out : not (is_behind f root) ≡ true = all_gives (λ x. not (is_behind f x)) roots one.1 root has in
          let low : b.secondary ≤ root = behind.0 in
          let high : root ≤ b.subordinate = behind.1 in
          both_ways (is_behind f root) (not-true (is_behind f root) out) (behind_of_within f root record { low = omega arith; high = omega arith }));
    }

-- ---- buses that are led to

pub led_function : (roots : List ℕ) (s : System) (rs : List Record) (bus : ℕ) → HaveFaces s rs → IsLedTo roots rs bus → is_led_to roots s bus ≡ true
led_function roots s rs bus faces led = elim led [
  | inl root ↦ or_left (is_root roots bus) (list_any (λ c. is_bridge c && secondary c == bus) s) ((root_means roots bus).1 root)
  | inr leader ↦ (
      let g : IsFunctionOf s rs leader.c leader.d = face_function s rs leader.c leader.d faces leader.bridge in
      or_right (is_root roots bus) (list_any (λ c. is_bridge c && secondary c == bus) s)
      (any_from (λ c. is_bridge c && secondary c == bus) s g.f g.has (and_from (is_bridge g.f) (secondary g.f == bus) g.is (eq-eqb (secondary g.f) bus (sym g.face.secondary ∙ leader.there)))))
]

pub led_record : (roots : List ℕ) (s : System) (rs : List Record) (bus : ℕ) → HaveFaces s rs → is_led_to roots s bus ≡ true → IsLedTo roots rs bus
led_record roots s rs bus faces led = elim (or_cases (is_root roots bus) (list_any (λ c. is_bridge c && secondary c == bus) s) led) [
  | inl root ↦ inl ((root_means roots bus).0 root)
  | inr some ↦ (
      let g : (g : Function) × Contains s g × ((is_bridge g && secondary g == bus) ≡ true) = any_gives (λ c. is_bridge c && secondary c == bus) s some in
      let p : (is_bridge g.0 ≡ true) × ((secondary g.0 == bus) ≡ true) = and_parts (is_bridge g.0) (secondary g.0 == bus) g.2 in
      let x : (x : Record) × (d : Bridge) × IsFaceOf rs g.0 x d = bridge_face s rs g.0 faces g.1 p.0 in
      inr (record { c = x.0; d = x.1; bridge = x.2.bridge; there = x.2.secondary ∙ eqb-true (secondary g.0) bus p.1 }))
]
