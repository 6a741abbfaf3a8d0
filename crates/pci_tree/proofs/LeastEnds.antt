-- The table of the least subordinate buses.
use Rattle.std.proofs.Common.{◌≡◌, ℕ, ◌+◌, ◌<◌, ◌≤◌, List, [], ◌∷◌, ◌++◌, length, get_or, set, take, replicate, sym, ap, ◌∙◌, subst, inl, inr, ◌⊎◌, arith, refl, Option, Some, None, min, false}
use Rattle.std.specs.Option.{is_some}
use Rattle.std.specs.List.{Contains}
use Rattle.pci_spec.specs.Slot.{Slot}
use Rattle.std.proofs.lemmas.Bool.{cases_eq, cases_lt}
use Rattle.std.proofs.lemmas.List.{get_or-replicate, get_or-set_same, get_or-set_other, take_more}
use Rattle.std.proofs.lemmas.List.Elements.{Contains-push, Contains-push_cases, Contains-append_left}
use Rattle.pci_spec.proofs.Members.{in_nil}
use Rattle.pci_function.specs.declared.record.Bridge.{Bridge}
use Rattle.pci_function.specs.declared.record.Record.{Record}
use Rattle.pci_tree.specs.BusNumbers.{IsBridgeWith, IsLeastOf, IsLeastEnd, AreLeastEnds, IsInsideParents, IsLedTo, EndsWithin, least_of}

some_same : {X : Type 0} (x y : X) → Some x ≡ Some y → x ≡ y
some_same x y e = cc

pub ends_none : AreLeastEnds [] (replicate 256 None)
ends_none bus small = subst (λ o. IsLeastEnd [] bus o) (sym (get_or-replicate 256 bus None None small)) (λ c d bridge there. absurd (in_nil c bridge.has))

-- a bridge of a longer list is one of the shorter list, or the new one
bridge_cases : (xs : List Record) (r x : Record) (y : Bridge) → IsBridgeWith (xs ++ r ∷ []) x y → IsBridgeWith xs x y ⊎ ((r ≡ x) × (r.bridge ≡ Some y))
bridge_cases xs r x y bridge = elim (Contains-push_cases xs r x bridge.has) [
  | inl before ↦ inl (record { has = before; is = bridge.is })
  | inr here ↦ inr (here, ap (λ (z : Record). z.bridge) here ∙ bridge.is)
]

-- a record that isn't of a bridge to the bus changes nothing for it
other_end : (xs : List Record) (r : Record) (bus : ℕ) (o : Option ℕ) → ((y : Bridge) → r.bridge ≡ Some y → y.secondary ≡ bus → ⊥) → IsLeastEnd xs bus o → IsLeastEnd (xs ++ r ∷ []) bus o
other_end xs r bus None off was = λ x y bridge there. elim (bridge_cases xs r x y bridge) [
  | inl before ↦ was x y before there
  | inr here ↦ off y here.1 there
]
other_end xs r bus (Some m) off was = record {
  c = was.c;
  d = was.d;
  bridge = record { has = Contains-append_left xs (r ∷ []) was.c was.bridge.has; is = was.bridge.is };
  there = was.there;
  end = was.end;
  least = λ x y bridge there. elim (bridge_cases xs r x y bridge) [
    | inl before ↦ was.least x y before there
    | inr here ↦ absurd (off y here.1 there)
  ];
}

-- one more bridge to the bus
this_end : (xs : List Record) (r : Record) (b : Bridge) (bus : ℕ) (o : Option ℕ) → r.bridge ≡ Some b → b.secondary ≡ bus → IsLeastEnd xs bus o
    → IsLeastOf (xs ++ r ∷ []) bus (least_of o b.subordinate)
this_end xs r b bus None is there was = record {
  c = r;
  d = b;
  bridge = record { has = Contains-push xs r; is = is };
  there = there;
  end = refl;
  least = λ x y bridge at. elim (bridge_cases xs r x y bridge) [
    | inl before ↦ absurd (was x y before at)
    | inr here ↦ (let e : b.subordinate ≡ y.subordinate = ap (λ (z : Bridge). z.subordinate) (some_same b y (sym is ∙ here.1)) in omega arith)
  ];
}
this_end xs r b bus (Some m) is there was =
    let least : (x : Record) (y : Bridge) → IsBridgeWith (xs ++ r ∷ []) x y → y.secondary ≡ bus → min m b.subordinate ≤ y.subordinate =
    λ x y bridge at. elim (bridge_cases xs r x y bridge) [
      | inl before ↦ (let le : m ≤ y.subordinate = was.least x y before at in omega arith)
      | inr here ↦ (let e : b.subordinate ≡ y.subordinate = ap (λ (z : Bridge). z.subordinate) (some_same b y (sym is ∙ here.1)) in omega arith)
    ] in
    elim (cases_lt b.subordinate m) [
      | inl less ↦ record { c = r; d = b; bridge = record { has = Contains-push xs r; is = is }; there = there; end = omega arith; least = least }
      | inr le ↦ record {
        c = was.c;
        d = was.d;
        bridge = record { has = Contains-append_left xs (r ∷ []) was.c was.bridge.has; is = was.bridge.is };
        there = was.there;
        end = (let e : was.d.subordinate ≡ m = was.end in omega arith);
        least = least;
      }
    ]

ends_push : (xs : List Record) (r : Record) (b : Bridge) (table : List (Option ℕ)) → r.bridge ≡ Some b → length table ≡ 256 → AreLeastEnds xs table
    → AreLeastEnds (xs ++ r ∷ []) (set table b.secondary (Some (least_of (get_or table b.secondary None) b.subordinate)))
ends_push xs r b table is size was bus small =
    let new : Option ℕ = Some (least_of (get_or table b.secondary None) b.subordinate) in
    elim (cases_eq bus b.secondary) [
      | inl e ↦ (let at : get_or (set table b.secondary new) bus None ≡ new = ap (λ n. get_or (set table b.secondary new) n None) e ∙ get_or-set_same table b.secondary new None (omega arith) in
          subst (λ o. IsLeastEnd (xs ++ r ∷ []) bus o) (sym at)
          (subst (λ n. IsLeastOf (xs ++ r ∷ []) n (least_of (get_or table b.secondary None) b.subordinate)) (sym e)
          (this_end xs r b b.secondary (get_or table b.secondary None) is refl (was b.secondary (omega arith)))))
      | inr ne ↦ (let at : get_or (set table b.secondary new) bus None ≡ get_or table bus None = get_or-set_other table b.secondary bus new None ne in
          subst (λ o. IsLeastEnd (xs ++ r ∷ []) bus o) (sym at)
          (other_end xs r bus (get_or table bus None) (λ y some there. ne (sym there ∙ ap (λ (z : Bridge). z.secondary) (some_same y b (sym some ∙ is)))) (was bus small)))
    ]

-- one more record
pub ends_more : (xs : List Record) (i : ℕ) (r : Record) (b : Bridge) (table : List (Option ℕ)) → i < length xs → r ≡ get_or xs i r → r.bridge ≡ Some b → length table ≡ 256
    → AreLeastEnds (take i xs) table → AreLeastEnds (take (i + 1) xs) (set table b.secondary (Some (least_of (get_or table b.secondary None) b.subordinate)))
ends_more xs i r b table within at is size was =
    subst (λ ys. AreLeastEnds ys (set table b.secondary (Some (least_of (get_or table b.secondary None) b.subordinate)))) (sym (take_more xs i r within))
    (subst (λ z. AreLeastEnds (take i xs ++ z ∷ []) (set table b.secondary (Some (least_of (get_or table b.secondary None) b.subordinate)))) at (ends_push (take i xs) r b table is size was))

pub ends_same : (xs : List Record) (i : ℕ) (r : Record) (table : List (Option ℕ)) → i < length xs → r ≡ get_or xs i r → r.bridge ≡ None → AreLeastEnds (take i xs) table
    → AreLeastEnds (take (i + 1) xs) table
ends_same xs i r table within at none was = subst (λ ys. AreLeastEnds ys table) (sym (take_more xs i r within))
    (subst (λ z. AreLeastEnds (take i xs ++ z ∷ []) table) at
    (λ bus small. other_end (take i xs) r bus (get_or table bus None) (λ y some there. (let never : None ≡ Some y = sym none ∙ some in cc)) (was bus small)))

-- a range ends within those of the parents of its bus where it ends within the least
pub inside_from : (roots : List ℕ) (records : List Record) (slot : Slot) (b : Bridge) (o : Option ℕ) → IsLeastEnd records slot.bus o → EndsWithin o b.subordinate
    → IsInsideParents roots records slot b
inside_from roots records slot b None none within off c d bridge there = absurd (none c d bridge there)
inside_from roots records slot b (Some m) least within off c d bridge there = let le : m ≤ d.subordinate = least.least c d bridge there in omega arith

pub inside_to : (roots : List ℕ) (records : List Record) (slot : Slot) (b : Bridge) (o : Option ℕ) → IsLeastEnd records slot.bus o → (Contains roots slot.bus → ⊥)
    → IsInsideParents roots records slot b → EndsWithin o b.subordinate
inside_to roots records slot b None least off inside = tt {0}
inside_to roots records slot b (Some m) least off inside =
    let le : b.subordinate ≤ least.d.subordinate = inside off least.c least.d least.bridge least.there in
    let e : least.d.subordinate ≡ m = least.end in omega arith

-- a bus without such a number is led to by no bridge
pub not_led : (roots : List ℕ) (records : List Record) (bus : ℕ) (o : Option ℕ) → IsLeastEnd records bus o → is_some o ≡ false → (Contains roots bus → ⊥) → IsLedTo roots records bus → ⊥
not_led roots records bus None least none off led = elim led [ inl root ↦ off root | inr leader ↦ least leader.c leader.d leader.bridge leader.there ]
not_led roots records bus (Some m) least none off led = cc
