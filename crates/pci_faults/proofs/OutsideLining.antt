-- The faults 63 of all regions that have to be sent, as a list of all has them.
use Rattle.std.proofs.Common.{rules, ◌≡◌, ℕ, ◌+◌, ◌<◌, List, [], ◌∷◌, ◌++◌, length, get_or, map, take, refl, sym, ◌∙◌, ap, subst, arith}
use Rattle.std.specs.Bool.{IsTrue}
use Rattle.std.specs.List.{AllPairs, Contains}
use Rattle.std.proofs.lemmas.List.Elements.{Contains-get_or}
use Rattle.pci_spec.specs.Slot.{Slot, IsSlot}
use Rattle.pci_spec.specs.System.{System, Space}
use Rattle.pci_spec.specs.Fault as plain
use Rattle.pci_spec.specs.Order.{precedes, slot_key}
use Rattle.pci_spec.specs.Fault.{address_in, named_region}
use Rattle.pci_spec.proofs.FirstLines.{same_precedes}
use Rattle.pci_spec.proofs.Members.{in_map_to, in_map_from, pairs_map}
use Rattle.pci_base.specs.Space.{space_of}
use Rattle.pci_tree.specs.Outline.{Tree}
use Rattle.pci_tree.specs.Trees.{HasTree}
use Rattle.judge_spec.specs.Given.{Given}
use Rattle.judge_spec.specs.Fault.{Known, fault_number}
use Rattle.judge_spec.specs.Fault as spec
use Rattle.judge_spec.specs.AllFaults.{judging_key}
use Rattle.judge_spec.specs.ToldClaims.{Told}
use Rattle.judge_spec.specs.ToldAllFaults.{region_number, IsOutsideOf, IsNamed}
use Rattle.judge_spec.specs.ToldNumbered.{AreListedIn, AreAllNumbered}
use Rattle.pci_faults.specs.declared.needed.Needed.{Needed}
use Rattle.pci_faults.specs.declared.named.Outside.{Outside}
use Rattle.pci_faults.specs.Named.{outside_of, AreAllOutside}
use Rattle.pci_faults.specs.Needed.{needed_place, IsNeeded, AreJustNeededRegions, AreAllNeeded}
use Rattle.pci_faults.specs.OutsideLines.{IsNeverOutside, IsOutsideLine, outside_at, IsOutsideOfOne, AreOutsideLines}
use Rattle.pci_claims.proofs.Making.{made_none, made_more, made_less}
use Rattle.pci_faults.proofs.Sending.{outside_from}
use Rattle.pci_faults.proofs.Lining.{region_precedes}

-- ---- one by one

module _ (given : Given) (t : Tree) where
  abbrev place : Outside → ℕ
  place o = region_number o.region.slot o.region.register

  abbrev HasOne : Needed → Type 0
  HasOne n = IsNeverOutside given t n → ⊥

  numbered : (n : Needed) (o : Outside) → IsOutsideOfOne given t n o → place o ≡ needed_place n
  numbered n o (address, line, is) = sym (ap place is)

  pub none_outside : AreOutsideLines given t [] []
  none_outside = made_none (IsOutsideOfOne given t) HasOne needed_place place numbered

  module _ (list : List Needed) (i : ℕ) (n : Needed) (lines : List Outside) (within : i < length list) (at : n ≡ get_or list i n)
      (made : AreOutsideLines given t (take i list) lines) where
    pub one_outside_more : (address : ℕ) → IsOutsideLine given t n address → AreOutsideLines given t (take (i + 1) list) (lines ++ outside_at n address ∷ [])
    one_outside_more address line = made_more (IsOutsideOfOne given t) HasOne needed_place place numbered list i n lines within at made (outside_at n address) (address, line, refl)

    pub no_outside_more : IsNeverOutside given t n → AreOutsideLines given t (take (i + 1) list) lines
    no_outside_more never = made_less (IsOutsideOfOne given t) HasOne needed_place place numbered list i n lines within at made (λ has. has never)

-- ---- all

same_fault : (s t : Slot) (r q : ℕ) (space other : Space) (a : ℕ) → s ≡ t → r ≡ q → space ≡ other → spec.Outside s r space a ≡ spec.Outside t q other a
same_fault s t r q space other a slot register same =
    ap (λ (x : Slot). spec.Outside x r space a) slot ∙ ap (λ n. spec.Outside t n space a) register ∙ ap (λ (x : Space). spec.Outside t q x a) same

not_known : (told : Told) (given : Given) (roots : List ℕ) (s : System) (f : plain.Fault) → IsNamed told given roots s (Known f) → fault_number (Known f) ≡ 63 → ⊥
not_known told given roots s (plain.Unreached slot register space a bridge) line number = let no : ⊥ = omega (arith, number) in no
not_known told given roots s (plain.Clash bus space a f r g q) line number = let no : ⊥ = omega (arith, number) in no
not_known told given roots s (plain.Split space a f r g q) line number = let no : ⊥ = omega (arith, number) in no
not_known told given roots s f line number = absurd (search rules)

module _ (told : Told) (given : Given) (t : Tree) (s : System) (tree : HasTree t s) (listed : AreListedIn told s) (list : List Needed)
    (needed : AreJustNeededRegions (IsNeeded told) (λ n m. needed_place n < needed_place m) s list) (lines : List Outside) (made : AreOutsideLines given t list lines) where
  abbrev IsLineAt : Slot → ℕ → Space → ℕ → Type 0
  IsLineAt slot register space a = IsOutsideOf told given t.roots s (named_region slot register) (address_in space a)

  line_of : (o : Outside) → Contains lines o → IsLineAt o.region.slot o.region.register (space_of o.space) o.address
  line_of o has =
      let (n, in_list, (address, line, is)) = made.each o has in
      subst (λ (x : Outside). IsLineAt x.region.slot x.region.register (space_of x.space) x.address) is (line told s tree listed (needed.each n in_list))

  found_at : (n : Needed) → Contains list n → (address : ℕ) → IsLineAt n.name.slot n.name.register (space_of n.space) address
      → (o : Outside) × Contains lines o × (outside_of o ≡ spec.Outside n.name.slot n.name.register (space_of n.space) address)
  found_at n has address line =
      let one = needed.each n has in
      let (o, in_lines, (a, of, is)) = made.complete n has (λ never. never told s tree listed one (space_of n.space) address line.there) in
      let other : IsLineAt n.name.slot n.name.register (space_of n.space) a = of told s tree listed one in
      let low = other.least (space_of n.space) address line.there in
      let up = line.least (space_of n.space) a other.there in
      let same : a ≡ address = omega (arith, low, up) in
      (o, in_lines, ap outside_of (sym is) ∙ ap (λ k. spec.Outside n.name.slot n.name.register (space_of n.space) k) same)

  found : (slot : Slot) (register : ℕ) (space : Space) (address : ℕ) → IsLineAt slot register space address → (o : Outside) × Contains lines o × (outside_of o ≡ spec.Outside slot register space address)
  found slot register space address line =
      let (p, needs, away) = outside_from told given t.roots s slot register space address line.there in
      let has = needed.complete slot register space address p needs in
      let moved : IsNeeded told s has.n.name.slot has.n.name.register space address p =
      subst (λ k. IsNeeded told s has.n.name.slot k space address p) (sym has.register_is) (subst (λ (x : Slot). IsNeeded told s x register space address p) (sym has.slot_is) needs) in
      let only = (needed.each has.n has.has).only space address p moved in
      let (o, in_lines, is) = found_at has.n has.has address
      (subst (λ (x : Space). IsLineAt has.n.name.slot has.n.name.register x address) only.0
      (subst (λ k. IsLineAt has.n.name.slot k space address) (sym has.register_is) (subst (λ (x : Slot). IsLineAt x register space address) (sym has.slot_is) line))) in
      (o, in_lines, is ∙ same_fault has.n.name.slot slot has.n.name.register register (space_of has.n.space) space address has.slot_is has.register_is (sym only.0))

  complete_of : (f : spec.Fault) → IsNamed told given t.roots s f → fault_number f ≡ 63 → Contains (map outside_of lines) f
  complete_of (spec.Outside slot register space address) named number =
      let (o, has, is) = found slot register space address named in
      subst (λ (x : spec.Fault). Contains (map outside_of lines) x) is (in_map_from outside_of lines o has)
  complete_of (Known f) named number = absurd (not_known told given t.roots s f named number)

  named_at : (o : Outside) → Contains lines o → IsSlot o.region.slot × (o.region.register < 8192)
  named_at o has =
      let (n, in_list, (address, line, is)) = made.each o has in
      let one = needed.each n in_list in
      subst (λ (x : Outside). IsSlot x.region.slot × (x.region.register < 8192)) is (one.slot, one.register)

  rise : AllPairs (λ o p. IsTrue (precedes (judging_key (outside_of o)) (judging_key (outside_of p)))) lines
  rise i j d less within =
      let inside : i < length lines = omega (arith, less, within) in
      let o = get_or lines i d in
      let p = get_or lines j d in
      same_precedes 0 0 (slot_key o.region.slot ++ o.region.register ∷ o.address ∷ []) (slot_key p.region.slot ++ p.region.register ∷ p.address ∷ []) refl
      (region_precedes o.region.slot p.region.slot o.region.register p.region.register (o.address ∷ []) (p.address ∷ [])
      (named_at o (Contains-get_or lines i d inside)) (named_at p (Contains-get_or lines j d within)) (made.rising needed.pairs i j d less within))

  all_numbered : AreAllNumbered 63 told given t.roots s (map outside_of lines)
  all_numbered = record {
    each = λ f has. (let of = in_map_to outside_of lines f has in
        subst (λ (x : spec.Fault). IsNamed told given t.roots s x × (fault_number x ≡ 63)) of.is (line_of of.from of.has, refl));
    complete = complete_of;
    rising = pairs_map (λ f g. IsTrue (precedes (judging_key f) (judging_key g))) outside_of lines rise;
  }

pub all_outside_are : (told : Told) (given : Given) (t : Tree) (list : List Needed) (lines : List Outside) → AreAllNeeded told t list → AreOutsideLines given t list lines → AreAllOutside told given t lines
all_outside_are told given t list lines needed made s tree listed = all_numbered told given t s tree listed list (needed s tree) lines made
