-- The faults 60 of all regions that have to be reached, as a list of all has them.
use Rattle.std.proofs.Common.{rules, ◌≡◌, ℕ, ◌+◌, ◌<◌, inl, inr, Bool, List, [], ◌∷◌, ◌++◌, length, get_or, map, take, refl, sym, ◌∙◌, ap, subst, arith}
use Rattle.std.specs.Bool.{IsTrue}
use Rattle.std.specs.List.{AllPairs, Contains}
use Rattle.std.proofs.lemmas.List.Elements.{Contains-get_or}
use Rattle.pci_spec.specs.Slot.{Slot, slot_number, IsSlot}
use Rattle.pci_spec.specs.System.{System, Space, Io}
use Rattle.pci_spec.specs.Fault as plain
use Rattle.pci_spec.specs.Order.{precedes, slot_key}
use Rattle.pci_spec.specs.Fault.{address_in, named_region}
use Rattle.pci_spec.proofs.FirstLines.{same_precedes}
use Rattle.pci_spec.proofs.Members.{in_map_to, in_map_from, pairs_map}
use Rattle.pci_base.specs.Space.{space_of}
use Rattle.pci_tree.specs.Outline.{Tree}
use Rattle.pci_tree.specs.Trees.{HasTree}
use Rattle.pci_check.specs.Judgement.{AreHome}
use Rattle.pci_check.specs.Stops.{AlwaysNested}
use Rattle.judge_spec.specs.Given.{Given}
use Rattle.judge_spec.specs.Fault.{Known, Outside, fault_number}
use Rattle.judge_spec.specs.Fault as spec
use Rattle.judge_spec.specs.AllFaults.{judging_key}
use Rattle.judge_spec.specs.ToldClaims.{Told}
use Rattle.judge_spec.specs.ToldFault.{IsUnreached}
use Rattle.judge_spec.specs.ToldAllFaults.{region_number, IsUnreachedOf, IsNamed}
use Rattle.judge_spec.specs.ToldNumbered.{AreListedIn, AreAllNumbered}
use Rattle.pci_faults.specs.declared.needed.Needed.{Needed}
use Rattle.pci_faults.specs.declared.named.Unreached.{Unreached}
use Rattle.pci_faults.specs.Named.{unreached_of, AreAllUnreached}
use Rattle.pci_faults.specs.Needed.{needed_place, IsNeeded, IsOneOf, HasName, AreJustNeededRegions, AreAllNeeded, AreToldNeeded}
use Rattle.pci_faults.specs.Stopped.{NeverCut, IsNeverUnreached, IsUnreachedLine}
use Rattle.pci_faults.specs.UnreachedLines.{unreached_at, IsUnreachedOfOne, AreUnreachedLines}
use Rattle.pci_claims.proofs.Making.{made_none, made_more, made_less}
use Rattle.pci_faults.proofs.Lining.{region_precedes}
use Rattle.pci_faults.proofs.Unreaching.{unreached_from}
use Rattle.pci_faults.proofs.Homes.{told_where_home}
use Rattle.pci_faults.proofs.NeededListing.{range_needed}

-- ---- one by one

module _ (given : Given) (t : Tree) where
  abbrev place : Unreached → ℕ
  place f = region_number f.region.slot f.region.register

  abbrev HasOne : Needed → Type 0
  HasOne n = IsNeverUnreached given t n → ⊥

  numbered : (n : Needed) (f : Unreached) → IsUnreachedOfOne given t n f → place f ≡ needed_place n
  numbered n f (address, bridge, line, is) = sym (ap place is)

  pub none_unreached : AreUnreachedLines given t [] []
  none_unreached = made_none (IsUnreachedOfOne given t) HasOne needed_place place numbered

  module _ (list : List Needed) (i : ℕ) (n : Needed) (lines : List Unreached) (within : i < length list) (at : n ≡ get_or list i n)
      (made : AreUnreachedLines given t (take i list) lines) where
    pub one_unreached_more : (address : ℕ) (bridge : Slot) → IsUnreachedLine given t n address bridge
        → AreUnreachedLines given t (take (i + 1) list) (lines ++ unreached_at n address bridge ∷ [])
    one_unreached_more address bridge line =
        made_more (IsUnreachedOfOne given t) HasOne needed_place place numbered list i n lines within at made (unreached_at n address bridge) (address, bridge, line, refl)

    pub no_unreached_more : IsNeverUnreached given t n → AreUnreachedLines given t (take (i + 1) list) lines
    no_unreached_more never = made_less (IsUnreachedOfOne given t) HasOne needed_place place numbered list i n lines within at made (λ has. has never)

-- ---- all

same_fault : (s t : Slot) (r q : ℕ) (space other : Space) (a : ℕ) (b : Slot) → s ≡ t → r ≡ q → space ≡ other → plain.Unreached s r space a b ≡ plain.Unreached t q other a b
same_fault s t r q space other a b slot register same =
    ap (λ (x : Slot). plain.Unreached x r space a b) slot ∙ ap (λ n. plain.Unreached t n space a b) register ∙ ap (λ (x : Space). plain.Unreached t q x a b) same

-- two lines of one region
one_line : (told : Told) (given : Given) (roots : List ℕ) (s : System) (slot : Slot) (register : ℕ) (space : Space) (a e : ℕ) (b c : Slot)
    → IsUnreachedOf told given roots s (named_region slot register) (address_in space a) b → IsUnreachedOf told given roots s (named_region slot register) (address_in space e) c → (a ≡ e) × (b ≡ c)
one_line told given roots s slot register space a e b c one other = elim (one.first space e c other.there) [
  | inl less ↦ elim (other.first space a b one.there) [
    | inl more ↦ absurd (let no : ⊥ = omega (arith, less, more) in no)
    | inr (same, up) ↦ absurd (let number = ap slot_number same in let no : ⊥ = omega (arith, less, number) in no)
  ]
  | inr (same, low) ↦ elim (other.first space a b one.there) [
    | inl more ↦ absurd (let number = ap slot_number same in let no : ⊥ = omega (arith, more, number) in no)
    | inr (back, up) ↦ (omega (arith, low, up), same)
  ]
]

-- the list has each region that isn't reached
record IsEnough (told : Told) (given : Given) (t : Tree) (s : System) (list : List Needed) : Type 0 where
  each : (n : Needed) → Contains list n → IsOneOf (IsNeeded told) s n
  complete : (slot : Slot) (register : ℕ) (space : Space) (a : ℕ) (bridge : Slot) (p : Bool) → IsUnreached told given t.roots s (named_region slot register) (address_in space a) bridge
      → IsNeeded told s slot register space a p → HasName list slot register
  pairs : AllPairs (λ n m. needed_place n < needed_place m) list

module _ (told : Told) (given : Given) (t : Tree) (s : System) (tree : HasTree t s) (listed : AreListedIn told s) (list : List Needed)
    (needed : IsEnough told given t s list) (lines : List Unreached) (made : AreUnreachedLines given t list lines) where
  abbrev IsLineAt : Slot → ℕ → Space → ℕ → Slot → Type 0
  IsLineAt slot register space a bridge = IsUnreachedOf told given t.roots s (named_region slot register) (address_in space a) bridge

  abbrev plain_of : Unreached → plain.Fault
  plain_of f = plain.Unreached f.region.slot f.region.register (space_of f.space) f.address f.bridge

  abbrev key : Unreached → List ℕ
  key f = judging_key (unreached_of f)

  line_of : (f : Unreached) → Contains lines f → IsNamed told given t.roots s (unreached_of f)
  line_of f has =
      let (n, in_list, (address, bridge, line, is)) = made.each f has in
      subst (λ (x : Unreached). IsNamed told given t.roots s (unreached_of x)) is (line told s tree listed (needed.each n in_list))

  found_at : (n : Needed) → Contains list n → (address : ℕ) (bridge : Slot) → IsLineAt n.name.slot n.name.register (space_of n.space) address bridge
      → (f : Unreached) × Contains lines f × (plain_of f ≡ plain.Unreached n.name.slot n.name.register (space_of n.space) address bridge)
  found_at n has address bridge line =
      let one = needed.each n has in
      let (f, in_lines, (a, c, of, is)) = made.complete n has (λ never. never told s tree listed one (space_of n.space) address bridge line.there) in
      let same = one_line told given t.roots s n.name.slot n.name.register (space_of n.space) a address c bridge (of told s tree listed one) line in (
        f,
        in_lines,
        ap plain_of (sym is) ∙ ap (λ k. plain.Unreached n.name.slot n.name.register (space_of n.space) k c) same.0
            ∙ ap (λ (x : Slot). plain.Unreached n.name.slot n.name.register (space_of n.space) address x) same.1,
      )

  found : (slot : Slot) (register : ℕ) (space : Space) (address : ℕ) (bridge : Slot) → IsLineAt slot register space address bridge
      → (f : Unreached) × Contains lines f × (plain_of f ≡ plain.Unreached slot register space address bridge)
  found slot register space address bridge line =
      let (p, needs, stop) = unreached_from told given t.roots s slot register space address bridge line.there in
      let has = needed.complete slot register space address bridge p line.there needs in
      let moved : IsNeeded told s has.n.name.slot has.n.name.register space address p =
      subst (λ k. IsNeeded told s has.n.name.slot k space address p) (sym has.register_is) (subst (λ (x : Slot). IsNeeded told s x register space address p) (sym has.slot_is) needs) in
      let only = (needed.each has.n has.has).only space address p moved in
      let (f, in_lines, is) = found_at has.n has.has address bridge
      (subst (λ (x : Space). IsLineAt has.n.name.slot has.n.name.register x address bridge) only.0
      (subst (λ k. IsLineAt has.n.name.slot k space address bridge) (sym has.register_is) (subst (λ (x : Slot). IsLineAt x register space address bridge) (sym has.slot_is) line))) in
      (f, in_lines, is ∙ same_fault has.n.name.slot slot has.n.name.register register (space_of has.n.space) space address bridge has.slot_is has.register_is (sym only.0))

  listed_as : (f : plain.Fault) → IsNamed told given t.roots s (Known f) → fault_number (Known f) ≡ 60 → (g : Unreached) × Contains lines g × (plain_of g ≡ f)
  listed_as (plain.Unreached slot register space a bridge) line number = found slot register space a bridge line
  listed_as (plain.Clash bus space a f r g q) line number = absurd (let no : ⊥ = omega (arith, number) in no)
  listed_as (plain.Split space a f r g q) line number = absurd (let no : ⊥ = omega (arith, number) in no)
  listed_as f line number = absurd (search rules)

  complete_of : (f : spec.Fault) → IsNamed told given t.roots s f → fault_number f ≡ 60 → Contains (map unreached_of lines) f
  complete_of (Known f) named number =
      let (g, has, is) = listed_as f named number in
      subst (λ (x : plain.Fault). Contains (map unreached_of lines) (Known x)) is (in_map_from unreached_of lines g has)
  complete_of (Outside slot register space a) named number = absurd (let no : ⊥ = omega (arith, number) in no)

  named_at : (f : Unreached) → Contains lines f → IsSlot f.region.slot × (f.region.register < 8192)
  named_at f has =
      let (n, in_list, (address, bridge, line, is)) = made.each f has in
      let one = needed.each n in_list in
      subst (λ (x : Unreached). IsSlot x.region.slot × (x.region.register < 8192)) is (one.slot, one.register)

  two_rise : (f g : Unreached) → Contains lines f → Contains lines g → place given t f < place given t g → IsTrue (precedes (key f) (key g))
  two_rise f g in_f in_g less =
      let ahead = slot_key f.region.slot ++ f.region.register ∷ slot_key f.bridge ++ f.address ∷ [] in
      let behind = slot_key g.region.slot ++ g.region.register ∷ slot_key g.bridge ++ g.address ∷ [] in
      same_precedes 1 1 (0 ∷ ahead) (0 ∷ behind) refl (same_precedes 0 0 ahead behind refl
      (region_precedes f.region.slot g.region.slot f.region.register g.region.register (slot_key f.bridge ++ f.address ∷ []) (slot_key g.bridge ++ g.address ∷ []) (named_at f in_f) (named_at g in_g) less))

  rise : AllPairs (λ f g. IsTrue (precedes (key f) (key g))) lines
  rise i j d less within =
      two_rise (get_or lines i d) (get_or lines j d) (Contains-get_or lines i d (omega (arith, less, within))) (Contains-get_or lines j d within) (made.rising needed.pairs i j d less within)

  all_numbered : AreAllNumbered 60 told given t.roots s (map unreached_of lines)
  all_numbered = record {
    each = λ f has. (let of = in_map_to unreached_of lines f has in
        subst (λ (x : spec.Fault). IsNamed told given t.roots s x × (fault_number x ≡ 60)) of.is (line_of of.from of.has, refl));
    complete = complete_of;
    rising = pairs_map (λ f g. IsTrue (precedes (judging_key f) (judging_key g))) unreached_of lines rise;
  }

all_enough : (told : Told) (given : Given) (t : Tree) (s : System) (list : List Needed) → AreJustNeededRegions (IsNeeded told) (λ n m. needed_place n < needed_place m) s list → IsEnough told given t s list
all_enough told given t s list needed = record {
  each = needed.each;
  complete = λ slot register space a bridge p line needs. needed.complete slot register space a p needs;
  pairs = needed.pairs;
}

pub all_unreached_are : (told : Told) (given : Given) (t : Tree) (list : List Needed) (lines : List Unreached) → AreAllNeeded told t list → AreUnreachedLines given t list lines → AreAllUnreached told given t lines
all_unreached_are told given t list lines needed made s tree listed = all_numbered told given t s tree listed list (all_enough told given t s list (needed s tree)) lines made

-- where windows pass all of each BAR and ROM told ranges are enough
pub told_unreached_are : (told : Told) (given : Given) (t : Tree) (list : List Needed) (lines : List Unreached) → AlwaysNested t → AreHome t → NeverCut given Io
    → AreToldNeeded told t list → AreUnreachedLines given t list lines → AreAllUnreached told given t lines
told_unreached_are told given t list lines nested home uncut needed made s tree listed = all_numbered told given t s tree listed list (record {
  each = λ n has. range_needed told s tree.system n ((needed s tree).each n has);
  complete = λ slot register space a bridge p line needs. (let (q, range) = told_where_home told given t nested home uncut s tree slot register space a bridge line in (needed s tree).complete slot register space a q range);
  pairs = (needed s tree).pairs;
}) lines made
