-- The system of a dump and its probe, block by block.
use Rattle.std.proofs.Common.{◌≡◌, ◌≢◌, ℕ, zero, suc, ◌+◌, ◌<◌, ◌≤◌, List, [], ◌∷◌, ◌++◌, map, length, get_or, take, refl, inl, inr, arith, sym, ◌∙◌, ap, subst, Option, Some, None}
use Rattle.std.specs.Prelude.{IfSome, MatchOption, nat_lt}
use Rattle.std.specs.List.{Contains}
use Rattle.std.proofs.lemmas.Bool.{cases_Bool}
use Rattle.std.proofs.lemmas.List.{get_or-map, length-map, take_all}
use Rattle.std.proofs.lemmas.List.Kept.{AllPairs-from_increasing}
use Rattle.pci_spec.specs.Slot.{Slot, IsRising, slot_number}
use Rattle.pci_spec.specs.Stops.{IsAboveLast}
use Rattle.pci_spec.specs.Text.{Block, IsDump, slots_of}
use Rattle.pci_spec.specs.System.{System, Function, function_of, system_of}
use Rattle.pci_spec.specs.Fault.{Fault, NoVendor, HeaderKind, BarType, BarMask, BarPair, RomMask, WindowMask, CapRange, CapLoop, CapCut, SlotsDiffer, StrayProbe, LoneFunction, OfProfile, BusRange, Orphan, Unreached, Clash, Split, IsIn, IsThere}
use Rattle.pci_spec.proofs.Pairing.{same_length, slots-system_of, IsSystem-of_dumps, there-of_in, in-of_there}
use Rattle.pci_spec.specs.Order.{phase_of, IsFirstThere}
use Rattle.pci_function.specs.Profile.{IsHere}
use Rattle.pci_tree.specs.Survey.{Surveyed, earlier, IsSurveyOf, IsAdded, IsRefusedBy, IsOutlineOf}
use Rattle.pci_base.specs.declared.memory.Refused.{Refused}
use Rattle.pci_base.specs.declared.memory.Refused.TheVariants as refusals
use Rattle.pci_function.specs.declared.fault.Fault.{Fault as FaultOfCode}
use Rattle.pci_function.specs.Fault.{fault_of}
use Rattle.pci_tree.specs.Refusals.{IsRefusalOf, IsPairRefusal}
use Rattle.pci_tree.specs.Admission.{IsAdmitted}
use Rattle.pci_tree.proofs.Surveys.{survey_more}
use Rattle.pci_tree.specs.Outline.{Tree, IsPathTo}
use Rattle.pci_spec.specs.Decoded.{HasRecords, record_of}
use Rattle.pci_spec.specs.Decoded as decoded

-- one block more on each side is one function more
pub system_more : (dump probe : List Block) (i : ℕ) (b p : Block) → i < length dump → i < length probe → b ≡ get_or dump i b → p ≡ get_or probe i p
    → system_of (take (i + 1) dump) (take (i + 1) probe) ≡ system_of (take i dump) (take i probe) ++ function_of b p ∷ []
system_more [] probe i b p wd wp eb ep = absurd (let no : ⊥ = omega (arith, wd) in no)
system_more (d ∷ dump) [] i b p wd wp eb ep = absurd (let no : ⊥ = omega (arith, wp) in no)
system_more (d ∷ dump) (q ∷ probe) zero b p wd wp eb ep = λ i. function_of (sym eb i) (sym ep i) ∷ []
system_more (d ∷ dump) (q ∷ probe) (suc i) b p wd wp eb ep =
    let e : suc i + 1 ≡ suc (i + 1) = omega arith in
    subst (λ n. system_of (take n (d ∷ dump)) (take n (q ∷ probe)) ≡ function_of d q ∷ (system_of (take i dump) (take i probe) ++ function_of b p ∷ [])) (sym e)
    (ap (λ s. function_of d q ∷ s) (system_more dump probe i b p (omega (arith, wd)) (omega (arith, wp)) eb ep))

-- a later slot of a list that rises is above an earlier one
pub later_is_above : (ss : List Slot) (i k : ℕ) (d : Slot) → IsRising ss → i < k → k < length ss → slot_number (get_or ss i d) < slot_number (get_or ss k d)
later_is_above ss i k d rising lt within =
    let long = length-map ss slot_number in
    let less = AllPairs-from_increasing (map slot_number ss) rising i k 0 lt (omega (arith, long, within)) in
    let at_i = get_or-map slot_number ss i d 0 (omega (arith, lt, within)) in
    let at_k = get_or-map slot_number ss k d 0 within in
    omega (arith, less, at_i, at_k)

-- ---- no 30 is noted

here_is_of_a_function : (f : Function) (e : Fault) → IsHere f e → phase_of e ≢ 0
here_is_of_a_function f (NoVendor slot) is z = omega (arith, z)
here_is_of_a_function f (HeaderKind slot) is z = omega (arith, z)
here_is_of_a_function f (BarType slot register) is z = omega (arith, z)
here_is_of_a_function f (BarMask slot register) is z = omega (arith, z)
here_is_of_a_function f (BarPair slot register) is z = omega (arith, z)
here_is_of_a_function f (RomMask slot register) is z = omega (arith, z)
here_is_of_a_function f (WindowMask slot register) is z = omega (arith, z)
here_is_of_a_function f (CapRange slot place) is z = omega (arith, z)
here_is_of_a_function f (CapLoop slot place) is z = omega (arith, z)
here_is_of_a_function f (CapCut slot place) is z = omega (arith, z)
here_is_of_a_function f (SlotsDiffer slot) is z = absurd is
here_is_of_a_function f (StrayProbe slot offset) is z = omega (arith, z)
here_is_of_a_function f (LoneFunction slot) is z = absurd is
here_is_of_a_function f (OfProfile fault slot) is z = omega (arith, z)
here_is_of_a_function f (BusRange slot) is z = absurd is
here_is_of_a_function f (Orphan slot) is z = absurd is
here_is_of_a_function f (Unreached slot register space address bridge) is z = absurd is
here_is_of_a_function f (Clash bus space address first first_register second second_register) is z = absurd is
here_is_of_a_function f (Split space address first first_register second second_register) is z = absurd is

earlier_open : (o : Option Fault) (e : Fault) → IfSome o (λ x. phase_of x ≢ 0) → phase_of e ≢ 0 → phase_of (earlier o e) ≢ 0
earlier_open None e was is = is
earlier_open (Some n) e was is = elim (cases_Bool (nat_lt (phase_of e) (phase_of n))) [
  | inl less ↦ rw less is
  | inr not_less ↦ rw not_less was
]

-- taking a function notes none
pub open_more : (v w : Surveyed) (f : Function) → IsAdded v w f → IfSome v.fault (λ x. phase_of x ≢ 0) → IfSome w.fault (λ x. phase_of x ≢ 0)
open_more v w f added was = elim added.noted [
  | inl (clear, same) ↦ subst (λ o. IfSome o (λ x. phase_of x ≢ 0)) (sym same) was
  | inr (e, first, same) ↦ subst (λ o. IfSome o (λ x. phase_of x ≢ 0)) (sym same) (earlier_open v.fault e was (here_is_of_a_function f e first.here))
]

-- ---- a survey of the blocks before an index

pub record IsAdding (v : Surveyed) (roots : List ℕ) (dump probe : List Block) (i : ℕ) : Type 0 where
  pub is : IsSurveyOf v (system_of (take i dump) (take i probe))
  pub roots_are : v.roots ≡ roots
  pub no_30 : IfSome v.fault (λ e. phase_of e ≢ 0)
  pub above : (k : ℕ) (d : Slot) → i ≤ k → k < length dump → IsAboveLast v.last (get_or (slots_of dump) k d)

pub adding_none : (v : Surveyed) (dump probe : List Block) → IsSurveyOf v [] → v.last ≡ None → v.fault ≡ None → IsAdding v v.roots dump probe 0
adding_none v dump probe is last fault = record {
  is = is;
  roots_are = refl;
  no_30 = subst (λ (o : Option Fault). IfSome o (λ e. phase_of e ≢ 0)) (sym fault) (tt {0});
  above = λ k d from within. subst (λ (o : Option Slot). IsAboveLast o (get_or (slots_of dump) k d)) (sym last) (tt {0});
}

-- the slot at a block's index
pub slot_here : (dump : List Block) (i : ℕ) (b : Block) (d : Slot) → i < length dump → b ≡ get_or dump i b → get_or (slots_of dump) i d ≡ b.slot
slot_here dump i b d within e = get_or-map (λ (x : Block). x.slot) dump i b d within ∙ ap (λ (x : Block). x.slot) (sym e)

pub same_slot_here : (dump probe : List Block) (i : ℕ) (b p : Block) → slots_of dump ≡ slots_of probe → i < length dump → b ≡ get_or dump i b → p ≡ get_or probe i p → p.slot ≡ b.slot
same_slot_here dump probe i b p same within eb ep =
    let long = same_length dump probe same in
    sym (slot_here probe i p b.slot (omega (arith, long, within)) ep) ∙ ap (λ ss. get_or ss i b.slot) (sym same) ∙ slot_here dump i b b.slot within eb

pub above_here : (v : Surveyed) (roots : List ℕ) (dump probe : List Block) (i : ℕ) (b : Block) → IsAdding v roots dump probe i → i < length dump → b ≡ get_or dump i b → IsAboveLast v.last b.slot
above_here v roots dump probe i b adding within eb =
    subst (λ (s : Slot). IsAboveLast v.last s) (slot_here dump i b b.slot within eb) (adding.above i b.slot (omega arith) within)

pub adding_more : (v w : Surveyed) (roots : List ℕ) (dump probe : List Block) (i : ℕ) (b p : Block) → slots_of dump ≡ slots_of probe → IsRising (slots_of dump) → i < length dump
    → b ≡ get_or dump i b → p ≡ get_or probe i p → IsAdding v roots dump probe i → IsAdded v w (function_of b p) → IsAdding w roots dump probe (i + 1)
adding_more v w roots dump probe i b p same rising within eb ep adding added =
    let long = same_length dump probe same in
    record {
      is = subst (λ s. IsSurveyOf w s) (sym (system_more dump probe i b p within (omega (arith, long, within)) eb ep)) (survey_more v w (system_of (take i dump) (take i probe)) (function_of b p) added adding.is);
      roots_are = added.roots ∙ adding.roots_are;
      no_30 = open_more v w (function_of b p) added adding.no_30;
      above = λ k d from less. (
          let all = length-map dump (λ (x : Block). x.slot) in
          let lt : slot_number (get_or (slots_of dump) i d) < slot_number (get_or (slots_of dump) k d) = later_is_above (slots_of dump) i k d rising (omega (arith, from)) (omega (arith, all, less)) in
          let e = ap slot_number (slot_here dump i b d within eb) in
          subst (λ (o : Option Slot). IsAboveLast o (get_or (slots_of dump) k d)) (sym added.last) (let le : slot_number b.slot < slot_number (get_or (slots_of dump) k d) = omega (arith, lt, e) in le));
    }

pub adding_all : (v : Surveyed) (roots : List ℕ) (dump probe : List Block) (i : ℕ) → slots_of dump ≡ slots_of probe → i ≡ length dump → IsAdding v roots dump probe i → IsSurveyOf v (system_of dump probe)
adding_all v roots dump probe i same all adding =
    let long = same_length dump probe same in
    subst (λ ds. IsSurveyOf v (system_of ds probe)) (take_all i dump (omega (arith, all)))
    (subst (λ ps. IsSurveyOf v (system_of (take i dump) ps)) (take_all i probe (omega (arith, long, all))) adding.is)

-- ---- admission

open_fault : (o : Option Fault) (e : Fault) → IfSome o (λ x. phase_of x ≢ 0) → o ≡ Some e → phase_of e ≢ 0
open_fault o e h is = subst (λ (x : Option Fault). IfSome x (λ y. phase_of y ≢ 0)) is h

-- what a survey of both, in which no 30 is noted, is refused by is there
pub refused_pair : (v : Surveyed) (dump probe : List Block) (e : Fault) → slots_of dump ≡ slots_of probe → IsSurveyOf v (system_of dump probe) → IfSome v.fault (λ x. phase_of x ≢ 0)
    → IsRefusedBy v e → IsThere v.roots dump probe e
refused_pair v dump probe e same is no_30 refused = elim (refused.there (system_of dump probe) is) [
  | inl (phase, noted) ↦ absurd (open_fault v.fault e no_30 noted phase)
  | inr there ↦ there-of_in v.roots dump probe e same there
]

-- a fault of a system is none of two lists of slots
not_of_slots : (roots : List ℕ) (s : System) (e : Fault) → IsIn roots s e → phase_of e ≢ 0
not_of_slots roots s (SlotsDiffer slot) is z = is
not_of_slots roots s _ is z = omega (arith, z)

-- and none that is looked for before it is
pub refused_first : (v : Surveyed) (dump probe : List Block) (e : Fault) → IsDump dump → IsDump probe → slots_of dump ≡ slots_of probe → IsSurveyOf v (system_of dump probe)
    → IfSome v.fault (λ x. phase_of x ≢ 0) → IsRefusedBy v e → IsFirstThere v.roots dump probe e
refused_first v dump probe e hd hp same is no_30 refused =
    let there = refused_pair v dump probe e same is no_30 refused in
    record {
      there = there;
      none_before = λ other before at.
          refused.first (system_of dump probe) (IsSystem-of_dumps dump probe hd hp same) is (not_of_slots v.roots (system_of dump probe) e (in-of_there v.roots dump probe e same there))
          other before (in-of_there v.roots dump probe other same at);
    }

-- and where it makes an outline, both are admitted
pub admitted_pair : (v : Surveyed) (o : Tree) (dump probe : List Block) → IsDump dump → IsDump probe → slots_of dump ≡ slots_of probe → IsSurveyOf v (system_of dump probe) → IsOutlineOf v o
    → IsAdmitted record { roots = o.roots; dump = dump; probe = probe }
admitted_pair v o dump probe hd hp same is out =
    subst (λ roots. IsAdmitted record { roots = roots; dump = dump; probe = probe }) (sym out.roots) record {
      slots = same;
      system = IsSystem-of_dumps dump probe hd hp same;
      nested = out.nested (system_of dump probe) is;
      profile = out.profile (system_of dump probe) is;
      chains = out.chains (system_of dump probe) is;
    }

-- so is what the code is refused by
pub pair_refusal : (v : Surveyed) (roots : List ℕ) (dump probe : List Block) (r : Refused FaultOfCode) → IsDump dump → IsDump probe → v.roots ≡ roots → slots_of dump ≡ slots_of probe → IsSurveyOf v (system_of dump probe)
    → IfSome v.fault (λ x. phase_of x ≢ 0) → IsRefusalOf v r → IsPairRefusal roots dump probe r
pair_refusal v roots dump probe (refusals.Fault e) hd hp are same is no_30 refused =
    (subst (λ rs. IsFirstThere rs dump probe (fault_of e)) are (refused_first v dump probe (fault_of e) hd hp same is no_30 refused), refused.early (system_of dump probe) is)
pair_refusal v roots dump probe refusals.Memory hd hp are same is no_30 refused = absurd refused

slots_of_records : (s : System) → map (λ (r : decoded.Record). r.slot) (map record_of s) ≡ map (λ (f : Function). f.slot) s
slots_of_records [] = refl
slots_of_records (f ∷ s) = ap (λ ss. f.slot ∷ ss) (slots_of_records s)

-- the slots of the records are those of the dump
listed_of_pair : (dump probe : List Block) (rs : List decoded.Record) → slots_of dump ≡ slots_of probe → HasRecords (system_of dump probe) rs → map (λ (r : decoded.Record). r.slot) rs ≡ slots_of dump
listed_of_pair dump probe rs same has =
    ap (λ xs. map (λ (r : decoded.Record). r.slot) xs) (sym has.same) ∙ slots_of_records (system_of dump probe) ∙ slots-system_of dump probe same

-- a path in the outline of a dump and its probe
pub path_of_pair : {V : Type 0} (items : V → List Slot) (roots other : List ℕ) (rs : List decoded.Record) (dump probe : List Block) (slot : Slot) (o : Option V) → slots_of dump ≡ slots_of probe → roots ≡ other
    → HasRecords (system_of dump probe) rs → MatchOption o (Contains (map (λ (r : decoded.Record). r.slot) rs) slot → ⊥) (λ v. (s : System) → HasRecords s rs → IsPathTo roots s (items v) slot.bus)
    → MatchOption o (Contains (slots_of dump) slot → ⊥) (λ v. IsPathTo other (system_of dump probe) (items v) slot.bus)
path_of_pair items roots other rs dump probe slot None same e has is = λ there. is (subst (λ ss. Contains ss slot) (sym (listed_of_pair dump probe rs same has)) there)
path_of_pair items roots other rs dump probe slot (Some v) same e has is = subst (λ x. IsPathTo x (system_of dump probe) (items v) slot.bus) e (is (system_of dump probe) has)
