-- In which order a list with told ranges tells: 30 before 34, 34 before all others, and 58 of held ranges before judging.
use Rattle.std.proofs.Common.{◌≡◌, ℕ, Bool, ◌∙◌, ◌<◌, List, [], ◌∷◌, refl, true, false, inl, inr, arith, lit<, ap, sym, subst, None}
use Rattle.std.specs.List.{Contains}
use Rattle.std.proofs.lemmas.Bool.{both_ways}
use Rattle.pci_spec.specs.Slot.{Slot}
use Rattle.pci_spec.specs.Text.{Block}
use Rattle.pci_spec.specs.System.{Memory}
use Rattle.pci_spec.specs.Fault.{SlotsDiffer, Orphan, Unreached, Clash, Split}
use Rattle.pci_spec.specs.Fault as plain
use Rattle.pci_spec.specs.Order.{phase_of, precedes, is_before, image_at}
use Rattle.pci_spec.specs.FaultLines.{subject}
use Rattle.pci_spec.proofs.Looking.{phase_le}
use Rattle.pci_spec.proofs.Members.{in_nil, in_head, in_cons_cases}
use Rattle.pci_spec.proofs.Examples.Samples.{slot, zeros, host}
use Rattle.judge_spec.specs.Given.{nothing_given}
use Rattle.judge_spec.specs.Fault as untold_fault
use Rattle.judge_spec.specs.AllFaults.{judging_key}
use Rattle.judge_spec.specs.Told.{Command, Held, ToldRange}
use Rattle.judge_spec.specs.ToldClaims.{Told, is_marked_held}
use Rattle.judge_spec.specs.ToldFault.{Fault, Known, NotListed, IsHeldOrphan}
use Rattle.judge_spec.specs.ToldFaultLines.{HasNotListed, AreNotListed, AreOfNotListed, IsEarlyThere, IsEarlyLine, AreEarlier, AreJudged, AreAllFaults}
use Rattle.judge_spec.proofs.Examples.ToldClaims.{told_ranges}
use Rattle.judge_spec.proofs.Examples.ToldJudging.{hidden}
use Rattle.judge_spec.proofs.Examples.ToldSlots.{only_slot, only_range, two_of_one, not_listed_slot}

-- ---- 34: one a slot, and behind 30

has_not_listed : HasNotListed two_of_one [] [] (slot 0 31 1)
has_not_listed = record { r = hidden (slot 0 31 1) Command; is_told = (0, lit< tt, refl); not_held = refl; of_slot = refl; not_listed = λ has. in_nil (slot 0 31 1) has }

one_line_a_slot : AreAllFaults two_of_one nothing_given host [] [] (NotListed (slot 0 31 1) ∷ [])
one_line_a_slot = inr (inl record {
  same = refl;
  slots = slot 0 31 1 ∷ [];
  some = λ e. cc;
  all = record {
    each = λ at has. subst (λ x. HasNotListed two_of_one [] [] x) (only_slot (slot 0 31 1) at has) has_not_listed;
    complete = λ at not. subst (λ x. Contains (slot 0 31 1 ∷ []) x) (not_listed_slot at not) (in_head (slot 0 31 1) []);
    rising = λ i j d less within. absurd (let no : ⊥ = omega (arith, less, within) in no);
  };
  are = refl;
})

not_twice : AreNotListed two_of_one [] [] (slot 0 31 1 ∷ slot 0 31 1 ∷ []) → ⊥
not_twice all = let less = all.rising 0 1 (slot 0 31 1) (lit< tt) (lit< tt) in omega (arith, less)

abbrev listed : List Block
listed = record { slot = slot 0 2 0; title = None; image = zeros } ∷ []

behind_30 : (faults : List Fault) → AreOfNotListed two_of_one listed [] faults → ⊥
behind_30 faults not = let e : (slot 0 2 0 ∷ []) ≡ [] = not.same in cc

before_others : (faults : List Fault) → AreEarlier two_of_one host [] [] faults → ⊥
before_others faults earlier = earlier.listed (slot 0 31 1) has_not_listed

before_judging : (faults : List Fault) → AreJudged two_of_one nothing_given host [] [] faults → ⊥
before_judging faults judged = judged.listed (slot 0 31 1) has_not_listed

-- ---- 58 of a held range, where nothing is listed

abbrev far : Told
far = told_ranges (hidden (slot 5 0 0) Held ∷ [])

far_orphan : IsHeldOrphan far host [] (slot 5 0 0)
far_orphan = record { r = hidden (slot 5 0 0) Held; is_told = (0, lit< tt, refl); held = refl; of_slot = refl; not_led_to = refl }

none_but_it : (f : plain.Fault) → phase_of f < 5 → IsEarlyThere far host [] [] f → f ≡ Orphan (slot 5 0 0)
none_but_it f = elim f as (λ f. phase_of f < 5 → IsEarlyThere far host [] [] f → f ≡ Orphan (slot 5 0 0)) [
  | Orphan at ↦ λ early there. elim there [
    | inl plain ↦ absurd (in_nil plain.1.0 plain.1.1)
    | inr held ↦ ap Orphan (sym held.of_slot ∙ ap (λ (r : ToldRange). r.slot) (sym (only_range (hidden (slot 5 0 0) Held) held.r held.is_told)))
  ]
  | SlotsDiffer at ↦ λ early there. elim there [
    | inl only ↦ absurd (in_nil at only.0)
    | inr only ↦ absurd (in_nil at only.1)
  ]
  | Unreached at register space a bridge ↦ λ early there. absurd (let no : ⊥ = omega (arith, early) in no)
  | Clash bus space a first fr second sr ↦ λ early there. absurd (let no : ⊥ = omega (arith, early) in no)
  | Split space a first fr second sr ↦ λ early there. absurd (let no : ⊥ = omega (arith, early) in no)
  | _ ↦ λ early there. absurd (in_nil there.1.0 there.1.1)
]

only_fault : (f g : plain.Fault) → Contains (f ∷ []) g → f ≡ g
only_fault f g has = elim (in_cons_cases f [] g has) [ inl here ↦ here | inr later ↦ absurd (in_nil g later) ]

-- a fault of its subject that is looked for before it isn't there
only_itself : (g : plain.Fault) → subject g ≡ subject (Orphan (slot 5 0 0)) → is_before (image_at []) g (Orphan (slot 5 0 0)) ≡ true → IsEarlyThere far host [] [] g → ⊥
only_itself g same before there =
    let le = phase_le (image_at []) g (Orphan (slot 5 0 0)) before in
    let is = none_but_it g (omega (arith, le)) there in
    both_ways false refl (subst (λ x. is_before (image_at []) x (Orphan (slot 5 0 0)) ≡ true) is before)

line_of_held : AreAllFaults far nothing_given host [] [] (Known (untold_fault.Known (Orphan (slot 5 0 0))) ∷ [])
line_of_held = inr (inr (inl record {
  same = refl;
  listed = λ at not. both_ways (is_marked_held not.r.mark) not.not_held (ap (λ (r : ToldRange). is_marked_held r.mark) (sym (only_range (hidden (slot 5 0 0) Held) not.r not.is_told)));
  early = Orphan (slot 5 0 0) ∷ [];
  some = λ e. cc;
  all = record {
    each = λ f has. subst (λ x. IsEarlyLine far host [] [] x) (only_fault (Orphan (slot 5 0 0)) f has) record {
      early = lit< tt;
      there = inr far_orphan;
      none_earlier = λ g less there.
          let low : phase_of g < 5 = omega (arith, less) in
          let same : phase_of g ≡ 4 = ap phase_of (none_but_it g low there) in
          omega (arith, less, same);
      first = λ g same before there. only_itself g same before there;
    };
    complete = λ f line. subst (λ x. Contains (Orphan (slot 5 0 0) ∷ []) x) (sym (none_but_it f line.early line.there)) (in_head (Orphan (slot 5 0 0)) []);
    rising = λ i j d less within. absurd (let no : ⊥ = omega (arith, less, within) in no);
  };
  are = refl;
}))

before_judging_of_held : (faults : List Fault) → AreJudged far nothing_given host [] [] faults → ⊥
before_judging_of_held faults judged = judged.none_earlier (Orphan (slot 5 0 0)) (lit< tt) (inr far_orphan)

-- ---- judging: told ranges stand behind the registers of their slot, by line, and before the next slot

abbrev unreached_at : Slot → ℕ → untold_fault.Fault
unreached_at at register = untold_fault.Known (Unreached at register Memory 0xe0000000 (slot 0 1 0))

abbrev is_first : untold_fault.Fault → untold_fault.Fault → Bool
is_first fault other = precedes (judging_key fault) (judging_key other)

by_line : is_first (unreached_at (slot 1 0 0) 0x30) (unreached_at (slot 1 0 0) 256) ∷ is_first (unreached_at (slot 1 0 0) 256) (unreached_at (slot 1 0 0) 257)
    ∷ is_first (unreached_at (slot 1 0 0) 4351) (unreached_at (slot 1 0 1) 0x10) ∷ is_first (unreached_at (slot 1 0 0) 257) (unreached_at (slot 1 0 0) 256) ∷ []
    ≡ true ∷ true ∷ true ∷ false ∷ []
by_line = refl
