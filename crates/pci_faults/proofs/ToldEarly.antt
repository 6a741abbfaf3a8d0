-- Lists of faults before judging, with what is told.
use Rattle.std.proofs.Common.{◌≡◌, ℕ, ◌<◌, ◌≤◌, inl, inr, List, [], ◌∷◌, map, refl, sym, ◌∙◌, ap, subst, arith}
use Rattle.std.specs.List.{Contains}
use Rattle.std.proofs.lemmas.Bool.{cases_lt}
use Rattle.pci_spec.specs.Slot.{Slot}
use Rattle.pci_spec.specs.Text.{Block, IsDump, slots_of}
use Rattle.pci_spec.specs.System.{system_of}
use Rattle.pci_spec.specs.Fault.{SlotsDiffer, IsThere, fault_number}
use Rattle.pci_spec.specs.Fault as plain
use Rattle.pci_spec.specs.Order.{phase_of, image_at, IsFirstThere}
use Rattle.pci_spec.specs.FaultLines.{IsLine, AreAllFaults}
use Rattle.pci_spec.proofs.Looking.{phase_le}
use Rattle.pci_spec.proofs.Members.{in_nil}
use Rattle.pci_function.specs.declared.fault.Fault as code
use Rattle.pci_function.specs.Fault.{fault_of}
use Rattle.pci_faults.specs.Lists.{BeginsWith}
use Rattle.pci_faults.proofs.Checks.{late_alone}
use Rattle.pci_faults.proofs.Lines.{phase_of_line, none_earlier_than}
use Rattle.pci_faults.proofs.Wholes.{before_judging, same_slots}
use Rattle.judge_spec.specs.Given.{Given}
use Rattle.judge_spec.specs.Fault as untold
use Rattle.judge_spec.specs.Told.{IsTold}
use Rattle.judge_spec.specs.ToldClaims.{Told}
use Rattle.judge_spec.specs.ToldFault.{Fault, Known, NotListed}
use Rattle.judge_spec.specs.ToldFaultLines.{AreOfSlots, AreOfNotListed, AreListed, IsEarlyLine, AreAllEarly}
use Rattle.pci_faults.specs.AllLines.{plain_fault}
use Rattle.pci_faults.specs.Before.{AreSlotsOf, IsOfNoFunction}
use Rattle.pci_faults.specs.Every.{first_phase, AreEarlyWith, AreBefore}
use Rattle.pci_faults.proofs.ToldFirst.{not_listed_from, all_not_listed}
use Rattle.pci_faults.proofs.ToldPlaces.{early_there, there_low, all_places, no_place}

-- the same list in other words
pub plain_twice : (fs : List code.Fault) → map plain_fault fs ≡ map (λ f. Known (untold.Known f)) (map fault_of fs)
plain_twice [] = refl
plain_twice (f ∷ fs) = ap (λ l. plain_fault f ∷ l) (plain_twice fs)

plain_known : (fs : List code.Fault) → map plain_fault fs ≡ map Known (map untold.Known (map fault_of fs))
plain_known [] = refl
plain_known (f ∷ fs) = ap (λ l. plain_fault f ∷ l) (plain_known fs)

pub none_plain : (fs : List code.Fault) → map plain_fault fs ≡ [] → map fault_of fs ≡ []
none_plain [] e = refl
none_plain (f ∷ fs) e = absurd (let no : ⊥ = cc in no)

-- ---- where there is a fault without what is told

module _ (told : Told) (is_told : IsTold told.ranges) (given : Given) (roots : List ℕ) (dump probe : List Block) (is_dump : IsDump dump) where
  pub all_listed : slots_of dump ≡ slots_of probe → AreSlotsOf (IsOfNoFunction dump) told.ranges [] → AreListed told dump probe
  all_listed same none slot not = in_nil slot (none.complete slot (not_listed_from told dump probe same slot not))

  module _ (first : plain.Fault) (is_first : IsFirstThere roots dump probe first) (low : fault_number first < 60) (early : List code.Fault)
      (all : AreAllFaults roots dump probe (map fault_of early)) (begins : BeginsWith first (map fault_of early)) where
    phase : first_phase early ≡ phase_of first
    phase = by_first early begins.1
      where
        by_first : (fs : List code.Fault) → map fault_of fs ≡ first ∷ begins.0 → first_phase fs ≡ phase_of first
        by_first [] e = absurd (let no : ⊥ = cc in no)
        by_first (f ∷ fs) e = let is : fault_of f ≡ first = cc in ap phase_of is

    some : map fault_of early ≡ [] → ⊥
    some none = let e = begins.1 in let no : ⊥ = cc in no

    soon : phase_of first < 5
    soon = before_judging first low

    phase_in : (f : plain.Fault) → IsLine roots dump probe f → phase_of f ≡ phase_of first
    phase_in f line = phase_of_line roots dump probe first f is_first line

    -- 30
    differ : (f : plain.Fault) → phase_of f ≡ 0 → IsThere roots dump probe f → slots_of dump ≡ slots_of probe → ⊥
    differ (SlotsDiffer slot) zero there same = elim there [
      | inl one ↦ one.1 (subst (λ (l : List Slot). Contains l slot) same one.0)
      | inr other ↦ other.0 (subst (λ (l : List Slot). Contains l slot) (sym same) other.1)
    ]
    differ _ zero there same = absurd (let no : ⊥ = omega (arith, zero) in no)

    of_slots : phase_of first ≡ 0 → (faults : List Fault) → faults ≡ map plain_fault early → AreOfSlots given roots dump probe faults
    of_slots zero faults are = record {
      slots = differ first zero is_first.there;
      known = map untold.Known (map fault_of early);
      all = inl record {
        early = map fault_of early;
        some = some;
        before = λ f has. (let same = phase_in f (all.each f has) in omega (arith, same, zero));
        all = all;
        are = refl;
      };
      are = are ∙ plain_known early;
    }

    module _ (late : first_phase early ≡ 0 → ⊥) where
      same : slots_of dump ≡ slots_of probe
      same = same_slots roots dump probe first (let e = phase in above (phase_of first) (λ zero. late (e ∙ zero))) is_first.there
        where
          above : (n : ℕ) → (n ≡ 0 → ⊥) → 0 < n
          above n not = elim (cases_lt 0 n) [ inl up ↦ up | inr le ↦ absurd (not (omega (arith, le))) ]

      of_not_listed : (slots : List Slot) → (slots ≡ [] → ⊥) → AreSlotsOf (IsOfNoFunction dump) told.ranges slots → (faults : List Fault) → faults ≡ map NotListed slots → AreOfNotListed told dump probe faults
      of_not_listed slots some all faults are = record { same = same; slots = slots; some = some; all = all_not_listed told dump probe same slots all; are = are }

      -- of functions by themselves
      told_line : phase_of first < 4 → (f : plain.Fault) → IsLine roots dump probe f → IsEarlyLine told roots dump probe f
      told_line alone f line =
          let here = phase_in f line in record {
            early = omega (arith, here, alone);
            there = early_there told is_told roots dump probe is_dump same f line.there;
            none_earlier = λ g less there. line.none_earlier g less (there_low told is_told roots dump probe is_dump same g (omega (arith, less, here, alone)) there);
            first = λ g subjects before there.
                let le = phase_le (image_at (system_of dump probe)) g f before in
                line.first (omega (arith, here, alone)) g subjects before (there_low told is_told roots dump probe is_dump same g (omega (arith, le, here, alone)) there);
          }

      untold_line : phase_of first < 4 → (f : plain.Fault) → IsEarlyLine told roots dump probe f → IsLine roots dump probe f
      untold_line alone f line =
          let here : phase_of f ≤ phase_of first = elim (cases_lt (phase_of first) (phase_of f)) [
            | inl later ↦ absurd (line.none_earlier first later (early_there told is_told roots dump probe is_dump same first is_first.there))
            | inr le ↦ omega (arith, le)
          ] in
          record {
            there = there_low told is_told roots dump probe is_dump same f (omega (arith, here, alone)) line.there;
            none_earlier = λ g less there. line.none_earlier g less (early_there told is_told roots dump probe is_dump same g there);
            first = λ low g subjects before there. line.first g subjects before (early_there told is_told roots dump probe is_dump same g there);
            named = λ judging. absurd (let no : ⊥ = omega (arith, judging, here, alone) in no);
          }

      all_alone : phase_of first < 4 → AreAllEarly told roots dump probe (map fault_of early)
      all_alone alone = record {
        each = λ f has. told_line alone f (all.each f has);
        complete = λ f line. all.complete f (untold_line alone f line);
        rising = all.rising;
      }

      -- of places
      module _ (places : phase_of first ≡ 4) where
        there : (f : plain.Fault) → Contains (map fault_of early) f → IsThere roots dump probe f × (phase_of f ≡ 4)
        there f has = let line = all.each f has in (line.there, phase_in f line ∙ places)

        complete : (f : plain.Fault) → phase_of f < 5 → IsThere roots dump probe f → Contains (map fault_of early) f
        complete f below is = elim (cases_lt (phase_of f) 4) [
          | inl lower ↦ absurd (none_earlier_than roots dump probe first f is_first (omega (arith, lower, places)) is)
          | inr ge ↦
              let here : phase_of f ≡ 4 = omega (arith, ge, below) in
              all.complete f record {
                there = is;
                none_earlier = λ g less there. none_earlier_than roots dump probe first g is_first (omega (arith, less, here, places)) there;
                first = λ low g subjects before there. late_alone (image_at (system_of dump probe)) g f (omega (arith, here)) subjects before;
                named = λ judging. absurd (let no : ⊥ = omega (arith, judging, here) in no);
              }
        ]

    -- a fault was found: one of those before judging is told
    pub before_of_first : (faults : List Fault) → AreEarlyWith told.ranges roots dump early faults → AreBefore told given roots dump probe faults
    before_of_first faults (inl alone) = inl (of_slots (sym phase ∙ alone.phase) faults alone.are)
    before_of_first faults (inr (inl not)) = inr (inl (of_not_listed not.phase not.slots not.some not.all faults not.are))
    before_of_first faults (inr (inr (inl h))) =
        let alone : phase_of first < 4 = (let e = phase in let less = h.soon in omega (arith, e, less)) in
        inr (inr record {
          same = same h.late;
          listed = all_listed (same h.late) h.listed;
          early = map fault_of early;
          some = some;
          all = all_alone h.late alone;
          are = h.are ∙ plain_twice early;
        })
    before_of_first faults (inr (inr (inr h))) =
        let places : phase_of first ≡ 4 = (let e = phase in let ge = h.late in let lt = soon in omega (arith, e, ge, lt)) in
        let late : first_phase early ≡ 0 → ⊥ = λ zero. (let ge = h.late in let no : ⊥ = omega (arith, zero, ge) in no) in
        let every = all_places told is_told roots dump probe is_dump (same late) early (there late places) (complete late places) all.rising h.orphans h.all h.with h.added in
        inr (inr record {
          same = same late;
          listed = all_listed (same late) h.listed;
          early = map fault_of h.with;
          some = λ none. no_place told is_told roots dump probe is_dump (same late) early (there late places) (complete late places) all.rising h.orphans h.all h.with h.added none
              first soon (early_there told is_told roots dump probe is_dump (same late) first is_first.there);
          all = every;
          are = h.are ∙ plain_twice h.with;
        })

    -- and so there is one
    pub some_of_first : (faults : List Fault) → AreEarlyWith told.ranges roots dump early faults → faults ≡ [] → ⊥
    some_of_first faults (inl alone) none = some (none_plain early (sym alone.are ∙ none))
    some_of_first faults (inr (inl not)) none = not.some (none_unlisted not.slots (sym not.are ∙ none))
      where
        none_unlisted : (slots : List Slot) → map NotListed slots ≡ [] → slots ≡ []
        none_unlisted [] e = refl
        none_unlisted (slot ∷ slots) e = absurd (let no : ⊥ = cc in no)
    some_of_first faults (inr (inr (inl h))) none = some (none_plain early (sym h.are ∙ none))
    some_of_first faults (inr (inr (inr h))) none =
        let places : phase_of first ≡ 4 = (let e = phase in let ge = h.late in let lt = soon in omega (arith, e, ge, lt)) in
        let late : first_phase early ≡ 0 → ⊥ = λ zero. (let ge = h.late in let no : ⊥ = omega (arith, zero, ge) in no) in
        no_place told is_told roots dump probe is_dump (same late) early (there late places) (complete late places) all.rising h.orphans h.all h.with h.added (none_plain h.with (sym h.are ∙ none))
        first soon (early_there told is_told roots dump probe is_dump (same late) first is_first.there)
