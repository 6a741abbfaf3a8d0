-- With nothing told the list of all faults is the one without it, and so is its text.
use Rattle.std.proofs.Common.{◌≡◌, ◌≢◌, ℕ, ◌<◌, ◌⊎◌, inl, inr, List, [], ◌∷◌, ◌++◌, ◌-◌, codes, map, refl, sym, ◌∙◌, ap, subst, arith}
use Rattle.std.specs.Prelude.{◌↔◌, nat_lt}
use Rattle.std.specs.List.{Contains, flat_map}
use Rattle.std.specs.Fmt.{decimal}
use Rattle.std.proofs.lemmas.Bool.{cases_lt, cond-true, lt-ltb}
use Rattle.pci_spec.specs.Slot.{Slot}
use Rattle.pci_spec.specs.Text.{Block, IsDump, slots_of, hex_byte, slot_text}
use Rattle.pci_spec.specs.Line.{two_digits, field, place_field, slot_field, byte_field}
use Rattle.pci_spec.specs.System.{System, system_of}
use Rattle.pci_spec.specs.Fault.{SlotsDiffer, Orphan, Unreached, Clash, Split, IsThere, IsInOne}
use Rattle.pci_spec.specs.Fault as plain
use Rattle.pci_spec.specs.FaultLines as plain_lines
use Rattle.pci_spec.specs.Order.{phase_of}
use Rattle.pci_spec.proofs.Members.{in_head, in_tail, IsMade, in_map_to}
use Rattle.pci_spec.proofs.Regions.{register_of-lt}
use Rattle.judge_spec.specs.Given.{Given}
use Rattle.judge_spec.specs.Fault as untold_fault
use Rattle.judge_spec.specs.FaultLines as untold_lines
use Rattle.judge_spec.specs.AllFaults as untold_all
use Rattle.judge_spec.specs.Line as untold_line
use Rattle.judge_spec.specs.ToldClaims.{nothing_told}
use Rattle.judge_spec.specs.ToldFault.{Fault, Known}
use Rattle.judge_spec.specs.ToldFaultLines.{IsEarlyThere, IsEarlyLine, AreAllEarly, AreOfNotListed, AreListed, AreAllFaults}
use Rattle.judge_spec.specs.ToldLine.{register_text, fault_line, list_text}
use Rattle.judge_spec.specs.ToldJudgingLaws.{AreUntoldFaults, SameToldList, SameToldText}
use Rattle.judge_spec.proofs.Naming.{named_register}
use Rattle.judge_spec.proofs.DeterminedTexts.{same_slots}
use Rattle.judge_spec.proofs.NothingTold.{HasLowRegisters, no_held_orphan, none_not_listed, judging_same}

-- ---- lists

pub known_twice : (faults : List plain.Fault) → map (λ f. Known (untold_fault.Known f)) faults ≡ map Known (map untold_fault.Known faults)
known_twice [] = refl
known_twice (f ∷ faults) = ap (λ l. Known (untold_fault.Known f) ∷ l) (known_twice faults)

-- slots that one of two lists has aren't those of both
not_in_one : (dump probe : List Block) (slot : Slot) → IsInOne dump probe slot → slots_of dump ≢ slots_of probe
not_in_one dump probe slot (inl (has, not)) same = not (subst (λ l. Contains l slot) same has)
not_in_one dump probe slot (inr (not, has)) same = not (subst (λ l. Contains l slot) (sym same) has)

-- a fault of a dump and its probe tells whether they list the same slots
slots_by : (roots : List ℕ) (dump probe : List Block) (f : plain.Fault) → IsThere roots dump probe f → (slots_of dump ≢ slots_of probe) ⊎ (slots_of dump ≡ slots_of probe)
slots_by roots dump probe f = elim f as (λ f. IsThere roots dump probe f → (slots_of dump ≢ slots_of probe) ⊎ (slots_of dump ≡ slots_of probe)) [
  | SlotsDiffer slot ↦ λ there. inl (not_in_one dump probe slot there)
  | _ ↦ λ there. inr there.0
]

module _ (asleep : List Slot) (given : Given) (roots : List ℕ) (dump probe : List Block) where
  there_same : (f : plain.Fault) → IsEarlyThere (nothing_told asleep) roots dump probe f ↔ IsThere roots dump probe f
  there_same f = elim f as (λ f. (IsEarlyThere (nothing_told asleep) roots dump probe f → IsThere roots dump probe f) × (IsThere roots dump probe f → IsEarlyThere (nothing_told asleep) roots dump probe f)) [
    | Orphan slot ↦ (
      λ h. elim h [ inl orphan ↦ orphan | inr held ↦ absurd (no_held_orphan asleep roots (system_of dump probe) slot held) ],
      λ h. inl h,
    )
    | _ ↦ (λ h. h, λ h. h)
  ]

  untold_line_of : (f : plain.Fault) → IsEarlyLine (nothing_told asleep) roots dump probe f → plain_lines.IsLine roots dump probe f
  untold_line_of f line = record {
    there = (there_same f).0 line.there;
    none_earlier = λ g less there. line.none_earlier g less ((there_same g).1 there);
    first = λ early g same before there. line.first g same before ((there_same g).1 there);
    named = λ judging. (let low = line.early in let no : ⊥ = omega (arith, low, judging) in absurd no);
  }

  told_line_of : (f : plain.Fault) → phase_of f < 5 → plain_lines.IsLine roots dump probe f → IsEarlyLine (nothing_told asleep) roots dump probe f
  told_line_of f early line = record {
    early = early;
    there = (there_same f).1 line.there;
    none_earlier = λ g less there. line.none_earlier g less ((there_same g).0 there);
    first = λ g same before there. line.first early g same before ((there_same g).0 there);
  }

  -- where a list has one fault that is looked for before judging, all are
  early_by : (f : plain.Fault) → phase_of f < 5 → IsThere roots dump probe f → (g : plain.Fault) → plain_lines.IsLine roots dump probe g → phase_of g < 5
  early_by f early there g line = elim (cases_lt (phase_of g) 5) [
    | inl low ↦ low
    | inr late ↦ absurd (line.none_earlier f (omega (arith, early, late)) there)
  ]

  untold_early : (early : List plain.Fault) → (early ≡ [] → ⊥) → AreAllEarly (nothing_told asleep) roots dump probe early → plain_lines.AreAllFaults roots dump probe early
  untold_early [] some all = absurd (some refl)
  untold_early (f ∷ rest) some all =
      let first = all.each f (in_head f rest) in
      record {
        each = λ g has. untold_line_of g (all.each g has);
        complete = λ g line. all.complete g (told_line_of g (early_by f first.early ((there_same f).0 first.there) g line) line);
        rising = all.rising;
      }

  told_early : (early : List plain.Fault) → ((f : plain.Fault) → Contains early f → phase_of f < 5) → plain_lines.AreAllFaults roots dump probe early → AreAllEarly (nothing_told asleep) roots dump probe early
  told_early early before all = record {
    each = λ g has. told_line_of g (before g has) (all.each g has);
    complete = λ g line. all.complete g (untold_line_of g line);
    rising = all.rising;
  }

  no_not_listed : (faults : List Fault) → AreOfNotListed (nothing_told asleep) dump probe faults → ⊥
  no_not_listed faults h = elim h.slots as (λ (slots : List Slot). (slots ≡ [] → ⊥) → ((slot : Slot) → Contains slots slot → ⊥) → ⊥) [
    | [] ↦ λ some none. some refl
    | slot ∷ rest ↦ λ some none. none slot (in_head slot rest)
  ] h.some (λ slot has. none_not_listed asleep given roots (system_of dump probe) slot (h.all.each slot has))

  untold_of_told : (faults : List Fault) → AreAllFaults (nothing_told asleep) given roots dump probe faults → AreUntoldFaults given roots dump probe faults
  untold_of_told faults (inl of_slots) = record { untold_faults = of_slots.known; all = of_slots.all; are = of_slots.are }
  untold_of_told faults (inr (inl not_listed)) = absurd (no_not_listed faults not_listed)
  untold_of_told faults (inr (inr (inl h))) = record {
    untold_faults = map untold_fault.Known h.early;
    all = inl record {
      early = h.early;
      some = h.some;
      before = λ f has. (h.all.each f has).early;
      all = untold_early h.early h.some h.all;
      are = refl;
    };
    are = h.are ∙ known_twice h.early;
  }
  untold_of_told faults (inr (inr (inr h))) = record {
    untold_faults = h.judged;
    all = inr record {
      none_earlier = λ f early there. h.none_earlier f early ((there_same f).1 there);
      all = (judging_same asleep given roots (system_of dump probe) h.judged).0 h.all;
    };
    are = h.are;
  }

  all_listed : AreListed (nothing_told asleep) dump probe
  all_listed slot = none_not_listed asleep given roots (system_of dump probe) slot

  -- faults that are looked for before judging: those of slots, or behind them
  told_of_earlier : (faults : List untold_fault.Fault) → untold_lines.AreEarlier roots dump probe faults → AreAllFaults (nothing_told asleep) given roots dump probe (map Known faults)
  told_of_earlier faults h = elim h.early as (λ (early : List plain.Fault). early ≡ h.early → AreAllFaults (nothing_told asleep) given roots dump probe (map Known faults)) [
    | [] ↦ λ is. absurd (h.some (sym is))
    | f ∷ rest ↦ λ is. elim (slots_by roots dump probe f (h.all.each f (subst (λ l. Contains l f) is (in_head f rest))).there) [
      | inl differ ↦ inl record { slots = differ; known = faults; all = inl h; are = refl }
      | inr same ↦ inr (inr (inl record {
        same = same;
        listed = all_listed;
        early = h.early;
        some = h.some;
        all = told_early h.early h.before h.all;
        are = ap (λ l. map Known l) h.are ∙ sym (known_twice h.early);
      }))
    ]
  ] refl

  told_of_judged : (is_dump : IsDump dump) (is_probe : IsDump probe) (faults : List untold_fault.Fault) → untold_lines.AreJudged given roots dump probe faults → AreAllFaults (nothing_told asleep) given roots dump probe (map Known faults)
  told_of_judged is_dump is_probe faults h = inr (inr (inr record {
    same = same_slots dump probe is_dump is_probe (λ slot alone. h.none_earlier (SlotsDiffer slot) (omega arith) alone);
    listed = all_listed;
    none_earlier = λ f early there. h.none_earlier f early ((there_same f).0 there);
    judged = faults;
    all = (judging_same asleep given roots (system_of dump probe) faults).1 h.all;
    are = refl;
  }))

  told_of_untold : (is_dump : IsDump dump) (is_probe : IsDump probe) (faults : List untold_fault.Fault) → untold_lines.AreAllFaults given roots dump probe faults → AreAllFaults (nothing_told asleep) given roots dump probe (map Known faults)
  told_of_untold is_dump is_probe faults (inl h) = told_of_earlier faults h
  told_of_untold is_dump is_probe faults (inr h) = told_of_judged is_dump is_probe faults h

pub same_told_list : SameToldList
same_told_list asleep given roots dump probe faults is_dump is_probe = (
  λ h. untold_of_told asleep given roots dump probe faults h,
  λ h. subst (λ l. AreAllFaults (nothing_told asleep) given roots dump probe l) (sym h.are) (told_of_untold asleep given roots dump probe is_dump is_probe h.untold_faults h.all),
)

-- ---- texts

text_of_register : (register : ℕ) → register < 256 → register_text register ≡ hex_byte register
text_of_register register low = cond-true (nat_lt register 256) (hex_byte register) (43 ∷ decimal (register - 255)) (lt-ltb register 256 low)

low_plain : (f : plain.Fault) → phase_of f < 5 → HasLowRegisters (untold_fault.Known f)
low_plain f = elim f as (λ f. phase_of f < 5 → HasLowRegisters (untold_fault.Known f)) [
  | Unreached slot register space a bridge ↦ λ early. absurd (let no : ⊥ = omega (arith, early) in no)
  | Clash bus space a first fr second sr ↦ λ early. absurd (let no : ⊥ = omega (arith, early) in no)
  | Split space a first fr second sr ↦ λ early. absurd (let no : ⊥ = omega (arith, early) in no)
  | _ ↦ λ early. refl
]

module _ (given : Given) (roots : List ℕ) (s : System) where
  low_known : (f : plain.Fault) → untold_all.IsNamed given roots s (untold_fault.Known f) → HasLowRegisters (untold_fault.Known f)
  low_known f = elim f as (λ f. untold_all.IsNamed given roots s (untold_fault.Known f) → HasLowRegisters (untold_fault.Known f)) [
    | Unreached slot register space a bridge ↦ λ line.
        let u = line.there in
        let low = register_of-lt u.f u.part u.claims.there in
        let named = u.named.1 in
        let below : register < 256 = omega (arith, low, named) in
        below
    | Clash bus space a first fr second sr ↦ λ line. (named_register given s bus space a first fr line.there.claims_first, named_register given s bus space a second sr line.there.claims_second)
    | Split space a first fr second sr ↦ λ line. (named_register given s first.bus space a first fr line.there.claims_first, named_register given s second.bus space a second sr line.there.claims_second)
    | _ ↦ λ line. absurd line
  ]

  low_named : (f : untold_fault.Fault) → untold_all.IsNamed given roots s f → HasLowRegisters f
  low_named (untold_fault.Known f) line = low_known f line
  low_named (untold_fault.Outside slot register space a) line =
      let o = line.there in
      let low = register_of-lt o.f o.part o.claims.there in
      let named = o.named.1 in
      omega (arith, low, named)

abbrev pub SameLine : untold_fault.Fault → Type 0
SameLine f = fault_line (Known f) ≡ untold_line.fault_line f

same_plain_line : (f : plain.Fault) → HasLowRegisters (untold_fault.Known f) → SameLine (untold_fault.Known f)
same_plain_line f = elim f as (λ f. HasLowRegisters (untold_fault.Known f) → SameLine (untold_fault.Known f)) [
  | Unreached slot register space a bridge ↦ λ low.
      ap (λ t. (two_digits 60 ++ field (codes "Unreached") ++ field (slot_text slot ++ field t) ++ place_field space a ++ field (codes "bridge") ++ slot_field bridge) ++ 10 ∷ []) (text_of_register register low)
  | Clash bus space a first fr second sr ↦ λ low.
      ap (λ t. (two_digits 61 ++ field (codes "Clash") ++ field (codes "bus") ++ byte_field bus ++ place_field space a ++ field ((slot_text first ++ field t) ++ field (slot_text second ++ field (register_text sr)))) ++ 10 ∷ []) (text_of_register fr low.0)
      ∙ ap (λ t. (two_digits 61 ++ field (codes "Clash") ++ field (codes "bus") ++ byte_field bus ++ place_field space a ++ field ((slot_text first ++ field (hex_byte fr)) ++ field (slot_text second ++ field t))) ++ 10 ∷ []) (text_of_register sr low.1)
  | Split space a first fr second sr ↦ λ low.
      ap (λ t. (two_digits 62 ++ field (codes "Split") ++ place_field space a ++ field ((slot_text first ++ field t) ++ field (slot_text second ++ field (register_text sr)))) ++ 10 ∷ []) (text_of_register fr low.0)
      ∙ ap (λ t. (two_digits 62 ++ field (codes "Split") ++ place_field space a ++ field ((slot_text first ++ field (hex_byte fr)) ++ field (slot_text second ++ field t))) ++ 10 ∷ []) (text_of_register sr low.1)
  | _ ↦ λ low. refl
]

pub same_line : (f : untold_fault.Fault) → HasLowRegisters f → SameLine f
same_line (untold_fault.Known f) low = same_plain_line f low
same_line (untold_fault.Outside slot register space a) low =
    ap (λ t. (two_digits 63 ++ field (codes "Outside") ++ field (slot_text slot ++ field t) ++ place_field space a) ++ 10 ∷ []) (text_of_register register low)

same_lines : (fs : List untold_fault.Fault) → ((f : untold_fault.Fault) → Contains fs f → HasLowRegisters f) → flat_map fault_line (map Known fs) ≡ flat_map untold_line.fault_line fs
same_lines [] low = refl
same_lines (f ∷ fs) low =
    ap (λ l. l ++ flat_map fault_line (map Known fs)) (same_line f (low f (in_head f fs)))
    ∙ ap (λ l. untold_line.fault_line f ++ l) (same_lines fs (λ g has. low g (in_tail f fs g has)))

same_list_text : (fs : List untold_fault.Fault) → ((f : untold_fault.Fault) → Contains fs f → HasLowRegisters f) → list_text (map Known fs) ≡ untold_line.list_text fs
same_list_text [] low = refl
same_list_text (f ∷ fs) low = same_lines (f ∷ fs) low

low_of_all : (given : Given) (roots : List ℕ) (dump probe : List Block) (fs : List untold_fault.Fault) → untold_lines.AreAllFaults given roots dump probe fs → (f : untold_fault.Fault) → Contains fs f → HasLowRegisters f
low_of_all given roots dump probe fs (inl h) f has =
    let made : IsMade untold_fault.Known h.early f = in_map_to untold_fault.Known h.early f (subst (λ l. Contains l f) h.are has) in
    subst HasLowRegisters made.is (low_plain made.from (h.before made.from made.has))
low_of_all given roots dump probe fs (inr h) f has = low_named given roots (system_of dump probe) f (h.all.each f has)

pub same_told_text : SameToldText
same_told_text given roots dump probe fs all = same_list_text fs (low_of_all given roots dump probe fs all)
