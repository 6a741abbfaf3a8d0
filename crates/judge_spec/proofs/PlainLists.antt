-- With nothing given the list of all faults is the one without it.
use Rattle.std.proofs.Common.{◌≡◌, ℕ, ◌<◌, ◌≤◌, List, [], ◌∷◌, get_or, map, refl, true, sym, ap, subst, inl, inr, arith}
use Rattle.std.specs.Prelude.{◌↔◌, IsTrue}
use Rattle.std.specs.List.{Contains, AllPairs}
use Rattle.std.proofs.lemmas.Bool.{cases_lt}
use Rattle.std.proofs.lemmas.List.Elements.{Contains-get_or}
use Rattle.pci_spec.specs.Slot.{Slot}
use Rattle.pci_spec.specs.Text.{Block, IsDump, slots_of}
use Rattle.pci_spec.specs.System.{System, system_of}
use Rattle.pci_spec.specs.Fault.{Unreached, Clash, Split, SlotsDiffer, IsThere}
use Rattle.pci_spec.specs.Fault as plain
use Rattle.pci_spec.specs.AllFaults as plain_all
use Rattle.pci_spec.specs.FaultLines as plain_lines
use Rattle.pci_spec.specs.Order.{precedes, looking_key, is_before, phase_of, image_at}
use Rattle.pci_spec.specs.Order as order
use Rattle.pci_spec.proofs.FirstLines.{first_line_is_first, same_precedes}
use Rattle.pci_spec.proofs.Members.{in_nil, in_cons_cases, in_head, in_tail, IsMade, in_map_to, in_map_from, pairs_head, pairs_map}
use Rattle.pci_spec.proofs.Pairing.{there-of_in, in-of_there}
use Rattle.pci_spec.proofs.Regions.{precedes-cases}
use Rattle.judge_spec.specs.Given.{nothing_given}
use Rattle.judge_spec.specs.Fault.{Fault, Known, Outside}
use Rattle.judge_spec.specs.AllFaults.{IsNamed, IsKnownNamed, AreAllOfJudging, judging_key}
use Rattle.judge_spec.specs.FaultLines.{AreJudged, AreAllFaults}
use Rattle.judge_spec.specs.ListLaws.{ArePlainFaults, SameList, FirstOfListIsFirst}
use Rattle.judge_spec.proofs.Nothing.{none_outside, same_faults}
use Rattle.judge_spec.proofs.DeterminedTexts.{pairs_of_map, same_slots, system_and_buses}
use Rattle.judge_spec.proofs.LeastFaults.{first_has_line}

-- ---- keys

strip : (x : ℕ) (xs ys : List ℕ) → precedes (x ∷ xs) (x ∷ ys) ≡ true → precedes xs ys ≡ true
strip x xs ys h = elim (precedes-cases x x xs ys h) [
  | inl less ↦ absurd (let no : ⊥ = omega (arith, less) in no)
  | inr same ↦ same.1
]

-- the key of a fault of judging
late_key : (image_of : Slot → List ℕ) (f : plain.Fault) → 5 ≤ phase_of f → looking_key image_of f ≡ 5 ∷ order.judging_key f
late_key image_of (Unreached slot register space address bridge) late = refl
late_key image_of (Clash bus space address first fr second sr) late = refl
late_key image_of (Split space address first fr second sr) late = refl
late_key image_of _ late = absurd (let no : ⊥ = omega (arith, late) in no)

late_phase : (f : plain.Fault) → 5 ≤ phase_of f → phase_of f ≡ 5
late_phase (Unreached slot register space address bridge) late = refl
late_phase (Clash bus space address first fr second sr) late = refl
late_phase (Split space address first fr second sr) late = refl
late_phase _ late = absurd (let no : ⊥ = omega (arith, late) in no)

keys_before : (image_of : Slot → List ℕ) (f g : plain.Fault) → 5 ≤ phase_of f → 5 ≤ phase_of g
    → precedes (order.judging_key f) (order.judging_key g) ≡ true → is_before image_of f g ≡ true
keys_before image_of f g late_f late_g h =
    subst (λ k. precedes k (looking_key image_of g) ≡ true) (sym (late_key image_of f late_f))
    (subst (λ k. precedes (5 ∷ order.judging_key f) k ≡ true) (sym (late_key image_of g late_g)) (same_precedes 5 5 (order.judging_key f) (order.judging_key g) refl h))

before_keys : (image_of : Slot → List ℕ) (f g : plain.Fault) → 5 ≤ phase_of f → 5 ≤ phase_of g
    → is_before image_of f g ≡ true → precedes (order.judging_key f) (order.judging_key g) ≡ true
before_keys image_of f g late_f late_g h =
    strip 5 (order.judging_key f) (order.judging_key g)
    (subst (λ k. precedes k (5 ∷ order.judging_key g) ≡ true) (late_key image_of f late_f)
    (subst (λ k. precedes (looking_key image_of f) k ≡ true) (late_key image_of g late_g) h))

-- ---- pairs of a list

pairs_with : {X : Type 0} (R S : X → X → Type 0) (xs : List X) → ((x y : X) → Contains xs x → Contains xs y → R x y → S x y) → AllPairs R xs → AllPairs S xs
pairs_with R S xs turned pairs = λ i j d less within.
    turned (get_or xs i d) (get_or xs j d) (Contains-get_or xs i d (omega (arith, less, within))) (Contains-get_or xs j d within) (pairs i j d less within)

-- ---- what a list of all names

named_phase : (roots : List ℕ) (s : System) (f : plain.Fault) → plain_all.IsNamed roots s f → phase_of f ≡ 5
named_phase roots s f = elim f as (λ f. plain_all.IsNamed roots s f → phase_of f ≡ 5) [
  | Unreached slot register space address bridge ↦ λ named. refl
  | Clash bus space address first fr second sr ↦ λ named. refl
  | Split space address first fr second sr ↦ λ named. refl
  | _ ↦ λ named. absurd named
]

named_in : (roots : List ℕ) (s : System) (f : plain.Fault) → plain_all.IsNamed roots s f → plain.IsIn roots s f
named_in roots s f = elim f as (λ f. plain_all.IsNamed roots s f → plain.IsIn roots s f) [
  | Unreached slot register space address bridge ↦ λ named. named.there
  | Clash bus space address first fr second sr ↦ λ named. named.there
  | Split space address first fr second sr ↦ λ named. named.there
  | _ ↦ λ named. absurd named
]

same_named : (roots : List ℕ) (s : System) (f : plain.Fault) → IsNamed nothing_given roots s (Known f) ↔ plain_all.IsNamed roots s f
same_named roots s f = elim f as (λ f. IsKnownNamed nothing_given roots s f ↔ plain_all.IsNamed roots s f) [
  | Unreached slot register space a bridge ↦ (
    λ line. record {
      there = (same_faults roots s (Unreached slot register space a bridge)).0 line.there;
      first = λ sp b other u. line.first sp b other ((same_faults roots s (Unreached slot register sp b other)).1 u);
    },
    λ line. record {
      there = (same_faults roots s (Unreached slot register space a bridge)).1 line.there;
      first = λ sp b other u. line.first sp b other ((same_faults roots s (Unreached slot register sp b other)).0 u);
    },
  )
  | Clash bus space a first fr second sr ↦ (
    λ line. record {
      there = (same_faults roots s (Clash bus space a first fr second sr)).0 line.there;
      rise = line.rise;
      least = λ b slot register clash. line.least b slot register ((same_faults roots s (Clash bus space b slot register second sr)).1 clash);
    },
    λ line. record {
      there = (same_faults roots s (Clash bus space a first fr second sr)).1 line.there;
      rise = line.rise;
      least = λ b slot register clash. line.least b slot register ((same_faults roots s (Clash bus space b slot register second sr)).0 clash);
    },
  )
  | Split space a first fr second sr ↦ (
    λ line. record {
      there = (same_faults roots s (Split space a first fr second sr)).0 line.there;
      rise = line.rise;
      least = λ b slot register split. line.least b slot register ((same_faults roots s (Split space b slot register second sr)).1 split);
    },
    λ line. record {
      there = (same_faults roots s (Split space a first fr second sr)).1 line.there;
      rise = line.rise;
      least = λ b slot register split. line.least b slot register ((same_faults roots s (Split space b slot register second sr)).0 split);
    },
  )
  | _ ↦ (λ h. h, λ h. h)
]

-- nothing is outside, so each fault is known without what is given
plain_of : (roots : List ℕ) (s : System) (fs : List Fault) → ((f : Fault) → Contains fs f → IsNamed nothing_given roots s f) → (ps : List plain.Fault) × (fs ≡ map Known ps)
plain_of roots s [] each = ([], refl)
plain_of roots s (Known f ∷ fs) each =
    let rest = plain_of roots s fs (λ g has. each g (in_tail (Known f) fs g has)) in
    (f ∷ rest.0, ap (λ l. Known f ∷ l) rest.1)
plain_of roots s (Outside slot register space a ∷ fs) each =
    absurd (none_outside roots s slot register space a (each (Outside slot register space a) (in_head (Outside slot register space a) fs)).there)

of_known : Fault → plain.Fault
of_known (Known f) = f
of_known (Outside slot register space a) = SlotsDiffer slot

in_known : (ps : List plain.Fault) (f : plain.Fault) → Contains (map Known ps) (Known f) → Contains ps f
unfolding of_known
in_known ps f has =
    let made : IsMade Known ps (Known f) = in_map_to Known ps (Known f) has in
    subst (λ x. Contains ps x) (ap of_known made.is) made.has

-- ---- lists of judging

judging_plain : (roots : List ℕ) (s : System) (ps : List plain.Fault) → AreAllOfJudging nothing_given roots s (map Known ps) → plain_all.AreAllOfJudging roots s ps
judging_plain roots s ps all = record {
  each = λ f has. (same_named roots s f).0 (all.each (Known f) (in_map_from Known ps f has));
  complete = λ f named. in_known ps f (all.complete (Known f) ((same_named roots s f).1 named));
  rising = pairs_with (λ x y. IsTrue (precedes (judging_key (Known x)) (judging_key (Known y)))) (λ x y. IsTrue (precedes (order.judging_key x) (order.judging_key y))) ps
      (λ x y in_x in_y h. strip 1 (order.judging_key x) (order.judging_key y) h)
      (pairs_of_map (λ f g. IsTrue (precedes (judging_key f) (judging_key g))) Known ps all.rising);
}

pub plain_judging : (roots : List ℕ) (s : System) (ps : List plain.Fault) → plain_all.AreAllOfJudging roots s ps → AreAllOfJudging nothing_given roots s (map Known ps)
plain_judging roots s ps all = record {
  each = λ fault has.
      let made : IsMade Known ps fault = in_map_to Known ps fault has in
      subst (λ x. IsNamed nothing_given roots s x) made.is ((same_named roots s made.from).1 (all.each made.from made.has));
  complete = λ fault. elim fault as (λ fault. IsNamed nothing_given roots s fault → Contains (map Known ps) fault) [
    | Known f ↦ λ named. in_map_from Known ps f (all.complete f ((same_named roots s f).0 named))
    | Outside slot register space a ↦ λ named. absurd (none_outside roots s slot register space a named.there)
  ];
  rising = pairs_map (λ f g. IsTrue (precedes (judging_key f) (judging_key g))) Known ps
      (pairs_with (λ x y. IsTrue (precedes (order.judging_key x) (order.judging_key y))) (λ x y. IsTrue (precedes (judging_key (Known x)) (judging_key (Known y)))) ps
      (λ x y in_x in_y h. same_precedes 1 1 (order.judging_key x) (order.judging_key y) refl h) all.rising);
}

-- ---- where no fault is there that is looked for before judging

module _ (roots : List ℕ) (dump probe : List Block) (same : slots_of dump ≡ slots_of probe)
    (none_earlier : (fault : plain.Fault) → phase_of fault < 5 → IsThere roots dump probe fault → ⊥) where
  abbrev s : System
  s = system_of dump probe

  line_of_named : (f : plain.Fault) → plain_all.IsNamed roots s f → plain_lines.IsLine roots dump probe f
  line_of_named f named =
      let phase = named_phase roots s f named in
      record {
        there = there-of_in roots dump probe f same (named_in roots s f named);
        none_earlier = λ other less at. none_earlier other (omega (arith, less, phase)) at;
        first = λ early other alike before at. (let no : ⊥ = omega (arith, early, phase) in no);
        named = λ judging. named;
      }

  named_of_line : (f : plain.Fault) → plain_lines.IsLine roots dump probe f → plain_all.IsNamed roots s f
  named_of_line f line = elim (cases_lt (phase_of f) 5) [
    | inl early ↦ absurd (none_earlier f early line.there)
    | inr late ↦ line.named (late_phase f late)
  ]

  late : (f : plain.Fault) → plain_all.IsNamed roots s f → 5 ≤ phase_of f
  late f named = let phase = named_phase roots s f named in omega (arith, phase)

  all_of_judging : (ps : List plain.Fault) → plain_all.AreAllOfJudging roots s ps → plain_lines.AreAllFaults roots dump probe ps
  all_of_judging ps all = record {
    each = λ f has. line_of_named f (all.each f has);
    complete = λ f line. all.complete f (named_of_line f line);
    rising = pairs_with (λ x y. IsTrue (precedes (order.judging_key x) (order.judging_key y))) (λ x y. IsTrue (is_before (image_at s) x y)) ps
        (λ x y in_x in_y h. keys_before (image_at s) x y (late x (all.each x in_x)) (late y (all.each y in_y)) h) all.rising;
  }

  judging_of_all : (ps : List plain.Fault) → plain_lines.AreAllFaults roots dump probe ps → plain_all.AreAllOfJudging roots s ps
  judging_of_all ps all = record {
    each = λ f has. named_of_line f (all.each f has);
    complete = λ f named. all.complete f (line_of_named f named);
    rising = pairs_with (λ x y. IsTrue (is_before (image_at s) x y)) (λ x y. IsTrue (precedes (order.judging_key x) (order.judging_key y))) ps
        (λ x y in_x in_y h. before_keys (image_at s) x y (late x (named_of_line x (all.each x in_x))) (late y (named_of_line y (all.each y in_y))) h) all.rising;
  }

-- ---- the lists of a dump and its probe

module _ (roots : List ℕ) (dump probe : List Block) (is_dump : IsDump dump) (is_probe : IsDump probe) where
  same_where_none : ((fault : plain.Fault) → phase_of fault < 5 → IsThere roots dump probe fault → ⊥) → slots_of dump ≡ slots_of probe
  same_where_none none = same_slots dump probe is_dump is_probe (λ slot alone. none (SlotsDiffer slot) (omega arith) alone)

  -- where the list is empty, or begins with one of judging, none is there that is looked for before
  none_of_empty : plain_lines.AreAllFaults roots dump probe [] → (fault : plain.Fault) → phase_of fault < 5 → IsThere roots dump probe fault → ⊥
  none_of_empty all fault early there =
      first_has_line roots dump probe fault early there (λ m soon line none. in_nil m (all.complete m line))

  judged : (ps : List plain.Fault) → ((fault : plain.Fault) → phase_of fault < 5 → IsThere roots dump probe fault → ⊥) → plain_lines.AreAllFaults roots dump probe ps
      → AreJudged nothing_given roots dump probe (map Known ps)
  judged ps none all = record {
    none_earlier = none;
    all = plain_judging roots (system_of dump probe) ps (judging_of_all roots dump probe (same_where_none none) none ps all);
  }

  pub given_of_plain : (ps : List plain.Fault) → plain_lines.AreAllFaults roots dump probe ps → AreAllFaults nothing_given roots dump probe (map Known ps)
  given_of_plain [] all = inr (judged [] (none_of_empty all) all)
  given_of_plain (f ∷ rest) all =
      let line = all.each f (in_head f rest) in
      elim (cases_lt (phase_of f) 5) [
        | inl early ↦ inl record {
          early = f ∷ rest;
          some = λ empty. (let no : ⊥ = cc in no);
          before = λ g has. elim (cases_lt (phase_of f) (phase_of g)) [
            | inl later ↦ absurd ((all.each g has).none_earlier f later line.there)
            | inr le ↦ omega (arith, le, early)
          ];
          all = all;
          are = refl;
        }
        | inr late ↦ inr (judged (f ∷ rest) (λ fault early there. line.none_earlier fault (omega (arith, early, late)) there) all)
      ]

  pub plain_of_given : (fs : List Fault) → AreAllFaults nothing_given roots dump probe fs → ArePlainFaults roots dump probe fs
  plain_of_given fs (inl earlier) = record { plain_faults = earlier.early; all = earlier.all; are = earlier.are }
  plain_of_given fs (inr h) =
      let made = plain_of roots (system_of dump probe) fs h.all.each in
      record {
        plain_faults = made.0;
        all = all_of_judging roots dump probe (same_where_none h.none_earlier) h.none_earlier made.0
            (judging_plain roots (system_of dump probe) made.0 (subst (λ l. AreAllOfJudging nothing_given roots (system_of dump probe) l) made.1 h.all));
        are = made.1;
      }

pub same_list : SameList
same_list roots dump probe faults is_dump is_probe = (
  λ h. plain_of_given roots dump probe is_dump is_probe faults h,
  λ h. subst (λ l. AreAllFaults nothing_given roots dump probe l) (sym h.are) (given_of_plain roots dump probe is_dump is_probe h.plain_faults h.all),
)

-- ---- the first of the list

first_before_judging : (roots : List ℕ) (dump probe : List Block) (f : plain.Fault) (rest : List plain.Fault) → plain_lines.AreAllFaults roots dump probe (f ∷ rest)
    → phase_of f < 5 → (g : plain.Fault) → is_before (image_at (system_of dump probe)) g f ≡ true → IsThere roots dump probe g → ⊥
first_before_judging roots dump probe f rest all early g before there =
    first_has_line roots dump probe f early (all.each f (in_head f rest)).there (λ m soon line none.
    elim (in_cons_cases f rest m (all.complete m line)) [
      | inl here ↦ none g (subst (λ x. is_before (image_at (system_of dump probe)) g x ≡ true) here before) there
      | inr later ↦ none f (pairs_head (λ x y. IsTrue (is_before (image_at (system_of dump probe)) x y)) f rest m all.rising later) (all.each f (in_head f rest)).there
    ])

first_of_judging : (roots : List ℕ) (dump probe : List Block) (f : plain.Fault) (rest : List plain.Fault) → IsDump dump → IsDump probe
    → plain_lines.AreAllFaults roots dump probe (f ∷ rest) → 5 ≤ phase_of f
    → (g : plain.Fault) → is_before (image_at (system_of dump probe)) g f ≡ true → IsThere roots dump probe g → ⊥
first_of_judging roots dump probe f rest is_dump is_probe all late g before there =
    let s = system_of dump probe in
    let line = all.each f (in_head f rest) in
    let none = λ (fault : plain.Fault) (early : phase_of fault < 5) (at : IsThere roots dump probe fault). line.none_earlier fault (omega (arith, early, late)) at in
    let same = same_where_none roots dump probe is_dump is_probe none in
    let is = system_and_buses dump probe is_dump is_probe roots none in
    elim (cases_lt (phase_of g) 5) [
      | inl early ↦ none g early there
      | inr late_g ↦
          (first_line_is_first roots s f rest is.0 is.1 (judging_of_all roots dump probe same none (f ∷ rest) all)).first g
          (before_keys (image_at s) g f late_g late before) (in-of_there roots dump probe g same there)
    ]

pub first_of_list_is_first : FirstOfListIsFirst
first_of_list_is_first roots dump probe f rest is_dump is_probe all = record {
  there = (all.each f (in_head f rest)).there;
  none_before = λ g before there. elim (cases_lt (phase_of f) 5) [
    | inl early ↦ first_before_judging roots dump probe f rest all early g before there
    | inr late ↦ first_of_judging roots dump probe f rest is_dump is_probe all late g before there
  ];
}
