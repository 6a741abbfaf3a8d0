-- All faults of a dump and its probe, with what is given and told.
use Rattle.std.proofs.Common.{◌≡◌, ℕ, ◌<◌, inl, inr, List, [], ◌∷◌, Option, map, refl, sym, ◌∙◌, ap, subst, arith}
use Rattle.std.specs.Prelude.{◌↔◌, IsTrue, MatchOption}
use Rattle.std.specs.List.{Contains}
use Rattle.pci_spec.specs.Slot.{Slot}
use Rattle.pci_spec.specs.Text.{Block, IsDump}
use Rattle.pci_spec.specs.System.{System, system_of}
use Rattle.pci_spec.specs.Fault.{Orphan, IsThere, fault_number}
use Rattle.pci_spec.specs.Fault as plain
use Rattle.pci_spec.specs.Order.{phase_of, is_before, image_at, IsFirstThere}
use Rattle.pci_spec.specs.FaultLines as plain_lines
use Rattle.pci_spec.proofs.Members.{in_nil, in_head, pairs_nil}
use Rattle.pci_spec.proofs.Pairing.{in-of_there}
use Rattle.pci_function.specs.declared.fault.Fault as code
use Rattle.pci_function.specs.Fault.{fault_of}
use Rattle.pci_tree.specs.Admission.{IsOutlineFor}
use Rattle.pci_tree.specs.Outline.{Tree}
use Rattle.pci_faults.specs.Lists.{BeginsWith}
use Rattle.pci_check.proofs.FirstOfAll.{none_early}
use Rattle.judge_spec.specs.Given.{Given, TakingBridge}
use Rattle.judge_spec.specs.Fault as untold
use Rattle.judge_spec.specs.Told.{IsTold}
use Rattle.judge_spec.specs.ToldClaims.{Told}
use Rattle.judge_spec.specs.ToldFault.{Fault, Known, NotListed}
use Rattle.judge_spec.specs.ToldAllFaults.{AreAllOfJudging}
use Rattle.judge_spec.specs.ToldFaultLines.{IsEarlyThere, AreJudged, AreAllFaults}
use Rattle.judge_spec.specs.UnclaimedLaws.{with_taking}
use Rattle.judge_spec.proofs.ToldEmpty.{told_empty_where_none_fails}
use Rattle.pci_faults.specs.declared.any_fault.AnyFault.{AnyFault}
use Rattle.pci_faults.specs.AllLines as lines
use Rattle.pci_faults.specs.AllLines.{AreAllLines}
use Rattle.pci_faults.specs.Every.{AreEarlyWith, AreBefore, AreSoundAsTold, AreFound, AreReadyForJudging, AreTakenFor, IsJudgedOf}
use Rattle.pci_faults.proofs.ToldFirst.{all_not_listed}
use Rattle.pci_faults.proofs.ToldPlaces.{there_cases, all_places, no_place}
use Rattle.pci_faults.proofs.ToldEarly.{plain_twice, none_plain, all_listed, before_of_first, some_of_first}

-- what stands of the faults of judging
pub record IsEveryJudged (told : Told) (given : Given) (roots : List ℕ) (dump probe : List Block) (list : List AnyFault) : Type 0 where
  pub judged : AreJudged told given roots dump probe (map lines.any_fault_value list)
  pub none : (list ≡ []) ↔ AreSoundAsTold told given roots dump probe

pub in_all : (told : Told) (given : Given) (roots : List ℕ) (dump probe : List Block) (faults : List Fault) → AreBefore told given roots dump probe faults → AreAllFaults told given roots dump probe faults
in_all told given roots dump probe faults (inl h) = inl h
in_all told given roots dump probe faults (inr (inl h)) = inr (inl h)
in_all told given roots dump probe faults (inr (inr h)) = inr (inr (inl h))

no_fault : (list : List AnyFault) → map lines.any_fault_value list ≡ [] → list ≡ []
no_fault [] e = refl
no_fault (f ∷ rest) e = absurd (let no : ⊥ = cc in no)

none_known : (list : List untold.Fault) → map Known list ≡ [] → list ≡ []
none_known [] e = refl
none_known (f ∷ rest) e = absurd (let no : ⊥ = cc in no)

module _ (told : Told) (is_told : IsTold told.ranges) (given : Given) (roots : List ℕ) (dump probe : List Block) (is_dump : IsDump dump) where
  -- ---- where there is a fault without what is told

  pub every_of_first : (first : plain.Fault) (early : List code.Fault) (list : List AnyFault) → IsFirstThere roots dump probe first → fault_number first < 60 → plain_lines.AreAllFaults roots dump probe (map fault_of early)
      → BeginsWith first (map fault_of early) → AreEarlyWith told.ranges roots dump early (map lines.any_fault_value list) → AreFound told given roots dump probe (map lines.any_fault_value list)
  every_of_first first early list is low all begins with = record {
    some = some_of_first told is_told given roots dump probe is_dump first is low early all begins (map lines.any_fault_value list) with;
    before = before_of_first told is_told given roots dump probe is_dump first is low early all begins (map lines.any_fault_value list) with;
    unsound = λ are. none_early roots (system_of dump probe) are.sound.nested are.sound.profile are.sound.chains first (soon first low) (in-of_there roots dump probe first are.slots is.there);
    unready = λ ready. ready.none_earlier first (soon first low) (early_is first is.there);
  } where
    early_is : (f : plain.Fault) → IsThere roots dump probe f → IsEarlyThere told roots dump probe f
    early_is f = elim f as (λ f. IsThere roots dump probe f → IsEarlyThere told roots dump probe f) [
      | Orphan slot ↦ λ there. inl there
      | _ ↦ λ there. there
    ]

    soon : (f : plain.Fault) → fault_number f < 60 → phase_of f < 5
    soon (plain.Unreached slot register space a bridge) low = absurd (let no : ⊥ = omega (arith, low) in no)
    soon (plain.Clash bus space a first fr second sr) low = absurd (let no : ⊥ = omega (arith, low) in no)
    soon (plain.Split space a first fr second sr) low = absurd (let no : ⊥ = omega (arith, low) in no)
    soon _ low = omega arith

  -- ---- where there is none

  module _ (o : Tree) (outline : IsOutlineFor record { roots = roots; dump = dump; probe = probe } o) where
    abbrev s : System
    s = system_of dump probe

    none_there : (f : plain.Fault) → phase_of f < 5 → IsThere roots dump probe f → ⊥
    none_there f early there =
        let admitted = outline.admitted in
        none_early roots s admitted.nested admitted.profile admitted.chains f early (in-of_there roots dump probe f admitted.slots there)

    there : (f : plain.Fault) → Contains (map fault_of []) f → IsThere roots dump probe f × (phase_of f ≡ 4)
    there f has = absurd (in_nil f has)

    complete : (f : plain.Fault) → phase_of f < 5 → IsThere roots dump probe f → Contains (map fault_of []) f
    complete f early is = absurd (none_there f early is)

    abbrev Before : plain.Fault → plain.Fault → Type 0
    Before f g = IsTrue (is_before (image_at s) f g)

    -- some are told
    before_of_told : (faults : List Fault) → AreEarlyWith told.ranges roots dump [] faults → (faults ≡ [] → ⊥) → AreBefore told given roots dump probe faults
    before_of_told faults (inl alone) some = absurd (let e = alone.phase in let no : ⊥ = omega (arith, e) in no)
    before_of_told faults (inr (inl not)) some =
        let same = outline.admitted.slots in
        inr (inl record { same = same; slots = not.slots; some = not.some; all = all_not_listed told dump probe same not.slots not.all; are = not.are })
    before_of_told faults (inr (inr (inl h))) some = absurd (let e = h.soon in let no : ⊥ = omega (arith, e) in no)
    before_of_told faults (inr (inr (inr h))) some =
        let same = outline.admitted.slots in
        inr (inr record {
          same = same;
          listed = all_listed told is_told given roots dump probe is_dump same h.listed;
          early = map fault_of h.with;
          some = λ none. some (h.are ∙ plain_twice h.with ∙ ap (map (λ f. Known (untold.Known f))) none);
          all = all_places told is_told roots dump probe is_dump same [] there complete (pairs_nil Before) h.orphans h.all h.with h.added;
          are = h.are ∙ plain_twice h.with;
        })

    -- so judging isn't begun
    unready : (faults : List Fault) → AreEarlyWith told.ranges roots dump [] faults → (faults ≡ [] → ⊥) → AreReadyForJudging told roots dump probe → ⊥
    unready faults (inl alone) some ready = let e = alone.phase in omega (arith, e)
    unready faults (inr (inl not)) some ready =
        let all = all_not_listed told dump probe outline.admitted.slots not.slots not.all in
        some_slot not.slots not.some (λ slot has. ready.listed slot (all.each slot has))
      where
        some_slot : (slots : List Slot) → (slots ≡ [] → ⊥) → ((slot : Slot) → Contains slots slot → ⊥) → ⊥
        some_slot [] some none = some refl
        some_slot (slot ∷ rest) some none = none slot (in_head slot rest)
    unready faults (inr (inr (inl h))) some ready = let e = h.soon in omega (arith, e)
    unready faults (inr (inr (inr h))) some ready =
        let all = all_places told is_told roots dump probe is_dump outline.admitted.slots [] there complete (pairs_nil Before) h.orphans h.all h.with h.added in
        some_fault (map fault_of h.with) (λ none. some (h.are ∙ plain_twice h.with ∙ ap (map (λ f. Known (untold.Known f))) none))
        (λ f has. (let line = all.each f has in ready.none_earlier f line.early line.there))
      where
        some_fault : (fs : List plain.Fault) → (fs ≡ [] → ⊥) → ((f : plain.Fault) → Contains fs f → ⊥) → ⊥
        some_fault [] some none = some refl
        some_fault (f ∷ rest) some none = none f (in_head f rest)

    -- which it is for each sound system
    ready_of : AreSoundAsTold told given roots dump probe → AreReadyForJudging told roots dump probe
    ready_of sound = record {
      listed = sound.sound.listed;
      none_earlier = λ f early is. elim (there_cases told is_told roots dump probe is_dump sound.slots f is) [
        | inl plain ↦ none_there f early plain
        | inr (slot, at, held) ↦ sound.sound.led_to slot held
      ];
    }

    pub every_of_told : (list : List AnyFault) → AreEarlyWith told.ranges roots dump [] (map lines.any_fault_value list) → (list ≡ [] → ⊥) → AreFound told given roots dump probe (map lines.any_fault_value list)
    every_of_told list with some = record {
      some = λ none. some (no_fault list none);
      before = before_of_told (map lines.any_fault_value list) with (λ none. some (no_fault list none));
      unsound = λ sound. unready (map lines.any_fault_value list) with (λ none. some (no_fault list none)) (ready_of sound);
      unready = unready (map lines.any_fault_value list) with (λ none. some (no_fault list none));
    }

    -- none is told: judging is begun
    pub judgeable : (faults : List Fault) → AreEarlyWith told.ranges roots dump [] faults → faults ≡ [] → AreReadyForJudging told roots dump probe
    judgeable faults (inl alone) none = absurd (let e = alone.phase in let no : ⊥ = omega (arith, e) in no)
    judgeable faults (inr (inl not)) none = absurd (not.some (none_unlisted not.slots (sym not.are ∙ none)))
      where
        none_unlisted : (slots : List Slot) → map NotListed slots ≡ [] → slots ≡ []
        none_unlisted [] e = refl
        none_unlisted (slot ∷ slots) e = absurd (let no : ⊥ = cc in no)
    judgeable faults (inr (inr (inl h))) none = absurd (let e = h.soon in let no : ⊥ = omega (arith, e) in no)
    judgeable faults (inr (inr (inr h))) none =
        let same = outline.admitted.slots in record {
          listed = all_listed told is_told given roots dump probe is_dump same h.listed;
          none_earlier = no_place told is_told roots dump probe is_dump same [] there complete (pairs_nil Before) h.orphans h.all h.with h.added (none_plain h.with (sym h.are ∙ none));
        }

-- ---- and where judging is begun

pub every_of_ready : (told : Told) → IsTold told.ranges → (given : Given) (roots : List ℕ) (dump probe : List Block) (o : Tree) → IsOutlineFor record { roots = roots; dump = dump; probe = probe } o → AreReadyForJudging told roots dump probe → (list : List AnyFault) → AreAllLines told given o list → IsEveryJudged told given roots dump probe list
every_of_ready told is_told given roots dump probe o outline ready list all_lines =
    let s = system_of dump probe in
    let admitted = outline.admitted in
    let all = subst (λ roots. AreAllOfJudging told given roots s all_lines.judged) outline.roots (all_lines.all s record { system = admitted.system; records = outline.records } ready.listed) in
    let empty = told_empty_where_none_fails told given roots s all_lines.judged is_told admitted.system admitted.nested ready.listed all in
    record {
      judged = record {
        same = admitted.slots;
        listed = ready.listed;
        none_earlier = ready.none_earlier;
        judged = all_lines.judged;
        all = all;
        are = all_lines.are;
      };
      none = (
        λ none.
            let sound = empty.0 (none_known all_lines.judged (sym all_lines.are ∙ ap (map lines.any_fault_value) none)) in record {
              slots = admitted.slots;
              sound = record {
                single = sound.0;
                home = sound.1;
                nested = admitted.nested;
                profile = admitted.profile;
                chains = admitted.chains;
                listed = ready.listed;
                led_to = λ slot held. ready.none_earlier (Orphan slot) (omega arith) (inr held);
              };
            },
        λ are. no_fault list (all_lines.are ∙ ap (map Known) (empty.1 (are.sound.single, are.sound.home))),
      );
    }

-- ---- with what bridges take

-- what stands then of the faults, of what is taken, and of what was judged
pub record IsEveryWith (told : Told) (given : Given) (roots : List ℕ) (slots : List Slot) (dump probe : List Block) (judged : Option Tree) (bridges : List TakingBridge) (list : List AnyFault) : Type 0 where
  pub taken : AreTakenFor told given roots dump probe slots bridges
  pub every : IsEveryJudged told (with_taking bridges given) roots dump probe list
  pub outline : MatchOption judged (AreBefore told (with_taking bridges given) roots dump probe (map lines.any_fault_value list))
      (λ o. AreJudged told (with_taking bridges given) roots dump probe (map lines.any_fault_value list) × IsOutlineFor record { roots = roots; dump = dump; probe = probe } o)

pub every_of_judged : (told : Told) → IsTold told.ranges → (given : Given) (roots : List ℕ) (slots : List Slot) (dump probe : List Block) (o : Tree) → IsOutlineFor record { roots = roots; dump = dump; probe = probe } o → AreReadyForJudging told roots dump probe
    → (judged : Option Tree) (bridges : List TakingBridge) (list : List AnyFault) → IsJudgedOf told given slots o judged bridges list → IsEveryWith told given roots slots dump probe judged bridges list
every_of_judged told is_told given roots slots dump probe o outline ready judged bridges list is =
    let with = with_taking bridges given in
    let every = every_of_ready told is_told with roots dump probe o outline ready list is.all in
    record {
      taken = λ _. is.taken (system_of dump probe) record { system = outline.admitted.system; records = outline.records };
      every = every;
      outline = subst (λ (j : Option Tree). MatchOption j (AreBefore told with roots dump probe (map lines.any_fault_value list))
          (λ o. AreJudged told with roots dump probe (map lines.any_fault_value list) × IsOutlineFor record { roots = roots; dump = dump; probe = probe } o)) (sym is.tree) (every.judged, outline);
    }
