-- Settling with room behind slots: beside wishes it ends as without, and what it comes to can be settled, as told, too.
use Rattle.std.proofs.Common.{◌≡◌, ◌<◌, ◌≤◌, ◌^◌, ◌⊎◌, ℕ, inl, inr, take, List, [], ◌∷◌, length, map, Bool, true, false, cond, refl, sym, ◌∙◌, ap, subst}
use Rattle.std.specs.List.{All, Contains}
use Rattle.std.proofs.lemmas.List.Elements.{All-contains, All-map}
use Rattle.std.proofs.lemmas.Bool.{cond_both}
use Rattle.pci_spec.specs.Slot.{Slot}
use Rattle.pci_spec.specs.Text.{Block}
use Rattle.pci_spec.specs.Machine.{Write, system_after}
use Rattle.pci_spec.specs.Sound.{IsSound}
use Rattle.pci_spec.specs.System.{System, system_of}
use Rattle.judge_spec.specs.Told.{IsTold}
use Rattle.settle_spec.specs.Lists.{RootRange, Request, are_bad_lists}
use Rattle.settle_spec.specs.Items.{spare_of}
use Rattle.settle_spec.specs.Writes.{Settled}
use Rattle.settle_spec.specs.Kept.{Kept}
use Rattle.settle_spec.specs.Keeping.Writes.{closings, settle_writes, settle_keeping}
use Rattle.settle_spec.specs.Growing.{settle_growing, finally_kept}
use Rattle.settle_spec.specs.Wishes.{Granted, with_all_spares, granted}
use Rattle.settle_spec.specs.Sparing.{without_slots, is_settled, have_spares, granted_beside}
use Rattle.settle_laws.specs.StandingTold.Kept.{LinesAreForward}
use Rattle.settle_laws.specs.Keeping.PlacesLaws.{CanSettle}
use Rattle.settle_laws.specs.ToldSoundLaws.{IsSoundAsTold, IsToldOf, KeepsTold}
use Rattle.settle_laws.specs.ToldSoundLaws as law
use Rattle.settle_laws.proofs.Told.Ended.{keeps_told}
use Rattle.settle_laws.proofs.Told.Forward.{told_forward}
use Rattle.settle_laws.proofs.Told.Settling.{wishes_can}
use Rattle.settle_laws.proofs.Told.Slots.{stand_alike}
use Rattle.settle_laws.proofs.Told.Wished.{settled_wished}
use Rattle.pci_base.specs.declared.range.RootRange.{RootRange as CodeRange}
use Rattle.pci_first_fit.specs.Lists.{root_range_value}
use Rattle.pci_tree.specs.Admission.{Admission, IsAdmitted}
use Rattle.pci_place.specs.Above.{system_in}
use Rattle.pci_plan.specs.Moves.{IsMove}
use Rattle.pci_settle.specs.AsTold.{HasLines, EndsAsTold, StopsAsTold, ReachesAlways, AlwaysReaches, EndsOffLines}
use Rattle.pci_settle.specs.Dumps.{IsSettledDump}
use Rattle.pci_settle.specs.Denied.{slot_and_offset_of, IsPlacingRequest, IsSpared}
use Rattle.pci_settle.specs.Ended.{Ended, IsEndOfSettling}
use Rattle.pci_settle.specs.Endings.{kept_after}
use Rattle.pci_settle.specs.Sparing.{IsWishedFor}
use Rattle.pci_settle.specs.Wishes.{behind_slots}
use Rattle.pci_settle.proofs.Endings.{ends_fine}
use Rattle.pci_settle.proofs.Written.{writes_beside}
use Rattle.pci_settle.proofs.Outcomes.{settles, ended}
use Rattle.pci_settle.proofs.SettledSound.{dump_sound, settled_moves, writes_reach, writes_stop, dump_off_lines, dump_as_told, stop_as_told, stop_reaches}

-- the dump is sound, the writes lead there, and may stop
pub record IsSoundlySpared (a : Admission) (dump : List Block) (writes : List Write) (count : ℕ) : Type 0 where
  pub sound : IsSound a.roots (system_of dump a.probe)
  pub reached : system_after (system_in a) writes ≡ system_of dump a.probe
  pub stops : (k : ℕ) → (count ≤ k) ⊎ IsSound a.roots (system_in a) → IsSound a.roots (system_after (system_in a) (take k writes))
  pub moves : IsMove record { start = a; dump = dump; writes = writes; safe_from = count }

-- and so it is as told: the end is off lines, and each stop reaches what is answered always
pub record IsSparedAsTold (q : Request) (a : Admission) (dump : List Block) (writes : List Write) (count : ℕ) : Type 0 where
  pub sound : EndsAsTold q (system_in a) (system_of dump a.probe)
  pub stops : StopsAsTold q (system_in a) writes count
  pub always : AlwaysReaches q (system_in a) writes
  pub off : EndsOffLines q (system_in a) (system_of dump a.probe)

-- ranges of a list end in 64 bits
pub highest_of : (ranges : List CodeRange) → All (λ r. r.range.last < 2 ^ 64) ranges → (r : RootRange) → Contains (map root_range_value ranges) r → r.range.last < 2 ^ 64
highest_of ranges small r inside =
    All-contains (λ (x : RootRange). x.range.last < 2 ^ 64) (map root_range_value ranges) r (All-map (λ (x : RootRange). x.range.last < 2 ^ 64) root_range_value ranges small) inside

either_way : {T : Type 0} (b : Bool) (x : T) → cond b x x ≡ x
either_way true x = refl
either_way false x = refl

-- without slots no wish changes anything
no_wishes : (q p : Request) (s : System) (g : Granted) (more : System) → with_all_spares p s (spare_of (without_slots q)) g more ≡ g
no_wishes q p s g [] = refl
no_wishes q p s g (f ∷ more) = no_wishes q p s g more

module _ (a : Admission) (admitted : IsAdmitted a) (q : Request) (roots_are : q.roots ≡ a.roots) (fine : are_bad_lists q.roots q.lists ≡ false)
    (high : (r : RootRange) → Contains q.lists.prefetch r → r.range.last < 2 ^ 64) where
  abbrev s : System
  s = system_in a

  asked_for : (slots : List Slot) → law.IsAdmittedSystem (behind_slots q slots) s
  asked_for slots = subst (λ roots. law.IsAdmittedSystem record { roots = roots; lists = q.lists; fixed = q.fixed; anew = q.anew; slots = slots; spares = q.spares; told = q.told } s) (sym roots_are)
      record { high = high; system = admitted.system; nested = admitted.nested; profile = admitted.profile; chains = admitted.chains }

  -- ---- with what is kept as new windows are placed

  module _ (slots : List Slot) (o : Ended) (is : IsEndOfSettling (behind_slots q slots) (kept_after (behind_slots q slots) s) a o) where
    abbrev p : Request
    p = behind_slots q slots

    abbrev k : Kept
    k = finally_kept p s

    abbrev j : Kept
    j = (granted p s (spare_of q) k).kept

    last : IsEndOfSettling p k a o
    last = ended a p fine o is

    pub grows : is_settled (settle_growing p s) ≡ true
    grows = ap is_settled (settles a p fine o is)

    wished_ends : settle_keeping p s j ≡ Settled (settle_writes p s j)
    wished_ends = settled_wished p q s (asked_for slots) grows

    pub spared : (dump : List Block) (writes : List Write) (count : ℕ) (denied : List (Slot × ℕ)) → IsWishedFor q slots k a dump writes count denied → IsPlacingRequest a q p
        → is_settled (settle_growing (without_slots q) s) ≡ true → IsSpared q a dump writes count denied
    spared dump writes count denied w placing without = record {
      placing = p;
      placing_is = placing;
      without = without;
      dump_is = w.by.settled;
      ends = wished_ends ∙ ap Settled (sym w.by.writes_are);
      closing = w.by.closing;
      denied_are = w.denied_are;
    }

  -- ---- where no bridge has a slot

  module _ (o : Ended) (is : IsEndOfSettling (without_slots q) (kept_after (without_slots q) s) a o) where
    pub unspared : IsSpared (without_slots q) a o.dump o.writes o.closings []
    unspared =
        let w = without_slots q in
        let last = ended a w fine o is in
        let none = no_wishes q w s record { kept = finally_kept w s; denied = [] } s in
        record {
          placing = w;
          placing_is = inl (sym (either_way (have_spares w s) w));
          without = ap is_settled (settles a w fine o is);
          dump_is = subst (λ (g : Granted). IsSettledDump w g.kept a o.dump) (sym none) last.by.settled;
          ends = ap (λ (g : Granted). settle_keeping w s g.kept) none ∙ ends_fine w s (finally_kept w s) fine ∙ last.ends;
          closing = subst (λ (g : Granted). o.closings ≡ length (closings w s g.kept s)) (sym none) last.by.closing;
          denied_are = subst (λ (g : Granted). [] ≡ map slot_and_offset_of g.denied) (sym none) refl;
        }

  -- ---- so it can be settled

  module _ (dump : List Block) (writes : List Write) (count : ℕ) (denied : List (Slot × ℕ)) (x : IsSpared q a dump writes count denied) where
    of_placing : (P : Request → Type 0) → P (without_slots q) → P q → P x.placing
    of_placing P bare own = elim x.placing_is [
      | inl placed ↦ subst P (sym placed) (cond_both (have_spares q s) q (without_slots q) P (λ spares. own) (λ none. bare))
      | inr large ↦ subst P (sym large.1) bare
    ]

    placing_roots : x.placing.roots ≡ a.roots
    placing_roots = of_placing (λ p. p.roots ≡ a.roots) roots_are roots_are

    abbrev then_kept : Kept
    then_kept = (granted_beside q x.placing s).kept

    can_spared : CanSettle x.placing s then_kept
    can_spared = (wishes_can x.placing q s (of_placing (λ p. law.IsAdmittedSystem p s) (asked_for []) (asked_for q.slots)) writes x.ends).1

    writes_are : (p : Request) (j : Kept) → settle_keeping p s j ≡ Settled writes → writes ≡ settle_writes p s j
    writes_are p j is = sym (writes_beside p s j writes is)

    are : writes ≡ settle_writes x.placing s then_kept
    are = writes_are x.placing then_kept x.ends

    pub soundly : IsSoundlySpared a dump writes count
    soundly = record {
      sound = dump_sound a admitted x.placing placing_roots then_kept can_spared dump x.dump_is;
      reached = writes_reach a admitted x.placing placing_roots then_kept can_spared dump x.dump_is writes are;
      stops = writes_stop a admitted x.placing placing_roots then_kept can_spared dump x.dump_is writes are count x.closing;
      moves = settled_moves a admitted x.placing placing_roots then_kept can_spared dump x.dump_is writes are count x.closing;
    }

    -- ---- as told: slots say nothing of what is told, and nothing of what stands

    module _ (lawful : IsTold q.told.ranges) (awake : q.told.asleep ≡ []) where
      keeps : KeepsTold x.placing s then_kept
      keeps = keeps_told x.placing s then_kept writes x.ends

      told_of : HasLines q s → IsToldOf x.placing s
      told_of has = of_placing (λ p. IsToldOf p s)
          record { lawful = lawful; awake = awake; listed = has.listed; led_to = has.led_to }
          record { lawful = lawful; awake = awake; listed = has.listed; led_to = has.led_to }

      as_asked : (t : System) → IsSoundAsTold x.placing t → IsSoundAsTold q t
      as_asked t = of_placing (λ p. IsSoundAsTold p t → IsSoundAsTold q t) (λ sound. sound) (λ sound. sound)

      as_placed : (t : System) → IsSoundAsTold q t → IsSoundAsTold x.placing t
      as_placed t = of_placing (λ p. IsSoundAsTold q t → IsSoundAsTold p t) (λ sound. sound) (λ sound. sound)

      reaches : (t : System) → ReachesAlways x.placing t → ReachesAlways q t
      reaches t = of_placing (λ p. ReachesAlways p t → ReachesAlways q t) (λ all. all) (λ all. all)

      forward : LinesAreForward x.placing
      forward = of_placing LinesAreForward (told_forward q lawful) (told_forward q lawful)

      unslotted : (t : System) → EndsOffLines (without_slots q) s t → EndsOffLines q s t
      unslotted t all r y listed is_told shares =
          let h = all r y listed is_told shares in
          record {
            f = h.f;
            listed = h.listed;
            slot_is = h.slot_is;
            off = h.off;
            stood = sym (stand_alike q [] s record { function = h.f; part = r.part }) ∙ h.stood;
            first = h.first;
            shares = h.shares;
          }

      off : (t : System) → EndsOffLines x.placing s t → EndsOffLines q s t
      off t = of_placing (λ p. EndsOffLines p s t → EndsOffLines q s t) (unslotted t) (λ all. all)

      pub as_told : IsSparedAsTold q a dump writes count
      as_told = record {
        sound = λ has. as_asked (system_of dump a.probe) (dump_as_told a admitted x.placing placing_roots then_kept can_spared (told_of has) keeps dump x.dump_is);
        stops = λ has k from. as_asked (system_after s (take k writes))
            (stop_as_told a admitted x.placing placing_roots then_kept can_spared (told_of has) keeps writes are count x.closing k
            (elim from [ inl past ↦ inl past | inr sound ↦ inr (as_placed s sound) ]));
        always = λ has k. reaches (system_after s (take k writes)) (stop_reaches a admitted x.placing placing_roots then_kept can_spared (told_of has) keeps writes are k);
        off = off (system_of dump a.probe) (dump_off_lines a admitted x.placing placing_roots then_kept can_spared dump x.dump_is forward);
      }
