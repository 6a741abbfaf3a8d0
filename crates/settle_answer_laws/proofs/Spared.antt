-- What is settled with room behind slots is what the laws of stops speak of.
use Rattle.std.proofs.Common.{◌≡◌, ℕ, inl, inr, List, cond, length, sym, ◌∙◌, ap, subst}
use Rattle.std.proofs.lemmas.Bool.{cond_both}
use Rattle.pci_spec.specs.Bus.{IsNested}
use Rattle.pci_spec.specs.Machine.{Write}
use Rattle.pci_spec.specs.Slot.{Slot}
use Rattle.pci_spec.specs.Sound.{IsInProfile}
use Rattle.pci_spec.specs.System.{System}
use Rattle.pci_spec.specs.Text.{Block}
use Rattle.settle_spec.specs.Growing.{settle_growing}
use Rattle.settle_spec.specs.Kept.{Kept}
use Rattle.settle_spec.specs.Keeping.Writes.{closings, settle_keeping}
use Rattle.settle_spec.specs.Lists.{Request}
use Rattle.settle_spec.specs.Sparing.{without_slots, have_spares, placing_request, granted_beside, settle_wished}
use Rattle.settle_spec.specs.Writes.{Settled}
use Rattle.settle_laws.specs.ToldSoundLaws.{CanAskTold}
use Rattle.settle_laws.proofs.Told.Settling.{settled_can_settle, wishes_can}
use Rattle.pci_tree.specs.Admission.{Admission}
use Rattle.pci_place.specs.Above.{system_in}
use Rattle.pci_settle.specs.Denied.{IsSpared}
use Rattle.settle_answer_laws.specs.SparedLaws.{LawfulCanBeAsked, SparedCanSettle, IsSettledWithClosings, SparedIsSettled}

pub can_be_asked : LawfulCanBeAsked
can_be_asked q a is = record {
  admitted = record {
    high = is.high;
    system = is.admitted.system;
    nested = subst (λ roots. IsNested roots (system_in a)) (sym is.roots_are) is.admitted.nested;
    profile = subst (λ roots. IsInProfile roots (system_in a)) (sym is.roots_are) is.admitted.profile;
    chains = is.admitted.chains;
  };
  told = record { lawful = is.lawful; awake = is.awake; listed = is.lines.listed; led_to = is.lines.led_to };
}

module _ (q : Request) (a : Admission) (dump : List Block) (writes : List Write) (count : ℕ) (denied : List (Slot × ℕ)) (x : IsSpared q a dump writes count denied) where
  abbrev s : System
  s = system_in a

  abbrev kept : Request → Kept
  kept p = (granted_beside q p s).kept

  -- what is asked of new windows can be asked for, with slots and without
  placing_asked : CanAskTold q s → CanAskTold x.placing s
  placing_asked may =
      let told = may.told in
      let bare : CanAskTold (without_slots q) s = record {
        admitted = record { high = may.admitted.high; system = may.admitted.system; nested = may.admitted.nested; profile = may.admitted.profile; chains = may.admitted.chains };
        told = record { lawful = told.lawful; awake = told.awake; listed = told.listed; led_to = told.led_to };
      } in
      elim x.placing_is [
        | inl placed ↦ subst (λ p. CanAskTold p s) (sym placed) (cond_both (have_spares q s) q (without_slots q) (λ p. CanAskTold p s) (λ spares. may) (λ none. bare))
        | inr large ↦ subst (λ p. CanAskTold p s) (sym large.1) bare
      ]

  -- new windows are placed as it is said, and settling comes to these writes
  placed_so : x.placing ≡ placing_request q s → IsSettledWithClosings q a writes count
  placed_so placed = record {
    ended = ap (λ b. cond b (settle_wished q s) (settle_growing (without_slots q) s)) x.without
        ∙ subst (λ p. settle_keeping p s (kept p) ≡ Settled writes) placed x.ends;
    closing = subst (λ p. count ≡ length (closings p s (kept p) s)) placed x.closing;
  }

pub spared_can_settle : SparedCanSettle
spared_can_settle q a dump writes count denied is x =
    let may = placing_asked q a dump writes count denied x (can_be_asked q a is) in
    let can = (wishes_can x.placing q (system_in a) may.admitted writes x.ends).1 in
    settled_can_settle x.placing (system_in a) (granted_beside q x.placing (system_in a)).kept writes may can.sound x.ends

pub spared_is_settled : SparedIsSettled
spared_is_settled q a dump writes count denied x = elim x.placing_is [
  | inl placed ↦ inr (placed_so q a dump writes count denied x placed)
  | inr large ↦ inl large.0
]
