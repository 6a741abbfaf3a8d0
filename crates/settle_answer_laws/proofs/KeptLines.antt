-- The ranges that settling by words keeps off are of slots that are listed, and somebody leads to the bus of each held one.
use Rattle.std.proofs.Common.{◌≡◌, ℕ, inl, inr, Bool, true, false, List, [], map, refl, sym, ◌∙◌, ap, subst, arith}
use Rattle.std.specs.Prelude.{IsFalse, IsTrue, not}
use Rattle.std.specs.List.{Contains}
use Rattle.std.proofs.lemmas.Bool.{both_ways, not-true}
use Rattle.pci_spec.specs.Bus.{is_led_to}
use Rattle.pci_spec.specs.Fault.{Orphan}
use Rattle.pci_spec.specs.Slot.{Slot}
use Rattle.pci_spec.specs.System.{Function, System, system_of}
use Rattle.pci_spec.specs.Text.{Block, slots_of}
use Rattle.pci_spec.proofs.Members.{in_map_from, in_map_to, in_nil}
use Rattle.pci_spec.proofs.Nesting.{led_where_nested}
use Rattle.pci_spec.proofs.Pairing.{slots-system_of}
use Rattle.judge_spec.specs.Told.{ToldRange}
use Rattle.judge_spec.specs.ToldClaims.{Told, is_marked_held}
use Rattle.judge_spec.specs.ToldFault.{IsHeldOrphan, IsNotListed}
use Rattle.pci_model.specs.declared.words.Words.{Words}
use Rattle.pci_model_settle.specs.ClaimLines.{lines_with, own_lines}
use Rattle.pci_model_settle.specs.OffDevices.{device_lines, functions_without}
use Rattle.pci_tree.specs.Admission.{IsAdmitted}
use Rattle.pciplan_tasks.specs.SettleAnswers.{IsReadyAsTold}
use Rattle.pciplan_tasks.specs.WordsSettling.{claims_by}
use Rattle.settle_answer_laws.specs.LeftOutLaws.{AreOffDevices}
use Rattle.settle_answer_laws.proofs.LeavingOut.{pairs_without}
use Rattle.settle_answer_laws.proofs.LeftOut.{led_same, slots_are}
use Rattle.settle_answer_laws.proofs.LineSources.{line_source}

not_both : (b : Bool) → b ≡ true → b ≡ false → ⊥
not_both b on off = both_ways b off on

module _ (ranges : List ToldRange) (roots : List ℕ) (w : Words) (dump taken taken_probe : List Block) (left : List Slot)
    (ready : IsReadyAsTold record { ranges = ranges; asleep = [] } roots taken taken_probe) (same : slots_of dump ≡ slots_of taken)
    (admitted : IsAdmitted record { roots = roots; dump = taken; probe = taken_probe }) (off : AreOffDevices left (system_of taken taken_probe)) where
  abbrev t : System
  t = system_of taken taken_probe

  abbrev s : System
  s = functions_without left t

  abbrev kept : Told
  kept = record { ranges = lines_with (own_lines ranges (device_lines left t)) (claims_by w dump); asleep = [] }

  slots_same : map (λ (f : Function). f.slot) s ≡ map (λ (f : Function). f.slot) t
  slots_same = slots_are t s (pairs_without left t off)

  pub all_listed : (slot : Slot) → IsNotListed kept s slot → ⊥
  all_listed slot n = elim (line_source ranges left t w dump n.r n.is_told) [
    | inl user ↦ elim ready [
      | inl none ↦ in_nil user.range (subst (λ rs. Contains rs user.range) none user.listed)
      | inr are ↦ are.listed slot record {
        r = user.range;
        is_told = user.listed;
        not_held = subst (λ m. IsFalse (is_marked_held m)) user.mark n.not_held;
        of_slot = sym user.slot ∙ n.of_slot;
        not_listed = λ has. n.not_listed (subst (λ slots. Contains slots slot) (sym slots_same) has);
      }
    ]
    | inr other ↦ elim other [
      | inl device ↦
          let has = subst (λ slots. Contains slots device.f.slot) (sym slots_same) (in_map_from (λ (f : Function). f.slot) t device.f device.listed) in
          n.not_listed (subst (Contains (map (λ (f : Function). f.slot) s)) (sym device.slot ∙ n.of_slot) has)
      | inr bridge ↦ not_both (is_marked_held n.r.mark) (ap is_marked_held bridge.mark) n.not_held
    ]
  ]

  led : (slot : Slot) → is_led_to roots t slot.bus ≡ true → IsTrue (not (is_led_to roots s slot.bus)) → ⊥
  led slot there none = both_ways (is_led_to roots s slot.bus) (not-true _ none) (led_same t s (pairs_without left t off) roots slot.bus ∙ there)

  -- the bus of a function of the dump
  led_at : (f : Function) → Contains (system_of dump dump) f → is_led_to roots t f.slot.bus ≡ true
  led_at f listed =
      let slots : map (λ (f : Function). f.slot) (system_of dump dump) ≡ map (λ (f : Function). f.slot) t
      = slots-system_of dump dump refl ∙ same ∙ sym (slots-system_of taken taken_probe admitted.slots) in
      let there = in_map_to (λ (f : Function). f.slot) t f.slot (subst (λ l. Contains l f.slot) slots (in_map_from (λ (f : Function). f.slot) (system_of dump dump) f listed)) in
      subst (λ (slot : Slot). is_led_to roots t slot.bus ≡ true) there.is (led_where_nested roots t admitted.nested there.from there.has)

  pub all_led_to : (slot : Slot) → IsHeldOrphan kept roots s slot → ⊥
  all_led_to slot o = elim (line_source ranges left t w dump o.r o.is_told) [
    | inl user ↦ elim ready [
      | inl none ↦ in_nil user.range (subst (λ rs. Contains rs user.range) none user.listed)
      | inr are ↦ are.none_earlier (Orphan slot) (omega arith) (inr record {
        r = user.range;
        is_told = user.listed;
        held = subst (λ m. IsTrue (is_marked_held m)) user.mark o.held;
        of_slot = sym user.slot ∙ o.of_slot;
        not_led_to = subst (λ b. IsTrue (not b)) (led_same t s (pairs_without left t off) roots slot.bus) o.not_led_to;
      })
    ]
    | inr other ↦ elim other [
      | inl device ↦ not_both (is_marked_held o.r.mark) o.held (ap is_marked_held device.mark)
      | inr bridge ↦ led slot (subst (λ (at : Slot). is_led_to roots t at.bus ≡ true) (sym bridge.slot ∙ o.of_slot) (led_at bridge.f bridge.listed)) o.not_led_to
    ]
  ]
