-- Where words take the dump after all printed writes as sound, they take the dump at each stop as sound.
use Rattle.std.proofs.Common.{◌≡◌, ◌⊎◌, ◌≤◌, ◌<◌, ℕ, List, [], ◌∷◌, true, Option, None, Some, inl, inr, refl, sym, ◌∙◌, ap, subst, length, map, take}
use Rattle.std.specs.List.{Contains}
use Rattle.std.proofs.Math.Seq.{take-length}
use Rattle.std.proofs.lemmas.Bool.{cases_Bool, false_from_ne_true}
use Rattle.pci_spec.specs.Slot.{Slot}
use Rattle.pci_spec.specs.Header.{bar_count, bar_register, layout, rom_register}
use Rattle.pci_spec.specs.Bar.{BarFault, bar_fault}
use Rattle.pci_spec.specs.Bar as bars
use Rattle.pci_spec.specs.Rom.{breaks_rom_rule}
use Rattle.pci_spec.specs.Fault.{BarType, BarMask, BarPair, RomMask}
use Rattle.pci_spec.specs.Machine.{Write, system_after, write_function}
use Rattle.pci_spec.specs.Sound.{IsInProfile}
use Rattle.pci_spec.specs.System.{Function, System, system_of}
use Rattle.pci_spec.specs.Text.{Block}
use Rattle.pci_spec.proofs.Members.{in_map_from, in_map_to}
use Rattle.plan_spec.proofs.Planning.Settled.{function_after, system_by_function}
use Rattle.judge_spec.specs.Given.{Given}
use Rattle.judge_spec.specs.ToldClaims.{Told}
use Rattle.judge_spec.specs.ToldSound.{IsSound}
use Rattle.settle_spec.specs.Lists.{Request}
use Rattle.settle_laws.specs.SparingLaws.{sparing_closings}
use Rattle.judge_spec.specs.ModelWords.{Words}
use Rattle.judge_spec.specs.Taken.{AreFunctionsTakenAs, unclaimed_aside_by}
use Rattle.pci_model_settle.specs.OffDevices.{function_without, functions_without}
use Rattle.pci_model_settle.specs.Unmoved.{is_among}
use Rattle.settle_answer_laws.specs.LeftOutLaws.{AreLawful, AreOffDevices, HasLawfulRegisters}
use Rattle.settle_answer_laws.specs.StopLaws.{AreToldInRequest}
use Rattle.settle_answer_laws.specs.WordStops.{IsSettledAsTaken, IsTakenSoundly, WordsCanStop, printed_after}
use Rattle.settle_answer_laws.proofs.GivenSparing.{given_sparing_stops}
use Rattle.settle_answer_laws.proofs.LeavingOut.{elsewhere, has_among, sound_with, sound_without, there, without}
use Rattle.settle_answer_laws.proofs.TakenOnce.{each_once}
use Rattle.settle_answer_laws.proofs.WordsAfter.{IsLeftAlone, none_written}
use Rattle.settle_answer_laws.proofs.WordsSettled.{left_alone, left_fixed, words_take_stops}

-- ---- registers of what has no fault of the profile

not_some : (x : Option BarFault) → ((fault : BarFault) → x ≡ Some fault → ⊥) → x ≡ None
not_some None none = refl
not_some (Some fault) none = absurd (none fault refl)

lawful_of : (roots : List ℕ) (s : System) → IsInProfile roots s → (f : Function) → Contains s f → HasLawfulRegisters f
lawful_of roots s profile f has =
    record {
      bars = λ n less. not_some (bar_fault f.image f.probe n) (λ fault is. no_bar n less fault is);
      rom = false_from_ne_true (breaks_rom_rule f.image f.probe) (λ broken. profile (RomMask f.slot (rom_register (layout f.image))) refl (f, has, refl, (refl, broken)));
    }
  where
    no_bar : (n : ℕ) → n < bar_count (layout f.image) → (fault : BarFault) → bar_fault f.image f.probe n ≡ Some fault → ⊥
    no_bar n less bars.BarType is = profile (BarType f.slot (bar_register n)) refl (f, has, refl, (n, less, refl, is))
    no_bar n less bars.BarMask is = profile (BarMask f.slot (bar_register n)) refl (f, has, refl, (n, less, refl, is))
    no_bar n less bars.BarPair is = profile (BarPair f.slot (bar_register n)) refl (f, has, refl, (n, less, refl, is))

-- ---- writes that are of none that is left out

slot_after : (f : Function) (writes : List Write) → (function_after f writes).slot ≡ f.slot
slot_after f [] = refl
slot_after f (u ∷ writes) = slot_after (write_function u f) writes

module _ (left : List Slot) (t : System) (writes : List Write) (alone : (f : Function) → is_among left f.slot ≡ true → IsLeftAlone writes f) where
  abbrev move : Function → Function
  move f = function_after f writes

  stays : (f : Function) → is_among left f.slot ≡ true → move f ≡ f
  stays f is = none_written f (λ u. u) (λ u. refl) f writes refl (alone f is)

  one_along : (f : Function) → function_without left (move f) ≡ move (function_without left f)
  one_along f = elim (cases_Bool (is_among left f.slot)) [
    | inl is ↦ ap (function_without left) (stays f is) ∙ there left f is ∙ sym (stays (without f) is) ∙ ap move (sym (there left f is))
    | inr other ↦ elsewhere left (move f) (ap (is_among left) (slot_after f writes) ∙ other) ∙ ap move (sym (elsewhere left f other))
  ]

  each_along : (r : System) → map (function_without left) (map move r) ≡ map move (map (function_without left) r)
  each_along [] = refl
  each_along (f ∷ r) = λ i. one_along f i ∷ each_along r i

  -- leaving out goes along with writes
  along : functions_without left (system_after t writes) ≡ system_after (functions_without left t) writes
  along = ap (functions_without left) (system_by_function t writes) ∙ each_along t ∙ sym (system_by_function (functions_without left t) writes)

  -- what is left out is as it was
  was_there : (g : Function) → Contains (system_after t writes) g → Contains left g.slot → Contains t g
  was_there g has at =
      let made = in_map_to move t g (subst (λ s. Contains s g) (system_by_function t writes) has) in
      let slot : g.slot ≡ made.from.slot = sym (ap (λ (x : Function). x.slot) made.is) ∙ slot_after made.from writes in
      let same : made.from ≡ g = sym (stays made.from (ap (is_among left) (sym slot) ∙ has_among left g.slot at)) ∙ made.is in
      subst (λ x. Contains t x) same made.has

  is_there : (g : Function) → Contains t g → Contains left g.slot → Contains (system_after t writes) g
  is_there g has at =
      subst (λ s. Contains s g) (sym (system_by_function t writes))
      (subst (λ x. Contains (map move t) x) (stays g (has_among left g.slot at)) (in_map_from move t g has))

  off_after : AreOffDevices left t → AreOffDevices left (system_after t writes)
  off_after off g has at = off g (was_there g has at) at

-- ---- the stops

module _ (q : Request) (w : Words) (slots : List Slot) (dump probe : List Block) (t : System) (writes : List Write) (settled : IsSettledAsTaken q w slots dump probe t writes)
    (off : AreOffDevices settled.left t) where
  abbrev left : List Slot
  left = settled.left

  abbrev rest : System
  rest = functions_without left t

  alone_at : (n : ℕ) (f : Function) → is_among left f.slot ≡ true → IsLeftAlone (take n writes) f
  alone_at n f is = left_alone q w slots dump probe t writes n settled f (left_fixed q w slots dump probe t writes n settled f.slot is)

  all_writes : take (length writes) writes ≡ writes
  all_writes = take-length writes

  alone : (f : Function) → is_among left f.slot ≡ true → IsLeftAlone writes f
  alone = subst (λ ws. (f : Function) → is_among left f.slot ≡ true → IsLeftAlone ws f) all_writes (alone_at (length writes))

  same_taken : (s u v : System) → AreFunctionsTakenAs w slots s u → AreFunctionsTakenAs w slots s v → u ≡ v
  same_taken s u v one other = each_once w slots (unclaimed_aside_by w s) u v one other

  end_taken : AreFunctionsTakenAs w slots (printed_after dump probe writes) (system_after t writes)
  end_taken = subst (λ ws. AreFunctionsTakenAs w slots (printed_after dump probe ws) (system_after t ws)) all_writes (words_take_stops q w slots dump probe t writes (length writes) settled)

  module _ (told : Told) (given : Given) (among : AreToldInRequest q told) (end : IsTakenSoundly w slots told given q.roots (printed_after dump probe writes)) where
    end_sound : IsSound told given q.roots (system_after t writes)
    end_sound = subst (IsSound told given q.roots) (same_taken (printed_after dump probe writes) end.t (system_after t writes) end.taken end_taken) end.sound

    end_rest : IsSound told given q.roots (system_after rest writes)
    end_rest = subst (IsSound told given q.roots) (along left t writes alone) (sound_without told given q.roots left (system_after t writes) (off_after left t writes alone off) end_sound)

    -- what is left out is lawful, as it is in the end
    lawful_at : (n : ℕ) → AreLawful left (system_after t (take n writes))
    lawful_at n g has at =
        lawful_of q.roots (system_after t writes) end_sound.profile g (is_there left t writes alone g (was_there left t (take n writes) (alone_at n) g has at) at)

    pub stop : (n : ℕ) → (length (sparing_closings q rest) ≤ n) ⊎ IsTakenSoundly w slots told given q.roots (system_of dump probe) → IsTakenSoundly w slots told given q.roots (printed_after dump probe (take n writes))
    stop n from =
        let p = take n writes in
        let start : (length (sparing_closings q rest) ≤ n) ⊎ IsSound told given q.roots rest = elim from [
          | inl past ↦ inl past
          | inr taken ↦ inr (sound_without told given q.roots left t off (subst (IsSound told given q.roots) (same_taken (system_of dump probe) taken.t t taken.taken settled.taken) taken.sound))
        ] in
        let between : IsSound told given q.roots (system_after rest p) = given_sparing_stops q rest writes told given n settled.asked settled.ended among end_rest start in
        record {
          t = system_after t p;
          taken = words_take_stops q w slots dump probe t writes n settled;
          sound = sound_with told given q.roots left (system_after t p) (off_after left t p (alone_at n) off) (lawful_at n)
              (subst (IsSound told given q.roots) (sym (along left t p (alone_at n))) between);
        }

-- The law.
pub words_can_stop : WordsCanStop
words_can_stop q w slots dump probe t writes told given n settled off among end from = stop q w slots dump probe t writes settled off told given among end n from
