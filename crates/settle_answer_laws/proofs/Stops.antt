-- What is settled by words has all that the laws of its stops ask.
use Rattle.std.proofs.Common.{◌≡◌, ◌⊎◌, ◌≤◌, ℕ, inl, inr, Bool, true, false, List, length, map, take, refl, sym, ◌∙◌, ap, subst}
use Rattle.std.specs.List.{Contains}
use Rattle.pci_spec.proofs.Members.{in_nil}
use Rattle.pci_spec.specs.Machine.{Write}
use Rattle.pci_spec.specs.Slot.{Slot}
use Rattle.pci_spec.specs.System.{System, system_of}
use Rattle.pci_spec.specs.Text.{Block, slots_of}
use Rattle.judge_spec.specs.Given.{Given}
use Rattle.judge_spec.specs.ToldClaims.{Told}
use Rattle.settle_spec.specs.Lists.{Request}
use Rattle.settle_spec.specs.Sparing.{settle_sparing}
use Rattle.settle_laws.specs.SparingLaws.{sparing_closings}
use Rattle.settle_laws.specs.ToldSoundLaws.{CanAskTold}
use Rattle.judge_spec.specs.Taken.{AreFunctionsTakenAs}
use Rattle.judge_spec.specs.TakenDumps.{AreTakenAs}
use Rattle.pci_model.specs.declared.words.Words.{Words}
use Rattle.pci_model.specs.WordsValue.{words_value}
use Rattle.pci_model_settle.specs.Listed.{blocks_after, listed_write}
use Rattle.pci_model_settle.specs.OffDevices.{device_lines, functions_without, left_out}
use Rattle.pci_place.specs.Above.{system_in}
use Rattle.pci_settle.specs.AsTold.{HasLines}
use Rattle.pci_tree.specs.Admission.{Admission}
use Rattle.settle_answer_laws.proofs.Spared.{can_be_asked, spared_is_settled}
use Rattle.settle_answer_laws.specs.SparedLaws.{IsSettledWithClosings}
use Rattle.settle_answer_laws.proofs.LeftOutBlocks.{blocks_without_are, left_out_are_off}
use Rattle.settle_answer_laws.proofs.SoundStops.{words_can_stop}
use Rattle.settle_answer_laws.specs.LeftOutLaws.{AreOffDevices}
use Rattle.settle_answer_laws.specs.StopLaws.{AreToldInRequest}
use Rattle.settle_answer_laws.specs.WordStops.{IsSettledAsTaken, IsTakenSoundly, printed_after}
use Rattle.pciplan_tasks.specs.Also.{ranges_told}
use Rattle.pciplan_tasks.specs.Answers.{Answer}
use Rattle.pciplan_tasks.specs.TakenAnswers.{AreTakenByWords}
use Rattle.pciplan_tasks.specs.FaultsAnswers.{given_of}
use Rattle.pciplan_tasks.specs.WordsSettling.{all_is_sent, can_tell, claims_by, kept_with_devices_at, left_that_fit}
use Rattle.pciplan_tasks.specs.declared.task.Printed.{Printed}
use Rattle.pciplan_tasks.specs.declared.task.SettleRequest.{SettleRequest}
use Rattle.settle_answer_laws.specs.AnswerLaws.{AnswersCanStop, AreAskedLawfully, AreSettledByWords, GivenStays, admission_of, asked_of, given_then, left_from, texts, told_then}
use Rattle.settle_answer_laws.proofs.GivenBeside.{given_stays as given_beside_stays}
use Rattle.settle_answer_laws.proofs.KeptLines.{all_led_to, all_listed}
use Rattle.settle_answer_laws.proofs.SlotsStay.{slots_stay}
use Rattle.settle_answer_laws.proofs.ToldAmong.{in_behind, told_among}

-- ---- the functions that are left out

module _ (unmoved : List Slot) (t : System) where
  record AreLeft (left : List Slot) : Type 0 where
    among : (slot : Slot) → Contains left slot → Contains unmoved slot
    off : AreOffDevices left t

  where_they_fit : (fit : Bool) (left : List Slot) → AreLeft left → AreLeft (left_that_fit fit left)
  where_they_fit true left are = are
  where_they_fit false left are = record { among = λ slot has. absurd (in_nil slot has); off = λ f listed has. absurd (in_nil f.slot has) }

-- ---- the premises

module _ (w : Words) (r : SettleRequest) (printed : Printed) (dump probe : List Block) (answer : Answer) (x : AreSettledByWords w r printed dump probe answer) (lawful : AreAskedLawfully w r printed dump probe x.texts_are) where
  abbrev q : Request
  q = (asked_of w r printed dump probe x.texts_are).request

  abbrev a : Admission
  a = admission_of w r printed dump probe x.texts_are

  abbrev t : System
  t = system_of x.texts_are.taken x.texts_are.taken_probe

  abbrev left : List Slot
  left = left_from w r printed dump probe x.texts_are

  abbrev writes : List Write
  writes = x.settled.writes

  are_left : AreLeft x.texts_are.unmoved t left
  are_left =
      let both = left_out_are_off x.texts_are.unmoved dump x.texts_are.taken x.texts_are.taken_probe (sym x.texts_are.are.slots) x.texts_are.admitted.system in
      where_they_fit x.texts_are.unmoved t (can_tell (kept_with_devices_at w r (left_out x.texts_are.unmoved dump x.texts_are.taken x.texts_are.taken_probe) (texts w r printed dump probe x.texts_are)))
      (left_out x.texts_are.unmoved dump x.texts_are.taken x.texts_are.taken_probe) record { among = both.0; off = both.1 }

  without : system_in a ≡ functions_without left t
  without = blocks_without_are left x.texts_are.taken x.texts_are.taken_probe x.texts_are.admitted.slots

  -- no range that is kept off is of a slot that isn't listed, or is a held one to whose bus nobody leads
  lines : HasLines q (system_in a)
  lines = subst (HasLines q) (sym without) record {
    listed = all_listed (ranges_told r.also) q.roots w dump x.texts_are.taken x.texts_are.taken_probe left x.ready (sym x.texts_are.are.slots) x.texts_are.admitted are_left.off;
    led_to = all_led_to (ranges_told r.also) q.roots w dump x.texts_are.taken x.texts_are.taken_probe left x.ready (sym x.texts_are.are.slots) x.texts_are.admitted are_left.off;
  }

  can : CanAskTold q (system_in a)
  can = can_be_asked q a record { admitted = x.admitted; roots_are = refl; high = lawful.high; lawful = x.told; awake = refl; lines = lines }

  so : IsSettledWithClosings q a writes x.settled.is.closings
  so = elim (spared_is_settled q a x.settled.after writes x.settled.is.closings x.settled.denied x.settled.is.is) [
    | inl large ↦ absurd (lawful.small large)
    | inr is ↦ is
  ]

  pub settled_as_taken : IsSettledAsTaken q (words_value w) (slots_of dump) dump probe t writes
  settled_as_taken = record {
    system = lawful.system;
    taken = x.texts_are.are.each lawful.slots;
    unmoved = x.texts_are.unmoved;
    stay = x.texts_are.stay;
    fixed = λ slot has. in_behind r.fixed.items x.texts_are.unmoved slot has;
    left = left;
    are_left = are_left.among;
    asked = subst (CanAskTold q) without can;
    ended = ap (settle_sparing q) (sym without) ∙ so.ended;
  }

  -- ---- the dump after all writes

  abbrev after : List Block
  after = blocks_after dump (map (listed_write dump) writes)

  abbrev told : Told
  told = told_then w r printed dump probe answer x

  abbrev given : Given
  given = given_then w r printed dump probe answer x

  among : AreToldInRequest q told
  among range has =
      told_among (ranges_told r.also) (device_lines left t) (claims_by w dump) range
      (subst (λ ranges. Contains ranges range) x.settled.ended.judged.beside_them.ranges has)

  after_slots : slots_of after ≡ slots_of dump
  after_slots = slots_stay (map (listed_write dump) writes) dump

  end_soundly : IsTakenSoundly (words_value w) (slots_of dump) told given q.roots (printed_after dump probe writes)
  end_soundly =
      let judged = x.settled.ended.judged in
      let are : AreTakenAs (words_value w) after probe judged.taken judged.taken_probe = subst (λ ws. AreTakenByWords ws after probe judged.taken judged.taken_probe) lawful.words judged.are in
      record {
        t = system_of judged.taken judged.taken_probe;
        taken = subst (λ slots. AreFunctionsTakenAs (words_value w) slots (system_of after probe) (system_of judged.taken judged.taken_probe)) after_slots (are.each (after_slots ∙ lawful.slots));
        sound = (judged.none.0 x.faultless).sound;
      }

  pub stop : (n : ℕ) → (x.settled.is.closings ≤ n) ⊎ IsTakenSoundly (words_value w) (slots_of dump) told given q.roots (system_of dump probe)
      → IsTakenSoundly (words_value w) (slots_of dump) told given q.roots (printed_after dump probe (take n writes))
  unfolding settled_as_taken
  stop n from =
      words_can_stop q (words_value w) (slots_of dump) dump probe t writes told given n settled_as_taken are_left.off among end_soundly
      (elim from [
        | inl past ↦ inl (subst (λ s. length (sparing_closings q s) ≤ n) without (subst (λ k. k ≤ n) so.closing past))
        | inr start ↦ inr start
      ])

  pub given_so : (n : ℕ) → given_of all_is_sent r.words (blocks_after dump (map (listed_write dump) (take n writes))) ≡ given_of all_is_sent r.words dump
  unfolding settled_as_taken
  given_so n =
      subst (λ ws. given_of all_is_sent ws (blocks_after dump (map (listed_write dump) (take n writes))) ≡ given_of all_is_sent ws dump) (sym lawful.words)
      (given_beside_stays q w (slots_of dump) dump probe t writes n settled_as_taken lawful.slots)

pub given_stays : GivenStays
given_stays w r printed dump probe answer n x lawful = given_so w r printed dump probe answer x lawful n

pub answers_can_stop : AnswersCanStop
answers_can_stop w r printed dump probe answer n x lawful from = stop w r printed dump probe answer x lawful n from
