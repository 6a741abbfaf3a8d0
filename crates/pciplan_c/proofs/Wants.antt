-- Where memory is wanted for a message, the root list is one and the words have a meaning.
use Rattle.std.proofs.Common.{◌≡◌, ◌<◌, ℕ, List, length, codes, inr, ap, sym, subst, ◌∙◌}
use Rattle.plan_spec.specs.Plan as plan
use Rattle.pci_tree.specs.Roots.{IsRootList}
use Rattle.pciplan_c.specs.declared.put.Withheld.{Withheld}
use Rattle.pciplan_c.specs.declared.put.Withheld.TheVariants.{Memory, NoRoom}
use Rattle.pciplan_c.specs.declared.refusal.Refusal.TheVariants.{Root, Dump, Probe}
use Rattle.pciplan_c.specs.declared.unread.Unread.TheVariants as unread
use Rattle.pciplan_c.specs.Answers.{IsTooLong}
use Rattle.pciplan_c.specs.NoWrites.{IsMade}
use Rattle.pciplan_c.specs.PlanAnswers.{IsNoPlanOf}
use Rattle.pciplan_c.specs.SettleAnswers.{IsNoSettlingOf, MayWant}
use Rattle.pciplan_c.specs.SettleWords.{AreSaid, HaveSettleMeaning, Said}
use Rattle.pciplan_c.specs.declared.answer.Answer.TheVariants.{Refused}
use Rattle.pciplan_c.specs.declared.no_writes.NoWrites.{NoWrites}
use Rattle.pciplan_c.specs.declared.no_writes.NoWrites.TheVariants.{BadWord, Unread, Also, NotReady, NotPlanned, NotSettled}
use Rattle.pciplan_c.specs.declared.settle_words.SettleWords.{SettleWords}

-- ---- the message of a root list that is none

abbrev room_of : Withheld → ℕ
room_of Memory = 0
room_of (NoRoom n) = n

pub root_too_long : (roots dump probe bytes text : List ℕ) (why : Withheld) → (IsRootList roots → ⊥) → text ≡ codes "root"
    → (why ≡ NoRoom (length text)) × (length bytes < length text)
    → (needed : ℕ) → why ≡ NoRoom needed → IsTooLong roots dump probe bytes needed
root_too_long roots dump probe bytes text why none says longer needed is =
    let same : needed ≡ length text = ap room_of (sym is ∙ longer.0) in
    record {
      answer = Refused Root;
      answered = none;
      count = same ∙ ap length says;
      more = subst (λ n. length bytes < n) (sym same) longer.1;
    }

-- ---- texts that are put together

pub plan_wants : (roots dump probe : List ℕ) (pools : plan.Pools) (why : NoWrites)
    → IsNoPlanOf roots dump probe pools why → IsMade why → IsRootList roots
plan_wants roots dump probe pools (BadWord bad) is made = absurd is
plan_wants roots dump probe pools (Unread (unread.Refused Root)) is made = absurd made
plan_wants roots dump probe pools (Unread (unread.Refused (Dump fault))) is made = is.0
plan_wants roots dump probe pools (Unread (unread.Refused (Probe fault))) is made = is.0
plan_wants roots dump probe pools (Unread (unread.NotAdmitted fault)) is made = is.rising
plan_wants roots dump probe pools (Also fault) is made = absurd is
plan_wants roots dump probe pools (NotReady why) is made = absurd is
plan_wants roots dump probe pools (NotPlanned fault) is made = is.texts.rising
plan_wants roots dump probe pools (NotSettled fault) is made = absurd is

pub said_meaning : (words : SettleWords) (said : Said) → AreSaid words said → HaveSettleMeaning words
said_meaning words said are = (
  ((said.io, are.io_list), (said.mem, are.mem_list), (said.pref, are.pref_list), (said.fixed, are.fixed_slots)),
  (said.spares, are.spares),
  (said.slots, are.slots),
)

pub settle_wants : (roots dump probe : List ℕ) (words : SettleWords) (why : NoWrites)
    → IsNoSettlingOf roots dump probe words why → IsMade why → MayWant roots words
settle_wants roots dump probe words (BadWord bad) is made = absurd made
settle_wants roots dump probe words (Unread (unread.Refused Root)) is made = absurd made
settle_wants roots dump probe words (Unread (unread.Refused (Dump fault))) is made = (is.1.0, inr is.0)
settle_wants roots dump probe words (Unread (unread.Refused (Probe fault))) is made = (is.1.0, inr is.0)
settle_wants roots dump probe words (Unread (unread.NotAdmitted fault)) is made = (is.1.rising, inr is.0)
settle_wants roots dump probe words (Also fault) is made = (is.1.rising, inr is.0)
settle_wants roots dump probe words (NotReady why) is made = (is.1.rising, inr is.0)
settle_wants roots dump probe words (NotPlanned fault) is made = absurd is
settle_wants roots dump probe words (NotSettled fault) is made =
    (is.texts.rising, inr (said_meaning words is.asked.said is.asked.are))
