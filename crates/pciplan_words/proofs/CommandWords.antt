-- What clap's contracts tell of the words of a subcommand.
use Rattle.std.proofs.Common.{◌≡◌, Bool, true, false, List, Option, None, Some, Bor, option_map, codes, refl, sym, ◌∙◌}
use Rattle.std.proofs.lemmas.Option.{none-some}
use Rattle.clap.specs.Words.{Row, Text, first_of, first_value, one_of, one_text, rows_of}
use Rattle.clap.specs.declared.parser.matches.Found.{Found}
use Rattle.clap.proofs.WalkLemmas.{first_value-rows, one_text-rows}
use Rattle.pciplan_words.specs.CommandWords.{IsFlag, word_of, HasSettleWords, AreSlotsForSpares, AreSlotsWithoutSpares}
use Rattle.pciplan_words.specs.declared.asked.SettleWords.{SettleWords}

-- the word that `get_str` gives, and the flag that `get_flag` gives
pub word_there : (found : Found) (id : Text) (word : Option (Bor Text)) → option_map (λ s. s.now) word ≡ first_value found id
    → first_of id (rows_of found) ≡ word_of word
word_there found id word e = sym (first_value-rows found id) ∙ sym e

pub word_missing : (found : Found) (id word : Text) → None ≡ first_value found id → first_of id (rows_of found) ≡ Some word → ⊥
word_missing found id word e is = none-some word (e ∙ first_value-rows found id ∙ is)

pub flag_there : (found : Found) (id : Text) (flag : Bool) → (one_text found id ≡ None → flag ≡ false)
    → (one_text found id ≡ Some (codes "true") → flag ≡ true) → (one_text found id ≡ Some (codes "false") → flag ≡ false)
    → IsFlag (one_of id (rows_of found)) flag
flag_there found id flag none is_yes is_no =
    let same = one_text-rows found id in
    record { none = λ e. none (same ∙ e); yes = λ e. is_yes (same ∙ e); no = λ e. is_no (same ∙ e) }

-- two words of one option are both there, or none is
none_alike : (a b : Option (Bor Text)) → word_of a ≡ word_of b → a ≡ None → b ≡ None
none_alike None None same is = refl
none_alike None (Some b) same is = absurd (none-some b.now same)
none_alike (Some a) b same is = absurd (none-some a (sym is))

-- where slots are said and no spares, the words of that line are of no settling
pub slots_alone : (rows : List Row) (one other : SettleWords) → HasSettleWords rows one → HasSettleWords rows other → AreSlotsWithoutSpares one
    → AreSlotsForSpares other → ⊥
slots_alone rows one other of_one of_other alone for_spares =
    let spare = none_alike one.spare other.spare (sym of_one.spare ∙ of_other.spare) alone.0 in
    alone.1 (none_alike other.slots one.slots (sym of_other.slots ∙ of_one.slots) (for_spares spare))
