-- How it is said that there is no list of faults.
use Rattle.std.specs.Prelude.{ℕ, List}
use Rattle.pciplan_c.specs.Refusals.{refusal_line, refusal_text}
use Rattle.pciplan_c.specs.declared.refusal.Refusal.TheVariants.{Root, Dump, Probe}
use Rattle.pciplan_c.specs.FaultsWords.{faults_word_text}
use Rattle.pciplan_c.specs.declared.no_list.NoList.{NoList}
use Rattle.pciplan_c.specs.declared.no_list.NoList.TheVariants.{BadWord, Unread}

-- the message
abbrev pub no_list_text : NoList → List ℕ
no_list_text (BadWord bad) = faults_word_text bad
no_list_text (Unread refusal) = refusal_text refusal

-- the line of a text that it names, or 0 where it names none
abbrev pub no_list_line : NoList → ℕ
no_list_line (BadWord bad) = 0
no_list_line (Unread refusal) = refusal_line refusal

-- the message is put together in memory; that of a root list, or of a word, is a constant
abbrev pub IsListMade : NoList → Type 0
IsListMade (BadWord bad) = ⊥
IsListMade (Unread Root) = ⊥
IsListMade (Unread (Dump fault)) = Unit {0}
IsListMade (Unread (Probe fault)) = Unit {0}
