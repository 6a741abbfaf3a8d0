-- Titles that name assumed registers.
use Rattle.std.proofs.Common.{◌≡◌, ℕ, List, [], ◌∷◌, refl, None, Some}
use Rattle.std.specs.Prelude.{codes}
use Rattle.pci_spec.specs.Mark.{digit, spelled, mark, registers_in, behind_word, marked}

-- the registers that a title of this text names
abbrev named : List ℕ → List ℕ
named text = marked (Some text)

one_register : mark (0x30 ∷ []) ≡ Some (codes "assumed 30")
unfolding digit spelled registers_in behind_word
one_register = refl

two_registers : mark (0x1c ∷ 0x38 ∷ []) ≡ Some (codes "assumed 1c,38")
unfolding digit spelled registers_in behind_word
two_registers = refl

none_has_no_title : mark [] ≡ None
unfolding digit spelled registers_in behind_word
none_has_no_title = refl

no_title_names_none : marked None ≡ []
unfolding digit spelled registers_in behind_word
no_title_names_none = refl

one_is_named : named (codes "assumed 30") ≡ 0x30 ∷ []
unfolding digit spelled registers_in behind_word
one_is_named = refl

all_are_named_in_their_order : named (codes "assumed 38,1c,10") ≡ 0x38 ∷ 0x1c ∷ 0x10 ∷ []
unfolding digit spelled registers_in behind_word
all_are_named_in_their_order = refl

the_word_alone_names_none : named (codes "assumed") ≡ []
unfolding digit spelled registers_in behind_word
the_word_alone_names_none = refl

no_digits_name_none : named (codes "assumed ") ≡ []
unfolding digit spelled registers_in behind_word
no_digits_name_none = refl

one_digit_names_none : named (codes "assumed 3") ≡ []
unfolding digit spelled registers_in behind_word
one_digit_names_none = refl

a_third_digit_names_none : named (codes "assumed 300") ≡ []
unfolding digit spelled registers_in behind_word
a_third_digit_names_none = refl

capital_digits_name_none : named (codes "assumed 1C") ≡ []
unfolding digit spelled registers_in behind_word
capital_digits_name_none = refl

a_blank_behind_a_comma_names_none : named (codes "assumed 1c, 38") ≡ []
unfolding digit spelled registers_in behind_word
a_blank_behind_a_comma_names_none = refl

a_comma_at_the_end_names_none : named (codes "assumed 1c,") ≡ []
unfolding digit spelled registers_in behind_word
a_comma_at_the_end_names_none = refl

blanks_between_name_none : named (codes "assumed 1c 38") ≡ []
unfolding digit spelled registers_in behind_word
blanks_between_name_none = refl

a_comma_before_the_first_names_none : named (codes "assumed,1c") ≡ []
unfolding digit spelled registers_in behind_word
a_comma_before_the_first_names_none = refl

one_wrong_register_leaves_none : named (codes "assumed 10,3g") ≡ []
unfolding digit spelled registers_in behind_word
one_wrong_register_leaves_none = refl

another_word_names_none : named (codes "Assumed 30") ≡ []
unfolding digit spelled registers_in behind_word
another_word_names_none = refl

a_word_before_names_none : named (codes "is assumed 30") ≡ []
unfolding digit spelled registers_in behind_word
a_word_before_names_none = refl
