-- The forms of the writes of a settling, by the words that name them.
use Rattle.std.specs.Prelude.{Bool, false, ◌||◌, if◌then◌else◌, List, [], ◌∷◌, Option, None, Some, is_some, codes}
use Rattle.std.specs.Option.{option_or}
use Rattle.std.specs.Str.{bytes_eq}
use Rattle.clap.specs.Words.{Text}
use Rattle.pciplan_words.specs.declared.forms.Form.{Form}
use Rattle.pciplan_words.specs.declared.forms.Form.TheVariants.{Setpci, Grub}

-- the form that a word names
abbrev pub form_of : Text → Option Form
form_of word =
    if bytes_eq word (codes "--writes=setpci") then Some Setpci
    else (if bytes_eq word (codes "--writes=grub") then Some Grub else None)

-- the word `--`, behind which options end
abbrev pub is_last : Text → Bool
is_last word = bytes_eq word (codes "--")

-- the form of the first word that names one
abbrev pub form_in : List Text → Option Form
form_in [] = None
form_in (word ∷ words) = if is_last word then None else option_or (form_of word) (form_in words)

-- a word that names a form is the option without it
abbrev pub plain_word : Text → Text
plain_word word = if is_some (form_of word) then codes "--writes" else word

-- the words without forms; `ended` says that options have ended
abbrev pub plain_from : Bool → List Text → List Text
plain_from ended [] = []
plain_from ended (word ∷ words) =
    (if ended || is_last word then word else plain_word word) ∷ plain_from (ended || is_last word) words

abbrev pub plain_words : List Text → List Text
plain_words words = plain_from false words
