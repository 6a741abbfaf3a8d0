-- Laws of the text of told ranges: ranges and their text are one to one, and each input is a text or has one fault.
use Rattle.std.specs.Prelude.{◌≡◌, ◌⊎◌, ℕ, List, ◌++◌}
use Rattle.pci_spec.specs.Text.{TextFault}
use Rattle.judge_spec.specs.Told.{ToldRange, IsTold}
use Rattle.judge_spec.specs.ToldText.{IsToldTextOf}
use Rattle.judge_spec.specs.ToldStops.{IsGoodTold, IsToldFaultOf}

-- ranges in such an order have a text
abbrev pub ToldHaveText : Type 0
ToldHaveText = (ranges : List ToldRange) → IsTold ranges → (bytes : List ℕ) × IsToldTextOf bytes ranges

-- and only one
abbrev pub ToldHaveOneText : Type 0
ToldHaveOneText =
    (bytes others : List ℕ) (ranges : List ToldRange) → IsToldTextOf bytes ranges
    → IsToldTextOf others ranges → bytes ≡ others

-- no text tells of two rows of ranges
abbrev pub TextTellsOneRow : Type 0
TextTellsOneRow =
    (bytes : List ℕ) (ranges others : List ToldRange) → IsToldTextOf bytes ranges
    → IsToldTextOf bytes others → ranges ≡ others

-- a text is good, and so is what a good input begins with
abbrev pub ToldTextIsGood : Type 0
ToldTextIsGood = (bytes : List ℕ) (ranges : List ToldRange) → IsToldTextOf bytes ranges → IsGoodTold bytes

abbrev pub ToldBeginningsAreGood : Type 0
ToldBeginningsAreGood = (front rest : List ℕ) → IsGoodTold (front ++ rest) → IsGoodTold front

-- a text has no fault
abbrev pub ToldTextHasNoFault : Type 0
ToldTextHasNoFault =
    (bytes : List ℕ) (ranges : List ToldRange) (f : TextFault) → IsToldTextOf bytes ranges
    → IsToldFaultOf bytes f → ⊥

-- an input has at most one
abbrev pub InputHasOneToldFault : Type 0
InputHasOneToldFault =
    (bytes : List ℕ) (f g : TextFault) → IsToldFaultOf bytes f → IsToldFaultOf bytes g → f ≡ g

-- and each input is a text or has one
abbrev pub InputIsToldOrHasFault : Type 0
InputIsToldOrHasFault =
    (bytes : List ℕ)
    → ((ranges : List ToldRange) × IsToldTextOf bytes ranges)
    ⊎ ((f : TextFault) × IsToldFaultOf bytes f)
