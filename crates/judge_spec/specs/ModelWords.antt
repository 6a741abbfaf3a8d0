-- The words by which a user says how functions are to be taken.
use Rattle.std.specs.Prelude.{◌≡◌, ◌≢◌, ◌↔◌, ℕ, Bool, true, false, IsTrue, List, Option, None, Some, codes}
use Rattle.std.specs.List.{AllPairs, Contains}
use Rattle.judge_spec.specs.Words.{VgaWord, Vga, Vga16}

-- Which of them count.
pub record Words : Type 0 where
  -- a function of header layout 2 has no address registers that decode
  pub cardbus : Bool
  -- IDE channels in compatibility mode answer fixed ports, and not their BARs
  pub ide : Bool
  -- a bridge may have ISA Enable set: which bridges do is given beside the system
  pub isa : Bool
  -- what isn't in D0 decodes nothing
  pub power : Bool
  -- a bridge may hold its secondary bus in reset where nothing is listed behind it
  pub reset : Bool
  -- a function may listen to writes of the palette: which bridges do is given beside the system
  pub snoop : Bool
  -- a bridge may decode subtractively where nothing is listed behind it
  pub subtractive : Bool
  -- a bridge may do so where it is alone on its bus: what it takes is given beside the system
  pub unclaimed : Bool
  -- a bridge without bus numbers leads nowhere
  pub unnumbered : Bool
  -- a bridge may have VGA Enable set: its legacy part is given beside the system
  pub vga : Option VgaWord
  -- a window of a bridge is the one that it shows, whatever it reads back
  pub windows : Bool

abbrev pub no_words : Words
no_words =
    record {
      cardbus = false;
      ide = false;
      isa = false;
      power = false;
      reset = false;
      snoop = false;
      subtractive = false;
      unclaimed = false;
      unnumbered = false;
      vga = None;
      windows = false;
    }

-- all but `vga16`
abbrev pub all_words : Words
all_words =
    record {
      cardbus = true;
      ide = true;
      isa = true;
      power = true;
      reset = true;
      snoop = true;
      subtractive = true;
      unclaimed = true;
      unnumbered = true;
      vga = Some Vga;
      windows = true;
    }

-- What a word of a list names.
pub data Name : Type 0 where
  Cardbus : Name
  Ide : Name
  Isa : Name
  Power : Name
  Reset : Name
  Snoop : Name
  Subtractive : Name
  Unclaimed : Name
  Unnumbered : Name
  Legacy : (vga : VgaWord) → Name
  Windows : Name

abbrev pub name_text : Name → List ℕ
name_text Cardbus = codes "cardbus"
name_text Ide = codes "ide"
name_text Isa = codes "isa"
name_text Power = codes "power"
name_text Reset = codes "reset"
name_text Snoop = codes "snoop"
name_text Subtractive = codes "subtractive"
name_text Unclaimed = codes "unclaimed"
name_text Unnumbered = codes "unnumbered"
name_text (Legacy Vga) = codes "vga"
name_text (Legacy Vga16) = codes "vga16"
name_text Windows = codes "windows"

-- what a word names counts
abbrev pub IsCounted : Words → Name → Type 0
IsCounted w Cardbus = IsTrue w.cardbus
IsCounted w Ide = IsTrue w.ide
IsCounted w Isa = IsTrue w.isa
IsCounted w Power = IsTrue w.power
IsCounted w Reset = IsTrue w.reset
IsCounted w Snoop = IsTrue w.snoop
IsCounted w Subtractive = IsTrue w.subtractive
IsCounted w Unclaimed = IsTrue w.unclaimed
IsCounted w Unnumbered = IsTrue w.unnumbered
IsCounted w (Legacy vga) = w.vga ≡ Some vga
IsCounted w Windows = IsTrue w.windows

-- just what these words name counts, and none stands twice
pub record AreNames (names : List Name) (w : Words) : Type 0 where
  pub once : AllPairs (λ m n. m ≢ n) names
  pub counted : (n : Name) → Contains names n ↔ IsCounted w n
