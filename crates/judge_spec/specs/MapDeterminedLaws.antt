-- Laws: a system has at most one map with what is given and told, and at most one text of it.
use Rattle.std.specs.Prelude.{◌≡◌, ℕ, List}
use Rattle.pci_spec.specs.System.{System, Space}
use Rattle.judge_spec.specs.Given.{Given}
use Rattle.judge_spec.specs.ToldClaims.{Told}
use Rattle.judge_spec.specs.Lines.{MapPlace, Lines, AreLinesOfPlace}
use Rattle.judge_spec.specs.Map.{Map, IsMap}
use Rattle.judge_spec.specs.MapText.{IsMapText}

-- A place has at most one list of lines of a space, with all that is inside.
abbrev pub LinesAreDetermined : Type 0
LinesAreDetermined =
    (told : Told) (given : Given) (roots : List ℕ) (s : System) (space : Space)
    (place : MapPlace) (lines others : Lines)
    → AreLinesOfPlace told given roots s space place lines
    → AreLinesOfPlace told given roots s space place others → lines ≡ others

-- A system has at most one map.
abbrev pub MapIsDetermined : Type 0
MapIsDetermined =
    (told : Told) (given : Given) (roots : List ℕ) (s : System) (m n : Map)
    → IsMap told given roots s m
    → IsMap told given roots s n → m ≡ n

-- Two texts of a system's map are equal.
abbrev pub MapTextIsDetermined : Type 0
MapTextIsDetermined =
    (told : Told) (given : Given) (roots : List ℕ) (s : System) (text other : List ℕ)
    → IsMapText told given roots s text → IsMapText told given roots s other → text ≡ other
