-- The names in lists of words.
use Rattle.std.proofs.Common.{◌≡◌, [], ◌∷◌, map, refl, codes}
use Rattle.judge_spec.specs.Words.{Vga, Vga16}
use Rattle.judge_spec.specs.ModelWords.{Cardbus, Ide, Isa, Power, Reset, Snoop, Subtractive, Unclaimed, Unnumbered, Legacy, Windows, name_text}

all_names : map name_text (Cardbus ∷ Ide ∷ Isa ∷ Power ∷ Reset ∷ Snoop ∷ Subtractive ∷ Unclaimed ∷ Unnumbered ∷ Legacy Vga ∷ Legacy Vga16 ∷ Windows ∷ [])
    ≡ codes "cardbus" ∷ codes "ide" ∷ codes "isa" ∷ codes "power" ∷ codes "reset" ∷ codes "snoop" ∷ codes "subtractive" ∷ codes "unclaimed" ∷ codes "unnumbered" ∷ codes "vga" ∷ codes "vga16" ∷ codes "windows" ∷ []
all_names = refl
