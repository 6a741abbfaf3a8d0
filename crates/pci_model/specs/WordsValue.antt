-- The words of the code as those of the definitions.
use Rattle.std.specs.Option.{option_map}
use Rattle.judge_spec.specs.Words as given
use Rattle.judge_spec.specs.ModelWords as model
use Rattle.pci_model.specs.declared.words.VgaWord.{VgaWord}
use Rattle.pci_model.specs.declared.words.VgaWord.TheVariants.{Vga, Vga16}
use Rattle.pci_model.specs.declared.words.Words.{Words}

abbrev pub vga_value : VgaWord → given.VgaWord
vga_value Vga = given.Vga
vga_value Vga16 = given.Vga16

abbrev pub words_value : Words → model.Words
words_value w = record {
  cardbus = w.cardbus;
  ide = w.ide;
  isa = w.isa;
  power = w.power;
  reset = w.reset;
  snoop = w.snoop;
  subtractive = w.subtractive;
  unclaimed = w.unclaimed;
  unnumbered = w.unnumbered;
  vga = option_map vga_value w.vga;
  windows = w.windows;
}
