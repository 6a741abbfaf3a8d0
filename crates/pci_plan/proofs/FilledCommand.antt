-- What a filling's function has to decode, by its record.
use Rattle.std.proofs.Common.{◌≡◌, ℕ, ◌+◌, ◌*◌, ◌/◌, ◌<◌, ◌≤◌, [], ◌∷◌, map, refl, Bool, true, false, cond, not, ◌&&◌, ◌||◌, sym, ◌∙◌, ap, arith}
use Rattle.std.specs.List.{list_any}
use Rattle.std.specs.Option.{is_some}
use Rattle.std.proofs.lemmas.Bool.{both_ways}
use Rattle.std.proofs.lemmas.List.Folds.{list_any-append}
use mir.Val.{bool_byte}
use Rattle.pci_spec.specs.Bar.{bar_at, is_io}
use Rattle.pci_spec.specs.Rom.{has_rom}
use Rattle.pci_spec.specs.Decoded.{decoded_bar}
use Rattle.pci_spec.specs.Window.{WindowKind, has_window}
use Rattle.pci_spec.specs.System.{Function, Part, Bar, Rom, bars_and_rom, is_bridge}
use Rattle.plan_spec.specs.Plan.{is_io_part, has_behind}
use Rattle.pci_image.specs.Bars.{decoded_bar_of}
use Rattle.pci_plan.specs.declared.numbers.Filling.{Filling}
use Rattle.pci_place.specs.Classes.{is_io_kind}
use Rattle.pci_plan.specs.Fillings.{FillingOf}
use Rattle.pci_place.proofs.ClassOf.{kind_io}
use Rattle.pci_plan.proofs.FilledRoms.{rom_is}
use Rattle.pci_place.proofs.Mapped.{list_any-map, any_same}
use Rattle.pci_place.proofs.Owned.{any_io}
use Rattle.pci_place.proofs.Parts.{bars_in, rom_in, parts_of, bars_of}

-- a test as a bit
pub one_if : (b : Bool) → bool_byte b ≡ cond b 1 0
one_if true = refl
one_if false = refl

pub two_if : (b : Bool) → 2 * bool_byte b ≡ cond b 2 0
two_if true = refl
two_if false = refl

bit_most : (b : Bool) → bool_byte b ≤ 1
bit_most true = omega arith
bit_most false = omega arith

-- a word whose two lowest bits are clear has room for them
pub rest_fits : (word : ℕ) → word < 65536 → word / 4 * 4 < 65536
rest_fits word small = omega (arith, small)

pub io_fits : (word io : ℕ) (a : Bool) → word < 65536 → io ≡ bool_byte a → word / 4 * 4 + io < 65536
io_fits word io a small is = let most = bit_most a in omega (arith, small, is, most)

pub memory_fits : (memory : ℕ) (b : Bool) → memory ≡ bool_byte b → 2 * memory < 65536
memory_fits memory b is = let most = bit_most b in omega (arith, is, most)

pub both_fit : (word io memory : ℕ) (a b : Bool) → word < 65536 → io ≡ bool_byte a → memory ≡ bool_byte b → word / 4 * 4 + io + 2 * memory < 65536
both_fit word io memory a b small is_io is_memory = let io_most = bit_most a in let memory_most = bit_most b in omega (arith, small, is_io, is_memory, io_most, memory_most)

-- one test or another, where the first one was made, and where the second had to be
pub or_first : (a b c : Bool) → c ≡ a → c ≡ true → c ≡ (a || b)
or_first true b c same found = found
or_first false b c same found = absurd (both_ways c same found)

pub or_second : (a b c : Bool) → a ≡ false → c ≡ b → c ≡ (a || b)
or_second true b c none same = absurd (both_ways true none refl)
or_second false b c none same = same

-- a ROM is in memory
memory_rom : (f : Function) (b : Bool) → list_any (λ part. not (is_io_part f part)) (cond b (Rom ∷ []) []) ≡ b
memory_rom f true = refl
memory_rom f false = refl

module _ (filling : Filling) (of : FillingOf filling) where
  -- the record has an I/O BAR where the function has one
  pub io_bar_is : list_any (λ bar. is_io_kind bar.kind) filling.record.now.bars.items ≡ list_any (is_io_part of.function) (bars_and_rom of.function)
  io_bar_is = any_io of.system of.function filling.record.now of.recorded

  -- whether the function has a memory BAR or a ROM, and whether a window of it is opened
  abbrev pub memory_part : Bool
  memory_part = list_any (λ part. not (is_io_part of.function part)) (bars_and_rom of.function)

  abbrev pub opens : WindowKind → Bool
  opens kind = is_bridge of.function && has_window kind of.function.probe && has_behind of.system of.pools kind of.function

  -- and a memory BAR or a ROM where the function has one
  pub memory_part_is : (list_any (λ bar. not (is_io_kind bar.kind)) filling.record.now.bars.items || is_some filling.record.now.rom) ≡ memory_part
  memory_part_is =
      let f = of.function in
      let is_memory : Part → Bool = λ part. not (is_io_part f part) in
      let bars = any_same decoded_bar_of (decoded_bar f.image f.probe) (λ bar. not (is_io_kind bar.kind)) (λ n. not (is_io (bar_at f.probe n))) (λ bar n e. ap not (kind_io f bar n e))
      filling.record.now.bars.items (bars_in f) (bars_of of.system f filling.record.now of.recorded) in
      let parts : list_any is_memory (bars_and_rom f) ≡ (list_any (λ n. not (is_io (bar_at f.probe n))) (bars_in f) || has_rom f.image f.probe) =
      ap (list_any is_memory) (parts_of f)
      ∙ list_any-append is_memory (map Bar (bars_in f)) (rom_in f)
      ∙ ap (λ b. b || list_any is_memory (rom_in f)) (list_any-map is_memory Bar (bars_in f))
      ∙ ap (λ b. list_any (λ n. not (is_io (bar_at f.probe n))) (bars_in f) || b) (memory_rom f (has_rom f.image f.probe)) in
      ap (λ b. b || is_some filling.record.now.rom) bars
      ∙ ap (λ b. list_any (λ n. not (is_io (bar_at f.probe n))) (bars_in f) || b) (rom_is filling of)
      ∙ sym parts
