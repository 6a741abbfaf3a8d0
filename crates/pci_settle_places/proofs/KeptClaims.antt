-- What a function has in a space by its record alone is what the definitions say: what is left, and what is its own.
use Rattle.std.proofs.Common.{◌≡◌, ℕ, List, [], ◌∷◌, map, Bool, true, false, cond, ◌&&◌, ◌||◌, not, refl, sym, ◌∙◌, ap, Option, None, Some}
use Rattle.std.specs.Bool.{if◌then◌else◌}
use Rattle.std.specs.Option.{option_map}
use Rattle.std.specs.List.{Contains, filter, list_any, range_with_len}
use Rattle.std.proofs.lemmas.List.Folds.{list_any-append}
use Rattle.pci_spec.specs.Header.{layout, bar_count}
use Rattle.pci_spec.specs.Bar.{bar_at, has_bar, is_io}
use Rattle.pci_spec.specs.Rom.{has_rom, rom_is_on}
use Rattle.pci_spec.specs.Window.{IoWindow, MemoryWindow, PrefetchWindow}
use Rattle.pci_spec.specs.Decoded.{DecodedRom, decoded_bar, decoded_rom}
use Rattle.pci_spec.specs.Decoded as decoded
use Rattle.pci_spec.specs.System.{System, Function, Space, Io, Memory, Part, Bar, Rom, Window, is_window, is_implemented, is_space_on, space_of}
use Rattle.pci_spec.proofs.Members.{in_head, in_tail}
use Rattle.plan_spec.specs.Plan.{is_open}
use Rattle.settle_spec.specs.Lists.{Request}
use Rattle.settle_spec.specs.Parts.{FunctionPart, is_part, is_left, is_empty, header_bars, header_parts, are_same_space, has_left}
use Rattle.pci_base.specs.Space.{is_on}
use Rattle.pci_image.specs.declared.bar.Bar.{Bar as CodeBar}
use Rattle.pci_image.specs.declared.rom.Rom.{Rom as CodeRom}
use Rattle.pci_image.specs.Bars.{decoded_bar_of}
use Rattle.pci_image.specs.Roms.{decoded_rom_of}
use Rattle.pci_function.specs.declared.record.Record.{Record}
use Rattle.pci_place.specs.declared.above.Above.{Above}
use Rattle.pci_place.specs.Above.{IsAbove}
use Rattle.pci_place.specs.Classes.{is_io_kind}
use Rattle.pci_place.specs.Records.{IsRecordInSystem}
use Rattle.pci_place.proofs.ClassOf.{kind_io}
use Rattle.pci_place.proofs.Parts.{bars_in, bars_of, rom_of, rom_there}
use Rattle.pci_place.proofs.Owned.{no_rom, lacking_above}
use Rattle.pci_first_fit.specs.declared.own.Terms.{Terms}
use Rattle.pci_first_fit.specs.Slots.{demand_of}
use Rattle.pci_first_fit.specs.Own.{AreTerms, is_left_bar}
use Rattle.pci_settle_places.specs.Claims.{is_bar_in, has_left_bar, is_kept_bar, is_rom_on, has_kept, has_own_part}

-- ---- lists

module _ {X : Type 0} where
  pub any_same : (p o : X → Bool) (xs : List X) → ((x : X) → Contains xs x → p x ≡ o x) → list_any p xs ≡ list_any o xs
  any_same p o [] same = refl
  any_same p o (x ∷ xs) same =
      ap (λ b. b || list_any p xs) (same x (in_head x xs)) ∙ ap (λ b. o x || b) (any_same p o xs (λ y listed. same y (in_tail x xs y listed)))

  pub any_filter : (keep p : X → Bool) (xs : List X) → list_any p (filter keep xs) ≡ list_any (λ x. keep x && p x) xs
  any_filter keep p [] = refl
  any_filter keep p (x ∷ xs) =
      let rest = list_any (λ y. keep y && p y) xs in
      elim (keep x) as (λ b. list_any p (cond b (x ∷ filter keep xs) (filter keep xs)) ≡ ((b && p x) || rest)) [
        | true ↦ ap (λ b. p x || b) (any_filter keep p xs)
        | false ↦ any_filter keep p xs
      ]

module _ {X Y : Type 0} where
  pub any_map : (p : Y → Bool) (make : X → Y) (xs : List X) → list_any p (map make xs) ≡ list_any (λ x. p (make x)) xs
  any_map p make [] = refl
  any_map p make (x ∷ xs) = ap (λ b. p (make x) || b) (any_map p make xs)

  pub any_pair : {W : Type 0} (a : X → W) (b : Y → W) (p : X → Bool) (o : Y → Bool) → ((x : X) (y : Y) → a x ≡ b y → p x ≡ o y)
      → (xs : List X) (ys : List Y) → map a xs ≡ map b ys → list_any p xs ≡ list_any o ys
  any_pair a b p o same [] [] e = refl
  any_pair a b p o same [] (y ∷ ys) e = cc
  any_pair a b p o same (x ∷ xs) [] e = cc
  any_pair a b p o same (x ∷ xs) (y ∷ ys) e =
      let head : a x ≡ b y = cc in
      let tail : map a xs ≡ map b ys = cc in
      ap (λ c. c || list_any p xs) (same x y head) ∙ ap (λ c. o y || c) (any_pair a b p o same xs ys tail)

-- ---- tests

pub and_false : (a : Bool) → (a && false) ≡ false
and_false true = refl
and_false false = refl

not_and : (a b : Bool) → not (not a && b) ≡ (a || not b)
not_and true b = refl
not_and false b = refl

-- in the order in which the definitions have them
kept_order : (there left is : Bool) → (there && (is && not left)) ≡ ((there && not left) && (is && true))
kept_order true true true = refl
kept_order true true false = refl
kept_order true false true = refl
kept_order true false false = refl
kept_order false left is = refl

and_swap : (memory on : Bool) → (memory && on) ≡ ((on && (memory && true)) || false)
and_swap true true = refl
and_swap true false = refl
and_swap false true = refl
and_swap false false = refl

space_by : (space : Space) (bar : CodeBar) (io : Bool) → is_io_kind bar.kind ≡ io → is_bar_in space bar ≡ are_same_space space (if io then Io else Memory)
space_by Io bar true e = e
space_by Io bar false e = e
space_by Memory bar true e = ap not e
space_by Memory bar false e = ap not e

own_order : (a b c io memory on : Bool) → (memory && on) ≡ ((a && (io && false)) || ((b && (memory && false)) || ((c && (memory && false)) || ((on && (memory && true)) || false))))
own_order a b c io memory on =
    let x : (a && (io && false)) ≡ false = ap (λ y. a && y) (and_false io) ∙ and_false a in
    let y : (b && (memory && false)) ≡ false = ap (λ y. b && y) (and_false memory) ∙ and_false b in
    let z : (c && (memory && false)) ≡ false = ap (λ y. c && y) (and_false memory) ∙ and_false c in
    and_swap memory on
    ∙ sym (ap (λ k. k || ((b && (memory && false)) || ((c && (memory && false)) || ((on && (memory && true)) || false)))) x
    ∙ ap (λ k. k || ((c && (memory && false)) || ((on && (memory && true)) || false))) y ∙ ap (λ k. k || ((on && (memory && true)) || false)) z)

-- ---- of a record

module _ (s : System) (f : Function) (r : Record) (is : IsRecordInSystem s f r) where
  abbrev all : List ℕ
  all = range_with_len 0 (bar_count (layout f.image))

  -- what is asked of the BARs of a record is asked of the registers at which BARs start
  pub any_bar : (test : CodeBar → Bool) (other : ℕ → Bool) (part : Part → Bool) → ((bar : CodeBar) (n : ℕ) → decoded_bar_of bar ≡ decoded_bar f.image f.probe n → test bar ≡ other n)
      → ((n : ℕ) → Contains all n → (has_bar f.probe n && other n) ≡ part (Bar n)) → list_any test r.bars.items ≡ list_any part (header_bars f)
  any_bar test other part same each =
      any_pair decoded_bar_of (decoded_bar f.image f.probe) test other same r.bars.items (bars_in f) (bars_of s f r is)
      ∙ any_filter (has_bar f.probe) other all
      ∙ any_same (λ n. has_bar f.probe n && other n) (λ n. part (Bar n)) all each
      ∙ sym (any_map part Bar all)

  -- its Command
  pub on_is : (x : Space) → is_on r.command x ≡ is_space_on f x
  on_is Io = ap (λ (y : decoded.Record). is_on y.command Io) is.value
  on_is Memory = ap (λ (y : decoded.Record). is_on y.command Memory) is.value

-- the space of a BAR is that of the register that starts it
pub bar_space : (f : Function) (space : Space) (bar : CodeBar) (n : ℕ) → decoded_bar_of bar ≡ decoded_bar f.image f.probe n → is_bar_in space bar ≡ are_same_space space (space_of f (Bar n))
bar_space f space bar n e = space_by space bar (is_io (bar_at f.probe n)) (kind_io f bar n e)

module _ (q : Request) (s : System) (f : Function) (r : Record) (is : IsRecordInSystem s f r) (above : Above) (over : IsAbove s f.slot.bus above) (t : Terms) (terms : AreTerms (demand_of q) t) where
  -- ---- what is left

  pub left_is : (bar : CodeBar) (n : ℕ) → decoded_bar_of bar ≡ decoded_bar f.image f.probe n → is_left_bar bar above t.has_io ≡ is_left q s f (Bar n)
  left_is bar n e =
      ap (λ b. b && not (t.has_io && above.io)) (kind_io f bar n e)
      ∙ ap (λ b. is_io (bar_at f.probe n) && not (b && above.io)) terms.io
      ∙ ap (λ b. is_io (bar_at f.probe n) && b) (not_and (is_empty q.lists.io) above.io)
      ∙ ap (λ b. is_io (bar_at f.probe n) && (is_empty q.lists.io || b)) (lacking_above s f r is above over)

  pub left_are : has_left_bar r above t ≡ has_left q s f
  left_are =
      any_bar s f r is (λ bar. is_left_bar bar above t.has_io) (λ n. is_left q s f (Bar n)) (λ part. is_implemented f part && is_left q s f part) left_is (λ n listed. refl)

  -- ---- what is its own

  module _ (space : Space) where
    abbrev is_of : Part → Bool
    is_of part = are_same_space space (space_of f part)

    abbrev others : List Part
    others = Window IoWindow ∷ Window MemoryWindow ∷ Window PrefetchWindow ∷ Rom ∷ []

    kept_same : (bar : CodeBar) (n : ℕ) → decoded_bar_of bar ≡ decoded_bar f.image f.probe n → is_kept_bar space above t bar ≡ (is_of (Bar n) && not (is_left q s f (Bar n)))
    kept_same bar n e =
        ap (λ b. b && not (is_left_bar bar above t.has_io)) (bar_space f space bar n e) ∙ ap (λ b. is_of (Bar n) && not b) (left_is bar n e)

    abbrev own : Part → Bool
    own part = is_part q s f part && (is_of part && not (is_window part))

    pub rom_on_is : (o : Option CodeRom) → option_map decoded_rom_of o ≡ decoded_rom f.image f.probe → is_rom_on o ≡ (has_rom f.image f.probe && rom_is_on f.image)
    rom_on_is None e = sym (ap (λ b. b && rom_is_on f.image) (no_rom (has_rom f.image f.probe) _ e))
    rom_on_is (Some rom) e =
        let there = rom_there (has_rom f.image f.probe) (decoded_rom_of rom) _ e in
        ap (λ (x : DecodedRom). x.on) there.1 ∙ sym (ap (λ b. b && rom_is_on f.image) there.0)

    own_others : (are_same_space space Memory && is_rom_on r.rom) ≡ list_any own others
    own_others =
        let io = is_open f IoWindow in
        let memory = is_open f MemoryWindow in
        let prefetch = is_open f PrefetchWindow in
        ap (λ b. are_same_space space Memory && b) (rom_on_is r.rom (rom_of s f r is))
        ∙ own_order io memory prefetch (are_same_space space Io) (are_same_space space Memory) (has_rom f.image f.probe && rom_is_on f.image)

    pub kept_are : has_kept space above t r ≡ has_own_part q s space f
    kept_are =
        ap (λ b. b || (are_same_space space Memory && is_rom_on r.rom))
        (any_bar s f r is (is_kept_bar space above t) (λ n. is_of (Bar n) && not (is_left q s f (Bar n))) own kept_same (λ n listed. kept_order (has_bar f.probe n) (is_left q s f (Bar n)) (is_of (Bar n))))
        ∙ ap (λ b. list_any own (header_bars f) || b) own_others
        ∙ sym (list_any-append own (header_bars f) others)
        ∙ sym (any_map (λ (x : FunctionPart). are_same_space space (space_of x.function x.part) && not (is_window x.part)) (λ p. record { function = f; part = p }) (filter (is_part q s f) (header_parts f))
        ∙ any_filter (is_part q s f) (λ part. is_of part && not (is_window part)) (header_parts f))
