-- A bridge gets a bus.
use Rattle.std.proofs.Common.{◌≡◌, ℕ, ◌+◌, ◌≤◌, Bool, true, false, arith, refl, ◌∙◌, List}
use Rattle.pci_spec.specs.Slot.{Slot}
use Rattle.pci_number.specs.Board.{Nodes, Node, Board, is_type_1}
use Rattle.pci_number.specs.Walk.{is_walkable}
use Rattle.pci_number.specs.Numbered.{without_numbers}
use Rattle.pci_number.specs.Room.{shows}
use Rattle.pci_number.proofs.Kept.{same_walk}
use Rattle.pci_number.proofs.Roomy.{shown}
use Rattle.pci_number.specs.Seen.{View, code, IsSeen, IsClosed, IsKeptBut}
use Rattle.pci_number.specs.Steps.{IsNumberPut, IsTouched, IsAlike, IsShownAt, IsLeftAt, IsHushed, IsHushLeft, OfOpening, IsBusOpened, IsOpenLeft}
use Rattle.pci_number.proofs.Bytes.{other_byte, alike_subordinate, alike_then, shows_from}
use Rattle.pci_number.proofs.Views.{inside, seen_inside}
use Rattle.pci_spec.specs.Number.{byte_at}

-- another subordinate number
pub shows_another : (image new : List ℕ) (p s u n : ℕ) → shows image p s u ≡ true → IsKeptBut 0x1a image new → byte_at new 0x1a ≡ n → shows new p s n ≡ true
shows_another image new p s u n numbers kept is =
    let show = shown image p s u numbers in
    shows_from new p s n (other_byte 0x1a image new kept 0x18 (λ e. cc e) ∙ show.primary) (other_byte 0x1a image new kept 0x19 (λ e. cc e) ∙ show.secondary) is

pub open_left_first : (before after : Board) (slot : Slot) (bus last : ℕ) → IsLeftAt before slot after → IsOpenLeft before slot bus last after
open_left_first before after slot bus last left = λ v high image behind others is seen alone bridge closed walkable over within.
    let s = left v high last image behind others is seen alone in
    (s.0, behind, s.1, s.2, refl)

pub open_hushed : (v : View) (high last : ℕ) (slot : Slot) (bus : ℕ) (new : List ℕ) (others : Nodes) → IsSeen v slot.bus (code slot) high last → is_type_1 new ≡ true → shows new slot.bus bus bus ≡ true → high + 1 ≤ bus → bus ≤ last → IsClosed others → IsSeen (inside v slot.device slot.function new others) bus 0 bus bus
open_hushed v high last slot bus new others seen bridge numbers over within closed =
    seen_inside v slot.bus (code slot) high last slot.bus bus bus slot.device slot.function new others seen bridge numbers (omega (arith, over)) within within closed

pub open_left_second : (before first after : Board) (slot : Slot) (bus last : ℕ) → IsShownAt before slot slot.bus bus bus first → IsHushLeft first bus after → IsOpenLeft before slot bus last after
open_left_second before first after slot bus last show left = λ v high image behind others is seen alone bridge closed walkable over within.
    let s = show v high last image behind others is seen alone in
    let h = left (inside v slot.device slot.function s.0 others) bus bus behind s.1 (open_hushed v high last slot bus s.0 others seen (s.2.kind ∙ bridge) s.3 over within closed) walkable in
    (s.0, h.0, h.1, s.2, h.2)

pub open_left_third : (before first second after : Board) (slot : Slot) (bus last : ℕ) (bridges : Bool) → IsShownAt before slot slot.bus bus bus first → IsHushed first bus bridges second → IsTouched second slot 0x1a after → IsOpenLeft before slot bus last after
open_left_third before first second after slot bus last bridges show hush touched = λ v high image behind others is seen alone bridge closed walkable over within.
    let s = show v high last image behind others is seen alone in
    let h = hush (inside v slot.device slot.function s.0 others) bus bus behind s.1 (open_hushed v high last slot bus s.0 others seen (s.2.kind ∙ bridge) s.3 over within closed) walkable in
    let p = touched v high last s.0 h.0 others h.1 seen alone in
    (p.0, h.0, p.1, alike_then image s.0 p.0 s.2 (alike_subordinate s.0 p.0 p.2), h.2)

pub opened_alone : (before first second : Board) (slot : Slot) (bus last : ℕ) → IsShownAt before slot slot.bus bus bus first → IsHushed first bus false second → IsBusOpened before slot bus last false second
opened_alone before first second slot bus last show hush = λ v high image behind others is seen alone bridge closed walkable over within.
    let s = show v high last image behind others is seen alone in
    let h = hush (inside v slot.device slot.function s.0 others) bus bus behind s.1 (open_hushed v high last slot bus s.0 others seen (s.2.kind ∙ bridge) s.3 over within closed) walkable in
    (s.0, h.0, h.1, s.2, h.2, s.3, h.3, h.4)

pub opened_wide : (before first second after : Board) (slot : Slot) (bus last : ℕ) → IsShownAt before slot slot.bus bus bus first → IsHushed first bus true second → IsNumberPut second slot 0x1a last after → IsBusOpened before slot bus last true after
opened_wide before first second after slot bus last show hush put = λ v high image behind others is seen alone bridge closed walkable over within.
    let s = show v high last image behind others is seen alone in
    let h = hush (inside v slot.device slot.function s.0 others) bus bus behind s.1 (open_hushed v high last slot bus s.0 others seen (s.2.kind ∙ bridge) s.3 over within closed) walkable in
    let p = put v high last s.0 h.0 others h.1 seen alone in
    (p.0, h.0, p.1, alike_then image s.0 p.0 s.2 (alike_subordinate s.0 p.0 p.2), h.2, shows_another s.0 p.0 slot.bus bus bus last s.3 p.2 p.3, h.3, h.4)

-- the bus behind a bridge that was opened for bridges there
pub record Inside (slot : Slot) (bus : ℕ) (last : ℕ) (v : View) (image : List ℕ) (behind : Nodes) (others : Nodes) (now : Board) : Type 0 where
  pub new : List ℕ
  pub nodes : Nodes
  pub is : now ≡ v.fill (Node slot.device slot.function new nodes others)
  pub alike : IsAlike image new
  pub same : without_numbers nodes ≡ without_numbers behind
  pub numbers : shows new slot.bus bus last ≡ true
  pub seen : IsSeen (inside v slot.device slot.function new others) bus 0 bus last
  pub walkable : is_walkable nodes ≡ true
  pub closed : IsClosed nodes

pub opened_inside : (before now : Board) (slot : Slot) (bus last : ℕ) → IsBusOpened before slot bus last true now → OfOpening before slot bus last (λ v image behind others. Inside slot bus last v image behind others now)
opened_inside before now slot bus last opened = λ v high image behind others is seen alone bridge closed walkable over within.
    let o = opened v high image behind others is seen alone bridge closed walkable over within in
    record {
      new = o.0;
      nodes = o.1;
      is = o.2;
      alike = o.3;
      same = o.4;
      numbers = o.5;
      seen = seen_inside v slot.bus (code slot) high last slot.bus bus last slot.device slot.function o.0 others seen (o.3.kind ∙ bridge) o.5 (omega (arith, over)) within (omega arith) closed;
      walkable = same_walk o.1 behind o.4 ∙ walkable;
      closed = o.6;
    }
